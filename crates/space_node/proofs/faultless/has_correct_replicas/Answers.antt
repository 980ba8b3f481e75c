use Rattle.std.proofs.Common.{rules, ◌≤◌, arith}
use Rattle.protocol.specs.System.Configuration.{replicas}
use Rattle.space_node.proofs.NewParties.{no_faulty_replica}
use Rattle.space_node.proofs.faultless.has_correct_replicas.Goals as goal

pub returns : goal.returns
returns c =
    let done : replicas c.args.config.now ≤ c.loop-number.number = search rules in
    (λ _. no_faulty_replica c.args.config.now c.requires.valid (λ k low. c.loop-number.invariant k (omega (arith, done, low))), λ _. search rules)
