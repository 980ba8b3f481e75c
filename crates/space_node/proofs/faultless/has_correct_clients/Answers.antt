use Rattle.std.proofs.Common.{rules, ◌≤◌, ◌+◌, arith}
use Rattle.space_node.proofs.NewParties.{no_faulty_client}
use Rattle.space_node.proofs.faultless.has_correct_clients.Goals as goal

pub returns : goal.returns
returns c =
    let done : 256 + c.args.config.now.clients ≤ c.loop-number.number = search rules in
    (λ _. no_faulty_client c.args.config.now c.requires.valid (λ k low. c.loop-number.invariant k (omega (arith, done, low))), λ _. search rules)
