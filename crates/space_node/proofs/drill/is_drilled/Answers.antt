use Rattle.std.proofs.Common.{rules, ◌≡◌, true, false}
use Rattle.quorum.specs.Quorum.{member}
use Rattle.protocol.specs.System.Configuration.{is_faulty_replica}
use Rattle.space_node.specs.Drills.{replicas_of}
use Rattle.space_node.proofs.Drilled.{not_drilled}
use Rattle.space_node.proofs.drill.is_drilled.Goals as goal

pub returns-then-not-is_named : goal.returns-then-not-is_named
returns-then-not-is_named c =
    let n = c.loop-number.number in
    let faulty : is_faulty_replica c.args.config.now n ≡ true = search rules in
    let none : member (replicas_of c.args.drills.now) n ≡ false = search rules in
    (λ t. absurd cc, λ all. absurd (not_drilled c.args.config.now (replicas_of c.args.drills.now) n faulty none all))
