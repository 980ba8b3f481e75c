use Rattle.std.proofs.Common.{rules, ◌≤◌, ◌∙◌, arith, sym}
use Rattle.std.proofs.lemmas.Bool.{le-ltb}
use Rattle.protocol.specs.System.Configuration.{replicas}
use Rattle.space_node.proofs.Drilled.{none_faulty}
use Rattle.space_node.proofs.drill.is_faulty.Goals as goal

pub returns-else-number-from : goal.returns-else-number-from
returns-else-number-from c =
    let high : c.from.result ≤ c.args.number = omega arith in
    let above : replicas c.args.config.now ≤ c.args.number = search rules in
    le-ltb c.args.number c.from.result high ∙ sym (none_faulty c.args.config.now c.args.number c.requires.valid above)
