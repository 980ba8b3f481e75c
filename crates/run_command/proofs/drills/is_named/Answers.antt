use Rattle.std.proofs.Common.{◌∙◌}
use Rattle.space_node.proofs.Drilled.{any_member}
use Rattle.run_command.proofs.drills.is_named.Goals as goal

pub returns : goal.returns
returns c = c.is_any.ensures ∙ any_member c.args.drills.now c.args.number
