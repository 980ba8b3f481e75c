use Rattle.std.proofs.Common.{◌∙◌}
use Rattle.events.proofs.Listed.{any_member}
use Rattle.events.proofs.config.has.Goals as goal

pub returns : goal.returns
returns c = c.is_any.ensures ∙ any_member c.args.list.now c.args.number
