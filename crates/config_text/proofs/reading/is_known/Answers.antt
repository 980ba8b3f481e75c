use Rattle.std.proofs.Common.{sym, ◌∙◌}
use Rattle.config_text.proofs.Keys.{known_as}
use Rattle.config_text.proofs.reading.is_known.Goals as goal

pub returns : goal.returns
returns c = c.is_among.ensures ∙ sym (known_as c.args.key.now)
