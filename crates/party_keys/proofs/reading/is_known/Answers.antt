use Rattle.std.proofs.Common.{sym, ◌∙◌}
use Rattle.party_keys.proofs.KnownKeys.{known_as}
use Rattle.party_keys.proofs.reading.is_known.Goals as goal

pub returns : goal.returns
returns c = c.is_among.ensures ∙ sym (known_as c.args.key.now)
