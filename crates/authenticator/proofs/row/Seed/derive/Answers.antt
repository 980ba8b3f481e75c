use Rattle.std.proofs.Common.{◌∙◌, ap}
use Rattle.authenticator.specs.Keys.{derived_key}
use Rattle.authenticator.specs.Mac.{hmac_of}
use Rattle.authenticator.proofs.row.Seed.derive.Goals as goal

pub returns : goal.returns
unfolding derived_key
returns c =
    let seed = c.self.inside.seed in
    rw (← c.self.view_is) (c.mac.ensures seed c.self.invariant ∙ ap (hmac_of seed) c.key_text.ensures)
