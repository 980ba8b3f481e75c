use Rattle.authenticator.specs.Keys.{derived_key}
use Rattle.authenticator.proofs.row.Seed.derive_four.Goals as goal

pub returns : goal.returns
unfolding derived_key
returns c =
    let seed = c.self.inside.seed in
    let made = c.mac_each.ensures seed c.self.invariant in
    rw (← c.self.view_is, ← c.key_text-a.ensures, ← c.key_text-b.ensures, ← c.key_text-c.ensures, ← c.key_text-d.ensures) made
