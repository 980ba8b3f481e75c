-- Laws of the test of two modes.
use Rattle.std.proofs.Common.{◌≡◌, true, refl}
use Rattle.terms.specs.declared.order.Mode.{Mode}
use Rattle.terms.specs.declared.order.Mode.TheVariants as modes
use Rattle.protocol.specs.System.Frames.{same_mode}

pub same_mode-true : (mode other : Mode) → same_mode mode other ≡ true → mode ≡ other
same_mode-true modes.Ordered modes.Ordered h = refl
same_mode-true modes.ReadOnly modes.ReadOnly h = refl
same_mode-true modes.Ordered modes.ReadOnly h = absurd cc
same_mode-true modes.ReadOnly modes.Ordered h = absurd cc
