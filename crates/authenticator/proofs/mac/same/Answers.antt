use Rattle.std.proofs.Common.{◌∙◌, sym, get_or, below_more, arith, ext_get_or}
use Rattle.std.specs.Int.Bits.{xor_self}
use Rattle.std.proofs.lemmas.Bool.{eqb-true, eq-eqb}
use Rattle.authenticator.proofs.Differences.{or-zero_left, or-zero_right, xor-zero}
use Rattle.authenticator.proofs.mac.same.Goals as goal

pub loop-i-preserved : goal.loop-i-preserved
loop-i-preserved c = (
  λ none. below_more _ _ (c.loop-i.invariant.0 (or-zero_left _ _ none)) (xor-zero _ _ (or-zero_right c.loop-i.difference _ none)),
  λ equal. rw (equal, c.loop-i.invariant.1 equal) (xor_self (get_or c.args.b.now c.loop-i.i 0)),
)

pub returns : goal.returns
returns c = (
  λ none. ext_get_or 0 c.args.a.now c.args.b.now (c.told-a ∙ sym c.told-b) (λ k within. c.loop-i.invariant.0 (eqb-true _ _ none) k (omega arith)),
  λ equal. eq-eqb _ _ (c.loop-i.invariant.1 equal),
)
