use Rattle.std.proofs.Common.{◌≡◌, ℕ, Some, arith, refl, subst, sym}
use Rattle.std.specs.Prelude.{slice_get}
use Rattle.std.specs.Borrow.{Bor}
use Rattle.std.proofs.lemmas.Grind.{common_steps}
use Rattle.std.proofs.lemmas.Option.{get_or_from_slice_get, slice_get_within}
use Rattle.authenticator.specs.Mac.{hmac_of}
use Rattle.authenticator.specs.Made.{IsMadeOf}
use Rattle.authenticator.specs.declared.mac.Key.{Key}
use Rattle.authenticator.proofs.Fours.{are_short, hash_over, of_four}
use Rattle.authenticator.proofs.mac.mac_four.Goals as goal

pub finish_each-requires : goal.finish_each-requires
finish_each-requires c =
    are_short 32 _ _ _ _ (omega arith) (grind (arith, common_steps)) (grind (arith, common_steps)) (grind (arith, common_steps)) (grind (arith, common_steps))

pub returns : goal.returns
returns c = λ lane key bytes here made.
    let made_at = λ (i : ℕ) (d : Bor Key) (at : slice_get c.args.keys i ≡ Some key).
    subst (λ (k : Bor Key). IsMadeOf k.now bytes) (sym (get_or_from_slice_get c.args.keys i key d at)) made in
    of_four (λ lane. slice_get c.args.keys lane ≡ Some key → slice_get c.finish_each.result lane ≡ Some (hmac_of bytes c.args.text.now))
    (λ at. hash_over bytes c.args.text.now 0 _ _ (c.finish_four.ensures 0 _ _ refl (made_at 0 _ at).inner) (c.finish_each.ensures 0 _ _ _ refl refl (made_at 0 _ at).outer))
    (λ at. hash_over bytes c.args.text.now 1 _ _ (c.finish_four.ensures 1 _ _ refl (made_at 1 _ at).inner) (c.finish_each.ensures 1 _ _ _ refl refl (made_at 1 _ at).outer))
    (λ at. hash_over bytes c.args.text.now 2 _ _ (c.finish_four.ensures 2 _ _ refl (made_at 2 _ at).inner) (c.finish_each.ensures 2 _ _ _ refl refl (made_at 2 _ at).outer))
    (λ at. hash_over bytes c.args.text.now 3 _ _ (c.finish_four.ensures 3 _ _ refl (made_at 3 _ at).inner) (c.finish_each.ensures 3 _ _ _ refl refl (made_at 3 _ at).outer))
    lane (omega (arith, slice_get_within c.args.keys lane key here)) here
