use Rattle.std.proofs.Common.{◌≡◌, ℕ, Some, arith, get_or, refl, sym, subst}
use Rattle.std.specs.Prelude.{slice_get}
use Rattle.std.proofs.lemmas.Option.{get_or_from_slice_get, slice_get_within}
use Rattle.authenticator.specs.Kept.{IsKeyBetween}
use Rattle.authenticator.specs.Keys.{key_between, mac_between}
use Rattle.authenticator.specs.Made.{IsMadeOf}
use Rattle.authenticator.specs.RingView.{keys_of}
use Rattle.authenticator.specs.declared.mac.Key.{Key}
use Rattle.authenticator.proofs.Fours.{of_four, of_lanes}
use Rattle.authenticator.proofs.Keeping.{is-made}
use Rattle.authenticator.proofs.ring.Ring.kept_macs.Goals as goal

pub returns : goal.returns
returns c =
    let keys = keys_of c.self.inside.source in
    let from = c.args.from in
    let text = c.args.text.now in
    let made = λ (i : ℕ) (party : ℕ) (key : Key) (at : slice_get c.args.to i ≡ Some party) (kept : IsKeyBetween keys from (get_or c.args.to i 0) key).
    subst (λ (p : ℕ). IsMadeOf key (key_between keys from p)) (get_or_from_slice_get c.args.to i party 0 at) (is-made keys from (get_or c.args.to i 0) key kept) in
    rw (← c.self.view_is) (of_lanes (λ party. mac_between keys from party text) c.args.to c.mac_four.result (omega arith) (λ lane party here.
    of_four (λ lane. slice_get c.args.to lane ≡ Some party → slice_get c.mac_four.result lane ≡ Some (mac_between keys from party text))
    (λ at. c.mac_four.ensures 0 _ _ refl (made 0 party c.in_ok-a.a.now at (c.self.invariant.0 _ _ _ (sym c.in_ok-a.ensures.value))))
    (λ at. c.mac_four.ensures 1 _ _ refl (made 1 party c.in_ok-b.b.now at (c.self.invariant.0 _ _ _ (sym c.in_ok-b.ensures.value))))
    (λ at. c.mac_four.ensures 2 _ _ refl (made 2 party c.in_ok-c.c.now at (c.self.invariant.0 _ _ _ (sym c.in_ok-c.ensures.value))))
    (λ at. c.mac_four.ensures 3 _ _ refl (made 3 party c.in_ok-d.d.now at (c.self.invariant.0 _ _ _ (sym c.in_ok-d.ensures.value))))
    lane (omega (arith, slice_get_within c.args.to lane party here)) here))
