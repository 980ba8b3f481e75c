-- A prepared batch is selected over a view change.
use Rattle.std.proofs.Common.{◌≡◌, ◌≢◌, ℕ, Bool, true, false, List, [], ◌∷◌, refl, sym, bytes_eq, ◌||◌, ◌&&◌}
use Rattle.std.proofs.lemmas.Slice.Eq.{bytes_eq-Decides}
use Rattle.std.proofs.lemmas.Bool.{false_from_ne_true}
use Rattle.sha2.specs.Sha256.{sha256}
use Rattle.protocol.specs.Replica.Selection.{may_select, is_null}
use Rattle.evidence.specs.Examples.{PreparedIsSelected, EmptyIsNotSelected, NullIsNotSelected, LieIsNotSelected, TruthWaits, TruthIsSelected}

same : (xs : List ℕ) → bytes_eq xs xs ≡ true
same xs = (bytes_eq-Decides xs xs).1 refl

other : (xs ys : List ℕ) → xs ≢ ys → bytes_eq xs ys ≡ false
other xs ys n = false_from_ne_true (bytes_eq xs ys) (λ e. n ((bytes_eq-Decides xs ys).0 e))

pub prepared_is_selected : PreparedIsSelected
unfolding may_select
prepared_is_selected clients seed batch root a b d ha hb hd = rw (ha, hb, hd) (rw (same root, same (sha256 batch)) refl)

pub empty_is_not_selected : EmptyIsNotSelected
unfolding may_select
empty_is_not_selected clients seed batch root a b d ha hb hd = rw (ha, hb, hd) (rw (same root) refl)

pub null_is_not_selected : NullIsNotSelected
unfolding may_select
null_is_not_selected clients seed batch root a b d n ha hb hd = rw (ha, hb, hd) (rw (same root, other (sha256 batch) (sha256 (0 ∷ [])) n) refl)

pub lie_is_not_selected : LieIsNotSelected
unfolding may_select
lie_is_not_selected clients seed batch lie root a b d n ha hb hd = rw (ha, hb, hd) (rw (same root, same (sha256 lie), other (sha256 batch) (sha256 lie) n) (go (is_null lie)))
  where
    go : (x : Bool) → (false || (x && false)) && true ≡ false
    go true = refl
    go false = refl

pub truth_waits : TruthWaits
unfolding may_select
truth_waits clients seed batch lie root a b d n ha hb hd =
    rw (ha, hb, hd) (rw (same root, same (sha256 batch), other (sha256 lie) (sha256 batch) (λ e. n (sym e))) (go (is_null batch)))
  where
    go : (x : Bool) → (false || (x && false)) && true ≡ false
    go true = refl
    go false = refl

pub truth_is_selected : TruthIsSelected
unfolding may_select
truth_is_selected clients seed batch lie root a b d e n he ha hb hd =
    rw (he, ha, hb, hd) (rw (same root, same (sha256 batch), other (sha256 lie) (sha256 batch) (λ x. n (sym x))) refl)
