-- A history before its first entry, and one in which no request is left without a number.
use Rattle.std.proofs.Common.{◌≡◌, ℕ, ◌+◌, ◌^◌, ◌≤◌, ◌<◌, inl, inr, Bool, true, false, ◌&&◌, List, [], length, nat_lt, nat_le, refl, sym, ap, ◌∙◌, subst, arith, is_some}
use Rattle.std.proofs.lemmas.Bool.{and_parts, and_from, lt-ltb, ltb-true, ltb-false, le-leb, leb-true}
use Rattle.std.proofs.lemmas.List.{length-drop}
use Rattle.wire_format.specs.Lists.{Each}
use Rattle.protocol.specs.System.Configuration.{Configuration, span}
use Rattle.protocol.specs.System.Trace.{Entry}
use Rattle.protocol.specs.Replica.Certificates.{low, is_in_marks, logged}
use Rattle.protocol.specs.Replica.State.{State}
use Rattle.protocol.specs.Replica.RightReplica.{IsFree}
use Rattle.protocol.specs.Replica.Owed.{IsNumbered}
use Rattle.protocol.proofs.Words.Elements.{each_has, each_mapped}
use Rattle.replica_histories.specs.Numbers.{unnumbered, CallHasNumber, CallHasNoNumber, FirstNumbersFit, next_number, IsNextFree, NextIsFree, NumbersAreAssigned, NumbersLeaveFewer}
use Rattle.replica_histories.proofs.NumbersFlags.{left_unnumbered, all_numbered}

-- ---- before the first entry

nothing_numbered : (c : Configuration) (me v client timestamp : ℕ) → IsNumbered c me [] v client timestamp → ⊥
unfolding logged
nothing_numbered c me v client timestamp (batch, inl (i, there), has) = cc
nothing_numbered c me v client timestamp (batch, inr assigned, has) = assigned

pub first_numbers_fit : FirstNumbersFit
unfolding logged
first_numbers_fit c me v st = record {
  calls = refl;
  free = λ j above. refl;
  full = λ j above below. absurd (omega (arith, above, below));
  rightly = tt;
  numbered = tt;
  known = λ client timestamp h. absurd (nothing_numbered c me v client timestamp h);
  differ = λ i j d below within. absurd (omega (arith, within));
}

-- ---- the next number

-- a smaller number above the low mark is in the marks too
pub lower_in_marks : (c : Configuration) (h i j : ℕ) → is_in_marks c h j ≡ true → h < i → i ≤ j → is_in_marks c h i ≡ true
lower_in_marks c h i j e above below =
    let p = and_parts (nat_lt h j && nat_le j (h + span c)) (nat_lt j (2 ^ 48)) e in
    let q = and_parts (nat_lt h j) (nat_le j (h + span c)) p.0 in
    let high = leb-true j (h + span c) q.1 in
    let number = ltb-true j (2 ^ 48) p.1 in
    and_from (nat_lt h i && nat_le i (h + span c)) (nat_lt i (2 ^ 48))
    (and_from (nat_lt h i) (nat_le i (h + span c)) (lt-ltb h i above) (le-leb i (h + span c) (omega (arith, below, high))))
    (lt-ltb i (2 ^ 48) (omega (arith, below, number)))

above_low : (c : Configuration) (h j : ℕ) → is_in_marks c h j ≡ true → h < j
above_low c h j e =
    let p = and_parts (nat_lt h j && nat_le j (h + span c)) (nat_lt j (2 ^ 48)) e in
    ltb-true h j (and_parts (nat_lt h j) (nat_le j (h + span c)) p.0).0

-- if a number is free, all used ones are below it
used_below : (c : Configuration) (me v used : ℕ) (st : State) (history : List Entry) (i : ℕ) → ((j : ℕ) → low c me history < j → j ≤ used → is_some (logged c me history v j) ≡ true) → IsFree c me history st.number v i → used < i
used_below c me v used st history i full free = go (nat_lt used i) refl
  where
    go : (b : Bool) → nat_lt used i ≡ b → used < i
    go true e = ltb-true used i e
    go false e =
        let none = free.unused i (omega arith) in
        let some = full i (above_low c (low c me history) i free.in_marks) (ltb-false used i e) in
        absurd (let bad : false ≡ true = ap is_some (sym none) ∙ some in cc)

next_free : (c : Configuration) (me v used : ℕ) (st : State) (history : List Entry) (i : ℕ) → used < i → IsFree c me history st.number v i → IsNextFree c me history used st.number
next_free c me v used st history i below free =
    let above = above_low c (low c me history) i free.in_marks in
    let most = free.near in
    let next : next_number c me history used ≤ i = omega (arith, above, below) in
    (lower_in_marks c (low c me history) (next_number c me history used) i free.in_marks (omega arith) next, omega (arith, next, most))

pub next_is_free : NextIsFree
next_is_free c me v used assigned entries st waiting history f next = record {
  in_marks = next.0;
  near = next.1;
  used = λ j above below. f.full j above (omega (arith, above, below));
  unused = λ j above. f.free j (omega (arith, above));
}

-- ---- all waiting requests have a number

pub numbers_are_assigned : NumbersAreAssigned
numbers_are_assigned c me v used assigned entries st waiting history f all i call has free =
    let none = all (next_free c me v used st history i (used_below c me v used st history i f.full free) free) in
    let each = each_mapped (CallHasNumber c me v history) (λ w. w.call) entries (all_numbered (CallHasNumber c me v history) (CallHasNoNumber c me v history) entries none f.rightly) in
    each_has (CallHasNumber c me v history) waiting call (subst (Each (CallHasNumber c me v history)) f.calls each) has

-- ---- turns

pub numbers_leave_fewer : NumbersLeaveFewer
numbers_leave_fewer most entries some there =
    let same = ap length (left_unnumbered most entries) in
    let left = length-drop most (unnumbered entries) in
    omega (arith, some, there, same, left)
