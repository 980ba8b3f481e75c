-- An entry put in its place.
use Rattle.std.specs.Prelude.{nat_le, nat_lt, filter}
use Rattle.std.proofs.Common.{◌≡◌, ℕ, zero, suc, ◌<◌, ◌≤◌, Bool, true, false, cond, List, [], ◌∷◌, length, get_or, set, refl, ap, arith}
use Rattle.std.specs.List.{insert}
use Rattle.wire_format.specs.Messages.{BatchEntryData}
use Rattle.pq_sets.specs.declared.pq_entry.PqEntry.{PqEntry}
use Rattle.pq_sets.specs.declared.pq_entry.PqOrder.{PqOrder}
use Rattle.pq_sets.specs.PqSetsView.{pq_entry_data, pq_entries_of}
use Rattle.pq_sets.specs.Places.{before_by, same_by, with_pq_entry_by, place_in, same_at}
use Rattle.pq_sets.specs.Recording.{above_mark}

pub inserted : (order : PqOrder) (k : PqEntry) (xs : List PqEntry) → same_at order (pq_entry_data k) (place_in order (pq_entry_data k) (pq_entries_of xs)) (pq_entries_of xs) ≡ false
    → pq_entries_of (insert xs (place_in order (pq_entry_data k) (pq_entries_of xs)) k) ≡ with_pq_entry_by order (pq_entry_data k) (pq_entries_of xs)
inserted order k [] h = refl
inserted order k (x ∷ xs) h = go (same_by order (pq_entry_data x) (pq_entry_data k)) refl (before_by order (pq_entry_data k) (pq_entry_data x)) refl (inserted order k xs)
  where
    go : (b : Bool) → same_by order (pq_entry_data x) (pq_entry_data k) ≡ b → (d : Bool) → before_by order (pq_entry_data k) (pq_entry_data x) ≡ d
        → (same_at order (pq_entry_data k) (place_in order (pq_entry_data k) (pq_entries_of xs)) (pq_entries_of xs) ≡ false
        → pq_entries_of (insert xs (place_in order (pq_entry_data k) (pq_entries_of xs)) k) ≡ with_pq_entry_by order (pq_entry_data k) (pq_entries_of xs))
        → pq_entries_of (insert (x ∷ xs) (place_in order (pq_entry_data k) (pq_entries_of (x ∷ xs))) k) ≡ with_pq_entry_by order (pq_entry_data k) (pq_entries_of (x ∷ xs))
    go true e d f behind = absurd (let s : same_by order (pq_entry_data x) (pq_entry_data k) ≡ false = rw e at h in cc)
    go false e true f behind = rw (e, f) refl
    go false e false f behind =
        let t : same_at order (pq_entry_data k) (place_in order (pq_entry_data k) (pq_entries_of xs)) (pq_entries_of xs) ≡ false = rw (e, f) at h in
        rw (e, f) (ap (λ (ys : List BatchEntryData). pq_entry_data x ∷ ys) (behind t))

pub replaced : (order : PqOrder) (k z : PqEntry) (xs : List PqEntry) → same_at order (pq_entry_data k) (place_in order (pq_entry_data k) (pq_entries_of xs)) (pq_entries_of xs) ≡ true
    → nat_le (pq_entry_data (get_or xs (place_in order (pq_entry_data k) (pq_entries_of xs)) z)).view (pq_entry_data k).view ≡ true
    → pq_entries_of (set xs (place_in order (pq_entry_data k) (pq_entries_of xs)) k) ≡ with_pq_entry_by order (pq_entry_data k) (pq_entries_of xs)
replaced order k z [] h l = absurd cc
replaced order k z (x ∷ xs) h l = go (same_by order (pq_entry_data x) (pq_entry_data k)) refl (before_by order (pq_entry_data k) (pq_entry_data x)) refl (replaced order k z xs)
  where
    go : (b : Bool) → same_by order (pq_entry_data x) (pq_entry_data k) ≡ b → (d : Bool) → before_by order (pq_entry_data k) (pq_entry_data x) ≡ d
        → (same_at order (pq_entry_data k) (place_in order (pq_entry_data k) (pq_entries_of xs)) (pq_entries_of xs) ≡ true
        → nat_le (pq_entry_data (get_or xs (place_in order (pq_entry_data k) (pq_entries_of xs)) z)).view (pq_entry_data k).view ≡ true
        → pq_entries_of (set xs (place_in order (pq_entry_data k) (pq_entries_of xs)) k) ≡ with_pq_entry_by order (pq_entry_data k) (pq_entries_of xs))
        → pq_entries_of (set (x ∷ xs) (place_in order (pq_entry_data k) (pq_entries_of (x ∷ xs))) k) ≡ with_pq_entry_by order (pq_entry_data k) (pq_entries_of (x ∷ xs))
    go true e d f behind =
        let m : nat_le (pq_entry_data x).view (pq_entry_data k).view ≡ true = rw e at l in
        rw (e, m) refl
    go false e true f behind = absurd (let s : same_by order (pq_entry_data x) (pq_entry_data k) ≡ true = rw (e, f) at h in cc)
    go false e false f behind =
        let t : same_at order (pq_entry_data k) (place_in order (pq_entry_data k) (pq_entries_of xs)) (pq_entries_of xs) ≡ true = rw (e, f) at h in
        let m : nat_le (pq_entry_data (get_or xs (place_in order (pq_entry_data k) (pq_entries_of xs)) z)).view (pq_entry_data k).view ≡ true = rw (e, f) at l in
        rw (e, f) (ap (λ (ys : List BatchEntryData). pq_entry_data x ∷ ys) (behind t m))

pub kept : (order : PqOrder) (k z : PqEntry) (xs : List PqEntry) → same_at order (pq_entry_data k) (place_in order (pq_entry_data k) (pq_entries_of xs)) (pq_entries_of xs) ≡ true
    → nat_le (pq_entry_data (get_or xs (place_in order (pq_entry_data k) (pq_entries_of xs)) z)).view (pq_entry_data k).view ≡ false
    → pq_entries_of xs ≡ with_pq_entry_by order (pq_entry_data k) (pq_entries_of xs)
kept order k z [] h l = absurd cc
kept order k z (x ∷ xs) h l = go (same_by order (pq_entry_data x) (pq_entry_data k)) refl (before_by order (pq_entry_data k) (pq_entry_data x)) refl (kept order k z xs)
  where
    go : (b : Bool) → same_by order (pq_entry_data x) (pq_entry_data k) ≡ b → (d : Bool) → before_by order (pq_entry_data k) (pq_entry_data x) ≡ d
        → (same_at order (pq_entry_data k) (place_in order (pq_entry_data k) (pq_entries_of xs)) (pq_entries_of xs) ≡ true
        → nat_le (pq_entry_data (get_or xs (place_in order (pq_entry_data k) (pq_entries_of xs)) z)).view (pq_entry_data k).view ≡ false
        → pq_entries_of xs ≡ with_pq_entry_by order (pq_entry_data k) (pq_entries_of xs))
        → pq_entries_of (x ∷ xs) ≡ with_pq_entry_by order (pq_entry_data k) (pq_entries_of (x ∷ xs))
    go true e d f behind =
        let m : nat_le (pq_entry_data x).view (pq_entry_data k).view ≡ false = rw e at l in
        rw (e, m) refl
    go false e true f behind = absurd (let s : same_by order (pq_entry_data x) (pq_entry_data k) ≡ true = rw (e, f) at h in cc)
    go false e false f behind =
        let t : same_at order (pq_entry_data k) (place_in order (pq_entry_data k) (pq_entries_of xs)) (pq_entries_of xs) ≡ true = rw (e, f) at h in
        let m : nat_le (pq_entry_data (get_or xs (place_in order (pq_entry_data k) (pq_entries_of xs)) z)).view (pq_entry_data k).view ≡ false = rw (e, f) at l in
        rw (e, f) (ap (λ (ys : List BatchEntryData). pq_entry_data x ∷ ys) (behind t m))

-- whether an entry stands at the place
pub same_in : (order : PqOrder) (k : BatchEntryData) (xs : List PqEntry) (place : ℕ) (z : PqEntry) → place < length xs → same_by order (pq_entry_data (get_or xs place z)) k ≡ same_at order k place (pq_entries_of xs)
same_in order k [] place z l = absurd (omega arith)
same_in order k (x ∷ xs) zero z l = refl
same_in order k (x ∷ xs) (suc place) z l = same_in order k xs place z (omega arith)

pub same_out : (order : PqOrder) (k : BatchEntryData) (xs : List PqEntry) (place : ℕ) → length xs ≤ place → same_at order k place (pq_entries_of xs) ≡ false
same_out order k [] place l = refl
same_out order k (x ∷ xs) zero l = absurd (omega arith)
same_out order k (x ∷ xs) (suc place) l = same_out order k xs place (omega arith)

pub same_within : (order : PqOrder) (k : BatchEntryData) (xs : List PqEntry) (place : ℕ) → same_at order k place (pq_entries_of xs) ≡ true → place < length xs
same_within order k [] place h = absurd cc
same_within order k (x ∷ xs) zero h = omega arith
same_within order k (x ∷ xs) (suc place) h = let l = same_within order k xs place h in omega arith

-- what a cut drops
pub cut_is : (low : ℕ) (xs : List PqEntry) → pq_entries_of (filter (λ x. nat_lt low x.entry.number.0) xs) ≡ above_mark low (pq_entries_of xs)
cut_is low [] = refl
cut_is low (x ∷ xs) = go (nat_lt low x.entry.number.0) (cut_is low xs)
  where
    go : (b : Bool) → pq_entries_of (filter (λ y. nat_lt low y.entry.number.0) xs) ≡ above_mark low (pq_entries_of xs)
        → pq_entries_of (cond b (x ∷ filter (λ y. nat_lt low y.entry.number.0) xs) (filter (λ y. nat_lt low y.entry.number.0) xs)) ≡ cond b (pq_entry_data x ∷ above_mark low (pq_entries_of xs)) (above_mark low (pq_entries_of xs))
    go true h = ap (λ (ys : List BatchEntryData). pq_entry_data x ∷ ys) h
    go false h = h
