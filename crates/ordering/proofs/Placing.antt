-- A checkpoint put in its place.
use Rattle.std.proofs.Common.{◌≡◌, ℕ, zero, suc, ◌≤◌, ◌<◌, Bool, true, false, List, [], ◌∷◌, length, map, take, get_or, refl, sym, ap, ◌∙◌, subst, arith, ◌&&◌, ◌||◌, eqb-true, ◌==◌, nat_lt, nat_le, bytes_eq}
use Rattle.std.specs.List.{insert, list_any}
use Rattle.std.proofs.lemmas.List.{take_all}
use Rattle.std.proofs.lemmas.Bool.{leb-true, leb-false, lt-ltb, le-ltb, eqb-false}
use Rattle.wire_format.specs.Messages.{CheckpointEntryData}
use Rattle.wire_format.specs.declared.messages.CheckpointEntry.{CheckpointEntry}
use Rattle.wire_format.specs.Views.{checkpoint_entry_data}
use Rattle.ordering.specs.Checkpoints.{insert_checkpoint, lists_checkpoint, with_checkpoint}
use Rattle.ordering.specs.Places.{place_in, stands_at}

pub says_entry : (entry : CheckpointEntryData) (xs : List CheckpointEntry)
    → list_any (λ e. (e.number.0 == entry.number) && bytes_eq e.digest entry.digest) xs ≡ lists_checkpoint entry (map checkpoint_entry_data xs)
says_entry entry [] = refl
says_entry entry (x ∷ xs) = ap (λ b. ((x.number.0 == entry.number) && bytes_eq x.digest entry.digest) || b) (says_entry entry xs)

pub stands_in : (n : ℕ) (xs : List CheckpointEntry) (place : ℕ) (d : CheckpointEntry) → place < length xs → ((get_or xs place d).number.0 == n) ≡ stands_at place n (map checkpoint_entry_data xs)
stands_in n [] place d l = absurd (omega arith)
stands_in n (x ∷ xs) zero d l = refl
stands_in n (x ∷ xs) (suc place) d l = stands_in n xs place d (omega arith)

pub stands_out : (n : ℕ) (xs : List CheckpointEntry) (place : ℕ) → length xs ≤ place → stands_at place n (map checkpoint_entry_data xs) ≡ false
stands_out n [] place l = refl
stands_out n (x ∷ xs) zero l = absurd (omega arith)
stands_out n (x ∷ xs) (suc place) l = stands_out n xs place (omega arith)

-- a larger number is not the same
apart : (a b : ℕ) → nat_le a b ≡ false → (a == b) ≡ false
apart a b h = go (a == b) refl (leb-false a b h)
  where
    go : (t : Bool) → (a == b) ≡ t → b < a → t ≡ false
    go true e l = let z : a ≡ b = eqb-true a b e in absurd (omega arith)
    go false e l = refl

not_below : (a b : ℕ) → nat_le a b ≡ false → nat_lt a b ≡ false
not_below a b h = let l = leb-false a b h in le-ltb a b (omega arith)

below : (a b : ℕ) → nat_le a b ≡ true → (a == b) ≡ false → nat_lt a b ≡ true
below a b h e = let l = leb-true a b h in let d = eqb-false a b e in lt-ltb a b (omega arith)

insert_new : (k : CheckpointEntry) (xs : List CheckpointEntry) → stands_at (place_in k.number.0 (map checkpoint_entry_data xs)) k.number.0 (map checkpoint_entry_data xs) ≡ false
    → map checkpoint_entry_data (insert xs (place_in k.number.0 (map checkpoint_entry_data xs)) k) ≡ insert_checkpoint (checkpoint_entry_data k) (map checkpoint_entry_data xs)
insert_new k [] h = refl
insert_new k (x ∷ xs) h = go (nat_le x.number.0 k.number.0) refl (insert_new k xs)
  where
    go : (b : Bool) → nat_le x.number.0 k.number.0 ≡ b
        → (stands_at (place_in k.number.0 (map checkpoint_entry_data xs)) k.number.0 (map checkpoint_entry_data xs) ≡ false
        → map checkpoint_entry_data (insert xs (place_in k.number.0 (map checkpoint_entry_data xs)) k) ≡ insert_checkpoint (checkpoint_entry_data k) (map checkpoint_entry_data xs))
        → map checkpoint_entry_data (insert (x ∷ xs) (place_in k.number.0 (map checkpoint_entry_data (x ∷ xs))) k) ≡ insert_checkpoint (checkpoint_entry_data k) (map checkpoint_entry_data (x ∷ xs))
    go true e behind =
        let s : (x.number.0 == k.number.0) ≡ false = rw e at h in
        rw (e, s, below x.number.0 k.number.0 e s) refl
    go false e behind =
        let t : stands_at (place_in k.number.0 (map checkpoint_entry_data xs)) k.number.0 (map checkpoint_entry_data xs) ≡ false = rw e at h in
        rw (e, apart x.number.0 k.number.0 e, not_below x.number.0 k.number.0 e) (ap (λ ys. checkpoint_entry_data x ∷ ys) (behind t))

insert_same : (k : CheckpointEntry) (xs : List CheckpointEntry) → stands_at (place_in k.number.0 (map checkpoint_entry_data xs)) k.number.0 (map checkpoint_entry_data xs) ≡ true
    → insert_checkpoint (checkpoint_entry_data k) (map checkpoint_entry_data xs) ≡ map checkpoint_entry_data xs
insert_same k [] h = absurd cc
insert_same k (x ∷ xs) h = go (nat_le x.number.0 k.number.0) refl (insert_same k xs)
  where
    go : (b : Bool) → nat_le x.number.0 k.number.0 ≡ b
        → (stands_at (place_in k.number.0 (map checkpoint_entry_data xs)) k.number.0 (map checkpoint_entry_data xs) ≡ true
        → insert_checkpoint (checkpoint_entry_data k) (map checkpoint_entry_data xs) ≡ map checkpoint_entry_data xs)
        → insert_checkpoint (checkpoint_entry_data k) (map checkpoint_entry_data (x ∷ xs)) ≡ map checkpoint_entry_data (x ∷ xs)
    go true e behind = let s : (x.number.0 == k.number.0) ≡ true = rw e at h in rw s refl
    go false e behind =
        let t : stands_at (place_in k.number.0 (map checkpoint_entry_data xs)) k.number.0 (map checkpoint_entry_data xs) ≡ true = rw e at h in
        rw (apart x.number.0 k.number.0 e, not_below x.number.0 k.number.0 e) (ap (λ ys. checkpoint_entry_data x ∷ ys) (behind t))

map_take : (n : ℕ) (xs : List CheckpointEntry) → map checkpoint_entry_data (take n xs) ≡ take n (map checkpoint_entry_data xs)
map_take zero xs = refl
map_take (suc n) [] = refl
map_take (suc n) (x ∷ xs) = ap (λ ys. checkpoint_entry_data x ∷ ys) (map_take n xs)

-- a checkpoint that is put in its place, if none of its number stands there
pub put : (k : CheckpointEntry) (xs ys zs : List CheckpointEntry) (place : ℕ) (old : List CheckpointEntryData) → map checkpoint_entry_data xs ≡ old
    → place ≡ place_in k.number.0 (map checkpoint_entry_data xs) → stands_at place k.number.0 (map checkpoint_entry_data xs) ≡ false → ys ≡ insert xs place k → zs ≡ take 3 ys
    → map checkpoint_entry_data zs ≡ with_checkpoint (checkpoint_entry_data k) old
put k xs ys zs place old same p h i t =
    let q : stands_at (place_in k.number.0 (map checkpoint_entry_data xs)) k.number.0 (map checkpoint_entry_data xs) ≡ false =
    subst (λ (x : ℕ). stands_at x k.number.0 (map checkpoint_entry_data xs) ≡ false) p h in
    ap (map checkpoint_entry_data) t ∙ map_take 3 ys ∙ ap (λ (v : List CheckpointEntry). take 3 (map checkpoint_entry_data v)) (i ∙ ap (λ (x : ℕ). insert xs x k) p)
    ∙ ap (take 3) (insert_new k xs q) ∙ ap (with_checkpoint (checkpoint_entry_data k)) same

-- no checkpoint is put there if one of its number stands there
pub stays : (k : CheckpointEntry) (xs : List CheckpointEntry) (place : ℕ) (old : List CheckpointEntryData) → map checkpoint_entry_data xs ≡ old → length xs ≤ 3
    → place ≡ place_in k.number.0 (map checkpoint_entry_data xs) → stands_at place k.number.0 (map checkpoint_entry_data xs) ≡ true → old ≡ with_checkpoint (checkpoint_entry_data k) old
stays k xs place old same few p h =
    let q : stands_at (place_in k.number.0 (map checkpoint_entry_data xs)) k.number.0 (map checkpoint_entry_data xs) ≡ true =
    subst (λ (x : ℕ). stands_at x k.number.0 (map checkpoint_entry_data xs) ≡ true) p h in
    sym same ∙ ap (map checkpoint_entry_data) (sym (take_all 3 xs few)) ∙ map_take 3 xs ∙ ap (take 3) (sym (insert_same k xs q)) ∙ ap (with_checkpoint (checkpoint_entry_data k)) same
