-- A message schedule that is written word by word.
use Rattle.std.proofs.Common.{◌≡◌, ℕ, ◌+◌, ◌-◌, ◌<◌, ◌≤◌, List, length, slice_index, slice_set, inl, inr, refl, ◌∙◌, arith}
use Rattle.std.proofs.lemmas.Bool.{cases_lt}
use Rattle.std.proofs.lemmas.List.{get_or-set_same, get_or-set_other}
use Rattle.sha2.specs.Sha256.{next_word}

-- one more word of the list stands where it is to
pub one_more : (ws all : List ℕ) (i x : ℕ) → i < length ws → ((k : ℕ) → k < i → slice_index ws k ≡ slice_index all k) → x ≡ slice_index all i
    → (k : ℕ) → k < i + 1 → slice_index (slice_set ws i x) k ≡ slice_index all k
one_more ws all i x within held is k below = elim (cases_lt k i) [
  | inl lt ↦ get_or-set_other ws i k x 0 (omega arith) ∙ held k lt
  | inr ge ↦
      let e : k ≡ i = omega arith in
      rw e (get_or-set_same ws i x 0 within ∙ is)
]

-- the next word sees only words that are held
pub seen : (ws all : List ℕ) (t : ℕ) → 16 ≤ t → ((k : ℕ) → k < t → slice_index ws k ≡ slice_index all k) → next_word ws t ≡ next_word all t
seen ws all t low held = rw (held (t - 2) (omega arith), held (t - 7) (omega arith), held (t - 15) (omega arith), held (t - 16) (omega arith)) refl
