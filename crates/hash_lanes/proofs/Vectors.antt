-- What the operations on vectors of four words hold at each lane.
use Rattle.std.proofs.Common.{◌≡◌, ℕ, zero, suc, ◌<◌, ◌^◌, List, [], ◌∷◌, length, get_or, replicate, slice_index, slice_set, inl, inr, refl, sym, ap, ◌∙◌, arith, Fits, w32}
use Rattle.std.specs.Simd.Lanes.{zip2, Each1}
use Rattle.std.proofs.lemmas.Simd.{length-zip2, get_or-zip2, get_or-replicate, length-replicate, Each1-get_or}
use Rattle.std.proofs.Math.ListN.{get_or-map}
use Rattle.std.proofs.lemmas.Bool.{cases_eq}
use Rattle.std.proofs.lemmas.Grind.{same_number_lists}
use Rattle.std.proofs.lemmas.List.{get_or-set_same, get_or-set_other, length-map, length-set, map-set}
use Rattle.hash_lanes.specs.Lanes.{AreVectors, HasLanes, at, lane}

-- a vector holds its own lanes
pub own : (v : List ℕ) → length v ≡ 4 → HasLanes v (λ l. get_or v l 0)
own v p = record { long = p; each = λ l lt. refl }

-- an operator on two vectors
pub both : (g : ℕ → ℕ → ℕ) {a b : List ℕ} {f h : ℕ → ℕ} → HasLanes a f → HasLanes b h → HasLanes (zip2 g a b) (λ l. g (f l) (h l))
both g {a} {b} {f} {h} p q = record {
  long = length-zip2 g a b (p.long ∙ sym q.long) ∙ p.long;
  each = λ l lt.
      get_or-zip2 g a b l 0 0 0 (omega (arith, p.long)) (omega (arith, q.long))
      ∙ (λ i. g (p.each l lt i) (q.each l lt i));
}

-- the same number in each lane
pub alike : (n : ℕ) → HasLanes (n ∷ n ∷ n ∷ n ∷ []) (λ _. n)
alike n = record { long = refl; each = λ l lt. get_or-replicate 4 l n 0 lt }

-- other words for what the lanes hold
pub told : {v : List ℕ} {f g : ℕ → ℕ} → HasLanes v f → ((l : ℕ) → l < 4 → f l ≡ g l) → HasLanes v g
told p e = record { long = p.long; each = λ l lt. p.each l lt ∙ e l lt }

-- each lane is a word
pub below : (v : List ℕ) → length v ≡ 4 → Each1 (Fits w32) v → (l : ℕ) → l < 4 → get_or v l 0 < 2 ^ 32
below v p fit l lt = (Each1-get_or (Fits w32) v l 0 (omega (arith, p)) fit).fits

-- a place in a lane of a list of vectors
pub lane_at : (vs : List (List ℕ)) (k l : ℕ) → get_or (lane l vs) k 0 ≡ get_or (at vs k) l 0
lane_at vs k l = get_or-map (λ (v : List ℕ). get_or v l 0) vs k []

-- what holds of the numbers below four, one by one
pub below_four : (P : ℕ → Type 0) → P 0 → P 1 → P 2 → P 3 → (l : ℕ) → l < 4 → P l
below_four P a b c d zero lt = a
below_four P a b c d (suc zero) lt = b
below_four P a b c d (suc (suc zero)) lt = c
below_four P a b c d (suc (suc (suc zero))) lt = d
below_four P a b c d (suc (suc (suc (suc l)))) lt = absurd (omega arith)

-- eight vectors of four lanes
pub eight : {a b c d e f g h : List ℕ} → length a ≡ 4 → length b ≡ 4 → length c ≡ 4 → length d ≡ 4 → length e ≡ 4 → length f ≡ 4 → length g ≡ 4 → length h ≡ 4
    → AreVectors 8 (a ∷ b ∷ c ∷ d ∷ e ∷ f ∷ g ∷ h ∷ [])
eight {a} {b} {c} {d} {e} {f} {g} {h} one two three four five six seven last = record { long = refl; each = go }
  where
    go : (i : ℕ) → i < 8 → length (at (a ∷ b ∷ c ∷ d ∷ e ∷ f ∷ g ∷ h ∷ []) i) ≡ 4
    go zero lt = one
    go (suc zero) lt = two
    go (suc (suc zero)) lt = three
    go (suc (suc (suc zero))) lt = four
    go (suc (suc (suc (suc zero)))) lt = five
    go (suc (suc (suc (suc (suc zero))))) lt = six
    go (suc (suc (suc (suc (suc (suc zero)))))) lt = seven
    go (suc (suc (suc (suc (suc (suc (suc zero))))))) lt = last
    go (suc (suc (suc (suc (suc (suc (suc (suc i)))))))) lt = absurd (omega arith)

-- a vector more among so many
pub with_vector : (n i : ℕ) (vs : List (List ℕ)) (v : List ℕ) → AreVectors n vs → length v ≡ 4 → AreVectors n (slice_set vs i v)
with_vector n i vs v are wide = record {
  long = length-set vs i v ∙ are.long;
  each = λ k lt. elim (cases_eq k i) [
    | inl same ↦ rw same (ap length (get_or-set_same vs i v [] (omega (arith, are.long))) ∙ wide)
    | inr other ↦ ap length (get_or-set_other vs i k v [] other) ∙ are.each k lt
  ];
}

-- and what each lane is then
pub lane_set : (vs : List (List ℕ)) (i l : ℕ) (v : List ℕ) → lane l (slice_set vs i v) ≡ slice_set (lane l vs) i (slice_index v l)
lane_set vs i l v = map-set (λ (x : List ℕ). slice_index x l) vs i v

pub length-lane : (vs : List (List ℕ)) (l : ℕ) → length (lane l vs) ≡ length vs
length-lane vs l = length-map vs _

-- vectors of zeros
pub zeros : (n : ℕ) → AreVectors n (replicate n (0 ∷ 0 ∷ 0 ∷ 0 ∷ []))
zeros n = record { long = length-replicate n _; each = λ i lt. ap length (get_or-replicate n i (0 ∷ 0 ∷ 0 ∷ 0 ∷ []) [] lt) }

-- a list of eight numbers, one by one
pub eight_numbers : (xs : List ℕ) → length xs ≡ 8 → slice_index xs 0 ∷ slice_index xs 1 ∷ slice_index xs 2 ∷ slice_index xs 3 ∷ slice_index xs 4 ∷ slice_index xs 5 ∷ slice_index xs 6 ∷ slice_index xs 7 ∷ [] ≡ xs
eight_numbers xs long = same_number_lists _ xs (sym long) (λ k lt. go k lt)
  where
    go : (k : ℕ) → k < 8 → get_or (slice_index xs 0 ∷ slice_index xs 1 ∷ slice_index xs 2 ∷ slice_index xs 3 ∷ slice_index xs 4 ∷ slice_index xs 5 ∷ slice_index xs 6 ∷ slice_index xs 7 ∷ []) k 0 ≡ get_or xs k 0
    go zero lt = refl
    go (suc zero) lt = refl
    go (suc (suc zero)) lt = refl
    go (suc (suc (suc zero))) lt = refl
    go (suc (suc (suc (suc zero)))) lt = refl
    go (suc (suc (suc (suc (suc zero))))) lt = refl
    go (suc (suc (suc (suc (suc (suc zero)))))) lt = refl
    go (suc (suc (suc (suc (suc (suc (suc zero))))))) lt = refl
    go (suc (suc (suc (suc (suc (suc (suc (suc k)))))))) lt = absurd (omega arith)

-- the words of a lane, one by one
pub eight_lanes : (vs : List (List ℕ)) (l : ℕ) → length vs ≡ 8
    → slice_index (at vs 0) l ∷ slice_index (at vs 1) l ∷ slice_index (at vs 2) l ∷ slice_index (at vs 3) l ∷ slice_index (at vs 4) l ∷ slice_index (at vs 5) l ∷ slice_index (at vs 6) l ∷ slice_index (at vs 7) l ∷ [] ≡ lane l vs
eight_lanes vs l long =
    sym (rw (lane_at vs 0 l, lane_at vs 1 l, lane_at vs 2 l, lane_at vs 3 l, lane_at vs 4 l, lane_at vs 5 l, lane_at vs 6 l, lane_at vs 7 l) refl)
    ∙ eight_numbers (lane l vs) (length-lane vs l ∙ long)
