-- A list of all numbers that have a batch.
use Rattle.std.proofs.Common.{◌≡◌, ℕ, zero, suc, ◌+◌, ◌≤◌, ◌<◌, ◌⊎◌, inl, inr, List, [], ◌∷◌, refl, ap, ap₂, ◌∙◌, subst, arith}
use Rattle.std.proofs.lemmas.Bool.{cases_order}
use Rattle.wire_format.specs.Lists.{Each}
use Rattle.protocol.specs.System.Trace.{Has}
use Rattle.protocol.specs.Replica.Selection.{null_batch}
use Rattle.points.specs.Numbering.{Numbered, AscendsFrom}

-- of so many numbers from k on, the list has those whose batch is not the null batch, ascending; it may have others
abbrev pub Lists : (ℕ → List ℕ) → ℕ → ℕ → List Numbered → Type 0
Lists batch k zero xs = xs ≡ []
Lists batch k (suc more) xs =
    ((batch k ≡ null_batch) × Lists batch (suc k) more xs)
    ⊎ ((rest : List Numbered) × (xs ≡ record { number = k; batch = batch k } ∷ rest) × Lists batch (suc k) more rest)

-- each has its batch, and is one of so many from k on; and a number that has none has the null batch
pub record HoldsAll (batch : ℕ → List ℕ) (k more : ℕ) (xs : List Numbered) : Type 0 where
  pub ascends : AscendsFrom k xs
  pub each : Each (λ x. (x.batch ≡ batch x.number) × (x.number < k + more)) xs
  pub other : (j : ℕ) → k ≤ j → Has (λ x. x.number ≡ j) xs ⊎ (batch j ≡ null_batch)

above : (m j : ℕ) (xs : List Numbered) → AscendsFrom m xs → Has (λ x. x.number ≡ j) xs → m ≤ j
above m j [] a h = absurd h
above m j (x ∷ xs) a (inl e) = let l = a.0 in omega arith
above m j (x ∷ xs) a (inr h) = let l = a.0 in let b = above (suc x.number) j xs a.1 h in omega arith

fewer : (batch : ℕ → List ℕ) (k more : ℕ) (xs : List Numbered) → Each (λ x. (x.batch ≡ batch x.number) × (x.number < k + suc more)) xs → Each (λ x. (x.batch ≡ batch x.number) × (x.number < suc k + more)) xs
fewer batch k more [] a = tt
fewer batch k more (x ∷ xs) a = let l = a.0.1 in let m : x.number < suc k + more = omega arith in ((a.0.0, m), fewer batch k more xs a.1)

pub all_listed : (batch : ℕ → List ℕ) (k more : ℕ) (xs : List Numbered) → HoldsAll batch k more xs → Lists batch k more xs
all_listed batch k zero [] h = refl
all_listed batch k zero (x ∷ xs) h = let l = h.ascends.0 in let m = h.each.0.1 in absurd (omega arith)
all_listed batch k (suc more) [] h = inl (none (h.other k (omega arith)), all_listed batch (suc k) more [] (record { ascends = tt; each = tt; other = λ j l. h.other j (omega arith) }))
  where
    none : Has (λ (x : Numbered). x.number ≡ k) [] ⊎ (batch k ≡ null_batch) → batch k ≡ null_batch
    none (inl b) = absurd b
    none (inr e) = e
all_listed batch k (suc more) (x ∷ xs) h = go (cases_order x.number k) (all_listed batch (suc k) more (x ∷ xs)) (all_listed batch (suc k) more xs)
  where
    few : Each (λ x. (x.batch ≡ batch x.number) × (x.number < suc k + more)) (x ∷ xs)
    few = fewer batch k more (x ∷ xs) h.each

    go : (x.number ≡ k) ⊎ ((x.number < k) ⊎ (k < x.number)) → (HoldsAll batch (suc k) more (x ∷ xs) → Lists batch (suc k) more (x ∷ xs)) → (HoldsAll batch (suc k) more xs → Lists batch (suc k) more xs)
        → Lists batch k (suc more) (x ∷ xs)
    go (inl e) same rest = inr (
      xs,
      ap₂ (λ (n : ℕ) (b : List ℕ). let ys : List Numbered = record { number = n; batch = b } ∷ xs in ys) e (h.each.0.0 ∙ ap batch e),
      rest (record {
        ascends = subst (λ n. AscendsFrom (suc n) xs) e h.ascends.1;
        each = few.1;
        other = λ j l. others j l (h.other j (omega arith));
      }),
    )
      where
        others : (j : ℕ) → suc k ≤ j → Has (λ (y : Numbered). y.number ≡ j) (x ∷ xs) ⊎ (batch j ≡ null_batch) → Has (λ (y : Numbered). y.number ≡ j) xs ⊎ (batch j ≡ null_batch)
        others j l (inl (inl n)) = absurd (omega arith)
        others j l (inl (inr n)) = inl n
        others j l (inr n) = inr n
    go (inr (inl l)) same rest = let m = h.ascends.0 in absurd (omega arith)
    go (inr (inr l)) same rest = inl (none (h.other k (omega arith)), same (record { ascends = (l_is l, h.ascends.1); each = few; other = λ j m. h.other j (omega arith) }))
      where
        l_is : k < x.number → suc k ≤ x.number
        l_is m = omega arith

        none : Has (λ (y : Numbered). y.number ≡ k) (x ∷ xs) ⊎ (batch k ≡ null_batch) → batch k ≡ null_batch
        none (inl b) = let m = above (suc k) k (x ∷ xs) (l_is l, h.ascends.1) b in absurd (omega arith)
        none (inr e) = e
