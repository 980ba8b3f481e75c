-- The first match in lists over ranges of numbers.
use Rattle.std.proofs.Common.{◌≡◌, ℕ, zero, suc, ◌+◌, ◌<◌, ◌≤◌, Bool, true, false, cond, List, map, None, Some, inl, inr, refl, ap, ◌∙◌, sym, subst, arith}
use Rattle.std.proofs.lemmas.Bool.{cases_eq}
use Rattle.std.proofs.lemmas.List.Folds.{find-append}
use Rattle.std.specs.List.{find, flat_map, range_with_len}
use Rattle.std.specs.Option.{option_or}

module _ {A : Type 0} (p : A → Bool) where
  pub found_none_in_range : (f : ℕ → A) (a n : ℕ) → ((i : ℕ) → a ≤ i → i < a + n → p (f i) ≡ false) → find p (map f (range_with_len a n)) ≡ None
  found_none_in_range f a zero none = refl
  found_none_in_range f a (suc n) none =
      ap (λ b. cond b (Some (f a)) (find p (map f (range_with_len (a + 1) n)))) (none a (omega arith) (omega arith))
      ∙ found_none_in_range f (a + 1) n (λ i h k. none i (omega arith) (omega arith))

  pub found_in_range : (f : ℕ → A) (a n j : ℕ) → a ≤ j → j < a + n → p (f j) ≡ true → ((i : ℕ) → a ≤ i → i < j → p (f i) ≡ false)
      → find p (map f (range_with_len a n)) ≡ Some (f j)
  found_in_range f a zero j h k here before = absurd (omega arith)
  found_in_range f a (suc n) j h k here before =
      let rest = find p (map f (range_with_len (a + 1) n)) in
      elim (cases_eq a j) [
        | inl at ↦ subst (λ (i : ℕ). cond (p (f a)) (Some (f a)) rest ≡ Some (f i)) at (ap (λ b. cond b (Some (f a)) rest) (subst (λ (i : ℕ). p (f i) ≡ true) (sym at) here))
        | inr other ↦
            ap (λ b. cond b (Some (f a)) rest) (before a (omega arith) (omega arith))
            ∙ found_in_range f (a + 1) n j (omega arith) (omega arith) here (λ i l m. before i (omega arith) m)
      ]

  pub found_none_in_blocks : (f : ℕ → List A) (a n : ℕ) → ((k : ℕ) → a ≤ k → k < a + n → find p (f k) ≡ None) → find p (flat_map f (range_with_len a n)) ≡ None
  found_none_in_blocks f a zero none = refl
  found_none_in_blocks f a (suc n) none =
      let rest = flat_map f (range_with_len (a + 1) n) in
      find-append p (f a) rest
      ∙ ap (λ o. option_or o (find p rest)) (none a (omega arith) (omega arith))
      ∙ found_none_in_blocks f (a + 1) n (λ k h l. none k (omega arith) (omega arith))

  pub found_in_blocks : (f : ℕ → List A) (x : A) (a n j : ℕ) → a ≤ j → j < a + n → find p (f j) ≡ Some x → ((k : ℕ) → a ≤ k → k < j → find p (f k) ≡ None)
      → find p (flat_map f (range_with_len a n)) ≡ Some x
  found_in_blocks f x a zero j h k here before = absurd (omega arith)
  found_in_blocks f x a (suc n) j h k here before =
      let rest = flat_map f (range_with_len (a + 1) n) in
      find-append p (f a) rest
      ∙ elim (cases_eq a j) [
        | inl at ↦ ap (λ o. option_or o (find p rest)) (subst (λ (i : ℕ). find p (f i) ≡ Some x) (sym at) here)
        | inr other ↦
            ap (λ o. option_or o (find p rest)) (before a (omega arith) (omega arith))
            ∙ found_in_blocks f x (a + 1) n j (omega arith) (omega arith) here (λ i l m. before i (omega arith) m)
      ]
