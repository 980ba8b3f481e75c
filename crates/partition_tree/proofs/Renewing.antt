-- How a list is renewed place by place.
use Rattle.std.proofs.Common.{◌≡◌, ◌≢◌, ℕ, ◌+◌, ◌<◌, ◌≤◌, List, length, set, get_or, get_or-set_same, get_or-set_other, below_more, ap, ◌∙◌, arith}

-- f k is to stand at each place k, and does so below i.
module _ {A : Type 0} (f : ℕ → A) (xs ys : List A) (i : ℕ) (e d : A) where
  pub set_more : ys ≡ set xs i e → i < length xs → e ≡ f i → ((k : ℕ) → k < i → get_or xs k d ≡ f k) → (k : ℕ) → k < i + 1 → get_or ys k d ≡ f k
  set_more is h p below =
      below_more (λ k. get_or ys k d ≡ f k) i
      (λ k q.
      let other : k ≢ i = omega arith in
      ap (λ zs. get_or zs k d) is ∙ get_or-set_other xs i k e d other ∙ below k q)
      (ap (λ zs. get_or zs i d) is ∙ get_or-set_same xs i e d h ∙ p)

  pub set_above : (known : List A) → ys ≡ set xs i e → ((k : ℕ) → i ≤ k → get_or xs k d ≡ get_or known k d) → (k : ℕ) → i + 1 ≤ k → get_or ys k d ≡ get_or known k d
  set_above known is above k h =
      let other : k ≢ i = omega arith in
      ap (λ zs. get_or zs k d) is ∙ get_or-set_other xs i k e d other ∙ above k (omega arith)

  pub keep_more : ys ≡ xs → get_or xs i d ≡ f i → ((k : ℕ) → k < i → get_or xs k d ≡ f k) → (k : ℕ) → k < i + 1 → get_or ys k d ≡ f k
  keep_more is p below =
      below_more (λ k. get_or ys k d ≡ f k) i (λ k q. ap (λ zs. get_or zs k d) is ∙ below k q) (ap (λ zs. get_or zs i d) is ∙ p)
