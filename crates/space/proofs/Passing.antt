-- The first number that passes a test.
use Rattle.std.proofs.Common.{◌≡◌, ℕ, zero, suc, ◌+◌, ◌≤◌, ◌<◌, Bool, true, false, cond, refl, sym, ap, subst, ◌∙◌}
use Rattle.std.proofs.Common.{arith, inl, inr}
use Rattle.std.proofs.lemmas.Bool.{cases_eq, cond-true, cond-false}
use Rattle.space.specs.Births.{first_passing}

module _ (test : ℕ → Bool) where
  -- each number before it fails
  pub first_passing-least : (n start k : ℕ) → start ≤ k → k < first_passing test n start → test k ≡ false
  unfolding first_passing
  first_passing-least zero start k l h = absurd (omega arith)
  first_passing-least (suc n) start k l h = go (test start) refl h (first_passing-least n (start + 1) k)
    where
      go : (b : Bool) → test start ≡ b → k < cond b start (first_passing test n (start + 1))
          → (start + 1 ≤ k → k < first_passing test n (start + 1) → test k ≡ false) → test k ≡ false
      go true e h below = absurd (omega arith)
      go false e h below = elim (cases_eq k start) [ inl p ↦ subst (λ j. test j ≡ false) (sym p) e | inr p ↦ below (omega arith) h ]

  -- a number that fails is passed over
  pub first_passing-no : (m n start : ℕ) → m ≡ n + 1 → test start ≡ false → first_passing test m start ≡ first_passing test n (start + 1)
  unfolding first_passing
  first_passing-no zero n start e f = absurd (omega arith)
  first_passing-no (suc m) n start e f =
      let k : m ≡ n = omega arith in
      cond-false (test start) start (first_passing test m (start + 1)) f ∙ ap (λ j. first_passing test j (start + 1)) k

  pub first_passing-yes : (m start : ℕ) → 0 < m → test start ≡ true → first_passing test m start ≡ start
  unfolding first_passing
  first_passing-yes zero start l f = absurd (omega arith)
  first_passing-yes (suc m) start l f = cond-true (test start) start (first_passing test m (start + 1)) f

  pub first_passing-none : (m start : ℕ) → m ≡ 0 → first_passing test m start ≡ start
  unfolding first_passing
  first_passing-none zero start e = refl
  first_passing-none (suc m) start e = absurd (omega arith)

-- tests that agree have the same first number
pub first_passing-agree : (p q : ℕ → Bool) → ((k : ℕ) → p k ≡ q k) → (n start : ℕ) → first_passing p n start ≡ first_passing q n start
unfolding first_passing
first_passing-agree p q same zero start = refl
first_passing-agree p q same (suc n) start =
    ap (λ b. cond b start (first_passing p n (start + 1))) (same start) ∙ ap (λ r. cond (q start) start r) (first_passing-agree p q same n (start + 1))
