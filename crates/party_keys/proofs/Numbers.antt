-- Numbers in a row, one more.
use Rattle.std.proofs.Common.{◌≡◌, ℕ, zero, suc, ◌+◌, ◌==◌, eqb-true, eq-eqb, cond, Bool, true, false, List, [], ◌∷◌, ◌++◌, append-nil, arith, refl, ap, ◌∙◌}
use Rattle.std.specs.Prelude.{filter, not}
use Rattle.std.specs.List.{range_with_len}
use Rattle.std.proofs.lemmas.List.Elements.{filter-append}
use Rattle.authenticator.specs.Dealing.{others_among}

more : (a n : ℕ) → range_with_len a (suc n) ≡ range_with_len a n ++ (a + n) ∷ []
more a zero = let e : a ≡ a + 0 = omega arith in ap (λ x. x ∷ []) e
more a (suc n) =
    let e : a + 1 + n ≡ a + suc n = omega arith in
    ap (λ xs. a ∷ xs) (more (a + 1) n ∙ ap (λ x. range_with_len (a + 1) n ++ x ∷ []) e)

pub numbers_more : (a n : ℕ) → range_with_len a (n + 1) ≡ range_with_len a n ++ (a + n) ∷ []
numbers_more a n = let e : n + 1 ≡ suc n = omega arith in ap (range_with_len a) e ∙ more a n

pub chosen_more : (p : ℕ → Bool) (n : ℕ) → filter p (range_with_len 0 (n + 1)) ≡ filter p (range_with_len 0 n) ++ cond (p n) (n ∷ []) []
chosen_more p n =
    let e : 0 + n ≡ n = omega arith in
    ap (filter p) (numbers_more 0 n ∙ ap (λ x. range_with_len 0 n ++ x ∷ []) e) ∙ filter-append p (range_with_len 0 n) (n ∷ [])

-- one replica more, which is another or this one
pub other_more : (me n : ℕ) → (n ≡ me → ⊥) → others_among (range_with_len 0 (n + 1)) me ≡ others_among (range_with_len 0 n) me ++ n ∷ []
other_more me n differs =
    chosen_more (λ p. not (p == me)) n ∙ go (n == me) refl
  where
    go : (b : Bool) → (n == me) ≡ b → others_among (range_with_len 0 n) me ++ cond (not (n == me)) (n ∷ []) [] ≡ others_among (range_with_len 0 n) me ++ n ∷ []
    go true e = absurd (differs (eqb-true n me e))
    go false e = rw e refl

pub same_more : (me n : ℕ) → n ≡ me → others_among (range_with_len 0 (n + 1)) me ≡ others_among (range_with_len 0 n) me
same_more me n same =
    chosen_more (λ p. not (p == me)) n ∙ rw (eq-eqb n me same) (append-nil (others_among (range_with_len 0 n) me))
