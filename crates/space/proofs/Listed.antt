-- What a change at a key leaves under each key.
use Rattle.std.proofs.Common.{◌≡◌, suc, Bool, true, false, cond, List, [], ◌∷◌, ◌++◌, length, ℕ, Option, refl, sym, ap}
use Rattle.std.proofs.Common.{subst, ◌∙◌, inl, inr, append-nil, arith}
use Rattle.std.specs.Prelude.{◌==◌}
use Rattle.std.specs.Map.{lookup, KeepsOthers}
use Rattle.std.specs.HashMap.{get_by, UpdatesBy}
use Rattle.std.proofs.lemmas.Bool.{cases_Bool, cond-true, cond-false, eqb-true}
use Rattle.std.specs.Cmp.{nat_eq_equiv}
use Rattle.space.specs.Ages.{births_without}
use Rattle.space.specs.Filing.{births_at, births_or_none}
use Rattle.space.specs.declared.key_births.KeyBirths.{KeyBirths}
use Rattle.space.specs.declared.lists.Lists.{Lists}

apart : (key q k : ℕ) → (key == q) ≡ false → (key == k) ≡ true → (q == k) ≡ false
apart key q k n y = nat_eq_equiv.symm q k ∙ sym (nat_eq_equiv.congr key k q y) ∙ n

kept : (old new : List (ℕ × KeyBirths)) (key q : ℕ) → KeepsOthers (λ x y. x == y) (λ k. key == k) old new → (key == q) ≡ false
    → lookup (λ k. q == k) new ≡ lookup (λ k. q == k) old
unfolding KeepsOthers
kept old new key q h e = h (λ k. q == k) (λ x y. nat_eq_equiv.congr q x y) (λ k. apart key q k e)

-- under each key n has what m has, but for w at this one
abbrev pub Puts : Lists → Lists → ℕ → Option KeyBirths → Type 0
Puts m n key w = (q : ℕ) → get_by (λ k. q == k) n.lists ≡ cond (key == q) w (get_by (λ k. q == k) m.lists)

pub puts : (m n : Lists) (key : ℕ) (w : Option KeyBirths) → UpdatesBy (λ x y. x == y) (λ k. key == k) m.lists n.lists w → Puts m n key w
puts m n key w h q = elim (cases_Bool (key == q)) [
  | inl y ↦ subst (λ k. get_by (λ x. k == x) n.lists ≡ w) (eqb-true key q y) h.1 ∙ sym (cond-true (key == q) w (get_by (λ k. q == k) m.lists) y)
  | inr e ↦ kept m.lists.entries n.lists.entries key q h.3 e ∙ sym (cond-false (key == q) w (get_by (λ k. q == k) m.lists) e)
]

-- ---- lists of births

module _ (m n : Lists) (key : ℕ) where
  listed : (w : Option KeyBirths) → Puts m n key w → (q : ℕ) → births_at n q ≡ cond (key == q) (births_or_none w) (births_at m q)
  listed w h q = ap births_or_none (h q) ∙ go (key == q)
    where
      go : (b : Bool) → births_or_none (cond b w (get_by (λ k. q == k) m.lists)) ≡ cond b (births_or_none w) (births_at m q)
      go true = refl
      go false = refl

  pub births_added : (births : List ℕ) (b : ℕ) (w : Option KeyBirths) → births_at m key ≡ births → births_or_none w ≡ births ++ b ∷ [] → Puts m n key w
      → (q : ℕ) → births_at n q ≡ births_at m q ++ cond (key == q) (b ∷ []) []
  births_added births b w is more h q = listed w h q ∙ go (key == q) refl
    where
      go : (t : Bool) → (key == q) ≡ t → cond t (births_or_none w) (births_at m q) ≡ births_at m q ++ cond t (b ∷ []) []
      go true e = more ∙ ap (λ xs. xs ++ b ∷ []) (sym is ∙ ap (births_at m) (eqb-true key q e))
      go false e = sym (append-nil (births_at m q))

  pub births_removed : (births : List ℕ) (b : ℕ) (w : Option KeyBirths) → births_at m key ≡ births → births_or_none w ≡ births_without b births → Puts m n key w
      → (q : ℕ) → births_at n q ≡ cond (key == q) (births_without b (births_at m q)) (births_at m q)
  births_removed births b w is left h q = listed w h q ∙ go (key == q) refl
    where
      go : (t : Bool) → (key == q) ≡ t → cond t (births_or_none w) (births_at m q) ≡ cond t (births_without b (births_at m q)) (births_at m q)
      go true e = left ∙ ap (births_without b) (sym is ∙ ap (births_at m) (eqb-true key q e))
      go false e = refl

  -- under a key stands what stood there
  pub births_unchanged : (w : Option KeyBirths) → births_or_none w ≡ births_at m key → Puts m n key w → (q : ℕ) → births_at n q ≡ births_at m q
  births_unchanged w is h q = listed w h q ∙ go (key == q) refl
    where
      go : (t : Bool) → (key == q) ≡ t → cond t (births_or_none w) (births_at m q) ≡ births_at m q
      go true e = is ∙ ap (births_at m) (eqb-true key q e)
      go false e = refl

pub nothing_removed : (m : Lists) (key : ℕ) (b : ℕ) → births_at m key ≡ [] → (q : ℕ) → births_at m q ≡ cond (key == q) (births_without b (births_at m q)) (births_at m q)
nothing_removed m key b is q = go (key == q) refl
  where
    go : (t : Bool) → (key == q) ≡ t → births_at m q ≡ cond t (births_without b (births_at m q)) (births_at m q)
    go true e = let none : births_at m q ≡ [] = sym (ap (births_at m) (eqb-true key q e)) ∙ is in none ∙ sym (ap (births_without b) none)
    go false e = refl

pub emptied : (xs : List ℕ) → (length xs == 0) ≡ true → xs ≡ []
emptied [] e = refl
emptied (x ∷ xs) e = absurd (let l : suc (length xs) ≡ 0 = eqb-true (suc (length xs)) 0 e in omega arith)
