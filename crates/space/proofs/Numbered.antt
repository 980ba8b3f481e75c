-- What a change at a number leaves under each number of a table.
use Rattle.std.proofs.Common.{◌≡◌, ℕ, zero, suc, ◌≤◌, ◌<◌, Bool, true, false, cond, List, [], ◌∷◌, ◌++◌, length, get_or}
use Rattle.std.proofs.Common.{set, refl, sym, ap, subst, ◌∙◌, arith, inl, inr, append-nil, eq-eqb}
use Rattle.std.specs.Prelude.{◌==◌}
use Rattle.std.proofs.lemmas.Bool.{cases_eq, ne_eqb, eqb-true}
use Rattle.std.proofs.lemmas.List.{get_or-set_same, get_or-set_other, get_or_default, get_or_past}
use Rattle.space.specs.Ages.{births_without, ListedBirths}
use Rattle.space.specs.Filing.{no_list}

-- an empty list more changes nothing
pub one_more : (ls : List ListedBirths) (l : ListedBirths) → l.births ≡ [] → (n : ℕ) → (get_or (ls ++ l ∷ []) n no_list).births ≡ (get_or ls n no_list).births
one_more [] l e zero = e
one_more [] l e (suc n) = refl
one_more (x ∷ xs) l e zero = refl
one_more (x ∷ xs) l e (suc n) = one_more xs l e n

-- only a number that a table reaches has room
pub room_within : (ls : List ListedBirths) (n : ℕ) → 0 < (get_or ls n no_list).room → n < length ls
room_within [] n h = absurd (omega arith)
room_within (x ∷ xs) zero h = omega arith
room_within (x ∷ xs) (suc n) h = let r : n < length xs = room_within xs n h in omega arith

-- ---- a list takes the place of another

module _ (ls : List ListedBirths) (i : ℕ) (x l : ListedBirths) (within : i < length ls) (was : x ≡ get_or ls i x) where
  pub read : x ≡ get_or ls i no_list
  read = was ∙ get_or_default ls i x no_list within

  written : (n : ℕ) → get_or (set ls i l) n no_list ≡ cond (i == n) l (get_or ls n no_list)
  written n = elim (cases_eq i n) [
    | inl same ↦
        subst (λ (k : ℕ). get_or (set ls i l) k no_list ≡ cond (i == k) l (get_or ls k no_list)) same
        (get_or-set_same ls i l no_list within ∙ sym (ap (λ t. cond t l (get_or ls i no_list)) (eq-eqb i i refl)))
    | inr other ↦
        get_or-set_other ls i n l no_list (λ e. other (sym e)) ∙ sym (ap (λ t. cond t l (get_or ls n no_list)) (ne_eqb i n other))
  ]

  listed : (n : ℕ) → (get_or (set ls i l) n no_list).births ≡ cond (i == n) l.births (get_or ls n no_list).births
  listed n = ap (λ (y : ListedBirths). y.births) (written n) ∙ go (i == n)
    where
      go : (t : Bool) → (cond t l (get_or ls n no_list)).births ≡ cond t l.births (get_or ls n no_list).births
      go true = refl
      go false = refl

  -- the births that were there
  there : (n : ℕ) → (i == n) ≡ true → x.births ≡ (get_or ls n no_list).births
  there n t = ap (λ (y : ListedBirths). y.births) read ∙ ap (λ (k : ℕ). (get_or ls k no_list).births) (eqb-true i n t)

  pub births_unchanged : l.births ≡ x.births → (n : ℕ) → (get_or (set ls i l) n no_list).births ≡ (get_or ls n no_list).births
  births_unchanged e n = listed n ∙ go (i == n) refl
    where
      go : (t : Bool) → (i == n) ≡ t → cond t l.births (get_or ls n no_list).births ≡ (get_or ls n no_list).births
      go true h = e ∙ there n h
      go false h = refl

  pub births_added : (b : ℕ) → l.births ≡ x.births ++ b ∷ [] → (n : ℕ) → (get_or (set ls i l) n no_list).births ≡ (get_or ls n no_list).births ++ cond (i == n) (b ∷ []) []
  births_added b e n = listed n ∙ go (i == n) refl
    where
      go : (t : Bool) → (i == n) ≡ t → cond t l.births (get_or ls n no_list).births ≡ (get_or ls n no_list).births ++ cond t (b ∷ []) []
      go true h = e ∙ ap (λ xs. xs ++ b ∷ []) (there n h)
      go false h = sym (append-nil (get_or ls n no_list).births)

  pub births_removed : (b : ℕ) → l.births ≡ births_without b x.births
      → (n : ℕ) → (get_or (set ls i l) n no_list).births ≡ cond (i == n) (births_without b (get_or ls n no_list).births) (get_or ls n no_list).births
  births_removed b e n = listed n ∙ go (i == n) refl
    where
      go : (t : Bool) → (i == n) ≡ t → cond t l.births (get_or ls n no_list).births ≡ cond t (births_without b (get_or ls n no_list).births) (get_or ls n no_list).births
      go true h = e ∙ ap (births_without b) (there n h)
      go false h = refl

-- a number that a table doesn't reach has no births
pub nothing_removed : (ls : List ListedBirths) (i b : ℕ) → length ls ≤ i
    → (n : ℕ) → (get_or ls n no_list).births ≡ cond (i == n) (births_without b (get_or ls n no_list).births) (get_or ls n no_list).births
nothing_removed ls i b past n = go (i == n) refl
  where
    go : (t : Bool) → (i == n) ≡ t → (get_or ls n no_list).births ≡ cond t (births_without b (get_or ls n no_list).births) (get_or ls n no_list).births
    go true h =
        let same : i ≡ n = eqb-true i n h in
        let none : (get_or ls n no_list).births ≡ [] = ap (λ (y : ListedBirths). y.births) (get_or_past ls n no_list (omega arith)) in
        none ∙ sym (ap (births_without b) none)
    go false h = refl
