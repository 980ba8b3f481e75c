-- First matches, and lists without them.
use Rattle.std.proofs.Common.{◌≡◌, ℕ, suc, ◌+◌, ◌≤◌, ◌<◌, Bool, true, false, not, cond, List, [], ◌∷◌, length, get_or}
use Rattle.std.proofs.Common.{map, Some, None, option_map, refl, sym, ap, subst, arith}
use Rattle.std.specs.Prelude.{find, position, nat_lt, remove}
use Rattle.std.specs.List.{position_or_len}
use Rattle.std.proofs.lemmas.Bool.{ltb-true, ltb-false}
use Rattle.space.specs.Applying.{without_first}

module _ {X : Type 0} (p : X → Bool) where
  pub position-first : (xs : List X) (i : ℕ) → position p xs ≡ Some i → (i ≡ position_or_len p xs) × (i < length xs)
  position-first xs i e = go (nat_lt (position_or_len p xs) (length xs)) refl e
    where
      go : (b : Bool) → nat_lt (position_or_len p xs) (length xs) ≡ b → cond b (Some (position_or_len p xs)) None ≡ Some i → (i ≡ position_or_len p xs) × (i < length xs)
      go true t e = let h : i ≡ position_or_len p xs = cc in (h, subst (λ k. k < length xs) (sym h) (ltb-true _ _ t))
      go false t e = absurd (let g : ⊥ = cc in g)

  pub position-none : (xs : List X) → position p xs ≡ None → length xs ≤ position_or_len p xs
  position-none xs e = go (nat_lt (position_or_len p xs) (length xs)) refl e
    where
      go : (b : Bool) → nat_lt (position_or_len p xs) (length xs) ≡ b → cond b (Some (position_or_len p xs)) None ≡ None → length xs ≤ position_or_len p xs
      go true t e = absurd (let g : ⊥ = cc in g)
      go false t e = ltb-false _ _ t

  -- the first element that passes is found, and taken away by its index
  find_first : (xs : List X) (d : X) → position_or_len p xs < length xs → find p xs ≡ Some (get_or xs (position_or_len p xs) d)
  find_first [] d l = absurd (omega arith)
  find_first (x ∷ xs) d l = go (p x) (find_first xs d) l
    where
      go : (b : Bool) → (position_or_len p xs < length xs → find p xs ≡ Some (get_or xs (position_or_len p xs) d))
          → cond (not b) (1 + position_or_len p xs) 0 < suc (length xs)
          → cond b (Some x) (find p xs) ≡ Some (get_or (x ∷ xs) (cond (not b) (1 + position_or_len p xs) 0) d)
      go true below l = refl
      go false below l = let e : 1 + position_or_len p xs ≡ suc (position_or_len p xs) = omega arith in rw e (below (omega arith))

  find_none : (xs : List X) → length xs ≤ position_or_len p xs → find p xs ≡ None
  find_none [] l = refl
  find_none (x ∷ xs) l = go (p x) (find_none xs) l
    where
      go : (b : Bool) → (length xs ≤ position_or_len p xs → find p xs ≡ None)
          → suc (length xs) ≤ cond (not b) (1 + position_or_len p xs) 0
          → cond b (Some x) (find p xs) ≡ None
      go true below l = absurd (omega arith)
      go false below l = below (omega arith)

  without_first_at : (xs : List X) → position_or_len p xs < length xs → without_first p xs ≡ remove xs (position_or_len p xs)
  without_first_at [] l = absurd (omega arith)
  without_first_at (x ∷ xs) l = go (p x) (without_first_at xs) l
    where
      go : (b : Bool) → (position_or_len p xs < length xs → without_first p xs ≡ remove xs (position_or_len p xs))
          → cond (not b) (1 + position_or_len p xs) 0 < suc (length xs)
          → cond b xs (x ∷ without_first p xs) ≡ remove (x ∷ xs) (cond (not b) (1 + position_or_len p xs) 0)
      go true below l = refl
      go false below l = let e : 1 + position_or_len p xs ≡ suc (position_or_len p xs) = omega arith in rw e (ap (λ ys. x ∷ ys) (below (omega arith)))

  without_first_none : (xs : List X) → length xs ≤ position_or_len p xs → without_first p xs ≡ xs
  without_first_none [] l = refl
  without_first_none (x ∷ xs) l = go (p x) (without_first_none xs) l
    where
      go : (b : Bool) → (length xs ≤ position_or_len p xs → without_first p xs ≡ xs)
          → suc (length xs) ≤ cond (not b) (1 + position_or_len p xs) 0
          → cond b xs (x ∷ without_first p xs) ≡ x ∷ xs
      go true below l = absurd (omega arith)
      go false below l = ap (λ ys. x ∷ ys) (below (omega arith))

  pub found_at : (xs : List X) (i : ℕ) (d : X) → position p xs ≡ Some i → find p xs ≡ Some (get_or xs i d)
  found_at xs i d e = let h = position-first xs i e in rw h.0 (find_first xs d (subst (λ k. k < length xs) h.0 h.1))

  pub found_none : (xs : List X) → position p xs ≡ None → find p xs ≡ None
  found_none xs e = find_none xs (position-none xs e)

  pub removed_at : (xs : List X) (i : ℕ) → position p xs ≡ Some i → without_first p xs ≡ remove xs i
  removed_at xs i e = let h = position-first xs i e in rw h.0 (without_first_at xs (subst (λ k. k < length xs) h.0 h.1))

  pub removed_none : (xs : List X) → position p xs ≡ None → without_first p xs ≡ xs
  removed_none xs e = without_first_none xs (position-none xs e)

module _ {X Y : Type 0} (f : X → Y) (p : Y → Bool) where
  pub find-map : (xs : List X) → find p (map f xs) ≡ option_map f (find (λ x. p (f x)) xs)
  find-map [] = refl
  find-map (x ∷ xs) = go (p (f x)) (find-map xs)
    where
      go : (b : Bool) → find p (map f xs) ≡ option_map f (find (λ x. p (f x)) xs)
          → cond b (Some (f x)) (find p (map f xs)) ≡ option_map f (cond b (Some x) (find (λ x. p (f x)) xs))
      go true below = refl
      go false below = below

  pub without_first-map : (xs : List X) → map f (without_first (λ x. p (f x)) xs) ≡ without_first p (map f xs)
  without_first-map [] = refl
  without_first-map (x ∷ xs) = go (p (f x)) (without_first-map xs)
    where
      go : (b : Bool) → map f (without_first (λ x. p (f x)) xs) ≡ without_first p (map f xs)
          → map f (cond b xs (x ∷ without_first (λ x. p (f x)) xs)) ≡ cond b (map f xs) (f x ∷ without_first p (map f xs))
      go true below = refl
      go false below = ap (λ ys. f x ∷ ys) below
