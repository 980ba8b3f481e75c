-- The values that lists of owners hold, as owners are added, set and cloned.
use Rattle.std.proofs.Common.{◌≡◌, ℕ, zero, suc, List, [], ◌∷◌, length, set, get_or, map, replicate, refl, ap, sym, ◌∙◌}
use Rattle.std.proofs.lemmas.List.{map-set, set-get_or, length-map, length-replicate}
use Rattle.std.specs.List.{AllZip}

-- f gives the value of an owner.
module _ {A B : Type 0} (f : A → B) where
  pub held-set : (owners : List A) (i : ℕ) (owner : A) (x : B) → f owner ≡ x → map f (set owners i owner) ≡ set (map f owners) i x
  held-set owners i owner x e = map-set f owners i owner ∙ ap (set (map f owners) i) e

  -- clones hold the same
  pub held_by_clones : (owners clones : List A) → AllZip (λ x y. f y ≡ f x) owners clones → map f clones ≡ map f owners
  held_by_clones [] [] h = refl
  held_by_clones [] (y ∷ ys) h = absurd h
  held_by_clones (x ∷ xs) [] h = absurd h
  held_by_clones (x ∷ xs) (y ∷ ys) h = ap (λ z. z ∷ map f ys) h.0 ∙ ap (λ zs. f x ∷ zs) (held_by_clones xs ys h.1)

  pub map-replicate : (n : ℕ) (x : A) → map f (replicate n x) ≡ replicate n (f x)
  map-replicate zero x = refl
  map-replicate (suc n) x = ap (λ ys. f x ∷ ys) (map-replicate n x)

  pub same_count : (owners others : List A) → map f owners ≡ map f others → length owners ≡ length others
  same_count owners others e = sym (length-map owners f) ∙ ap length e ∙ length-map others f

  -- owners that all hold one value
  pub alike : (owners : List A) (n m : ℕ) (x y : B) → map f owners ≡ replicate n x → n ≡ m → x ≡ y → map f owners ≡ replicate m y
  alike owners n m x y e h p = e ∙ ap (λ k. replicate k x) h ∙ ap (replicate m) p

  pub count_alike : (owners : List A) (n : ℕ) (x : B) → map f owners ≡ replicate n x → length owners ≡ n
  count_alike owners n x e = sym (length-map owners f) ∙ ap length e ∙ length-replicate n x

-- setting a value that stands there changes nothing
pub set_there : {A : Type 0} (xs : List A) (i : ℕ) (d x : A) → get_or xs i d ≡ x → xs ≡ set xs i x
set_there xs i d x e = sym (set-get_or xs i d) ∙ ap (set xs i) e
