-- Lists of texts, one item after another.
use Rattle.std.proofs.Common.{◌≡◌, ℕ, ◌+◌, ◌<◌, ◌≤◌, List, [], ◌∷◌, ◌++◌, length, take, get_or, refl, ap, sym, ◌∙◌, subst, append-nil, append_assoc}
use Rattle.std.specs.Prelude.{flat_map, map}
use Rattle.std.proofs.lemmas.List.{take_more, take_all, get_or_default}
use Rattle.trace_text.specs.Lists.{gap_behind, separated, separated_or}

module _ {X : Type 0} (gap : List ℕ) (text : X → List ℕ) where
  more_texts : (xs : List X) (x : X) → flat_map (λ y. gap ++ text y) (xs ++ x ∷ []) ≡ flat_map (λ y. gap ++ text y) xs ++ (gap ++ text x)
  more_texts [] x = append-nil (gap ++ text x)
  more_texts (y ∷ ys) x =
      ap (λ t. (gap ++ text y) ++ t) (more_texts ys x)
      ∙ sym (append_assoc (gap ++ text y) (flat_map (λ z. gap ++ text z) ys) (gap ++ text x))

  pushed : (xs : List X) (x : X) → separated gap text (xs ++ x ∷ []) ≡ separated gap text xs ++ (gap_behind gap xs ++ text x)
  pushed [] x = append-nil (text x)
  pushed (y ∷ ys) x =
      ap (λ t. text y ++ t) (more_texts ys x)
      ∙ sym (append_assoc (text y) (flat_map (λ z. gap ++ text z) ys) (gap ++ text x))

  behind_some : (xs : List X) (x : X) → gap_behind gap (xs ++ x ∷ []) ≡ gap
  behind_some [] x = refl
  behind_some (y ∷ ys) x = refl

  -- The items done are written, and the separator is that of the next.
  pub record SoFar (old out sep : List ℕ) (done : List X) : Type 0 where
    pub written : out ≡ old ++ separated gap text done
    pub behind : sep ≡ gap_behind gap done

  pub none_yet : (old : List ℕ) → SoFar old old [] []
  none_yet old = record { written = sym (append-nil old); behind = refl }

  pub one_more : (old out sep new : List ℕ) (xs : List X) (i : ℕ) (x : X) → i < length xs → x ≡ get_or xs i x → SoFar old out sep (take i xs) → new ≡ out ++ (sep ++ text x) → SoFar old new gap (take (i + 1) xs)
  one_more old out sep new xs i x p e h n =
      let more : take (i + 1) xs ≡ take i xs ++ x ∷ [] = take_more xs i x p ∙ ap (λ y. take i xs ++ y ∷ []) (sym e) in
      subst (SoFar old new gap) (sym more) (record {
        written =
            n ∙ ap (λ t. t ++ (sep ++ text x)) h.written ∙ append_assoc old (separated gap text (take i xs)) (sep ++ text x)
            ∙ ap (λ s. old ++ (separated gap text (take i xs) ++ (s ++ text x))) h.behind
            ∙ ap (λ t. old ++ t) (sym (pushed (take i xs) x));
        behind = sym (behind_some (take i xs) x);
      })

  pub one_more_at : (old out sep new : List ℕ) (xs : List X) (i : ℕ) (d : X) → i < length xs → SoFar old out sep (take i xs) → new ≡ out ++ (sep ++ text (get_or xs i d)) → SoFar old new gap (take (i + 1) xs)
  one_more_at old out sep new xs i d p h n = one_more old out sep new xs i (get_or xs i d) p (get_or_default xs i d (get_or xs i d) p) h n

  -- an error in an item leaves the old bytes in front
  pub stopped : (old out sep new : List ℕ) (done : List X) → SoFar old out sep done → (more : List ℕ) × (new ≡ out ++ more) → (more : List ℕ) × (new ≡ old ++ more)
  stopped old out sep new done h (more, e) = (separated gap text done ++ more, e ∙ ap (λ t. t ++ more) h.written ∙ append_assoc old (separated gap text done) more)

  pub some_listed : (none : List ℕ) (xs : List X) → (length xs ≡ 0 → ⊥) → separated_or gap none text xs ≡ separated gap text xs
  some_listed none [] h = absurd (h refl)
  some_listed none (x ∷ xs) h = refl

  -- the texts of views are texts
  flat_view : {Y : Type 0} (view : Y → X) (ys : List Y) → flat_map (λ x. gap ++ text x) (map view ys) ≡ flat_map (λ y. gap ++ text (view y)) ys
  flat_view view [] = refl
  flat_view view (y ∷ ys) = ap (λ t. (gap ++ text (view y)) ++ t) (flat_view view ys)

  pub listed_view : {Y : Type 0} (none : List ℕ) (view : Y → X) (ys : List Y) → separated_or gap none text (map view ys) ≡ separated_or gap none (λ y. text (view y)) ys
  listed_view none view [] = refl
  listed_view none view (y ∷ ys) = ap (λ t. text (view y) ++ t) (flat_view view ys)

  -- all items are written, if there are some
  pub all_listed : (none old out sep : List ℕ) (xs : List X) (i : ℕ) → length xs ≤ i → (length xs ≡ 0 → ⊥) → SoFar old out sep (take i xs) → out ≡ old ++ separated_or gap none text xs
  all_listed none old out sep xs i full some h =
      h.written ∙ ap (λ ys. old ++ separated gap text ys) (take_all i xs full) ∙ ap (λ t. old ++ t) (sym (some_listed none xs some))
