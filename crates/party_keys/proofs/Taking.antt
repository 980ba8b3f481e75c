-- A list so far, and one item more.
use Rattle.std.proofs.Common.{◌≡◌, ℕ, zero, suc, ◌+◌, ◌<◌, ◌≤◌, List, [], ◌∷◌, ◌++◌, length, take, get_or, Option, Some, None, arith, ap, sym, ◌∙◌, subst}
use Rattle.std.specs.Prelude.{All, slice_get}
use Rattle.std.proofs.lemmas.List.{take_all, take_more}
use Rattle.std.proofs.lemmas.List.Elements.{All-nil, All-cons, All-append}
use Rattle.std.proofs.lemmas.Option.{get_or_from_slice_get, slice_get-get_or, slice_get_within}

module _ {X : Type 0} (P : X → Type 0) where
  pub all_more_at : (xs : List X) (i : ℕ) (d : X) → i < length xs → All P (take i xs) → P (get_or xs i d) → All P (take (i + 1) xs)
  all_more_at xs i d p h k =
      subst (All P) (sym (take_more xs i d p))
      (All-append P (take i xs) (get_or xs i d ∷ []) h (All-cons P (get_or xs i d) [] k (All-nil P)))

  pub all_done : (xs : List X) (i : ℕ) → length xs ≤ i → All P (take i xs) → All P xs
  all_done xs i full h = subst (All P) (take_all i xs full) h

module _ {X : Type 0} where
  pub got_more : (xs ys new : List X) (i : ℕ) (x : X) → slice_get xs i ≡ Some x → ys ≡ take i xs → new ≡ ys ++ x ∷ [] → new ≡ take (i + 1) xs
  got_more xs ys new i x got so_far pushed =
      let p : i < length xs = slice_get_within xs i x got in
      pushed ∙ ap (λ zs. zs ++ x ∷ []) so_far
      ∙ ap (λ y. take i xs ++ y ∷ []) (sym (get_or_from_slice_get xs i x x got)) ∙ sym (take_more xs i x p)
