-- The parts of 32 bytes of a list.
use Rattle.std.proofs.Common.{◌≡◌, ℕ, suc, ◌+◌, ◌≤◌, List, ◌∷◌, ◌++◌, ◌∙◌, length, take, drop, ap, sym, refl, arith}
use Rattle.std.proofs.lemmas.List.{take-append-le, drop-append-le, drop-drop, drop-take, drop_at, take_at, take-take, length-drop}
use Rattle.signing.specs.Signatures.{part}

module _ (x : ℕ) (xs ys : List ℕ) where
  -- after the first byte
  pub part_front : (at : ℕ) → at + 32 ≤ length xs → part (x ∷ xs ++ ys) (1 + at) ≡ part xs at
  part_front at room =
      let next : 1 + at ≡ suc at = omega arith in
      let start : at ≤ length xs = omega arith in
      let rest = length-drop at xs in
      let end : 32 ≤ length (drop at xs) = omega arith in
      rw (next, drop-append-le at xs ys start, take-append-le 32 (drop at xs) ys end) refl

  -- after the first list
  pub part_back : (n at : ℕ) → n ≡ 1 + length xs → part (x ∷ xs ++ ys) (n + at) ≡ part ys at
  part_back n at whole =
      let before : length (x ∷ xs) ≡ n = omega arith in
      rw (← drop-drop at n (x ∷ xs ++ ys), drop_at (x ∷ xs) ys n before) refl

module _ (zs xs ys : List ℕ) (at : ℕ) (both : take 64 (drop at zs) ≡ xs ++ ys) (half : length xs ≡ 32) where
  pub part_first : part zs at ≡ xs
  part_first = sym (take-take 32 64 (drop at zs) (omega arith)) ∙ ap (take 32) both ∙ take_at xs ys 32 half

  pub part_second : part zs (32 + at) ≡ ys
  part_second =
      let order : 32 + at ≡ at + 32 = omega arith in
      rw (order, ← drop-drop 32 at zs) (sym (drop-take 32 32 (drop at zs)) ∙ ap (drop 32) both ∙ drop_at xs ys 32 half)
