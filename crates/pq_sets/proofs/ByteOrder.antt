-- The order of digests: the first byte that differs decides.
use Rattle.std.specs.Prelude.{◌==◌, nat_lt}
use Rattle.std.proofs.Common.{◌≡◌, ℕ, ◌<◌, ◌⊎◌, inl, inr, true, List, [], ◌∷◌, arith, ◌&&◌, ◌||◌, eq-eqb, eqb-true}
use Rattle.std.proofs.lemmas.Bool.{and_parts, and_from, or_cases, or_left, or_right, lt-ltb, ltb-true}
use Rattle.wire_format.specs.Spelling.{bytes_before}

pub bytes_trans : (a b d : List ℕ) → bytes_before a b ≡ true → bytes_before b d ≡ true → bytes_before a d ≡ true
bytes_trans [] b d h k = absurd cc
bytes_trans (x ∷ xs) [] d h k = absurd cc
bytes_trans (x ∷ xs) (y ∷ ys) [] h k = absurd cc
bytes_trans (x ∷ xs) (y ∷ ys) (z ∷ zs) h k =
    go (or_cases (nat_lt x y) ((x == y) && bytes_before xs ys) h) (or_cases (nat_lt y z) ((y == z) && bytes_before ys zs) k) (bytes_trans xs ys zs)
  where
    less : x < z → (nat_lt x z || ((x == z) && bytes_before xs zs)) ≡ true
    less l = or_left (nat_lt x z) ((x == z) && bytes_before xs zs) (lt-ltb x z l)

    go : (nat_lt x y ≡ true) ⊎ (((x == y) && bytes_before xs ys) ≡ true) → (nat_lt y z ≡ true) ⊎ (((y == z) && bytes_before ys zs) ≡ true)
        → (bytes_before xs ys ≡ true → bytes_before ys zs ≡ true → bytes_before xs zs ≡ true) → (nat_lt x z || ((x == z) && bytes_before xs zs)) ≡ true
    go (inl a) (inl b) rest = let p = ltb-true x y a in let q = ltb-true y z b in less (omega arith)
    go (inl a) (inr b) rest = let p = ltb-true x y a in let q = eqb-true y z (and_parts (y == z) (bytes_before ys zs) b).0 in less (omega arith)
    go (inr a) (inl b) rest = let p = eqb-true x y (and_parts (x == y) (bytes_before xs ys) a).0 in let q = ltb-true y z b in less (omega arith)
    go (inr a) (inr b) rest =
        let p = and_parts (x == y) (bytes_before xs ys) a in
        let q = and_parts (y == z) (bytes_before ys zs) b in
        let e = eqb-true x y p.0 in
        let f = eqb-true y z q.0 in
        or_right (nat_lt x z) ((x == z) && bytes_before xs zs) (and_from (x == z) (bytes_before xs zs) (eq-eqb x z (omega arith)) (rest p.1 q.1))

pub bytes_irreflexive : (a : List ℕ) → bytes_before a a ≡ true → ⊥
bytes_irreflexive [] h = absurd cc
bytes_irreflexive (x ∷ xs) h = go (or_cases (nat_lt x x) ((x == x) && bytes_before xs xs) h) (bytes_irreflexive xs)
  where
    go : (nat_lt x x ≡ true) ⊎ (((x == x) && bytes_before xs xs) ≡ true) → (bytes_before xs xs ≡ true → ⊥) → ⊥
    go (inl a) rest = let p = ltb-true x x a in absurd (omega arith)
    go (inr a) rest = rest (and_parts (x == x) (bytes_before xs xs) a).1
