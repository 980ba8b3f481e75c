-- Parts that are appended one after another.
use Rattle.std.proofs.Common.{◌≡◌, ℕ, zero, suc, ◌+◌, ◌<◌, ◌≤◌, List, [], ◌∷◌, ◌++◌, length, take, drop, map, get_or}
use Rattle.std.proofs.Common.{ap, sym, ◌∙◌, append_assoc, append-nil, arith}
use Rattle.std.proofs.lemmas.List.{at_drop_more, at_drop_all, length-take, take-append-le}
use Rattle.wire_format.specs.Lists.{Each}

module _ (start : List ℕ) where
  pub two : (a b x y : List ℕ) → x ≡ start ++ a → y ≡ x ++ b → y ≡ start ++ (a ++ b)
  two a b x y p q = rw (q, p) (append_assoc start a b)

  pub three : (a b c x y z : List ℕ) → x ≡ start ++ a → y ≡ x ++ b → z ≡ y ++ c → z ≡ start ++ (a ++ (b ++ c))
  three a b c x y z p q r = two a (b ++ c) x z p (rw (r, q) (append_assoc x b c))

  pub four : (a b c d x y z w : List ℕ) → x ≡ start ++ a → y ≡ x ++ b → z ≡ y ++ c → w ≡ z ++ d → w ≡ start ++ (a ++ (b ++ (c ++ d)))
  four a b c d x y z w p q r s = three a b (c ++ d) x y w p q (rw (s, r) (append_assoc y c d))

  pub five : (a b c d e x y z w v : List ℕ) → x ≡ start ++ a → y ≡ x ++ b → z ≡ y ++ c → w ≡ z ++ d → v ≡ w ++ e → v ≡ start ++ (a ++ (b ++ (c ++ (d ++ e))))
  five a b c d e x y z w v p q r s t = four a b c (d ++ e) x y z v p q r (rw (t, s) (append_assoc z d e))

pub each_at : {X A : Type 0} (P : A → Type 0) (view : X → A) (xs : List X) (i : ℕ) (d : X) → Each P (map view xs) → i < length xs → P (view (get_or xs i d))
each_at P view [] i d e p = absurd (omega arith)
each_at P view (x ∷ xs) zero d e p = e.0
each_at P view (x ∷ xs) (suc i) d e p = each_at P view xs i d e.1 (omega arith)

-- Items that a loop appends one after another. The text of all is the text of the first, and then that of the others.
module _ {X : Type 0} (all : List X → List ℕ) (one : X → List ℕ) (first : (x : X) (xs : List X) → all (x ∷ xs) ≡ one x ++ all xs) where
  pub one_more : (xs : List X) (i : ℕ) (d : X) (out more whole : List ℕ) → i < length xs → more ≡ out ++ one (get_or xs i d) → out ++ all (drop i xs) ≡ whole → more ++ all (drop (i + 1) xs) ≡ whole
  one_more xs i d out more whole p q w =
      let rest : List ℕ = all (drop (i + 1) xs) in
      let s : all (drop i xs) ≡ one (get_or xs i d) ++ rest = at_drop_more all xs i d p ∙ first (get_or xs i d) (drop (i + 1) xs) in
      ap (λ o. o ++ rest) q ∙ append_assoc out (one (get_or xs i d)) rest ∙ ap (λ z. out ++ z) (sym s) ∙ w

  pub none_left : (xs : List X) (i : ℕ) (out whole : List ℕ) → length xs ≤ i → all [] ≡ [] → out ++ all (drop i xs) ≡ whole → out ≡ whole
  none_left xs i out whole p n w = sym (append-nil out) ∙ ap (λ z. out ++ z) (sym (at_drop_all all xs i p ∙ n)) ∙ w

-- the old bytes still stand at the front
pub kept_more : (n : ℕ) (old out more a : List ℕ) → n ≡ length old → take n out ≡ old → more ≡ out ++ a → take n more ≡ old
kept_more n old out more a l k q =
    let p : n ≤ length out = omega (arith, ap length k, length-take n out, l) in
    ap (take n) q ∙ take-append-le n out a p ∙ k
