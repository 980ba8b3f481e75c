-- Births in order of age, without one of them.
use Rattle.std.proofs.Common.{◌≡◌, ◌≢◌, ℕ, zero, suc, ◌+◌, ◌-◌, ◌<◌, true, false, cond, List, [], ◌∷◌, ◌++◌, length}
use Rattle.std.proofs.Common.{drop, take, append_assoc, get_or, refl, sym, ap, subst, ◌∙◌, arith, inl, inr, eq-eqb, ltb}
use Rattle.std.specs.Prelude.{◌==◌, All, AllPairs, remove}
use Rattle.std.specs.List.Sorted.{IsPartitionPoint, IsPartitionedBy}
use Rattle.std.proofs.lemmas.Bool.{cases_eq, cases_lt, ne_eqb, ltb-true, ltb-false, lt-ltb}
use Rattle.std.proofs.lemmas.List.Elements.{All-head, All-tail}
use Rattle.std.proofs.lemmas.List.{drop-drop, drop_at, length-drop, length-take, length-take-le, take-take}
use borrow.Rule.Slice.PartMut.{mid_of, put_mid}
use Rattle.space.specs.Ages.{births_without}

-- the birth at a place is taken
pub without-at : (xs : List ℕ) (i b : ℕ) → AllPairs (λ a b. a < b) xs → i < length xs → get_or xs i 0 ≡ b → births_without b xs ≡ remove xs i
without-at [] i b h l e = absurd (omega arith)
without-at (x ∷ xs) zero b h l e = ap (λ t. cond t xs (x ∷ births_without b xs)) (eq-eqb x b e)
without-at (x ∷ xs) (suc i) b h l e =
    let less : x < get_or xs i 0 = h 0 (suc i) 0 (omega arith) (omega arith) in
    let here : get_or xs i 0 ≡ b = e in
    let t : (x == b) ≡ false = ne_eqb x b (λ same. omega arith) in
    ap (λ t. cond t xs (x ∷ births_without b xs)) t
    ∙ ap (λ ys. x ∷ ys) (without-at xs i b (λ j k d m n. h (suc j) (suc k) d (omega arith) (omega arith)) (omega arith) here)

pub without-none : (xs : List ℕ) (b : ℕ) → All (λ x. x ≢ b) xs → births_without b xs ≡ xs
without-none [] b h = refl
without-none (x ∷ xs) b h =
    ap (λ t. cond t xs (x ∷ births_without b xs)) (ne_eqb x b (All-head (λ y. y ≢ b) x xs h))
    ∙ ap (λ ys. x ∷ ys) (without-none xs b (All-tail (λ y. y ≢ b) x xs h))

-- a birth that isn't at its place is nowhere
pub absent : (xs : List ℕ) (b place : ℕ) → AllPairs (λ a b. a < b) xs → IsPartitionPoint (λ x. ltb x b ≡ true) (λ x. ltb x b ≡ false) xs place
    → ((d : ℕ) → place < length xs → get_or xs place d ≢ b) → All (λ x. x ≢ b) xs
absent xs b place h point none k d l same =
    elim (cases_lt k place) [
      | inl before ↦ let p = ltb-true (get_or xs k d) b (point.0 k d (omega arith) before) in omega arith
      | inr from ↦ elim (cases_eq k place) [
        | inl here ↦ none d (omega arith) (subst (λ j. get_or xs j d ≡ b) here same)
        | inr later ↦
            let p = h place k d (omega arith) l in
            let q = ltb-false (get_or xs place d) b (point.1 place d (omega arith) (omega arith)) in
            omega arith
      ]
    ]

pub rising_numbers : (xs : List ℕ) (b : ℕ) → AllPairs (λ a b. a < b) xs → IsPartitionedBy (λ x. ltb x b) xs
rising_numbers xs b h i j d l m e =
    elim (cases_eq i j) [
      | inl same ↦ subst (λ n. ltb (get_or xs n d) b ≡ true) (sym same) e
      | inr other ↦ let p = h i j d (omega arith) m in let q = ltb-true (get_or xs j d) b e in lt-ltb (get_or xs i d) b (omega arith)
    ]

-- ---- births with some taken from the front

pub drop-remove : (xs : List ℕ) (a p n : ℕ) → n ≡ a + p → n < length xs → drop a (remove xs n) ≡ remove (drop a xs) p
drop-remove xs zero p n e l = ap (remove xs) (let s : n ≡ p = omega arith in s)
drop-remove [] (suc a) p n e l = absurd (omega arith)
drop-remove (x ∷ xs) (suc a) p zero e l = absurd (omega arith)
drop-remove (x ∷ xs) (suc a) p (suc n) e l = drop-remove xs a p n (omega arith) (omega arith)

remove-parts : (xs : List ℕ) (p : ℕ) → p < length xs → take p xs ++ drop (suc p) xs ≡ remove xs p
remove-parts [] p l = absurd (omega arith)
remove-parts (x ∷ xs) zero l = refl
remove-parts (x ∷ xs) (suc p) l = ap (λ ys. x ∷ ys) (remove-parts xs p (omega arith))

-- after `xs[a..a + k].rotate_right(1)`, which brings the last one of the part to its front
pub drop-rotated : (xs ys : List ℕ) (a p k : ℕ) → k ≡ p + 1 → a + p < length xs
    → (let part = mid_of a k xs in ys ≡ drop (length part - 1) part ++ take (length part - 1) part)
    → drop (a + 1) (put_mid a k xs ys) ≡ remove (drop a xs) p
drop-rotated xs ys a p k e l turned =
    let rest = drop a xs in
    let part = take k rest in
    let long : length rest ≡ length xs - a = length-drop a xs in
    let size : length part ≡ p + 1 = omega (arith, length-take k rest) in
    let last : length part - 1 ≡ p = omega arith in
    let one : length (drop p part) ≡ 1 = omega (arith, length-drop p part) in
    let front : take p part ≡ take p rest = take-take p k rest (omega arith) in
    let whole : put_mid a k xs ys ≡ take a xs ++ (drop p part ++ (take p rest ++ drop k rest)) =
    ap (λ l. take a xs ++ (l ++ drop k rest)) (turned ∙ ap (λ n. drop n part ++ take n part) last)
    ∙ ap (λ l. take a xs ++ l) (append_assoc (drop p part) _ _ ∙ ap (λ l. drop p part ++ (l ++ drop k rest)) front) in
    let past : drop a (put_mid a k xs ys) ≡ drop p part ++ (take p rest ++ drop k rest) =
    ap (drop a) whole ∙ drop_at (take a xs) _ a (length-take-le a xs (omega arith)) in
    sym (drop-drop 1 a _) ∙ ap (drop 1) past ∙ drop_at (drop p part) _ 1 one
    ∙ ap (λ n. take p rest ++ drop n rest) (let n : k ≡ suc p = omega arith in n) ∙ remove-parts rest p (omega arith)
