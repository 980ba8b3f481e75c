-- Laws of counts.
use Rattle.std.proofs.Common.{◌≡◌, ℕ, zero, suc, ◌+◌, ◌*◌, ◌≤◌, ◌<◌, Bool, true, false, cond, ◌&&◌, ◌||◌, not, ◌==◌, List, [], ◌∷◌, length, eqb-true, refl, ap, ◌∙◌, arith}
use Rattle.std.proofs.lemmas.Bool.{eqb-false, and_parts}
use Rattle.quorum.specs.Quorum.{count_below, member, QuorumsMeet, OneIsCorrect}

-- the counts of two tests on one number, and of both
step : (x y : Bool) (a b c n : ℕ) → a + b ≤ n + c
    → cond x (suc a) a + cond y (suc b) b ≤ suc n + cond (x && y) (suc c) c
step true true a b c n h = omega arith
step true false a b c n h = omega arith
step false true a b c n h = omega arith
step false false a b c n h = omega arith

pub two_meet : (p q : ℕ → Bool) (n : ℕ) → count_below p n + count_below q n ≤ n + count_below (λ k. p k && q k) n
two_meet p q zero = omega arith
two_meet p q (suc n) =
    step (p n) (q n) (count_below p n) (count_below q n) (count_below (λ k. p k && q k) n) n (two_meet p q n)

-- if more pass p than q, some number passes p and not q
pub some_more : (p q : ℕ → Bool) (n : ℕ) → count_below q n < count_below p n
    → (k : ℕ) × (k < n) × (q k ≡ false) × (p k ≡ true)
some_more p q zero h = absurd (omega arith)
some_more p q (suc n) h = go (p n) (q n) refl refl h (some_more p q n)
  where
    wider : (k : ℕ) × (k < n) × (q k ≡ false) × (p k ≡ true) → (k : ℕ) × (k < suc n) × (q k ≡ false) × (p k ≡ true)
    wider r = let lt : r.0 < suc n = omega arith in (r.0, lt, r.2, r.3)

    go : (x y : Bool) → p n ≡ x → q n ≡ y → cond y (suc (count_below q n)) (count_below q n) < cond x (suc (count_below p n)) (count_below p n)
        → (count_below q n < count_below p n → (k : ℕ) × (k < n) × (q k ≡ false) × (p k ≡ true))
        → (k : ℕ) × (k < suc n) × (q k ≡ false) × (p k ≡ true)
    go true false e d g below = let lt : n < suc n = omega arith in (n, lt, d, e)
    go true true e d g below = let lt : count_below q n < count_below p n = omega arith in wider (below lt)
    go false true e d g below = let lt : count_below q n < count_below p n = omega arith in wider (below lt)
    go false false e d g below = let lt : count_below q n < count_below p n = omega arith in wider (below lt)

pub quorums_meet : QuorumsMeet
quorums_meet f faulty p q few first second =
    let n : ℕ = 3 * f + 1 in
    let meet : count_below p n + count_below q n ≤ n + count_below (λ k. p k && q k) n = two_meet p q n in
    let more : count_below faulty n < count_below (λ k. p k && q k) n = omega arith in
    let r = some_more (λ k. p k && q k) faulty n more in
    let b = and_parts (p r.0) (q r.0) r.3 in
    (r.0, r.1, r.2, b.0, b.1)

pub one_is_correct : OneIsCorrect
one_is_correct f n faulty p few enough =
    let more : count_below faulty n < count_below p n = omega arith in
    some_more p faulty n more

-- if all that pass p pass q, no more pass p
pub count_mono : (p q : ℕ → Bool) (n : ℕ) → ((k : ℕ) → k < n → p k ≡ true → q k ≡ true) → count_below p n ≤ count_below q n
count_mono p q zero h = omega arith
count_mono p q (suc n) h =
    let below : count_below p n ≤ count_below q n = count_mono p q n (λ k l. let m : k < suc n = omega arith in h k m) in
    let last : n < suc n = omega arith in
    go (p n) (q n) below (h n last)
  where
    go : (x y : Bool) → count_below p n ≤ count_below q n → (x ≡ true → y ≡ true)
        → cond x (suc (count_below p n)) (count_below p n) ≤ cond y (suc (count_below q n)) (count_below q n)
    go true true below f = omega arith
    go true false below f = absurd (let e : false ≡ true = f refl in cc)
    go false true below f = omega arith
    go false false below f = omega arith

-- if two tests are the same on each number, as many pass
pub count_same : (p q : ℕ → Bool) → ((s : ℕ) → p s ≡ q s) → (n : ℕ) → count_below p n ≡ count_below q n
count_same p q h zero = refl
count_same p q h (suc n) = ap (λ (b : Bool). cond b (suc (count_below p n)) (count_below p n)) (h n) ∙ ap (λ (m : ℕ). cond (q n) (suc m) m) (count_same p q h n)

-- one more passes if a is let in
pub count_with : (p : ℕ → Bool) (a n : ℕ) → a < n → suc (count_below (λ s. not (s == a) && p s) n) ≤ count_below (λ s. (s == a) || p s) n
count_with p a zero h = absurd (omega arith)
count_with p a (suc n) h = go (n == a) refl (p n) (count_with p a n) refl
  where
    out : ℕ → Bool
    out s = not (s == a) && p s

    within : ℕ → Bool
    within s = (s == a) || p s

    keeps : (x y : Bool) → (not x && y) ≡ true → (x || y) ≡ true
    keeps true y e = refl
    keeps false y e = e

    go : (x : Bool) → (n == a) ≡ x → (y : Bool) → (a < n → suc (count_below (λ s. not (s == a) && p s) n) ≤ count_below (λ s. (s == a) || p s) n) → p n ≡ y
        → suc (cond (not x && y) (suc (count_below (λ s. not (s == a) && p s) n)) (count_below (λ s. not (s == a) && p s) n))
        ≤ cond (x || y) (suc (count_below (λ s. (s == a) || p s) n)) (count_below (λ s. (s == a) || p s) n)
    go true e y below f =
        let mono : count_below (λ s. not (s == a) && p s) n ≤ count_below (λ s. (s == a) || p s) n =
        count_mono (λ s. not (s == a) && p s) (λ s. (s == a) || p s) n (λ k l. keeps (k == a) (p k)) in
        omega arith
    go false e true below f =
        let ne : n ≡ a → ⊥ = eqb-false n a e in
        let lt : a < n = omega arith in
        let b = below lt in
        omega arith
    go false e false below f =
        let ne : n ≡ a → ⊥ = eqb-false n a e in
        let lt : a < n = omega arith in
        let b = below lt in
        omega arith

-- at most one more passes if one number is let in
one_more : (p : ℕ → Bool) (a n : ℕ) → (count_below (λ s. (a == s) || p s) n ≤ suc (count_below p n)) × (n ≤ a → count_below (λ s. (a == s) || p s) n ≤ count_below p n)
one_more p a zero = (omega arith, λ h. omega arith)
one_more p a (suc n) = go (a == n) refl (p n) (one_more p a n)
  where
    go : (x : Bool) → (a == n) ≡ x → (y : Bool) → (count_below (λ s. (a == s) || p s) n ≤ suc (count_below p n)) × (n ≤ a → count_below (λ s. (a == s) || p s) n ≤ count_below p n)
        → (cond (x || y) (suc (count_below (λ s. (a == s) || p s) n)) (count_below (λ s. (a == s) || p s) n) ≤ suc (cond y (suc (count_below p n)) (count_below p n)))
        × (suc n ≤ a → cond (x || y) (suc (count_below (λ s. (a == s) || p s) n)) (count_below (λ s. (a == s) || p s) n) ≤ cond y (suc (count_below p n)) (count_below p n))
    go true e true h = let is : a ≡ n = eqb-true a n e in let le : n ≤ a = omega arith in let k = h.1 le in (omega arith, λ g. omega arith)
    go true e false h = let is : a ≡ n = eqb-true a n e in let le : n ≤ a = omega arith in let k = h.1 le in (omega arith, λ g. absurd (omega arith))
    go false e true h = (let k = h.0 in omega arith, λ g. let le : n ≤ a = omega arith in let k = h.1 le in omega arith)
    go false e false h = (h.0, λ g. let le : n ≤ a = omega arith in h.1 le)

-- no more numbers are members of the list than it has elements
pub count_members : (xs : List ℕ) (n : ℕ) → count_below (member xs) n ≤ length xs
count_members [] n = none n
  where
    none : (n : ℕ) → count_below (λ x. false) n ≤ 0
    none zero = omega arith
    none (suc n) = none n
count_members (y ∷ ys) n =
    let a : count_below (λ s. (y == s) || member ys s) n ≤ suc (count_below (member ys) n) = (one_more (member ys) y n).0 in
    let b : count_below (member ys) n ≤ length ys = count_members ys n in
    let c : count_below (λ s. (y == s) || member ys s) n ≤ suc (length ys) = omega arith in c

within_step : (u x y : Bool) (a b m d : ℕ) → a + b ≤ m + d
    → cond (u && x) (suc a) a + cond (u && y) (suc b) b ≤ cond u (suc m) m + cond (u && (x && y)) (suc d) d
within_step true true true a b m d h = omega arith
within_step true true false a b m d h = omega arith
within_step true false true a b m d h = omega arith
within_step true false false a b m d h = omega arith
within_step false x y a b m d h = h

-- the same within the numbers that pass u
pub two_within : (u p q : ℕ → Bool) (n : ℕ) → count_below (λ k. u k && p k) n + count_below (λ k. u k && q k) n ≤ count_below u n + count_below (λ k. u k && (p k && q k)) n
two_within u p q zero = omega arith
two_within u p q (suc n) =
    within_step (u n) (p n) (q n) (count_below (λ k. u k && p k) n) (count_below (λ k. u k && q k) n) (count_below u n) (count_below (λ k. u k && (p k && q k)) n) (two_within u p q n)

-- the numbers that pass and those that do not are all
pub count_not : (p : ℕ → Bool) (n : ℕ) → count_below p n + count_below (λ k. not (p k)) n ≡ n
count_not p zero = omega arith
count_not p (suc n) = go (p n) (count_not p n)
  where
    go : (x : Bool) → count_below p n + count_below (λ k. not (p k)) n ≡ n
        → cond x (suc (count_below p n)) (count_below p n) + cond (not x) (suc (count_below (λ k. not (p k)) n)) (count_below (λ k. not (p k)) n) ≡ suc n
    go true h = omega arith
    go false h = omega arith

pub count_none : (p : ℕ → Bool) (n : ℕ) → ((k : ℕ) → p k ≡ false) → count_below p n ≡ 0
count_none p zero h = refl
count_none p (suc n) h = go (p n) (h n) (count_none p n h)
  where
    go : (x : Bool) → x ≡ false → count_below p n ≡ 0 → cond x (suc (count_below p n)) (count_below p n) ≡ 0
    go false e k = k
    go true e k = absurd cc
