-- All replicas but one, ascending.
use Rattle.std.proofs.Common.{arith, eqb-true, eq-eqb, ◌≡◌, ◌≢◌, ℕ, zero, suc, ◌+◌, ◌<◌, ◌≤◌, Bool, true, false, cond, List, [], ◌∷◌, ◌++◌, length, refl, sym, ap, ◌∙◌, not, filter, map, append-nil}
use Rattle.std.specs.Prelude.{◌==◌, nat_lt}
use Rattle.std.specs.List.{range_with_len}
use Rattle.std.proofs.lemmas.Bool.{and_from, lt-ltb, not-false}
use Rattle.std.proofs.lemmas.List.FromFn.{filter_of_map_range_with_len_more}
use Rattle.wire_format.specs.Lists.{ascends, leads}
use Rattle.frame_endpoint.specs.Endpoint.{others_below}

-- ---- one after another

map_same : (xs : List ℕ) → map (λ (x : ℕ). x) xs ≡ xs
map_same [] = refl
map_same (x ∷ xs) = ap (λ (ys : List ℕ). x ∷ ys) (map_same xs)

more : (n me : ℕ) → others_below (n + 1) me ≡ others_below n me ++ cond (not (n == me)) (n ∷ []) []
more n me =
    ap (filter (λ (r : ℕ). not (r == me))) (sym (map_same (range_with_len 0 (n + 1)))) ∙ filter_of_map_range_with_len_more (λ (r : ℕ). not (r == me)) (λ (x : ℕ). x) 0 n n (omega arith)
    ∙ ap (λ (xs : List ℕ). filter (λ (r : ℕ). not (r == me)) xs ++ cond (not (n == me)) (n ∷ []) []) (map_same (range_with_len 0 n))

others_push : (n me : ℕ) → (n == me) ≡ false → others_below (n + 1) me ≡ others_below n me ++ n ∷ []
others_push n me e = more n me ∙ ap (λ (b : Bool). others_below n me ++ cond (not b) (n ∷ []) []) e

others_skip : (n me : ℕ) → (n == me) ≡ true → others_below (n + 1) me ≡ others_below n me
others_skip n me e = more n me ∙ ap (λ (b : Bool). others_below n me ++ cond (not b) (n ∷ []) []) e ∙ append-nil (others_below n me)

-- as the loop has it
pub push_other : (xs ys : List ℕ) (n me : ℕ) → n ≢ me → xs ≡ others_below n me → ys ≡ xs ++ n ∷ [] → ys ≡ others_below (n + 1) me
push_other xs ys n me ne e p = go (n == me) refl
  where
    go : (b : Bool) → (n == me) ≡ b → ys ≡ others_below (n + 1) me
    go true h = absurd (ne (eqb-true n me h))
    go false h = p ∙ ap (λ (zs : List ℕ). zs ++ n ∷ []) e ∙ sym (others_push n me h)

pub skip_own : (xs : List ℕ) (n me : ℕ) → n ≡ me → xs ≡ others_below n me → xs ≡ others_below (n + 1) me
skip_own xs n me same e = e ∙ sym (others_skip n me (eq-eqb n me same))

-- ---- they ascend

kept : (p : ℕ → Bool) (x : ℕ) (xs : List ℕ) → p x ≡ true → filter p (x ∷ xs) ≡ x ∷ filter p xs
kept p x xs e = rw e refl

left_out : (p : ℕ → Bool) (x : ℕ) (xs : List ℕ) → p x ≡ false → filter p (x ∷ xs) ≡ filter p xs
left_out p x xs e = rw e refl

lead_case : (p : ℕ → Bool) (b a : ℕ) (xs : List ℕ) (t : Bool) → p a ≡ t → nat_lt b a ≡ true → leads nat_lt b (filter p xs) ≡ true → leads nat_lt b (filter p (a ∷ xs)) ≡ true
lead_case p b a xs true e l h = ap (leads nat_lt b) (kept p a xs e) ∙ l
lead_case p b a xs false e l h = ap (leads nat_lt b) (left_out p a xs e) ∙ h

above : (p : ℕ → Bool) (b a n : ℕ) → b < a → leads nat_lt b (filter p (range_with_len a n)) ≡ true
above p b a zero l = refl
above p b a (suc n) l = lead_case p b a (range_with_len (a + 1) n) (p a) refl (lt-ltb b a l) (above p b (a + 1) n (omega arith))

ascend_case : (p : ℕ → Bool) (a : ℕ) (xs : List ℕ) (t : Bool) → p a ≡ t → leads nat_lt a (filter p xs) ≡ true → ascends nat_lt (filter p xs) ≡ true → ascends nat_lt (filter p (a ∷ xs)) ≡ true
ascend_case p a xs true e l h = ap (ascends nat_lt) (kept p a xs e) ∙ and_from (leads nat_lt a (filter p xs)) (ascends nat_lt (filter p xs)) l h
ascend_case p a xs false e l h = ap (ascends nat_lt) (left_out p a xs e) ∙ h

filtered_ascend : (p : ℕ → Bool) (a n : ℕ) → ascends nat_lt (filter p (range_with_len a n)) ≡ true
filtered_ascend p a zero = refl
filtered_ascend p a (suc n) = ascend_case p a (range_with_len (a + 1) n) (p a) refl (above p a (a + 1) n (omega arith)) (filtered_ascend p (a + 1) n)

pub others_ascend : (n me : ℕ) → ascends nat_lt (others_below n me) ≡ true
others_ascend n me = filtered_ascend (λ r. not (r == me)) 0 n

-- ---- how many

few_case : (p : ℕ → Bool) (a : ℕ) (xs : List ℕ) (k : ℕ) (t : Bool) → p a ≡ t → length (filter p xs) ≤ k → length (filter p (a ∷ xs)) ≤ suc k
few_case p a xs k true e h = let s : length (filter p (a ∷ xs)) ≡ suc (length (filter p xs)) = ap length (kept p a xs e) in omega arith
few_case p a xs k false e h = let s : length (filter p (a ∷ xs)) ≡ length (filter p xs) = ap length (left_out p a xs e) in omega arith

filtered_few : (p : ℕ → Bool) (a n : ℕ) → length (filter p (range_with_len a n)) ≤ n
filtered_few p a zero = let e : length (filter p (range_with_len a zero)) ≡ 0 = refl in omega (arith, e)
filtered_few p a (suc n) = few_case p a (range_with_len (a + 1) n) n (p a) refl (filtered_few p (a + 1) n)

pub others_few : (n me : ℕ) → length (others_below n me) ≤ n
others_few n me = filtered_few (λ r. not (r == me)) 0 n

-- of two that differ one passes
one_case : (p : ℕ → Bool) (a b : ℕ) (xs : List ℕ) (t s : Bool) → p a ≡ t → p b ≡ s → (p a ≡ false → p b ≡ true) → 1 ≤ length (filter p (a ∷ b ∷ xs))
one_case p a b xs true s e f h = let l : length (filter p (a ∷ b ∷ xs)) ≡ suc (length (filter p (b ∷ xs))) = ap length (kept p a (b ∷ xs) e) in omega arith
one_case p a b xs false s e f h =
    let l : length (filter p (a ∷ b ∷ xs)) ≡ suc (length (filter p xs)) = ap length (left_out p a (b ∷ xs) e ∙ kept p b xs (h e)) in omega arith

not_both : (me : ℕ) → not (0 == me) ≡ false → not (1 == me) ≡ true
not_both me e = go (1 == me) refl
  where
    go : (t : Bool) → (1 == me) ≡ t → not (1 == me) ≡ true
    go false h = ap not h
    go true h =
        let first : 0 ≡ me = eqb-true 0 me (not-false (0 == me) e) in
        let second : 1 ≡ me = eqb-true 1 me h in
        absurd (omega (arith, first, second))

pub others_some : (k me : ℕ) → 1 ≤ length (others_below (suc (suc k)) me)
others_some k me =
    one_case (λ r. not (r == me)) 0 1 (range_with_len 2 k) (not (0 == me)) (not (1 == me)) refl refl (not_both me)
