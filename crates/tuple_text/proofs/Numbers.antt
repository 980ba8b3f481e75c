-- Reading numbers.
use Rattle.std.proofs.Common.{◌≡◌, ℕ, zero, suc, ◌+◌, ◌-◌, ◌*◌, ◌/◌, ◌%◌, ◌^◌, ◌<◌, ◌≤◌, ◌==◌, nat_le, Bool, true}
use Rattle.std.proofs.Common.{false, cond, ◌&&◌, List, [], ◌∷◌, ◌++◌, ℤ, pos, negsuc, refl, ap, sym, subst, ◌∙◌}
use Rattle.std.proofs.Common.{append_assoc, append-nil, arith, FitsSigned, w64, ◌⊎◌, inl, inr}
use Rattle.std.specs.Int.{Width, w128}
use Rattle.std.proofs.lemmas.Bool.{le-leb, leb-true, and_from, and_parts, eqb-true, ne_eqb}
use Rattle.std.proofs.lemmas.Int.{ints}
use Rattle.std.proofs.lemmas.Fmt.{decimal_step_wide, decimal_digit, decimal_by_steps_wide}
use Rattle.std.specs.Fmt.{decimal, signed_decimal}
use Rattle.tuple_text.specs.Reading.{Read, got, stop, ◌>>=◌, digits, positive, MOST, MOST_WIDE, signed}
use Rattle.tuple_text.specs.declared.reader.Stop.TheVariants.{BadByte}
use Rattle.tuple_text.proofs.Right.{Limits, both, RightAs, Never, Stuck, right_on, then_right, nothing_passed}

abbrev pub is_digit : ℕ → Bool
is_digit b = nat_le 48 b && nat_le b 57

pub digit_range : (b : ℕ) → is_digit b ≡ true → (48 ≤ b) × (b ≤ 57)
digit_range b e = let p = and_parts (nat_le 48 b) (nat_le b 57) e in (leb-true _ _ p.0, leb-true _ _ p.1)

pub digit_is : (b : ℕ) → 48 ≤ b → b ≤ 57 → is_digit b ≡ true
digit_is b p q = and_from _ _ (le-leb _ _ p) (le-leb _ _ q)

decimal_more : (n d : ℕ) → 1 ≤ n → d < 10 → n * 10 + d < 10 ^ 64 → decimal (n * 10 + d) ≡ decimal n ++ (48 + d) ∷ []
decimal_more n d p q r =
    let a : (n * 10 + d) / 10 ≡ n = omega arith in
    let b : (n * 10 + d) % 10 ≡ d = omega arith in
    decimal_step_wide (n * 10 + d) (omega arith) r ∙ ap (λ m. decimal m ++ (48 + (n * 10 + d) % 10) ∷ []) a ∙ ap (λ m. decimal n ++ (48 + m) ∷ []) b

-- The bytes up to rest continue the digits of n to those of m.
pub record Digits (limit n : ℕ) (bs : List ℕ) (m : ℕ) (rest : List ℕ) : Type 0 where
  pub passed : List ℕ
  pub whole : bs ≡ passed ++ rest
  pub same : decimal m ≡ decimal n ++ passed
  pub low : 1 ≤ m
  pub high : m ≤ limit

abbrev DigitsAs : ℕ → ℕ → List ℕ → Read ℕ → Type 0
DigitsAs limit n bs (got m rest) = Digits limit n bs m rest
DigitsAs limit n bs (stop s rest) = (s ≡ BadByte) × (m : ℕ) × Digits limit n bs m rest

no_more : (limit n : ℕ) (bs : List ℕ) → 1 ≤ n → n ≤ limit → Digits limit n bs n bs
no_more limit n bs p q = record { passed = []; whole = refl; same = sym (append-nil (decimal n)); low = p; high = q }

one_digit : (limit n b m : ℕ) (bs rest : List ℕ) → 1 ≤ n → limit < 10 ^ 64 → 48 ≤ b → b ≤ 57 → n * 10 + (b - 48) ≤ limit → Digits limit (n * 10 + (b - 48)) bs m rest → Digits limit n (b ∷ bs) m rest
one_digit limit n b m bs rest p big low high fits h =
    let e : 48 + (b - 48) ≡ b = omega arith in
    record {
      passed = b ∷ h.passed;
      whole = ap (λ t. b ∷ t) h.whole;
      same = h.same ∙ ap (λ t. t ++ h.passed) (decimal_more n (b - 48) p (omega arith) (omega arith)) ∙ append_assoc (decimal n) ((48 + (b - 48)) ∷ []) h.passed ∙ ap (λ c. decimal n ++ c ∷ h.passed) e;
      low = h.low;
      high = h.high;
    }

one_digit_as : (limit n b : ℕ) (bs : List ℕ) (x : Read ℕ) → 1 ≤ n → limit < 10 ^ 64 → 48 ≤ b → b ≤ 57 → n * 10 + (b - 48) ≤ limit → DigitsAs limit (n * 10 + (b - 48)) bs x → DigitsAs limit n (b ∷ bs) x
one_digit_as limit n b bs (got m rest) p big low high fits h = one_digit limit n b m bs rest p big low high fits h
one_digit_as limit n b bs (stop s rest) p big low high fits h = (h.0, h.1, one_digit limit n b h.1 bs rest p big low high fits h.2)

digits_case : (limit n b : ℕ) (bs : List ℕ) (x : Read ℕ) (s t : Bool) → 1 ≤ n → n ≤ limit → 9 ≤ limit → limit < 10 ^ 64 → is_digit b ≡ s → nat_le n ((limit - (b - 48)) / 10) ≡ t
    → (n * 10 + (b - 48) ≤ limit → DigitsAs limit (n * 10 + (b - 48)) bs x) → DigitsAs limit n (b ∷ bs) (cond s (cond t x (stop BadByte (b ∷ bs))) (got n (b ∷ bs)))
digits_case limit n b bs x true true p q nine big e f h =
    let r = digit_range b e in
    let g : n ≤ (limit - (b - 48)) / 10 = leb-true _ _ f in
    let m : n * 10 + (b - 48) ≤ limit = omega (arith, r.0, r.1, g) in
    one_digit_as limit n b bs x p big r.0 r.1 m (h m)
digits_case limit n b bs x true false p q nine big e f h = (refl, n, no_more limit n (b ∷ bs) p q)
digits_case limit n b bs x false t p q nine big e f h = no_more limit n (b ∷ bs) p q

digits_right : (limit n : ℕ) (bs : List ℕ) → 1 ≤ n → n ≤ limit → 9 ≤ limit → limit < 10 ^ 64 → DigitsAs limit n bs (digits limit n bs)
digits_right limit n [] p q nine big = no_more limit n [] p q
digits_right limit n (b ∷ bs) p q nine big =
    digits_case limit n b bs (digits limit (n * 10 + (b - 48)) bs) (is_digit b) (nat_le n ((limit - (b - 48)) / 10)) p q nine big refl refl
    (λ m. digits_right limit (n * 10 + (b - 48)) bs (omega arith) m nine big)

-- numbers from 1 to the limit
abbrev pub IsPositive : ℕ → ℕ → List ℕ → Type 0
IsPositive limit n w = (w ≡ decimal n) × (1 ≤ n) × (n ≤ limit)

abbrev pub BeginsPositive : ℕ → Limits → List ℕ → Type 0
BeginsPositive limit c w = (n : ℕ) × (u : List ℕ) × IsPositive limit n (w ++ u)

first_digit : (limit b : ℕ) (bs : List ℕ) (x : Read ℕ) → 49 ≤ b → b ≤ 57 → DigitsAs limit (b - 48) bs x → RightAs (IsPositive limit) (BeginsPositive limit) (b ∷ bs) x
first_digit limit b bs (got m rest) p q h =
    let e : decimal (b - 48) ≡ b ∷ [] = decimal_digit (b - 48) (omega arith) ∙ ap (λ c. c ∷ []) (let g : 48 + (b - 48) ≡ b = omega arith in g) in
    record { passed = b ∷ h.passed; whole = ap (λ t. b ∷ t) h.whole; is = (sym (h.same ∙ ap (λ t. t ++ h.passed) e), h.low, h.high) }
first_digit limit b bs (stop s rest) p q h =
    let e : decimal (b - 48) ≡ b ∷ [] = decimal_digit (b - 48) (omega arith) ∙ ap (λ c. c ∷ []) (let g : 48 + (b - 48) ≡ b = omega arith in g) in
    let d = h.2 in
    subst (λ y. Stuck (BeginsPositive limit) y (b ∷ bs) rest) (sym h.0) (record {
      passed = b ∷ d.passed;
      whole = ap (λ t. b ∷ t) d.whole;
      begins = (h.1, [], (append-nil (b ∷ d.passed) ∙ sym (d.same ∙ ap (λ t. t ++ d.passed) e), d.low, d.high));
      decides = tt;
    })

one_begins : (limit : ℕ) → 9 ≤ limit → BeginsPositive limit both []
one_begins limit p = (1, decimal 1, (refl, omega arith, omega arith))

positive_case : (limit b : ℕ) (bs : List ℕ) (s : Bool) → (nat_le 49 b && nat_le b 57) ≡ s → 9 ≤ limit → limit < 10 ^ 64
    → RightAs (IsPositive limit) (BeginsPositive limit) (b ∷ bs) (cond s (digits limit (b - 48) bs) (stop BadByte (b ∷ bs)))
positive_case limit b bs true e p q =
    let r = and_parts (nat_le 49 b) (nat_le b 57) e in
    let low : 49 ≤ b = leb-true _ _ r.0 in
    let high : b ≤ 57 = leb-true _ _ r.1 in
    first_digit limit b bs (digits limit (b - 48) bs) low high (digits_right limit (b - 48) bs (omega arith) (omega arith) p q)
positive_case limit b bs false e p q = nothing_passed (BeginsPositive limit) Never (b ∷ bs) (one_begins limit p)

pub positive_right : (limit : ℕ) (bs : List ℕ) → 9 ≤ limit → limit < 10 ^ 64 → RightAs (IsPositive limit) (BeginsPositive limit) bs (positive limit bs)
unfolding positive
positive_right limit [] p q = nothing_passed (BeginsPositive limit) Never [] (one_begins limit p)
positive_right limit (b ∷ bs) p q = positive_case limit b bs (nat_le 49 b && nat_le b 57) refl p q

-- The greatest number of a width.
pub record IsMost (width : Width) (most : ℕ) : Type 0 where
  pub low : 9 ≤ most
  pub high : most + 1 < 10 ^ 64
  pub positive_fits : (n : ℕ) → n ≤ most → FitsSigned width (pos n)
  pub negative_fits : (n : ℕ) → n ≤ most → FitsSigned width (negsuc n)
  pub positive_most : (n : ℕ) → FitsSigned width (pos n) → n ≤ most
  pub negative_most : (n : ℕ) → FitsSigned width (negsuc n) → n ≤ most

pub most_64 : IsMost w64 MOST
most_64 = record {
  low = omega arith;
  high = omega arith;
  positive_fits = λ n h. omega (arith, ints);
  negative_fits = λ n h. omega (arith, ints);
  positive_most = λ n h. omega (arith, ints);
  negative_most = λ n h. omega (arith, ints);
}

pub most_128 : IsMost w128 MOST_WIDE
most_128 = record {
  low = omega arith;
  high = omega arith;
  positive_fits = λ n h. omega (arith, ints);
  negative_fits = λ n h. omega (arith, ints);
  positive_most = λ n h. omega (arith, ints);
  negative_most = λ n h. omega (arith, ints);
}

abbrev pub IsSigned : Width → ℤ → List ℕ → Type 0
IsSigned width z w = (w ≡ signed_decimal z) × FitsSigned width z

abbrev pub BeginsSigned : Width → Limits → List ℕ → Type 0
BeginsSigned width c w = (z : ℤ) × (u : List ℕ) × IsSigned width z (w ++ u)

pub ends_there : {V : Type 0} → (F : V → List ℕ → Type 0) (x v : V) (front w : List ℕ) → v ≡ x → w ≡ [] → F x front → F v (front ++ w)
ends_there F x v front w e f h = subst (λ y. F y (front ++ w)) (sym e) (subst (λ t. F x t) (sym (ap (λ t. front ++ t) f ∙ append-nil front)) h)

module _ (width : Width) (most : ℕ) (is : IsMost width most) where
  is_negative : (n : ℕ) (w : List ℕ) → IsPositive (most + 1) n w → IsSigned width (negsuc (n - 1)) (45 ∷ w)
  is_negative n w h =
      let e : n ≡ suc (n - 1) = omega (arith, h.1) in
      (ap (λ t. 45 ∷ t) (h.0 ∙ ap decimal e), is.negative_fits (n - 1) (omega (arith, h.1, h.2)))

  signed_case : (b : ℕ) (bs : List ℕ) (s t : Bool) → (b == 45) ≡ s → (b == 48) ≡ t
      → RightAs (IsSigned width) (BeginsSigned width) (b ∷ bs) (cond s (positive (most + 1) bs >>= λ n rest. got (negsuc (n - 1)) rest) (cond t (got (pos 0) bs) (positive most (b ∷ bs) >>= λ n rest. got (pos n) rest)))
  signed_case b bs true t e f =
      subst (λ c. RightAs (IsSigned width) (BeginsSigned width) (c ∷ bs) (positive (most + 1) bs >>= λ n rest. got (negsuc (n - 1)) rest)) (sym (eqb-true b 45 e))
      (right_on (λ z w. IsSigned width z (45 ∷ w)) (λ c w. BeginsSigned width c (45 ∷ w)) (IsSigned width) (BeginsSigned width) (45 ∷ []) bs (positive (most + 1) bs >>= λ n rest. got (negsuc (n - 1)) rest) (λ z w h. h) (λ c w h. h)
      (then_right (IsPositive (most + 1)) (BeginsPositive (most + 1)) (λ n z w. (z ≡ negsuc (n - 1)) × (w ≡ [])) (λ n c w. ⊥) (λ z w. IsSigned width z (45 ∷ w)) (λ c w. BeginsSigned width c (45 ∷ w)) bs (positive (most + 1) bs) (λ n rest. got (negsuc (n - 1)) rest)
      (λ c w h. (negsuc (h.0 - 1), h.1, is_negative h.0 (w ++ h.1) h.2))
      (λ n front h z w g. ends_there (λ z w. IsSigned width z (45 ∷ w)) (negsuc (n - 1)) z front w g.0 g.1 (is_negative n front h))
      (λ n front h c w g. absurd g)
      (positive_right (most + 1) bs (omega (arith, is.low)) is.high)
      (λ n rest. record { passed = []; whole = refl; is = (refl, refl) })))
  signed_case b bs false true e f =
      subst (λ c. RightAs (IsSigned width) (BeginsSigned width) (c ∷ bs) (got (pos 0) bs)) (sym (eqb-true b 48 f)) (record { passed = 48 ∷ []; whole = refl; is = (sym (decimal_digit 0 (omega arith)), is.positive_fits 0 (omega arith)) })
  signed_case b bs false false e f =
      then_right (IsPositive most) (BeginsPositive most) (λ n z w. (z ≡ pos n) × (w ≡ [])) (λ n c w. ⊥) (IsSigned width) (BeginsSigned width) (b ∷ bs) (positive most (b ∷ bs)) (λ n rest. got (pos n) rest)
      (λ c w h. (pos h.0, h.1, (h.2.0, is.positive_fits h.0 h.2.2)))
      (λ n front h z w g. ends_there (IsSigned width) (pos n) z front w g.0 g.1 (h.0, is.positive_fits n h.2))
      (λ n front h c w g. absurd g)
      (positive_right most (b ∷ bs) is.low (omega (arith, is.high)))
      (λ n rest. record { passed = []; whole = refl; is = (refl, refl) })

  pub signed_right : (bs : List ℕ) → RightAs (IsSigned width) (BeginsSigned width) bs (signed most bs)
  unfolding signed
  signed_right [] = nothing_passed (BeginsSigned width) Never [] (pos 0, decimal 0, (refl, is.positive_fits 0 (omega arith)))
  signed_right (b ∷ bs) = signed_case b bs (b == 45) (b == 48) refl refl

-- Again: the text of a number, and something that doesn't go on with a digit.
abbrev pub NoDigit : List ℕ → Type 0
NoDigit [] = Unit {0}
NoDigit (b ∷ bs) = is_digit b ≡ false

digits_end : (limit n : ℕ) (u : List ℕ) → NoDigit u → digits limit n u ≡ got n u
digits_end limit n [] h = refl
digits_end limit n (b ∷ u) h = ap (λ s. cond s (cond (nat_le n ((limit - (b - 48)) / 10)) (digits limit (n * 10 + (b - 48)) u) (stop BadByte (b ∷ u))) (got n (b ∷ u))) h

abbrev ReadsDigits : ℕ → List ℕ → Type 0
ReadsDigits n ds = (limit : ℕ) (u : List ℕ) → 1 ≤ n → n ≤ limit → positive limit (ds ++ u) ≡ digits limit n u

one_again : (n : ℕ) → n < 10 → ReadsDigits n ((48 + n) ∷ [])
unfolding positive
one_again n p limit u low high =
    let t : (nat_le 49 (48 + n) && nat_le (48 + n) 57) ≡ true = and_from _ _ (le-leb 49 (48 + n) (omega arith)) (le-leb (48 + n) 57 (omega arith)) in
    let e : 48 + n - 48 ≡ n = omega arith in
    ap (λ s. cond s (digits limit (48 + n - 48) u) (stop BadByte ((48 + n) ∷ u))) t ∙ ap (λ m. digits limit m u) e

more_again : (n : ℕ) (ds : List ℕ) → 10 ≤ n → ReadsDigits (n / 10) ds → ReadsDigits n (ds ++ (48 + n % 10) ∷ [])
more_again n ds p h limit u low high =
    let b = 48 + n % 10 in
    let d : is_digit b ≡ true = digit_is b (omega arith) (omega arith) in
    let m : n / 10 * 10 + (b - 48) ≡ n = omega arith in
    let f : nat_le (n / 10) ((limit - (b - 48)) / 10) ≡ true = le-leb _ _ (omega arith) in
    ap (positive limit) (append_assoc ds (b ∷ []) u) ∙ h limit (b ∷ u) (omega arith) (omega arith)
    ∙ ap (λ s. cond s (cond (nat_le (n / 10) ((limit - (b - 48)) / 10)) (digits limit (n / 10 * 10 + (b - 48)) u) (stop BadByte (b ∷ u))) (got (n / 10) (b ∷ u))) d
    ∙ ap (λ s. cond s (digits limit (n / 10 * 10 + (b - 48)) u) (stop BadByte (b ∷ u))) f
    ∙ ap (λ k. digits limit k u) m

pub positive_again : (limit n : ℕ) (u : List ℕ) → 1 ≤ n → n ≤ limit → limit < 10 ^ 64 → NoDigit u → positive limit (decimal n ++ u) ≡ got n u
positive_again limit n u p q big h = decimal_by_steps_wide ReadsDigits one_again more_again n (omega arith) limit u p q ∙ digits_end limit n u h

abbrev pub HasHead : ℕ → List ℕ → Type 0
HasHead n ds = 1 ≤ n → (b : ℕ) × (t : List ℕ) × (ds ≡ b ∷ t) × (49 ≤ b) × (b ≤ 57)

pub head_of : (n : ℕ) → n < 10 ^ 64 → HasHead n (decimal n)
head_of n p = decimal_by_steps_wide HasHead
    (λ n p low. (48 + n, [], refl, omega arith, omega arith))
    (λ n ds p h low. let k = h (omega arith) in (k.0, k.1 ++ (48 + n % 10) ∷ [], ap (λ t. t ++ (48 + n % 10) ∷ []) k.2, k.3, k.4))
    n p

as_positive : (most b : ℕ) (bs : List ℕ) → 49 ≤ b → signed most (b ∷ bs) ≡ (positive most (b ∷ bs) >>= λ n rest. got (pos n) rest)
unfolding signed
as_positive most b bs p =
    let e : (b == 45) ≡ false = ne_eqb b 45 (omega arith) in
    let f : (b == 48) ≡ false = ne_eqb b 48 (omega arith) in
    ap (λ s. cond s (positive (most + 1) bs >>= λ n rest. got (negsuc (n - 1)) rest) (cond (b == 48) (got (pos 0) bs) (positive most (b ∷ bs) >>= λ n rest. got (pos n) rest))) e
    ∙ ap (λ s. cond s (got (pos 0) bs) (positive most (b ∷ bs) >>= λ n rest. got (pos n) rest)) f

zero_again : (most : ℕ) (u : List ℕ) → signed most (48 ∷ u) ≡ got (pos 0) u
unfolding signed
zero_again most u = refl

minus_again : (most : ℕ) (u : List ℕ) → signed most (45 ∷ u) ≡ (positive (most + 1) u >>= λ n rest. got (negsuc (n - 1)) rest)
unfolding signed
minus_again most u = refl

module _ (width : Width) (most : ℕ) (is : IsMost width most) where
  -- the first byte of a number
  pub signed_head : (z : ℤ) → FitsSigned width z → (b : ℕ) × (t : List ℕ) × (signed_decimal z ≡ b ∷ t) × ((b ≡ 45) ⊎ ((48 ≤ b) × (b ≤ 57)))
  signed_head (pos zero) f = (48, [], decimal_digit 0 (omega arith), inr (omega arith, omega arith))
  signed_head (pos (suc n)) f =
      let m = is.positive_most (suc n) f in
      let k = head_of (suc n) (omega (arith, m, is.high)) (omega arith) in (k.0, k.1, k.2, inr (omega (arith, k.3), k.4))
  signed_head (negsuc n) f = (45, decimal (suc n), refl, inl refl)

  pub signed_again : (z : ℤ) (u : List ℕ) → FitsSigned width z → NoDigit u → signed most (signed_decimal z ++ u) ≡ got z u
  signed_again (pos zero) u f h = ap (λ t. signed most (t ++ u)) (decimal_digit 0 (omega arith)) ∙ zero_again most u
  signed_again (pos (suc n)) u f h =
      let m = is.positive_most (suc n) f in
      let k = head_of (suc n) (omega (arith, m, is.high)) (omega arith) in
      ap (λ t. signed most (t ++ u)) k.2 ∙ as_positive most k.0 (k.1 ++ u) k.3 ∙ ap (λ t. positive most (t ++ u) >>= λ n rest. got (pos n) rest) (sym k.2)
      ∙ ap (λ y. y >>= λ n rest. got (pos n) rest) (positive_again most (suc n) u (omega arith) m (omega (arith, is.high)) h)
  signed_again (negsuc n) u f h =
      let m = is.negative_most n f in
      let e : suc n - 1 ≡ n = omega arith in
      minus_again most (decimal (suc n) ++ u) ∙ ap (λ y. y >>= λ n rest. got (negsuc (n - 1)) rest) (positive_again (most + 1) (suc n) u (omega arith) (omega (arith, m)) is.high h)
      ∙ ap (λ m. got (negsuc m) u) e
