-- Rotations bit by bit, and rotations that are nested.
use Rattle.std.proofs.Common.{◌≡◌, ℕ, ◌+◌, ◌-◌, ◌*◌, ◌/◌, ◌%◌, ◌^◌, ◌<◌, ◌≤◌, max, bit_xor, inl, inr, sym, ap, ap₂, ◌∙◌, arith, add-zero, mod-lt, pow_pos}
use Rattle.std.proofs.lemmas.Bool.{cases_lt}
use Rattle.std.proofs.lemmas.Nat.{or_lt, shr-shr, shr_le, xor_lt}
use Rattle.std.proofs.lemmas.Nat.Bits.{bit_at-lt, bit_at-zero, bit_at_above, bit_at_cat_high, bit_at_cat_low, bit_at_or, bit_at_xor, same_from_bits_below}
use Rattle.std.specs.Int.{bit_at}
use Rattle.hash_lanes.specs.Lanes.{rotated}

-- a bit of a word that is moved up, with what leaves the word cut off
moved_up : (x j i : ℕ) → j ≤ 32 → i < 32 → bit_at (x * 2 ^ j % 2 ^ 32) i ≡ bit_at (x * 2 ^ j) i
moved_up x j i within below =
    let whole : x * 2 ^ j ≡ x * 2 ^ j / 2 ^ 32 * 2 ^ 32 + x * 2 ^ j % 2 ^ 32 = omega arith in
    sym (ap (λ (n : ℕ). bit_at n i) whole ∙ bit_at_cat_low (x * 2 ^ j / 2 ^ 32) 32 (x * 2 ^ j % 2 ^ 32) i below)

-- bit i of a rotated word is bit i + k of the word, counted round
pub bit_rotated : (x k i : ℕ) → x < 2 ^ 32 → 0 < k → k < 32 → i < 32 → bit_at (rotated x k) i ≡ bit_at x ((i + k) % 32)
bit_rotated x k i fits some most below =
    let j : ℕ = 32 - k in
    let down : bit_at (x / 2 ^ k) i ≡ bit_at x (k + i) = ap (λ (n : ℕ). n % 2) (shr-shr x k i) in
    let up : bit_at (x * 2 ^ j % 2 ^ 32) i ≡ bit_at (x * 2 ^ j + 0) i = moved_up x j i (omega arith) below ∙ ap (λ (n : ℕ). bit_at n i) (sym (add-zero (x * 2 ^ j))) in
    bit_at_or (x / 2 ^ k) (x * 2 ^ j % 2 ^ 32) i ∙ ap₂ max down up ∙ elim (cases_lt i j) [
      | inl low ↦
          let none : bit_at (x * 2 ^ j + 0) i ≡ 0 = bit_at_cat_low x j 0 i low ∙ bit_at-zero i in
          let at : k + i ≡ (i + k) % 32 = omega arith in
          ap (max (bit_at x (k + i))) none ∙ (omega arith) ∙ ap (bit_at x) at
      | inr high ↦
          let none : bit_at x (k + i) ≡ 0 = bit_at_above x 32 (k + i) fits (omega arith) in
          let some_bit : bit_at (x * 2 ^ j + 0) i ≡ bit_at x (i - j) = bit_at_cat_high x j 0 i (pow_pos j) high in
          let at : i - j ≡ (i + k) % 32 = omega arith in
          ap₂ max none some_bit ∙ (omega arith) ∙ ap (bit_at x) at
    ]

rotated_lt : (x k : ℕ) → x < 2 ^ 32 → rotated x k < 2 ^ 32
rotated_lt x k fits = or_lt 32 (x / 2 ^ k) (x * 2 ^ (32 - k) % 2 ^ 32) (omega (arith, shr_le x k)) (mod-lt _ (pow_pos 32))

odd_sum : (p q r : ℕ) → p < 2 → q < 2 → r < 2 → (p + (q + r) % 2) % 2 ≡ ((p + q) % 2 + r) % 2
odd_sum p q r one two three = omega arith

-- two rotations under exclusive or, the common one outside
pub nested_two : (x a b : ℕ) → 0 < a → 0 < b → a + b < 32 → x < 2 ^ 32 → rotated (bit_xor x (rotated x b)) a ≡ bit_xor (rotated x a) (rotated x (a + b))
nested_two x a b some_a some_b most fits =
    let inner : rotated x b < 2 ^ 32 = rotated_lt x b fits in
    let both : bit_xor x (rotated x b) < 2 ^ 32 = xor_lt 32 x (rotated x b) fits inner in
    same_from_bits_below 32 _ _ (rotated_lt _ a both) (xor_lt 32 _ _ (rotated_lt x a fits) (rotated_lt x (a + b) fits)) (λ i below.
    let turned : (i + a) % 32 < 32 = omega arith in
    let at : ((i + a) % 32 + b) % 32 ≡ (i + (a + b)) % 32 = omega arith in
    bit_rotated (bit_xor x (rotated x b)) a i both some_a (omega arith) below
    ∙ bit_at_xor x (rotated x b) ((i + a) % 32)
    ∙ ap (λ (n : ℕ). (bit_at x ((i + a) % 32) + n) % 2) (bit_rotated x b ((i + a) % 32) fits some_b (omega arith) turned ∙ ap (bit_at x) at)
    ∙ sym (bit_at_xor (rotated x a) (rotated x (a + b)) i
    ∙ ap₂ (λ (m n : ℕ). (m + n) % 2) (bit_rotated x a i fits some_a (omega arith) below) (bit_rotated x (a + b) i fits (omega arith) most below)))

-- three of them
pub nested_three : (x a b c : ℕ) → 0 < a → 0 < b → 0 < c → a + (b + c) < 32 → x < 2 ^ 32
    → rotated (bit_xor x (rotated (bit_xor x (rotated x c)) b)) a ≡ bit_xor (bit_xor (rotated x a) (rotated x (a + b))) (rotated x (a + (b + c)))
nested_three x a b c some_a some_b some_c most fits =
    let inner : bit_xor x (rotated x c) < 2 ^ 32 = xor_lt 32 x (rotated x c) fits (rotated_lt x c fits) in
    let outer : bit_xor x (rotated (bit_xor x (rotated x c)) b) < 2 ^ 32 = xor_lt 32 x _ fits (rotated_lt _ b inner) in
    let pair : bit_xor (rotated x a) (rotated x (a + b)) < 2 ^ 32 = xor_lt 32 _ _ (rotated_lt x a fits) (rotated_lt x (a + b) fits) in
    same_from_bits_below 32 _ _ (rotated_lt _ a outer) (xor_lt 32 _ _ pair (rotated_lt x (a + (b + c)) fits)) (λ i below.
    let j : ℕ = (i + a) % 32 in
    let turned : j < 32 = omega arith in
    let next : (j + b) % 32 < 32 = omega arith in
    let at_two : (j + b) % 32 ≡ (i + (a + b)) % 32 = omega arith in
    let at_three : ((j + b) % 32 + c) % 32 ≡ (i + (a + (b + c))) % 32 = omega arith in
    let second = bit_rotated (bit_xor x (rotated x c)) b j inner some_b (omega arith) turned
    ∙ bit_at_xor x (rotated x c) ((j + b) % 32)
    ∙ ap₂ (λ (m n : ℕ). (m + n) % 2) (ap (bit_at x) at_two) (bit_rotated x c ((j + b) % 32) fits some_c (omega arith) next ∙ ap (bit_at x) at_three) in
    bit_rotated _ a i outer some_a (omega arith) below
    ∙ bit_at_xor x (rotated (bit_xor x (rotated x c)) b) j
    ∙ ap (λ (n : ℕ). (bit_at x j + n) % 2) second
    ∙ odd_sum (bit_at x j) (bit_at x ((i + (a + b)) % 32)) (bit_at x ((i + (a + (b + c))) % 32)) (bit_at-lt x j) (bit_at-lt x _) (bit_at-lt x _)
    ∙ sym (bit_at_xor (bit_xor (rotated x a) (rotated x (a + b))) (rotated x (a + (b + c))) i
    ∙ ap₂ (λ (m n : ℕ). (m + n) % 2)
    (bit_at_xor (rotated x a) (rotated x (a + b)) i ∙ ap₂ (λ (m n : ℕ). (m + n) % 2) (bit_rotated x a i fits some_a (omega arith) below) (bit_rotated x (a + b) i fits (omega arith) (omega arith) below))
    (bit_rotated x (a + (b + c)) i fits (omega arith) most below)))
