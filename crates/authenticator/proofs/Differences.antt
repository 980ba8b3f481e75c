-- When bits gathered by OR and XOR are all zero.
use Rattle.std.proofs.Common.{◌≡◌, ℕ, arith}
use Rattle.std.specs.Int.Bits.{bit_or, bit_xor, or_add_and, xor_add_and, and_le_l, and_le_r}

pub or-zero_left : (a b : ℕ) → bit_or a b ≡ 0 → a ≡ 0
or-zero_left a b none = omega (arith, or_add_and a b, and_le_l a b, and_le_r a b)

pub or-zero_right : (a b : ℕ) → bit_or a b ≡ 0 → b ≡ 0
or-zero_right a b none = omega (arith, or_add_and a b, and_le_l a b, and_le_r a b)

pub xor-zero : (a b : ℕ) → bit_xor a b ≡ 0 → a ≡ b
xor-zero a b none = omega (arith, xor_add_and a b, and_le_l a b, and_le_r a b)
