-- The shortest timer: how it grows, and where it ends.
use Rattle.std.proofs.Common.{◌≡◌, ℕ, suc, ◌*◌, ◌/◌, ◌^◌, ◌≤◌, ◌<◌, min, arith, ap, sym, ◌∙◌, ◌⊎◌, inl, inr}
use Rattle.std.proofs.Math.Nat.{pow-le-pow_right, pow-suc, min-eq_left, min-eq_right}
use Rattle.std.proofs.lemmas.Bool.{cases_lt}
use Rattle.patience.specs.Moments.{shortest}
use Rattle.patience.specs.declared.patience.TheConstants.{FIRST, LONGEST}

-- so many doublings
abbrev pub doubled : ℕ → ℕ
doubled k = min (FIRST * 2 ^ k) LONGEST

-- After 20 doublings the longest is reached.
long_power : (k : ℕ) → 20 ≤ k → LONGEST ≤ FIRST * 2 ^ k
long_power k h = let p : 2 ^ 20 ≤ 2 ^ k = pow-le-pow_right {n = 2} (omega arith) h in omega (arith, p)

pub few_doublings : (k : ℕ) → doubled (min k 20) ≡ doubled k
few_doublings k = at (cases_lt k 20)
  where
    at : (k < 20) ⊎ (20 ≤ k) → doubled (min k 20) ≡ doubled k
    at (inl h) = ap doubled (min-eq_left (omega arith))
    at (inr h) =
        ap doubled (min-eq_right h)
        ∙ sym (min-eq_right (long_power k h))

-- a number that is doubled so often has 32 bits
pub power_fits : (k : ℕ) → k ≤ 20 → FIRST * 2 ^ k < 2 ^ 32
power_fits k h = let p : 2 ^ k ≤ 2 ^ 20 = pow-le-pow_right {n = 2} (omega arith) h in omega (arith, p)

-- Counting ends where the longest is reached.
pub counted : (n : ℕ) → shortest (min n 255) ≡ shortest n
counted n = at (cases_lt n 255)
  where
    at : (n < 255) ⊎ (255 ≤ n) → shortest (min n 255) ≡ shortest n
    at (inl h) = ap shortest (min-eq_left (omega arith))
    at (inr h) =
        ap shortest (min-eq_right h)
        ∙ min-eq_right (long_power (255 / 4) (omega arith))
        ∙ sym (min-eq_right (long_power (n / 4) (omega arith)))

-- One more of them doubles it at most.
pub next_shortest : (n : ℕ) → shortest (suc n) ≤ 2 * shortest n
next_shortest n =
    let p : 2 ^ (suc n / 4) ≤ 2 ^ suc (n / 4) = pow-le-pow_right {n = 2} (omega arith) (omega arith) in
    omega (arith, p, pow-suc 2 (n / 4))
