-- Quorums: how many replicas pass a test, and that any two quorums share a correct one (Castro and Liskov, Practical
-- Byzantine fault tolerance and proactive recovery, TOCS 2002, on quorums and certificates).
use Rattle.std.specs.Prelude.{◌≡◌, ℕ, zero, suc, ◌+◌, ◌*◌, ◌≤◌, ◌<◌, Bool, true, false, cond, ◌||◌, ◌==◌, List, [], ◌∷◌}

-- How many of the numbers below n pass the test. A replica is named by its number, so this counts different replicas.
abbrev pub count_below : (ℕ → Bool) → ℕ → ℕ
count_below test zero = 0
count_below test (suc n) = cond (test n) (suc (count_below test n)) (count_below test n)

-- whether the number stands in the list
abbrev pub member : List ℕ → ℕ → Bool
member [] x = false
member (y ∷ ys) x = (y == x) || member ys x

-- Any two quorums of 2f + 1 among 3f + 1 replicas, of which at most f are faulty, have a correct one in common.
abbrev pub QuorumsMeet : Type 0
QuorumsMeet =
    (f : ℕ) (faulty p q : ℕ → Bool) → count_below faulty (3 * f + 1) ≤ f
    → 2 * f + 1 ≤ count_below p (3 * f + 1) → 2 * f + 1 ≤ count_below q (3 * f + 1)
    → (s : ℕ) × (s < 3 * f + 1) × (faulty s ≡ false) × (p s ≡ true) × (q s ≡ true)

-- Of any f + 1 replicas one is correct, if at most f of the n are faulty.
abbrev pub OneIsCorrect : Type 0
OneIsCorrect =
    (f n : ℕ) (faulty p : ℕ → Bool) → count_below faulty n ≤ f → f + 1 ≤ count_below p n
    → (s : ℕ) × (s < n) × (faulty s ≡ false) × (p s ≡ true)
