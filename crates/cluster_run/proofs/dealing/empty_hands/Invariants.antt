use Rattle.std.proofs.Common.{◌≡◌, ℕ, length}
use Rattle.std.specs.Prelude.{None}
use Rattle.cluster_run.specs.Hands.{dealt_at}
use Rattle.cluster_run.proofs.dealing.empty_hands.Given as goal

abbrev pub invariant-loop : goal.invariant-loop
invariant-loop l = (length l.hands.items ≡ l.counter) × ((h j : ℕ) → dealt_at l.hands.items h j ≡ None)
