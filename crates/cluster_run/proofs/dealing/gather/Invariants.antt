use Rattle.std.proofs.Common.{◌≡◌, ℕ, ◌+◌, ◌*◌, ◌≤◌}
use Rattle.cluster_run.specs.Hands.{AreGathered, dealt_at}
use Rattle.cluster_run.proofs.dealing.gather.Given as goal

-- the items taken are right, and all others stay where they were
abbrev pub invariant-loop-i : goal.invariant-loop-i
invariant-loop-i l =
    AreGathered l.initial.hands.items l.clients l.i l.answers.items
    × ((h j : ℕ) → l.i ≤ h + j * l.clients → dealt_at l.hands.items h j ≡ dealt_at l.initial.hands.items h j)
