use Rattle.std.proofs.Common.{◌≡◌, ℕ, ◌<◌, [], get_or}
use Rattle.execution.proofs.installing.are_none_behind.Given as goal

abbrev pub invariant-loop-page : goal.invariant-loop-page
invariant-loop-page l = (i : ℕ) → 512 < i → i < l.page → get_or l.pages i [] ≡ []
