use Rattle.std.proofs.Common.{◌≡◌, ◌<◌, ℕ, true, false, [], length, get_or}
use Rattle.state_transfer.proofs.transfer.Transfer.rest_on.Given as goal

abbrev pub invariant-loop-page : goal.invariant-loop-page
invariant-loop-page l = record {
  count : length l.held ≡ 1024;
  own : (i : ℕ) → i < l.page → get_or l.self-inside.fetched.items i false ≡ false → get_or l.held i [] ≡ get_or l.pages i [];
  fetched : (i : ℕ) → i < 1024 → get_or l.self-inside.fetched.items i false ≡ true → get_or l.held i [] ≡ get_or l.self-inside.held i [];
}
