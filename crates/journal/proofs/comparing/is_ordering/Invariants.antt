use Rattle.std.proofs.Common.{◌≡◌, ◌↔◌, ◌≤◌, length, drop}
use Rattle.protocol.specs.System.Reads.{without_reads}
use Rattle.journal.proofs.comparing.is_ordering.Given as goal

abbrev pub invariant-loop-entry : goal.invariant-loop-entry
invariant-loop-entry l =
    (l.at ≤ length l.ordering)
    × ((without_reads (drop l.entry-index l.history) ≡ drop l.at l.ordering) ↔ (without_reads l.history ≡ l.ordering))
