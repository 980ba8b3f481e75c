use Rattle.std.proofs.Common.{◌≡◌, ◌++◌, take}
use Rattle.protocol.specs.System.Reads.{without_reads}
use Rattle.journal.proofs.entries.add_ordering.Given as goal

abbrev pub invariant-loop-entry : goal.invariant-loop-entry
invariant-loop-entry l = l.copies.items ≡ l.fn.copies.items ++ without_reads (take l.entry-index l.entries)
