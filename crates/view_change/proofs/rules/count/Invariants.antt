use Rattle.std.proofs.Common.{◌≡◌, ◌≤◌}
use Rattle.quorum.specs.Quorum.{count_below}
use Rattle.protocol.specs.Replica.Selection.{passes_by}
use Rattle.view_change.specs.Sets.{changes_by_sender, test_of}
use Rattle.view_change.proofs.rules.count.Given as goal

abbrev pub invariant-loop-replica : goal.invariant-loop-replica
invariant-loop-replica l = (l.count ≡ count_below (passes_by (test_of l.rule) (changes_by_sender l.set)) l.replica) × (l.count ≤ l.replica)
