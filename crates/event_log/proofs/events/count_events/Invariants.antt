use Rattle.event_log.specs.Groups.{AreEventsBefore}
use Rattle.std.proofs.Common.{length}
use Rattle.event_log.proofs.events.count_events.Given as goal

abbrev pub invariant-loop-behind : goal.invariant-loop-behind
invariant-loop-behind l = AreEventsBefore l.bytes l.rest l.count

abbrev pub decreases-loop-behind : goal.decreases-loop-behind
decreases-loop-behind l = length l.rest
