use Rattle.std.proofs.Common.{take}
use Rattle.desk.proofs.KeptStates.{AreOthers}
use Rattle.desk.proofs.snapshots.Snapshots.of.Given as goal

abbrev pub invariant-loop-state : goal.invariant-loop-state
invariant-loop-state l = AreOthers l.number.0 (take l.state-index l.state-items)
