use Rattle.desk.proofs.AssignedCalls.{CallsLeft}
use Rattle.desk.proofs.desk.Desk.add_calls.Given as goal

abbrev pub invariant-loop-frame : goal.invariant-loop-frame
invariant-loop-frame l = CallsLeft l.self.executed.clients l.frame-items l.fn.calls.items l.calls.items l.frame-index
