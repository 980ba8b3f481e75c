use Rattle.std.proofs.Common.{◌≤◌, ◌+◌, ◌*◌}
use Rattle.execution.specs.Running.{so_far}
use Rattle.execution.specs.Touching.{ChangesAreTouched}
use Rattle.execution.proofs.Leading.{Left}
use Rattle.execution.proofs.running.run_frames.Given as goal

abbrev pub invariant-loop-frame : goal.invariant-loop-frame
invariant-loop-frame l = record {
  left : Left l.clients l.number.0 l.frames (so_far l.initial.space l.initial.replies l.initial.ran.items) (so_far l.space l.replies l.ran.items) l.frame-index;
  births : l.space.state.next ≤ l.initial.space.state.next + 256 * l.frame-index;
  changes : ChangesAreTouched l.initial.space l.initial.replies l.space l.replies;
}
