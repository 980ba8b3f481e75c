use Rattle.points.specs.Running.{placed_so_far}
use Rattle.points.proofs.Going.{Left}
use Rattle.points.proofs.running.run_frames.Given as goal

abbrev pub invariant-loop-frame : goal.invariant-loop-frame
invariant-loop-frame l =
    Left l.turn l.frames (placed_so_far l.initial.space l.initial.replies l.initial.found.items) (placed_so_far l.space l.replies l.found.items) l.frame-index
