use Rattle.std.proofs.Common.{length, take, ◌-◌, ◌≤◌}
use Rattle.space.specs.Births.{tuples_of}
use Rattle.space_library.specs.Running.{RunsBytes}
use Rattle.space_library.proofs.running.run_all.Given as goal

abbrev pub invariant-loop-read : goal.invariant-loop-read
invariant-loop-read l =
    (l.read ≤ length l.bytes)
    × (length l.answers.items ≤ l.most)
    × RunsBytes (tuples_of l.fn.space) (take l.read l.bytes) l.answers.items (tuples_of l.space)

abbrev pub decreases-loop-read : goal.decreases-loop-read
decreases-loop-read l = length l.bytes - l.read
