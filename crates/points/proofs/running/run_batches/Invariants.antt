use Rattle.std.proofs.Common.{◌≤◌, reverse}
use Rattle.wire_format.specs.Lists.{Each}
use Rattle.points.specs.Batching.{numbered_of}
use Rattle.points.specs.Numbering.{Numbered}
use Rattle.points.specs.Running.{placed_so_far}
use Rattle.points.proofs.Going.{Going}
use Rattle.points.proofs.running.run_batches.Given as goal

-- the batches that ran, and the rest
abbrev pub invariant-loop-number : goal.invariant-loop-number
invariant-loop-number l =
    Going l.clients (reverse l.places.rises.items) (numbered_of l.fn.batches.entries) (placed_so_far l.space l.replies l.found.items) (numbered_of l.number-iterator)
    × Each (λ (x : Numbered). 1 ≤ x.number) (numbered_of l.number-iterator)
