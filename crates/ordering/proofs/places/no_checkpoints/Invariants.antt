use Rattle.std.proofs.Common.{◌≡◌, replicate, []}
use Rattle.ordering.proofs.places.no_checkpoints.Given as goal

abbrev pub invariant-loop-at : goal.invariant-loop-at
invariant-loop-at l = l.checkpoints.items ≡ replicate l._at []
