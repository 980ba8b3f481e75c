use Rattle.std.proofs.Common.{◌≡◌, take}
use Rattle.tuple_codec.proofs.operations.copy_tuples.Given as goal

abbrev pub invariant-loop-tuple : goal.invariant-loop-tuple
invariant-loop-tuple g l = l.copies.items ≡ take l.tuple-index l.tuples
