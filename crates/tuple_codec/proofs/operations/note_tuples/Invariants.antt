use Rattle.std.proofs.Common.{take}
use Rattle.std.specs.Prelude.{All}
use Rattle.tuple_tree.specs.Values.{IsTuple}
use Rattle.tuple_codec.proofs.operations.note_tuples.Given as goal

abbrev pub invariant-loop-tuple : goal.invariant-loop-tuple
invariant-loop-tuple g l = All IsTuple (take l.tuple-index l.tuples)
