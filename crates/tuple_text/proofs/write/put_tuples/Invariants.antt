use Rattle.std.proofs.Common.{◌≡◌, ◌++◌, drop, length}
use Rattle.std.specs.Fmt.{decimal}
use Rattle.tuple_text.specs.Written.{tuples_written}
use Rattle.tuple_text.proofs.Writing.{SoFar}
use Rattle.tuple_text.proofs.write.put_tuples.Given as goal

abbrev pub invariant-loop-tuple : goal.invariant-loop-tuple
invariant-loop-tuple g l = record {
  tuples : l.tuple-items ≡ l.tuples;
  written : SoFar l.fn.out.items l.out.items (tuples_written (drop l.tuple-index l.tuple-items)) (decimal (length l.tuples) ++ tuples_written l.tuples);
}
