use Rattle.std.proofs.Common.{◌≡◌, ◌++◌, drop, take, length}
use Rattle.tuple_codec.specs.Spelling.{tuples_spelling}
use Rattle.tuple_codec.proofs.encode.put_tuples.Given as goal

abbrev pub invariant-loop-tuple : goal.invariant-loop-tuple
invariant-loop-tuple g l = record {
  tuples : l.tuple-items ≡ l.tuples;
  spelled : l.out.items ++ tuples_spelling (drop l.tuple-index l.tuple-items) ≡ l.fn.out.items ++ tuples_spelling l.tuples;
  kept : take (length l.fn.out.items) l.out.items ≡ l.fn.out.items;
}
