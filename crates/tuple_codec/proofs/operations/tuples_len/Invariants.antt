use Rattle.std.proofs.Common.{◌≡◌, ◌+◌, ◌*◌, ◌≤◌, drop, length}
use Rattle.tuple_codec.specs.Spelling.{tuples_spelling}
use Rattle.tuple_codec.proofs.operations.tuples_len.Given as goal

abbrev pub invariant-loop-tuple : goal.invariant-loop-tuple
invariant-loop-tuple g l = record {
  tuples : l.tuple-items ≡ l.tuples;
  total : l.len + length (tuples_spelling (drop l.tuple-index l.tuple-items)) ≡ length (tuples_spelling l.tuples);
  bound : l.len ≤ 1024 * l.tuple-index;
}
