use Rattle.std.proofs.Common.{◌≡◌, ◌+◌, drop, length}
use Rattle.tuple_codec.specs.Spelling.{tuples_spelling}
use Rattle.space_library.specs.Written.{with_text}
use Rattle.space_library.proofs.writing.put_tuples.Given as goal

-- What is left to be written on what was, is all.
abbrev pub invariant-loop-tuple : goal.invariant-loop-tuple
invariant-loop-tuple l = record {
  behind : l.at + length (tuples_spelling (drop l.tuple-index l.tuples)) ≡ l.start + length (tuples_spelling l.tuples);
  written : with_text l.at (tuples_spelling (drop l.tuple-index l.tuples)) l.out ≡ with_text l.start (tuples_spelling l.tuples) l.fn.out;
  room : length l.out ≡ length l.fn.out;
}
