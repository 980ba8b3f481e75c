use Rattle.std.proofs.Common.{◌≡◌, ◌+◌, ◌*◌, ◌≤◌, ◌%◌, ◌++◌, ℕ, List, [], None, length}
use Rattle.std.specs.Prelude.{vec_len, vec_capacity}
use Rattle.tuple_text.specs.Literals.{AreHex, digit_pairs}
use Rattle.tuple_text.proofs.literals.bytes_of.Given as goal

abbrev pub invariant-loop-left : goal.invariant-loop-left
invariant-loop-left g l = record {
  hex : AreHex l.left;
  even : length l.left % 2 ≡ 0;
  room : 2 * vec_len l.bytes + length l.left ≤ 2 * vec_capacity l.bytes;
  passed : (rest : List ℕ) → digit_pairs [] None (l.digits ++ rest) ≡ digit_pairs l.bytes.items None (l.left ++ rest);
}

abbrev pub decreases-loop-left : goal.decreases-loop-left
decreases-loop-left g l = length l.left
