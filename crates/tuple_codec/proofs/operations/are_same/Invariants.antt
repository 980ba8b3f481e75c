use Rattle.std.proofs.Common.{◌≡◌, ◌↔◌, ◌≤◌, length, drop}
use Rattle.tuple_codec.proofs.operations.are_same.Given as goal

-- The lists are equal exactly if their rests are equal.
abbrev pub invariant-loop-tuple : goal.invariant-loop-tuple
invariant-loop-tuple g l =
    (l.at ≤ length l.others) × ((drop l.tuple-index l.tuples ≡ drop l.at l.others) ↔ (l.tuples ≡ l.others))
