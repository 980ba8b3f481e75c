use Rattle.std.proofs.Common.{◌≡◌, ◌-◌, []}
use Rattle.tuple_tree.specs.Reading.{rest_of, more, tuple_at}
use Rattle.tuple_codec.specs.Reading.{with_last_tuple}
use Rattle.tuple_codec.proofs.check.skip_tuples.Given as goal

abbrev pub invariant-loop-i : goal.invariant-loop-i
invariant-loop-i l = rest_of (more tuple_at with_last_tuple (l.count - l._i) [] l.rest) ≡ rest_of (more tuple_at with_last_tuple l.count [] l.initial.rest)
