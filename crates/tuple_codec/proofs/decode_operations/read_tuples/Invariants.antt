use Rattle.std.proofs.Common.{◌≡◌, ◌-◌, [], length}
use Rattle.tuple_tree.specs.Reading.{more, tuple_at}
use Rattle.tuple_codec.specs.Reading.{with_last_tuple}
use Rattle.tuple_codec.proofs.decode_operations.read_tuples.Given as goal

abbrev pub invariant-loop-i : goal.invariant-loop-i
invariant-loop-i g l = record {
  reads : more tuple_at with_last_tuple (l.count - l._i) l.tuples l.rest ≡ more tuple_at with_last_tuple l.count [] l.initial.rest;
  number : length l.tuples ≡ l._i;
}
