use Rattle.std.proofs.Common.{◌≡◌, ◌++◌, map}
use Rattle.std.specs.Vec.Iter.{into_iter_items}
use Rattle.wire_format.specs.Views.{batch_text}
use Rattle.view_change.specs.Sets.{texts_of}
use Rattle.replica.proofs.new_view.selection_in.Given as goal

abbrev pub invariant-loop-batch : goal.invariant-loop-batch
invariant-loop-batch l = record {
  can_next : (goal.iterator-loop-batch).can_next l.batch-iterator;
  is_finite : (goal.iterator-loop-batch).is_finite l.batch-iterator;
  left : texts_of l.hashed.items ++ map batch_text (into_iter_items l.batch-iterator) ≡ map batch_text (into_iter_items l.initial.batch-iterator);
}
