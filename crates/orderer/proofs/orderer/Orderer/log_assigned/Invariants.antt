use Rattle.std.proofs.Common.{◌≡◌, ◌+◌, suc, length}
use Rattle.std.specs.Vec.Iter.{into_iter_items}
use Rattle.wire_format.specs.Lists.{Each}
use Rattle.wire_format.specs.Spelling.{IsBatch}
use Rattle.view_change.specs.Sets.{texts_of}
use Rattle.orderer.specs.Going.{KeepsParty}
use Rattle.orderer.proofs.EnteringViews.{LogsLeft}
use Rattle.orderer.proofs.orderer.Orderer.log_assigned.Given as goal

abbrev pub invariant-loop-batch : goal.invariant-loop-batch
invariant-loop-batch l = record {
  can_next : (goal.iterator-loop-batch).can_next l.batch-iterator;
  is_finite : (goal.iterator-loop-batch).is_finite l.batch-iterator;
  party : KeepsParty l.initial.self l.self;
  assigned : l.self.assigned ≡ l.initial.self.assigned;
  batches : Each (IsBatch 0) (texts_of (into_iter_items l.batch-iterator));
  count : l.number.0 + length (into_iter_items l.batch-iterator) ≡ l.fn.start.0 + length l.fn.batches.items;
  left : LogsLeft (suc l.fn.start.0) (texts_of l.fn.batches.items) l.initial.self (suc l.number.0) (texts_of (into_iter_items l.batch-iterator)) l.self;
}
