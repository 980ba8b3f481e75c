use Rattle.std.proofs.Common.{rules, ◌≡◌, length, sym, ◌∙◌}
use Rattle.std.specs.Vec.Iter.{into_iter_items}
use Rattle.orderer.proofs.EnteringViews.{all_hashed}
use Rattle.replica.proofs.new_view.selection_in.Goals as goal

pub returns-clause-batches : goal.returns-clause-batches
returns-clause-batches c =
    let none : length (into_iter_items c.loop-batch.batch-iterator) ≡ 0 = sym c.loop-batch.batch-iterator.rest.ok.0 ∙ c.in-None.ensures.steps.0 in
    let first : into_iter_items c.into_iter-batch-iterator.result ≡ c.args.new.batches.items = search rules in
    all_hashed c.loop-batch.hashed.items (into_iter_items c.loop-batch.batch-iterator) (into_iter_items c.into_iter-batch-iterator.result) c.args.new.batches.items none first c.loop-batch.invariant.left
