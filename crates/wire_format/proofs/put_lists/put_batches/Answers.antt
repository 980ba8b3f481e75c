use Rattle.std.proofs.Common.{◌++◌, ◌∙◌, ap, refl, map}
use Rattle.wire_format.specs.Lists.{each_spelling}
use Rattle.wire_format.specs.Views.{batch_text}
use Rattle.wire_format.proofs.Appending.{one_more, none_left}
use Rattle.wire_format.proofs.put_lists.put_batches.Goals as goal

pub loop-batch-preserved : goal.loop-batch-preserved
loop-batch-preserved c =
    one_more (λ bs. each_spelling (λ t. t) (map batch_text bs)) batch_text (λ b bs. refl) c.args.batches.now c.loop-batch.batch-index c.batch-item.result _ _ _ c.loop-batch-test.true
    (c.in_ok-extend_from_slice.ensures.items ∙ ap (λ t. c.loop-batch.out.items ++ t) c.deref.ensures.value ∙ ap (λ b. c.loop-batch.out.items ++ batch_text b) c.batch-item.is) c.loop-batch.invariant

pub returns : goal.returns
returns c = none_left (λ bs. each_spelling (λ t. t) (map batch_text bs)) batch_text (λ b bs. refl) c.args.batches.now c.loop-batch.batch-index _ _ c.loop-batch-test.false refl c.loop-batch.invariant
