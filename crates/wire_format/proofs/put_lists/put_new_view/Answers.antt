use Rattle.std.proofs.Common.{◌∙◌, ◌++◌, ap, map}
use Rattle.std.proofs.lemmas.Result.{on_ok_weaker}
use Rattle.wire_format.specs.Views.{batch_text}
use Rattle.wire_format.specs.Spelling.{pieces_spelling, batches_spelling}
use Rattle.wire_format.proofs.Appending.{five}
use Rattle.wire_format.proofs.put_lists.put_new_view.Goals as goal

pub returns : goal.returns
returns c = on_ok_weaker c.put_batches.result
    (λ e. five _ _ _ _ _ _ _ _ _ _ _ c.in_ok-put_u64.ensures
    (c.in_ok-put_frames.ensures ∙ ap (λ xs. c.put_u64.new.out.items ++ pieces_spelling (map (λ x. x.items) xs)) c.deref.ensures.value)
    c.in_ok-put_u64-2.ensures c.in_ok-extend_from_slice.ensures.items
    (e ∙ ap (λ xs. c.extend_from_slice.new.self.items ++ batches_spelling (map batch_text xs)) c.deref-2.ensures.value))
    c.put_batches.ensures
