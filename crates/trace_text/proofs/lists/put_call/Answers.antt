use Rattle.std.proofs.Common.{◌++◌, ap, ◌∙◌, subst}
use Rattle.tuple_text.specs.Written.{WritesText}
use Rattle.tuple_text.proofs.Writing.{second_part}
use Rattle.wire_format.specs.Views.{frame_data}
use Rattle.trace_text.proofs.Said.{call_said}
use Rattle.trace_text.proofs.lists.put_call.Goals as goal

pub returns-in-Ok : goal.returns-in-Ok
returns-in-Ok c =
    subst (λ t. WritesText c.put_call_by.result c.args.out.now.items (c.args.gap.now ++ t) c.put_call_by.new.out.items)
    (call_said c.args.frame.now (frame_data c.in-Ok.frame) (c.in-Ok.ensures {u = tt}).found)
    (second_part c.put_call_by.result c.args.out.now.items c.append.new.out.items c.args.gap.now _ c.put_call_by.new.out.items
    (c.in_ok-append.ensures ∙ ap (λ t. c.args.out.now.items ++ t) c.as_bytes.ensures.value) c.put_call_by.ensures)
