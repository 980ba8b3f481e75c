use Rattle.std.proofs.Common.{subst}
use Rattle.tuple_text.specs.Written.{WritesText}
use Rattle.wire_format.specs.Views.{frame_data}
use Rattle.trace_text.proofs.Said.{frame_said, len_said}
use Rattle.trace_text.proofs.frames.put_frame.Goals as goal

pub returns-in-Ok : goal.returns-in-Ok
returns-in-Ok c =
    subst (λ t. WritesText c.put_body.result c.args.out.now.items t c.put_body.new.out.items)
    (frame_said c.args.bytes.now (frame_data c.in-Ok.frame) (c.in-Ok.ensures {u = tt}).found) c.put_body.ensures

pub returns-in_default : goal.returns-in_default
returns-in_default c =
    subst (λ t. WritesText c.put_len.result c.args.out.now.items t c.put_len.new.out.items)
    (len_said c.args.bytes.now (λ f s. c.in_default.not-NoMemory ((c.in-Err.ensures {u = tt}).only f s))) c.put_len.ensures
