use Rattle.std.proofs.Common.{take}
use Rattle.std.specs.Prelude.{codes}
use Rattle.trace_text.specs.Frames.{sender_text}
use Rattle.trace_text.proofs.Joined.{SoFar}
use Rattle.trace_text.proofs.lists.put_senders.Given as goal

abbrev pub invariant-loop-item : goal.invariant-loop-item
invariant-loop-item l = SoFar (codes ",") (λ frame. sender_text frame.items) l.fn.out.items l.out.items l.gap (take l.item-index l.items)
