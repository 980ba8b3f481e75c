use Rattle.std.proofs.Common.{take}
use Rattle.std.specs.Prelude.{codes}
use Rattle.trace_text.specs.Frames.{call_text}
use Rattle.trace_text.proofs.Joined.{SoFar}
use Rattle.trace_text.proofs.lists.put_calls.Given as goal

abbrev pub invariant-loop-item : goal.invariant-loop-item
invariant-loop-item l = SoFar (codes " ") (λ frame. call_text frame.now) l.fn.out.items l.out.items l.gap (take l.item-index l.items)
