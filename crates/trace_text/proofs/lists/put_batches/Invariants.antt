use Rattle.std.proofs.Common.{take}
use Rattle.std.specs.Prelude.{codes}
use Rattle.wire_format.specs.Views.{batch_text}
use Rattle.trace_text.specs.Frames.{batch_in_brackets}
use Rattle.trace_text.proofs.Joined.{SoFar}
use Rattle.trace_text.proofs.lists.put_batches.Given as goal

abbrev pub invariant-loop-item : goal.invariant-loop-item
invariant-loop-item l = SoFar (codes " ") (λ batch. batch_in_brackets (batch_text batch)) l.fn.out.items l.out.items l.gap (take l.item-index l.items)
