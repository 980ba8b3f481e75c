use Rattle.std.proofs.Common.{take}
use Rattle.std.specs.Prelude.{codes}
use Rattle.wire_format.specs.Views.{batch_entry_data}
use Rattle.trace_text.specs.Frames.{shown_batch_entry}
use Rattle.trace_text.proofs.Joined.{SoFar}
use Rattle.trace_text.proofs.lists.put_entries.Given as goal

abbrev pub invariant-loop-item : goal.invariant-loop-item
invariant-loop-item l = SoFar (codes ",") (λ entry. shown_batch_entry (batch_entry_data entry)) l.fn.out.items l.out.items l.gap (take l.item-index l.items)
