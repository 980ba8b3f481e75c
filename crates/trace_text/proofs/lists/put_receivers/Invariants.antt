use Rattle.std.proofs.Common.{take}
use Rattle.std.specs.Prelude.{codes}
use Rattle.terms.specs.Parties.{party_number}
use Rattle.trace_text.specs.Frames.{party_text}
use Rattle.trace_text.proofs.Joined.{SoFar}
use Rattle.trace_text.proofs.lists.put_receivers.Given as goal

abbrev pub invariant-loop-item : goal.invariant-loop-item
invariant-loop-item l = SoFar (codes ",") (λ mac. party_text (party_number mac.receiver)) l.fn.out.items l.out.items l.gap (take l.item-index l.items)
