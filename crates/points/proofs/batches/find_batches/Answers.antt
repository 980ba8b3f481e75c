use Rattle.std.proofs.Common.{[], List, reverse, take, sym, subst}
use Rattle.protocol.specs.System.Trace.{Entry}
use Rattle.points.specs.Batching.{CollectsBatches, numbered_of}
use Rattle.points.proofs.Collecting.{begins}
use Rattle.points.proofs.Rising.{one_more_entry}
use Rattle.points.proofs.batches.find_batches.Goals as goal

pub loop-entry-init : goal.loop-entry-init
loop-entry-init c = subst (λ es. CollectsBatches [] (numbered_of es)) (sym c.new-found.ensures.empty) begins

pub loop-entry-preserved : goal.loop-entry-preserved
loop-entry-preserved c =
    subst (λ (xs : List Entry). CollectsBatches xs (numbered_of c.note.new.found.entries)) (sym (one_more_entry c.args.trace.now c.loop-entry.entry-index c.entry-item.result c.loop-entry-test.true (sym c.entry-item.is)))
    (c.in_ok-note.ensures (reverse (take c.loop-entry.entry-index c.args.trace.now)) c.loop-entry.invariant)
