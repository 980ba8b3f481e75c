use Rattle.evidence.proofs.Flushing
use Rattle.evidence.proofs.FlushingEnds
use Rattle.evidence.proofs.fed.a_flush_delivers_in_order.Goals as goal

pub returns : goal.returns
returns c = record { next = Flushing.flush_delivers_next; no_other = Flushing.flush_delivers_no_other; ends = Flushing.flush_ends; flushes = FlushingEnds.flushes_are_fed }
