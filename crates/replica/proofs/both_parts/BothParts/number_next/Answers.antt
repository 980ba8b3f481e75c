use Rattle.desk.specs.Waiting.{unnumbered}
use Rattle.desk.proofs.WaitingKept.{as_many}
use Rattle.replica.proofs.both_parts.BothParts.number_next.Goals as goal

pub multicast_batch-requires-clause-few : goal.multicast_batch-requires-clause-few
multicast_batch-requires-clause-few c =
    rw (c.deref.ensures.value, as_many c.in_ok-frames.frames.items (unnumbered c.self.inside.desk.waiting) c.in_ok-frames.ensures.value) c.in_ok-frames.ensures.most
