use Rattle.replica_histories.proofs.Reasons
use Rattle.replica_histories.proofs.Received
use Rattle.replica_histories.proofs.views.changes_are_held.Goals as goal

pub returns : goal.returns
returns c = record { begin = Received.received_begin; stay = Received.received_stays; sent = Received.sent_bring_none; unsigned = Received.unsigned_bring_none; refused = Received.refused_bring_none; takes = Received.received_takes; own = Received.received_own; joined = Reasons.held_are_joined; ahead = Reasons.ahead_are_held }
