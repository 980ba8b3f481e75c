use Rattle.replica_histories.proofs.ChangesKept
use Rattle.replica_histories.proofs.changes.entries_keep_changes.Goals as goal

pub returns : goal.returns
returns c = record { sent = ChangesKept.sent_keep; silent = ChangesKept.silent_keep; got = ChangesKept.got_keep; others = ChangesKept.others_bring_none; authentic = ChangesKept.received_keep; signed = ChangesKept.received_are_signed; own = ChangesKept.own_are_signed }
