use Rattle.protocol.proofs.Words.Transfers
use Rattle.protocol.proofs.taken.transfers_end.Goals as goal

pub returns : goal.returns
returns c = record { installed = Transfers.installations_end; executed = Transfers.executions_end; below = Transfers.executions_leave }
