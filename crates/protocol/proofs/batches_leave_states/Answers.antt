use Rattle.protocol.proofs.Words.Leaving
use Rattle.protocol.proofs.batches_leave_states.Goals as goal

pub returns : goal.returns
returns c = record { leave = Leaving.batches_leave_states }
