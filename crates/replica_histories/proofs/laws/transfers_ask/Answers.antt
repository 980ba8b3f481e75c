use Rattle.replica_histories.proofs.Transfers
use Rattle.replica_histories.proofs.TransfersSeeking
use Rattle.replica_histories.proofs.laws.transfers_ask.Goals as goal

pub returns : goal.returns
returns c = record { again = Transfers.ticks_may_ask; any = Transfers.may_ask_any; first = TransfersSeeking.nexts_are_first; may = Transfers.transfers_may_fetch; ask = Transfers.transfers_ask }
