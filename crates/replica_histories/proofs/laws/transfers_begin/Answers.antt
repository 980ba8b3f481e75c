use Rattle.replica_histories.proofs.Transfers
use Rattle.replica_histories.proofs.laws.transfers_begin.Goals as goal

pub returns : goal.returns
returns c = record { wanted = Transfers.quorums_want; start = Transfers.transfers_start; moved = Transfers.transfers_move; open_ones = Transfers.quorums_open; lower = Transfers.lower_are_fetched }
