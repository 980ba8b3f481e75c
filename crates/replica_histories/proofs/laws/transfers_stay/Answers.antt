use Rattle.replica_histories.proofs.Transfers
use Rattle.replica_histories.proofs.laws.transfers_stay.Goals as goal

pub returns : goal.returns
returns c = record { aims = Transfers.aims_stay; asked = Transfers.asked_stays; open_ones = Transfers.open_stays; executes = Transfers.open_executes }
