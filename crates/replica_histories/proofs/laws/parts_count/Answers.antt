use Rattle.replica_histories.proofs.Transfers
use Rattle.replica_histories.proofs.laws.parts_count.Goals as goal

pub returns : goal.returns
returns c = record { wanted = Transfers.wanted_by_history; digests = Transfers.digests_count; pages = Transfers.pages_count }
