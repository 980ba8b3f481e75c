use Rattle.replica_histories.proofs.Transfers
use Rattle.replica_histories.proofs.laws.parts_are_taken.Goals as goal

pub returns : goal.returns
returns c = record { digests = Transfers.digests_taken; digests_open = Transfers.digests_open; digests_ask = Transfers.digests_may_ask; pages = Transfers.pages_may_ask; back = Transfers.pages_give_back; rested = Transfers.pages_rested }
