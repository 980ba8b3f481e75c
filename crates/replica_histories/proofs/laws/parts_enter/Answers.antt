use Rattle.replica_histories.proofs.Fetching
use Rattle.replica_histories.proofs.laws.parts_enter.Goals as goal

pub returns : goal.returns
returns c = record { digests = Fetching.digests_enter; pages = Fetching.pages_enter; digests_count = Fetching.asked_digests_count; pages_count = Fetching.asked_pages_count; change = Fetching.transfers_change }
