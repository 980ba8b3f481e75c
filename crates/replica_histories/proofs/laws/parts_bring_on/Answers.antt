use Rattle.replica_histories.proofs.PartsOwed
use Rattle.replica_histories.proofs.laws.parts_bring_on.Goals as goal

pub returns : goal.returns
returns c = record { digests = PartsOwed.other_digests_owe_none; pages = PartsOwed.other_pages_owe_none; fetches = PartsOwed.fetches_suffice; fetched = PartsOwed.fetched_suffice }
