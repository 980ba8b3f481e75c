use Rattle.replica_histories.proofs.Answering
use Rattle.replica_histories.proofs.laws.parts_fit.Goals as goal

pub returns : goal.returns
returns c = record { parts = Answering.parts_fit; count = Answering.kept_fetches_count; suffice = Answering.parts_suffice; none = Answering.other_numbers_owe_none }
