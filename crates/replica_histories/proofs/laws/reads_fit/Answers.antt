use Rattle.replica_histories.proofs.Questions
use Rattle.replica_histories.proofs.Answering
use Rattle.replica_histories.proofs.laws.reads_fit.Goals as goal

pub returns : goal.returns
returns c = record { reads = Answering.reads_fit; suffice = Answering.reads_suffice; operations = Answering.other_operations_owe_none; parts = Questions.others_owe_no_part; others = Questions.others_owe_none }
