use Rattle.replica_histories.proofs.Resending
use Rattle.replica_histories.proofs.Questions
use Rattle.replica_histories.proofs.laws.requests_come_again.Goals as goal

pub returns : goal.returns
returns c = record { suffice = Resending.resending_suffices; others = Questions.new_requests_owe_none; new = Resending.waiting_are_new }
