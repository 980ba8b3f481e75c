use Rattle.replica_histories.proofs.Numbers
use Rattle.replica_histories.proofs.NumbersGiven
use Rattle.replica_histories.proofs.laws.numbers_are_assigned.Goals as goal

pub returns : goal.returns
returns c = record { fit = NumbersGiven.numbers_fit; free = Numbers.next_is_free; all = Numbers.numbers_are_assigned; fewer = Numbers.numbers_leave_fewer }
