use Rattle.replica_histories.proofs.NumbersWaiting
use Rattle.replica_histories.proofs.laws.waiting_keeps_numbers.Goals as goal

pub returns : goal.returns
returns c = record { requests = NumbersWaiting.requests_fit; inputs = NumbersWaiting.inputs_keep_numbers; states = NumbersWaiting.states_fit; executions = NumbersWaiting.executions_raise; fewer = NumbersWaiting.states_leave_no_more }
