use Rattle.replica_histories.proofs.Numbers
use Rattle.replica_histories.proofs.NumbersAssigned
use Rattle.replica_histories.proofs.NumbersKept
use Rattle.replica_histories.proofs.laws.numbers_stay.Goals as goal

pub returns : goal.returns
returns c = record { first = Numbers.first_numbers_fit; known = NumbersAssigned.logs_are_of_no_later_view; later = NumbersAssigned.later_number_nothing; begin = NumbersAssigned.views_begin; stay = NumbersKept.numbers_stay; others = NumbersKept.others_keep_numbers; batches = NumbersKept.batches_keep_numbers }
