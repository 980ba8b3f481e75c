use Rattle.replica_histories.proofs.Cutting
use Rattle.replica_histories.proofs.Checking
use Rattle.replica_histories.proofs.Asking
use Rattle.replica_histories.proofs.laws.marks_move.Goals as goal

pub returns : goal.returns
returns c = record { marks = Cutting.marks_move; installations = Cutting.installations_move; asks = Asking.cuts_ask_no_more; stable = Checking.stable_are_low; cut = Checking.stable_are_cut }
