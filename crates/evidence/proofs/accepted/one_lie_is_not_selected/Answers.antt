use Rattle.evidence.proofs.Selecting
use Rattle.evidence.proofs.accepted.one_lie_is_not_selected.Goals as goal

pub returns : goal.returns
returns c = record { lie = Selecting.lie_is_not_selected; waits = Selecting.truth_waits; truth = Selecting.truth_is_selected }
