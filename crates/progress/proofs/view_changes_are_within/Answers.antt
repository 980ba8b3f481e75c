use Rattle.progress.proofs.Within
use Rattle.progress.proofs.view_changes_are_within.Goals as goal

pub returns : goal.returns
returns c = record { within = Within.view_changes_are_within }
