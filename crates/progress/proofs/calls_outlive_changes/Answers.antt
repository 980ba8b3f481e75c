use Rattle.progress.proofs.NextView
use Rattle.progress.proofs.calls_outlive_changes.Goals as goal

pub returns : goal.returns
returns c = record { accepted = NextView.calls_outlive_changes }
