use Rattle.progress.proofs.SilentView
use Rattle.progress.proofs.silent_views_are_left.Goals as goal

pub returns : goal.returns
returns c = record { left = SilentView.silent_views_are_left }
