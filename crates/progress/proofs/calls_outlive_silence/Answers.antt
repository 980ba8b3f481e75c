use Rattle.progress.proofs.SecondView
use Rattle.progress.proofs.calls_outlive_silence.Goals as goal

pub returns : goal.returns
returns c = record { accepted = SecondView.calls_outlive_silence }
