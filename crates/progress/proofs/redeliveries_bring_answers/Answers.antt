use Rattle.progress.proofs.Resending
use Rattle.progress.proofs.redeliveries_bring_answers.Goals as goal

pub returns : goal.returns
returns c = record { answers = Resending.redeliveries_bring_answers }
