use Rattle.progress.proofs.Bringing
use Rattle.progress.proofs.flushes_bring_answers.Goals as goal

pub returns : goal.returns
returns c = record { answers = Bringing.flushes_bring_answers }
