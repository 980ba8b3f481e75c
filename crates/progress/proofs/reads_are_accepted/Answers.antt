use Rattle.progress.proofs.Reading
use Rattle.progress.proofs.reads_are_accepted.Goals as goal

pub returns : goal.returns
returns c = record { accepted = Reading.reads_are_accepted }
