use Rattle.progress.proofs.Numbering
use Rattle.progress.proofs.open_calls_are_numbered.Goals as goal

pub returns : goal.returns
returns c = record { numbered = Numbering.open_calls_are_numbered }
