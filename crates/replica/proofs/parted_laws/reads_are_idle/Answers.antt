use Rattle.replica.proofs.IdleEntries.{parted}
use Rattle.replica.proofs.SameWords.{words_same}
use Rattle.replica.proofs.parted_laws.reads_are_idle.Goals as goal

pub returns : goal.returns
returns c = record { idle = parted; words = words_same }
