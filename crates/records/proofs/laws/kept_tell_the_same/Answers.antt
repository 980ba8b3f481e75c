use Rattle.records.proofs.Telling
use Rattle.records.proofs.laws.kept_tell_the_same.Goals as goal

pub returns : goal.returns
returns c = record { same = Telling.kept_tell_the_same }
