use Rattle.records.proofs.Telling
use Rattle.records.proofs.laws.inputs_tell.Goals as goal

pub returns : goal.returns
returns c = record { tell = Telling.inputs_tell }
