use Rattle.records.proofs.Telling
use Rattle.records.proofs.laws.inputs_tell_one.Goals as goal

pub returns : goal.returns
returns c = record { one = Telling.inputs_tell_one }
