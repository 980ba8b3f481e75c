use Rattle.evidence.proofs.Presuming
use Rattle.evidence.proofs.premises.texts_are_few.Goals as goal

pub returns : goal.returns
returns c = record { few = Presuming.texts_are_few }
