use Rattle.evidence.proofs.Presuming
use Rattle.evidence.proofs.premises.configurations_are_valid.Goals as goal

pub returns : goal.returns
returns c = record { widest = Presuming.widest_is_valid; narrowest = Presuming.narrowest_is_valid }
