use Rattle.evidence.proofs.Presuming
use Rattle.evidence.proofs.premises.primaries_take_turns.Goals as goal

pub returns : goal.returns
returns c = record { each = Presuming.each_is_primary; again = Presuming.primaries_return }
