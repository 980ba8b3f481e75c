use Rattle.evidence.proofs.AnsweringFirst
use Rattle.evidence.proofs.accepted.a_first_read_is_answered.Goals as goal

pub returns : goal.returns
returns c = record { read = AnsweringFirst.first_read_is_answered }
