use Rattle.evidence.proofs.AnsweringFetch
use Rattle.evidence.proofs.accepted.a_first_fetch_is_answered.Goals as goal

pub returns : goal.returns
returns c = record { fetch = AnsweringFetch.first_fetch_is_answered }
