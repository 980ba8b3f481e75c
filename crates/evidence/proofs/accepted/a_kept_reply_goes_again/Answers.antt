use Rattle.evidence.proofs.AnsweringAgain
use Rattle.evidence.proofs.accepted.a_kept_reply_goes_again.Goals as goal

pub returns : goal.returns
returns c = record { again = AnsweringAgain.kept_reply_goes_again }
