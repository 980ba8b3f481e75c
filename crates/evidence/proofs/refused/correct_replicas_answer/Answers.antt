use Rattle.evidence.proofs.RefusingOwed
use Rattle.evidence.proofs.refused.correct_replicas_answer.Goals as goal

pub returns : goal.returns
returns c = record { reads = RefusingOwed.answers_reads; digests = RefusingOwed.answers_digest_fetches; pages = RefusingOwed.answers_page_fetches; again = RefusingOwed.answers_again; ran = RefusingOwed.answers_ran }
