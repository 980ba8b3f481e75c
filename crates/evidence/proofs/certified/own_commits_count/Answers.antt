use Rattle.evidence.proofs.Certifying
use Rattle.evidence.proofs.certified.own_commits_count.Goals as goal

pub returns : goal.returns
returns c = record { own = Certifying.executes_with_own_commit; others = Certifying.executes_not_by_others_alone; sent = Certifying.executes_what_it_commits }
