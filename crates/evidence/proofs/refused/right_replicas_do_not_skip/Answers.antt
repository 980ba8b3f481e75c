use Rattle.evidence.proofs.Refusing
use Rattle.evidence.proofs.refused.right_replicas_do_not_skip.Goals as goal

pub returns : goal.returns
returns c = record { executes = Refusing.executes_next; committed = Refusing.executes_what_is_committed; changes = Refusing.keeps_prepared; installs = Refusing.installs_what_it_has; headers = Refusing.installs_with_header }
