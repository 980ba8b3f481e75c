use Rattle.evidence.proofs.RefusingRuns
use Rattle.evidence.proofs.refused_runs.right_replicas_keep_rules.Goals as goal

pub returns : goal.returns
returns c = record { numbers = RefusingRuns.logs_numbers; new_views = RefusingRuns.no_begin_while_inactive; view_changes = RefusingRuns.keeps_proposed; requests = RefusingRuns.no_request_by_replica; installs = RefusingRuns.installs_its_root }
