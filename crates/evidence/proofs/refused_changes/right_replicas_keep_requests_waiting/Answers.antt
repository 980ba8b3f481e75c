use Rattle.evidence.proofs.RefusingChangesWaiting
use Rattle.evidence.proofs.refused_changes.right_replicas_keep_requests_waiting.Goals as goal

pub returns : goal.returns
returns c = record { got = RefusingChangesWaiting.waits_once_got; frames = RefusingChangesWaiting.waits_over_frames; until = RefusingChangesWaiting.waits_until_run; longer = RefusingChangesWaiting.waits_no_longer }
