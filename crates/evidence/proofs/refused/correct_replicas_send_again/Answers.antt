use Rattle.evidence.proofs.RefusingResending as resending
use Rattle.evidence.proofs.refused.correct_replicas_send_again.Goals as goal

pub returns : goal.returns
returns c = record { prepares = resending.sends_prepares_again; commits = resending.sends_commits_again; batches = resending.sends_batches_again; new_views = resending.sends_new_views_again; checkpoints = resending.sends_checkpoints_again; changes = resending.sends_changes_again }
