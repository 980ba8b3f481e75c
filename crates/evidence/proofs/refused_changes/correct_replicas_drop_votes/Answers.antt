use Rattle.evidence.proofs.RefusingChangesDropped
use Rattle.evidence.proofs.refused_changes.correct_replicas_drop_votes.Goals as goal

pub returns : goal.returns
returns c = record { primaries = RefusingChangesDropped.drops_prepares_of_primaries; prepares = RefusingChangesDropped.drops_prepares_while_inactive; second_prepares = RefusingChangesDropped.drops_second_prepares; commits = RefusingChangesDropped.drops_commits_while_inactive; second_commits = RefusingChangesDropped.drops_second_commits }
