use Rattle.evidence.proofs.JoiningChanges
use Rattle.evidence.proofs.accepted.view_changes_are_joined.Goals as goal

pub returns : goal.returns
returns c = record { joined = JoiningChanges.view_changes_are_joined }
