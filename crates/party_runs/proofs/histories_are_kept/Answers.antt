use Rattle.party_runs.proofs.Joining
use Rattle.party_runs.proofs.histories_are_kept.Goals as goal

pub returns : goal.returns
returns c = record { kept = Joining.histories_are_kept }
