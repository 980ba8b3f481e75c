use Rattle.party_runs.proofs.Joining
use Rattle.party_runs.proofs.interleaved_lives_are_runs.Goals as goal

pub returns : goal.returns
returns c = record { runs = Joining.interleaved_lives_are_runs }
