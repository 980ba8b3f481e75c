use Rattle.party_runs.proofs.Joining
use Rattle.party_runs.proofs.interleavings_are_linear.Goals as goal

pub returns : goal.returns
returns c = record { linear = Joining.interleavings_are_linear }
