use Rattle.ordering.proofs.Viewing.{committed_stay}
use Rattle.ordering.proofs.laws.committed_stay.Goals as goal

pub returns : goal.returns
returns c = record { stay = committed_stay }
