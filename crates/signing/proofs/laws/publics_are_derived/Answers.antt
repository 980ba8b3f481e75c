use Rattle.signing.proofs.Publics.{one_within}
use Rattle.signing.proofs.laws.publics_are_derived.Goals as goal

pub returns : goal.returns
returns c seed faults replica less = one_within seed faults replica less
