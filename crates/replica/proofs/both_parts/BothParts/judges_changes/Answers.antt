use Rattle.std.proofs.Common.{subst}
use Rattle.orderer.specs.Receiving.{JudgesAlike}
use Rattle.replica.specs.State.{BothPartsData}
use Rattle.replica.proofs.both_parts.BothParts.judges_changes.Goals as goal

pub returns-clause-alike : goal.returns-clause-alike
returns-clause-alike c = subst (λ (d : BothPartsData). JudgesAlike d.orderer) c.self.view_is c.judges.ensures.alike
