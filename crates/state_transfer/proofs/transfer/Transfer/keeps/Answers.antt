use Rattle.std.proofs.Common.{subst}
use Rattle.state_transfer.specs.Taking.{DigestIsKnown}
use Rattle.state_transfer.proofs.transfer.Transfer.keeps.Goals as goal

pub returns-clause-wanted : goal.returns-clause-wanted
returns-clause-wanted c = subst DigestIsKnown c.self.view_is (c.self.inside.wanted, c.self.invariant.wanted)
