use Rattle.orderer.proofs.ChangingViews.{judges_alike}
use Rattle.orderer.proofs.orderer.Orderer.judges.Goals as goal

pub returns-clause-alike : goal.returns-clause-alike
returns-clause-alike c = judges_alike c.args.self.now c.keeps.ensures.own c.sizes_decide.ensures.decide
