use Rattle.orderer.proofs.orderer.Orderer.has_frame.Goals as goal

pub returns-clause-none : goal.returns-clause-none
returns-clause-none c = rw (← c.self.view_is) c.has_frame.ensures.none
