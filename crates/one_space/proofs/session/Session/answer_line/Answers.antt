use Rattle.std.proofs.Common.{refl}
use Rattle.one_space.proofs.RunLemmas.{asked}
use Rattle.one_space.proofs.session.Session.answer_line.Goals as goal

pub returns-in-None-clause-along : goal.returns-in-None-clause-along
returns-in-None-clause-along g c first bytes start here = c.answer_read.ensures.along first bytes start (asked _ first bytes start _ _ _ _ _ refl c.ask.ensures here)
