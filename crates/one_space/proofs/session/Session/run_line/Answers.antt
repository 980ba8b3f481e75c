use Rattle.std.proofs.Common.{refl}
use Rattle.one_space.proofs.RunLemmas.{moved}
use Rattle.one_space.proofs.session.Session.run_line.Goals as goal

pub returns-clause-along : goal.returns-clause-along
returns-clause-along g c first bytes start here =
    c.answer_line-answered.ensures.along first bytes start (moved _ first bytes start _ _ _ _ _ _ refl refl refl (c.in_default.ensures {u = tt}).results here)
