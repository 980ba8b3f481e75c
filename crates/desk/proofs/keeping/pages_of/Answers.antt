use Rattle.std.proofs.Common.{sym, subst}
use Rattle.std.proofs.lemmas.Result.{IfOk-weaker}
use Rattle.desk.specs.Keeping.{HaveShortPages}
use Rattle.desk.proofs.KeptStates.{pages_short}
use Rattle.desk.proofs.keeping.pages_of.Goals as goal

pub returns-clause-short : goal.returns-clause-short
returns-clause-short c =
    IfOk-weaker c.checkpoint.result _ _ (λ pages same. subst HaveShortPages (sym same) (pages_short c.args.executed.now.state c.is_state.ensures)) c.checkpoint.ensures.pages
