use Rattle.std.proofs.Common.{sym}
use Rattle.patience.proofs.Timing.{begins_behind, one_runs, none_wanted, one_begins}
use Rattle.patience.proofs.patience.Patience.begins.Goals as goal

pub returns-then-is_some-clause-fits : goal.returns-then-is_some-clause-fits
returns-then-is_some-clause-fits c past fits =
    begins_behind past c.args.standing.now _ _ _ (c.end_early.ensures.fits past fits)
    (λ left now. one_runs _ _ c.self.view_is left now c.args.standing.now (sym (c.if-is_some.ensures {u = tt})))

pub returns-in_err-wait-clause-fits : goal.returns-in_err-wait-clause-fits
returns-in_err-wait-clause-fits c past fits =
    rw c.from_residual.ensures (begins_behind past c.args.standing.now _ _ _ (c.end_early.ensures.fits past fits)
    (λ left now. none_wanted _ _ c.self.view_is left now c.args.standing.now (sym (c.in_err-wait.ensures {u = tt}))))

pub returns-clause-fits : goal.returns-clause-fits
returns-clause-fits c past fits =
    begins_behind past c.args.standing.now _ _ _ (c.end_early.ensures.fits past fits)
    (λ left now. one_begins _ _ c.self.view_is left now c.args.standing.now c.in_ok-wait.wait
    (sym (c.if-is_some.ensures {u = tt})) (sym (c.in_ok-wait.ensures {u = tt})))
