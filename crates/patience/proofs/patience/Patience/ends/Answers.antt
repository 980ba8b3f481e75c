use Rattle.std.proofs.Common.{◌≡◌, ◌/◌, max, true, false, ap, sym, ◌∙◌}
use Rattle.patience.proofs.Timing.{none_runs, another_runs, it_moved, it_is_spared, it_costs, it_is_free}
use Rattle.patience.proofs.patience.Patience.ends.Goals as goal

pub returns-in_default-clause-fits : goal.returns-in_default-clause-fits
returns-in_default-clause-fits c past fits =
    none_runs _ _ c.self.view_is past fits c.args.standing.now c.args.number c.in_default.is

pub returns-then-number-self-clause-fits : goal.returns-then-number-self-clause-fits
returns-then-number-self-clause-fits c past fits =
    another_runs _ _ c.self.view_is past fits c.args.standing.now c.args.number c.if-number-self.true

pub returns-then-not-waits_for-clause-fits : goal.returns-then-not-waits_for-clause-fits
returns-then-not-waits_for-clause-fits c past fits =
    it_moved _ _ c.self.view_is past fits c.args.standing.now c.args.number c.in-Some.wait c.if-number-self.false c.in-Some.is _
    (c.max-self-inside.ensures ∙ ap (λ n. max (c.self.inside.lasts / 2) n) c.shortest_after.ensures)
    (λ e. let absurd_is : true ≡ false = sym (c.waits_for.ensures.1 e) ∙ c.if-not-waits_for.true in cc)

pub returns-then-not-self-clause-fits : goal.returns-then-not-self-clause-fits
returns-then-not-self-clause-fits c past fits =
    it_is_spared _ _ c.self.view_is past fits c.args.standing.now c.args.number c.in-Some.wait c.if-number-self.false c.in-Some.is
    (c.waits_for.ensures.0 c.if-not-waits_for.false) c.if-not-self.true

pub returns-then-may_sign-clause-fits : goal.returns-then-may_sign-clause-fits
returns-then-may_sign-clause-fits c past fits =
    it_costs _ _ c.self.view_is past fits c.args.standing.now c.args.number c.in-Some.wait c.if-number-self.false c.in-Some.is _ _ c.twice-self-inside.ensures
    (c.waits_for.ensures.0 c.if-not-waits_for.false) c.if-not-self.false (sym c.may_sign.ensures ∙ c.if-may_sign.true)
    c.saturating_add-self-inside.ensures

pub returns-else-may_sign-clause-fits : goal.returns-else-may_sign-clause-fits
returns-else-may_sign-clause-fits c past fits =
    it_is_free _ _ c.self.view_is past fits c.args.standing.now c.args.number c.in-Some.wait c.if-number-self.false c.in-Some.is _ c.twice-self-inside.ensures
    (c.waits_for.ensures.0 c.if-not-waits_for.false) c.if-not-self.false (sym c.may_sign.ensures ∙ c.if-may_sign.false)
