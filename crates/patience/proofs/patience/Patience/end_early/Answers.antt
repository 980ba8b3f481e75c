use Rattle.std.proofs.Common.{◌≡◌, true, false, refl, sym, ◌∙◌}
use Rattle.patience.proofs.Timing.{none_ends, it_stays, it_goes_on, it_follows, it_enters}
use Rattle.patience.proofs.patience.Patience.end_early.Goals as goal

pub returns-in_default-clause-fits : goal.returns-in_default-clause-fits
returns-in_default-clause-fits c past fits =
    none_ends _ _ c.self.view_is past fits c.args.standing.now c.in_default.is

pub returns-then-waits_for-clause-fits : goal.returns-then-waits_for-clause-fits
returns-then-waits_for-clause-fits c past fits =
    it_stays _ _ c.self.view_is past fits c.args.standing.now c.in-Some.wait c.in-Some.is (c.waits_for.ensures.0 c.if-waits_for.true)

pub returns-then-is_some-clause-fits : goal.returns-then-is_some-clause-fits
returns-then-is_some-clause-fits c past fits =
    it_follows _ _ c.self.view_is past fits c.args.standing.now c.in-Some.wait c.in-Some.is _ c.twice-self-inside.ensures
    (λ e. let absurd_is : true ≡ false = sym (c.waits_for.ensures.1 e) ∙ c.if-waits_for.false in cc)
    (sym c.is_some.ensures ∙ c.if-is_some.true)

pub returns-in-View-clause-fits : goal.returns-in-View-clause-fits
returns-in-View-clause-fits c past fits =
    it_enters _ _ c.self.view_is past fits c.args.standing.now c.in-Some.wait c.in-Some.is c.in-View.field-0 c.in-View.is
    (sym c.is_some.ensures ∙ c.if-is_some.false)

pub returns-in_default-wait : goal.returns-in_default-wait
returns-in_default-wait c = record {
  fits = λ past fits.
      it_goes_on _ _ c.self.view_is past fits c.args.standing.now c.in-Some.wait c.in-Some.is
      (sym c.is_some.ensures ∙ c.if-is_some.false) c.in_default-wait.not-View;
  needed = refl;
}
