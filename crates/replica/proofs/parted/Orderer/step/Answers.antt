use Rattle.std.proofs.Common.{sym, ◌∙◌}
use Rattle.replica.proofs.PartsLead.{fit_none, not_so}
use Rattle.replica.proofs.parted.Orderer.step.Goals as goal

-- Parts that are not together fit no history. So their outputs lead on from each history that they fit, and go to the
-- parties for whom they are.
pub returns-then-not-goes_with-clause-leads : goal.returns-then-not-goes_with-clause-leads
returns-then-not-goes_with-clause-leads c = λ k me history fits.
    absurd (fit_none c.args.self.now c.args.desk.now (sym c.is_stopped.ensures ∙ c.if-is_stopped.false) (sym c.is_stopped-else-is_stopped.ensures ∙ c.if-is_stopped-2.false)
    (λ together. not_so c.goes_with.result c.if-not-goes_with.true (c.goes_with.ensures.1 together)) k me history fits)

pub returns-then-not-goes_with-clause-meant : goal.returns-then-not-goes_with-clause-meant
returns-then-not-goes_with-clause-meant c = λ k me history fits.
    absurd (fit_none c.args.self.now c.args.desk.now (sym c.is_stopped.ensures ∙ c.if-is_stopped.false) (sym c.is_stopped-else-is_stopped.ensures ∙ c.if-is_stopped-2.false)
    (λ together. not_so c.goes_with.result c.if-not-goes_with.true (c.goes_with.ensures.1 together)) k me history fits)

pub step_with-requires : goal.step_with-requires
step_with-requires c = record { together = c.goes_with.ensures.0 c.if-not-goes_with.false }
