use Rattle.std.proofs.lemmas.Result.{IfOk-weaker}
use Rattle.space_node.proofs.handle_state.step_client.Goals as goal

pub returns-in-Got-clause-leads : goal.returns-in-Got-clause-leads
returns-in-Got-clause-leads c =
    IfOk-weaker c.step.result _ _ (λ outs leads. rw (c.in-Got.is, ← c.as_slice.ensures.value) leads) c.step.ensures.leads

pub returns-in-Tick-clause-leads : goal.returns-in-Tick-clause-leads
returns-in-Tick-clause-leads c =
    IfOk-weaker c.step-in-Tick.result _ _ (λ outs leads. rw (c.in-Tick.is) leads) c.step-in-Tick.ensures.leads
