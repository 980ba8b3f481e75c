use Rattle.std.proofs.Common.{sym, subst, ℕ, List, IfOk}
use Rattle.events.specs.Outputs.{after_event}
use Rattle.protocol.specs.System.Trace.Entry.{Got}
use Rattle.replica.specs.Parted.{FitBoth}
use Rattle.replica.proofs.Results.{if_ok_on}
use Rattle.space_node.specs.PartyStates.{InputLeads}
use Rattle.space_node.specs.declared.input.Input.{Input}
use Rattle.space_node.proofs.node_order.step_parts.Goals as goal

pub returns-in-Got-clause-leads : goal.returns-in-Got-clause-leads
returns-in-Got-clause-leads c =
    subst (λ (i : Input). IfOk c.step.result (λ outs. InputLeads c.args.orderer.now c.args.desk.now i outs.items c.step.new.self c.step.new.desk)) (sym c.in-Got.is)
    (if_ok_on _ _ c.step.result
    (λ outs leads config me history fits. subst (λ (bytes : List ℕ). FitBoth config me c.step.new.self c.step.new.desk (after_event me (Got me bytes) outs.items history)) c.as_slice.ensures.value (leads config me history fits))
    c.step.ensures.leads)

pub returns-in-Tick-clause-leads : goal.returns-in-Tick-clause-leads
returns-in-Tick-clause-leads c =
    subst (λ (i : Input). IfOk c.step-in-Tick.result (λ outs. InputLeads c.args.orderer.now c.args.desk.now i outs.items c.step-in-Tick.new.self c.step-in-Tick.new.desk)) (sym c.in-Tick.is)
    c.step-in-Tick.ensures.leads
