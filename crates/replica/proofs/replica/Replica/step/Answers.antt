use Rattle.std.proofs.Common.{Option, [], sym, subst}
use Rattle.replica.specs.State.{BothPartsData}
use Rattle.replica.specs.Fits.{EventLeads}
use Rattle.replica.specs.MemberView.{member_data}
use Rattle.replica.specs.ReplicaView.{both_of, replica_data}
use Rattle.replica.proofs.PartsLead.{joined_steps, joined_stops}
use Rattle.replica.proofs.replica.Replica.step.Goals as goal

pub returns-in_default-clause-stops : goal.returns-in_default-clause-stops
returns-in_default-clause-stops c =
    rw (← c.self.view_is)
    (subst (λ (h : Option BothPartsData). EventLeads (replica_data c.self.inside) c.args.event [] (both_of (member_data c.self.inside.member) h)) (sym c.in_default.is)
    (joined_stops (member_data c.self.inside.member) c.self.inside.holds c.args.event))

pub returns-in_default-step-clause-stops : goal.returns-in_default-step-clause-stops
returns-in_default-step-clause-stops c = rw (← c.self.view_is) (joined_stops (member_data c.self.inside.member) c.self.inside.holds c.args.event)

pub returns-clause-leads : goal.returns-clause-leads
returns-clause-leads c =
    rw (← c.self.view_is)
    (joined_steps (member_data c.self.inside.member) c.self.inside.holds c.in-Some.both_parts c.step.new.self c.args.event c.in-Ok.outputs.items c.in-Some.is c.self.invariant.0
    c.in-Ok.ensures.before c.in-Ok.ensures.leads c.in-Ok.ensures.after c.in-Ok.ensures.changes c.in-Ok.ensures.party.endpoint).0

pub returns-clause-meant : goal.returns-clause-meant
returns-clause-meant c =
    rw (← c.self.view_is)
    (joined_steps (member_data c.self.inside.member) c.self.inside.holds c.in-Some.both_parts c.step.new.self c.args.event c.in-Ok.outputs.items c.in-Some.is c.self.invariant.0
    c.in-Ok.ensures.before c.in-Ok.ensures.leads c.in-Ok.ensures.after c.in-Ok.ensures.changes c.in-Ok.ensures.party.endpoint).1
