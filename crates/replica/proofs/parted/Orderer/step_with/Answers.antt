use Rattle.std.proofs.Common.{◌≡◌, Some, sym, ap, ◌∙◌, subst}
use Rattle.replica.specs.State.{OrdererPart, DeskPart, BothPartsData, IsOrdererPart, IsDeskPart, AreOne}
use Rattle.replica.specs.BothParts.{BothPartsEventLead, both_parts}
use Rattle.orderer.specs.ViewChangeOut.{AreChanges}
use Rattle.replica.specs.Parted.{PartsReact}
use Rattle.replica.proofs.PartsLead.{orders, answers, steps, steps_send, together_one}
use Rattle.replica.proofs.parted.Orderer.step_with.Goals as goal

pub invariant_of-both_parts : goal.invariant_of-both_parts
invariant_of-both_parts c =
    let o = c.args.self.now in
    let d = c.args.desk.now in
    let x = c.take_orderer-orderer.result in
    let y = c.take_desk-state.result in
    let o_is : o.holds ≡ Some x = ap (λ (p : OrdererPart). p.holds) (sym c.self.view_is) ∙ c.take_orderer-orderer.ensures.is in
    let d_is : d.holds ≡ Some y = ap (λ (p : DeskPart). p.holds) (sym c.desk.view_is) ∙ c.take_desk-state.ensures.is in
    let are_o : IsOrdererPart o = subst IsOrdererPart c.self.view_is c.self.invariant in
    let are_d : IsDeskPart d = subst IsDeskPart c.desk.view_is c.desk.invariant in
    together_one o d x y c.requires.together are_o are_d o_is d_is

pub returns-clause-leads : goal.returns-clause-leads
returns-clause-leads c =
    let o = c.args.self.now in
    let d = c.args.desk.now in
    let x = c.take_orderer-orderer.result in
    let y = c.take_desk-state.result in
    let o_is : o.holds ≡ Some x = ap (λ (p : OrdererPart). p.holds) (sym c.self.view_is) ∙ c.take_orderer-orderer.ensures.is in
    let d_is : d.holds ≡ Some y = ap (λ (p : DeskPart). p.holds) (sym c.desk.view_is) ∙ c.take_desk-state.ensures.is in
    let are_o : IsOrdererPart o = subst IsOrdererPart c.self.view_is c.self.invariant in
    let are_d : IsDeskPart d = subst IsDeskPart c.desk.view_is c.desk.invariant in
    let one : AreOne x y = together_one o d x y c.requires.together are_o are_d o_is d_is in
    let reacts : PartsReact x y c.args.event c.in-Ok.outputs.items c.both_parts.inside.orderer c.both_parts.inside.desk = record {
      leads = subst (λ (n : BothPartsData). BothPartsEventLead (both_parts x y) c.args.event c.in-Ok.outputs.items n) (sym c.both_parts.view_is) c.in-Ok.ensures.leads;
      one = c.both_parts.invariant;
      changes = subst (λ (n : BothPartsData). AreChanges n.orderer.received.held) (sym c.both_parts.view_is) c.in-Ok.ensures.changes;
      endpoint = ap (λ (n : BothPartsData). n.orderer.endpoint) c.both_parts.view_is ∙ c.in-Ok.ensures.party.endpoint;
    } in
    steps o _ d _ x c.both_parts.inside.orderer y c.both_parts.inside.desk c.args.event c.in-Ok.outputs.items o_is d_is c.requires.together.member are_o one reacts
    (ap (λ (p : OrdererPart). orders p.member c.both_parts.inside.orderer) c.self.view_is)
    (ap (λ (p : DeskPart). answers p.member c.both_parts.inside.desk) c.desk.view_is)

pub returns-clause-sends : goal.returns-clause-sends
returns-clause-sends c =
    let o = c.args.self.now in
    let d = c.args.desk.now in
    let x = c.take_orderer-orderer.result in
    let y = c.take_desk-state.result in
    let o_is : o.holds ≡ Some x = ap (λ (p : OrdererPart). p.holds) (sym c.self.view_is) ∙ c.take_orderer-orderer.ensures.is in
    let d_is : d.holds ≡ Some y = ap (λ (p : DeskPart). p.holds) (sym c.desk.view_is) ∙ c.take_desk-state.ensures.is in
    let are_o : IsOrdererPart o = subst IsOrdererPart c.self.view_is c.self.invariant in
    let are_d : IsDeskPart d = subst IsDeskPart c.desk.view_is c.desk.invariant in
    let one : AreOne x y = together_one o d x y c.requires.together are_o are_d o_is d_is in
    let reacts : PartsReact x y c.args.event c.in-Ok.outputs.items c.both_parts.inside.orderer c.both_parts.inside.desk = record {
      leads = subst (λ (n : BothPartsData). BothPartsEventLead (both_parts x y) c.args.event c.in-Ok.outputs.items n) (sym c.both_parts.view_is) c.in-Ok.ensures.leads;
      one = c.both_parts.invariant;
      changes = subst (λ (n : BothPartsData). AreChanges n.orderer.received.held) (sym c.both_parts.view_is) c.in-Ok.ensures.changes;
      endpoint = ap (λ (n : BothPartsData). n.orderer.endpoint) c.both_parts.view_is ∙ c.in-Ok.ensures.party.endpoint;
    } in
    steps_send o d x c.both_parts.inside.orderer y c.both_parts.inside.desk c.args.event c.in-Ok.outputs.items o_is d_is c.requires.together.member are_o one reacts
