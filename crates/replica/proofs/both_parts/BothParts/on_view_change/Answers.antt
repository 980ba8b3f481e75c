use Rattle.std.proofs.Common.{◌≡◌, inl, inr, Bool, List, [], Some, sym, ap, ◌∙◌, subst}
use Rattle.wire_format.specs.Messages.{view_change}
use Rattle.wire_format.specs.Views.{view_change_data}
use Rattle.events.specs.declared.output.Output.{Output}
use Rattle.view_change.specs.ReceivedView.{held_as}
use Rattle.replica.specs.State.{BothPartsData, heard}
use Rattle.replica.specs.BothPartsView.{both_parts_data}
use Rattle.terms.specs.declared.order.View.{View}
use Rattle.orderer.specs.ViewChangeOut.{IsJoinedBy, IsJoinedByNone}
use Rattle.replica.specs.Changing.{ChangesView}
use Rattle.orderer.proofs.ChangingViews.{of_some, of_none}
use Rattle.orderer.specs.Receiving.{ReceivesViewChange}
use Rattle.replica.proofs.ChangesCome.{heard_is_signed, change_refused, change_taken, MayJoin}
use Rattle.replica.proofs.Results.{if_ok_on}
use Rattle.replica.proofs.both_parts.BothParts.on_view_change.Goals.{in-Some+in_ok-change_view, in_default}
use Rattle.replica.proofs.both_parts.BothParts.on_view_change.Goals as goal

pub receive-requires : goal.receive-requires
receive-requires c =
    heard_is_signed c.sizes_decide.ensures.decide c.self.inside.orderer (record { sender = c.args.sender; change = c.args.message }) c.args.frame.now c.keeps.ensures.own
    (subst (λ (a : BothPartsData). heard a.orderer c.args.frame.now ≡ Some (record { sender = c.args.sender.0; message = view_change (view_change_data c.args.message) })) (sym c.self.view_is) c.requires.authentic)

pub returns-then-not-branch-clause-ok : goal.returns-then-not-branch-clause-ok
returns-then-not-branch-clause-ok c = rw (← c.self.view_is, c.requires.first)
    (change_refused (both_parts_data c.self.inside) (record { sender = c.args.sender; change = c.args.message }) c.args.frame.now c.self.invariant c.judges.ensures.alike c.judges.ensures.changes
    (subst (λ (a : BothPartsData). heard a.orderer c.args.frame.now ≡ Some (record { sender = c.args.sender.0; message = view_change (view_change_data c.args.message) })) (sym c.self.view_is) c.requires.authentic)
    (heard_is_signed c.sizes_decide.ensures.decide c.self.inside.orderer (record { sender = c.args.sender; change = c.args.message }) c.args.frame.now c.keeps.ensures.own
    (subst (λ (a : BothPartsData). heard a.orderer c.args.frame.now ≡ Some (record { sender = c.args.sender.0; message = view_change (view_change_data c.args.message) })) (sym c.self.view_is) c.requires.authentic))
    c.receive.new.self
    (subst (λ (b : Bool). ReceivesViewChange (held_as (record { sender = c.args.sender; change = c.args.message }) c.args.frame.now) c.self.inside.orderer c.receive.new.self b) c.if-not-branch.true c.in_ok-receive.ensures.ok))

pub returns-clause-ok : goal.returns-clause-ok
returns-clause-ok c =
    let r : BothPartsData = both_parts_data c.self.inside in
    let with_it : BothPartsData = both_parts_data (record c.self.inside { orderer = c.receive.new.self }) in
    let moved : BothPartsData = c.match-joined_view.self in
    let said : List Output = c.match-joined_view.outputs.items in
    let moves : MayJoin with_it [] moved said =
    elim c.match-joined_view.branch [
      | in-Some+in_ok-change_view w ↦ inl (record {
        view = w.in-Some.view.0;
        joined = of_some (λ (v : View). IsJoinedBy c.receive.new.self v.0) c.joined_view.result w.in-Some.view w.in-Some.is c.joined_view.ensures.joined;
        flag = w.in_ok-change_view.field-0;
        changes = subst (λ (a : BothPartsData). ChangesView w.in-Some.view.0 with_it [] a said w.in_ok-change_view.field-0) (sym w.self-is)
            (subst (λ (os : List Output). ChangesView w.in-Some.view.0 with_it [] w.change_view.new.self os w.in_ok-change_view.field-0) (sym (ap (λ o. o.items) w.outputs-is))
            (subst (λ (os : List Output). ChangesView w.in-Some.view.0 with_it os w.change_view.new.self w.change_view.new.outputs.items w.in_ok-change_view.field-0) c.requires.first w.in_ok-change_view.ensures.ok));
      })
      | in_default w ↦ inr (w.self-is, ap (λ o. o.items) w.outputs-is ∙ c.requires.first, of_none (IsJoinedByNone c.receive.new.self) c.joined_view.result w.in_default.is c.joined_view.ensures.none)
    ] in
    rw (← c.self.view_is)
    (if_ok_on _ _ c.begin_view.result (λ what begins. change_taken r (record { sender = c.args.sender; change = c.args.message }) c.args.frame.now c.self.invariant c.judges.ensures.alike c.judges.ensures.changes
    (subst (λ (a : BothPartsData). heard a.orderer c.args.frame.now ≡ Some (record { sender = c.args.sender.0; message = view_change (view_change_data c.args.message) })) (sym c.self.view_is) c.requires.authentic)
    (heard_is_signed c.sizes_decide.ensures.decide c.self.inside.orderer (record { sender = c.args.sender; change = c.args.message }) c.args.frame.now c.keeps.ensures.own
    (subst (λ (a : BothPartsData). heard a.orderer c.args.frame.now ≡ Some (record { sender = c.args.sender.0; message = view_change (view_change_data c.args.message) })) (sym c.self.view_is) c.requires.authentic))
    c.receive.new.self moved c.begin_view.new.self said c.begin_view.new.outputs.items what
    (subst (λ (b : Bool). ReceivesViewChange (held_as (record { sender = c.args.sender; change = c.args.message }) c.args.frame.now) c.self.inside.orderer c.receive.new.self b) c.if-not-branch.false c.in_ok-receive.ensures.ok)
    moves begins) c.begin_view.ensures.ok)
