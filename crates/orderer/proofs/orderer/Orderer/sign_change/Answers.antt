use Rattle.std.proofs.Common.{rules, ◌≡◌, Bool, List, ℕ, ◌+◌, Some, inl, inr, true, refl, sym, subst}
use Rattle.wire_format.specs.Views.{checkpoint_entries_data, message_data}
use Rattle.protocol.specs.Replica.Selection.{signed_change}
use Rattle.view_change.specs.declared.changes.Change.{Change}
use Rattle.view_change.specs.ReceivedView.{judging_configuration, held_as}
use Rattle.view_change.specs.Sets.{change_pair}
use Rattle.orderer.specs.State.{OrdererData}
use Rattle.orderer.specs.Receiving.{ReceivesViewChange}
use Rattle.orderer.proofs.ChangingViews.{of_some, signs_in, own_is_signed, signs_change, signs_copy, not_signed, of_none, too_many}
use Rattle.orderer.proofs.orderer.Orderer.sign_change.Goals as goal

pub receive-requires : goal.receive-requires
receive-requires c =
    let x : Change = record { sender = c.me.result; change = c.in-Some.change } in
    let signed = signs_in (message_data c.view_change_message.result) c.args.self.now c.sign.new.self c.in_ok-frame.field-0 c.in-Some-2.frame c.in-Some-2.is c.in_ok-frame.ensures.ok in
    subst (λ (b : List ℕ). signed_change (judging_configuration c.sign.new.self.received) b ≡ Some (change_pair x)) (sym c.deref.ensures.value)
    (subst (λ (o : OrdererData). signed_change (judging_configuration o.received) c.in-Some-2.frame.items ≡ Some (change_pair x)) (sym c.sign.ensures.same)
    (own_is_signed c.args.self.now x c.in-Some-2.frame.items c.keeps.ensures.own c.keeps.ensures.log (search rules)
    (signs_copy c.args.self.now c.in_ok-said.said x _ c.in-Some-2.frame.items c.in_ok-said.ensures c.view_change_message.ensures.says signed.0)))

pub returns-clause-ok : goal.returns-clause-ok
returns-clause-ok c =
    let x : Change = record { sender = c.me.result; change = c.in-Some.change } in
    let signed = signs_in (message_data c.view_change_message.result) c.args.self.now c.sign.new.self c.in_ok-frame.field-0 c.in-Some-2.frame c.in-Some-2.is c.in_ok-frame.ensures.ok in
    signs_change c.args.view.0 c.low-low.result.0 (checkpoint_entries_data c.args.checkpoints) c.self.inside.pq_sets c.args.self.now c.receive.new.self x c.in-Some-2.frame.items (search rules)
    (of_some _ _ _ c.in-Some.is c.in_ok-change.ensures.made) (search rules) (search rules)
    (signs_copy c.args.self.now c.in_ok-said.said x _ c.in-Some-2.frame.items c.in_ok-said.ensures c.view_change_message.ensures.says signed.0)
    signed.1
    (subst (λ (b : List ℕ). ReceivesViewChange (held_as x b) (record c.args.self.now { spent = c.args.self.now.spent + 1 }) c.receive.new.self true) c.deref.ensures.value
    (subst (λ (o : OrdererData). ReceivesViewChange (held_as x c.deref.result.now) o c.receive.new.self true) signed.2
    (subst (λ (b : Bool). ReceivesViewChange (held_as x c.deref.result.now) c.sign.new.self c.receive.new.self b) c.if-not-branch.false c.in_ok-receive.ensures.ok)))

pub returns-in_default-clause-ok : goal.returns-in_default-clause-ok
returns-in_default-clause-ok c = rw (← c.self.view_is) (refl, inr (inl (too_many _ _ (of_none _ _ c.in_default.is c.in_ok-change.ensures.none))))

pub returns-in_default-2-clause-ok : goal.returns-in_default-2-clause-ok
returns-in_default-2-clause-ok c =
    let x : Change = record { sender = c.me.result; change = c.in-Some.change } in
    not_signed c.args.self.now c.sign.new.self c.args.view.0 c.low-low.result.0 (checkpoint_entries_data c.args.checkpoints) c.self.inside.pq_sets c.in_ok-said.said x (message_data c.view_change_message.result) c.in_ok-frame.field-0
    (of_some _ _ _ c.in-Some.is c.in_ok-change.ensures.made) (search rules) (search rules) c.in_ok-said.ensures c.view_change_message.ensures.says c.in_default-2.is c.in_ok-frame.ensures.ok
