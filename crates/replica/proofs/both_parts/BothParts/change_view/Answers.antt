use Rattle.std.proofs.Common.{IsTrue, List, length, ◌≤◌, sym, subst}
use Rattle.wire_format.specs.Messages.{CheckpointEntryData as CheckpointEntry}
use Rattle.wire_format.specs.Views.{checkpoint_entries_data}
use Rattle.replica.specs.State.{BothPartsData}
use Rattle.replica.specs.BothPartsView.{both_parts_data}
use Rattle.orderer.specs.ViewChangeOut.{IsNextView, MaySignChange, SignsChange}
use Rattle.desk.specs.Keeping.{is_ascending}
use Rattle.replica.proofs.ChangingViews.{leaves_as, stays_unsaid}
use Rattle.replica.proofs.both_parts.BothParts.change_view.Goals as goal

pub returns-clause-ok : goal.returns-clause-ok
returns-clause-ok c = rw (← c.self.view_is)
    (leaves_as c.args.view.0 (both_parts_data c.self.inside) c.sign_change.new.self c.leave_for.new.self c.in-Some.frame.items c.deref.result.now c.args.outputs.now.items c.multicast_frame.new.outputs.items
    c.self.invariant (subst (λ (r : BothPartsData). IsNextView r.orderer c.args.view.0) (sym c.self.view_is) c.requires) c.keeps.ensures.own
    (subst (λ (cs : List CheckpointEntry). SignsChange c.args.view.0 cs c.self.inside.orderer c.sign_change.new.self c.in-Some.frame.items) c.in_ok-checkpoints.ensures.are
    (subst (MaySignChange c.args.view.0 (checkpoint_entries_data c.in_ok-checkpoints.checkpoints) c.self.inside.orderer c.sign_change.new.self) c.in-Some.is c.in_ok-frame.ensures.ok))
    c.leave_for.ensures c.deref.ensures.value c.in_ok-multicast_frame.ensures)

pub sign_change-requires-clause-few : goal.sign_change-requires-clause-few
sign_change-requires-clause-few c = subst (λ (cs : List CheckpointEntry). length cs ≤ 3) (sym c.in_ok-checkpoints.ensures.are) c.in_ok-checkpoints.ensures.few

pub sign_change-requires-clause-order : goal.sign_change-requires-clause-order
sign_change-requires-clause-order c = subst (λ (cs : List CheckpointEntry). IsTrue (is_ascending cs)) (sym c.in_ok-checkpoints.ensures.are) c.in_ok-checkpoints.ensures.order

pub returns-in_default-clause-ok : goal.returns-in_default-clause-ok
returns-in_default-clause-ok c = rw (← c.self.view_is)
    (stays_unsaid c.args.view.0 (both_parts_data c.self.inside) c.sign_change.new.self (checkpoint_entries_data c.in_ok-checkpoints.checkpoints) c.in_ok-frame.field-0 c.args.outputs.now.items
    c.in_ok-checkpoints.ensures.are c.in_default.is c.in_ok-frame.ensures.ok)
