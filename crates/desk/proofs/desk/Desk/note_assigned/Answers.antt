use Rattle.std.proofs.Common.{ℕ, List, sym, ap, ◌∙◌, subst}
use Rattle.std.specs.Arc.{arc_value}
use Rattle.wire_format.specs.Words.{requests_of}
use Rattle.desk.specs.Assigned.{AddsCalls}
use Rattle.desk.specs.State.{DeskData}
use Rattle.desk.specs.DeskView.{desk_data}
use Rattle.desk.specs.Waiting.{WaitingData, with_view}
use Rattle.desk.specs.declared.waiting.AssignedCall.{AssignedCall}
use Rattle.desk.proofs.AssignedCalls.{BatchesLeft, no_calls, batch_added, batches_end}
use Rattle.desk.proofs.desk.Desk.note_assigned.Goals as goal

pub loop-batch-init : goal.loop-batch-init
loop-batch-init c = subst (λ (calls : List AssignedCall). BatchesLeft c.args.self.now.executed.clients c.args.batches.now calls 0) (sym c.new-calls.ensures.items) (no_calls c.args.self.now.executed.clients c.args.batches.now)

pub loop-batch-preserved : goal.loop-batch-preserved
loop-batch-preserved c =
    let clients = c.args.self.now.executed.clients in
    batch_added clients c.args.batches.now c.loop-batch.calls.items c.add_calls.new.calls.items c.loop-batch.batch-index _ c.loop-batch-test.true
    (subst (λ (t : List ℕ). AddsCalls clients (requests_of t) c.loop-batch.calls.items c.add_calls.new.calls.items) (c.text.ensures ∙ c.deref.ensures ∙ ap arc_value c.batch-item.is) c.in_ok-add_calls.ensures)
    c.loop-batch.invariant

pub returns-clause-ok : goal.returns-clause-ok
returns-clause-ok c = record {
  calls = c.loop-batch.calls.items;
  are = batches_end c.args.self.now.executed.clients c.args.batches.now c.loop-batch.calls.items c.loop-batch.batch-index c.loop-batch-test.false c.loop-batch.invariant;
  new_is = ap (λ (w : WaitingData). record (desk_data c.self-2.inside) { waiting = w }) c.begin_view.ensures
      ∙ ap (λ (d : DeskData). record d { waiting = with_view c.loop-batch.calls.items d.waiting }) c.self-2.view_is;
}
