use Rattle.std.proofs.Common.{rules, ◌≡◌, suc, ◌+◌, Some, sym, ◌∙◌, ap, subst, arith}
use Rattle.ordering.specs.Log.{committed_batch}
use Rattle.ordering.specs.RowView.{batch_lent}
use Rattle.replica.specs.State.{BothPartsData}
use Rattle.replica.specs.BothPartsView.{both_parts_data}
use Rattle.replica.specs.Going.{ExecutesNextBatch}
use Rattle.replica.proofs.Executions.{executes_next}
use Rattle.replica.proofs.both_parts.BothParts.execute_next.Goals as goal

pub returns-clause-ok : goal.returns-clause-ok
returns-clause-ok c =
    let d = c.self.inside.desk in
    let log = c.self.inside.orderer.log in
    let at : c.number.result.0 ≡ d.executed.state.number = search rules in
    let next : c.number.result.0 + 1 ≡ suc d.executed.state.number = omega (arith, at) in
    let seen : batch_lent c.next_batch.result ≡ committed_batch log (c.number.result.0 + 1) = search rules in
    let there : committed_batch log (suc d.executed.state.number) ≡ Some c.text.result.now =
    ap (committed_batch log) (sym next) ∙ sym seen ∙ ap batch_lent c.in-Some.is ∙ ap Some (sym (c.text.ensures ∙ c.deref.ensures ∙ c.in_ok-batch.ensures)) in
    subst (λ (a : BothPartsData). ExecutesNextBatch a c.args.outputs.now.items c.multicast_due_checkpoint.new.self c.multicast_due_checkpoint.new.outputs.items) c.self.view_is
    (executes_next (both_parts_data c.self.inside) c.execute.new.self c.multicast_due_checkpoint.new.self c.text.result.now c.args.outputs.now.items c.execute.new.outputs.items
    c.multicast_due_checkpoint.new.outputs.items
    c.in_ok-execute.ensures.ok
    there
    c.in_ok-multicast_due_checkpoint.ensures.ok)
