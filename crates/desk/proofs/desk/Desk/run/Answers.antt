use Rattle.std.proofs.Common.{◌≡◌, ℕ, suc, ◌+◌, map, ◌∙◌, ap, subst, arith}
use Rattle.execution.specs.Executed.{ExecutedData, ExecutesBatchText, told}
use Rattle.protocol.specs.Replica.State.{IsReplicatedState}
use Rattle.protocol.specs.System.Trace.Entry.{Executed}
use Rattle.desk.specs.State.{DeskData}
use Rattle.desk.specs.DeskView.{desk_data}
use Rattle.desk.specs.Waiting.{forgotten}
use Rattle.desk.specs.Desking.{keeping_due}
use Rattle.desk.proofs.Running.{kept_executed, one_more, ran_so, runs_batch}
use Rattle.desk.proofs.desk.Desk.run.Goals as goal

pub returns-clause-ok : goal.returns-clause-ok
returns-clause-ok c =
    let old : DeskData = desk_data c.self.inside in
    let kept : DeskData = desk_data c.self-2.inside in
    let lent = c.deref_mut-executed.ensures.value in
    let shown = c.deref-executed.ensures in
    let number = c.in_ok-ran.ensures.number ∙ ap (λ (e : ExecutedData). e.state.number + 1) lent in
    let kept_is : kept ≡ keeping_due (record old { executed = c.execute.new.self }) = c.self-2.view_is ∙ c.in_ok-keep_due.ensures.ok in
    rw (← c.self.view_is)
    (runs_batch old c.close_reached.new.self c.execute.new.self c.args.text.now c.in_ok-ran.ran.items _ c.args.outputs.now.items c.emit.new.outputs.items
    (ran_so old kept c.close_reached.new.self c.execute.new.self c.forget.new.self kept_is
    (c.forget.ensures ∙ ap (λ (e : ExecutedData). forgotten e.state kept.waiting) shown) c.close_reached.ensures)
    (record {
      is = c.self.invariant;
      is_state = subst (λ (e : ExecutedData). IsReplicatedState e.state) lent c.is_state.ensures;
      clients = omega (arith, ap (λ (e : ExecutedData). e.clients) lent, c.clients-clients.ensures.value, c.clients-clients.ensures.most);
      few = c.are_few.ensures;
    })
    (subst (λ (e : ExecutedData). ExecutesBatchText e c.args.text.now (map told c.in_ok-ran.ran.items) c.execute.new.self) lent c.in_ok-ran.ensures.executed) number
    (ap (λ (n : ℕ). Executed old.me n c.in_ok-batch.batch)
    (c.number.ensures.value ∙ ap (λ (e : ExecutedData). e.state.number) shown ∙ ap (λ e. e.state.number) (kept_executed (record old { executed = c.execute.new.self }) kept kept_is) ∙ number ∙ one_more old.executed.state.number)
    ∙ ap (Executed old.me (suc old.executed.state.number)) (c.in_ok-batch.ensures ∙ c.in_ok-copy.ensures.items))
    c.in_ok-emit.ensures.given)
