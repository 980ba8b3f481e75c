use Rattle.std.proofs.Common.{sym, ap, ◌∙◌, subst}
use Rattle.ordering.specs.Log as logs
use Rattle.ordering.specs.Log.{LogData}
use Rattle.ordering.specs.Checkpoints.{lists_checkpoint}
use Rattle.orderer.specs.State.{OrdererData}
use Rattle.orderer.specs.OrdererView.{orderer_data}
use Rattle.orderer.specs.Checkpoints.{TakesCheckpoint}
use Rattle.orderer.proofs.Batches.{taken_by, takes_checkpoint, checkpoint_taken}
use Rattle.orderer.proofs.orderer.Orderer.take_checkpoint.Goals as goal

pub returns-clause-takes : goal.returns-clause-takes
returns-clause-takes c =
    let old = orderer_data c.self.inside in
    let took = taken_by c.on_checkpoint.result _ c.self.inside.log c.on_checkpoint.new.self _ (sym c.is_err.ensures.value ∙ c.if-is_err.false) c.on_checkpoint.ensures in
    subst (λ (o : OrdererData). TakesCheckpoint o c.args.sender c.args.checkpoint.now (record old { log = c.on_checkpoint.new.self }) c.has_checkpoint.result) c.self.view_is
    (takes_checkpoint old (record old { log = c.on_checkpoint.new.self }) c.args.sender c.args.checkpoint.now c.has_checkpoint.result took.0 (ap (λ (l : LogData). record old { log = l }) took.1)
    (c.has_checkpoint.ensures ∙ ap (λ e. lists_checkpoint e (logs.checkpoints_of c.on_checkpoint.new.self c.args.sender.0)) c.entry_in.ensures))

pub invariant_of-self-2 : goal.invariant_of-self-2
invariant_of-self-2 c = checkpoint_taken (orderer_data c.self.inside) c.args.sender c.args.checkpoint.now c.on_checkpoint.new.self c.on_checkpoint.result c.self.invariant c.on_checkpoint.ensures
