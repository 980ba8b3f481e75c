use Rattle.std.proofs.Common.{ap, ◌∙◌}
use Rattle.std.proofs.lemmas.Result.{on_ok_weaker}
use Rattle.tuple_codec.specs.OperationView.{operation_of}
use Rattle.space.specs.Births.{tuples_of}
use Rattle.space.proofs.Batches.{next_bounded}
use Rattle.space.proofs.Keeping.{tuples_of-state_after}
use Rattle.space.proofs.tuples.Space.apply.Goals as goal

pub returns-clause-tuples : goal.returns-clause-tuples
returns-clause-tuples g c =
    on_ok_weaker c.answer-result.result (λ e. ap tuples_of e ∙ tuples_of-state_after c.args.self.now c.args.client (operation_of c.args.op.now)) c.answer-result.ensures.state

pub returns-clause-next : goal.returns-clause-next
returns-clause-next g c =
    next_bounded c.answer-result.result c.args.self.now c.answer-result.new.self c.args.client (operation_of c.args.op.now) c.answer-result.ensures.state c.answer-result.ensures.err
