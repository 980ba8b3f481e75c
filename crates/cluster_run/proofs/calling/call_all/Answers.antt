use Rattle.std.proofs.Common.{rules, ◌++◌, ◌∷◌, [], map, subst}
use Rattle.tuple_codec.specs.OperationView.{operation_of, outcome_of}
use Rattle.space_node.specs.Calls.{Called}
use Rattle.cluster_run.specs.Hands.{HasCalled}
use Rattle.cluster_run.proofs.Answering.{call_more}
use Rattle.cluster_run.proofs.calling.call_all.Goals as goal

pub loop-op-preserved : goal.loop-op-preserved
loop-op-preserved g c =
    let called : Called c.loop-op.client (operation_of c.in-Some.op) (outcome_of c.in_ok-call.field-0) c.call.new.self = search rules in
    subst (λ vs. HasCalled c.args.client.now (map operation_of (c.loop-op.yielded ++ c.in-Some.op ∷ [])) (map outcome_of vs) c.call.new.self) (search rules)
    (call_more c.args.client.now c.loop-op.client c.call.new.self c.loop-op.yielded c.loop-op.answers.items c.in-Some.op c.in_ok-call.field-0 c.loop-op.invariant called)
