use Rattle.std.proofs.Common.{map}
use Rattle.tuple_codec.specs.OperationView.{operation_of, outcome_of}
use Rattle.cluster_run.specs.Hands.{HasCalled}
use Rattle.cluster_run.proofs.calling.call_all.Given as goal

abbrev pub invariant-loop-op : goal.invariant-loop-op
invariant-loop-op g l = HasCalled l.initial.client (map operation_of l.yielded) (map outcome_of l.answers.items) l.client
