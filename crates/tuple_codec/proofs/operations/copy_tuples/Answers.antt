use Rattle.std.proofs.Common.{◌∙◌, arith}
use Rattle.std.proofs.lemmas.List.{take_all}
use Rattle.tuple_codec.proofs.Several.{copied}
use Rattle.tuple_codec.proofs.operations.copy_tuples.Goals as goal

pub loop-tuple-preserved : goal.loop-tuple-preserved
loop-tuple-preserved g c =
    copied c.args.tuples.now c.loop-tuple.tuple-index c.tuple-item.result c.in_ok-copy.copy _ _ (omega arith) c.tuple-item.is c.loop-tuple.invariant (c.in_ok-push.ensures {u = tt}).items (c.in_ok-copy.ensures {u = tt})

pub returns : goal.returns
returns g c = c.loop-tuple.invariant ∙ take_all c.loop-tuple.tuple-index c.args.tuples.now (omega arith)
