use Rattle.std.proofs.Common.{subst, arith}
use Rattle.std.proofs.lemmas.List.{take_all}
use Rattle.std.proofs.lemmas.List.Elements.{All-more}
use Rattle.std.specs.Prelude.{All}
use Rattle.tuple_tree.specs.Values.{IsTuple}
use Rattle.tuple_codec.proofs.Several.{AreTuples-from_All}
use Rattle.tuple_codec.proofs.operations.note_tuples.Goals as goal

pub loop-tuple-preserved : goal.loop-tuple-preserved
loop-tuple-preserved g c =
    All-more IsTuple c.args.tuples.now c.loop-tuple.tuple-index c.tuple-item.result c.loop-tuple-test.true c.loop-tuple.invariant (subst IsTuple c.tuple-item.is c.note_tuple.ensures)

pub returns : goal.returns
returns g c = AreTuples-from_All c.args.tuples.now (subst (All IsTuple) (take_all c.loop-tuple.tuple-index c.args.tuples.now (omega arith)) c.loop-tuple.invariant)
