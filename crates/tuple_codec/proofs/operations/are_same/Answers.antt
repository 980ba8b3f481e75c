use Rattle.std.proofs.Common.{arith}
use Rattle.tuple_codec.proofs.Several.{compared}
use Rattle.tuple_codec.proofs.operations.are_same.Goals as goal

pub returns : goal.returns
returns g c =
    let past = c.loop-tuple-test.false in
    compared c.args.tuples.now c.args.others.now c.loop-tuple.tuple-index c.loop-tuple.at _ (omega arith) c.loop-tuple.invariant.0 c.loop-tuple.invariant.1
