use Rattle.std.proofs.Common.{◌∙◌, [], arith}
use Rattle.tuple_tree.specs.Reading.{tuple_at}
use Rattle.tuple_codec.specs.Reading.{with_last_tuple}
use Rattle.tuple_tree.proofs.Skipping.{skip_goes_on}
use Rattle.tuple_codec.proofs.check.skip_tuples.Goals as goal

pub loop-i-preserved : goal.loop-i-preserved
loop-i-preserved c = skip_goes_on tuple_at with_last_tuple _ _ [] _ _ (omega arith) c.in_ok-rest.ensures ∙ c.loop-i.invariant
