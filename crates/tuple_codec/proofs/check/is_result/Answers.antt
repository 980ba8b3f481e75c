use Rattle.std.proofs.Common.{arith}
use Rattle.tuple_codec.specs.Operations.{IsOutcome}
use Rattle.tuple_codec.specs.Spelling.{outcome_spelling}
use Rattle.tuple_codec.specs.Reading.{outcome_at}
use Rattle.tuple_codec.proofs.OperationLaws.{outcome_reads}
use Rattle.tuple_codec.proofs.Skipping.{whole_empty, whole_none}
use Rattle.tuple_codec.proofs.check.is_result.Goals as goal

pub returns-in-Some : goal.returns-in-Some
returns-in-Some c = whole_empty IsOutcome outcome_spelling outcome_at outcome_reads c.is_empty.result c.args.bytes.now c.in-Some.rest.now (λ i. omega (arith, c.type_inv.bytes i)) c.in-Some.ensures c.is_empty.ensures

pub returns-in-None : goal.returns-in-None
returns-in-None c = whole_none IsOutcome outcome_spelling outcome_at outcome_reads c.args.bytes.now c.in-None.ensures
