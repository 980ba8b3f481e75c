-- The decoded bytes spell the operation, and what it was answered was encoded.
use Rattle.tuple_codec.specs.OperationView.{operation_of}
use Rattle.space_library.proofs.Runs.{some_spelled, answered_with}
use Rattle.space_library.proofs.running.run_next.Goals as goal

pub returns-clause-ok : goal.returns-clause-ok
returns-clause-ok c = record {
  op = operation_of c.in-Ok.found.0;
  some = some_spelled _ _ _ c.in-Ok.ensures.found.1;
  within = c.in-Ok.ensures.found.0;
  spelled = c.in-Ok.ensures.found.1;
  answered = answered_with _ _ _ _ c.in-Ok-encode_result.ensures.ok c.in-Ok-apply.ensures.answer;
  left = c.in-Ok-apply.ensures.tuples;
}
