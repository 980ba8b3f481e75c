use Rattle.std.proofs.Common.{[], Some, ap, refl, ◌∙◌}
use Rattle.tuple_codec.specs.Operations.{Operation, IsOperation}
use Rattle.tuple_codec.specs.OperationView.{operation_of}
use Rattle.tuple_codec.specs.Reading.{operation_at}
use Rattle.tuple_codec.specs.Spelling.{operation_spelling}
use Rattle.tuple_codec.proofs.Grammar.{one}
use Rattle.tuple_codec.proofs.OperationLaws.{operation_reads}
use Rattle.execution.proofs.calls.read_call.Goals as goal

pub returns-clause-found : goal.returns-clause-found
returns-clause-found g c k e =
    let text = c.in-Some.request.op.now in
    let holds = c.in-Some.ensures.some in
    let same = one IsOperation operation_spelling operation_at operation_reads text text [] [] holds.op (operation_of c.in_ok-op.op) holds.spelled c.in_ok-op.ensures refl in
    holds.call k e ∙ ap (λ (op : Operation). Some (record { client = c.in-Some.client.number; timestamp = c.in-Some.request.timestamp.0; op = op })) same.1
