use Rattle.std.proofs.Common.{[], ap, refl, ◌∙◌}
use Rattle.tuple_codec.specs.OperationView.{operation_of}
use Rattle.tuple_codec.specs.Operations.{IsOperation}
use Rattle.tuple_codec.specs.Reading.{operation_at}
use Rattle.tuple_codec.specs.Spelling.{operation_spelling}
use Rattle.tuple_codec.proofs.Grammar.{one}
use Rattle.tuple_codec.proofs.OperationLaws.{operation_reads}
use Rattle.space.specs.Applying.{outcome}
use Rattle.space.specs.Births.{tuples_of}
use Rattle.read_only.proofs.answering.peek.Goals as goal

pub returns : goal.returns
returns c client op spelled =
    let text = c.args.text.now in
    let same = one IsOperation operation_spelling operation_at operation_reads text text [] [] (operation_of c.in-Ok.op) op c.in-Ok.ensures spelled refl in
    c.in_ok-peek.ensures.answer client ∙ ap (outcome (tuples_of c.args.space.now) client) same.1
