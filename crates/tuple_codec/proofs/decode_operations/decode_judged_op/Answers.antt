use Rattle.std.proofs.Common.{◌≡◌, [], Some, None, subst, sym, ◌∙◌}
use Rattle.tuple_codec.specs.Results.{DecodingFails}
use Rattle.tuple_codec.specs.Operations.{IsOperation}
use Rattle.tuple_codec.specs.Reading.{operation_at}
use Rattle.tuple_codec.specs.Spelling.{SpellsOperation, operation_spelling}
use Rattle.tuple_codec.proofs.Grammar.{all_read}
use Rattle.tuple_codec.proofs.OperationLaws.{operation_reads}
use Rattle.tuple_tree.proofs.Readers.{parts}
use Rattle.tuple_codec.proofs.decode_operations.decode_judged_op.Goals as goal

pub unreachable-requires : goal.unreachable-requires
unreachable-requires g c =
    let read = all_read IsOperation operation_spelling operation_at operation_reads c.args.bytes.now c.requires.0 c.requires.1 in
    let fails = subst (λ e. DecodingFails e (operation_at c.args.bytes.now)) c.in-Err-Malformed.field-0-is c.in-Err-Malformed.ensures in
    let e : None ≡ Some (c.requires.0, []) = sym fails ∙ read in
    let k : ⊥ = cc in k

pub returns-in-Ok : goal.returns-in-Ok
returns-in-Ok g c =
    let read = all_read IsOperation operation_spelling operation_at operation_reads c.args.bytes.now c.requires.0 c.requires.1 in
    subst (SpellsOperation c.args.bytes.now) (parts (sym read ∙ c.in-Ok.ensures)).0 c.requires.1
