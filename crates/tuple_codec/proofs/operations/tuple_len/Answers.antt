use Rattle.std.proofs.Common.{◌∙◌, sym}
use Rattle.tuple_codec.proofs.Lengths.{tuple_spelling_length}
use Rattle.tuple_codec.proofs.operations.tuple_len.Goals as goal

pub returns-clause-value : goal.returns-clause-value
returns-clause-value g c = c.encoded_len.ensures.value ∙ sym (tuple_spelling_length _)
