use Rattle.std.proofs.Common.{◌∙◌, sym}
use Rattle.tuple_codec.proofs.Lengths.{template_spelling_length}
use Rattle.tuple_codec.proofs.operations.template_len.Goals as goal

pub returns-clause-value : goal.returns-clause-value
returns-clause-value g c = c.encoded_len.ensures.value ∙ sym (template_spelling_length _)
