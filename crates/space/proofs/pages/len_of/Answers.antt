use Rattle.std.proofs.Common.{◌∙◌, sym}
use Rattle.tuple_codec.proofs.Lengths.{tuple_spelling_length}
use Rattle.space.proofs.pages.len_of.Goals as goal

pub returns : goal.returns
returns c = c.encoded_len.ensures.value ∙ sym (tuple_spelling_length c.args.tuple.now)
