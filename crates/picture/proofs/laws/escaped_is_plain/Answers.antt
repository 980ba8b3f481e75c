use Rattle.picture.proofs.Plain.{plain_text, entities_begin}
use Rattle.picture.proofs.laws.escaped_is_plain.Goals as goal

pub returns : goal.returns
returns c = record { plain = plain_text; entities = entities_begin }
