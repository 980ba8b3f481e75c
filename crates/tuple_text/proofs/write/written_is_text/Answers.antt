use Rattle.tuple_tree.specs.Items.{inner}
use Rattle.tuple_text.specs.Texts.{datum_text, slot_text}
use Rattle.tuple_text.proofs.Writing.{item_is_text}
use Rattle.tuple_text.proofs.write.written_is_text.Goals as goal

pub returns-clause-tuples : goal.returns-clause-tuples
returns-clause-tuples c = λ t. item_is_text datum_text (inner t)

pub returns-clause-templates : goal.returns-clause-templates
returns-clause-templates c = λ p. item_is_text slot_text (inner p)
