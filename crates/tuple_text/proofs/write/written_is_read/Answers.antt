use Rattle.tuple_text.proofs.WrittenAgain.{tuple_line, template_line, one_operation}
use Rattle.tuple_text.proofs.write.written_is_read.Goals as goal

pub returns-clause-tuples : goal.returns-clause-tuples
returns-clause-tuples c = tuple_line

pub returns-clause-templates : goal.returns-clause-templates
returns-clause-templates c = template_line

pub returns-clause-one : goal.returns-clause-one
returns-clause-one c = one_operation
