use Rattle.tuple_tree.specs.Values.{IsTuple, IsTemplate}
use Rattle.tuple_codec.specs.Operations.{IsOperation, IsOutcome}
use Rattle.tuple_tree.specs.Spelling.{tuple_spelling, template_spelling}
use Rattle.tuple_codec.specs.Spelling.{operation_spelling, outcome_spelling}
use Rattle.tuple_tree.specs.Reading.{tuple_at, template_at}
use Rattle.tuple_codec.specs.Reading.{operation_at, outcome_at}
use Rattle.tuple_codec.proofs.Grammar.{one, tuple_reads, template_reads}
use Rattle.tuple_codec.proofs.OperationLaws.{operation_reads, outcome_reads}
use Rattle.tuple_codec.proofs.laws.one_spelling.Goals as goal

pub returns-clause-tuples : goal.returns-clause-tuples
returns-clause-tuples c = one IsTuple tuple_spelling tuple_at tuple_reads

pub returns-clause-templates : goal.returns-clause-templates
returns-clause-templates c = one IsTemplate template_spelling template_at template_reads

pub returns-clause-operations : goal.returns-clause-operations
returns-clause-operations c = one IsOperation operation_spelling operation_at operation_reads

pub returns-clause-outcomes : goal.returns-clause-outcomes
returns-clause-outcomes c = one IsOutcome outcome_spelling outcome_at outcome_reads
