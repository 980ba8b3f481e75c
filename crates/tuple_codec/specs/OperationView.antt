-- The plain operations and answers that the Rust values stand for, and their spellings.
use Rattle.std.specs.Prelude.{ℕ, List}
use Rattle.tuple_codec.specs.Operations.{Operation, out, rdp, inp, cas, rd_all, in_all, upgrade, Outcome, done, found}
use Rattle.tuple_codec.specs.Operations.{absent, swapped, all, full, refused}
use Rattle.tuple_codec.specs.Spelling.{operation_spelling, outcome_spelling}
use Rattle.tuple_codec.specs.declared.operations.Op.{Op}
use Rattle.tuple_codec.specs.declared.operations.Op.TheVariants as ops
use Rattle.tuple_codec.specs.declared.operations.Answer.{Answer}
use Rattle.tuple_codec.specs.declared.operations.Answer.TheVariants as answers

module _ {A : Type 0} where
  -- the operation that a Rust value stands for
  abbrev pub operation_of : Op A → Operation
  operation_of (ops.Out t) = out t
  operation_of (ops.Rdp p) = rdp p
  operation_of (ops.Inp p) = inp p
  operation_of (ops.Cas p t) = cas p t
  operation_of (ops.RdAll max p) = rd_all max.count p
  operation_of (ops.InAll max p) = in_all max.count p
  operation_of ops.Upgrade = upgrade

  -- the answer that a Rust value stands for
  abbrev pub outcome_of : Answer A → Outcome
  outcome_of answers.Done = done
  outcome_of (answers.Found t) = found t
  outcome_of answers.Absent = absent
  outcome_of (answers.Swapped b) = swapped b
  outcome_of (answers.All ts) = all ts
  outcome_of answers.Full = full
  outcome_of answers.Refused = refused

  abbrev pub op_spelling : Op A → List ℕ
  op_spelling op = operation_spelling (operation_of op)

  abbrev pub answer_spelling : Answer A → List ℕ
  answer_spelling answer = outcome_spelling (outcome_of answer)
