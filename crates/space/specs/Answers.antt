-- What a space answers.
use Rattle.std.specs.Prelude.{◌≡◌, ◌↔◌, ℕ, false, Result, Err, IfOk}
use Rattle.tuple_codec.specs.Operations.{Operation}
use Rattle.tuple_codec.specs.OperationView.{outcome_of}
use Rattle.tuple_codec.specs.declared.operations.Answer.{Answer}
use Rattle.space.specs.Applying.{outcome, is_read_only}
use Rattle.space.specs.Births.{SpaceState, tuples_of}
use Rattle.space.specs.declared.tuples.PeekFault.{PeekFault}
use Rattle.space.specs.declared.tuples.PeekFault.TheVariants.{NotReadOnly, NoMemory}

-- The answer is that of the state to the client's operation, unless there is none.
abbrev pub AnswersOperation : {A E : Type 0} → Result (Answer A) E → SpaceState → ℕ → Operation → Type 0
AnswersOperation result s client o = IfOk result (λ answer. outcome_of answer ≡ outcome (tuples_of s) client o)

-- So it is to the operation of each client.
abbrev pub AnswersAnyone : {A E : Type 0} → Result (Answer A) E → SpaceState → Operation → Type 0
AnswersAnyone result s o = (client : ℕ) → AnswersOperation result s client o

-- The operation is refused as one that changes something, exactly if it is one.
abbrev pub RefusesChanges : {V : Type 0} → Result V PeekFault → Operation → Type 0
RefusesChanges result o = (result ≡ Err NotReadOnly) ↔ (is_read_only o ≡ false)

-- Memory ran out.
abbrev pub LacksMemory : {V : Type 0} → Result V PeekFault → Type 0
LacksMemory result = result ≡ Err NoMemory
