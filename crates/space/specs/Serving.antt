-- What the private functions that answer operations which are not refused speak of.
use Rattle.std.specs.Prelude.{◌≡◌, true, Result, IfOk}
use Rattle.tuple_codec.specs.Operations.{Operation}
use Rattle.tuple_codec.specs.OperationView.{outcome_of}
use Rattle.tuple_codec.specs.declared.operations.Answer.{Answer}
use Rattle.space.specs.Applying.{served_outcome, served_wants_memory}
use Rattle.space.specs.Births.{SpaceState, tuples_of, served_state}

abbrev pub AnswersServed : {A E : Type 0} → Result (Answer A) E → SpaceState → Operation → Type 0
AnswersServed result s o = IfOk result (λ answer. outcome_of answer ≡ served_outcome (tuples_of s) o)

abbrev pub FollowsServed : SpaceState → SpaceState → Operation → Type 0
FollowsServed old new o = new ≡ served_state old o

abbrev pub WantsServed : SpaceState → Operation → Type 0
WantsServed s o = served_wants_memory (tuples_of s) o ≡ true
