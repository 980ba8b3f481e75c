-- The answers of a lock's calls, in the history of the client that calls.
use Rattle.std.specs.Prelude.{◌≡◌, Bool, true, false}
use Rattle.tuple_codec.specs.Operations.{Operation, Outcome, swapped, found, absent}
use Rattle.space_node.specs.Calls.{Called}
use Rattle.space_node.specs.PartyStates.{PartyState}

-- A call of the client was answered: it swapped its tuple in, or it did not.
pub record Swapped (old : PartyState) (got : Bool) (new : PartyState) : Type 0 where
  pub op : Operation
  pub called : Called old op (swapped got) new

abbrev pub is_found : Outcome → Bool
is_found (found tuple) = true
is_found _ = false

-- A call of the client was answered: it took a tuple, or there was none.
pub record Taken (old : PartyState) (had : Bool) (new : PartyState) : Type 0 where
  pub op : Operation
  pub answer : Outcome
  pub called : Called old op answer new
  pub tells : had ≡ is_found answer
  pub none : had ≡ false → answer ≡ absent
