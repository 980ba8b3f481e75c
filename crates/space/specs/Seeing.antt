-- What a look at a space shows.
use Rattle.std.specs.Prelude.{◌≡◌, ℕ, Result, IfOk}
use Rattle.tuple_codec.specs.Operations.{Operation, Outcome, found, absent, all, refused}
use Rattle.space.specs.Applying.{outcome, served_outcome}
use Rattle.space.specs.Births.{SpaceState, StateFollows, TuplesFollow, tuples_of}
use Rattle.space.specs.Found.{lent_tuples}
use Rattle.space.specs.declared.seen.Seen.{Seen}
use Rattle.space.specs.declared.seen.Seen.TheVariants as seen

-- the plain answer that is seen
abbrev pub outcome_seen : Seen → Outcome
outcome_seen (seen.Found t) = found t.now
outcome_seen seen.Absent = absent
outcome_seen (seen.All ts) = all (lent_tuples ts.items)
outcome_seen seen.Refused = refused

-- The result is the answer of the state to the operation, whichever client asks, unless there is none.
abbrev pub ShowsAnyone : {E : Type 0} → Result Seen E → SpaceState → Operation → Type 0
ShowsAnyone result s o =
    (client : ℕ) → IfOk result (λ shown. outcome_seen shown ≡ outcome (tuples_of s) client o)

-- Whichever client asks for the operation, the state stays as it is.
abbrev pub StaysAsAsked : SpaceState → Operation → Type 0
StaysAsAsked s o = (client : ℕ) → StateFollows s s client o × TuplesFollow s s client o

-- ---- for private functions

-- The result is the answer to an operation that is not refused.
abbrev pub ShowsServed : {E : Type 0} → Result Seen E → SpaceState → Operation → Type 0
ShowsServed result s o = IfOk result (λ shown. outcome_seen shown ≡ served_outcome (tuples_of s) o)
