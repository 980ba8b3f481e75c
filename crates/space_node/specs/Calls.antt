-- The entries of a call in its client's history, whose newest entry stands first.
use Rattle.std.specs.Prelude.{◌≡◌, ℕ, suc, ◌^◌, ◌≤◌, ◌⊎◌, true, false, List, [], ◌∷◌, ◌++◌, ⊤}
use Rattle.std.specs.declared.alloc.Global.{Global}
use Rattle.terms.specs.Parties.{client_number}
use Rattle.tuple_codec.specs.OperationView.{outcome_of}
use Rattle.tuple_codec.specs.declared.operations.Answer.{Answer}
use Rattle.tuple_codec.specs.Operations.{Operation, Outcome}
use Rattle.wire_format.specs.Lists.{Each}
use Rattle.protocol.specs.System.Trace.{Entry}
use Rattle.protocol.specs.System.Trace.Entry.{Invoke, Accepted}
use Rattle.protocol.specs.Client.RightClient.{last_call}
use Rattle.events.specs.declared.output.Output.{Output}
use Rattle.events.specs.declared.output.Output.TheVariants as outputs
use Rattle.space_node.specs.PartyStates.{PartyState}
use Rattle.space_node.specs.declared.turn.Turn.{Turn}
use Rattle.space_node.specs.declared.turn.Turn.TheVariants as turns

-- no answer is accepted
abbrev pub IsUnanswered : Entry → Type 0
IsUnanswered (Accepted client timestamp answer) = ⊥
IsUnanswered _ = ⊤

-- no call begins, and no answer is accepted
abbrev pub IsQuiet : Entry → Type 0
IsQuiet (Invoke client timestamp op) = ⊥
IsQuiet (Accepted client timestamp answer) = ⊥
IsQuiet _ = ⊤

-- the client had stopped, or made 2^62 calls
abbrev pub IsSpent : PartyState → Type 0
IsSpent s = (s.stopped ≡ true) ⊎ (2 ^ 62 ≤ last_call s.history)

-- The call was answered. The history grew by its invocation, with the next timestamp, and its last entry is the
-- acceptance of this answer. Between them no call begins and none is answered.
pub record Called (old : PartyState) (op : Operation) (answer : Outcome) (new : PartyState) : Type 0 where
  pub between : List Entry
  pub quiet : Each IsQuiet between
  pub history : let timestamp = suc (last_call old.history) in
      new.history ≡ Accepted (client_number old.party) timestamp answer
      ∷ (between ++ Invoke (client_number old.party) timestamp op ∷ old.history)
  pub party : new.party ≡ old.party
  pub running : new.stopped ≡ false

-- The call was not answered. The history grew, if at all, without an acceptance, and the client has stopped.
pub record Refused (old new : PartyState) : Type 0 where
  pub more : List Entry
  pub unanswered : Each IsUnanswered more
  pub history : new.history ≡ more ++ old.history
  pub party : new.party ≡ old.party
  pub stopped : new.stopped ≡ true

-- ---- for private functions

-- the output accepts an answer
abbrev pub AcceptsSome : Output → Type 0
AcceptsSome (outputs.Accepted timestamp answer) = ⊤
AcceptsSome _ = ⊥

abbrev pub AcceptNothing : List Output → Type 0
AcceptNothing outs = Each (λ output. ¬ AcceptsSome output) outs

-- the output accepts this answer
abbrev pub AcceptsAnswer : Output → Answer Global → Type 0
AcceptsAnswer (outputs.Accepted timestamp answer) given = answer ≡ given
AcceptsAnswer _ given = ⊥

-- the outputs are a turn of a call of this timestamp: none accepts, or there is one, which accepts
abbrev pub MakesTurn : ℕ → List Output → Type 0
MakesTurn timestamp outs =
    AcceptNothing outs
    ⊎ ((answer : Answer Global) × (outs ≡ outputs.Accepted (record { 0 = timestamp }) answer ∷ []))

-- the call begins
pub record CallBegins (old : PartyState) (op : Operation) (new : PartyState) : Type 0 where
  pub more : List Entry
  pub quiet : Each IsQuiet more
  pub history : let timestamp = suc (last_call old.history) in
      new.history ≡ more ++ Invoke (client_number old.party) timestamp op ∷ old.history
  pub party : new.party ≡ old.party
  pub running : new.stopped ≡ false

-- the call goes on
pub record CallGoesOn (old new : PartyState) : Type 0 where
  pub more : List Entry
  pub quiet : Each IsQuiet more
  pub history : new.history ≡ more ++ old.history
  pub party : new.party ≡ old.party
  pub running : new.stopped ≡ false

-- the call ends with this answer
pub record CallEnds (old : PartyState) (answer : Outcome) (new : PartyState) : Type 0 where
  pub more : List Entry
  pub quiet : Each IsQuiet more
  pub history : new.history ≡ Accepted (client_number old.party) (last_call old.history) answer ∷ (more ++ old.history)
  pub party : new.party ≡ old.party
  pub running : new.stopped ≡ false

-- the turn of these outputs, in a call of this timestamp
abbrev pub IsTurnOf : ℕ → List Output → Turn → Type 0
IsTurnOf timestamp outs (turns.Waits given) = (outs ≡ given.items) × AcceptNothing outs
IsTurnOf timestamp outs (turns.Answered answer) = outs ≡ outputs.Accepted (record { 0 = timestamp }) answer ∷ []

-- the event's consequence for the handle's state
abbrev pub HandleTakesTurn : PartyState → Turn → PartyState → Type 0
HandleTakesTurn old (turns.Waits given) new = CallGoesOn old new
HandleTakesTurn old (turns.Answered answer) new = CallEnds old (outcome_of answer) new
