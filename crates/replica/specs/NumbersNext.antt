-- How a primary assigns numbers.
use Rattle.std.specs.Prelude.{◌≡◌, ℕ, ◌<◌, ◌≤◌, Bool, true, false, List, length}
use Rattle.wire_format.specs.Lists.{Each}
use Rattle.wire_format.specs.Spelling.{IsCarried, is_ordered_request, pieces_spelling}
use Rattle.events.specs.declared.output.Output.{Output}
use Rattle.replica.specs.State.{BothPartsData}
use Rattle.desk.specs.Waiting.{texts, unnumbered, with_numbered, count_unnumbered}
use Rattle.orderer.specs.Multicasting.{MulticastsOwnBatch}
use Rattle.replica.specs.Going.{IsSameParty, FitIsKept, NothingIsLeft}
use Rattle.replica.specs.Numbering.{IsAllNumbered}

-- The primary assigns this number to the oldest requests without one, in a batch that it multicasts.
pub record NumbersNext (number : ℕ) (old : BothPartsData) (before : List Output) (new : BothPartsData)
    (after : List Output) : Type 0 where
  pub says : MulticastsOwnBatch number (pieces_spelling (texts (unnumbered old.desk.waiting)))
      old.orderer before new.orderer
      after
  pub waits : new.desk ≡ record old.desk {
    waiting = with_numbered (length (unnumbered old.desk.waiting)) old.desk.waiting;
  }
  pub carried : Each (IsCarried is_ordered_request) (texts (unnumbered old.desk.waiting))

-- The primary assigns the next number, and goes on with it. Fewer requests are left without one.
pub record AssignsNumber (old : BothPartsData) (before : List Output) (new : BothPartsData)
    (after : List Output) : Type 0
  where
    pub proceeds : NothingIsLeft old → FitIsKept old before new after
    pub party : IsSameParty old new
    pub rises : old.desk.executed.state.number ≤ new.desk.executed.state.number
    pub rests : NothingIsLeft old → NothingIsLeft new
    pub fewer : count_unnumbered new.desk.waiting < count_unnumbered old.desk.waiting

-- The primary assigns one number; or there is no free number, or no request without one, and nothing changes.
abbrev pub NumbersTurn : BothPartsData → List Output → BothPartsData → List Output → Bool → Type 0
NumbersTurn old before new after true = AssignsNumber old before new after
NumbersTurn old before new after false = (new ≡ old) × (after ≡ before) × IsAllNumbered old

-- The primary assigns the free numbers to waiting requests, and goes on with each. Nothing is left to send, to execute
-- or to assign.
pub record NumbersWaitingRequests (old : BothPartsData) (before : List Output) (new : BothPartsData)
    (after : List Output) : Type 0 where
  pub proceeds : NothingIsLeft old → FitIsKept old before new after
  pub party : IsSameParty old new
  pub rises : old.desk.executed.state.number ≤ new.desk.executed.state.number
  pub rests : NothingIsLeft old → NothingIsLeft new
  pub all : IsAllNumbered new
