-- What a schedule feeds and allows: the input of each of its steps, and a delivery of each frame that was sent.
use Rattle.std.specs.Prelude.{◌≡◌, ℕ, ◌<◌, Bool, true, false, List, length, filter}
use Rattle.protocol.specs.System.Configuration.{Configuration, is_correct}
use Rattle.protocol.specs.System.Trace.{Entry, Has}
use Rattle.protocol.specs.System.Trace.Entry.{Invoke, Got, Tick, Sent}
use Rattle.protocol.specs.System.Schedule.{Step, calls, deliver, feed, ticks, IsAllowed, Feeds}

-- the entry is the input that the step feeds
abbrev pub IsInputOfStep : Step → Entry → Type 0
IsInputOfStep (calls k op) (Invoke client timestamp o) = (client ≡ k) × (o ≡ op)
IsInputOfStep (deliver frame party) (Got p bytes) = p ≡ party
IsInputOfStep (feed party text) (Got p bytes) = (p ≡ party) × (bytes ≡ text)
IsInputOfStep (ticks party) (Tick p) = p ≡ party
IsInputOfStep _ _ = ⊥

-- the step brings an input of its own into the trace
abbrev pub feeds_input : Step → Bool
feeds_input step = elim step [
  | calls k op ↦ true
  | deliver frame party ↦ true
  | feed party text ↦ true
  | ticks party ↦ true
  | _ ↦ false
]

-- Each step that brings an input has it in the trace.
abbrev pub FeedsEachStep : Type 0
FeedsEachStep =
    (c : Configuration) (steps : List Step) (step : Step) (trace : List Entry)
    → Has (λ x. x ≡ step) steps → feeds_input step ≡ true → Feeds c steps trace → Has (IsInputOfStep step) trace

-- a frame is sent here
abbrev pub is_sent : Entry → Bool
is_sent e = elim e [ Sent p bytes ↦ true | _ ↦ false ]

-- A delivery of a frame that was sent, to a correct party, is allowed.
abbrev pub AllowsSent : Type 0
AllowsSent =
    (c : Configuration) (steps : List Step) (frame party : ℕ) (trace : List Entry) (feeds : Feeds c steps trace)
    → frame < length (filter is_sent trace) → is_correct c party ≡ true → IsAllowed c feeds.0 (deliver frame party)
