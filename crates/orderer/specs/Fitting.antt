-- How an orderer fits a history and the outputs of a running event, beside the desk that it orders for.
use Rattle.std.specs.Prelude.{◌≡◌, ℕ, List, map, reverse, Option}
use Rattle.std.specs.Option.{ForSome}
use Rattle.wire_format.specs.Messages.{MessageData as Message, CheckpointEntryData as CheckpointEntry, checkpoint as Checkpoint}
use Rattle.events.specs.declared.output.Output.{Output}
use Rattle.events.specs.Outputs.{entry_of, AreSentAsMeant}
use Rattle.ordering.specs.Log as logs
use Rattle.protocol.specs.System.Configuration.{Configuration}
use Rattle.protocol.specs.System.Trace.{Entry, Once}
use Rattle.protocol.specs.Replica.Owed.{IsSending}
use Rattle.replica_histories.specs.Desk.{Desk}
use Rattle.replica_histories.specs.Events as events
use Rattle.replica_histories.specs.Events.{Start, after_outputs}
use Rattle.replica_histories.specs.Changes.{Changes, FitsChanges}
use Rattle.orderer.specs.State.{OrdererData}
use Rattle.desk.specs.Waiting.{WaitingData}
use Rattle.orderer.specs.Flags.{FitsFlags}

-- the outputs of a running event as entries, the newest first
abbrev pub given : ℕ → List Output → List Entry
given me outs = reverse (map (entry_of me) outs)

-- at the primary of its view, the flagged requests, and no others, have numbers
abbrev pub FitsWaiting : Configuration → ℕ → OrdererData → WaitingData → Desk → List Entry → Type 0
FitsWaiting c me o w desk history = logs.primary o.log o.log.view ≡ o.log.me
    → FitsFlags c me o.log.view o.used w desk.state desk.waiting history

-- what the orderer holds for view changes
abbrev pub changes_held : OrdererData → Changes
changes_held o = record {
  target = o.target;
  assigned = o.assigned;
  new_view = o.new_view;
  pq_sets = o.pq_sets;
  held = o.received.held;
  last_checkpoint = o.last_checkpoint;
  spent = o.spent;
}

-- the replica sent its last checkpoint
abbrev pub WasSent : ℕ → Option CheckpointEntry → List Entry → Type 0
WasSent me last history =
    ForSome last (λ entry. Once (λ earlier e. IsSending me (Checkpoint entry.number entry.digest) e) history)

-- Desk and orderer fit the history with the event's outputs, and these messages are due. Each frame among the outputs
-- goes to the parties for whom it is.
pub record FitsEvent (c : Configuration) (me : ℕ) (s : Start) (o : OrdererData) (desk : Desk)
    (w : WaitingData) (due : List Message) (outs : List Output) : Type 0 where
  pub fits : events.BothFitWithinEvent c me s desk o.log due (given me outs)
  pub numbers : FitsWaiting c me o w desk (after_outputs s (given me outs))
  pub said : WasSent me o.last_checkpoint (after_outputs s (given me outs))
  pub changes : FitsChanges c me o.log (changes_held o) (after_outputs s (given me outs))
  pub meant : AreSentAsMeant c me outs
