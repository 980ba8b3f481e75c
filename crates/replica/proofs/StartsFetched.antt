-- The replica fetches the state at the start of a new view.
use Rattle.std.proofs.Common.{◌≡◌, ◌<◌, ℕ, List, ◌∷◌, Some, sym, subst}
use Rattle.terms.specs.declared.state.Level.TheVariants as levels
use Rattle.wire_format.specs.Messages.{MessageData as Message, CheckpointEntryData as CheckpointEntry, NewViewData, fetch as Fetch}
use Rattle.events.specs.declared.output.Output.{Output}
use Rattle.state_transfer.specs.Transfer.{TransferData}
use Rattle.protocol.specs.System.Configuration.{Configuration}
use Rattle.protocol.specs.System.Trace.{Once}
use Rattle.protocol.specs.Replica.Certificates.{taken}
use Rattle.protocol.specs.Replica.State.{pages_of}
use Rattle.replica_histories.specs.Events.{Start, after_outputs}
use Rattle.replica_histories.specs.Transfers.{TransferMayAsk, AsksNext}
use Rattle.replica_histories.proofs.NewViews.{starts_may_ask}
use Rattle.orderer.specs.State.{OrdererData}
use Rattle.desk.specs.State.{DeskData}
use Rattle.desk.specs.Waiting.{WaitingData}
use Rattle.desk.specs.Fetching.{target_number, with_target, fetch_of}
use Rattle.desk.specs.DeskOf.{desk_of}
use Rattle.orderer.specs.Multicasting.{Multicasts}
use Rattle.replica.proofs.Following.{aim_of, aimed_same, opened_same, asks_root}
use Rattle.orderer.specs.Fitting.{given, FitsEvent}
use Rattle.orderer.proofs.Voting.{asks_due}
use Rattle.replica.specs.State.{Gives}

module _ (c : Configuration) (s : Start) (o : OrdererData) (d : DeskData) (w : WaitingData) (new : NewViewData) (before after : List Output) where
  abbrev pub start_of : CheckpointEntry
  start_of = record { number = new.start; digest = new.root }

  start_may_ask : (due : List Message) → Once (λ past e. taken c past e ≡ Some new) (after_outputs s (given o.endpoint.me before)) → target_number d < new.start → FitsEvent c o.endpoint.me s o (desk_of c d) w due before
      → TransferMayAsk c o.endpoint.me (aim_of start_of d).transfer d.executed.state.number (after_outputs s (given o.endpoint.me before))
      × AsksNext c o.endpoint.me (aim_of start_of d).transfer d.executed.state (after_outputs s (given o.endpoint.me before))
  start_may_ask due once ahead f =
      subst (λ (t : TransferData). TransferMayAsk c o.endpoint.me t d.executed.state.number (after_outputs s (given o.endpoint.me before)) × AsksNext c o.endpoint.me t d.executed.state (after_outputs s (given o.endpoint.me before)))
      (opened_same d.executed.state d.transfer start_of)
      (starts_may_ask c o.endpoint.me s (desk_of c d) o.log due (given o.endpoint.me before) new (pages_of d.executed.state) once
      (subst (λ (n : ℕ). n < new.start) (sym (aimed_same d.executed.state.number d.transfer)) ahead) f.fits)

  -- The due fetch is sent, and the transfer is open after it.
  pub start_aims : (rest : List Message) → Gives c o → Once (λ past e. taken c past e ≡ Some new) (after_outputs s (given o.endpoint.me before)) → target_number d < new.start
      → Multicasts o (fetch_of (aim_of start_of d).transfer) before after → FitsEvent c o.endpoint.me s o (desk_of c d) w (Fetch new.start levels.Root 0 ∷ rest) before
      → FitsEvent c o.endpoint.me s o (desk_of c (with_target start_of d)) w rest after
  start_aims rest known once ahead says f =
      let asking = start_may_ask (Fetch new.start levels.Root 0 ∷ rest) once ahead f in
      asks_due c s o (desk_of c d) w before after (aim_of start_of d).transfer known says rest asking.0 asking.1
      (subst (λ (m : Message). FitsEvent c o.endpoint.me s o (desk_of c d) w (m ∷ rest) before) (sym (asks_root d.executed.state d.transfer start_of)) f)
