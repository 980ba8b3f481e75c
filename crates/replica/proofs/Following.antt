-- The replica starts a transfer to a quorum's checkpoint.
use Rattle.std.proofs.Common.{◌≡◌, ◌≤◌, ◌<◌, ◌+◌, ◌*◌, ℕ, List, ◌∷◌, Option, Some, None, refl, sym, subst, option_map, arith}
use Rattle.std.specs.Option.{ForSome}
use Rattle.terms.specs.declared.state.Level.TheVariants as levels
use Rattle.wire_format.specs.Messages.{MessageData as Message, CheckpointEntryData as CheckpointEntry, fetch as Fetch}
use Rattle.events.specs.declared.output.Output.{Output}
use Rattle.ordering.specs.Log as logs
use Rattle.state_transfer.specs.Transfer.{TransferData}
use Rattle.protocol.specs.System.Configuration.{Configuration}
use Rattle.protocol.specs.Replica.State.{State, pages_of}
use Rattle.protocol.proofs.Words.Options.{some_injective}
use Rattle.replica_histories.specs.Events.{Start, after_outputs}
use Rattle.replica_histories.specs.Transfers.{TransferMayAsk, AsksNext, open_number, transfer_to}
use Rattle.replica_histories.proofs.Fetching.{quorums_may_ask}
use Rattle.replica_histories.proofs.TransfersInstalling.{started_rests}
use Rattle.orderer.specs.State.{OrdererData}
use Rattle.desk.specs.State.{OpenData, DeskData}
use Rattle.desk.specs.Waiting.{WaitingData}
use Rattle.orderer.specs.Fitting.{given, FitsEvent}
use Rattle.desk.specs.Fetching.{target_number, with_target, fetch_of, targeted_transfer}
use Rattle.desk.specs.DeskOf.{desk_of, RestsAt, IsDeskOf}
use Rattle.orderer.specs.Multicasting.{Multicasts}
use Rattle.orderer.proofs.Voting.{asks_due}
use Rattle.replica.specs.State.{Gives}

-- ---- the open transfer

-- the transfer that the desk has then
abbrev pub aim_of : CheckpointEntry → DeskData → OpenData
aim_of entry d = targeted_transfer d.executed.state d.transfer entry

-- The fetch is of the root.
pub asks_root : (st : State) (open_one : Option OpenData) (entry : CheckpointEntry) → fetch_of (targeted_transfer st open_one entry).transfer ≡ Fetch entry.number levels.Root 0
asks_root st None entry = refl
asks_root st (Some o) entry = refl

pub opened_same : (st : State) (open_one : Option OpenData) (entry : CheckpointEntry)
    → transfer_to (option_map (λ o. o.transfer) open_one) entry.number entry.digest (pages_of st) ≡ (targeted_transfer st open_one entry).transfer
opened_same st None entry = refl
opened_same st (Some o) entry = refl

-- The pages that were not fetched are still the state's.
opened_rests : (st : State) (open_one : Option OpenData) (entry : CheckpointEntry) → ForSome open_one (RestsAt st) → RestsAt st (targeted_transfer st open_one entry)
opened_rests st None entry rests = ((omega arith), λ same. started_rests entry.number entry.digest st)
opened_rests st (Some o) entry rests = rests o refl

-- the number above which a history's desk fetches
pub aimed_same : (number : ℕ) (open_one : Option OpenData) → open_number number (option_map (λ o. o.transfer) open_one) ≡ elim open_one [ Some o ↦ o.transfer.number | None ↦ number ]
aimed_same number None = refl
aimed_same number (Some o) = refl

-- ---- in an event

module _ (c : Configuration) (s : Start) (o : OrdererData) (d : DeskData) (w : WaitingData) (entry : CheckpointEntry) (before after : List Output) where
  pub aims_desk : IsDeskOf c d → IsDeskOf c (with_target entry d)
  aims_desk is = record {
    members_are = is.members_are;
    period_is = is.period_is;
    rests = λ x e. subst (RestsAt d.executed.state) (some_injective (aim_of entry d) x e) (opened_rests d.executed.state d.transfer entry is.rests);
    calls = is.calls;
    differ = is.differ;
  }

  may_ask : (due : List Message) → 2 * o.log.faults + 1 ≤ logs.count_checkpoints o.log entry → o.log.low < entry.number → target_number d < entry.number → FitsEvent c o.endpoint.me s o (desk_of c d) w due before
      → TransferMayAsk c o.endpoint.me (aim_of entry d).transfer d.executed.state.number (after_outputs s (given o.endpoint.me before))
      × AsksNext c o.endpoint.me (aim_of entry d).transfer d.executed.state (after_outputs s (given o.endpoint.me before))
  may_ask due enough over ahead f =
      subst (λ (t : TransferData). TransferMayAsk c o.endpoint.me t d.executed.state.number (after_outputs s (given o.endpoint.me before)) × AsksNext c o.endpoint.me t d.executed.state (after_outputs s (given o.endpoint.me before)))
      (opened_same d.executed.state d.transfer entry)
      (quorums_may_ask c o.endpoint.me s (desk_of c d) o.log due (given o.endpoint.me before) entry (pages_of d.executed.state) enough over
      (subst (λ (n : ℕ). n < entry.number) (sym (aimed_same d.executed.state.number d.transfer)) ahead) f.fits)

  -- The due fetch is sent, and the transfer is open after it.
  pub aims : (rest : List Message) → Gives c o → 2 * o.log.faults + 1 ≤ logs.count_checkpoints o.log entry → o.log.low < entry.number → target_number d < entry.number
      → Multicasts o (Fetch entry.number levels.Root 0) before after → FitsEvent c o.endpoint.me s o (desk_of c d) w (Fetch entry.number levels.Root 0 ∷ rest) before
      → FitsEvent c o.endpoint.me s o (desk_of c (with_target entry d)) w rest after
  aims rest known enough over ahead says f =
      let root = sym (asks_root d.executed.state d.transfer entry) in
      let asking = may_ask (Fetch entry.number levels.Root 0 ∷ rest) enough over ahead f in
      asks_due c s o (desk_of c d) w before after (aim_of entry d).transfer known (subst (λ (m : Message). Multicasts o m before after) root says) rest
      asking.0 asking.1
      (subst (λ (m : Message). FitsEvent c o.endpoint.me s o (desk_of c d) w (m ∷ rest) before) root f)
