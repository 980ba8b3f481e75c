-- What a desk fetches of a state that is ahead, and what it sends of its kept states (Castro and Liskov, TOCS 2002, on
-- state transfer).
use Rattle.std.specs.Prelude.{◌≡◌, ◌≢◌, ◌⊎◌, ℕ, ◌<◌, ◌≤◌, Bool, true, false, List, [], ◌∷◌, ◌++◌, Option, Some, None}
use Rattle.std.specs.Option.{ForSome}
use Rattle.terms.specs.declared.order.Number.{Number}
use Rattle.terms.specs.declared.parties.Party.TheVariants as parties
use Rattle.terms.specs.declared.parties.ReplicaId.{ReplicaId}
use Rattle.wire_format.specs.Lists.{Each}
use Rattle.wire_format.specs.Messages.{MessageData, CheckpointEntryData as CheckpointEntry, fetch as FetchMessage}
use Rattle.wire_format.specs.Views.{message_data}
use Rattle.wire_format.specs.declared.messages.Message.{Message}
use Rattle.wire_format.specs.declared.messages.Fetch.{Fetch}
use Rattle.wire_format.specs.declared.messages.Meta.{Meta}
use Rattle.wire_format.specs.declared.messages.Page.{Page}
use Rattle.frame_endpoint.specs.Endpoint.{SealsForOne}
use Rattle.events.specs.declared.output.Output.{Output}
use Rattle.partition_tree.specs.Digests.{root_of as root_of_pages}
use Rattle.state_transfer.specs.declared.place.Place.{Place}
use Rattle.state_transfer.specs.Transfer.{TransferData}
use Rattle.execution.specs.Installing.{HasPagesAt, NoneFalls, NoneReplaces}
use Rattle.protocol.specs.System.Trace.{Has}
use Rattle.protocol.specs.Replica.State.{State}
use Rattle.replica_histories.specs.Desk.{snapshot_of}
use Rattle.replica_histories.specs.TransfersAnswers.{answer_by}
use Rattle.desk.specs.declared.transfer.Taken.{Taken}
use Rattle.desk.specs.State.{OpenData, DeskData}
use Rattle.desk.specs.Waiting.{forgotten}
use Rattle.desk.specs.Desking.{above_number}
use Rattle.desk.specs.Transferring.{started, moved, AreOtherDigests, IsOtherPage, TakesDigestsOf, TakesPageOf, is_put_back, AsksPlace}

-- ---- answers

-- a state of the number is kept, with these pages
abbrev pub HasKept : DeskData → ℕ → List (List ℕ) → Type 0
HasKept d k pages = Has (λ x. x ≡ record { number = k; pages = pages }) d.snapshots

abbrev pub KeepsNoState : DeskData → ℕ → Type 0
KeepsNoState d k = Each (λ x. x.number ≢ k) d.snapshots

-- The message has the requested part of a kept state; there is none if no state of the number is kept.
abbrev pub MessageHasPart : DeskData → Fetch → Option Message → Type 0
MessageHasPart d fetch (Some message) = (pages : List (List ℕ)) × HasKept d fetch.number.0 pages
    × (message_data message ≡ answer_by pages fetch.number.0 fetch.level fetch.index)
MessageHasPart d fetch None = KeepsNoState d fetch.number.0

-- The desk sends that part to the asking replica alone; if no state of the number is kept, it sends nothing.
abbrev pub SendsPart : DeskData → ReplicaId → Fetch → List Output → List Output → Type 0
SendsPart d asker fetch before after = ((after ≡ before) × KeepsNoState d fetch.number.0)
    ⊎ ((pages : List (List ℕ)) × (output : Output) × HasKept d fetch.number.0 pages
    × SealsForOne d.membership d.me (answer_by pages fetch.number.0 fetch.level fetch.index)
    (parties.Replica asker) output
    × (after ≡ before ++ output ∷ []))

-- ---- a transfer gets its target

-- the number above which a checkpoint's state is fetched
abbrev pub target_number : DeskData → ℕ
target_number d = elim d.transfer [ Some o ↦ o.transfer.number | None ↦ d.executed.state.number ]

-- the transfer of a checkpoint's state: a new one, or the open one, moved to it
abbrev pub targeted_transfer : State → Option OpenData → CheckpointEntry → OpenData
targeted_transfer st None entry = started st entry
targeted_transfer st (Some o) entry = moved o entry

abbrev pub with_target : CheckpointEntry → DeskData → DeskData
with_target entry d = record d { transfer = Some (targeted_transfer d.executed.state d.transfer entry) }

-- The transfer's target becomes a checkpoint above that number; else nothing changes.
abbrev pub SetsTarget : CheckpointEntry → DeskData → DeskData → Bool → Type 0
SetsTarget entry old new true = (target_number old < entry.number) × (new ≡ with_target entry old)
SetsTarget entry old new false = (entry.number ≤ target_number old) × (new ≡ old)

-- the number and place that the open transfer asks for
abbrev pub IsAskedFor : DeskData → Option (Number × Place) → Type 0
IsAskedFor d (Some asked) =
    (o : OpenData) × (d.transfer ≡ Some o) × (asked.0.0 ≡ o.transfer.number) × (asked.1 ≡ o.transfer.asked)
IsAskedFor d None = d.transfer ≡ None

-- the fetch of the place that the transfer asks for
abbrev pub fetch_of : TransferData → MessageData
fetch_of t = FetchMessage t.number t.asked.level t.asked.index

-- ---- parts

-- only the open transfer changes
abbrev pub with_transfer : OpenData → DeskData → DeskData
with_transfer o d = record d { transfer = Some o }

abbrev pub TakesDigests : DeskData → Meta → DeskData → Bool → Type 0
TakesDigests old meta new true = (o : OpenData) × (n : OpenData) × (old.transfer ≡ Some o)
    × (new ≡ with_transfer n old) × TakesDigestsOf o meta n true
TakesDigests old meta new false = (new ≡ old) × ForSome old.transfer (λ o. AreOtherDigests o meta)

abbrev pub TakesPage : DeskData → Page → DeskData → Option Taken → Type 0
TakesPage old page new (Some taken) = (o : OpenData) × (n : OpenData) × (old.transfer ≡ Some o)
    × (new ≡ with_transfer n old) × TakesPageOf o page n (Some taken)
TakesPage old page new None = (new ≡ old) × ForSome old.transfer (λ o. IsOtherPage o page)

abbrev pub PutsBack : DeskData → Taken → DeskData → Type 0
PutsBack old taken new = ((old.transfer ≡ None) × (new ≡ old))
    ⊎ ((o : OpenData) × (n : OpenData) × (old.transfer ≡ Some o) × (new ≡ with_transfer n old)
    × is_put_back o taken n)

-- a transfer of a reached state is closed
abbrev pub closing_reached : DeskData → DeskData
closing_reached d = record d { transfer = above_number d.executed.state.number d.transfer }

-- ---- the next part

-- A part is still to be fetched, and the transfer asks for it; or the held pages have the wanted root, or no transfer
-- is open.
abbrev pub AsksPart : DeskData → DeskData → Bool → Type 0
AsksPart old new true = (o : OpenData) × (n : OpenData) × (place : Place) × (old.transfer ≡ Some o)
    × (new ≡ with_transfer n old) × AsksPlace old.executed.state o n (Some place)
AsksPart old new false = ((old.transfer ≡ None) × (new ≡ old))
    ⊎ ((o : OpenData) × (n : OpenData) × (old.transfer ≡ Some o) × (new ≡ with_transfer n old)
    × AsksPlace old.executed.state o n None × (root_of_pages n.transfer.held ≡ n.transfer.root))

-- ---- a state is installed

-- If the held pages have the root, no state of them may replace the executed one.
abbrev pub CannotInstall : DeskData → Type 0
CannotInstall d = ForSome d.transfer (λ o. root_of_pages o.transfer.held ≡ o.transfer.root
    → NoneReplaces d.executed.state o.transfer.number o.transfer.held)

-- The state of the held pages is installed and kept alone, since no kept state is above the executed number, and no
-- transfer is open any more. Or there is no state that may be installed.
abbrev pub InstallsHeldPages : DeskData → DeskData → Option CheckpointEntry → Type 0
InstallsHeldPages old new (Some entry) =
    (o : OpenData) × (old.transfer ≡ Some o)
    × (entry ≡ record { number = o.transfer.number; digest = o.transfer.root })
    × HasPagesAt o.transfer.number o.transfer.held new.executed.state
    × NoneFalls old.executed.state new.executed.state
    × (new ≡ record old {
      executed = record old.executed { state = new.executed.state };
      snapshots = snapshot_of new.executed.state ∷ [];
      transfer = None;
      waiting = forgotten new.executed.state old.waiting;
    })
    × Each (λ x. x.number ≤ old.executed.state.number) old.snapshots
InstallsHeldPages old new None = (new ≡ old) × CannotInstall old
