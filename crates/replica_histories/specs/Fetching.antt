-- The replica that fetches: its fetches, and the parts that arrive (Castro and Liskov, TOCS 2002, on state transfer).
use Rattle.std.specs.Prelude.{◌≡◌, ℕ, ◌+◌, ◌*◌, ◌≤◌, ◌<◌, true, List, [], ◌∷◌, length, Option, Some}
use Rattle.std.specs.Option.{ForSome}
use Rattle.partition_tree.specs.declared.tree.TheConstants.{PAGES}
use Rattle.sha2.specs.Sha256.{sha256}
use Rattle.partition_tree.specs.Digests.{digest_of_children, root_of as root_of_pages}
use Rattle.wire_format.specs.Messages.{BodyData as Body, MessageData as Message, CheckpointEntryData as CheckpointEntry, fetch as Fetch, meta as Meta, page as Page}
use Rattle.signing.specs.AuthenticBody.{authentic}
use Rattle.ordering.specs.Log as logs
use Rattle.ordering.specs.Log.{LogData}
use Rattle.protocol.specs.System.Configuration.{Configuration, members}
use Rattle.protocol.specs.System.Frames.{IsOutgoing}
use Rattle.protocol.specs.System.Trace.{Entry, Has}
use Rattle.protocol.specs.System.Trace.Entry.{Got, Sent}
use Rattle.protocol.specs.Replica.State.{State, IsReplicatedState, last_time, pages_of}
use Rattle.protocol.specs.Replica.RightReplica.{others}
use Rattle.protocol.specs.Replica.Transfers.{fetch_sent}
use Rattle.protocol.specs.Replica.Owed.{Counts}
use Rattle.state_transfer.specs.declared.place.Place.{Place}
use Rattle.state_transfer.specs.Places.{page_place}
use Rattle.state_transfer.specs.Transfer.{TransferData, wanted, with_digests, with_page}
use Rattle.replica_histories.specs.Desk.{Desk}
use Rattle.replica_histories.specs.Transfers.{TransferMayAsk, AsksNext, FitsStateTransfer, RestsOnState, transfer_to, open_number}
use Rattle.replica_histories.specs.Questions.{is_part, AnswersInput}
use Rattle.replica_histories.specs.Events.{Start, after_outputs, BothFitWithinEvent, BothFitBetweenEvents, start_at}
use Rattle.replica_histories.specs.Inputs.{fetch_due}

-- ---- a fetch

-- A transfer that may ask may send the fetch of its place, and is open after it. The fetch may be the first due
-- message.
abbrev pub FetchesFit : Type 0
FetchesFit =
    (c : Configuration) (me : ℕ) (s : Start) (desk : Desk) (log : LogData) (due : List Message) (outputs : List Entry)
    (t : TransferData) (bytes : List ℕ)
    → TransferMayAsk c me t desk.state.number (after_outputs s outputs)
    → AsksNext c me t desk.state (after_outputs s outputs)
    → IsOutgoing c me (Fetch t.number t.asked.level t.asked.index) (others c me) bytes
    → BothFitWithinEvent c me s desk log due outputs
    → BothFitWithinEvent c me s (record desk { transfer = Some t }) log due (Sent me bytes ∷ outputs)

abbrev pub DueFetchesFit : Type 0
DueFetchesFit =
    (c : Configuration) (me : ℕ) (s : Start) (desk : Desk) (log : LogData) (rest : List Message) (outputs : List Entry)
    (t : TransferData) (bytes : List ℕ)
    → TransferMayAsk c me t desk.state.number (after_outputs s outputs)
    → AsksNext c me t desk.state (after_outputs s outputs)
    → IsOutgoing c me (Fetch t.number t.asked.level t.asked.index) (others c me) bytes
    → BothFitWithinEvent c me s desk log (Fetch t.number t.asked.level t.asked.index ∷ rest) outputs
    → BothFitWithinEvent c me s (record desk { transfer = Some t }) log rest (Sent me bytes ∷ outputs)

-- If a quorum of the log's checkpoints is above the executed state and the open transfer, a transfer to it may ask: a
-- new one, or the open one, moved.
abbrev pub QuorumsMayAsk : Type 0
QuorumsMayAsk =
    (c : Configuration) (me : ℕ) (s : Start) (desk : Desk) (log : LogData) (due : List Message) (outputs : List Entry)
    (entry : CheckpointEntry) (pages : List (List ℕ))
    → 2 * log.faults + 1 ≤ logs.count_checkpoints log entry → log.low < entry.number
    → open_number desk.state.number desk.transfer < entry.number
    → BothFitWithinEvent c me s desk log due outputs
    → TransferMayAsk c me (transfer_to desk.transfer entry.number entry.digest pages) desk.state.number
    (after_outputs s outputs)
    × AsksNext c me (transfer_to desk.transfer entry.number entry.digest pages) desk.state (after_outputs s outputs)

-- Between events no fetch is due.
abbrev pub HeldOweNoFetch : Type 0
HeldOweNoFetch =
    (c : Configuration) (me : ℕ) (desk : Desk) (log : LogData) (past : List Entry) (entry : CheckpointEntry)
    → BothFitBetweenEvents c me desk log past → fetch_due desk log entry ≡ []

-- ---- a part arrives

-- Received digests of the transfer's number begin an event if they have the digest that their place has to have. The
-- open transfer takes them, and may ask on.
abbrev pub DigestsEnter : Type 0
DigestsEnter =
    (c : Configuration) (me : ℕ) (desk : Desk) (log : LogData) (past : List Entry) (t : TransferData) (s : ℕ)
    (place : Place) (digests : List (List ℕ)) (bytes : List ℕ) (held : BothFitBetweenEvents c me desk log past)
    → desk.transfer ≡ Some t
    → authentic (members c me) me bytes
    ≡ Some (record { sender = s; message = Meta t.number place.level place.index digests })
    → wanted t place ≡ Some (digest_of_children digests)
    → BothFitWithinEvent c me (start_at c me desk log past held (Got me bytes))
    (record desk { transfer = Some (with_digests t place digests) }) log [] []
    × TransferMayAsk c me (with_digests t place digests) desk.state.number (Got me bytes ∷ past)

-- So does a page that was asked for last, whatever its digest: before an installation all held pages are compared with
-- the root. The replica has not taken the page until the transfer asks on with it, or its state is installed.
abbrev pub PagesEnter : Type 0
PagesEnter =
    (c : Configuration) (me : ℕ) (desk : Desk) (log : LogData) (past : List Entry) (t : TransferData) (s index : ℕ)
    (text bytes : List ℕ) (held : BothFitBetweenEvents c me desk log past)
    → desk.transfer ≡ Some t → t.asked ≡ page_place index
    → authentic (members c me) me bytes ≡ Some (record { sender = s; message = Page t.number index text })
    → length t.held ≡ PAGES → length t.fetched ≡ PAGES
    → BothFitWithinEvent c me (start_at c me desk log past held (Got me bytes)) desk log [] []
    × TransferMayAsk c me (with_page t index text) desk.state.number (Got me bytes ∷ past)

-- Digests, or a page, count if the open transfer asked for them and they have the wanted digest.
abbrev pub AskedDigestsCount : Type 0
AskedDigestsCount =
    (c : Configuration) (me : ℕ) (desk : Desk) (log : LogData) (past : List Entry) (t : TransferData) (s : ℕ)
    (place : Place) (digests : List (List ℕ)) (bytes : List ℕ) (held : BothFitBetweenEvents c me desk log past)
    → desk.transfer ≡ Some t → t.asked ≡ place → wanted t place ≡ Some (digest_of_children digests)
    → Counts c me past held.of_desk.point bytes s (Meta t.number place.level place.index digests)

abbrev pub AskedPagesCount : Type 0
AskedPagesCount =
    (c : Configuration) (me : ℕ) (desk : Desk) (log : LogData) (past : List Entry) (t : TransferData) (s index : ℕ)
    (text bytes : List ℕ) (held : BothFitBetweenEvents c me desk log past)
    → desk.transfer ≡ Some t → t.asked ≡ page_place index → wanted t (page_place index) ≡ Some (sha256 text)
    → Counts c me past held.of_desk.point bytes s (Page t.number index text)

-- ---- what the replica owes to a part that arrives

-- The part of this number, place and digest is not the one that the transfer awaits.
abbrev pub IsOther : TransferData → ℕ → Place → List ℕ → Type 0
IsOther t number place digest =
    (awaited : List ℕ) × (wanted t t.asked ≡ Some awaited)
    × (t.number ≡ number → t.asked ≡ place → awaited ≡ digest → ⊥)

-- The replica owes nothing to digests, or to a page, that no open transfer awaits.
abbrev pub OtherDigestsOweNone : Type 0
OtherDigestsOweNone =
    (c : Configuration) (me : ℕ) (desk : Desk) (log : LogData) (past : List Entry) (s k executed : ℕ) (place : Place)
    (digests : List (List ℕ)) (bytes : List ℕ) (outputs : List Entry) (held : BothFitBetweenEvents c me desk log past)
    → authentic (members c me) me bytes ≡ Some (record { sender = s; message = Meta k place.level place.index digests })
    → ForSome desk.transfer (λ t. IsOther t k place (digest_of_children digests))
    → AnswersInput c me past (Got me bytes) outputs held.of_desk.point executed

abbrev pub OtherPagesOweNone : Type 0
OtherPagesOweNone =
    (c : Configuration) (me : ℕ) (desk : Desk) (log : LogData) (past : List Entry) (s k index executed : ℕ)
    (text bytes : List ℕ) (outputs : List Entry) (held : BothFitBetweenEvents c me desk log past)
    → authentic (members c me) me bytes ≡ Some (record { sender = s; message = Page k index text })
    → ForSome desk.transfer (λ t. IsOther t k (page_place index) (sha256 text))
    → AnswersInput c me past (Got me bytes) outputs held.of_desk.point executed

-- For any part it is enough to send a fetch of the open transfer's number.
abbrev pub FetchesSuffice : Type 0
FetchesSuffice =
    (c : Configuration) (me : ℕ) (desk : Desk) (log : LogData) (past : List Entry) (t : TransferData) (body : Body)
    (bytes : List ℕ) (outputs : List Entry) (executed : ℕ) (held : BothFitBetweenEvents c me desk log past)
    → desk.transfer ≡ Some t → authentic (members c me) me bytes ≡ Some body → is_part body ≡ true
    → Has (λ e. fetch_sent e ≡ t.number) outputs
    → AnswersInput c me past (Got me bytes) outputs held.of_desk.point executed

-- Or the transfer's number is reached, if these pages are those of a state that can be installed.
abbrev pub TransferReachesState : State → TransferData → ℕ → Type 0
TransferReachesState old t executed =
    (st : State) → IsReplicatedState st → st.number ≡ t.number → pages_of st ≡ t.held
    → ((client : ℕ) → last_time old client ≤ last_time st client) → t.number ≤ executed

-- This is enough if the held pages, with the part, have the root.
abbrev pub FetchedSuffice : Type 0
FetchedSuffice =
    (c : Configuration) (me : ℕ) (desk : Desk) (log : LogData) (past : List Entry) (t new : TransferData) (body : Body)
    (bytes : List ℕ) (outputs : List Entry) (executed : ℕ) (held : BothFitBetweenEvents c me desk log past)
    → desk.transfer ≡ Some t → authentic (members c me) me bytes ≡ Some body → is_part body ≡ true
    → new.number ≡ t.number → TransferMayAsk c me new desk.state.number (Got me bytes ∷ past)
    → RestsOnState new desk.state
    → length new.held ≡ PAGES → root_of_pages new.held ≡ new.root → TransferReachesState desk.state new executed
    → AnswersInput c me past (Got me bytes) outputs held.of_desk.point executed

-- ---- the open transfer

-- Within an event another transfer that fits may replace the open one: it rests on other pages.
abbrev pub TransfersChange : Type 0
TransfersChange =
    (c : Configuration) (me : ℕ) (s : Start) (desk : Desk) (log : LogData) (due : List Message) (outputs : List Entry)
    (open_one : Option TransferData)
    → FitsStateTransfer c me open_one desk.state.number (after_outputs s outputs)
    → BothFitWithinEvent c me s desk log due outputs
    → BothFitWithinEvent c me s (record desk { transfer = open_one }) log due outputs
