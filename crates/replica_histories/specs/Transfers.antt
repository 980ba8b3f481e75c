-- How a state transfer, part by part, fits the history of the replica that fetches (Castro and Liskov, TOCS 2002, on
-- hierarchical state partitions and state transfer).
use Rattle.std.specs.Prelude.{◌≡◌, ℕ, ◌≤◌, ◌<◌, ◌⊎◌, Bool, true, false, List, [], ◌∷◌, length, nat_lt, Option, Some, None, slice_index_or, option_and_then, ⊤}
use Rattle.std.specs.Bool.{then_some}
use Rattle.partition_tree.specs.declared.tree.TheConstants.{PAGES}
use Rattle.sha2.specs.Sha256.{sha256}
use Rattle.terms.specs.declared.state.Level.{Level}
use Rattle.terms.specs.declared.state.Level.TheVariants as levels
use Rattle.partition_tree.specs.Digests.{digest_of_children, root_of as root_of_pages}
use Rattle.wire_format.specs.Messages.{fetch as Fetch, meta as Meta, page as Page}
use Rattle.wire_format.specs.Words.{said}
use Rattle.signing.specs.AuthenticBody.{authentic}
use Rattle.protocol.specs.System.Configuration.{Configuration, members}
use Rattle.protocol.specs.System.Trace.{Entry}
use Rattle.protocol.specs.System.Trace.Entry.{Got, Tick, Executed, Installed, Sent}
use Rattle.protocol.specs.Replica.Selection.{is_quorum}
use Rattle.protocol.specs.Replica.Certificates.{count_checkpoints}
use Rattle.protocol.specs.Replica.State.{State, IsReplicatedState, pages_of, page_text}
use Rattle.protocol.specs.Replica.RightReplica.{Point, IsStep, IsRootWanted, IsAskedAgain, MayFetch, still_waiting}
use Rattle.protocol.specs.Replica.Transfers.{place_from, fetching, asked_last, took, in_place, GotBelow, NoneAsked, IsNextPart}
use Rattle.protocol.specs.Replica.Owed.{IsWanted, Counts}
use Rattle.state_transfer.specs.declared.place.Place.{Place}
use Rattle.state_transfer.specs.Places.{page_place}
use Rattle.state_transfer.specs.Transfer.{TransferData, new_transfer, moved_to, wanted_at, wanted, next_place, asking, with_digests, with_page, replaced_at, given_back, RestsOn as IsRested}

-- ---- a transfer and a history

-- the held text of a page, whether it was fetched, and the received digests of an inner part's pages
abbrev pub page_held : TransferData → ℕ → List ℕ
page_held t i = slice_index_or t.held i []

abbrev pub is_fetched : TransferData → ℕ → Bool
is_fetched t i = slice_index_or t.fetched i false

abbrev pub known_below : TransferData → ℕ → Option (List (List ℕ))
known_below t j = slice_index_or t.page_digests j None

-- a quorum of checkpoints has this root for the number
abbrev pub HasQuorum : Configuration → List Entry → ℕ → List ℕ → Type 0
HasQuorum c history k root = is_quorum c (count_checkpoints c history (record { number = k; digest = root })) ≡ true

-- The root may be fetched, and the known digests were received: those below each place with their digest.
pub record TransferAims (c : Configuration) (me : ℕ) (t : TransferData) (history : List Entry) : Type 0 where
  pub root_wanted : IsRootWanted c history t.number t.root
  pub inner : (digests : List (List ℕ)) → t.part_digests ≡ Some digests
      → GotBelow c me history levels.Root 0 t.root digests
  pub parts : (j : ℕ) (digests : List (List ℕ)) → known_below t j ≡ Some digests
      → GotBelow c me history levels.Inner j (digest_of_children digests) digests

-- The pages that the transfer fetched are those that the replica took by its history, if the newest event goes on for
-- the number `next`. Between events none goes on. An event that goes on for the transfer's number may ask, or install.
abbrev pub AreTaken : Configuration → ℕ → Option ℕ → TransferData → List Entry → Type 0
AreTaken c me next t history =
    (i : ℕ) → i < PAGES → took c me next history i ≡ then_some (is_fetched t i) (page_held t i)

-- no page was taken
abbrev pub NoneTaken : Configuration → ℕ → Option ℕ → List Entry → Type 0
NoneTaken c me next history = (i : ℕ) → i < PAGES → took c me next history i ≡ None

-- The transfer's place was asked for last, for its number, the greatest that anything was fetched for. The replica took
-- the fetched pages.
pub record FitsTransfer (c : Configuration) (me : ℕ) (t : TransferData) (history : List Entry) : Type 0 where
  pub aims : TransferAims c me t history
  pub asked : asked_last history ≡ Some (t.number, (t.asked.level, t.asked.index))
  pub newest : fetching history ≡ t.number
  pub taken : AreTaken c me None t history

-- The transfer is above the executed number, and nothing above it was fetched. An event that goes on for its number
-- takes the fetched pages. So its next place may be asked for, or its state installed.
pub record TransferMayAsk (c : Configuration) (me : ℕ) (t : TransferData) (number : ℕ) (history : List Entry) : Type 0
  where
    pub aims : TransferAims c me t history
    pub newest : fetching history ≤ t.number
    pub ahead : number < t.number
    pub taken : AreTaken c me (Some t.number) t history

-- The transfer's place is the next part, over the state st, or is asked for again.
abbrev pub AsksNext : Configuration → ℕ → TransferData → State → List Entry → Type 0
AsksNext c me t st history =
    IsNextPart c me history (in_place c me t.number history st) t.number t.root t.asked.level t.asked.index
    ⊎ IsAskedAgain history t.number t.asked.level t.asked.index

-- the digests of the root's children are known
abbrev pub IsTold : TransferData → Type 0
IsTold t = (digests : List (List ℕ)) × (t.part_digests ≡ Some digests)

-- The transfer that is open at a replica of this executed number is above that number. If none is open, nothing above
-- the number was fetched, and no page is taken.
abbrev pub FitsStateTransfer : Configuration → ℕ → Option TransferData → ℕ → List Entry → Type 0
FitsStateTransfer c me None number history = (fetching history ≤ number) × NoneTaken c me None history
FitsStateTransfer c me (Some t) number history = FitsTransfer c me t history × (number < t.number)

-- The pages that were not fetched are the state's.
abbrev pub RestsOnState : TransferData → State → Type 0
RestsOnState t st = (i : ℕ) → i < PAGES → is_fetched t i ≡ false → page_held t i ≡ page_text st i

-- ---- the open transfer

-- a transfer starts, or the open one moves; and the number above which it has to be, if this number is executed
abbrev pub transfer_to : Option TransferData → ℕ → List ℕ → List (List ℕ) → TransferData
transfer_to None number root pages = new_transfer number root pages
transfer_to (Some t) number root pages = moved_to t number root

abbrev pub open_number : ℕ → Option TransferData → ℕ
open_number number None = number
open_number number (Some t) = t.number

-- it goes on while its number is above the executed one
abbrev pub still_open : ℕ → Option TransferData → Option TransferData
still_open number open_one = option_and_then (λ t. then_some (nat_lt number t.number) t) open_one

-- the place that an entry asks for
abbrev pub place_sent : Entry → Option (ℕ × (Level × ℕ))
place_sent (Sent p bytes) = option_and_then place_from (said bytes)
place_sent _ = None

-- ---- laws: wanted digests, and parts that count

-- The digests that a transfer wants are those that the history has for the parts of its state.
abbrev pub WantedByHistory : Type 0
WantedByHistory =
    (c : Configuration) (me : ℕ) (t : TransferData) (history : List Entry) (level : Level) (index : ℕ)
    (digest : List ℕ)
    → TransferAims c me t history → wanted_at t level index ≡ Some digest
    → IsWanted c me history t.number level index digest

-- Digests, and a page, count if the place was asked for and they have the digest that it has to have.
abbrev pub DigestsCount : Type 0
DigestsCount =
    (c : Configuration) (me : ℕ) (t : TransferData) (history : List Entry) (point : Point) (bytes : List ℕ) (s : ℕ)
    (place : Place) (digests : List (List ℕ))
    → t.asked ≡ place → wanted t place ≡ Some (digest_of_children digests)
    → FitsStateTransfer c me (Some t) point.state.number history
    → Counts c me history point bytes s (Meta t.number place.level place.index digests)

abbrev pub PagesCount : Type 0
PagesCount =
    (c : Configuration) (me : ℕ) (t : TransferData) (history : List Entry) (point : Point) (bytes : List ℕ)
    (s index : ℕ) (text : List ℕ)
    → t.asked ≡ page_place index → wanted t (page_place index) ≡ Some (sha256 text)
    → FitsStateTransfer c me (Some t) point.state.number history
    → Counts c me history point bytes s (Page t.number index text)

-- ---- laws: from one entry to the next

-- Received digests and the wanted root stay, whatever entry follows.
abbrev pub AimsStay : Type 0
AimsStay =
    (c : Configuration) (me : ℕ) (t : TransferData) (past : List Entry) (e : Entry)
    → TransferAims c me t past → TransferAims c me t (e ∷ past)

-- An entry that asks for no part leaves the last place asked for, and its number.
abbrev pub AskedStays : Type 0
AskedStays =
    (past : List Entry) (e : Entry) → place_sent e ≡ None
    → (fetching (e ∷ past) ≡ fetching past) × (asked_last (e ∷ past) ≡ asked_last past)

-- an entry that executes nothing and installs nothing
abbrev pub LeavesState : Entry → Type 0
LeavesState e = elim e [ Executed r n batch ↦ ⊥ | Installed r n root ↦ ⊥ | _ ↦ ⊤ ]

-- If it leaves the state too, the open transfer stays.
abbrev pub OpenStays : Type 0
OpenStays =
    (c : Configuration) (me : ℕ) (open_one : Option TransferData) (number : ℕ) (past : List Entry) (e : Entry)
    → place_sent e ≡ None → LeavesState e → FitsStateTransfer c me open_one number past
    → FitsStateTransfer c me open_one number (e ∷ past)

-- An execution ends a transfer up to its number, and leaves one above it.
abbrev pub OpenExecutes : Type 0
OpenExecutes =
    (c : Configuration) (me : ℕ) (open_one : Option TransferData) (number later : ℕ) (past : List Entry)
    (batch : List ℕ)
    → number ≤ later → FitsStateTransfer c me open_one number past
    → FitsStateTransfer c me (still_open later open_one) later (Executed me later batch ∷ past)

-- ---- laws: the parts that a transfer takes

-- Received digests, with the digest that their place has to have, are taken: the aims of the transfer fit, and so does
-- the open transfer.
abbrev pub DigestsTaken : Type 0
DigestsTaken =
    (c : Configuration) (me : ℕ) (t : TransferData) (past : List Entry) (bytes : List ℕ) (s n : ℕ) (place : Place)
    (digests : List (List ℕ))
    → authentic (members c me) me bytes
    ≡ Some (record { sender = s; message = Meta n place.level place.index digests })
    → wanted t place ≡ Some (digest_of_children digests)
    → TransferAims c me t past → TransferAims c me (with_digests t place digests) (Got me bytes ∷ past)

abbrev pub DigestsOpen : Type 0
DigestsOpen =
    (c : Configuration) (me : ℕ) (t : TransferData) (number : ℕ) (past : List Entry) (bytes : List ℕ) (s n : ℕ)
    (place : Place) (digests : List (List ℕ))
    → authentic (members c me) me bytes
    ≡ Some (record { sender = s; message = Meta n place.level place.index digests })
    → wanted t place ≡ Some (digest_of_children digests)
    → FitsStateTransfer c me (Some t) number past
    → FitsStateTransfer c me (Some (with_digests t place digests)) number (Got me bytes ∷ past)

-- After them the transfer may ask for any place, since no page arrived.
abbrev pub DigestsMayAsk : Type 0
DigestsMayAsk =
    (c : Configuration) (me : ℕ) (t : TransferData) (number : ℕ) (past : List Entry) (bytes : List ℕ) (s n : ℕ)
    (place : Place) (digests : List (List ℕ))
    → authentic (members c me) me bytes
    ≡ Some (record { sender = s; message = Meta n place.level place.index digests })
    → wanted t place ≡ Some (digest_of_children digests)
    → FitsStateTransfer c me (Some t) number past
    → TransferMayAsk c me (with_digests t place digests) number (Got me bytes ∷ past)

-- A received page that was asked for last is taken by an event that goes on.
abbrev pub PagesMayAsk : Type 0
PagesMayAsk =
    (c : Configuration) (me : ℕ) (t : TransferData) (number : ℕ) (past : List Entry) (bytes : List ℕ)
    (s index : ℕ) (text : List ℕ)
    → authentic (members c me) me bytes ≡ Some (record { sender = s; message = Page t.number index text })
    → t.asked ≡ page_place index → length t.held ≡ PAGES → length t.fetched ≡ PAGES
    → FitsStateTransfer c me (Some t) number past
    → TransferMayAsk c me (with_page t index text) number (Got me bytes ∷ past)

-- After a tick the open transfer may ask again.
abbrev pub TicksMayAsk : Type 0
TicksMayAsk =
    (c : Configuration) (me : ℕ) (t : TransferData) (number : ℕ) (st : State) (past : List Entry)
    → FitsStateTransfer c me (Some t) number past
    → TransferMayAsk c me t number (Tick me ∷ past) × AsksNext c me t st (Tick me ∷ past)

-- A page that is given back leaves the transfer as it was.
abbrev pub PagesGiveBack : Type 0
PagesGiveBack =
    (t : TransferData) (index : ℕ) (text : List ℕ)
    → given_back (with_page t index text) (replaced_at t index) ≡ t

-- Pages that were not fetched may be put anew.
abbrev pub PagesRested : Type 0
PagesRested =
    (c : Configuration) (me : ℕ) (pages : List (List ℕ)) (old new : TransferData) (number : ℕ)
    (history : List Entry)
    → IsRested old pages new
    → (FitsStateTransfer c me (Some old) number history → FitsStateTransfer c me (Some new) number history)
    × (TransferMayAsk c me old number history → TransferMayAsk c me new number history)

-- ---- laws: a transfer starts, moves, and asks

-- A quorum of checkpoints wants the root.
abbrev pub QuorumsWant : Type 0
QuorumsWant =
    (c : Configuration) (history : List Entry) (k : ℕ) (root : List ℕ) → HasQuorum c history k root
    → IsRootWanted c history k root

abbrev pub TransfersStart : Type 0
TransfersStart =
    (c : Configuration) (me k : ℕ) (root : List ℕ) (pages : List (List ℕ)) (history : List Entry)
    → IsRootWanted c history k root → TransferAims c me (new_transfer k root pages) history

abbrev pub TransfersMove : Type 0
TransfersMove =
    (c : Configuration) (me k : ℕ) (root : List ℕ) (t : TransferData) (history : List Entry)
    → IsRootWanted c history k root → TransferAims c me t history → TransferAims c me (moved_to t k root) history

-- So a quorum above the executed state and the open transfer starts a transfer, or moves the open one. Any other above
-- the executed number is at or below the fetched one.
abbrev pub QuorumsOpen : Type 0
QuorumsOpen =
    (c : Configuration) (me : ℕ) (open_one : Option TransferData) (number k : ℕ) (root : List ℕ)
    (pages : List (List ℕ)) (st : State) (history : List Entry)
    → HasQuorum c history k root → open_number number open_one < k → FitsStateTransfer c me open_one number history
    → TransferMayAsk c me (transfer_to open_one k root pages) number history
    × AsksNext c me (transfer_to open_one k root pages) st history

abbrev pub LowerAreFetched : Type 0
LowerAreFetched =
    (c : Configuration) (me : ℕ) (open_one : Option TransferData) (number k : ℕ) (history : List Entry)
    → number < k → k ≤ open_number number open_one → FitsStateTransfer c me open_one number history
    → k ≤ fetching history

-- A transfer that may ask may ask for any place.
abbrev pub MayAskAny : Type 0
MayAskAny =
    (c : Configuration) (me : ℕ) (t : TransferData) (place : Option Place) (number : ℕ) (history : List Entry)
    → TransferMayAsk c me t number history → TransferMayAsk c me (asking place t) number history

-- If a transfer may ask, and the event sent no fetch, the first missing place is the next part.
abbrev pub NextsAreFirst : Type 0
NextsAreFirst =
    (c : Configuration) (me : ℕ) (t : TransferData) (st : State) (history : List Entry) (place : Place)
    → TransferMayAsk c me t st.number history → RestsOnState t st → length t.held ≡ PAGES → NoneAsked history → IsTold t
    → next_place t ≡ Some place
    → IsNextPart c me history (in_place c me t.number history st) t.number t.root place.level place.index

-- A transfer that may ask for its place asks for a part of a state that may be installed. After the fetch of its place
-- it is open.
abbrev pub TransfersMayFetch : Type 0
TransfersMayFetch =
    (c : Configuration) (me : ℕ) (t : TransferData) (past : List Entry) (point : Point)
    → TransferMayAsk c me t point.state.number past → AsksNext c me t point.state past
    → MayFetch c me past point t.number t.asked.level t.asked.index

abbrev pub TransfersAsk : Type 0
TransfersAsk =
    (c : Configuration) (me : ℕ) (t : TransferData) (number : ℕ) (past : List Entry) (bytes : List ℕ)
    → said bytes ≡ Some (record { sender = me; message = Fetch t.number t.asked.level t.asked.index })
    → TransferMayAsk c me t number past → FitsStateTransfer c me (Some t) number (Sent me bytes ∷ past)

-- ---- laws: the pages that are not fetched are the state's

abbrev pub StartedRests : Type 0
StartedRests = (k : ℕ) (root : List ℕ) (st : State) → RestsOnState (new_transfer k root (pages_of st)) st

abbrev pub DigestsRest : Type 0
DigestsRest =
    (t : TransferData) (st : State) (place : Place) (digests : List (List ℕ)) → RestsOnState t st
    → RestsOnState (with_digests t place digests) st

abbrev pub PagesRest : Type 0
PagesRest =
    (t : TransferData) (st : State) (index : ℕ) (text : List ℕ) → length t.fetched ≡ PAGES → index < PAGES
    → RestsOnState t st → RestsOnState (with_page t index text) st

abbrev pub RestedRests : Type 0
RestedRests = (old new : TransferData) (st : State) → IsRested old (pages_of st) new → RestsOnState new st

-- ---- law: a state is installed

-- the point after it
abbrev pub installed_point : Point → State → Point
installed_point old st =
    record { state = st; snapshots = st ∷ old.snapshots; ran = old.ran; waiting = still_waiting st old.waiting }

-- If a transfer may ask, and its held pages have the root and are those of a state of its number, that state may be
-- installed. Then nothing above it was fetched.
abbrev pub TransfersInstall : Type 0
TransfersInstall =
    (c : Configuration) (me : ℕ) (t : TransferData) (past : List Entry) (point : Point) (st : State)
    → TransferMayAsk c me t point.state.number past → RestsOnState t point.state → root_of_pages t.held ≡ t.root
    → IsReplicatedState st → st.number ≡ t.number → pages_of st ≡ t.held
    → IsStep c me past point (Installed me t.number t.root) (installed_point point st)
    × FitsStateTransfer c me None st.number (Installed me t.number t.root ∷ past)
