-- The laws over all safe histories: what may be sent, agreement on batches, states and roots, and the first view.
use Rattle.std.specs.Prelude.{◌≡◌, ℕ, ◌+◌, ◌^◌, ◌≤◌, ◌<◌, ◌⊎◌, true, List, [], ◌∷◌, ◌++◌, length, Some}
use Rattle.partition_tree.specs.declared.tree.TheConstants.{PAGES}
use Rattle.sha2.specs.Sha256.{sha256}
use Rattle.protocol.specs.System.Configuration.{Configuration, IsConfiguration, is_correct, is_correct_replica, is_correct_client}
use Rattle.wire_format.specs.Messages.{MessageData as Message, NewViewData, ViewChangeData, view_change as ViewChange}
use Rattle.wire_format.specs.Spelling.{is_signed}
use Rattle.wire_format.specs.Words.{carried}
use Rattle.protocol.specs.System.Frames.{IsOutgoing, leaf_of}
use Rattle.protocol.specs.System.Trace.{Entry, party_of, history_of, Once, Always, Has, SendsBody, Unforged}
use Rattle.protocol.specs.System.Trace.Entry.{Executed, Installed}
use Rattle.protocol.specs.Replica.Certificates.{Prepared, Committed, view, taken, assigned_batch}
use Rattle.protocol.specs.Replica.RightReplica.{Point, HistoryReaches, HasSeen, SentBefore, SentInEvent, HasOwnLeaf, SafeReplica, HadQuorum, StartsAt, MaySendMessage, IsFor, MaySend}
use Rattle.protocol.specs.Client.RightClient.{SafeClient}
use Rattle.protocol.specs.Space.Linear.{points, IsLinear}
use Rattle.protocol.specs.Replica.State.{State, IsReplicatedState, opening, after_batches, page_text, root_of}
use Rattle.protocol.specs.System.Texts.{NoCollision}
use Rattle.wire_format.specs.Lists.{Each}

-- ---- what may be sent

-- A replica may send a frame to the right receivers, over frames that it has seen, if it may send the
-- message and the event has not sent the frame. A signed frame needs a leaf of its own.
abbrev pub OutgoingMaySend : Type 0
OutgoingMaySend =
    (c : Configuration) (me : ℕ) (past : List Entry) (point : Point) (e : Entry) (bytes receivers : List ℕ)
    (message : Message)
    → IsOutgoing c me message receivers bytes → IsFor c me past message receivers
    → Each (λ frame. Once (HasSeen frame) past) (carried message) → MaySendMessage c me past point e bytes message
    → (is_signed message ≡ true → HasOwnLeaf bytes past) → (SentInEvent bytes past → ⊥)
    → MaySend c me past point e bytes

-- No leaf of a right replica signs two frames.
abbrev pub LeavesSignOnce : Type 0
LeavesSignOnce =
    (c : Configuration) (me leaf : ℕ) (one other : List ℕ) (history : List Entry) → SafeReplica c me history
    → leaf_of one ≡ Some leaf → leaf_of other ≡ Some leaf → SentBefore one history → SentBefore other history
    → one ≡ other

-- ---- agreement

-- Each correct replica's history is safe.
abbrev pub AreReplicasSafe : Configuration → List Entry → Type 0
AreReplicasSafe c trace = (p : ℕ) → is_correct_replica c p ≡ true → SafeReplica c p (history_of p trace)

-- Batches that two correct replicas hold prepared in one view for one number have one digest.
abbrev pub PreparedAgree : Type 0
PreparedAgree =
    (c : Configuration) → IsConfiguration c → (trace : List Entry) → AreReplicasSafe c trace → Unforged c trace
    → (p q v i : ℕ) (a b : List ℕ) → is_correct_replica c p ≡ true → is_correct_replica c q ≡ true
    → Prepared c p (history_of p trace) v i a → Prepared c q (history_of q trace) v i b → sha256 a ≡ sha256 b

-- the new view assigns a batch of this digest to the number, or starts at or above it
abbrev pub HasOrStartsAbove : ℕ → List ℕ → NewViewData → Type 0
HasOrStartsAbove i digest new =
    (i ≤ new.start) ⊎ ((batch : List ℕ) × (assigned_batch new.view i new ≡ Some batch) × (sha256 batch ≡ digest))

-- the replica takes or sends the new view in this entry
abbrev pub TakesOrSendsNewView : Configuration → NewViewData → List Entry → Entry → Type 0
TakesOrSendsNewView c new past e = taken c past e ≡ Some new

-- If a batch is committed, each new view of a later view that a correct replica takes or sends assigns its digest to
-- its number, or starts at or above the number.
abbrev pub CommittedStays : Type 0
CommittedStays =
    (c : Configuration) → IsConfiguration c → (trace : List Entry) → AreReplicasSafe c trace → Unforged c trace
    → (p q v i : ℕ) (a : List ℕ) (new : NewViewData) → is_correct_replica c p ≡ true → is_correct_replica c q ≡ true
    → Committed c p (history_of p trace) v i a → Once (TakesOrSendsNewView c new) (history_of q trace) → v < new.view
    → HasOrStartsAbove i (sha256 a) new

-- Batches that two correct replicas hold committed for one number have one digest, over all views.
abbrev pub CommittedAgree : Type 0
CommittedAgree =
    (c : Configuration) → IsConfiguration c → (trace : List Entry) → AreReplicasSafe c trace → Unforged c trace
    → (p q v w i : ℕ) (a b : List ℕ) → is_correct_replica c p ≡ true → is_correct_replica c q ≡ true
    → Committed c p (history_of p trace) v i a → Committed c q (history_of q trace) w i b → sha256 a ≡ sha256 b

-- a correct replica executes the batch for the number in this entry
abbrev pub ExecutesBatch : Configuration → ℕ → List ℕ → List Entry → Entry → Type 0
ExecutesBatch c k batch past (Executed r number text) = (is_correct_replica c r ≡ true) × (number ≡ k) × (text ≡ batch)
ExecutesBatch c k batch past _ = ⊥

-- Batches that two correct replicas execute for one number are one batch.
abbrev pub ExecutedAgree : Type 0
ExecutedAgree =
    (c : Configuration) → IsConfiguration c → (trace : List Entry) → AreReplicasSafe c trace → Unforged c trace
    → NoCollision c trace
    → (k : ℕ) (a b : List ℕ) → Once (ExecutesBatch c k a) trace → Once (ExecutesBatch c k b) trace → a ≡ b

-- ---- states

-- A history leaves a replica at one point at most.
abbrev pub PointsAreOne : Type 0
PointsAreOne =
    (c : Configuration) (me : ℕ) (history : List Entry) (x y : Point)
    → HistoryReaches c me history x → HistoryReaches c me history y → x ≡ y

-- States are equal if their pages are.
abbrev pub PagesDetermine : Type 0
PagesDetermine =
    (st other : State) → IsReplicatedState st → IsReplicatedState other
    → ((i : ℕ) → i < PAGES → page_text st i ≡ page_text other i)
    → st ≡ other

-- Fewer than 2^48 batches leave a well-formed state.
abbrev pub BatchesLeaveStates : Type 0
BatchesLeaveStates =
    (c : Configuration) (batches : List (List ℕ)) → IsConfiguration c → length batches < 2 ^ 48
    → IsReplicatedState (after_batches c opening batches)

-- each batch was executed for its number, from the first on
abbrev pub AreExecuted : Configuration → List Entry → ℕ → List (List ℕ) → Type 0
AreExecuted c trace first [] = Unit {0}
AreExecuted c trace first (batch ∷ batches) =
    Once (ExecutesBatch c first batch) trace × AreExecuted c trace (first + 1) batches

-- a correct replica stood at the point, at some time of the trace
pub record StoodAt (c : Configuration) (trace : List Entry) : Type 0 where
  pub replica : ℕ
  pub later : List Entry
  pub past : List Entry
  pub is_correct : is_correct_replica c replica ≡ true
  pub splits : history_of replica trace ≡ later ++ past
  pub point : Point
  pub leaves : HistoryReaches c replica past point

-- some correct replica had the state at some time of the trace, as its own or as a snapshot
abbrev pub Had : Configuration → List Entry → State → Type 0
Had c trace st = (at : StoodAt c trace) × ((at.point.state ≡ st) ⊎ Has (λ x. x ≡ st) at.point.snapshots)

-- it is the state after batches that were executed
pub record IsStateOf (c : Configuration) (trace : List Entry) (st : State) : Type 0 where
  pub batches : List (List ℕ)
  pub executed : AreExecuted c trace 1 batches
  pub is : st ≡ after_batches c opening batches

-- Each state that a correct replica ever has, executed, kept or installed, is that of the executed batches up to its
-- number.
abbrev pub StatesAreExecuted : Type 0
StatesAreExecuted =
    (c : Configuration) → IsConfiguration c → (trace : List Entry) → AreReplicasSafe c trace → Unforged c trace
    → NoCollision c trace
    → (st : State) → Had c trace st → IsStateOf c trace st

-- So those of one number, whenever and wherever, are one state.
abbrev pub StatesAgree : Type 0
StatesAgree =
    (c : Configuration) → IsConfiguration c → (trace : List Entry) → AreReplicasSafe c trace → Unforged c trace
    → NoCollision c trace
    → (x y : State) → Had c trace x → Had c trace y → x.number ≡ y.number → x ≡ y

-- the root is that of the state of the executed batches up to the number
pub record IsRootOf (c : Configuration) (trace : List Entry) (k : ℕ) (root : List ℕ) : Type 0 where
  pub batches : List (List ℕ)
  pub long : length batches ≡ k
  pub executed : AreExecuted c trace 1 batches
  pub root_is : root ≡ root_of (after_batches c opening batches)

-- a state of this number and root is installed in this entry
abbrev pub Installs : ℕ → List ℕ → List Entry → Entry → Type 0
Installs k root past (Installed r number digest) = (number ≡ k) × (digest ≡ root)
Installs k root past _ = ⊥

-- if this happens at a correct replica with a number and a root, the root is that of the executed batches
abbrev pub RootsAreOfBatches : (Configuration → ℕ → List ℕ → List Entry → Type 0) → Type 0
RootsAreOfBatches Happens =
    (c : Configuration) → IsConfiguration c → (trace : List Entry) → AreReplicasSafe c trace → Unforged c trace
    → NoCollision c trace
    → (r k : ℕ) (root : List ℕ) → is_correct_replica c r ≡ true → Happens c k root (history_of r trace)
    → IsRootOf c trace k root

-- A root is that of the executed batches if a quorum of checkpoints has it, a replica installed it, or a new view
-- starts with it.
abbrev pub StableAgree : Type 0
StableAgree = RootsAreOfBatches (λ c k root history. HadQuorum c (record { number = k; digest = root }) history)

abbrev pub InstalledAgree : Type 0
InstalledAgree = RootsAreOfBatches (λ c k root history. Once (Installs k root) history)

abbrev pub StartsAgree : Type 0
StartsAgree = RootsAreOfBatches (λ c k root history. Once (StartsAt c k root) history)

-- ---- points

-- the part of a run that the laws use: its correct parties' histories are safe, and no others have entries
pub record IsSafeTrace (c : Configuration) (trace : List Entry) : Type 0 where
  pub replicas : AreReplicasSafe c trace
  pub clients : (p : ℕ) → is_correct_client c p ≡ true → SafeClient c p (history_of p trace)
  pub parties : Always (λ past e. is_correct c (party_of e) ≡ true) trace

-- The headline, over all such traces: no party needs to be prompt.
abbrev pub LinearOfSafe : Type 0
LinearOfSafe =
    (c : Configuration) → IsConfiguration c → (trace : List Entry) → IsSafeTrace c trace → Unforged c trace
    → NoCollision c trace
    → IsLinear c (points c trace) trace

-- ---- the first view

-- no correct replica sends a view change
abbrev pub NoneChanges : Configuration → List Entry → Type 0
NoneChanges c trace =
    (p : ℕ) (vc : ViewChangeData) → is_correct_replica c p ≡ true
    → Once (SendsBody (record { sender = p; message = ViewChange vc })) trace → ⊥

-- Then none takes a new view: of the 2f + 1 signers of its view changes one is correct.
abbrev pub NoneBegins : Type 0
NoneBegins =
    (c : Configuration) → IsConfiguration c → (trace : List Entry) → AreReplicasSafe c trace → Unforged c trace
    → NoneChanges c trace
    → (p : ℕ) (new : NewViewData) → is_correct_replica c p ≡ true
    → Once (TakesOrSendsNewView c new) (history_of p trace) → ⊥

-- So each stays in the first view.
abbrev pub FirstViewStays : Type 0
FirstViewStays =
    (c : Configuration) → IsConfiguration c → (trace : List Entry) → AreReplicasSafe c trace → Unforged c trace
    → NoneChanges c trace
    → (p : ℕ) → is_correct_replica c p ≡ true → view c (history_of p trace) ≡ 0
