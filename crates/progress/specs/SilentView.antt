-- One view change: if the first view's primary is silent, each correct replica comes into the second view (Castro and
-- Liskov, TOCS 2002, 4.5.2).
use Rattle.std.specs.Prelude.{◌≡◌, ◌≢◌, ℕ, ◌≤◌, ◌⊎◌, true, false, List, [], ◌++◌, Some, None}
use Rattle.wire_format.specs.Lists.{Each}
use Rattle.wire_format.specs.Messages.{BodyData as Body}
use Rattle.signing.specs.AuthenticBody.{authentic, signed_body}
use Rattle.protocol.specs.System.Configuration.{Configuration, IsConfiguration, primary, is_faulty_replica, is_correct_replica, members, signers}
use Rattle.protocol.specs.System.Trace.{Entry, history_of, Unforged, frames_in}
use Rattle.protocol.specs.System.Trace.Entry.{Got, Tick}
use Rattle.protocol.specs.System.Texts.{NoCollision}
use Rattle.protocol.specs.System.Run.{IsRun, OnlyTheseStopped}
use Rattle.protocol.specs.Replica.Certificates.{target, is_active_in, logged}
use Rattle.protocol.specs.Replica.RightReplica.{Point, HistoryReaches}
use Rattle.protocol.specs.Replica.Owed.{AreKeysSpent}
use Rattle.progress.specs.Delivery.{HasEntry, AllDelivered}

-- No correct replica ever logs anything in the first view.
abbrev pub IsFirstViewSilent : Configuration → List Entry → Type 0
IsFirstViewSilent c trace =
    (q i : ℕ) → is_correct_replica c q ≡ true → logged c q (history_of q trace) 0 i ≡ None

-- The first view is silent, and the second one's primary is correct. No correct replica has left for a view above the
-- second, and each has a key left to sign with.
pub record SecondIsNext (c : Configuration) (trace : List Entry) : Type 0 where
  pub silent : IsFirstViewSilent c trace
  pub from : is_correct_replica c (primary c 1) ≡ true
  pub none_beyond : (q : ℕ) → is_correct_replica c q ≡ true → target (history_of q trace) ≤ 1
  pub keys : (q : ℕ) → is_correct_replica c q ≡ true → AreKeysSpent (history_of q trace) → ⊥

-- some request waits at the replica
abbrev pub SomeWaits : Configuration → ℕ → List Entry → Type 0
SomeWaits c q history = (point : Point) × HistoryReaches c q history point × (point.waiting ≢ [])

-- Time goes by at the replica in this part of a trace, or it has left the first view anyway.
abbrev pub TicksOrLeft : ℕ → List Entry → List Entry → Type 0
TicksOrLeft q later start = HasEntry (Tick q) later ⊎ (1 ≤ target (history_of q (later ++ start)))

-- Nobody has stopped. A request waits at each correct replica, and then time goes by there, unless it leaves the first
-- view anyway. If all that was ever sent is delivered, each correct replica is active in the second view.
abbrev pub SilentViewsAreLeft : Type 0
SilentViewsAreLeft =
    (c : Configuration) → IsConfiguration c → (later start : List Entry) → IsRun c (later ++ start)
    → OnlyTheseStopped c [] (later ++ start) → Unforged c (later ++ start) → NoCollision c (later ++ start)
    → SecondIsNext c (later ++ start) → AllDelivered c (later ++ start)
    → ((q : ℕ) → is_correct_replica c q ≡ true → SomeWaits c q (history_of q start) × TicksOrLeft q later start)
    → (q : ℕ) → is_correct_replica c q ≡ true → is_active_in c (history_of q (later ++ start)) 1 ≡ true

-- ---- silent faulty replicas

-- The frame is of no faulty replica: this replica receives none as its sender, and none has signed it.
pub record IsOfNoFaulty (c : Configuration) (me : ℕ) (bytes : List ℕ) : Type 0 where
  pub receives : (body : Body) → authentic (members c me) me bytes ≡ Some body → is_faulty_replica c body.sender ≡ false
  pub signed : (body : Body) → signed_body (signers c) bytes ≡ Some body → is_faulty_replica c body.sender ≡ false

-- The faulty replicas are silent: no frame that a correct replica receives, alone or carried, is of one of them.
abbrev pub AreFaultySilent : Configuration → List Entry → Type 0
AreFaultySilent c trace =
    (q : ℕ) (bytes : List ℕ) → is_correct_replica c q ≡ true → HasEntry (Got q bytes) trace
    → Each (IsOfNoFaulty c q) (frames_in bytes)

-- If the first view's primary is one of them, the first view is silent.
abbrev pub FaultyPrimariesAreSilent : Type 0
FaultyPrimariesAreSilent =
    (c : Configuration) (trace : List Entry) → IsRun c trace → AreFaultySilent c trace
    → is_faulty_replica c (primary c 0) ≡ true → IsFirstViewSilent c trace
