-- Events of several parties, one after another, as one trace. An event is the list of its entries, the oldest first, and
-- events stand in their order too. A trace has its newest entry first.
use Rattle.std.specs.Prelude.{◌≡◌, ℕ, Bool, true, false, List, [], ◌∷◌, filter, ◌==◌}
use Rattle.wire_format.specs.Lists.{Each}
use Rattle.protocol.specs.System.Configuration.{Configuration, IsConfiguration, is_correct, is_correct_replica, is_correct_client}
use Rattle.protocol.specs.System.Trace.{Entry, party_of, is_output, history_of, Unforged}
use Rattle.protocol.specs.System.Texts.{NoCollision}
use Rattle.protocol.specs.System.Run.{IsRun, IsRunOfLives}
use Rattle.protocol.specs.Space.Linear.{points, IsLinear}
use Rattle.protocol.specs.Replica.Owed.{IsReplica}
use Rattle.protocol.specs.Client.RightClient.{IsClient, IsClientOfLives}
use Rattle.events.specs.Outputs.{after_entries}

-- ---- events

-- an output of the party
abbrev pub IsOutputOf : ℕ → Entry → Type 0
IsOutputOf p e = (party_of e ≡ p) × (is_output e ≡ true)

-- one event of the party: an input, and then its outputs
abbrev pub IsEventOf : ℕ → List Entry → Type 0
IsEventOf p [] = ⊥
IsEventOf p (e ∷ outputs) = (party_of e ≡ p) × (is_output e ≡ false) × Each (IsOutputOf p) outputs

-- one event of some correct party
abbrev pub IsCorrectEvent : Configuration → List Entry → Type 0
IsCorrectEvent c event = (p : ℕ) × (is_correct c p ≡ true) × IsEventOf p event

-- whether an event is the party's
abbrev pub is_event_of : ℕ → List Entry → Bool
is_event_of p [] = false
is_event_of p (e ∷ outputs) = party_of e == p

-- the events of one party, in their order
abbrev pub events_of : ℕ → List (List Entry) → List (List Entry)
events_of p events = filter (is_event_of p) events

-- ---- traces

-- the trace of the events, behind a past
abbrev pub trace_after : List Entry → List (List Entry) → List Entry
trace_after past [] = past
trace_after past (event ∷ events) = trace_after (after_entries event past) events

abbrev pub trace_of : List (List Entry) → List Entry
trace_of events = trace_after [] events

-- The events of each correct party are a correct party's history, those of a client by the given rule.
pub record HistoriesAreRight (Client : Configuration → ℕ → List Entry → Type 0) (c : Configuration)
    (events : List (List Entry)) : Type 0 where
  pub replicas : (p : ℕ) → is_correct_replica c p ≡ true → IsReplica c p (trace_of (events_of p events))
  pub clients : (p : ℕ) → is_correct_client c p ≡ true → Client c p (trace_of (events_of p events))

-- ---- laws

-- The history of a party in the trace is that of its own events.
abbrev pub HistoriesAreKept : Type 0
HistoriesAreKept =
    (c : Configuration) (events : List (List Entry)) → Each (IsCorrectEvent c) events → (p : ℕ)
    → history_of p (trace_of events) ≡ trace_of (events_of p events)

-- Events of correct parties, in any order, are a run if the events of each are a correct party's history, and each
-- client's one life from the timestamp 1 on.
abbrev pub InterleavingsAreRuns : Type 0
InterleavingsAreRuns =
    (c : Configuration) (events : List (List Entry)) → Each (IsCorrectEvent c) events
    → HistoriesAreRight IsClient c events
    → IsRun c (trace_of events)

-- They are a run in which clients may be started again if the events of each client are those of its lives.
abbrev pub InterleavedLivesAreRuns : Type 0
InterleavedLivesAreRuns =
    (c : Configuration) (events : List (List Entry)) → Each (IsCorrectEvent c) events
    → HistoriesAreRight IsClientOfLives c events
    → IsRunOfLives c (trace_of events)

-- So the points of these events linearize them, under the premises of runs.
abbrev pub InterleavingsAreLinear : Type 0
InterleavingsAreLinear =
    (c : Configuration) → IsConfiguration c → (events : List (List Entry)) → Each (IsCorrectEvent c) events
    → HistoriesAreRight IsClientOfLives c events → Unforged c (trace_of events) → NoCollision c (trace_of events)
    → IsLinear c (points c (trace_of events)) (trace_of events)
