-- The lives of a client: a later one may begin at any moment, and nothing of an earlier one's is taken for its own.
use Rattle.std.specs.Prelude.{◌≡◌, ℕ, ◌<◌, true, false, List, ◌∷◌, ◌++◌, ⊤}
use Rattle.terms.specs.Parties.{client_party}
use Rattle.tuple_codec.specs.Operations.{Operation, Outcome, IsOperation}
use Rattle.protocol.specs.System.Configuration.{Configuration, IsConfiguration, is_correct, is_correct_client}
use Rattle.protocol.specs.System.Trace.{Entry, history_of, is_output, Once}
use Rattle.protocol.specs.System.Trace.Entry.{Invoke, Got, Tick, Sent, Accepted}
use Rattle.protocol.specs.System.Run.{IsRunOfLives}
use Rattle.protocol.specs.Space.Linear.{Invokes}
use Rattle.protocol.specs.Client.RightClient.{first_mode, last_call, IsRequest, IsLife, IsClient, IsClientOfLives}
use Rattle.evidence.specs.Stopping.{TakesInputs}

-- ---- what is accepted

-- a client with one life, whose timestamps are 1, 2, ..
abbrev pub OneLifeIsOfLives : Type 0
OneLifeIsOfLives = (c : Configuration) (me : ℕ) (history : List Entry) → IsClient c me history → IsClientOfLives c me history

-- The first call of a later life: whether a call is open or not, with any timestamp above all earlier ones,
abbrev pub LivesTakeCalls : Type 0
LivesTakeCalls =
    (c : Configuration) (me k timestamp : ℕ) (op : Operation) (past : List Entry)
    → IsClientOfLives c me past → me ≡ client_party k → last_call past < timestamp → IsOperation op
    → IsClientOfLives c me (Invoke k timestamp op ∷ past)

-- and the request of that call.
abbrev pub LivesAsk : Type 0
LivesAsk =
    (c : Configuration) (me k timestamp : ℕ) (op : Operation) (bytes : List ℕ) (past : List Entry)
    → IsClientOfLives c me past → me ≡ client_party k → last_call past < timestamp → IsOperation op
    → IsRequest c me (first_mode op) (record { timestamp = timestamp; op = op }) bytes
    → IsClientOfLives c me (Sent me bytes ∷ Invoke k timestamp op ∷ past)

-- Frames and ticks at any time, at which a life that made no call gives nothing.
abbrev pub LivesTakeInputs : Type 0
LivesTakeInputs =
    (c : Configuration) (me : ℕ) (past : List Entry)
    → IsClientOfLives c me past → TakesInputs me (IsClientOfLives c me) past

-- The trace is a run still if a correct client is started again and calls, whatever it left open,
abbrev pub RunsTakeLives : Type 0
RunsTakeLives =
    (c : Configuration) → IsConfiguration c → (trace : List Entry) → IsRunOfLives c trace
    → (k timestamp : ℕ) (op : Operation) → is_correct_client c (client_party k) ≡ true → IsOperation op
    → last_call (history_of (client_party k) trace) < timestamp
    → IsRunOfLives c (Invoke k timestamp op ∷ trace)

-- and whatever a correct party gets, and whenever it is ticked.
abbrev pub RunsOfLivesGoOn : Type 0
RunsOfLivesGoOn =
    (c : Configuration) (trace : List Entry) → IsRunOfLives c trace → (p : ℕ) → is_correct c p ≡ true
    → IsRunOfLives c (Tick p ∷ trace) × ((bytes : List ℕ) → IsRunOfLives c (Got p bytes ∷ trace))

-- ---- what is refused

-- A call, the first of a life or another, with a timestamp that is not above all earlier ones.
abbrev pub LivesAscend : Type 0
LivesAscend =
    (c : Configuration) (me k timestamp : ℕ) (op : Operation) (later past : List Entry)
    → IsClientOfLives c me (later ++ Invoke k timestamp op ∷ past) → last_call past < timestamp

-- So one timestamp for two operations, over all lives.
abbrev pub TimestampsNameCalls : Type 0
TimestampsNameCalls =
    (c : Configuration) (me timestamp : ℕ) (op other : Operation) (history : List Entry)
    → IsClientOfLives c me history → Once (Invokes me timestamp op) history
    → Once (Invokes me timestamp other) history → op ≡ other

-- The answer to a call that an earlier life left open, once a later life called.
abbrev pub LivesAcceptTheLast : Type 0
LivesAcceptTheLast =
    (c : Configuration) (me k timestamp : ℕ) (answer : Outcome) (later past : List Entry)
    → IsClientOfLives c me (later ++ Accepted k timestamp answer ∷ past) → timestamp ≡ last_call past

-- The same at any time of a later life: what it accepts has a timestamp of its own.
abbrev pub LifeAcceptsItsOwn : Type 0
LifeAcceptsItsOwn =
    (c : Configuration) (me start k timestamp : ℕ) (answer : Outcome) (later past : List Entry)
    → IsLife c me start (later ++ Accepted k timestamp answer ∷ past) → start < timestamp

-- the client calls in this entry
abbrev pub Calls : List Entry → Entry → Type 0
Calls past (Invoke client timestamp op) = ⊤
Calls past _ = ⊥

-- An output of a life that made no call: it sends no request of an earlier life again.
abbrev pub LifeBeginsSilent : Type 0
LifeBeginsSilent =
    (c : Configuration) (me start : ℕ) (e : Entry) (past : List Entry)
    → IsLife c me start (e ∷ past) → (Once Calls past → ⊥) → is_output e ≡ false
