-- Which replies count at a client, and when a client that goes on gives nothing.
use Rattle.std.specs.Prelude.{◌≡◌, ◌≢◌, ℕ, ◌*◌, ◌≤◌, ◌<◌, ◌⊎◌, List, [], ◌∷◌, Some, None}
use Rattle.tuple_codec.specs.Operations.{Operation, Outcome}
use Rattle.protocol.specs.System.Configuration.{Configuration, replicas, members}
use Rattle.terms.specs.declared.order.Mode.{Mode}
use Rattle.terms.specs.declared.order.Mode.TheVariants as modes
use Rattle.wire_format.specs.Messages.{reply as Reply}
use Rattle.signing.specs.AuthenticBody.{authentic}
use Rattle.protocol.specs.System.Trace.{Entry, Once, AreOutputs, Receives}
use Rattle.protocol.specs.System.Trace.Entry.{Invoke, Got, Tick}
use Rattle.protocol.specs.Client.RightClient.{OpenCall, open_call, latest, count_alike, IsClient}
use Rattle.evidence.specs.RefusedRuns.{going_on, AsksOrdered}

-- ---- the replies that count

-- A reply that a client receives is its sender's latest of its mode, also after an earlier one.
abbrev pub ReceivedIsLatest : Type 0
ReceivedIsLatest =
    (c : Configuration) (me s timestamp number : ℕ) (mode : Mode) (answer : Outcome) (bytes : List ℕ)
    (past : List Entry)
    → authentic (members c me) me bytes ≡ Some (record { sender = s; message = Reply me timestamp mode number answer })
    → latest c me (Got me bytes ∷ past) timestamp mode s
    ≡ Some (record { mode = mode; number = number; answer = answer })

-- It stays so at an entry that is no call and brings no reply of that replica in that mode.
abbrev pub LatestStays : Type 0
LatestStays =
    (c : Configuration) (me s timestamp : ℕ) (mode : Mode) (e : Entry) (past : List Entry)
    → ((k t : ℕ) (op : Operation) → e ≢ Invoke k t op)
    → ((number : ℕ) (answer : Outcome)
    → Receives c me (record { sender = s; message = Reply me timestamp mode number answer }) past e → ⊥)
    → latest c me (e ∷ past) timestamp mode s ≡ latest c me past timestamp mode s

-- A call begins with none: a reply that the client received before it does not count.
abbrev pub CallsForget : Type 0
CallsForget =
    (c : Configuration) (me s k timestamp : ℕ) (mode : Mode) (op : Operation) (past : List Entry)
    → latest c me (Invoke k timestamp op ∷ past) timestamp mode s ≡ None

-- ---- events in which a client gives nothing

-- At a reply with fewer than 2f + 1 replicas' latest ones like it, while a replica has not answered read-only, there is
-- no output: a client falls back only once all have answered.
abbrev pub WaitsForAnswers : Type 0
WaitsForAnswers =
    (c : Configuration) (me s r number : ℕ) (call : OpenCall) (mode : Mode) (answer : Outcome) (bytes later : List ℕ)
    (outputs past : List Entry)
    → open_call past ≡ Some call
    → authentic (members c me) me bytes
    ≡ Some (record { sender = s; message = Reply me call.timestamp mode number answer })
    → count_alike c me (Got me bytes ∷ past) call.timestamp
    (record { mode = mode; number = number; answer = answer }) ≤ 2 * c.faults
    → r < replicas c → latest c me (Got me bytes ∷ past) call.timestamp modes.ReadOnly r ≡ None
    → AreOutputs outputs → IsClient c me (going_on me later outputs (Got me bytes) past) → outputs ≡ []

-- Nor is there at such a reply if the client sent the call's request ordered before: a client falls back once.
abbrev pub FallsBackOnce : Type 0
FallsBackOnce =
    (c : Configuration) (me s number : ℕ) (call : OpenCall) (mode : Mode) (answer : Outcome) (bytes later : List ℕ)
    (outputs past : List Entry)
    → open_call past ≡ Some call
    → authentic (members c me) me bytes
    ≡ Some (record { sender = s; message = Reply me call.timestamp mode number answer })
    → count_alike c me (Got me bytes ∷ past) call.timestamp
    (record { mode = mode; number = number; answer = answer }) ≤ 2 * c.faults
    → Once (AsksOrdered call.timestamp) past
    → AreOutputs outputs → IsClient c me (going_on me later outputs (Got me bytes) past) → outputs ≡ []

-- At a frame that is no reply to the open call a client gives no output,
abbrev pub IgnoresOthers : Type 0
IgnoresOthers =
    (c : Configuration) (me : ℕ) (call : OpenCall) (bytes later : List ℕ) (outputs past : List Entry)
    → open_call past ≡ Some call
    → ((s number : ℕ) (mode : Mode) (answer : Outcome)
    → authentic (members c me) me bytes
    ≢ Some (record { sender = s; message = Reply me call.timestamp mode number answer }))
    → AreOutputs outputs → IsClient c me (going_on me later outputs (Got me bytes) past) → outputs ≡ []

-- nor at a frame or a tick while no call is open.
abbrev pub RestsWithoutCall : Type 0
RestsWithoutCall =
    (c : Configuration) (me : ℕ) (input : Entry) (later : List ℕ) (outputs past : List Entry)
    → open_call past ≡ None → (input ≡ Tick me) ⊎ ((bytes : List ℕ) × (input ≡ Got me bytes))
    → AreOutputs outputs → IsClient c me (going_on me later outputs input past) → outputs ≡ []
