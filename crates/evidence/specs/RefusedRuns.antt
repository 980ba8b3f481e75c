-- Small histories and traces that the definitions of clients, runs, schedules and certificates refuse.
use Rattle.std.specs.Prelude.{◌≡◌, ◌≢◌, ℕ, ◌+◌, ◌*◌, ◌^◌, ◌≤◌, ◌<◌, Bool, true, false, List, [], ◌∷◌, ◌++◌, length, map, filter, slice_get, ◌==◌, Some, None}
use Rattle.sha2.specs.Sha256.{sha256}
use Rattle.tuple_codec.specs.Operations.{Operation, Outcome}
use Rattle.quorum.specs.Quorum.{count_below}
use Rattle.protocol.specs.System.Configuration.{Configuration, replicas, is_correct, members}
use Rattle.terms.specs.declared.order.Mode.{Mode}
use Rattle.terms.specs.declared.order.Mode.TheVariants as modes
use Rattle.wire_format.specs.Messages.{FrameData as Frame, MacData, macs, ViewChangeData, NewViewData, BatchEntryData as BatchEntry, request as Request, view_change as ViewChange, new_view as NewView, reply as Reply}
use Rattle.signing.specs.AuthenticBody.{authentic}
use Rattle.wire_format.specs.Words.{frame_of, said}
use Rattle.protocol.specs.System.Trace.{Entry, party_of, is_output, Once, Has, AreOutputs}
use Rattle.protocol.specs.System.Trace.Entry.{Invoke, Got, Tick, Installed, Sent, Accepted}
use Rattle.protocol.specs.Replica.Certificates.{low, is_in_marks, is_active_in, logged}
use Rattle.protocol.specs.Replica.State.{root_of}
use Rattle.protocol.specs.Replica.RightReplica.{SafeReplica, SentBefore}
use Rattle.protocol.specs.Client.RightClient.{OpenCall, open_call, latest, count_alike, IsClient}
use Rattle.protocol.specs.System.Run.{IsRun}
use Rattle.protocol.specs.System.Schedule.{Step, calls, ticks, flush, Made, meant_for, Feeds}

-- ---- a client

-- The past, an input, the outputs of its event, the newest first, and a frame at a later tick, so that the client has
-- not stopped there.
abbrev pub going_on : ℕ → List ℕ → List Entry → Entry → List Entry → List Entry
going_on me later outputs input past = Sent me later ∷ Tick me ∷ outputs ++ input ∷ past

-- one output, the open call's ordered request
abbrev pub IsOrderedRequest : ℕ → OpenCall → List Entry → Type 0
IsOrderedRequest me call outputs =
    (bytes : List ℕ) × (outputs ≡ Sent me bytes ∷ [])
    × (said bytes ≡ Some (record { sender = me; message = Request call.timestamp modes.Ordered call.op }))

-- A reply that makes 2f + 1 replicas' latest ones alike, and no acceptance, or more than that.
abbrev pub AcceptsAlike : Type 0
AcceptsAlike =
    (c : Configuration) (me s number : ℕ) (call : OpenCall) (mode : Mode) (answer : Outcome) (bytes later : List ℕ)
    (from : ℕ → Bool) (outputs past : List Entry)
    → open_call past ≡ Some call
    → authentic (members c me) me bytes
    ≡ Some (record { sender = s; message = Reply me call.timestamp mode number answer })
    → 2 * c.faults + 1 ≤ count_below from (replicas c)
    → ((r : ℕ) → from r ≡ true
    → latest c me (Got me bytes ∷ past) call.timestamp mode r
    ≡ Some (record { mode = mode; number = number; answer = answer }))
    → AreOutputs outputs → IsClient c me (going_on me later outputs (Got me bytes) past)
    → (k : ℕ) × (outputs ≡ Accepted k call.timestamp answer ∷ [])

-- an ordered request of this timestamp is sent
abbrev pub AsksOrdered : ℕ → List Entry → Entry → Type 0
AsksOrdered timestamp past (Sent p bytes) =
    (sender : ℕ) × (op : Operation)
    × (said bytes ≡ Some (record { sender = sender; message = Request timestamp modes.Ordered op }))
AsksOrdered timestamp past _ = ⊥

-- A read that the last replica answers, without 2f + 1 answers like its own, and no ordered request, or more than that.
abbrev pub FallsBack : Type 0
FallsBack =
    (c : Configuration) (me s number : ℕ) (call : OpenCall) (answer : Outcome) (bytes later : List ℕ)
    (outputs past : List Entry)
    → open_call past ≡ Some call
    → authentic (members c me) me bytes
    ≡ Some (record { sender = s; message = Reply me call.timestamp modes.ReadOnly number answer })
    → ((r : ℕ) → r < replicas c → latest c me (Got me bytes ∷ past) call.timestamp modes.ReadOnly r ≢ None)
    → count_alike c me (Got me bytes ∷ past) call.timestamp
    (record { mode = modes.ReadOnly; number = number; answer = answer }) ≤ 2 * c.faults
    → (Once (AsksOrdered call.timestamp) past → ⊥)
    → AreOutputs outputs → IsClient c me (going_on me later outputs (Got me bytes) past)
    → IsOrderedRequest me call outputs

-- A tick with an open call, and not its ordered request, or more than that.
abbrev pub AsksAtTicks : Type 0
AsksAtTicks =
    (c : Configuration) (me : ℕ) (call : OpenCall) (later : List ℕ) (outputs past : List Entry)
    → open_call past ≡ Some call → AreOutputs outputs → IsClient c me (going_on me later outputs (Tick me) past)
    → IsOrderedRequest me call outputs

-- A request that is not sealed for each replica.
abbrev pub AsksAll : Type 0
AsksAll =
    (c : Configuration) (me s : ℕ) (bytes : List ℕ) (frame : Frame) (entries : List MacData) (past : List Entry)
    → frame_of bytes ≡ Some frame → frame.authenticator ≡ macs entries → s < replicas c
    → IsClient c me (Sent me bytes ∷ past)
    → Has (λ r. r ≡ s) (map (λ x. x.receiver) entries)

-- ---- a run

-- An output directly after another party's entry.
abbrev pub OutputsFollow : Type 0
OutputsFollow =
    (c : Configuration) (e other : Entry) (past later : List Entry)
    → is_output e ≡ true → party_of e ≢ party_of other → IsRun c (later ++ e ∷ other ∷ past) → ⊥

-- ---- a schedule

-- steps and entries that are calls of the client k, and those that are ticks of the party p
abbrev pub calls_for : ℕ → Step → Bool
calls_for k step = elim step [ calls client op ↦ client == k | _ ↦ false ]

abbrev pub invokes_for : ℕ → Entry → Bool
invokes_for k e = elim e [ Invoke client timestamp op ↦ client == k | _ ↦ false ]

abbrev pub ticks_for : ℕ → Step → Bool
ticks_for p step = elim step [ ticks party ↦ party == p | _ ↦ false ]

abbrev pub is_tick_of : ℕ → Entry → Bool
is_tick_of p e = elim e [ Tick party ↦ party == p | _ ↦ false ]

-- A trace with more or fewer calls of a client than the steps have.
abbrev pub FeedsEachCall : Type 0
FeedsEachCall =
    (c : Configuration) (steps : List Step) (k : ℕ) (trace : List Entry)
    → Feeds c steps trace → length (filter (invokes_for k) trace) ≡ length (filter (calls_for k) steps)

-- The same of a party's ticks.
abbrev pub FeedsEachTick : Type 0
FeedsEachTick =
    (c : Configuration) (steps : List Step) (p : ℕ) (trace : List Entry)
    → Feeds c steps trace → length (filter (is_tick_of p) trace) ≡ length (filter (ticks_for p) steps)

-- the party gets the frame
abbrev pub PartyGetsFrame : ℕ → List ℕ → Entry → Type 0
PartyGetsFrame q bytes (Got p got) = (p ≡ q) × (got ≡ bytes)
PartyGetsFrame q bytes _ = ⊥

-- After a flush, a frame, whoever made it, that one of its correct receivers did not get.
abbrev pub FlushDeliversAll : Type 0
FlushDeliversAll =
    (c : Configuration) (steps : List Step) (i q : ℕ) (made : Made) (trace : List Entry)
    (feeds : Feeds c (steps ++ flush ∷ []) trace)
    → slice_get feeds.0.frames i ≡ Some made → Has (λ r. r ≡ q) made.receivers → is_correct c q ≡ true
    → Has (PartyGetsFrame q made.bytes) trace

-- A frame that was sent, and that one of its correct receivers did not get.
abbrev pub FlushDeliversSent : Type 0
FlushDeliversSent =
    (c : Configuration) (steps : List Step) (sender q : ℕ) (bytes : List ℕ) (frame : Frame) (trace : List Entry)
    → Feeds c (steps ++ flush ∷ []) trace → Has (λ e. e ≡ Sent sender bytes) trace
    → frame_of bytes ≡ Some frame → Has (λ r. r ≡ q) (meant_for c sender frame.authenticator) → is_correct c q ≡ true
    → Has (PartyGetsFrame q bytes) trace

-- ---- a replica

-- A number at or above 2^48 that is logged.
abbrev pub LogsNumbers : Type 0
LogsNumbers =
    (c : Configuration) (me v i : ℕ) (batch : List ℕ) (past : List Entry)
    → SafeReplica c me past → logged c me past v i ≡ Some batch → i < 2 ^ 48

-- A new view that its sender sends again while it is not active in it.
abbrev pub NoBeginWhileInactive : Type 0
NoBeginWhileInactive =
    (c : Configuration) (me : ℕ) (bytes : List ℕ) (new : NewViewData) (past : List Entry)
    → said bytes ≡ Some (record { sender = me; message = NewView new }) → SentBefore bytes past
    → SafeReplica c me (Sent me bytes ∷ past)
    → is_active_in c past new.view ≡ true

-- A new view change that leaves out a pre-prepared batch within the marks.
abbrev pub KeepsProposed : Type 0
KeepsProposed =
    (c : Configuration) (me v i : ℕ) (batch bytes : List ℕ) (vc : ViewChangeData) (past : List Entry)
    → said bytes ≡ Some (record { sender = me; message = ViewChange vc }) → (SentBefore bytes past → ⊥)
    → SafeReplica c me (Sent me bytes ∷ past)
    → logged c me past v i ≡ Some batch → is_in_marks c (low c me past) i ≡ true
    → Has (λ (batch_entry : BatchEntry). (batch_entry.number ≡ i) × (batch_entry.digest ≡ sha256 batch)
    × (v ≤ batch_entry.view)) vc.pre_prepared

-- A request by a replica.
abbrev pub NoRequestByReplica : Type 0
NoRequestByReplica =
    (c : Configuration) (me timestamp : ℕ) (mode : Mode) (op : Operation) (bytes : List ℕ) (past : List Entry)
    → said bytes ≡ Some (record { sender = me; message = Request timestamp mode op })
    → SafeReplica c me (Sent me bytes ∷ past) → ⊥

-- An installation of a state of another number or root.
abbrev pub InstallsItsRoot : Type 0
InstallsItsRoot =
    (c : Configuration) (me k : ℕ) (root : List ℕ) (past : List Entry)
    (right : SafeReplica c me (Installed me k root ∷ past))
    → (right.0.state.number ≡ k) × (root_of right.0.state ≡ root)
