-- After an event of one party each party fits its history.
use Rattle.std.proofs.Common.{◌≡◌, ◌≢◌, ℕ, suc, ◌+◌, ◌<◌, ◌≤◌, Bool, true, false, not, ◌==◌, List, [], ◌∷◌, length, get_or, set, Option, Some, None, refl, sym, ap, ◌∙◌, subst, arith, eqb-true}
use Rattle.std.specs.Prelude.{map, is_some}
use Rattle.std.proofs.lemmas.List.{get_or-set_same, get_or-set_other}
use Rattle.std.proofs.lemmas.Bool.{and_parts, ltb-true, eq-eqb, both_ways}
use Rattle.tuple_codec.specs.Operations.{Operation}
use Rattle.protocol.specs.System.Configuration.{Configuration, IsConfiguration, replicas, is_replica, is_faulty_replica, is_correct_replica, is_correct_client}
use Rattle.protocol.specs.System.Trace.{Entry, party_of, is_output, history_of}
use Rattle.protocol.specs.System.Trace.Entry.{Invoke}
use Rattle.protocol.specs.Client.RightClient.{last_call, open_call}
use Rattle.protocol.specs.Replica.Owed.{IsReplica}
use Rattle.protocol.specs.System.Run.{GaveNothingLast}
use Rattle.events.specs.declared.output.Output.{Output}
use Rattle.events.specs.declared.output.Output.TheVariants as outputs
use Rattle.events.specs.Outputs.{entry_of, after_entries, after_event, AreSentAsMeant}
use Rattle.replica.specs.State.{ReplicaData, has_stopped}
use Rattle.replica.specs.Fits as replica_fits
use Rattle.replica.specs.Inputs as replica_inputs
use Rattle.replica.specs.declared.replica.Event.{Event as ReplicaEvent}
use Rattle.replica.specs.declared.replica.Event.TheVariants as replica_events
use Rattle.client_cert.specs.Fits as client_fits
use Rattle.client_cert.specs.Steps as client_steps
use Rattle.client_cert.specs.declared.client.Event.{Event as ClientEvent}
use Rattle.client_cert.specs.declared.client.Event.TheVariants as client_events
use Rattle.schedule_world.specs.declared.stage.StageClient.{StageClient}
use Rattle.schedule_world.specs.Stages.{PartiesFitTrace, FitsReplica, FitsStageClient}
use Rattle.schedule_world.specs.Moving.{AreOf, MovesReplica, MovesClient, ClientCalls}
use Rattle.schedule_world.proofs.Projecting.{own_entry, other_entry, own_entries, other_entries}

pub apart_from : (p q : ℕ) → (q == p) ≡ false → q ≢ p
apart_from p q e same = both_ways (q == p) e (eq-eqb q p same)

-- ---- replicas

pub replica_below : (c : Configuration) (p : ℕ) → is_correct_replica c p ≡ true → p < replicas c
replica_below c p correct = ltb-true p (replicas c) (and_parts (is_replica c p) (not (is_faulty_replica c p)) correct).0

-- an input of a replica
abbrev pub IsInputAt : ℕ → Entry → Type 0
IsInputAt p e = (party_of e ≡ p) × (is_output e ≡ false)

pub replica_input : (p : ℕ) (event : ReplicaEvent) → IsInputAt p (replica_inputs.input_of p event)
replica_input p (replica_events.Got bytes) = (refl, refl)
replica_input p replica_events.Timeout = (refl, refl)

-- each replica has its number
abbrev pub AreNumbered : Configuration → List ReplicaData → Type 0
AreNumbered c rs = (length rs ≡ replicas c) × ((p : ℕ) (d : ReplicaData) → p < length rs → replica_fits.me_of (get_or rs p d) ≡ p)

pub are_replicas : (c : Configuration) (trace : List Entry) (rs : List ReplicaData) (stage_clients : List StageClient) (d : ReplicaData) → AreNumbered c rs → PartiesFitTrace c trace rs stage_clients
    → (q : ℕ) → is_correct_replica c q ≡ true → IsReplica c q (history_of q trace)
are_replicas c trace rs stage_clients d numbered attend q correct =
    let below = replica_below c q correct in
    subst (λ n. IsReplica c n (history_of q trace)) (numbered.1 q d (omega (arith, numbered.0, below))) (attend.replicas q d correct).0.0.right

pub attend_replica : (c : Configuration) (trace : List Entry) (rs new : List ReplicaData) (stage_clients : List StageClient) (p : ℕ) (event : ReplicaEvent) (outs : List Output)
    → IsConfiguration c → AreNumbered c rs → PartiesFitTrace c trace rs stage_clients → is_correct_replica c p ≡ true → MovesReplica rs p event outs new → AreOf p (map (entry_of p) outs)
    → PartiesFitTrace c (after_entries (map (entry_of p) outs) (replica_inputs.input_of p event ∷ trace)) new stage_clients
attend_replica c trace rs new stage_clients p event outs valid numbered attend correct m of =
    record {
      replicas = λ q e h. fits q e h (q == p) refl;
      clients = λ k d h. subst (FitsStageClient c (get_or stage_clients k d)) (sym (others (256 + k) (λ e. omega (arith, e, below, most)))) (attend.clients k d h);
    }
  where
    input : Entry
    input = replica_inputs.input_of p event

    is : IsInputAt p input
    is = replica_input p event

    entries : List Entry
    entries = map (entry_of p) outs

    after : List Entry
    after = after_entries entries (input ∷ trace)

    below : p < replicas c
    below = replica_below c p correct

    most : c.faults ≤ 3
    most = valid.most

    within : p < length rs
    within = omega (arith, numbered.0, below)

    number : replica_fits.me_of m.before ≡ p
    number = ap replica_fits.me_of (sym (m.was m.before)) ∙ numbered.1 p m.before within

    mine : history_of p after ≡ after_entries entries (input ∷ history_of p trace)
    mine = own_entries p entries (input ∷ trace) of ∙ ap (after_entries entries) (own_entry p input trace is.0)

    others : (q : ℕ) → p ≢ q → history_of q after ≡ history_of q trace
    others q apart = other_entries p q entries (input ∷ trace) apart of ∙ other_entry q input trace (λ e. apart (sym is.0 ∙ e))

    silent : has_stopped m.after ≡ true → GaveNothingLast (after_entries entries (input ∷ history_of p trace))
    silent stopped = subst (λ (xs : List Output). GaveNothingLast (after_entries (map (entry_of p) xs) (input ∷ history_of p trace))) (sym (m.silent stopped)) is.1

    fits : (q : ℕ) (e : ReplicaData) → is_correct_replica c q ≡ true → (b : Bool) → (q == p) ≡ b → FitsReplica c (get_or new q e) (history_of q after)
    fits q e h true same =
        let fit : replica_fits.Fits c m.before (history_of p trace) = subst (λ r. replica_fits.Fits c r (history_of p trace)) (m.was m.before) (attend.replicas p m.before correct).0 in
        let leads : replica_fits.HistoryStaysRight m.before input outs m.after = subst (λ n. replica_fits.HistoryStaysRight m.before (replica_inputs.input_of n event) outs m.after) number m.leads in
        let led : replica_fits.Fits c m.after (after_entries entries (input ∷ history_of p trace)) =
        subst (λ n. replica_fits.Fits c m.after (after_event n input outs (history_of p trace))) number (leads c (history_of p trace) fit) in
        let got : get_or new p e ≡ m.after = ap (λ xs. get_or xs p e) m.becomes ∙ get_or-set_same rs p m.after e within in
        let there : FitsReplica c (get_or new p e) (history_of p after) = rw (got, mine) (led, silent) in
        subst (λ n. FitsReplica c (get_or new n e) (history_of n after)) (sym (eqb-true q p same)) there
    fits q e h false same =
        let apart : q ≢ p = apart_from p q same in
        let kept : get_or new q e ≡ get_or rs q e = ap (λ xs. get_or xs q e) m.becomes ∙ get_or-set_other rs p q m.after e apart in
        rw (kept, others q (λ z. apart (sym z))) (attend.replicas q e h)

-- ---- clients

pub last_behind : (me : ℕ) (outs : List Output) (history : List Entry) → last_call (after_entries (map (entry_of me) outs) history) ≡ last_call history
last_behind me [] history = refl
last_behind me (outputs.Executed n b ∷ outs) history = last_behind me outs (entry_of me (outputs.Executed n b) ∷ history)
last_behind me (outputs.Installed n b ∷ outs) history = last_behind me outs (entry_of me (outputs.Installed n b) ∷ history)
last_behind me (outputs.Send t b ∷ outs) history = last_behind me outs (entry_of me (outputs.Send t b) ∷ history)
last_behind me (outputs.Accepted t a ∷ outs) history = last_behind me outs (entry_of me (outputs.Accepted t a) ∷ history)

-- an input of a client that is no call
abbrev pub IsBesideCalls : ℕ → Entry → Type 0
IsBesideCalls p e = (party_of e ≡ p) × (is_output e ≡ false) × ((h : List Entry) → last_call (e ∷ h) ≡ last_call h)

pub client_input : (p : ℕ) (event : ClientEvent) → IsBesideCalls p (client_steps.input_of p event)
client_input p (client_events.Got bytes) = (refl, refl, λ h. refl)
client_input p client_events.Retry = (refl, refl, λ h. refl)

-- if one client's state fits the longer history, all attend
attend_stage_client : (c : Configuration) (trace : List Entry) (rs : List ReplicaData) (stage_clients new : List StageClient) (k : ℕ) (input : Entry) (entries : List Entry) (after : StageClient)
    → IsConfiguration c → PartiesFitTrace c trace rs stage_clients → k < length stage_clients → new ≡ set stage_clients k after → party_of input ≡ 256 + k → AreOf (256 + k) entries
    → FitsStageClient c after (after_entries entries (input ∷ history_of (256 + k) trace)) → PartiesFitTrace c (after_entries entries (input ∷ trace)) rs new
attend_stage_client c trace rs stage_clients new k input entries after valid attend within becomes at of fit =
    record {
      replicas = λ q e h.
          let below = replica_below c q h in
          let most = valid.most in
          subst (FitsReplica c (get_or rs q e)) (sym (others q (λ z. omega (arith, z, below, most)))) (attend.replicas q e h);
      clients = λ j d h. fits j d h (j == k) refl;
    }
  where
    mine : history_of (256 + k) (after_entries entries (input ∷ trace)) ≡ after_entries entries (input ∷ history_of (256 + k) trace)
    mine = own_entries (256 + k) entries (input ∷ trace) of ∙ ap (after_entries entries) (own_entry (256 + k) input trace at)

    others : (q : ℕ) → (256 + k) ≢ q → history_of q (after_entries entries (input ∷ trace)) ≡ history_of q trace
    others q apart = other_entries (256 + k) q entries (input ∷ trace) apart of ∙ other_entry q input trace (λ e. apart (sym at ∙ e))

    fits : (j : ℕ) (d : StageClient) → is_correct_client c (256 + j) ≡ true → (b : Bool) → (j == k) ≡ b → FitsStageClient c (get_or new j d) (history_of (256 + j) (after_entries entries (input ∷ trace)))
    fits j d h true same =
        let got : get_or new k d ≡ after = ap (λ xs. get_or xs k d) becomes ∙ get_or-set_same stage_clients k after d within in
        let there : FitsStageClient c (get_or new k d) (history_of (256 + k) (after_entries entries (input ∷ trace))) = rw (got, mine) fit in
        subst (λ n. FitsStageClient c (get_or new n d) (history_of (256 + n) (after_entries entries (input ∷ trace)))) (sym (eqb-true j k same)) there
    fits j d h false same =
        let apart : j ≢ k = apart_from k j same in
        let kept : get_or new j d ≡ get_or stage_clients j d = ap (λ xs. get_or xs j d) becomes ∙ get_or-set_other stage_clients k j after d apart in
        rw (kept, others (256 + j) (λ z. apart (omega (arith, z)))) (attend.clients j d h)

pub attend_client : (c : Configuration) (trace : List Entry) (rs : List ReplicaData) (stage_clients new : List StageClient) (k : ℕ) (event : ClientEvent) (outs : List Output)
    → IsConfiguration c → PartiesFitTrace c trace rs stage_clients → k < length stage_clients → ((d : StageClient) → (get_or stage_clients k d).client.number ≡ k) → is_correct_client c (256 + k) ≡ true
    → MovesClient stage_clients k event outs new → AreOf (256 + k) (map (entry_of (256 + k)) outs)
    → PartiesFitTrace c (after_entries (map (entry_of (256 + k)) outs) (client_steps.input_of (256 + k) event ∷ trace)) rs new
attend_client c trace rs stage_clients new k event outs valid attend within numbers correct m of =
    attend_stage_client c trace rs stage_clients new k (client_steps.input_of (256 + k) event) (map (entry_of (256 + k)) outs) m.after valid attend within m.becomes is.0 of
    (led, last_behind (256 + k) outs (client_steps.input_of (256 + k) event ∷ history) ∙ is.2 history ∙ fit.1 ∙ sym m.calls, silent)
  where
    is : IsBesideCalls (256 + k) (client_steps.input_of (256 + k) event)
    is = client_input (256 + k) event

    history : List Entry
    history = history_of (256 + k) trace

    number : m.before.client.number ≡ k
    number = ap (λ (s : StageClient). s.client.number) (sym (m.was m.before)) ∙ numbers m.before

    fit : FitsStageClient c m.before history
    fit = subst (λ (s : StageClient). FitsStageClient c s history) (m.was m.before) (attend.clients k m.before correct)

    silent : m.after.client.stopped ≡ true → GaveNothingLast (after_entries (map (entry_of (256 + k)) outs) (client_steps.input_of (256 + k) event ∷ history))
    silent stopped =
        subst (λ (xs : List Output). GaveNothingLast (after_entries (map (entry_of (256 + k)) xs) (client_steps.input_of (256 + k) event ∷ history))) (sym (m.silent stopped)) is.1

    led : client_fits.Fits c m.after.client (after_entries (map (entry_of (256 + k)) outs) (client_steps.input_of (256 + k) event ∷ history))
    led = subst (λ n. client_fits.Fits c m.after.client (after_event (256 + n) (client_steps.input_of (256 + n) event) outs history)) number (m.leads c 0 history fit.0)

closed : {A : Type 0} (o : Option A) → o ≡ None → is_some o ≡ false
closed None e = refl
closed (Some x) e = absurd cc

pub attend_call : (c : Configuration) (trace : List Entry) (rs : List ReplicaData) (stage_clients new : List StageClient) (k : ℕ) (op : Operation) (timestamp : ℕ) (outs : List Output)
    → IsConfiguration c → PartiesFitTrace c trace rs stage_clients → k < length stage_clients → ((d : StageClient) → (get_or stage_clients k d).client.number ≡ k) → is_correct_client c (256 + k) ≡ true
    → open_call (history_of (256 + k) trace) ≡ None → ClientCalls stage_clients k op timestamp outs new → AreOf (256 + k) (map (entry_of (256 + k)) outs)
    → PartiesFitTrace c (after_entries (map (entry_of (256 + k)) outs) (Invoke k timestamp op ∷ trace)) rs new
attend_call c trace rs stage_clients new k op timestamp outs valid attend within numbers correct none m of =
    attend_stage_client c trace rs stage_clients new k (Invoke k timestamp op) (map (entry_of (256 + k)) outs) m.after valid attend within m.becomes refl of
    (led, last_behind (256 + k) outs (Invoke k timestamp op ∷ history) ∙ sym m.calls, silent)
  where
    history : List Entry
    history = history_of (256 + k) trace

    number : m.before.client.number ≡ k
    number = ap (λ (s : StageClient). s.client.number) (sym (m.was m.before)) ∙ numbers m.before

    fit : FitsStageClient c m.before history
    fit = subst (λ (s : StageClient). FitsStageClient c s history) (m.was m.before) (attend.clients k m.before correct)

    is_closed : is_some m.before.client.call ≡ false
    is_closed = sym fit.0.open_is ∙ closed (open_call history) none

    next : suc m.before.client.calls ≡ timestamp
    next = ap suc (sym fit.0.last_is ∙ fit.1) ∙ sym m.timestamp_is

    silent : m.after.client.stopped ≡ true → GaveNothingLast (after_entries (map (entry_of (256 + k)) outs) (Invoke k timestamp op ∷ history))
    silent stopped =
        subst (λ (xs : List Output). GaveNothingLast (after_entries (map (entry_of (256 + k)) xs) (Invoke k timestamp op ∷ history))) (sym (m.silent is_closed stopped)) refl

    led : client_fits.Fits c m.after.client (after_entries (map (entry_of (256 + k)) outs) (Invoke k timestamp op ∷ history))
    led = subst (λ n. client_fits.Fits c m.after.client (after_event (256 + n) (Invoke n timestamp op) outs history)) number
        (subst (λ t. client_fits.Fits c m.after.client (after_event (256 + m.before.client.number) (Invoke m.before.client.number t op) outs history)) next (m.leads is_closed c 0 history fit.0))

-- ---- to whom outputs go

pub replica_meant : (c : Configuration) (trace : List Entry) (rs new : List ReplicaData) (stage_clients : List StageClient) (p : ℕ) (event : ReplicaEvent) (outs : List Output)
    → AreNumbered c rs → PartiesFitTrace c trace rs stage_clients → is_correct_replica c p ≡ true → MovesReplica rs p event outs new → AreSentAsMeant c p outs
replica_meant c trace rs new stage_clients p event outs numbered attend correct m =
    let below = replica_below c p correct in
    let within : p < length rs = omega (arith, numbered.0, below) in
    let number : replica_fits.me_of m.before ≡ p = ap replica_fits.me_of (sym (m.was m.before)) ∙ numbered.1 p m.before within in
    let fit : replica_fits.Fits c m.before (history_of p trace) = subst (λ r. replica_fits.Fits c r (history_of p trace)) (m.was m.before) (attend.replicas p m.before correct).0 in
    subst (λ n. AreSentAsMeant c n outs) number (m.meant c (history_of p trace) fit)

pub client_meant : (c : Configuration) (trace : List Entry) (rs : List ReplicaData) (stage_clients : List StageClient) (k : ℕ) (before : StageClient) (outs : List Output)
    → PartiesFitTrace c trace rs stage_clients → ((d : StageClient) → (get_or stage_clients k d).client.number ≡ k) → is_correct_client c (256 + k) ≡ true
    → ((d : StageClient) → get_or stage_clients k d ≡ before) → client_steps.SendsAsMeant before.client outs → AreSentAsMeant c (256 + k) outs
client_meant c trace rs stage_clients k before outs attend numbers correct was meant =
    let number : before.client.number ≡ k = ap (λ (s : StageClient). s.client.number) (sym (was before)) ∙ numbers before in
    let fit : FitsStageClient c before (history_of (256 + k) trace) = subst (λ (s : StageClient). FitsStageClient c s (history_of (256 + k) trace)) (was before) (attend.clients k before correct) in
    subst (λ n. AreSentAsMeant c (256 + n) outs) number (meant c fit.0.members_are)
