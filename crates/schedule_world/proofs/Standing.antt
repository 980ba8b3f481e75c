-- After an event the stage still stands at a world.
use Rattle.std.proofs.Common.{◌≡◌, ℕ, ◌+◌, ◌<◌, ◌≤◌, ◌-◌, ◌⊎◌, inl, inr, true, false, not, List, [], ◌∷◌, length, refl, sym, ap, ◌∙◌, subst, arith}
use Rattle.std.specs.Prelude.{map, filter, reverse, nat_le, nat_lt}
use Rattle.std.proofs.lemmas.Bool.{and_parts, or_cases, ltb-true, leb-true, or_right}
use Rattle.tuple_codec.specs.Operations.{Operation}
use Rattle.quorum.specs.Quorum.{member}
use Rattle.protocol.specs.System.Configuration.{Configuration, IsConfiguration, is_client, is_correct_replica, is_correct_client, is_correct}
use Rattle.protocol.specs.System.Trace.{Entry, party_of, is_output, Always, AreOutputs}
use Rattle.protocol.specs.System.Trace.Entry.{Invoke}
use Rattle.protocol.specs.System.Run.{OutputFollows}
use Rattle.protocol.specs.System.Schedule.{World, with_entry, with_frame}
use Rattle.events.specs.declared.output.Output.{Output}
use Rattle.events.specs.Outputs.{entry_of, after_entries}
use Rattle.replica.specs.State.{ReplicaData}
use Rattle.replica.specs.Inputs as replica_inputs
use Rattle.replica.specs.declared.replica.Event.{Event as ReplicaEvent}
use Rattle.client_cert.specs.Steps as client_steps
use Rattle.client_cert.specs.declared.client.Event.{Event as ClientEvent}
use Rattle.schedule_world.specs.declared.stage.StageClient.{StageClient}
use Rattle.schedule_world.specs.declared.stage.Stage.{Stage}
use Rattle.schedule_world.specs.Stages.{PartiesArePlaced, PartiesFitTrace, StageIsAt, with_entries, acceptance_of}
use Rattle.schedule_world.specs.Pooled.{added}
use Rattle.schedule_world.specs.Pooling.{IsPool}
use Rattle.schedule_world.specs.Moving.{StageAddsEntry, AddsAll, AddsAllIfMeant, AreOf, KeepsParties, KeepsRecords, MovesReplica, MovesClient, ClientCalls, StageIsBehind, InputComes, CallComes, FrameIsMade}
use Rattle.schedule_world.proofs.Projecting.{follow, input_follows, parties}
use Rattle.schedule_world.proofs.Showing.{shows_same}
use Rattle.schedule_world.proofs.Pools.{pool_with_frame}
use Rattle.schedule_world.proofs.Attending.{AreNumbered, replica_below, replica_input, client_input, attend_replica, attend_client, attend_call, replica_meant, client_meant}

-- ---- which parties are correct

pub client_of : (c : Configuration) (p : ℕ) → is_correct_client c p ≡ true → (k : ℕ) × (p ≡ 256 + k) × (is_correct_client c (256 + k) ≡ true)
client_of c p h =
    let w = and_parts (is_client c p) (not (member c.faulty_clients (p - 256))) h in
    let l : 256 ≤ p = leb-true 256 p (and_parts (nat_le 256 p) (nat_lt p (256 + c.clients)) w.0).0 in
    let same : p ≡ 256 + (p - 256) = omega arith in
    (p - 256, same, subst (λ q. is_correct_client c q ≡ true) same h)

pub replica_is_correct : (c : Configuration) (p : ℕ) → p < 256 → is_correct c p ≡ true → is_correct_replica c p ≡ true
replica_is_correct c p low h = go (or_cases (is_correct_replica c p) (is_correct_client c p) h)
  where
    go : (is_correct_replica c p ≡ true) ⊎ (is_correct_client c p ≡ true) → is_correct_replica c p ≡ true
    go (inl r) = r
    go (inr k) = let is = (client_of c p k).1 in absurd (omega (arith, is, low))

pub client_is_correct : (c : Configuration) (k : ℕ) → IsConfiguration c → is_correct c (256 + k) ≡ true → is_correct_client c (256 + k) ≡ true
client_is_correct c k valid h = go (or_cases (is_correct_replica c (256 + k)) (is_correct_client c (256 + k)) h)
  where
    go : (is_correct_replica c (256 + k) ≡ true) ⊎ (is_correct_client c (256 + k) ≡ true) → is_correct_client c (256 + k) ≡ true
    go (inl r) = let below = replica_below c (256 + k) r in let most = valid.most in absurd (omega (arith, below, most))
    go (inr j) = j

pub client_below : (c : Configuration) (k : ℕ) → is_correct_client c (256 + k) ≡ true → k < c.clients
client_below c k h =
    let w = and_parts (is_client c (256 + k)) (not (member c.faulty_clients (256 + k - 256))) h in
    let l : 256 + k < 256 + c.clients = ltb-true (256 + k) (256 + c.clients) (and_parts (nat_le 256 (256 + k)) (nat_lt (256 + k) (256 + c.clients)) w.0).1 in
    omega (arith, l)

-- ---- the world after entries

pub past_behind : (c : Configuration) (w : World) (entries : List Entry) → (with_entries c w entries).past ≡ after_entries entries w.past
past_behind c w [] = refl
past_behind c w (e ∷ entries) = past_behind c (with_entry c w e) entries

outputs_of : (p : ℕ) (entries : List Entry) → AreOf p entries → AreOutputs entries
outputs_of p [] of = tt
outputs_of p (e ∷ entries) of = (of.0.1, outputs_of p entries of.1)

-- ---- an event

pub behind_event : (c : Configuration) (w : World) (old mid late new : Stage) (p : ℕ) (input : Entry) (entries : List Entry)
    → StageIsAt c w old → is_correct c p ≡ true → party_of input ≡ p → is_output input ≡ false
    → KeepsRecords old mid → StageAddsEntry c input mid late → KeepsParties mid late → AddsAll c entries late new → AreOf p entries → KeepsParties late new
    → PartiesFitTrace c (after_entries entries (input ∷ w.past)) mid.replicas.items mid.stage_clients.items → StageIsBehind c (with_entry c w input) new
behind_event c w old mid late new p input entries st correct at in_first records adds first all of last attend = record {
  outputs = entries;
  are = outputs_of p entries of;
  stands = record {
    shows = all (with_entry c w input) (adds w (shows_same c w old mid records st.shows));
    attend = subst (λ (rs : List ReplicaData). PartiesFitTrace c v.past rs new.stage_clients.items) (sym replicas_are)
        (subst (λ (stage_clients : List StageClient). PartiesFitTrace c v.past mid.replicas.items stage_clients) (sym stage_clients_are)
        (subst (λ (xs : List Entry). PartiesFitTrace c xs mid.replicas.items mid.stage_clients.items) (sym past) attend));
    orderly = record {
      parties = subst (Always (λ past e. is_correct c (party_of e) ≡ true)) (sym past)
          (parties c p entries (input ∷ w.past) correct of (ap (is_correct c) at ∙ correct, st.orderly.parties));
      events = subst (Always OutputFollows) (sym past) (follow p entries input w.past at of (input_follows input w.past in_first st.orderly.events));
    };
  };
}
  where
    v : World
    v = with_entries c (with_entry c w input) entries

    past : v.past ≡ after_entries entries (input ∷ w.past)
    past = past_behind c (with_entry c w input) entries

    replicas_are : new.replicas.items ≡ mid.replicas.items
    replicas_are = ap (λ x. x.items) (last.replicas ∙ first.replicas)

    stage_clients_are : new.stage_clients.items ≡ mid.stage_clients.items
    stage_clients_are = ap (λ x. x.items) (last.stage_clients ∙ first.stage_clients)

numbered : (c : Configuration) (s : Stage) → PartiesArePlaced c s → AreNumbered c s.replicas.items
numbered c s placed = (placed.replicas, placed.numbers)

pub client_within : (c : Configuration) (s : Stage) (k : ℕ) → PartiesArePlaced c s → is_correct_client c (256 + k) ≡ true → k < length s.stage_clients.items
client_within c s k placed h = let below = client_below c k h in let count = placed.clients in omega (arith, below, count)

pub comes_replica : (c : Configuration) (old mid late new : Stage) (p : ℕ) (event : ReplicaEvent) (outs : List Output)
    → PartiesArePlaced c old → p < 256 → is_correct c p ≡ true → MovesReplica old.replicas.items p event outs mid.replicas.items → mid.stage_clients ≡ old.stage_clients → KeepsRecords old mid
    → StageAddsEntry c (replica_inputs.input_of p event) mid late → KeepsParties mid late
    → AddsAllIfMeant c p outs late new → AreOf p (map (entry_of p) outs) → KeepsParties late new → InputComes c (replica_inputs.input_of p event) old new
comes_replica c old mid late new p event outs placed low correct m stage_clients records adds first all of last w st =
    let is = replica_input p event in
    let meant = replica_meant c w.past old.replicas.items mid.replicas.items old.stage_clients.items p event outs (numbered c old placed) st.attend (replica_is_correct c p low correct) m in
    behind_event c w old mid late new p (replica_inputs.input_of p event) (map (entry_of p) outs) st correct is.0 is.1 records adds first (all meant) of last
    (subst (λ (xs : List StageClient). PartiesFitTrace c (after_entries (map (entry_of p) outs) (replica_inputs.input_of p event ∷ w.past)) mid.replicas.items xs) (ap (λ x. x.items) (sym stage_clients))
    (attend_replica c w.past old.replicas.items mid.replicas.items old.stage_clients.items p event outs placed.valid (numbered c old placed) st.attend (replica_is_correct c p low correct) m of))

pub comes_client : (c : Configuration) (old mid late new : Stage) (k : ℕ) (event : ClientEvent) (outs : List Output)
    → PartiesArePlaced c old → is_correct_client c (256 + k) ≡ true → MovesClient old.stage_clients.items k event outs mid.stage_clients.items → mid.replicas ≡ old.replicas → KeepsRecords old mid
    → StageAddsEntry c (client_steps.input_of (256 + k) event) mid late → KeepsParties mid late
    → AddsAllIfMeant c (256 + k) outs late new → AreOf (256 + k) (map (entry_of (256 + k)) outs) → KeepsParties late new → InputComes c (client_steps.input_of (256 + k) event) old new
comes_client c old mid late new k event outs placed correct m kept records adds first all of last w st =
    let is = client_input (256 + k) event in
    let within = client_within c old k placed correct in
    behind_event c w old mid late new (256 + k) (client_steps.input_of (256 + k) event) (map (entry_of (256 + k)) outs) st (or_right (is_correct_replica c (256 + k)) (is_correct_client c (256 + k)) correct) is.0 is.1 records adds first
    (all (client_meant c w.past old.replicas.items old.stage_clients.items k m.before outs st.attend (λ d. placed.client_numbers k d within) correct m.was m.meant)) of last
    (subst (λ (xs : List ReplicaData). PartiesFitTrace c (after_entries (map (entry_of (256 + k)) outs) (client_steps.input_of (256 + k) event ∷ w.past)) xs mid.stage_clients.items) (ap (λ x. x.items) (sym kept))
    (attend_client c w.past old.replicas.items old.stage_clients.items mid.stage_clients.items k event outs placed.valid st.attend within (λ d. placed.client_numbers k d within) correct m of))

pub comes_call : (c : Configuration) (old mid late new : Stage) (k : ℕ) (op : Operation) (timestamp : ℕ) (outs : List Output)
    → PartiesArePlaced c old → is_correct_client c (256 + k) ≡ true → ClientCalls old.stage_clients.items k op timestamp outs mid.stage_clients.items → mid.replicas ≡ old.replicas → KeepsRecords old mid
    → StageAddsEntry c (Invoke k timestamp op) mid late → KeepsParties mid late
    → AddsAllIfMeant c (256 + k) outs late new → AreOf (256 + k) (map (entry_of (256 + k)) outs) → KeepsParties late new → CallComes c k op old new
comes_call c old mid late new k op timestamp outs placed correct m kept records adds first all of last w st allowed =
    let within = client_within c old k placed correct in (
      timestamp,
      behind_event c w old mid late new (256 + k) (Invoke k timestamp op) (map (entry_of (256 + k)) outs) st (or_right (is_correct_replica c (256 + k)) (is_correct_client c (256 + k)) correct) refl refl records adds first
          (all (client_meant c w.past old.replicas.items old.stage_clients.items k m.before outs st.attend (λ d. placed.client_numbers k d within) correct m.was m.meant)) of last
          (subst (λ (xs : List ReplicaData). PartiesFitTrace c (after_entries (map (entry_of (256 + k)) outs) (Invoke k timestamp op ∷ w.past)) xs mid.stage_clients.items) (ap (λ x. x.items) (sym kept))
          (attend_call c w.past old.replicas.items old.stage_clients.items mid.stage_clients.items k op timestamp outs placed.valid st.attend within (λ d. placed.client_numbers k d within) correct allowed.1 m of)),
    )

-- the same of the single steps by which the program makes the event
pub from_replica : (c : Configuration) (old mid step late new : Stage) (p q : ℕ) (event : ReplicaEvent) (outs given : List Output) (input : Entry)
    → PartiesArePlaced c old → p ≡ q → q < 256 → is_correct c p ≡ true → MovesReplica old.replicas.items q event given step.replicas.items → step.stage_clients ≡ old.stage_clients → KeepsRecords old step
    → mid ≡ step → outs ≡ given → input ≡ replica_inputs.input_of q event
    → StageAddsEntry c input mid late → KeepsParties mid late → AddsAllIfMeant c p outs late new → AreOf p (map (entry_of p) outs) → KeepsParties late new → InputComes c input old new
from_replica c old mid step late new p q event outs given input placed same low correct moved stage_clients records mid_is outs_are input_is adds first all of last =
    let is : input ≡ replica_inputs.input_of p event = input_is ∙ ap (λ n. replica_inputs.input_of n event) (sym same) in
    let m : MovesReplica old.replicas.items p event outs mid.replicas.items =
    subst (λ n. MovesReplica old.replicas.items n event outs mid.replicas.items) (sym same)
    (subst (λ (xs : List Output). MovesReplica old.replicas.items q event xs mid.replicas.items) (sym outs_are)
    (subst (λ (s : Stage). MovesReplica old.replicas.items q event given s.replicas.items) (sym mid_is) moved)) in
    let kept : KeepsRecords old mid = subst (KeepsRecords old) (sym mid_is) records in
    let still : mid.stage_clients ≡ old.stage_clients = ap (λ (s : Stage). s.stage_clients) mid_is ∙ stage_clients in
    subst (λ e. InputComes c e old new) (sym is)
    (comes_replica c old mid late new p event outs placed (omega (arith, same, low)) correct m still kept (subst (λ e. StageAddsEntry c e mid late) is adds) first all of last)

pub from_client : (c : Configuration) (old mid step late new : Stage) (p k : ℕ) (event : ClientEvent) (outs given : List Output) (input : Entry)
    → PartiesArePlaced c old → p ≡ 256 + k → is_correct c p ≡ true → MovesClient old.stage_clients.items k event given step.stage_clients.items → step.replicas ≡ old.replicas → KeepsRecords old step
    → mid ≡ step → outs ≡ given → input ≡ client_steps.input_of (256 + k) event
    → StageAddsEntry c input mid late → KeepsParties mid late → AddsAllIfMeant c p outs late new → AreOf p (map (entry_of p) outs) → KeepsParties late new → InputComes c input old new
from_client c old mid step late new p k event outs given input placed same correct moved rs records mid_is outs_are is adds first all of last =
    let m : MovesClient old.stage_clients.items k event outs mid.stage_clients.items =
    subst (λ (xs : List Output). MovesClient old.stage_clients.items k event xs mid.stage_clients.items) (sym outs_are)
    (subst (λ (s : Stage). MovesClient old.stage_clients.items k event given s.stage_clients.items) (sym mid_is) moved) in
    let kept : KeepsRecords old mid = subst (KeepsRecords old) (sym mid_is) records in
    let still : mid.replicas ≡ old.replicas = ap (λ (s : Stage). s.replicas) mid_is ∙ rs in
    subst (λ e. InputComes c e old new) (sym is)
    (comes_client c old mid late new k event outs placed (client_is_correct c k placed.valid (subst (λ n. is_correct c n ≡ true) same correct)) m still kept (subst (λ e. StageAddsEntry c e mid late) is adds) first
    (subst (λ n. AddsAllIfMeant c n outs late new) same all) (subst (λ n. AreOf n (map (entry_of n) outs)) same of) last)

-- ---- a frame of a faulty party

pub stands_frame : (c : Configuration) (bytes receivers waiting : List ℕ) (old new : Stage) → waiting ≡ filter (is_correct c) receivers → new.pool ≡ added old.pool bytes waiting
    → new.trace ≡ old.trace → new.accepted ≡ old.accepted → new.replicas ≡ old.replicas → new.stage_clients ≡ old.stage_clients → FrameIsMade c bytes receivers old new
stands_frame c bytes receivers waiting old new right pool trace accepted rs stage_clients w st = record {
  shows = record {
    past = ap (λ (v : _). reverse v.items) trace ∙ st.shows.past;
    frames = subst (IsPool c (with_frame w bytes receivers)) (ap (added old.pool bytes) (sym right) ∙ sym pool) (pool_with_frame c w old.pool bytes receivers st.shows.frames);
    accepted = ap (λ (v : _). map acceptance_of v.items) accepted ∙ st.shows.accepted;
  };
  attend = subst (λ (x : List ReplicaData). PartiesFitTrace c w.past x new.stage_clients.items) (ap (λ x. x.items) (sym rs))
      (subst (λ (x : List StageClient). PartiesFitTrace c w.past old.replicas.items x) (ap (λ x. x.items) (sym stage_clients)) st.attend);
  orderly = st.orderly;
}
