-- The definitions of clients, runs and certificates refuse what wrong bodies would do.
use Rattle.std.specs.List.{range_with_len}
use Rattle.std.proofs.Common.{◌≡◌, ℕ, zero, suc, not, ◌+◌, ◌*◌, ◌≤◌, ◌<◌, ◌⊎◌, inl, inr, Bool, true, false, cond, List, [], ◌∷◌, ◌++◌, bytes_eq, refl, sym, ap, ◌∙◌, subst, arith, ◌&&◌, Option, Some, None, eqb-true, eq-eqb, reverse}
use mathlib.Core.List.{reverse_aux}
use Rattle.std.proofs.lemmas.List.{reverse-reverse}
use Rattle.std.specs.Prelude.{◌==◌, nat_le, is_some}
use Rattle.std.specs.Option.{option_map_or}
use Rattle.std.proofs.lemmas.Bool.{eqb-false, and_parts, and_from, or_cases, leb-true, le-leb}
use Rattle.std.proofs.lemmas.Slice.Eq.{bytes_eq-Decides}
use Rattle.sha2.specs.Sha256.{sha256}
use Rattle.tuple_codec.specs.Operations.{Operation, Outcome}
use Rattle.tuple_codec.specs.Spelling.{outcome_spelling}
use Rattle.quorum.specs.Quorum.{count_below}
use Rattle.quorum.proofs.Counting.{count_mono}
use Rattle.protocol.specs.System.Configuration.{Configuration, replicas, members}
use Rattle.terms.specs.declared.order.Mode.{Mode}
use Rattle.terms.specs.declared.order.Mode.TheVariants as modes
use Rattle.wire_format.specs.Messages.{BodyData as Body, MessageData as Message, BatchEntryData as BatchEntry, request as Request, view_change as ViewChange, new_view as NewView, reply as Reply}
use Rattle.signing.specs.AuthenticBody.{authentic}
use Rattle.wire_format.specs.Words.{said, receivers_of}
use Rattle.protocol.specs.System.Frames.{same_mode}
use Rattle.protocol.specs.System.Trace.{Entry, is_output, Once, Always, Has, AreOutputs, either}
use Rattle.protocol.specs.System.Trace.Entry.{Invoke, Got, Tick, Sent, Accepted}
use Rattle.protocol.specs.Replica.Certificates.{view, target, is_active_in, taken}
use Rattle.protocol.specs.Replica.RightReplica.{SafeReplica, MaySendMessage, MaySend, MayViewChange, MayNewView, SendsBytes}
use Rattle.protocol.specs.Client.RightClient.{OpenCall, Vote, newest_vote, latest, is_alike, count_alike, is_complete, is_ordered_request_of, went_ordered, is_answered, Reaction, fallback, on_reply, on_got, reaction, IsRequest, IsReaction, MayInput, Reacts, IsClient}
use Rattle.protocol.specs.Client.RightClient.Reaction.{nothing, asks, accepts}
use Rattle.evidence.specs.RefusedRuns.{going_on, IsOrderedRequest, AcceptsAlike, AsksOrdered, FallsBack, AsksAtTicks, AsksAll, LogsNumbers, NoBeginWhileInactive, KeepsProposed, NoRequestByReplica, InstallsItsRoot, OutputsFollow}
use Rattle.protocol.proofs.Words.Temporal.{once_weaker, once_always, once_stays_from}
use Rattle.protocol.proofs.Words.Options.{some_injective}
use Rattle.protocol.proofs.Agreement.Voting.{RightAt, right_always}
use Rattle.protocol.proofs.Agreement.Marks.{takes, view_grows}
use Rattle.protocol.proofs.Agreement.Changes.{logged_within}
use Rattle.protocol.proofs.Words.Reacting.{one_output}
use Rattle.protocol.specs.System.Run.{OutputFollows}

-- ---- clients

when_true : (b : Bool) (X Y : Type 0) → b ≡ true → either b X Y → X
when_true true X Y e h = h
when_true false X Y e h = absurd cc

pub when_false : (b : Bool) (X Y : Type 0) → b ≡ false → either b X Y → Y
when_false true X Y e h = absurd cc
when_false false X Y e h = h

-- the outputs of an event are taken together
collect : (c : Configuration) (me : ℕ) (outputs given rest : List Entry) → AreOutputs outputs → Reacts c me 0 (reaction c me) given (outputs ++ rest) → Reacts c me 0 (reaction c me) (reverse_aux outputs given) rest
collect c me [] given rest are h = h
collect c me (e ∷ outputs) given rest are h =
    collect c me outputs (e ∷ given) rest are.1
    (when_true (is_output e) (Reacts c me 0 (reaction c me) (e ∷ given) (outputs ++ rest)) (MayInput 0 (outputs ++ rest) e × IsReaction c me (reaction c me (e ∷ outputs ++ rest)) given × Reacts c me 0 (reaction c me) [] (outputs ++ rest)) are.0 h.1)

-- if a client goes on, its outputs in an event are its reaction to the input
pub gave : (c : Configuration) (me : ℕ) (later : List ℕ) (outputs : List Entry) (input : Entry) (past : List Entry) → is_output input ≡ false → AreOutputs outputs
    → IsClient c me (going_on me later outputs input past) → IsReaction c me (reaction c me (input ∷ past)) (reverse outputs)
gave c me later outputs input past is are (inl h) =
    let event = collect c me outputs [] (input ∷ past) are h.1.1.2 in
    (when_false (is_output input) (Reacts c me 0 (reaction c me) (input ∷ reverse outputs) past) (MayInput 0 past input × IsReaction c me (reaction c me (input ∷ past)) (reverse outputs) × Reacts c me 0 (reaction c me) [] past) is event.1).1
gave c me later outputs input past is are (inr h) = absurd h.1

accepts_only : (c : Configuration) (me t : ℕ) (a : Outcome) (r : Reaction) (outputs : List Entry) → r ≡ accepts t a → IsReaction c me r (reverse outputs) → (k : ℕ) × (outputs ≡ Accepted k t a ∷ [])
accepts_only c me t a r outputs is h =
    let k = subst (λ (x : Reaction). IsReaction c me x (reverse outputs)) is h in
    (k.0, sym (reverse-reverse outputs) ∙ ap reverse k.1)

asks_only : (c : Configuration) (me : ℕ) (call : OpenCall) (r : Reaction) (outputs : List Entry) → r ≡ asks modes.Ordered call → IsReaction c me r (reverse outputs) → IsOrderedRequest me call outputs
asks_only c me call r outputs is h =
    let k = subst (λ (x : Reaction). IsReaction c me x (reverse outputs)) is h in
    (k.0, sym (reverse-reverse outputs) ∙ ap reverse k.1, k.2.says)

abbrev pub vote_in : Mode → ℕ → Outcome → Vote
vote_in mode number answer = record { mode = mode; number = number; answer = answer }

pub brings : (c : Configuration) (me s t number : ℕ) (mode : Mode) (answer : Outcome) (bytes : List ℕ) (past : List Entry) → authentic (members c me) me bytes ≡ Some (record { sender = s; message = Reply me t mode number answer })
    → newest_vote c me (Got me bytes ∷ past) t ≡ Some (vote_in mode number answer)
brings c me s t number mode answer bytes past receives = rw receives (rw (eq-eqb s s refl, eq-eqb me me refl, eq-eqb t t refl) refl)

pub alike : (vote : Vote) → is_alike vote (Some vote) ≡ true
alike vote = and_from (vote.number == vote.number) (bytes_eq (outcome_spelling vote.answer) (outcome_spelling vote.answer)) (eq-eqb vote.number vote.number refl) ((bytes_eq-Decides (outcome_spelling vote.answer) (outcome_spelling vote.answer)).1 refl)

pub accepts_alike : AcceptsAlike
accepts_alike c me s number call mode answer bytes later from outputs past opened receives enough same are h =
    accepts_only c me call.timestamp answer (reaction c me (Got me bytes ∷ past)) outputs (ap (λ (o : Option OpenCall). option_map_or (on_got c me (Got me bytes ∷ past)) o nothing) opened ∙ votes ∙ completes) (gave c me later outputs (Got me bytes) past refl are h)
  where
    votes : on_got c me (Got me bytes ∷ past) call ≡ on_reply c me (Got me bytes ∷ past) call (vote_in mode number answer)
    votes = ap (λ (o : Option Vote). option_map_or (on_reply c me (Got me bytes ∷ past) call) o nothing) (brings c me s call.timestamp number mode answer bytes past receives)

    each : (r : ℕ) → from r ≡ true → is_alike (vote_in mode number answer) (latest c me (Got me bytes ∷ past) call.timestamp mode r) ≡ true
    each r h = ap (is_alike (vote_in mode number answer)) (same r h) ∙ alike (vote_in mode number answer)

    full : 2 * c.faults + 1 ≤ count_alike c me (Got me bytes ∷ past) call.timestamp (vote_in mode number answer)
    full = let more = count_mono from (λ r. is_alike (vote_in mode number answer) (latest c me (Got me bytes ∷ past) call.timestamp mode r)) (replicas c) (λ r l h. each r h) in omega arith

    completes : on_reply c me (Got me bytes ∷ past) call (vote_in mode number answer) ≡ accepts call.timestamp answer
    completes = rw (le-leb (2 * c.faults + 1) (count_alike c me (Got me bytes ∷ past) call.timestamp (vote_in mode number answer)) full) refl

-- if a call has gone ordered, the client has sent its ordered request
went_asked : (t : ℕ) (xs : List Entry) → went_ordered xs t ≡ true → Once (AsksOrdered t) xs
went_asked t [] h = absurd cc
went_asked t (Invoke x y z ∷ past) h = absurd cc
went_asked t (Sent p bytes ∷ past) h = go (or_cases (option_map_or (is_ordered_request_of t) (said bytes) false) (went_ordered past t) h) (went_asked t past)
  where
    ordered : (sender timestamp : ℕ) (mode : Mode) (op : Operation) → ((timestamp == t) && same_mode mode modes.Ordered) ≡ true
        → (op' : Operation) × (◌≡◌ {A = Body} (record { sender = sender; message = Request timestamp mode op }) (record { sender = sender; message = Request t modes.Ordered op' }))
    ordered sender timestamp modes.Ordered op k =
        let e = eqb-true timestamp t (and_parts (timestamp == t) true k).0 in
        (op, ap (λ (n : ℕ). (let b : Body = record { sender = sender; message = Request n modes.Ordered op } in b)) e)
    ordered sender timestamp modes.ReadOnly op k = let bad = (and_parts (timestamp == t) false k).1 in absurd cc

    body : (sender : ℕ) (message : Message) → is_ordered_request_of t (record { sender = sender; message = message }) ≡ true
        → (op : Operation) × (◌≡◌ {A = Body} (record { sender = sender; message = message }) (record { sender = sender; message = Request t modes.Ordered op }))
    body sender (Request timestamp mode op) k = ordered sender timestamp mode op k
    body sender _ k = absurd cc

    spoken : (o : Option Body) → said bytes ≡ o → option_map_or (is_ordered_request_of t) o false ≡ true → AsksOrdered t past (Sent p bytes)
    spoken None is k = absurd cc
    spoken (Some b) is k = let r = body b.sender b.message k in (b.sender, r.0, is ∙ ap Some r.1)

    go : (option_map_or (is_ordered_request_of t) (said bytes) false ≡ true) ⊎ (went_ordered past t ≡ true) → (went_ordered past t ≡ true → Once (AsksOrdered t) past) → AsksOrdered t past (Sent p bytes) ⊎ Once (AsksOrdered t) past
    go (inl k) below = inl (spoken (said bytes) refl k)
    go (inr k) below = inr (below k)
went_asked t (_ ∷ past) h = inr (went_asked t past h)

all_below : (test : ℕ → Bool) (n : ℕ) → ((k : ℕ) → k < n → test k ≡ true) → count_below test n ≡ n
all_below test zero h = refl
all_below test (suc n) h =
    let last : n < suc n = omega arith in
    let below = all_below test n (λ k l. let m : k < suc n = omega arith in h k m) in
    rw (h n last) (ap suc below)

pub falls_back : FallsBack
falls_back c me s number call answer bytes later outputs past opened receives answered few never are h =
    asks_only c me call (reaction c me (Got me bytes ∷ past)) outputs (ap (λ (o : Option OpenCall). option_map_or (on_got c me (Got me bytes ∷ past)) o nothing) opened ∙ votes ∙ incomplete ∙ falls) (gave c me later outputs (Got me bytes) past refl are h)
  where
    votes : on_got c me (Got me bytes ∷ past) call ≡ on_reply c me (Got me bytes ∷ past) call (vote_in modes.ReadOnly number answer)
    votes = ap (λ (o : Option Vote). option_map_or (on_reply c me (Got me bytes ∷ past) call) o nothing) (brings c me s call.timestamp number modes.ReadOnly answer bytes past receives)

    incomplete : on_reply c me (Got me bytes ∷ past) call (vote_in modes.ReadOnly number answer) ≡ fallback c me (Got me bytes ∷ past) call
    incomplete = go (is_complete c me (Got me bytes ∷ past) call.timestamp (vote_in modes.ReadOnly number answer)) refl
      where
        go : (b : Bool) → is_complete c me (Got me bytes ∷ past) call.timestamp (vote_in modes.ReadOnly number answer) ≡ b → cond b (accepts call.timestamp answer) (fallback c me (Got me bytes ∷ past) call) ≡ fallback c me (Got me bytes ∷ past) call
        go true e = let l = leb-true (2 * c.faults + 1) (count_alike c me (Got me bytes ∷ past) call.timestamp (vote_in modes.ReadOnly number answer)) e in absurd (omega arith)
        go false e = refl

    some_answer : (o : Option Vote) → (o ≡ None → ⊥) → is_some o ≡ true
    some_answer None n = absurd (n refl)
    some_answer (Some v) n = refl

    all_answered : is_answered c me (Got me bytes ∷ past) call.timestamp ≡ true
    all_answered =
        let all = all_below (λ r. is_some (latest c me (Got me bytes ∷ past) call.timestamp modes.ReadOnly r)) (replicas c) (λ r l. some_answer (latest c me (Got me bytes ∷ past) call.timestamp modes.ReadOnly r) (answered r l)) in
        le-leb (replicas c) (count_below (λ r. is_some (latest c me (Got me bytes ∷ past) call.timestamp modes.ReadOnly r)) (replicas c)) (omega arith)

    falls : fallback c me (Got me bytes ∷ past) call ≡ asks modes.Ordered call
    falls = go (went_ordered past call.timestamp) refl
      where
        go : (b : Bool) → went_ordered past call.timestamp ≡ b → cond (not b && is_answered c me (Got me bytes ∷ past) call.timestamp) (asks modes.Ordered call) nothing ≡ asks modes.Ordered call
        go true e = absurd (never (went_asked call.timestamp past e))
        go false e = rw all_answered refl

pub asks_at_ticks : AsksAtTicks
asks_at_ticks c me call later outputs past opened are h =
    asks_only c me call (reaction c me (Tick me ∷ past)) outputs (ap (λ (o : Option OpenCall). option_map_or (asks modes.Ordered) o nothing) opened) (gave c me later outputs (Tick me) past refl are h)

-- one request is another's bytes
same_request : (me : ℕ) (x y : List ℕ) → Sent me x ∷ [] ≡ Sent me y ∷ [] → y ≡ x
same_request me x y e = cc

-- a frame that a client sends is a request that it was to give
pub record Asked (c : Configuration) (me : ℕ) (bytes : List ℕ) : Type 0 where
  pub mode : Mode
  pub call : OpenCall
  pub request : IsRequest c me mode call bytes

asked_here : (c : Configuration) (me : ℕ) (bytes : List ℕ) (past : List Entry) → Reacts c me 0 (reaction c me) (Sent me bytes ∷ []) past → Asked c me bytes
asked_here c me bytes [] h = absurd cc
asked_here c me bytes (e ∷ past) h = go (is_output e) h.1
  where
    by : (r : Reaction) → IsReaction c me r (Sent me bytes ∷ []) → Asked c me bytes
    by nothing k = absurd cc
    by (asks mode call) k = record { mode = mode; call = call; request = subst (IsRequest c me mode call) (same_request me bytes k.0 k.1) k.2 }
    by (accepts t a) k = let bad = k.1 in absurd cc

    go : (b : Bool) → either b (Reacts c me 0 (reaction c me) (e ∷ Sent me bytes ∷ []) past) (MayInput 0 past e × IsReaction c me (reaction c me (e ∷ past)) (Sent me bytes ∷ []) × Reacts c me 0 (reaction c me) [] past) → Asked c me bytes
    go true k = absurd (one_output c me 0 e (Sent me bytes) [] past k)
    go false k = by (reaction c me (e ∷ past)) k.1

pub asked_by : (c : Configuration) (me : ℕ) (bytes : List ℕ) (past : List Entry) → IsClient c me (Sent me bytes ∷ past) → Asked c me bytes
asked_by c me bytes past (inl h) = asked_here c me bytes past h.1
asked_by c me bytes past (inr h) = absurd h.1

pub in_range : (n a s : ℕ) → a ≤ s → s < a + n → Has (λ r. r ≡ s) (range_with_len a n)
in_range zero a s l h = absurd (omega arith)
in_range (suc n) a s l h = go (a == s) refl (λ above. in_range n (a + 1) s above (omega arith))
  where
    go : (b : Bool) → (a == s) ≡ b → (a + 1 ≤ s → Has (λ r. r ≡ s) (range_with_len (a + 1) n)) → (a ≡ s) ⊎ Has (λ r. r ≡ s) (range_with_len (a + 1) n)
    go true e below = inl (eqb-true a s e)
    go false e below = let d = eqb-false a s e in inr (below (omega arith))

pub asks_all : AsksAll
asks_all c me s bytes frame entries past is authenticator within right =
    let asked = asked_by c me bytes past right in
    subst (λ (rs : List ℕ). Has (λ x. x ≡ s) rs) (sym (ap receivers_of (sym authenticator) ∙ (asked.request.is_sealed frame is).1)) (in_range (replicas c) 0 s (omega arith) (omega arith))

-- ---- runs

pub always_behind : (P : List Entry → Entry → Type 0) (later xs : List Entry) → Always P (later ++ xs) → Always P xs
always_behind P [] xs a = a
always_behind P (e ∷ later) xs a = always_behind P later xs a.1

pub outputs_follow : OutputsFollow
outputs_follow c e other past later output differs run =
    differs (sym ((always_behind OutputFollows later (e ∷ other ∷ past) run.events).0 output))

-- ---- replicas

-- a right replica may say what its newest frame says
pub says_may : (c : Configuration) (me : ℕ) (bytes : List ℕ) (body : Body) (past : List Entry) (right : SafeReplica c me (Sent me bytes ∷ past)) → said bytes ≡ Some body
    → MaySendMessage c me past right.1.0 (Sent me bytes) bytes body.message
says_may c me bytes body past right h =
    let m : MaySend c me past right.1.0 (Sent me bytes) bytes = right.1.2.may in
    subst (λ (x : Body). MaySendMessage c me past right.1.0 (Sent me bytes) bytes x.message) (some_injective m.body body (sym m.says ∙ h)) m.allowed

pub logs_numbers : LogsNumbers
logs_numbers c me v i batch past right h = (logged_within c me v i batch past (right_always c me past right.0 right.1) h).1

pub no_begin_while_inactive : NoBeginWhileInactive
no_begin_while_inactive c me bytes new past says before right = go (says_may c me bytes (record { sender = me; message = NewView new }) past right says).1
  where
    -- if the replica has sent the new view before, its view is at least the new one
    assigned : (x : List Entry) (e : Entry) → RightAt c me x e → SendsBytes bytes x e → new.view ≤ view c (e ∷ x)
    assigned x (Sent p sent) r t = pick allowed.1
      where
        spoken : said sent ≡ Some (record { sender = me; message = NewView new })
        spoken = subst (λ (ys : List ℕ). said ys ≡ Some (record { sender = me; message = NewView new })) (sym t) says

        allowed : MayNewView c me x (Sent p sent) sent new
        allowed = subst (λ (b : Body). MaySendMessage c me x r.point (Sent p sent) sent b.message) (some_injective r.may.body (record { sender = me; message = NewView new }) (sym r.may.says ∙ spoken)) r.may.allowed

        pick : (taken c x (Sent p sent) ≡ Some new) ⊎ ((is_active_in c x new.view ≡ true) × Once (SendsBytes sent) x) → new.view ≤ view c (Sent p sent ∷ x)
        pick (inl k) = let is = (takes c me x (Sent p sent) new k).view_is in omega arith
        pick (inr k) =
            let is = eqb-true (view c x) new.view (and_parts (view c x == new.view) (nat_le (target x) new.view) k.0).0 in
            let grows = view_grows c (Sent p sent) x in
            omega arith
    assigned x _ r t = absurd t

    there : new.view ≤ view c past
    there =
        once_stays_from (λ x. new.view ≤ view c x) (λ e x k. let grows = view_grows c e x in omega arith) past
        (once_weaker (λ x e. RightAt c me x e × SendsBytes bytes x e × Always (RightAt c me) x) (λ x e. new.view ≤ view c (e ∷ x)) (λ x e t. assigned x e t.0 t.1) past
        (once_always (RightAt c me) (SendsBytes bytes) past (right_always c me past right.1.0 right.1.1) before))

    go : (taken c past (Sent me bytes) ≡ Some new) ⊎ ((is_active_in c past new.view ≡ true) × Once (SendsBytes bytes) past) → is_active_in c past new.view ≡ true
    go (inl k) = let above = (takes c me past (Sent me bytes) new k).above in let b = there in absurd (omega arith)
    go (inr k) = k.0

pub keeps_proposed : KeepsProposed
keeps_proposed c me v i batch bytes vc past says new right proposed marks =
    go (says_may c me bytes (record { sender = me; message = ViewChange vc }) past right says)
  where
    go : MayViewChange c me past right.1.0 bytes vc → Has (λ (batch_entry : BatchEntry). (batch_entry.number ≡ i) × (batch_entry.digest ≡ sha256 batch) × (v ≤ batch_entry.view)) vc.pre_prepared
    go (inl change) = change.proposed.all v i batch marks proposed
    go (inr again) = absurd (new again.2)

pub no_request_by_replica : NoRequestByReplica
no_request_by_replica c me timestamp mode op bytes past says right = says_may c me bytes (record { sender = me; message = Request timestamp mode op }) past right says

pub installs_its_root : InstallsItsRoot
installs_its_root c me k root past right = (right.1.2.moves.number, right.1.2.moves.root_is)
