-- An accepted read finds the level at most its number when it was invoked, and at least its number when it is accepted.
use Rattle.std.proofs.Common.{◌≡◌, ℕ, suc, ◌+◌, ◌*◌, ◌≤◌, ◌<◌, inl, inr, Bool, true, false, cond, List, [], ◌∷◌, refl, sym, ap, ◌∙◌, subst, arith, ◌&&◌, ◌||◌, Option, Some, None, eq-eqb, eqb-true, bytes_eq}
use Rattle.std.specs.Prelude.{◌==◌, option_and_then}
use Rattle.std.proofs.lemmas.Bool.{and_parts}
use Rattle.quorum.specs.Quorum.{count_below}
use Rattle.protocol.specs.System.Configuration.{Configuration, IsConfiguration, is_correct, is_correct_replica, is_correct_client, members}
use Rattle.terms.specs.declared.order.Mode.{Mode}
use Rattle.terms.specs.declared.order.Mode.TheVariants as modes
use Rattle.wire_format.specs.Messages.{BodyData as Body, MessageData as Message, request as Request, reply as Reply}
use Rattle.signing.specs.AuthenticBody.{authentic}
use Rattle.protocol.specs.System.Frames.{same_mode}
use Rattle.protocol.specs.System.Trace.{Entry, party_of, history_of, Once, Always, Unforged, Receives}
use Rattle.protocol.specs.System.Trace.Entry.{Invoke, Got, Tick, Executed, Installed, Sent, Accepted}
use Rattle.protocol.specs.Replica.RightReplica.{MaySendMessage, MayReply}
use Rattle.protocol.specs.Client.RightClient.{SafeClient, MayAsk, MayRequest, OpenCall, open_call, last_call, Vote, reply_vote, later_vote, latest, is_alike}
use Rattle.protocol.specs.Space.Linear.{reached, is_level}
use Rattle.protocol.specs.Laws.Histories.{AreReplicasSafe}
use Rattle.protocol.proofs.Words.Modes.{same_mode-true}
use Rattle.protocol.proofs.Words.Temporal.{once_weaker, once_in_trace}
use Rattle.protocol.proofs.Words.Options.{and_then_some, then_some_gives, some_injective}
use Rattle.protocol.proofs.Words.Linking.{Speaks, heard_was_said}
use Rattle.protocol.proofs.Agreement.Voting.{RightAt, once_right, correct_replica}
use Rattle.protocol.proofs.Agreement.States.{right_append}
use Rattle.protocol.proofs.Points.Levels.{reached_grows, reached_history, number_reached, level_after, level_before}
use Rattle.tuple_codec.specs.Operations.{Operation, Outcome}
use Rattle.tuple_codec.specs.Spelling.{outcome_spelling}
use Rattle.protocol.specs.Space.Linear.{invoke_past}

-- ---- a run, and each of its beginnings

pub record Runs (c : Configuration) (xs : List Entry) : Type 0 where
  pub unforged : Unforged c xs
  pub replicas : AreReplicasSafe c xs
  pub clients : (p : ℕ) → is_correct_client c p ≡ true → SafeClient c p (history_of p xs)

pub runs_earlier : (c : Configuration) (e : Entry) (xs : List Entry) → Runs c (e ∷ xs) → Runs c xs
runs_earlier c e xs r = record {
  unforged = r.unforged.1;
  replicas = λ p h. right_append c p (e ∷ []) xs (r.replicas p h);
  clients = λ p h. go p (party_of e == p) (r.clients p h);
}
  where
    go : (p : ℕ) (b : Bool) → SafeClient c p (cond b (e ∷ history_of p xs) (history_of p xs)) → SafeClient c p (history_of p xs)
    go p true h = h.1
    go p false h = h

once_runs : (c : Configuration) (Q : List Entry → Entry → Type 0) (xs : List Entry) → Runs c xs → Once Q xs → Once (λ past e. Runs c past × Q past e) xs
once_runs c Q [] r h = h
once_runs c Q (e ∷ past) r (inl h) = inl (runs_earlier c e past r, h)
once_runs c Q (e ∷ past) r (inr h) = inr (once_runs c Q past (runs_earlier c e past r) h)

pub correct_client : (c : Configuration) (p : ℕ) → is_correct_client c p ≡ true → is_correct c p ≡ true
correct_client c p h = go (is_correct_replica c p) h
  where
    go : (b : Bool) → is_correct_client c p ≡ true → (b || is_correct_client c p) ≡ true
    go true h = refl
    go false h = h

-- ---- a read's request was invoked before

pub InvokesAt : ℕ → ℕ → List Entry → Entry → Type 0
InvokesAt p t past (Invoke client timestamp op) = (256 + client ≡ p) × (timestamp ≡ t)
InvokesAt p t past _ = ⊥

pub opened : (p t : ℕ) (op : Operation) (xs : List Entry) → Always (λ past e. party_of e ≡ p) xs → open_call xs ≡ Some (record { timestamp = t; op = op }) → Once (InvokesAt p t) xs
unfolding InvokesAt
opened p t op [] own h = absurd cc
opened p t op (Invoke client timestamp o ∷ past) own h =
    let e : ◌≡◌ {A = OpenCall} (record { timestamp = timestamp; op = o }) (record { timestamp = t; op = op }) = some_injective {A = OpenCall} (record { timestamp = timestamp; op = o }) (record { timestamp = t; op = op }) h in
    inl (own.0, ap (λ (x : OpenCall). x.timestamp) e)
opened p t op (Accepted client timestamp answer ∷ past) own h = absurd cc
opened p t op (_ ∷ past) own h = inr (opened p t op past own.1 h)

pub own_entries : (c : Configuration) (p : ℕ) (xs : List Entry) → SafeClient c p xs → Always (λ past e. party_of e ≡ p) xs
own_entries c p [] r = tt
own_entries c p (e ∷ xs) r = (r.0.0, own_entries c p xs r.1)

abbrev pub asking : ℕ → ℕ → Mode → Operation → Body
asking p t mode text = record { sender = p; message = Request t mode text }

-- a right client invoked each call that it sends a request of
pub asked_invoked : (c : Configuration) (p t : ℕ) (mode : Mode) (text : Operation) (xs : List Entry) → SafeClient c p xs → Once (Speaks (asking p t mode text)) xs → Once (InvokesAt p t) xs
asked_invoked c p t mode text [] r h = absurd h
asked_invoked c p t mode text (e ∷ past) r (inr h) = inr (asked_invoked c p t mode text past r.1 h)
asked_invoked c p t mode text (Sent x bytes ∷ past) r (inl h) =
    let m = r.0.1 in
    let is : m.0 ≡ asking p t mode text = some_injective m.0 (asking p t mode text) (sym m.1 ∙ h) in
    let ask : MayRequest past t mode text = subst (λ (b : Body). MayAsk past b.message) is m.3 in
    inr (opened p t text past (own_entries c p past r.1) ask.0)
asked_invoked c p t mode text (Invoke x y z ∷ past) r (inl h) = absurd h
asked_invoked c p t mode text (_ ∷ past) r (inl h) = absurd h

-- ---- a read-only reply comes after its request's invocation, at the replica's number

abbrev pub replying : ℕ → ℕ → ℕ → Mode → ℕ → Outcome → Body
replying s p t mode number answer = record { sender = s; message = Reply p t mode number answer }

pub ReadAt : Configuration → ℕ → ℕ → ℕ → ℕ → List Entry → Entry → Type 0
ReadAt c s p t number past e = (reached past s ≡ number) × ((text : Operation) × Once (Receives c s (asking p t modes.ReadOnly text)) past)

says_read : (c : Configuration) (s p t number : ℕ) (answer : Outcome) (past : List Entry) (e : Entry) → RightAt c s past e → Speaks (replying s p t modes.ReadOnly number answer) past e → ReadAt c s p t number past e
unfolding ReadAt
says_read c s p t number answer past (Sent q bytes) r h =
    let is = some_injective r.may.body (replying s p t modes.ReadOnly number answer) (sym r.may.says ∙ h) in
    let m : MayReply c s past r.point p t modes.ReadOnly number answer = subst (λ (x : Body). MaySendMessage c s past r.point (Sent q bytes) bytes x.message) is r.may.allowed in
    (sym (m.number_is ∙ number_reached c s past r.point r.leaves), (m.op, m.authentic))
says_read c s p t number answer past (Invoke x y z) r h = absurd h
says_read c s p t number answer past _ r h = absurd h

pub Answered : ℕ → ℕ → ℕ → ℕ → List Entry → Entry → Type 0
Answered s p t number past e = (reached past s ≡ number) × Once (InvokesAt p t) past

invokes_any : (p t q : ℕ) (past : List Entry) (e : Entry) → (party_of e ≡ q) × InvokesAt p t (history_of q past) e → InvokesAt p t past e
unfolding InvokesAt
invokes_any p t q past (Invoke x y z) h = h.1
invokes_any p t q past _ h = absurd h.1

pub read_answered : (c : Configuration) (s p t number : ℕ) (answer : Outcome) (xs : List Entry) → Runs c xs → is_correct_replica c s ≡ true → is_correct_client c p ≡ true
    → Once (Speaks (replying s p t modes.ReadOnly number answer)) (history_of s xs) → Once (Answered s p t number) xs
unfolding Answered ReadAt
read_answered c s p t number answer xs runs correct client h =
    let reads : Once (ReadAt c s p t number) (history_of s xs) =
    once_weaker (λ past e. RightAt c s past e × Speaks (replying s p t modes.ReadOnly number answer) past e × Always (RightAt c s) past) (ReadAt c s p t number)
    (λ past e u. says_read c s p t number answer past e u.0 u.1) (history_of s xs)
    (once_right c s (Speaks (replying s p t modes.ReadOnly number answer)) (history_of s xs) (runs.replicas s correct) h) in
    once_weaker (λ past e. Runs c past × ((party_of e ≡ s) × ReadAt c s p t number (history_of s past) e)) (Answered s p t number) step xs
    (once_runs c (λ past e. (party_of e ≡ s) × ReadAt c s p t number (history_of s past) e) xs runs (once_in_trace (ReadAt c s p t number) s xs reads))
  where
    step : (past : List Entry) (e : Entry) → Runs c past × ((party_of e ≡ s) × ((reached (history_of s past) s ≡ number) × ((text : Operation) × Once (Receives c s (asking p t modes.ReadOnly text)) (history_of s past))))
        → (reached past s ≡ number) × Once (InvokesAt p t) past
    step past e u =
        let said' = heard_was_said c past s (asking p t modes.ReadOnly u.1.1.1.0) u.0.unforged (correct_replica c s correct) (correct_client c p client) u.1.1.1.1 in
        let invoked = asked_invoked c p t modes.ReadOnly u.1.1.1.0 (history_of p past) (u.0.clients p client) said' in (
          sym (reached_history s past) ∙ u.1.1.0,
          once_weaker (λ past e. (party_of e ≡ p) × InvokesAt p t (history_of p past) e) (InvokesAt p t) (invokes_any p t p) past (once_in_trace (InvokesAt p t) p past invoked),
        )

-- ---- the votes of a client

vote_body : (me t s : ℕ) (vote : Vote) (sender : ℕ) (message : Message) → reply_vote me t s (record { sender = sender; message = message }) ≡ Some vote
    → ◌≡◌ {A = Body} (record { sender = sender; message = message }) (replying s me t vote.mode vote.number vote.answer)
vote_body me t s vote sender (Reply client timestamp mode number answer) h =
    let g = then_some_gives ((sender == s) && (client == me) && (timestamp == t)) (record { mode = mode; number = number; answer = answer }) vote h in
    let p = and_parts ((sender == s) && (client == me)) (timestamp == t) g.0 in
    let q = and_parts (sender == s) (client == me) p.0 in
    let es : sender ≡ s = eqb-true sender s q.0 in
    let ec : client ≡ me = eqb-true client me q.1 in
    let et : timestamp ≡ t = eqb-true timestamp t p.1 in
    let er : mode ≡ vote.mode = ap (λ (x : Vote). x.mode) g.1 in
    let en : number ≡ vote.number = ap (λ (x : Vote). x.number) g.1 in
    let ea : answer ≡ vote.answer = ap (λ (x : Vote). x.answer) g.1 in
    rw (es, ec, et, er, en, ea) refl
vote_body me t s vote sender _ h = absurd cc

pub latest_received : (c : Configuration) (me t : ℕ) (mode : Mode) (s : ℕ) (vote : Vote) (xs : List Entry) → Always (λ past e. party_of e ≡ me) xs → latest c me xs t mode s ≡ Some vote
    → Once (Receives c me (replying s me t mode vote.number vote.answer)) xs
unfolding latest
latest_received c me t mode s vote [] own h = absurd cc
latest_received c me t mode s vote (Invoke x y z ∷ past) own h = absurd cc
latest_received c me t mode s vote (Got p bytes ∷ past) own h = go (option_and_then (reply_vote me t s) (authentic (members c me) me bytes)) refl h (latest_received c me t mode s vote past own.1)
  where
    go : (o : Option Vote) → option_and_then (reply_vote me t s) (authentic (members c me) me bytes) ≡ o → later_vote mode o (latest c me past t mode s) ≡ Some vote
        → (latest c me past t mode s ≡ Some vote → Once (Receives c me (replying s me t mode vote.number vote.answer)) past) → Once (Receives c me (replying s me t mode vote.number vote.answer)) (Got p bytes ∷ past)
    go None is k below = inr (below k)
    go (Some v) is k below = test (same_mode v.mode mode) refl k
      where
        test : (b : Bool) → same_mode v.mode mode ≡ b → cond b (Some v) (latest c me past t mode s) ≡ Some vote → Once (Receives c me (replying s me t mode vote.number vote.answer)) (Got p bytes ∷ past)
        test false e k = inr (below k)
        test true e k =
            let same : v ≡ vote = some_injective v vote k in
            let r = and_then_some (reply_vote me t s) (authentic (members c me) me bytes) v is in
            let body = vote_body me t s v r.0.sender r.0.message r.2 in
            inl (r.1 ∙ ap Some body ∙ ap (λ (m : Mode). Some (replying s me t m v.number v.answer)) (same_mode-true v.mode mode e) ∙ ap (λ (x : Vote). Some (replying s me t mode x.number x.answer)) same)
latest_received c me t mode s vote (_ ∷ past) own h = inr (latest_received c me t mode s vote past own.1 h)

-- ---- the latest invocation

-- the timestamp of the client's latest invocation
abbrev pub last_of : ℕ → List Entry → ℕ
last_of p [] = 0
last_of p (Invoke client t op ∷ past) = cond (256 + client == p) t (last_of p past)
last_of p (_ ∷ past) = last_of p past

pub last_of-history : (p : ℕ) (xs : List Entry) → last_call (history_of p xs) ≡ last_of p xs
last_of-history p [] = refl
last_of-history p (Invoke client t op ∷ xs) = go (256 + client == p) (last_of-history p xs)
  where
    go : (b : Bool) → last_call (history_of p xs) ≡ last_of p xs → last_call (cond b (Invoke client t op ∷ history_of p xs) (history_of p xs)) ≡ cond b t (last_of p xs)
    go true h = refl
    go false h = h
last_of-history p (Got x y ∷ xs) = other (x == p) (last_of-history p xs)
  where
    other : (b : Bool) → last_call (history_of p xs) ≡ last_of p xs → last_call (cond b (Got x y ∷ history_of p xs) (history_of p xs)) ≡ last_of p xs
    other true h = h
    other false h = h
last_of-history p (Tick x ∷ xs) = other (x == p) (last_of-history p xs)
  where
    other : (b : Bool) → last_call (history_of p xs) ≡ last_of p xs → last_call (cond b (Tick x ∷ history_of p xs) (history_of p xs)) ≡ last_of p xs
    other true h = h
    other false h = h
last_of-history p (Sent x y ∷ xs) = other (x == p) (last_of-history p xs)
  where
    other : (b : Bool) → last_call (history_of p xs) ≡ last_of p xs → last_call (cond b (Sent x y ∷ history_of p xs) (history_of p xs)) ≡ last_of p xs
    other true h = h
    other false h = h
last_of-history p (Executed x y z ∷ xs) = other (x == p) (last_of-history p xs)
  where
    other : (b : Bool) → last_call (history_of p xs) ≡ last_of p xs → last_call (cond b (Executed x y z ∷ history_of p xs) (history_of p xs)) ≡ last_of p xs
    other true h = h
    other false h = h
last_of-history p (Installed x y z ∷ xs) = other (x == p) (last_of-history p xs)
  where
    other : (b : Bool) → last_call (history_of p xs) ≡ last_of p xs → last_call (cond b (Installed x y z ∷ history_of p xs) (history_of p xs)) ≡ last_of p xs
    other true h = h
    other false h = h
last_of-history p (Accepted x y z ∷ xs) = other (256 + x == p) (last_of-history p xs)
  where
    other : (b : Bool) → last_call (history_of p xs) ≡ last_of p xs → last_call (cond b (Accepted x y z ∷ history_of p xs) (history_of p xs)) ≡ last_of p xs
    other true h = h
    other false h = h

-- an invocation of a right client has a timestamp above all earlier ones
next_time : (c : Configuration) (p client t : ℕ) (op : Operation) (past : List Entry) → SafeClient c p (history_of p (Invoke client t op ∷ past)) → (256 + client == p) ≡ true → last_of p past < t
next_time c p client t op past r is = go (256 + client == p) is r
  where
    go : (b : Bool) → b ≡ true → SafeClient c p (cond b (Invoke client t op ∷ history_of p past) (history_of p past)) → last_of p past < t
    go true e r = subst (λ (x : ℕ). x < t) (last_of-history p past) r.0.1.0
    go false e r = absurd cc

-- no earlier invocation has a later timestamp
invoked_le : (c : Configuration) (p t : ℕ) (xs : List Entry) → Runs c xs → is_correct_client c p ≡ true → Once (InvokesAt p t) xs → t ≤ last_of p xs
unfolding InvokesAt
invoked_le c p t [] runs client h = absurd h
invoked_le c p t (Invoke x timestamp op ∷ past) runs client (inl h) = rw (eq-eqb (256 + x) p h.0) (omega arith)
invoked_le c p t (Invoke x timestamp op ∷ past) runs client (inr h) = go (256 + x == p) refl (invoked_le c p t past (runs_earlier c (Invoke x timestamp op) past runs) client h)
  where
    go : (b : Bool) → (256 + x == p) ≡ b → t ≤ last_of p past → t ≤ cond b timestamp (last_of p past)
    go true e k = let n = next_time c p x timestamp op past (runs.clients p client) e in omega arith
    go false e k = k
invoked_le c p t (Got x y ∷ past) runs client (inr h) = invoked_le c p t past (runs_earlier c (Got x y) past runs) client h
invoked_le c p t (Tick x ∷ past) runs client (inr h) = invoked_le c p t past (runs_earlier c (Tick x) past runs) client h
invoked_le c p t (Sent x y ∷ past) runs client (inr h) = invoked_le c p t past (runs_earlier c (Sent x y) past runs) client h
invoked_le c p t (Executed x y z ∷ past) runs client (inr h) = invoked_le c p t past (runs_earlier c (Executed x y z) past runs) client h
invoked_le c p t (Installed x y z ∷ past) runs client (inr h) = invoked_le c p t past (runs_earlier c (Installed x y z) past runs) client h
invoked_le c p t (Accepted x y z ∷ past) runs client (inr h) = invoked_le c p t past (runs_earlier c (Accepted x y z) past runs) client h
invoked_le c p t (_ ∷ past) runs client (inl h) = absurd h

pub InvokedLow : ℕ → ℕ → ℕ → ℕ → List Entry → Entry → Type 0
InvokedLow s p t number past e = InvokesAt p t past e × (reached past s ≤ number)

-- a property of the invocation with the latest timestamp holds at the latest invocation
at_latest : (c : Configuration) (s p t number : ℕ) (xs : List Entry) → Runs c xs → is_correct_client c p ≡ true → last_of p xs ≡ t → Once (InvokedLow s p t number) xs → reached (invoke_past p xs) s ≤ number
unfolding InvokedLow InvokesAt
at_latest c s p t number [] runs client is h = absurd h
at_latest c s p t number (Invoke x timestamp op ∷ past) runs client is (inl h) = rw (eq-eqb (256 + x) p h.0.0) h.1
at_latest c s p t number (Invoke x timestamp op ∷ past) runs client is (inr h) =
    go (256 + x == p) refl is (at_latest c s p t number past (runs_earlier c (Invoke x timestamp op) past runs) client)
    (invoked_le c p t past (runs_earlier c (Invoke x timestamp op) past runs) client (once_weaker (InvokedLow s p t number) (InvokesAt p t) (λ past e u. u.0) past h))
  where
    go : (b : Bool) → (256 + x == p) ≡ b → cond b timestamp (last_of p past) ≡ t → (last_of p past ≡ t → Once (InvokedLow s p t number) past → reached (invoke_past p past) s ≤ number) → t ≤ last_of p past
        → reached (cond b past (invoke_past p past)) s ≤ number
    go true e k below le = let n = next_time c p x timestamp op past (runs.clients p client) e in absurd (omega arith)
    go false e k below le = below k h
at_latest c s p t number (Got x y ∷ past) runs client is (inr h) = at_latest c s p t number past (runs_earlier c (Got x y) past runs) client is h
at_latest c s p t number (Tick x ∷ past) runs client is (inr h) = at_latest c s p t number past (runs_earlier c (Tick x) past runs) client is h
at_latest c s p t number (Sent x y ∷ past) runs client is (inr h) = at_latest c s p t number past (runs_earlier c (Sent x y) past runs) client is h
at_latest c s p t number (Executed x y z ∷ past) runs client is (inr h) = at_latest c s p t number past (runs_earlier c (Executed x y z) past runs) client is h
at_latest c s p t number (Installed x y z ∷ past) runs client is (inr h) = at_latest c s p t number past (runs_earlier c (Installed x y z) past runs) client is h
at_latest c s p t number (Accepted x y z ∷ past) runs client is (inr h) = at_latest c s p t number past (runs_earlier c (Accepted x y z) past runs) client is h
at_latest c s p t number (_ ∷ past) runs client is (inl h) = absurd h.0

-- ---- the number of an answer lies between

invoked_low : (s p t number : ℕ) (xs : List Entry) → reached xs s ≤ number → Once (InvokesAt p t) xs → Once (InvokedLow s p t number) xs
unfolding InvokedLow
invoked_low s p t number [] l h = h
invoked_low s p t number (e ∷ past) l (inl h) = inl (h, (let g = reached_grows e past s in omega arith))
invoked_low s p t number (e ∷ past) l (inr h) = inr (invoked_low s p t number past (let g = reached_grows e past s in omega arith) h)

answered_low : (s p t number : ℕ) (xs : List Entry) → Once (Answered s p t number) xs → Once (InvokedLow s p t number) xs
unfolding Answered
answered_low s p t number [] h = h
answered_low s p t number (e ∷ past) (inl h) = inr (invoked_low s p t number past (let k = h.0 in omega arith) h.1)
answered_low s p t number (e ∷ past) (inr h) = inr (answered_low s p t number past h)

answered_high : (s p t number : ℕ) (xs : List Entry) → Once (Answered s p t number) xs → number ≤ reached xs s
unfolding Answered
answered_high s p t number [] h = absurd h
answered_high s p t number (e ∷ past) (inl h) = let g = reached_grows e past s in let k = h.0 in omega arith
answered_high s p t number (e ∷ past) (inr h) = let g = reached_grows e past s in let k = answered_high s p t number past h in omega arith

-- ---- an accepted read

module _ (c : Configuration) (setting : IsConfiguration c) (past : List Entry) (runs : Runs c past) (p t : ℕ) (client : is_correct_client c p ≡ true) (vote : Vote)
    (is_read : vote.mode ≡ modes.ReadOnly) (open' : last_of p past ≡ t)
    (enough : 2 * c.faults + 1 ≤ count_below (λ s. is_alike vote (latest c p (history_of p past) t modes.ReadOnly s)) (3 * c.faults + 1)) where
  answers : (s : ℕ) → is_correct_replica c s ≡ true → is_alike vote (latest c p (history_of p past) t modes.ReadOnly s) ≡ true → Once (Answered s p t vote.number) past
  answers s correct h = go (latest c p (history_of p past) t modes.ReadOnly s) refl h
    where
      go : (o : Option Vote) → latest c p (history_of p past) t modes.ReadOnly s ≡ o → is_alike vote o ≡ true → Once (Answered s p t vote.number) past
      go None is k = absurd cc
      go (Some v) is k =
          let q = and_parts (v.number == vote.number) (bytes_eq (outcome_spelling v.answer) (outcome_spelling vote.answer)) k in
          let n : v.number ≡ vote.number = eqb-true v.number vote.number q.0 in
          let receives = latest_received c p t modes.ReadOnly s v (history_of p past) (own_entries c p (history_of p past) (runs.clients p client)) is in
          let said' = heard_was_said c past p (replying s p t modes.ReadOnly v.number v.answer) runs.unforged (correct_client c p client) (correct_replica c s correct) receives in
          subst (λ (x : ℕ). Once (Answered s p t x) past) n (read_answered c s p t v.number v.answer past runs correct client said')

  -- the level at the acceptance is at least the number
  pub read_level_after : is_level c past vote.number ≡ true
  read_level_after = level_after c setting (invoke_past p past) past vote.number (λ s. is_alike vote (latest c p (history_of p past) t modes.ReadOnly s)) enough
      (λ s correct h. answered_high s p t vote.number past (answers s correct h))
      (λ s correct h. at_latest c s p t vote.number past runs client open' (answered_low s p t vote.number past (answers s correct h)))

  -- the level at the invocation is at most the number
  pub read_level_before : (k : ℕ) → vote.number < k → is_level c (invoke_past p past) k ≡ true → ⊥
  read_level_before = level_before c setting (invoke_past p past) past vote.number (λ s. is_alike vote (latest c p (history_of p past) t modes.ReadOnly s)) enough
      (λ s correct h. answered_high s p t vote.number past (answers s correct h))
      (λ s correct h. at_latest c s p t vote.number past runs client open' (answered_low s p t vote.number past (answers s correct h)))
