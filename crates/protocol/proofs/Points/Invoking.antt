-- Where a request that runs was invoked, or asked.
use Rattle.std.proofs.Common.{◌≡◌, ℕ, suc, ◌+◌, ◌-◌, ◌≤◌, ◌<◌, inl, inr, Bool, true, false, cond, List, [], ◌∷◌, ◌++◌, length, refl, sym, ap, ◌∙◌, subst, arith, ◌&&◌, Option, Some, None, is_some}
use Rattle.std.specs.Prelude.{nat_lt, nat_le}
use Rattle.std.proofs.lemmas.Bool.{and_parts, leb-true}
use Rattle.protocol.specs.System.Configuration.{Configuration, is_client, is_correct, is_correct_client, members}
use Rattle.terms.specs.declared.order.Mode.TheVariants as modes
use Rattle.wire_format.specs.Messages.{BodyData as Body, MessageData as Message, request as Request}
use Rattle.wire_format.specs.Words.{requests_of, said}
use Rattle.terms.specs.declared.order.Mode.{Mode}
use Rattle.signing.specs.AuthenticBody.{authentic}
use Rattle.protocol.specs.System.Frames.{same_mode}
use Rattle.protocol.specs.System.Trace.{Entry, party_of, history_of, Once, Always, frames_in, SendsBody, IsFromSender, IsUnforgedAt, Has}
use Rattle.protocol.specs.System.Trace.Entry.{Invoke, Got, Sent, Accepted}
use Rattle.protocol.specs.Replica.State.{Call, call_in, call_of}
use Rattle.protocol.specs.Client.RightClient.{SafeClient, MayAsk, MayRequest, OpenCall, open_call, last_call}
use Rattle.protocol.specs.Laws.Histories.{ExecutesBatch}
use Rattle.protocol.specs.Space.Linear.{Placing, batch_of, is_level, Invokes, EntryAsks}
use Rattle.std.specs.Bool.{then_some}
use Rattle.protocol.proofs.Words.Temporal.{once_weaker, once_always, once_once, once_in_history, once_in_trace}
use Rattle.protocol.proofs.Words.Options.{and_then_some, some_injective, given_once, then_some_gives}
use Rattle.protocol.proofs.Words.Linking.{Speaks, heard_said, sent_spoken}
use Rattle.protocol.proofs.Agreement.Voting.{correct_replica}
use Rattle.protocol.proofs.Agreement.States.{once_append}
use Rattle.protocol.proofs.Agreement.Executing.{executor, executed_committed}
use Rattle.protocol.proofs.Agreement.Asking.{AsksFrame, all_asked}
use Rattle.protocol.proofs.Points.Reading.{Runs, own_entries, asking, correct_client}
use Rattle.protocol.proofs.Points.Running.{Run, run_earlier, batch_is, level_executed}
use Rattle.protocol.proofs.Points.Ran.{Source}
use Rattle.tuple_codec.specs.Operations.{Operation}
use Rattle.protocol.proofs.Words.Elements.{each_has}

-- ---- an entry, and what lies around it

pub record At (Q : List Entry → Entry → Type 0) (xs : List Entry) : Type 0 where
  pub past : List Entry
  pub entry : Entry
  pub later : List Entry
  pub is : xs ≡ later ++ entry ∷ past
  pub holds : Q past entry

pub once_split : (Q : List Entry → Entry → Type 0) (xs : List Entry) → Once Q xs → At Q xs
once_split Q [] h = absurd h
once_split Q (e ∷ past) (inl h) = record { past = past; entry = e; later = []; is = refl; holds = h }
once_split Q (e ∷ past) (inr h) = let r = once_split Q past h in record { past = r.past; entry = r.entry; later = e ∷ r.later; is = ap (λ t. e ∷ t) r.is; holds = r.holds }

pub run_part : (c : Configuration) (later xs : List Entry) → Run c (later ++ xs) → Run c xs
run_part c [] xs r = r
run_part c (e ∷ later) xs r = run_part c later xs (run_earlier c e (later ++ xs) r)

pub once_within : (Q : List Entry → Entry → Type 0) (xs : List Entry) → Once Q xs → Once (λ past e. Q past e × (length past < length xs)) xs
once_within Q [] h = h
once_within Q (e ∷ past) (inl h) = inl (h, omega arith)
once_within Q (e ∷ past) (inr h) = inr (once_weaker (λ past' e'. Q past' e' × (length past' < length past)) (λ past' e'. Q past' e' × (length past' < suc (length past))) (λ past' e' t. (t.0, let l = t.1 in omega arith)) past (once_within Q past h))

-- ---- a client invoked each call that it sent a request of, with the operation

opened_op : (p t : ℕ) (op : Operation) (xs : List Entry) → Always (λ past e. party_of e ≡ p) xs → open_call xs ≡ Some (record { timestamp = t; op = op }) → Once (Invokes p t op) xs
opened_op p t op [] own h = absurd cc
opened_op p t op (Invoke client timestamp o ∷ past) own h =
    let e : ◌≡◌ {A = OpenCall} (record { timestamp = timestamp; op = o }) (record { timestamp = t; op = op }) = some_injective {A = OpenCall} (record { timestamp = timestamp; op = o }) (record { timestamp = t; op = op }) h in
    inl (own.0, ap (λ (x : OpenCall). x.timestamp) e, ap (λ (x : OpenCall). x.op) e)
opened_op p t op (Accepted client timestamp answer ∷ past) own h = absurd cc
opened_op p t op (_ ∷ past) own h = inr (opened_op p t op past own.1 h)

pub opened_invoked : (c : Configuration) (p : ℕ) (call : OpenCall) (xs : List Entry) → SafeClient c p xs → open_call xs ≡ Some call → Once (Invokes p call.timestamp call.op) xs
opened_invoked c p call xs r h = opened_op p call.timestamp call.op xs (own_entries c p xs r) h

pub asked_op : (c : Configuration) (p t : ℕ) (mode : Mode) (text : Operation) (xs : List Entry) → SafeClient c p xs → Once (Speaks (asking p t mode text)) xs → Once (Invokes p t text) xs
asked_op c p t mode text [] r h = absurd h
asked_op c p t mode text (e ∷ past) r (inr h) = inr (asked_op c p t mode text past r.1 h)
asked_op c p t mode text (Sent x bytes ∷ past) r (inl h) =
    let m = r.0.1 in
    let is : m.0 ≡ asking p t mode text = some_injective m.0 (asking p t mode text) (sym m.1 ∙ h) in
    let ask : MayRequest past t mode text = subst (λ (b : Body). MayAsk past b.message) is m.3 in
    inr (opened_op p t text past (own_entries c p past r.1) ask.0)
asked_op c p t mode text (Invoke x y z ∷ past) r (inl h) = absurd h
asked_op c p t mode text (_ ∷ past) r (inl h) = absurd h

invokes_any : (p t : ℕ) (op : Operation) (past other : List Entry) (e : Entry) → Invokes p t op past e → Invokes p t op other e
invokes_any p t op past other (Invoke x y z) h = h
invokes_any p t op past other _ h = absurd h

pub invoked_in_trace : (p t : ℕ) (op : Operation) (xs : List Entry) → Once (Invokes p t op) (history_of p xs) → Once (Invokes p t op) xs
invoked_in_trace p t op xs h = once_weaker (λ past e. (party_of e ≡ p) × Invokes p t op (history_of p past) e) (Invokes p t op) (λ past e u. invokes_any p t op (history_of p past) past e u.1) xs (once_in_trace (Invokes p t op) p xs h)

-- no earlier invocation has a later timestamp, and one timestamp has one operation
pub invokes_le : (c : Configuration) (p t : ℕ) (op : Operation) (xs : List Entry) → SafeClient c p xs → Once (Invokes p t op) xs → t ≤ last_call xs
invokes_le c p t op [] r h = absurd h
invokes_le c p t op (Invoke x y z ∷ past) r (inl h) = let e = h.1 in omega arith
invokes_le c p t op (Invoke x y z ∷ past) r (inr h) = let a = invokes_le c p t op past r.1 h in let n = r.0.1.0 in omega arith
invokes_le c p t op (_ ∷ past) r (inl h) = absurd h
invokes_le c p t op (_ ∷ past) r (inr h) = invokes_le c p t op past r.1 h

pub one_invocation : (c : Configuration) (p t : ℕ) (a b : Operation) (xs : List Entry) → SafeClient c p xs → Once (Invokes p t a) xs → Once (Invokes p t b) xs → a ≡ b
one_invocation c p t a b [] r h k = absurd h
one_invocation c p t a b (e ∷ past) r (inr h) (inr k) = one_invocation c p t a b past r.1 h k
one_invocation c p t a b (Invoke x y z ∷ past) r (inl h) (inl k) = sym h.2 ∙ k.2
one_invocation c p t a b (Invoke x y z ∷ past) r (inl h) (inr k) = let l = invokes_le c p t b past r.1 k in let n = r.0.1.0 in let e = h.1 in absurd (omega arith)
one_invocation c p t a b (Invoke x y z ∷ past) r (inr h) (inl k) = let l = invokes_le c p t a past r.1 h in let n = r.0.1.0 in let e = k.1 in absurd (omega arith)
one_invocation c p t a b (_ ∷ past) r (inl h) k = absurd h
one_invocation c p t a b (_ ∷ past) r (inr h) (inl k) = absurd k

-- ---- a sender sent each carried frame that is authentic

pub asks_said : (c : Configuration) (xs : List Entry) (frame : List ℕ) (body : Body) → Runs c xs → said frame ≡ Some body → is_correct c body.sender ≡ true
    → Once (AsksFrame c frame) xs → Once (Speaks body) (history_of body.sender xs)
unfolding AsksFrame
asks_said c xs frame body runs is from h =
    once_in_history (Speaks body) body.sender xs
    (once_once (λ past e. (party_of e ≡ body.sender) × Speaks body (history_of body.sender past) e) xs
    (once_weaker (λ past e. IsUnforgedAt c past e × AsksFrame c frame past e × Always (IsUnforgedAt c) past)
    (λ past e. Once (λ past e. (party_of e ≡ body.sender) × Speaks body (history_of body.sender past) e) past)
    step xs
    (once_always (IsUnforgedAt c) (AsksFrame c frame) xs runs.unforged h)))
  where
    known : (p : ℕ) (o : Option Body) → authentic (members c p) p frame ≡ o → is_some o ≡ true → authentic (members c p) p frame ≡ Some body
    known p None e s = absurd cc
    known p (Some b) e s =
        let said' : said frame ≡ Some b = heard_said c p frame b e in
        e ∙ sym said' ∙ is

    step : (past : List Entry) (e : Entry) → IsUnforgedAt c past e × AsksFrame c frame past e × Always (IsUnforgedAt c) past
        → Once (λ past e. (party_of e ≡ body.sender) × Speaks body (history_of body.sender past) e) past
    step past (Got q bytes) t =
        let receives = known q (authentic (members c q) q frame) refl t.1.1 in
        let each : IsFromSender c q past frame = each_has (IsFromSender c q past) (frames_in bytes) frame (t.0 (correct_replica c q t.1.0)) t.1.2 in
        once_weaker (SendsBody body) (λ past e. (party_of e ≡ body.sender) × Speaks body (history_of body.sender past) e)
        (sent_spoken body) past (each.receives body receives from)
    step past (Sent a b) t = absurd t.1
    step past _ t = absurd t.1

pub call_body : (c : Configuration) (frame : List ℕ) (call : Call) → call_of c frame ≡ Some call → said frame ≡ Some (asking (256 + call.client) call.timestamp modes.Ordered call.op)
call_body c frame call h =
    let r = and_then_some (call_in c) (said frame) call h in
    r.1 ∙ ap Some (go r.0.sender r.0.message r.2)
  where
    go : (sender : ℕ) (message : Message) → call_in c (record { sender = sender; message = message }) ≡ Some call → ◌≡◌ {A = Body} (record { sender = sender; message = message }) (asking (256 + call.client) call.timestamp modes.Ordered call.op)
    go sender (Request t mode op) h = test mode (is_client c sender) refl h
      where
        test : (x : Mode) (y : Bool) → is_client c sender ≡ y → cond (same_mode x modes.Ordered && y) (Some (let z : Call = record { client = sender - 256; timestamp = t; op = op } in z)) None ≡ Some call
            → ◌≡◌ {A = Body} (record { sender = sender; message = Request t x op }) (asking (256 + call.client) call.timestamp modes.Ordered call.op)
        test modes.Ordered true e h =
            let is : ◌≡◌ {A = Call} (record { client = sender - 256; timestamp = t; op = op }) call = some_injective {A = Call} (record { client = sender - 256; timestamp = t; op = op }) call h in
            let cl : sender - 256 ≡ call.client = ap (λ (x : Call). x.client) is in
            let u = and_parts (nat_le 256 sender) (nat_lt sender (256 + c.clients)) e in
            let a : 256 ≤ sender = leb-true 256 sender u.0 in
            let es : sender ≡ 256 + call.client = omega arith in
            let et : t ≡ call.timestamp = ap (λ (x : Call). x.timestamp) is in
            let eo : op ≡ call.op = ap (λ (x : Call). x.op) is in
            rw (es, et, eo) refl
        test modes.Ordered false e h = absurd cc
        test modes.ReadOnly y e h = absurd cc
    go sender _ h = absurd cc

pub asks_request : (c : Configuration) (frame : List ℕ) (sender t : ℕ) (op : Operation) → said frame ≡ Some (asking sender t modes.Ordered op) → (past : List Entry) (e : Entry) → AsksFrame c frame past e → EntryAsks c sender t op past e
unfolding AsksFrame
asks_request c frame sender t op is past (Got p bytes) h = (h.0, there (frames_in bytes) h.2)
  where
    known : (o : Option Body) → authentic (members c p) p frame ≡ o → is_some o ≡ true → authentic (members c p) p frame ≡ Some (asking sender t modes.Ordered op)
    known None e s = absurd cc
    known (Some b) e s =
        let said' : said frame ≡ Some b = heard_said c p frame b e in
        e ∙ sym said' ∙ is

    there : (xs : List (List ℕ)) → Has (λ x. x ≡ frame) xs → Has (λ x. authentic (members c p) p x ≡ Some (record { sender = sender; message = Request t modes.Ordered op })) xs
    there [] k = k
    there (x ∷ xs) (inl k) = inl (subst (λ (y : List ℕ). authentic (members c p) p y ≡ Some (asking sender t modes.Ordered op)) (sym k) (known (authentic (members c p) p frame) refl h.1))
    there (x ∷ xs) (inr k) = inr (there xs k)
asks_request c frame sender t op is past _ h = absurd h

-- ---- the requests that ran

-- a request that is executed was asked before
pub executed_asked : (c : Configuration) (xs : List Entry) (k : ℕ) (b : List ℕ) → Run c xs → Once (ExecutesBatch c k b) xs → (frame : List ℕ) (call : Call) → Has (λ x. x ≡ frame) (requests_of b) → call_of c frame ≡ Some call
    → Once (AsksFrame c frame) xs
executed_asked c xs k b run h frame call has is =
    let p = executor c k b xs h in
    let ready = executed_committed c xs p.0 k b run.runs.replicas p.1 p.2 in
    all_asked c run.setting xs run.runs.replicas run.runs.unforged run.apart ready.view p.0 k b p.1 ready.committed.prepared.logged frame call has is

module _ (c : Configuration) (trace : List Entry) (run : Run c trace) (x : Placing) (s : Source c trace x) (positive : 1 ≤ x.number) where
  -- the request was asked at the point's position, or before
  source_asked : At (λ past e. (length past ≡ s.position) × Once (AsksFrame c s.from.frame) (e ∷ past)) trace
  source_asked =
      let given = given_once (λ past e. then_some (is_level c (e ∷ past) s.number) (length past)) s.position trace s.place in
      let at = once_split (λ past e. then_some (is_level c (e ∷ past) s.number) (length past) ≡ Some s.position) trace given in
      let g = then_some_gives (is_level c (at.entry ∷ at.past) s.number) (length at.past) s.position at.holds in
      let whole : Run c (at.later ++ at.entry ∷ at.past) = subst (Run c) at.is run in
      let here : Run c (at.entry ∷ at.past) = run_part c at.later (at.entry ∷ at.past) whole in
      let number : x.number ≡ s.number = ap (λ (y : Placing). y.number) s.is in
      let one : 1 ≤ s.number = omega arith in
      let self : s.number ≤ s.number = omega arith in
      let ex = level_executed c (at.entry ∷ at.past) s.number here g.0 s.number one self in
      let there : Once (ExecutesBatch c s.number ex.0) trace = subst (λ (t : List Entry). Once (ExecutesBatch c s.number ex.0) t) (sym at.is) (once_append (ExecutesBatch c s.number ex.0) at.later (at.entry ∷ at.past) ex.1) in
      let same : batch_of trace s.number ≡ ex.0 = batch_is c trace s.number ex.0 run there in
      let has : Has (λ y. y ≡ s.from.frame) (requests_of ex.0) = subst (λ (b : List ℕ). Has (λ y. y ≡ s.from.frame) (requests_of b)) same s.from.is_there in
      record {
        past = at.past;
        entry = at.entry;
        later = at.later;
        is = at.is;
        holds = (g.1, executed_asked c (at.entry ∷ at.past) s.number ex.0 here ex.1 s.from.frame s.ran.call has s.from.is_call);
      }

  spelled : said s.from.frame ≡ Some (asking (256 + s.ran.call.client) s.ran.call.timestamp modes.Ordered s.ran.call.op)
  spelled = call_body c s.from.frame s.ran.call s.from.is_call

  whole_once : (Q : List Entry → Entry → Type 0) (at : At (λ past e. (length past ≡ s.position) × Once (AsksFrame c s.from.frame) (e ∷ past)) trace) → Once Q (at.entry ∷ at.past) → Once (λ past e. Q past e × (length past ≤ s.position)) trace
  whole_once Q at h =
      let n = at.holds.0 in
      let near : Once (λ past e. Q past e × (length past ≤ s.position)) (at.entry ∷ at.past) =
      once_weaker (λ past e. Q past e × (length past < length (at.entry ∷ at.past))) (λ past e. Q past e × (length past ≤ s.position))
      (λ past e t. (t.0, let l = t.1 in omega arith)) (at.entry ∷ at.past) (once_within Q (at.entry ∷ at.past) h) in
      subst (λ (t : List Entry). Once (λ past e. Q past e × (length past ≤ s.position)) t) (sym at.is) (once_append (λ past e. Q past e × (length past ≤ s.position)) at.later (at.entry ∷ at.past) near)

  pub ran_asked : Once (λ past e. EntryAsks c x.item.client x.item.timestamp x.item.op past e × (length past ≤ x.item.position)) trace
  ran_asked =
      let at = source_asked in
      subst (λ (y : Placing). Once (λ past e. EntryAsks c y.item.client y.item.timestamp y.item.op past e × (length past ≤ y.item.position)) trace) (sym s.is)
      (whole_once (EntryAsks c (256 + s.ran.call.client) s.ran.call.timestamp s.ran.call.op) at
      (once_weaker (AsksFrame c s.from.frame) (EntryAsks c (256 + s.ran.call.client) s.ran.call.timestamp s.ran.call.op)
      (asks_request c s.from.frame (256 + s.ran.call.client) s.ran.call.timestamp s.ran.call.op spelled) (at.entry ∷ at.past) at.holds.1))

  pub ran_invoked : is_correct_client c x.item.client ≡ true → Once (λ past e. Invokes x.item.client x.item.timestamp x.item.op past e × (length past ≤ x.item.position)) trace
  ran_invoked correct =
      let at = source_asked in
      let client : is_correct_client c (256 + s.ran.call.client) ≡ true = subst (λ (y : Placing). is_correct_client c y.item.client ≡ true) s.is correct in
      let whole : Run c (at.later ++ at.entry ∷ at.past) = subst (Run c) at.is run in
      let here : Run c (at.entry ∷ at.past) = run_part c at.later (at.entry ∷ at.past) whole in
      let says = asks_said c (at.entry ∷ at.past) s.from.frame (asking (256 + s.ran.call.client) s.ran.call.timestamp modes.Ordered s.ran.call.op) here.runs spelled (correct_client c (256 + s.ran.call.client) client) at.holds.1 in
      let invoked = asked_op c (256 + s.ran.call.client) s.ran.call.timestamp modes.Ordered s.ran.call.op (history_of (256 + s.ran.call.client) (at.entry ∷ at.past)) (here.runs.clients (256 + s.ran.call.client) client) says in
      subst (λ (y : Placing). Once (λ past e. Invokes y.item.client y.item.timestamp y.item.op past e × (length past ≤ y.item.position)) trace) (sym s.is)
      (whole_once (Invokes (256 + s.ran.call.client) s.ran.call.timestamp s.ran.call.op) at
      (invoked_in_trace (256 + s.ran.call.client) s.ran.call.timestamp s.ran.call.op (at.entry ∷ at.past) invoked))
