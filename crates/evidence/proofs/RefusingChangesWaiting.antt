-- The definitions refuse that a request waits too short or too long.
use Rattle.std.proofs.Common.{◌≡◌, ℕ, ◌+◌, ◌-◌, ◌<◌, ◌⊎◌, inl, inr, Bool, true, false, cond, not, filter, ◌&&◌, ◌||◌, List, [], ◌∷◌, ◌++◌, refl, sym, ap, ◌∙◌, subst, arith, Option, Some, None, eqb-true}
use Rattle.std.specs.Prelude.{◌==◌, nat_lt, option_and_then}
use Rattle.std.specs.List.{list_all}
use Rattle.std.specs.Option.{option_map_or}
use Rattle.std.proofs.lemmas.Bool.{le-leb, lt-ltb, ltb-true}
use Rattle.protocol.specs.System.Configuration.{Configuration, is_client, members}
use Rattle.terms.specs.declared.order.Mode.TheVariants as modes
use Rattle.wire_format.specs.Messages.{BodyData as Body, request as Request}
use Rattle.signing.specs.AuthenticBody.{authentic}
use Rattle.protocol.specs.System.Trace.{Entry, Has}
use Rattle.protocol.specs.System.Trace.Entry.{Invoke, Got, Tick, Executed, Installed, Sent, Accepted}
use Rattle.protocol.specs.Replica.State.{State, Call, call_in, execute, last_time}
use Rattle.protocol.specs.Replica.RightReplica.{Point, May, MovesPoint, is_newer, with_waiting, waiting_after, still_waiting}
use Rattle.evidence.specs.RefusedChanges.{is_other, WaitsOnceGot, WaitsOverFrames, WaitsUntilRun, WaitsNoLonger}
use Rattle.protocol.proofs.Words.Elements.{every_has, each_with, has_left, has_right, has_weaker}
use Rattle.wire_format.specs.Lists.{Each}

-- ---- lists

has_filtered : {A : Type 0} (test : A → Bool) (xs : List A) (x : A) → test x ≡ true → Has (λ y. y ≡ x) xs → Has (λ y. y ≡ x) (filter test xs)
has_filtered test [] x t h = absurd h
has_filtered test (y ∷ ys) x t h = go (test y) refl h (has_filtered test ys x t)
  where
    go : (b : Bool) → test y ≡ b → (y ≡ x) ⊎ Has (λ z. z ≡ x) ys → (Has (λ z. z ≡ x) ys → Has (λ z. z ≡ x) (filter test ys)) → Has (λ z. z ≡ x) (cond b (y ∷ filter test ys) (filter test ys))
    go true e (inl k) below = inl k
    go true e (inr k) below = inr (below k)
    go false e (inl k) below = absurd (let bad : false ≡ true = sym e ∙ ap test k ∙ t in cc)
    go false e (inr k) below = below k

each_filtered : {A : Type 0} (P : A → Type 0) (test : A → Bool) → (xs : List A) → ((x : A) → test x ≡ true → P x) → Each P (filter test xs)
each_filtered P test [] f = tt
each_filtered P test (x ∷ xs) f = go (test x) refl (each_filtered P test xs f)
  where
    go : (b : Bool) → test x ≡ b → Each P (filter test xs) → Each P (cond b (x ∷ filter test xs) (filter test xs))
    go true e below = (f x e, below)
    go false e below = below

each_kept : {A : Type 0} (P : A → Type 0) (test : A → Bool) → (xs : List A) → Each P xs → Each P (filter test xs)
each_kept P test [] h = tt
each_kept P test (x ∷ xs) h = go (test x) (each_kept P test xs h.1)
  where
    go : (b : Bool) → Each P (filter test xs) → Each P (cond b (x ∷ filter test xs) (filter test xs))
    go true below = (h.0, below)
    go false below = below

-- ---- the replica receives a request

newest_of : (calls : List Call) (call : Call) → Each (λ (x : Call). x.client ≡ call.client → x.timestamp < call.timestamp) calls → list_all (is_newer call) calls ≡ true
newest_of [] call h = refl
newest_of (x ∷ calls) call h = go (x.client == call.client) refl (newest_of calls call h.1)
  where
    go : (b : Bool) → (x.client == call.client) ≡ b → list_all (is_newer call) calls ≡ true → ((not b || nat_lt x.timestamp call.timestamp) && list_all (is_newer call) calls) ≡ true
    go true e below = rw (lt-ltb x.timestamp call.timestamp (h.0 (eqb-true x.client call.client e))) below
    go false e below = below

pub waits_once_got : WaitsOnceGot
waits_once_got c me k timestamp op bytes past receives small newest point leaves =
    let old = leaves.0 in
    let n = newest old leaves.1 in
    subst (λ (calls : List Call). Has (λ x. x ≡ call) calls) (sym (ap (λ (q : Point). q.waiting) leaves.2.moves ∙ after old))
    (subst (λ (b : Bool). Has (λ x. x ≡ call) (cond b (filter (λ (other : Call). not (other.client == call.client)) old.waiting ++ call ∷ []) old.waiting)) (sym (taken old n.0 n.1))
    (has_right (λ x. x ≡ call) (filter (λ (other : Call). not (other.client == call.client)) old.waiting) (call ∷ []) (inl refl)))
  where
    call : Call
    call = record { client = k; timestamp = timestamp; op = op }

    in_clients : is_client c (256 + k) ≡ true
    in_clients =
        rw (le-leb 256 (256 + k) (omega arith), lt-ltb (256 + k) (256 + c.clients) (omega (arith, small))) refl

    calls : call_in c (record { sender = 256 + k; message = Request timestamp modes.Ordered op }) ≡ Some call
    calls =
        ap (λ (b : Bool). cond b (let x : Call = record { client = 256 + k - 256; timestamp = timestamp; op = op } in Some x) None) in_clients
        ∙ ap (λ (n : ℕ). let x : Call = record { client = n; timestamp = timestamp; op = op } in Some x) (omega arith)

    after : (old : Point) → waiting_after c me old bytes ≡ with_waiting old.state old.waiting call
    after old =
        ap (λ (o : Option Body). option_map_or (with_waiting old.state old.waiting) (option_and_then (call_in c) o) old.waiting) receives
        ∙ ap (λ (o : Option Call). option_map_or (with_waiting old.state old.waiting) o old.waiting) calls

    taken : (old : Point) → last_time old.state k < timestamp → Each (λ (x : Call). x.client ≡ k → x.timestamp < timestamp) old.waiting
        → (nat_lt (last_time old.state k) timestamp && list_all (is_newer call) old.waiting) ≡ true
    taken old newer newest = rw (lt-ltb (last_time old.state k) timestamp newer) (newest_of old.waiting call newest)

-- ---- over a frame

abbrev WaitsOrNewer : Call → Call → Type 0
WaitsOrNewer call x = (x ≡ call) ⊎ ((x.client ≡ call.client) × (call.timestamp < x.timestamp))

over_request : (st : State) (waiting : List Call) (call new : Call) → Has (λ x. x ≡ call) waiting → Has (WaitsOrNewer call) (with_waiting st waiting new)
over_request st waiting call new h = go (nat_lt (last_time st new.client) new.timestamp) (list_all (is_newer new) waiting) refl
  where
    newer : list_all (is_newer new) waiting ≡ true → Has (WaitsOrNewer call) (filter (λ (other : Call). not (other.client == new.client)) waiting ++ new ∷ [])
    newer all = pick (call.client == new.client) refl (every_has (is_newer new) waiting call all h)
      where
        pick : (b : Bool) → (call.client == new.client) ≡ b → (not b || nat_lt call.timestamp new.timestamp) ≡ true
            → Has (WaitsOrNewer call) (filter (λ (other : Call). not (other.client == new.client)) waiting ++ new ∷ [])
        pick true e t =
            has_right (WaitsOrNewer call) (filter (λ (other : Call). not (other.client == new.client)) waiting) (new ∷ [])
            (inl (inr (sym (eqb-true call.client new.client e), ltb-true call.timestamp new.timestamp t)))
        pick false e t =
            has_left (WaitsOrNewer call) (filter (λ (other : Call). not (other.client == new.client)) waiting) (new ∷ [])
            (has_weaker (λ x. x ≡ call) (WaitsOrNewer call) (λ x same. inl same) (filter (λ (other : Call). not (other.client == new.client)) waiting)
            (has_filtered (λ (other : Call). not (other.client == new.client)) waiting call (ap not e) h))

    go : (a b : Bool) → list_all (is_newer new) waiting ≡ b → Has (WaitsOrNewer call) (cond (a && b) (filter (λ (other : Call). not (other.client == new.client)) waiting ++ new ∷ []) waiting)
    go true true e = newer e
    go true false e = has_weaker (λ x. x ≡ call) (WaitsOrNewer call) (λ x same. inl same) waiting h
    go false b e = has_weaker (λ x. x ≡ call) (WaitsOrNewer call) (λ x same. inl same) waiting h

pub waits_over_frames : WaitsOverFrames
waits_over_frames c me call bytes past waits point leaves =
    subst (λ (calls : List Call). Has (WaitsOrNewer call) calls) (sym (ap (λ (q : Point). q.waiting) leaves.2.moves))
    (go (option_and_then (call_in c) (authentic (members c me) me bytes)) (waits leaves.0 leaves.1))
  where
    go : (o : Option Call) → Has (λ x. x ≡ call) leaves.0.waiting → Has (WaitsOrNewer call) (option_map_or (with_waiting leaves.0.state leaves.0.waiting) o leaves.0.waiting)
    go None h = has_weaker (λ x. x ≡ call) (WaitsOrNewer call) (λ x same. inl same) leaves.0.waiting h
    go (Some new) h = over_request leaves.0.state leaves.0.waiting call new h

-- ---- over another entry

still : (st : State) (waiting : List Call) (call : Call) → last_time st call.client < call.timestamp → Has (λ x. x ≡ call) waiting → Has (λ x. x ≡ call) (still_waiting st waiting)
still st waiting call above h = has_filtered (λ (x : Call). nat_lt (last_time st x.client) x.timestamp) waiting call (lt-ltb (last_time st call.client) call.timestamp above) h

-- the waiting requests after an entry other than a received frame
waiting_behind : (c : Configuration) (me : ℕ) (past : List Entry) (old : Point) (e : Entry) (new : Point) → is_other e ≡ true → May c me past old e → MovesPoint c me past old e new
    → (new.waiting ≡ old.waiting) ⊎ (new.waiting ≡ still_waiting new.state old.waiting)
waiting_behind c me past old (Got p bytes) new is may move = absurd cc
waiting_behind c me past old (Tick p) new is may move = inl (ap (λ (q : Point). q.waiting) move)
waiting_behind c me past old (Sent p bytes) new is may move = inl (ap (λ (q : Point). q.waiting) move)
waiting_behind c me past old (Executed p k batch) new is may move = inr (ap (λ (q : Point). q.waiting) move ∙ ap (λ (st : State). still_waiting st old.waiting) (sym (ap (λ (q : Point). q.state) move)))
waiting_behind c me past old (Installed p k root) new is may move = inr move.waiting
waiting_behind c me past old (Invoke x y z) new is may move = absurd may
waiting_behind c me past old (Accepted x y z) new is may move = absurd may

pub waits_until_run : WaitsUntilRun
waits_until_run c me call e past is waits point leaves above = go (waiting_behind c me past leaves.0 e point is leaves.2.may leaves.2.moves) (waits leaves.0 leaves.1)
  where
    go : (point.waiting ≡ leaves.0.waiting) ⊎ (point.waiting ≡ still_waiting point.state leaves.0.waiting) → Has (λ x. x ≡ call) leaves.0.waiting → Has (λ x. x ≡ call) point.waiting
    go (inl same) h = subst (λ (calls : List Call). Has (λ x. x ≡ call) calls) (sym same) h
    go (inr same) h = subst (λ (calls : List Call). Has (λ x. x ≡ call) calls) (sym same) (still point.state leaves.0.waiting call above h)

-- ---- waiting requests have not run

abbrev AllNew : State → List Call → Type 0
AllNew st waiting = Each (λ (call : Call). last_time st call.client < call.timestamp) waiting

with_new : (st : State) (waiting : List Call) (call : Call) → AllNew st waiting → AllNew st (with_waiting st waiting call)
with_new st waiting call h = go (nat_lt (last_time st call.client) call.timestamp) (list_all (is_newer call) waiting) refl
  where
    go : (a b : Bool) → nat_lt (last_time st call.client) call.timestamp ≡ a → AllNew st (cond (a && b) (filter (λ (other : Call). not (other.client == call.client)) waiting ++ call ∷ []) waiting)
    go true true e =
        each_with (λ (x : Call). last_time st x.client < x.timestamp) (filter (λ (other : Call). not (other.client == call.client)) waiting) call
        (each_kept (λ (x : Call). last_time st x.client < x.timestamp) (λ (other : Call). not (other.client == call.client)) waiting h) (ltb-true (last_time st call.client) call.timestamp e)
    go true false e = h
    go false b e = h

still_new : (st : State) (waiting : List Call) → AllNew st (still_waiting st waiting)
still_new st waiting = each_filtered (λ (x : Call). last_time st x.client < x.timestamp) (λ (x : Call). nat_lt (last_time st x.client) x.timestamp) waiting (λ x t. ltb-true (last_time st x.client) x.timestamp t)

pub waits_no_longer : WaitsNoLonger
waits_no_longer c me [] point leaves = subst (λ (q : Point). AllNew q.state q.waiting) (sym leaves) tt
waits_no_longer c me (e ∷ past) point leaves = go e leaves.2.may leaves.2.moves (waits_no_longer c me past leaves.0 leaves.1)
  where
    got : (o : Option Call) → AllNew leaves.0.state leaves.0.waiting → AllNew leaves.0.state (option_map_or (with_waiting leaves.0.state leaves.0.waiting) o leaves.0.waiting)
    got None h = h
    got (Some call) h = with_new leaves.0.state leaves.0.waiting call h

    go : (e : Entry) → May c me past leaves.0 e → MovesPoint c me past leaves.0 e point → AllNew leaves.0.state leaves.0.waiting → AllNew point.state point.waiting
    go (Got p bytes) may move was = subst (λ (q : Point). AllNew q.state q.waiting) (sym move) (got (option_and_then (call_in c) (authentic (members c me) me bytes)) was)
    go (Tick p) may move was = subst (λ (q : Point). AllNew q.state q.waiting) (sym move) was
    go (Sent p bytes) may move was = subst (λ (q : Point). AllNew q.state q.waiting) (sym move) was
    go (Executed p k batch) may move was = subst (λ (q : Point). AllNew q.state q.waiting) (sym move) (still_new (execute c leaves.0.state batch) leaves.0.waiting)
    go (Installed p k root) may move was = subst (λ (calls : List Call). AllNew point.state calls) (sym move.waiting) (still_new point.state leaves.0.waiting)
    go (Invoke x y z) may move was = absurd may
    go (Accepted x y z) may move was = absurd may
