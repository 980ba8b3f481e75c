-- A request that a replica received waits there until it ran; and the primary numbers its waiting requests.
use Rattle.std.proofs.Common.{◌≡◌, ℕ, ◌+◌, ◌-◌, ◌≤◌, ◌⊎◌, inl, inr, Bool, true, false, not, cond, List, [], ◌∷◌, ◌++◌, Option, Some, None, reverse, refl, sym, ap, ◌∙◌, subst, arith, append_assoc, ◌&&◌, ◌||◌, eqb-true}
use Rattle.std.specs.Prelude.{◌==◌, nat_lt, filter, option_and_then}
use Rattle.std.specs.List.{list_all}
use Rattle.std.specs.Option.{option_map_or}
use Rattle.std.proofs.lemmas.Bool.{and_parts, ltb-true, ltb-false, or_parts, not-false}
use Rattle.tuple_codec.specs.Operations.{Operation}
use Rattle.terms.specs.declared.order.Mode.TheVariants as modes
use Rattle.wire_format.specs.Messages.{BodyData as Body}
use Rattle.signing.specs.AuthenticBody.{authentic}
use Rattle.protocol.specs.System.Configuration.{Configuration, primary, is_client, is_correct_replica, is_correct_client, members}
use Rattle.protocol.specs.System.Trace.{Entry, is_output, history_of, Once, Has, Receives}
use Rattle.protocol.specs.System.Trace.Entry.{Invoke, Got, Tick, Executed, Installed, Sent, Accepted}
use Rattle.protocol.specs.Replica.State.{State, Call, call_in, execute, last_time}
use Rattle.protocol.specs.Replica.RightReplica.{Point, HistoryReaches, MovesPoint, IsFree, is_newer, with_waiting, still_waiting}
use Rattle.protocol.specs.Replica.Certificates.{is_active_in}
use Rattle.protocol.specs.Replica.Owed.{Owes, HistoryIsPrompt, IsNumbered}
use Rattle.protocol.specs.Client.RightClient.{OpenCall, open_call, SafeClient}
use Rattle.protocol.specs.Space.Linear.{Invokes}
use Rattle.protocol.proofs.Words.Elements.{has_filter, has_filtered, has_either, has_left, has_right, every_has}
use Rattle.protocol.proofs.Words.Linking.{heard_said, heard_was_said}
use Rattle.protocol.proofs.Words.Reacting.{one_of}
use Rattle.protocol.proofs.Agreement.Voting.{correct_replica}
use Rattle.protocol.proofs.Agreement.States.{once_append}
use Rattle.protocol.proofs.Points.Reading.{asking, correct_client}
use Rattle.protocol.proofs.Points.Running.{Run}
use Rattle.protocol.proofs.Points.Invoking.{call_body, asked_op, opened_invoked, one_invocation, invokes_le}
use Rattle.protocol.proofs.Points.Accepting.{open_last}
use Rattle.progress.proofs.Flipping.{next_output}
use Rattle.progress.proofs.Keeping.{times_grow}

-- ---- waiting requests were received

call_heard : (c : Configuration) (me : ℕ) (bytes : List ℕ) (body : Body) (call : Call) → authentic (members c me) me bytes ≡ Some body → call_in c body ≡ Some call
    → authentic (members c me) me bytes ≡ Some (asking (256 + call.client) call.timestamp modes.Ordered call.op)
call_heard c me bytes body call receives is =
    let says = heard_said c me bytes body receives in
    receives ∙ sym says ∙ call_body c bytes call (ap (option_and_then (call_in c)) says ∙ is)

-- one more waits, or the same as before
with_cases : (st : State) (waiting : List Call) (call other : Call) → Has (λ x. x ≡ other) (with_waiting st waiting call) → Has (λ x. x ≡ other) waiting ⊎ (call ≡ other)
with_cases st waiting call other h = go (nat_lt (last_time st call.client) call.timestamp && list_all (is_newer call) waiting) h
  where
    one : Has (λ x. x ≡ other) (filter (λ x. not (x.client == call.client)) waiting) ⊎ Has (λ x. x ≡ other) (call ∷ []) → Has (λ x. x ≡ other) waiting ⊎ (call ≡ other)
    one (inl k) = inl (has_filter (λ x. x ≡ other) (λ x. not (x.client == call.client)) waiting k)
    one (inr (inl same)) = inr same
    one (inr (inr k)) = absurd k

    go : (b : Bool) → Has (λ x. x ≡ other) (cond b (filter (λ x. not (x.client == call.client)) waiting ++ call ∷ []) waiting) → Has (λ x. x ≡ other) waiting ⊎ (call ≡ other)
    go true k = one (has_either (λ x. x ≡ other) (filter (λ x. not (x.client == call.client)) waiting) (call ∷ []) k)
    go false k = inl k

waits_heard : (c : Configuration) (me : ℕ) (xs : List Entry) (point : Point) → HistoryReaches c me xs point → (other : Call) → Has (λ x. x ≡ other) point.waiting
    → Once (Receives c me (asking (256 + other.client) other.timestamp modes.Ordered other.op)) xs
waits_heard c me [] point leaves other h = absurd (subst (λ (p : Point). Has (λ x. x ≡ other) p.waiting) leaves h)
waits_heard c me (e ∷ past) point leaves other h = go e leaves.2.moves (waits_heard c me past leaves.0 leaves.1 other)
  where
    got : (p : ℕ) (bytes : List ℕ) (o : Option Body) → authentic (members c me) me bytes ≡ o
        → Has (λ x. x ≡ other) (option_map_or (with_waiting leaves.0.state leaves.0.waiting) (option_and_then (call_in c) o) leaves.0.waiting)
        → (Has (λ x. x ≡ other) leaves.0.waiting → Once (Receives c me (asking (256 + other.client) other.timestamp modes.Ordered other.op)) past)
        → Once (Receives c me (asking (256 + other.client) other.timestamp modes.Ordered other.op)) (Got p bytes ∷ past)
    got p bytes None receives k below = inr (below k)
    got p bytes (Some body) receives k below = calls (call_in c body) refl k
      where
        calls : (u : Option Call) → call_in c body ≡ u → Has (λ x. x ≡ other) (option_map_or (with_waiting leaves.0.state leaves.0.waiting) u leaves.0.waiting)
            → Once (Receives c me (asking (256 + other.client) other.timestamp modes.Ordered other.op)) (Got p bytes ∷ past)
        calls None is k = inr (below k)
        calls (Some call) is k = pick (with_cases leaves.0.state leaves.0.waiting call other k)
          where
            pick : Has (λ x. x ≡ other) leaves.0.waiting ⊎ (call ≡ other) → Once (Receives c me (asking (256 + other.client) other.timestamp modes.Ordered other.op)) (Got p bytes ∷ past)
            pick (inl k) = inr (below k)
            pick (inr same) = inl (subst (λ (x : Call). authentic (members c me) me bytes ≡ Some (asking (256 + x.client) x.timestamp modes.Ordered x.op)) same (call_heard c me bytes body call receives is))

    go : (e : Entry) → MovesPoint c me past leaves.0 e point → (Has (λ x. x ≡ other) leaves.0.waiting → Once (Receives c me (asking (256 + other.client) other.timestamp modes.Ordered other.op)) past)
        → Once (Receives c me (asking (256 + other.client) other.timestamp modes.Ordered other.op)) (e ∷ past)
    go (Got p bytes) move below = got p bytes (authentic (members c me) me bytes) refl (subst (λ (q : Point). Has (λ x. x ≡ other) q.waiting) move h) below
    go (Tick p) move below = inr (below (subst (λ (q : Point). Has (λ x. x ≡ other) q.waiting) move h))
    go (Sent p bytes) move below = inr (below (subst (λ (q : Point). Has (λ x. x ≡ other) q.waiting) move h))
    go (Invoke x y z) move below = inr (below (subst (λ (q : Point). Has (λ x. x ≡ other) q.waiting) move h))
    go (Accepted x y z) move below = inr (below (subst (λ (q : Point). Has (λ x. x ≡ other) q.waiting) move h))
    go (Executed r k batch) move below =
        inr (below (has_filter (λ x. x ≡ other) (λ x. nat_lt (last_time (execute c leaves.0.state batch) x.client) x.timestamp) leaves.0.waiting (subst (λ (q : Point). Has (λ x. x ≡ other) q.waiting) move h)))
    go (Installed r k root) move below =
        inr (below (has_filter (λ x. x ≡ other) (λ x. nat_lt (last_time point.state x.client) x.timestamp) leaves.0.waiting (subst (λ (xs : List Call). Has (λ x. x ≡ other) xs) move.waiting h)))

-- ---- at the end of a history an active primary has numbered all waiting requests, while a number is free

pub all_numbered : (c : Configuration) (me v n : ℕ) (call : Call) → primary c v ≡ me → (xs outputs : List Entry) (new point : Point) → (outputs ≡ [] → new ≡ point) → HistoryIsPrompt c me xs outputs new point
    → is_active_in c (reverse outputs ++ xs) v ≡ true → Has (λ x. x ≡ call) new.waiting → IsFree c me (reverse outputs ++ xs) new.state.number v n
    → IsNumbered c me (reverse outputs ++ xs) v call.client call.timestamp
all_numbered c me v n call own [] outputs new point ending h active waits free =
    absurd (subst (λ (p : Point). Has (λ x. x ≡ call) p.waiting) (ending h.1 ∙ h.0) waits)
all_numbered c me v n call own (e ∷ past) outputs new point ending h active waits free =
    one_of (is_output e) (HistoryIsPrompt c me past (e ∷ outputs) new h.0) (Owes c me past e outputs (reverse outputs ++ e ∷ past) h.0 new × HistoryIsPrompt c me past [] h.0 h.0)
    (IsNumbered c me (reverse outputs ++ e ∷ past) v call.client call.timestamp) h.2
    (λ p. subst (λ (xs : List Entry). IsNumbered c me xs v call.client call.timestamp) (sym (next_output outputs past e))
    (all_numbered c me v n call own past (e ∷ outputs) new h.0 (λ none. absurd cc) p (subst (λ (xs : List Entry). is_active_in c xs v ≡ true) (next_output outputs past e) active) waits
    (subst (λ (xs : List Entry). IsFree c me xs new.state.number v n) (next_output outputs past e) free)))
    (λ p. p.0.numbers v n call active own waits free)

-- ---- a request of an open call waits, once it is received, until it ran

module _ (c : Configuration) (trace : List Entry) (run : Run c trace) (k : ℕ) (client : is_correct_client c (256 + k) ≡ true) (call : OpenCall)
    (opened : open_call (history_of (256 + k) trace) ≡ Some call) (r : ℕ) (correct : is_correct_replica c r ≡ true) where
  abbrev me : ℕ
  me = 256 + k

  abbrev its : Call
  its = record { client = k; timestamp = call.timestamp; op = call.op }

  safe : SafeClient c me (history_of me trace)
  safe = run.runs.clients me client

  -- of its client no later request is received, and of its timestamp no other
  heard_most : (t : ℕ) (op : Operation) → Once (Receives c r (asking me t modes.Ordered op)) (history_of r trace) → (t ≤ call.timestamp) × (t ≡ call.timestamp → op ≡ call.op)
  heard_most t op h =
      let said' = heard_was_said c trace r (asking me t modes.Ordered op) run.runs.unforged (correct_replica c r correct) (correct_client c me client) h in
      let invoked = asked_op c me t modes.Ordered op (history_of me trace) safe said' in
      let l = invokes_le c me t op (history_of me trace) safe invoked in
      let last = open_last (history_of me trace) call opened in (
        (let g : t ≤ call.timestamp = omega arith in g),
        λ same. one_invocation c me call.timestamp op call.op (history_of me trace) safe (subst (λ (i : ℕ). Once (Invokes me i op) (history_of me trace)) same invoked) (opened_invoked c me call (history_of me trace) safe opened),
      )

  abbrev Waits : Point → Type 0
  Waits point = Has (λ x. x ≡ its) point.waiting ⊎ (call.timestamp ≤ last_time point.state k)

  -- its client's waiting request is not later
  waiting_most : (later past : List Entry) (point : Point) → history_of r trace ≡ later ++ past → HistoryReaches c r past point → (other : Call) → Has (λ x. x ≡ other) point.waiting → other.client ≡ k
      → (other.timestamp ≤ call.timestamp) × (other.timestamp ≡ call.timestamp → other ≡ its)
  waiting_most later past point splits leaves other h own =
      let there = waits_heard c r past point leaves other h in
      let mine : Once (Receives c r (asking me other.timestamp modes.Ordered other.op)) past = subst (λ (x : ℕ). Once (Receives c r (asking (256 + x) other.timestamp modes.Ordered other.op)) past) own there in
      let whole : Once (Receives c r (asking me other.timestamp modes.Ordered other.op)) (history_of r trace) =
      subst (λ (xs : List Entry). Once (Receives c r (asking me other.timestamp modes.Ordered other.op)) xs) (sym splits) (once_append (Receives c r (asking me other.timestamp modes.Ordered other.op)) later past mine) in
      let m = heard_most other.timestamp other.op whole in
      (m.0, λ same. (rw (own, same, (m.1 same)) refl))

  -- ---- one more request

  keep_waiting : (st : State) (waiting : List Call) (other : Call) → (other.client ≡ k → other.timestamp ≤ call.timestamp) → Has (λ x. x ≡ its) waiting → Has (λ x. x ≡ its) (with_waiting st waiting other)
  keep_waiting st waiting other most h = go (nat_lt (last_time st other.client) other.timestamp && list_all (is_newer other) waiting) refl
    where
      apart : list_all (is_newer other) waiting ≡ true → (b : Bool) → (k == other.client) ≡ b → Has (λ x. x ≡ its) (filter (λ x. not (x.client == other.client)) waiting)
      apart newer true e =
          let n : (not (k == other.client) || nat_lt call.timestamp other.timestamp) ≡ true = every_has (is_newer other) waiting its newer h in
          let later : nat_lt call.timestamp other.timestamp ≡ true = subst (λ (b : Bool). (not b || nat_lt call.timestamp other.timestamp) ≡ true) e n in
          let l = ltb-true call.timestamp other.timestamp later in
          let m = most (sym (eqb-true k other.client e)) in
          absurd (omega arith)
      apart newer false e = has_filtered (λ x. x ≡ its) (λ x. not (x.client == other.client)) (λ x same. ap (λ (y : Call). not (y.client == other.client)) same ∙ ap not e) waiting h

      go : (b : Bool) → (nat_lt (last_time st other.client) other.timestamp && list_all (is_newer other) waiting) ≡ b
          → Has (λ x. x ≡ its) (cond b (filter (λ x. not (x.client == other.client)) waiting ++ other ∷ []) waiting)
      go true e =
          has_left (λ x. x ≡ its) (filter (λ x. not (x.client == other.client)) waiting) (other ∷ [])
          (apart (and_parts (nat_lt (last_time st other.client) other.timestamp) (list_all (is_newer other) waiting) e).1 (k == other.client) refl)
      go false e = h

  -- an element for which the test fails
  some_fails : (test : Call → Bool) (xs : List Call) → list_all test xs ≡ false → (x : Call) × Has (λ y. y ≡ x) xs × (test x ≡ false)
  some_fails test [] h = absurd cc
  some_fails test (x ∷ xs) h = go (test x) refl h (some_fails test xs)
    where
      go : (b : Bool) → test x ≡ b → (b && list_all test xs) ≡ false → (list_all test xs ≡ false → (y : Call) × Has (λ z. z ≡ y) xs × (test y ≡ false)) → (y : Call) × Has (λ z. z ≡ y) (x ∷ xs) × (test y ≡ false)
      go true e k below = let b = below k in (b.0, inr b.1, b.2)
      go false e k below = (x, inl refl, e)

  new_waits : (st : State) (waiting : List Call)
      → ((other : Call) → Has (λ x. x ≡ other) waiting → other.client ≡ k → (other.timestamp ≤ call.timestamp) × (other.timestamp ≡ call.timestamp → other ≡ its))
      → Has (λ x. x ≡ its) (with_waiting st waiting its) ⊎ (call.timestamp ≤ last_time st k)
  new_waits st waiting most = go (nat_lt (last_time st k) call.timestamp) refl (list_all (is_newer its) waiting) refl
    where
      older : (list_all (is_newer its) waiting ≡ false) → Has (λ x. x ≡ its) waiting
      older e =
          let x = some_fails (is_newer its) waiting e in
          let p = or_parts (not (x.0.client == k)) (nat_lt x.0.timestamp call.timestamp) x.2 in
          let l = ltb-false x.0.timestamp call.timestamp p.1 in
          let m = most x.0 x.1 (eqb-true x.0.client k (not-false (x.0.client == k) p.0)) in
          let u = m.0 in
          subst (λ (y : Call). Has (λ z. z ≡ y) waiting) (m.1 (omega arith)) x.1

      go : (a : Bool) → nat_lt (last_time st k) call.timestamp ≡ a → (b : Bool) → list_all (is_newer its) waiting ≡ b
          → Has (λ x. x ≡ its) (cond (a && b) (filter (λ x. not (x.client == k)) waiting ++ its ∷ []) waiting) ⊎ (call.timestamp ≤ last_time st k)
      go true e true f = inl (has_right (λ x. x ≡ its) (filter (λ x. not (x.client == k)) waiting) (its ∷ []) (inl refl))
      go true e false f = inl (older f)
      go false e b f = inr (ltb-false (last_time st k) call.timestamp e)

  -- ---- over an entry

  -- it waits, unless it ran
  still_waits : (st : State) (waiting : List Call) → Has (λ x. x ≡ its) waiting → Has (λ x. x ≡ its) (still_waiting st waiting) ⊎ (call.timestamp ≤ last_time st k)
  still_waits st waiting h = go (nat_lt (last_time st k) call.timestamp) refl
    where
      go : (b : Bool) → nat_lt (last_time st k) call.timestamp ≡ b → Has (λ x. x ≡ its) (still_waiting st waiting) ⊎ (call.timestamp ≤ last_time st k)
      go true e = inl (has_filtered (λ x. x ≡ its) (λ x. nat_lt (last_time st x.client) x.timestamp) (λ x same. ap (λ (y : Call). nat_lt (last_time st y.client) y.timestamp) same ∙ e) waiting h)
      go false e = inr (ltb-false (last_time st k) call.timestamp e)

  one_more : (newer past : List Entry) (e : Entry) (old point : Point) → history_of r trace ≡ newer ++ e ∷ past → HistoryReaches c r past old → HistoryReaches c r (e ∷ past) point → MovesPoint c r past old e point → Waits old → Waits point
  one_more newer past e old point splits before behind move (inr l) =
      let grows = times_grow c trace run r newer (e ∷ []) past old point k correct splits before behind in
      inr (omega arith)
  one_more newer past (Got p bytes) old point splits before behind move (inl h) = subst Waits (sym move) (inl (go (authentic (members c r) r bytes) refl))
    where
      calls : (body : Body) → authentic (members c r) r bytes ≡ Some body → (u : Option Call) → call_in c body ≡ u → Has (λ x. x ≡ its) (option_map_or (with_waiting old.state old.waiting) u old.waiting)
      calls body receives None is = h
      calls body receives (Some other) is = keep_waiting old.state old.waiting other most h
        where
          most : other.client ≡ k → other.timestamp ≤ call.timestamp
          most own =
              let there : Once (Receives c r (asking (256 + other.client) other.timestamp modes.Ordered other.op)) (Got p bytes ∷ past) = inl (call_heard c r bytes body other receives is) in
              let whole : Once (Receives c r (asking (256 + other.client) other.timestamp modes.Ordered other.op)) (history_of r trace) =
              subst (λ (xs : List Entry). Once (Receives c r (asking (256 + other.client) other.timestamp modes.Ordered other.op)) xs) (sym splits)
              (once_append (Receives c r (asking (256 + other.client) other.timestamp modes.Ordered other.op)) newer (Got p bytes ∷ past) there) in
              (heard_most other.timestamp other.op (subst (λ (x : ℕ). Once (Receives c r (asking (256 + x) other.timestamp modes.Ordered other.op)) (history_of r trace)) own whole)).0

      go : (o : Option Body) → authentic (members c r) r bytes ≡ o → Has (λ x. x ≡ its) (option_map_or (with_waiting old.state old.waiting) (option_and_then (call_in c) o) old.waiting)
      go None receives = h
      go (Some body) receives = calls body receives (call_in c body) refl
  one_more newer past (Executed p n batch) old point splits before behind move (inl h) = subst Waits (sym move) (still_waits (execute c old.state batch) old.waiting h)
  one_more newer past (Installed p n root) old point splits before behind move (inl h) = go (still_waits point.state old.waiting h)
    where
      go : Has (λ x. x ≡ its) (still_waiting point.state old.waiting) ⊎ (call.timestamp ≤ last_time point.state k) → Waits point
      go (inl w) = inl (subst (λ (xs : List Call). Has (λ x. x ≡ its) xs) (sym move.waiting) w)
      go (inr l) = inr l
  one_more newer past _ old point splits before behind move (inl h) = subst Waits (sym move) (inl h)

  -- ---- from its coming on

  is_the_call : call_in c (asking me call.timestamp modes.Ordered call.op) ≡ Some its
  is_the_call =
      let known : is_client c me ≡ true = (and_parts (is_client c me) _ client).0 in
      ap (λ (b : Bool). cond {A = Option Call} b (Some (record { client = me - 256; timestamp = call.timestamp; op = call.op })) None) known
      ∙ ap (λ (x : ℕ). let y : Call = record { client = x; timestamp = call.timestamp; op = call.op } in Some y) (omega arith)

  pub waits_since : (request : List ℕ) → authentic (members c r) r request ≡ Some (asking me call.timestamp modes.Ordered call.op)
      → (newer middle past : List Entry) (point : Point) → history_of r trace ≡ newer ++ (middle ++ Got r request ∷ past) → HistoryReaches c r (middle ++ Got r request ∷ past) point
      → Has (λ x. x ≡ its) point.waiting ⊎ (call.timestamp ≤ last_time point.state k)
  waits_since request receives newer [] past point splits leaves =
      subst Waits (sym leaves.2.moves)
      (subst (λ (o : Option Body). Has (λ x. x ≡ its) (option_map_or (with_waiting leaves.0.state leaves.0.waiting) (option_and_then (call_in c) o) leaves.0.waiting) ⊎ (call.timestamp ≤ last_time leaves.0.state k)) (sym receives)
      (subst (λ (o : Option Call). Has (λ x. x ≡ its) (option_map_or (with_waiting leaves.0.state leaves.0.waiting) o leaves.0.waiting) ⊎ (call.timestamp ≤ last_time leaves.0.state k)) (sym is_the_call)
      (new_waits leaves.0.state leaves.0.waiting
      (λ other h own. waiting_most (newer ++ Got r request ∷ []) past leaves.0 (splits ∙ sym (append_assoc newer (Got r request ∷ []) past)) leaves.1 other h own))))
  waits_since request receives newer (e ∷ middle) past point splits leaves =
      one_more newer (middle ++ Got r request ∷ past) e leaves.0 point splits leaves.1 leaves leaves.2.moves
      (waits_since request receives (newer ++ e ∷ []) middle past leaves.0 (splits ∙ sym (append_assoc newer (e ∷ []) (middle ++ Got r request ∷ past))) leaves.1)
