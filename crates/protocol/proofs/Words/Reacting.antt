-- A client may give the outputs of its events; and so may a replica.
use Rattle.std.proofs.Common.{◌≡◌, ℕ, inl, inr, Bool, true, false, not, cond, List, [], ◌∷◌, ◌++◌, ◌≤◌, ◌<◌, suc, arith, refl, sym, ap, ◌∙◌, subst, ◌&&◌, Option, Some, None, reverse}
use Rattle.std.proofs.lemmas.List.{append-nil}
use Rattle.std.specs.Prelude.{option_and_then, ⊤}
use Rattle.std.specs.Option.{option_map_or}
use Rattle.space.specs.Applying.{is_read_only}
use Rattle.terms.specs.declared.order.Mode.{Mode}
use Rattle.terms.specs.declared.order.Mode.TheVariants as modes
use Rattle.tuple_codec.specs.Operations.{Operation, Outcome}
use Rattle.protocol.specs.System.Configuration.{Configuration, replicas, members}
use Rattle.wire_format.specs.Messages.{MessageData as Message, request as Request}
use Rattle.wire_format.specs.Words.{said}
use Rattle.protocol.specs.System.Trace.{Entry, party_of, is_output, Always, either}
use Rattle.protocol.specs.System.Trace.Entry.{Invoke, Got, Tick, Executed, Installed, Sent, Accepted}
use Rattle.protocol.specs.Client.RightClient.{OpenCall, open_call, last_call, last_call_above, Vote, reply_vote, later_vote, latest, is_alike, newest_vote, is_complete, went_ordered, is_answered, Reaction, fallback, on_reply, on_got, first_mode, reaction, IsReaction, MayInput, Reacts, IsLife, IsClient, IsClientOfLives, MayAccept, MayAsk, MayClient, SafeClient}
use Rattle.protocol.specs.Client.RightClient.Reaction.{nothing, asks, accepts}
use Rattle.protocol.specs.Client.RightClient.IsClientOfLives.{unborn, lives}
use Rattle.protocol.specs.Replica.Selection.{is_quorum}
use Rattle.signing.specs.AuthenticBody.{authentic}
use Rattle.quorum.proofs.Counting.{count_same}
use Rattle.protocol.specs.Replica.RightReplica.{first_point, Point, HistoryReaches, SafeReplica, waiting_after}
use Rattle.protocol.specs.Replica.Owed.{Owes, HistoryIsPrompt, IsInput, IsReplica}

-- ---- the outputs of an event

module _ (c : Configuration) (me start : ℕ) where
  -- an event has one output at most
  pub one_output : (x y : Entry) (outputs xs : List Entry) → Reacts c me start (reaction c me) (x ∷ y ∷ outputs) xs → ⊥
  one_output x y outputs [] h = cc
  one_output x y outputs (e ∷ past) h = go (is_output e) h.1 (one_output e x (y ∷ outputs) past)
    where
      two : (r : Reaction) → IsReaction c me r (x ∷ y ∷ outputs) → ⊥
      two nothing k = cc
      two (asks mode call) k = let bad : x ∷ y ∷ outputs ≡ Sent me k.0 ∷ [] = k.1 in cc
      two (accepts t a) k = let bad : x ∷ y ∷ outputs ≡ Accepted k.0 t a ∷ [] = k.1 in cc

      go : (b : Bool) → either b (Reacts c me start (reaction c me) (e ∷ x ∷ y ∷ outputs) past) (MayInput start past e × IsReaction c me (reaction c me (e ∷ past)) (x ∷ y ∷ outputs) × Reacts c me start (reaction c me) [] past)
          → (Reacts c me start (reaction c me) (e ∷ x ∷ y ∷ outputs) past → ⊥) → ⊥
      go true k below = below k
      go false k below = two (reaction c me (e ∷ past)) k.1

-- ---- the calls of one life

-- a call of a life: it has the next timestamp, and none is open
abbrev pub CallsNext : ℕ → List Entry → Entry → Type 0
CallsNext start past (Invoke client t op) = MayInput start past (Invoke client t op)
CallsNext start past _ = ⊤

module _ (c : Configuration) (me start : ℕ) where
  reacts_next : (outputs xs : List Entry) → Reacts c me start (reaction c me) outputs xs → Always (CallsNext start) xs
  reacts_next outputs [] h = tt
  reacts_next outputs (Invoke x y z ∷ past) h = (h.1.0, reacts_next [] past h.1.2)
  reacts_next outputs (Got x y ∷ past) h = (tt, reacts_next [] past h.1.2)
  reacts_next outputs (Tick x ∷ past) h = (tt, reacts_next [] past h.1.2)
  reacts_next outputs (Executed x y z ∷ past) h = (tt, reacts_next (Executed x y z ∷ outputs) past h.1)
  reacts_next outputs (Installed x y z ∷ past) h = (tt, reacts_next (Installed x y z ∷ outputs) past h.1)
  reacts_next outputs (Sent x y ∷ past) h = (tt, reacts_next (Sent x y ∷ outputs) past h.1)
  reacts_next outputs (Accepted x y z ∷ past) h = (tt, reacts_next (Accepted x y z ∷ outputs) past h.1)

  pub calls_next : (xs : List Entry) → IsLife c me start xs → Always (CallsNext start) xs
  calls_next [] h = tt
  calls_next (e ∷ past) (inl h) = reacts_next [] (e ∷ past) h
  calls_next (Invoke x y z ∷ past) (inr h) = (h.1, calls_next past h.2)
  calls_next (_ ∷ past) (inr h) = (tt, calls_next past h.2)

-- ---- a client's reactions

falls_back : (c : Configuration) (me : ℕ) (now : List Entry) (call x : OpenCall) (mode : Mode) → fallback c me now call ≡ asks mode x → (x ≡ call) × (mode ≡ modes.Ordered)
falls_back c me now call x mode h = go (not (went_ordered now call.timestamp) && is_answered c me now call.timestamp) h
  where
    go : (b : Bool) → cond b (asks modes.Ordered call) nothing ≡ asks mode x → (x ≡ call) × (mode ≡ modes.Ordered)
    go true h = (sym (called h), sym (in_mode h))
      where
        called : asks modes.Ordered call ≡ asks mode x → call ≡ x
        called e = cc

        in_mode : asks modes.Ordered call ≡ asks mode x → modes.Ordered ≡ mode
        in_mode e = cc
    go false h = absurd cc

falls_not : (c : Configuration) (me : ℕ) (now : List Entry) (call : OpenCall) (t : ℕ) (a : Outcome) → fallback c me now call ≡ accepts t a → ⊥
falls_not c me now call t a h = go (not (went_ordered now call.timestamp) && is_answered c me now call.timestamp) h
  where
    go : (b : Bool) → cond b (asks modes.Ordered call) nothing ≡ accepts t a → ⊥
    go true h = cc
    go false h = cc

not_read : (mode : Mode) → mode ≡ modes.Ordered → mode ≡ modes.ReadOnly → (X : Type 0) → X
not_read modes.Ordered e f X = absurd cc
not_read modes.ReadOnly e f X = absurd cc

-- a call whose first request is read-only is a read
first_read : (op : Operation) → first_mode op ≡ modes.ReadOnly → is_read_only op ≡ true
first_read op h = go (is_read_only op) h
  where
    go : (b : Bool) → cond b modes.ReadOnly modes.Ordered ≡ modes.ReadOnly → b ≡ true
    go true h = refl
    go false h = absurd cc

got_asks : (c : Configuration) (me : ℕ) (now : List Entry) (call x : OpenCall) (mode : Mode) → on_got c me now call ≡ asks mode x → (x ≡ call) × (mode ≡ modes.Ordered)
got_asks c me now call x mode h = go (newest_vote c me now call.timestamp) h
  where
    go : (o : Option Vote) → option_map_or (on_reply c me now call) o nothing ≡ asks mode x → (x ≡ call) × (mode ≡ modes.Ordered)
    go None h = absurd cc
    go (Some vote) h = test (is_complete c me now call.timestamp vote) h
      where
        test : (b : Bool) → cond b (accepts call.timestamp vote.answer) (fallback c me now call) ≡ asks mode x → (x ≡ call) × (mode ≡ modes.Ordered)
        test true h = absurd cc
        test false h = falls_back c me now call x mode h

client_asks : (c : Configuration) (me : ℕ) (now : List Entry) (mode : Mode) (call : OpenCall) → reaction c me now ≡ asks mode call → (open_call now ≡ Some call) × (mode ≡ modes.ReadOnly → is_read_only call.op ≡ true)
client_asks c me [] mode call h = absurd cc
client_asks c me (Invoke client t op ∷ past) mode call h =
    let same : ◌≡◌ {A = OpenCall} (record { timestamp = t; op = op }) call = called h in
    (ap Some same, λ e. ap (λ (o : OpenCall). is_read_only o.op) (sym same) ∙ first_read op (in_mode h ∙ e))
  where
    called : asks (first_mode op) (let x : OpenCall = record { timestamp = t; op = op } in x) ≡ asks mode call → ◌≡◌ {A = OpenCall} (record { timestamp = t; op = op }) call
    called e = cc

    in_mode : asks (first_mode op) (let x : OpenCall = record { timestamp = t; op = op } in x) ≡ asks mode call → first_mode op ≡ mode
    in_mode e = cc
client_asks c me (Got p bytes ∷ past) mode call h = go (open_call past) h
  where
    go : (o : Option OpenCall) → option_map_or (on_got c me (Got p bytes ∷ past)) o nothing ≡ asks mode call → (o ≡ Some call) × (mode ≡ modes.ReadOnly → is_read_only call.op ≡ true)
    go None h = absurd cc
    go (Some x) h = let r = got_asks c me (Got p bytes ∷ past) x call mode h in (ap Some (sym r.0), λ e. not_read mode r.1 e (is_read_only call.op ≡ true))
client_asks c me (Tick p ∷ past) mode call h = go (open_call past) h
  where
    go : (o : Option OpenCall) → option_map_or (asks modes.Ordered) o nothing ≡ asks mode call → (o ≡ Some call) × (mode ≡ modes.ReadOnly → is_read_only call.op ≡ true)
    go None h = absurd cc
    go (Some x) h = (ap Some (called h), λ e. not_read mode (sym (in_mode h)) e (is_read_only call.op ≡ true))
      where
        called : asks modes.Ordered x ≡ asks mode call → x ≡ call
        called e = cc

        in_mode : asks modes.Ordered x ≡ asks mode call → modes.Ordered ≡ mode
        in_mode e = cc
client_asks c me (_ ∷ past) mode call h = absurd cc

accepted : (t u : ℕ) (a b : Outcome) → accepts t a ≡ accepts u b → (t ≡ u) × (a ≡ b)
accepted t u a b e = (cc, cc)

client_accepts : (c : Configuration) (me : ℕ) (now : List Entry) (t : ℕ) (a : Outcome) → reaction c me now ≡ accepts t a → MayAccept c me now t a
client_accepts c me [] t a h = absurd cc
client_accepts c me (Got p bytes ∷ past) t a h = go (open_call past) refl h
  where
    go : (o : Option OpenCall) → open_call past ≡ o → option_map_or (on_got c me (Got p bytes ∷ past)) o nothing ≡ accepts t a → MayAccept c me (Got p bytes ∷ past) t a
    go None is h = absurd cc
    go (Some call) is h = votes (newest_vote c me (Got p bytes ∷ past) call.timestamp) refl h
      where
        votes : (o : Option Vote) → newest_vote c me (Got p bytes ∷ past) call.timestamp ≡ o → option_map_or (on_reply c me (Got p bytes ∷ past) call) o nothing ≡ accepts t a → MayAccept c me (Got p bytes ∷ past) t a
        votes None e h = absurd cc
        votes (Some vote) e h = test (is_complete c me (Got p bytes ∷ past) call.timestamp vote) refl h
          where
            test : (b : Bool) → is_complete c me (Got p bytes ∷ past) call.timestamp vote ≡ b → cond b (accepts call.timestamp vote.answer) (fallback c me (Got p bytes ∷ past) call) ≡ accepts t a → MayAccept c me (Got p bytes ∷ past) t a
            test true f h =
                let s = accepted call.timestamp t vote.answer a h in
                (call, vote, is, s.0, s.1, subst (λ (i : ℕ). newest_vote c me (Got p bytes ∷ past) i ≡ Some vote) s.0 e, f)
            test false f h = absurd (falls_not c me (Got p bytes ∷ past) call t a h)
client_accepts c me (Tick x ∷ past) t a h = absurd (go (open_call past) h)
  where
    go : (o : Option OpenCall) → option_map_or (asks modes.Ordered) o nothing ≡ accepts t a → ⊥
    go None h = cc
    go (Some x) h = cc
client_accepts c me (_ ∷ past) t a h = absurd cc

-- ---- a later life knows what it would know alone

-- from its first call on the earlier lives say nothing of the open call, of replies to it and of the last timestamp
open_over : (call : OpenCall) (earlier past : List Entry) → open_call past ≡ Some call → open_call (past ++ earlier) ≡ Some call
open_over call earlier [] h = absurd cc
open_over call earlier (Invoke client t op ∷ past) h = h
open_over call earlier (Accepted client t answer ∷ past) h = absurd cc
open_over call earlier (_ ∷ past) h = open_over call earlier past h

latest_over : (c : Configuration) (me t : ℕ) (mode : Mode) (s : ℕ) (call : OpenCall) (earlier past : List Entry) → open_call past ≡ Some call
    → latest c me (past ++ earlier) t mode s ≡ latest c me past t mode s
unfolding latest
latest_over c me t mode s call earlier [] h = absurd cc
latest_over c me t mode s call earlier (Invoke client x op ∷ past) h = refl
latest_over c me t mode s call earlier (Accepted client x answer ∷ past) h = absurd cc
latest_over c me t mode s call earlier (Got p bytes ∷ past) h =
    ap (later_vote mode (option_and_then (reply_vote me t s) (authentic (members c me) me bytes))) (latest_over c me t mode s call earlier past h)
latest_over c me t mode s call earlier (_ ∷ past) h = latest_over c me t mode s call earlier past h

newest_over : (c : Configuration) (me t : ℕ) (vote : Vote) (earlier past : List Entry) → newest_vote c me past t ≡ Some vote → newest_vote c me (past ++ earlier) t ≡ Some vote
newest_over c me t vote earlier [] h = absurd cc
newest_over c me t vote earlier (e ∷ past) h = h

complete_over : (c : Configuration) (me : ℕ) (vote : Vote) (call : OpenCall) (earlier past : List Entry) → open_call past ≡ Some call
    → is_complete c me past call.timestamp vote ≡ true → is_complete c me (past ++ earlier) call.timestamp vote ≡ true
complete_over c me vote call earlier past h k =
    ap (is_quorum c) (count_same (λ s. is_alike vote (latest c me (past ++ earlier) call.timestamp vote.mode s)) (λ s. is_alike vote (latest c me past call.timestamp vote.mode s))
    (λ s. ap (is_alike vote) (latest_over c me call.timestamp vote.mode s call earlier past h)) (replicas c)) ∙ k

last_over : (start : ℕ) (earlier past : List Entry) → last_call earlier ≤ start → last_call (past ++ earlier) ≤ last_call_above start past
last_over start earlier [] h = h
last_over start earlier (Invoke client t op ∷ past) h = omega arith
last_over start earlier (Got x y ∷ past) h = last_over start earlier past h
last_over start earlier (Tick x ∷ past) h = last_over start earlier past h
last_over start earlier (_ ∷ past) h = last_over start earlier past h

-- ---- it may do what it gives, after whatever earlier lives did

module _ (c : Configuration) (me start : ℕ) (earlier : List Entry) (above : last_call earlier ≤ start) where
  asks_over : (now : List Entry) (mode : Mode) (call : OpenCall) → reaction c me now ≡ asks mode call → MayAsk (now ++ earlier) (Request call.timestamp mode call.op)
  asks_over now mode call is = let may = client_asks c me now mode call is in (open_over call earlier now may.0, may.1)

  accepts_over : (now : List Entry) (t : ℕ) (a : Outcome) → MayAccept c me now t a → MayAccept c me (now ++ earlier) t a
  accepts_over now t a m =
      (m.0, m.1, open_over m.0 earlier now m.2, m.3, m.4, newest_over c me t m.1 earlier now m.5, complete_over c me m.1 m.0 earlier now m.2 m.6)

  -- the client may have the output
  output_may : (e : Entry) (outputs now : List Entry) (r : Reaction) → reaction c me now ≡ r → IsReaction c me r (e ∷ outputs) → MayClient (MayAccept c me) me (now ++ earlier) e
  output_may e outputs now nothing is h = absurd cc
  output_may e outputs now (asks mode call) is h = subst (MayClient (MayAccept c me) me (now ++ earlier)) (sym (head e (Sent me h.0) outputs h.1)) asked
    where
      head : (x y : Entry) (xs : List Entry) → x ∷ xs ≡ y ∷ [] → x ≡ y
      head x y xs e = cc

      asked : MayClient (MayAccept c me) me (now ++ earlier) (Sent me h.0)
      asked = (record { sender = me; message = Request call.timestamp mode call.op }, h.2.says, refl, asks_over now mode call is)
  output_may e outputs now (accepts t a) is h =
      subst (MayClient (MayAccept c me) me (now ++ earlier)) (sym (head e (Accepted h.0 t a) outputs h.1)) (accepts_over now t a (client_accepts c me now t a is))
    where
      head : (x y : Entry) (xs : List Entry) → x ∷ xs ≡ y ∷ [] → x ≡ y
      head x y xs e = cc

  behind : (e : Entry) (outputs past : List Entry) → Reacts c me start (reaction c me) (e ∷ outputs) past → MayClient (MayAccept c me) me (past ++ earlier) e
  behind e outputs [] h = absurd cc
  behind e outputs (f ∷ past) h = go (is_output f) h.1
    where
      go : (b : Bool) → either b (Reacts c me start (reaction c me) (f ∷ e ∷ outputs) past) (MayInput start past f × IsReaction c me (reaction c me (f ∷ past)) (e ∷ outputs) × Reacts c me start (reaction c me) [] past)
          → MayClient (MayAccept c me) me (f ∷ past ++ earlier) e
      go true k = absurd (one_output c me start f e outputs past k)
      go false k = output_may e outputs (f ∷ past) (reaction c me (f ∷ past)) refl k.1

  input_may : (past : List Entry) (e : Entry) → MayInput start past e → MayClient (MayAccept c me) me (past ++ earlier) e
  input_may past (Invoke client t op) h = (let last = last_over start earlier past above in let next = h.0 in omega arith, h.2)
  input_may past (Got x y) h = tt
  input_may past (Tick x) h = tt
  input_may past _ h = absurd h

  reacts_right : (outputs xs : List Entry) → Reacts c me start (reaction c me) outputs xs → SafeClient c me earlier → SafeClient c me (xs ++ earlier)
  reacts_right outputs [] h before = before
  reacts_right outputs (e ∷ past) h before = go (is_output e) h.1 (λ k. reacts_right (e ∷ outputs) past k before) (λ k. reacts_right [] past k before)
    where
      go : (b : Bool) → either b (Reacts c me start (reaction c me) (e ∷ outputs) past) (MayInput start past e × IsReaction c me (reaction c me (e ∷ past)) outputs × Reacts c me start (reaction c me) [] past)
          → (Reacts c me start (reaction c me) (e ∷ outputs) past → SafeClient c me (past ++ earlier)) → (Reacts c me start (reaction c me) [] past → SafeClient c me (past ++ earlier))
          → SafeClient c me (e ∷ past ++ earlier)
      go true k more none = ((h.0, behind e outputs past k), more k)
      go false k more none = ((h.0, input_may past e k.0), none k.2)

  pub is_life_right : (xs : List Entry) → IsLife c me start xs → SafeClient c me earlier → SafeClient c me (xs ++ earlier)
  is_life_right [] h before = before
  is_life_right (e ∷ past) (inl h) before = reacts_right [] (e ∷ past) h before
  is_life_right (e ∷ past) (inr h) before = ((h.0, input_may past e h.1), is_life_right past h.2 before)

module _ (c : Configuration) (me : ℕ) where
  -- all lives together are a safe client's
  pub are_lives_right : (xs : List Entry) → IsClientOfLives c me xs → SafeClient c me xs
  are_lives_right _ unborn = tt
  are_lives_right _ (lives start life earlier before above is) =
      is_life_right c me start earlier above life is (are_lives_right earlier before)

  -- one life from the start on is a client's lives
  pub one_life : (xs : List Entry) → IsClient c me xs → IsClientOfLives c me xs
  one_life xs h =
      let none : last_call [] ≤ 0 = omega arith in
      let alone : IsClientOfLives c me (xs ++ []) = lives 0 xs [] unborn none h in
      subst (IsClientOfLives c me) (append-nil xs) alone

  pub is_client_right : (xs : List Entry) → IsClient c me xs → SafeClient c me xs
  is_client_right xs h = are_lives_right xs (one_life xs h)

  -- a safe client's frame is its request for the open call, read-only for a read alone
  pub asks_its_call : (bytes : List ℕ) (past : List Entry) → SafeClient c me (Sent me bytes ∷ past)
      → (mode : Mode) × (call : OpenCall) × (said bytes ≡ Some (record { sender = me; message = Request call.timestamp mode call.op }))
      × (open_call past ≡ Some call) × (mode ≡ modes.ReadOnly → is_read_only call.op ≡ true)
  asks_its_call bytes past right = let may = right.0.1 in go may.0.sender may.0.message may.1 may.2 may.3
    where
      go : (s : ℕ) (m : Message) → said bytes ≡ Some (record { sender = s; message = m }) → s ≡ me → MayAsk past m
          → (mode : Mode) × (call : OpenCall) × (said bytes ≡ Some (record { sender = me; message = Request call.timestamp mode call.op }))
          × (open_call past ≡ Some call) × (mode ≡ modes.ReadOnly → is_read_only call.op ≡ true)
      go s (Request t mode op) says own ask =
          (mode, record { timestamp = t; op = op }, subst (λ (n : ℕ). said bytes ≡ Some (record { sender = n; message = Request t mode op })) own says, ask.0, ask.1)
      go s _ says own ask = absurd ask

-- ---- a replica

pub one_of : (b : Bool) (X Y Z : Type 0) → either b X Y → (X → Z) → (Y → Z) → Z
one_of true X Y Z k f g = f k
one_of false X Y Z k f g = g k

pub proceeds_leaves : (c : Configuration) (me : ℕ) (xs outputs : List Entry) (new point : Point) → HistoryIsPrompt c me xs outputs new point → HistoryReaches c me xs point
proceeds_leaves c me [] outputs new point h = h.0
proceeds_leaves c me (e ∷ past) outputs new point h = (
  h.0,
  one_of (is_output e) (HistoryIsPrompt c me past (e ∷ outputs) new h.0) (Owes c me past e outputs (reverse outputs ++ e ∷ past) h.0 new × HistoryIsPrompt c me past [] h.0 h.0) (HistoryReaches c me past h.0) h.2
      (proceeds_leaves c me past (e ∷ outputs) new h.0) (λ k. proceeds_leaves c me past [] h.0 h.0 k.1),
  h.1,
)

pub is_replica_right : (c : Configuration) (me : ℕ) (xs : List Entry) → IsReplica c me xs → SafeReplica c me xs
is_replica_right c me [] h = (first_point, refl)
is_replica_right c me (e ∷ past) (inl h) = (h.0, proceeds_leaves c me (e ∷ past) [] h.0 h.0 h.1)
is_replica_right c me (e ∷ past) (inr h) = go e h.0 h.1 (is_replica_right c me past h.2)
  where
    go : (e : Entry) → party_of e ≡ me → IsInput e → SafeReplica c me past → SafeReplica c me (e ∷ past)
    go (Got p bytes) own i r =
        (record r.0 { ran = []; waiting = waiting_after c me r.0 bytes }, (r.0, r.1, record { own = own; may = tt; moves = refl }))
    go (Tick p) own i r = (record r.0 { ran = [] }, (r.0, r.1, record { own = own; may = tt; moves = refl }))
    go _ own i r = absurd i

leaves_own : (c : Configuration) (me : ℕ) (xs : List Entry) (point : Point) → HistoryReaches c me xs point → Always (λ past e. party_of e ≡ me) xs
leaves_own c me [] point h = tt
leaves_own c me (e ∷ past) point h = (h.2.own, leaves_own c me past h.0 h.1)

-- it has entries of its own alone
pub replicas_have_own : (c : Configuration) (me : ℕ) (history : List Entry) → IsReplica c me history → Always (λ past e. party_of e ≡ me) history
replicas_have_own c me history right = let safe = is_replica_right c me history right in leaves_own c me history safe.0 safe.1
