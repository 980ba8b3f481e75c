-- Where a client that goes on gives nothing.
use Rattle.std.proofs.Common.{◌≡◌, ℕ, zero, suc, not, ◌+◌, ◌*◌, ◌≤◌, ◌<◌, inl, inr, Bool, true, false, cond, List, [], ◌∷◌, refl, sym, ap, ◌∙◌, subst, arith, ◌&&◌, Option, Some, None, eqb-true, eq-eqb, reverse}
use Rattle.std.proofs.lemmas.List.{reverse-reverse}
use Rattle.std.specs.Prelude.{◌==◌, nat_le, is_some, option_and_then}
use Rattle.std.specs.Option.{option_map_or}
use Rattle.std.proofs.lemmas.Bool.{eqb-false, and_parts, leb-true, or_left, or_right}
use Rattle.tuple_codec.specs.Operations.{Outcome}
use Rattle.quorum.specs.Quorum.{count_below}
use Rattle.std.specs.Bool.{then_some}
use Rattle.quorum.proofs.Counting.{count_not}
use Rattle.protocol.specs.System.Configuration.{Configuration, replicas, members}
use Rattle.terms.specs.declared.order.Mode.{Mode}
use Rattle.terms.specs.declared.order.Mode.TheVariants as modes
use Rattle.wire_format.specs.Messages.{BodyData as Body, MessageData as Message, request as Request, reply as Reply}
use Rattle.signing.specs.AuthenticBody.{authentic}
use Rattle.wire_format.specs.Words.{said}
use Rattle.protocol.specs.System.Trace.{Entry, party_of, Once}
use Rattle.protocol.specs.System.Trace.Entry.{Invoke, Got, Tick, Sent, Accepted}
use Rattle.protocol.specs.Client.RightClient.{OpenCall, last_call, open_call, Vote, reply_vote, newest_vote, latest, count_alike, is_complete, is_ordered_request_of, went_ordered, is_answered, Reaction, fallback, on_reply, on_got, reaction, IsReaction, IsClient, MayAccept, MayAsk, MayClient, SafeClient}
use Rattle.protocol.specs.Client.RightClient.Reaction.{nothing, asks, accepts}
use Rattle.evidence.specs.RefusedRuns.{going_on, AsksOrdered}
use Rattle.evidence.specs.Clients.{WaitsForAnswers, FallsBackOnce, IgnoresOthers, RestsWithoutCall}
use Rattle.protocol.proofs.Words.Options.{some_injective}
use Rattle.protocol.proofs.Words.Reacting.{is_client_right}
use Rattle.evidence.proofs.RefusingRuns.{vote_in, brings, gave, always_behind}

nothing_only : (c : Configuration) (me : ℕ) (r : Reaction) (outputs : List Entry) → r ≡ nothing → IsReaction c me r (reverse outputs) → outputs ≡ []
nothing_only c me r outputs is h =
    sym (reverse-reverse outputs) ∙ ap reverse (subst (λ (x : Reaction). IsReaction c me x (reverse outputs)) is h)

-- ---- a reply that completes nothing

-- a client falls back at it, if at all
reply_falls : (c : Configuration) (me s number : ℕ) (call : OpenCall) (mode : Mode) (answer : Outcome) (bytes : List ℕ) (past : List Entry)
    → open_call past ≡ Some call → authentic (members c me) me bytes ≡ Some (record { sender = s; message = Reply me call.timestamp mode number answer })
    → count_alike c me (Got me bytes ∷ past) call.timestamp (vote_in mode number answer) ≤ 2 * c.faults
    → reaction c me (Got me bytes ∷ past) ≡ fallback c me (Got me bytes ∷ past) call
reply_falls c me s number call mode answer bytes past opened receives few =
    ap (λ (o : Option OpenCall). option_map_or (on_got c me (Got me bytes ∷ past)) o nothing) opened ∙ votes ∙ go (is_complete c me (Got me bytes ∷ past) call.timestamp (vote_in mode number answer)) refl
  where
    votes : on_got c me (Got me bytes ∷ past) call ≡ on_reply c me (Got me bytes ∷ past) call (vote_in mode number answer)
    votes = ap (λ (o : Option Vote). option_map_or (on_reply c me (Got me bytes ∷ past) call) o nothing) (brings c me s call.timestamp number mode answer bytes past receives)

    go : (b : Bool) → is_complete c me (Got me bytes ∷ past) call.timestamp (vote_in mode number answer) ≡ b
        → cond b (accepts call.timestamp answer) (fallback c me (Got me bytes ∷ past) call) ≡ fallback c me (Got me bytes ∷ past) call
    go true e = let l = leb-true (2 * c.faults + 1) (count_alike c me (Got me bytes ∷ past) call.timestamp (vote_in mode number answer)) e in absurd (omega arith)
    go false e = refl

-- one of whom it does not hold is not counted
not_all : (test : ℕ → Bool) (r n : ℕ) → r < n → test r ≡ false → count_below test n < n
not_all test r zero l e = absurd (omega arith)
not_all test r (suc n) l e = go (test n) refl (r == n) refl (λ below. not_all test r n below e)
  where
    go : (x : Bool) → test n ≡ x → (y : Bool) → (r == n) ≡ y → (r < n → count_below test n < n) → cond x (suc (count_below test n)) (count_below test n) < suc n
    go false f y g more = let k = count_not test n in omega arith
    go true f true g more = let same : true ≡ false = sym f ∙ ap test (sym (eqb-true r n g)) ∙ e in absurd cc
    go true f false g more = let d = eqb-false r n g in let l : r < n = omega arith in let k = more l in omega arith

pub waits_for_answers : WaitsForAnswers
waits_for_answers c me s r number call mode answer bytes later outputs past opened receives few within none are h =
    nothing_only c me (reaction c me (Got me bytes ∷ past)) outputs (reply_falls c me s number call mode answer bytes past opened receives few ∙ rests (went_ordered past call.timestamp))
    (gave c me later outputs (Got me bytes) past refl are h)
  where
    answered : ℕ → Bool
    answered q = is_some (latest c me (Got me bytes ∷ past) call.timestamp modes.ReadOnly q)

    not_answered : (b : Bool) → nat_le (replicas c) (count_below answered (replicas c)) ≡ b → b ≡ false
    not_answered true e =
        let l = leb-true (replicas c) (count_below answered (replicas c)) e in
        let m = not_all answered r (replicas c) within (ap is_some none) in
        absurd (omega arith)
    not_answered false e = refl

    rests : (b : Bool) → cond (not b && is_answered c me (Got me bytes ∷ past) call.timestamp) (asks modes.Ordered call) nothing ≡ nothing
    rests true = refl
    rests false = ap (λ (x : Bool). cond x (asks modes.Ordered call) nothing) (not_answered (is_answered c me (Got me bytes ∷ past) call.timestamp) refl)

-- ---- a request that went ordered

opened_last : (call : OpenCall) (xs : List Entry) → open_call xs ≡ Some call → call.timestamp ≤ last_call xs
opened_last call [] h = absurd cc
opened_last call (Invoke client t op ∷ past) h =
    let e : ◌≡◌ {A = OpenCall} (record { timestamp = t; op = op }) call = some_injective {A = OpenCall} (record { timestamp = t; op = op }) call h in
    let same : t ≡ call.timestamp = ap (λ (x : OpenCall). x.timestamp) e in
    omega arith
opened_last call (Accepted client t answer ∷ past) h = absurd cc
opened_last call (_ ∷ past) h = opened_last call past h

module _ (c : Configuration) (me : ℕ) where
  -- the timestamps of the client's ordered requests are at most its last call's
  asked_last : (t : ℕ) (xs : List Entry) → SafeClient c me xs → Once (AsksOrdered t) xs → t ≤ last_call xs
  asked_last t [] right h = absurd h
  asked_last t (Sent p bytes ∷ past) right (inl h) =
      let m = right.0.1 in
      let is = some_injective m.0 (record { sender = h.0; message = Request t modes.Ordered h.1 }) (sym m.1 ∙ h.2) in
      opened_last (record { timestamp = t; op = h.1 }) past (subst (λ (b : Body). MayAsk past b.message) is m.3).0
  asked_last t (Invoke x y z ∷ past) right (inr h) = let l = asked_last t past right.1 h in let n = right.0.1.0 in omega arith
  asked_last t (_ ∷ past) right (inr h) = asked_last t past right.1 h
  asked_last t (_ ∷ past) right (inl h) = absurd h

  -- the open call's request went ordered, if one of its timestamp ever did
  asked_went : (call : OpenCall) (xs : List Entry) → SafeClient c me xs → open_call xs ≡ Some call → Once (AsksOrdered call.timestamp) xs → went_ordered xs call.timestamp ≡ true
  asked_went call [] right opened h = absurd h
  asked_went call (Sent p bytes ∷ past) right opened (inl h) =
      or_left (option_map_or (is_ordered_request_of call.timestamp) (said bytes) false) (went_ordered past call.timestamp)
      (ap (λ (o : Option Body). option_map_or (is_ordered_request_of call.timestamp) o false) h.2 ∙ ap (λ (b : Bool). b && true) (eq-eqb call.timestamp call.timestamp refl))
  asked_went call (Sent p bytes ∷ past) right opened (inr h) =
      or_right (option_map_or (is_ordered_request_of call.timestamp) (said bytes) false) (went_ordered past call.timestamp) (asked_went call past right.1 opened h)
  asked_went call (Invoke x y z ∷ past) right opened (inr h) =
      let e : ◌≡◌ {A = OpenCall} (record { timestamp = y; op = z }) call = some_injective {A = OpenCall} (record { timestamp = y; op = z }) call opened in
      let same : y ≡ call.timestamp = ap (λ (o : OpenCall). o.timestamp) e in
      let l = asked_last call.timestamp past right.1 h in
      let n = right.0.1.0 in
      absurd (omega arith)
  asked_went call (Accepted x y z ∷ past) right opened h = absurd cc
  asked_went call (_ ∷ past) right opened (inl h) = absurd h
  asked_went call (_ ∷ past) right opened (inr h) = asked_went call past right.1 opened h

pub falls_back_once : FallsBackOnce
falls_back_once c me s number call mode answer bytes later outputs past opened receives few before are h =
    nothing_only c me (reaction c me (Got me bytes ∷ past)) outputs
    (reply_falls c me s number call mode answer bytes past opened receives few
    ∙ ap (λ (b : Bool). cond (not b && is_answered c me (Got me bytes ∷ past) call.timestamp) (asks modes.Ordered call) nothing) (asked_went c me call past earlier opened before))
    (gave c me later outputs (Got me bytes) past refl are h)
  where
    all : SafeClient c me (going_on me later outputs (Got me bytes) past)
    all = is_client_right c me (going_on me later outputs (Got me bytes) past) h

    earlier : SafeClient c me past
    earlier = (always_behind (λ xs e. (party_of e ≡ me) × MayClient (MayAccept c me) me xs e) outputs (Got me bytes ∷ past) all.1.1).1

-- ---- a message other than a reply to the open call, and a client without an open call

module _ (c : Configuration) (me timestamp : ℕ) (bytes : List ℕ) (past : List Entry)
    (never : (s number : ℕ) (mode : Mode) (answer : Outcome) → authentic (members c me) me bytes ≡ Some (record { sender = s; message = Reply me timestamp mode number answer }) → ⊥) where
  no_vote : newest_vote c me (Got me bytes ∷ past) timestamp ≡ None
  no_vote = go (authentic (members c me) me bytes) refl
    where
      reply : (s client t number : ℕ) (mode : Mode) (answer : Outcome) → authentic (members c me) me bytes ≡ Some (record { sender = s; message = Reply client t mode number answer })
          → (b : Bool) → ((s == s) && (client == me) && (t == timestamp)) ≡ b → then_some b (vote_in mode number answer) ≡ None
      reply s client t number mode answer is false e = refl
      reply s client t number mode answer is true e =
          let k = and_parts ((s == s) && (client == me)) (t == timestamp) e in
          let l = and_parts (s == s) (client == me) k.0 in
          absurd (never s number mode answer
          (subst (λ (n : ℕ). authentic (members c me) me bytes ≡ Some (record { sender = s; message = Reply me n mode number answer })) (eqb-true t timestamp k.1)
          (subst (λ (n : ℕ). authentic (members c me) me bytes ≡ Some (record { sender = s; message = Reply n t mode number answer })) (eqb-true client me l.1) is)))

      message : (s : ℕ) (m : Message) → authentic (members c me) me bytes ≡ Some (record { sender = s; message = m }) → reply_vote me timestamp s (record { sender = s; message = m }) ≡ None
      message s (Reply client t mode number answer) is = reply s client t number mode answer is ((s == s) && (client == me) && (t == timestamp)) refl
      message s _ is = refl

      go : (o : Option Body) → authentic (members c me) me bytes ≡ o → option_and_then (λ (body : Body). reply_vote me timestamp body.sender body) o ≡ None
      go None is = refl
      go (Some body) is = message body.sender body.message is

pub ignores_others : IgnoresOthers
ignores_others c me call bytes later outputs past opened never are h =
    nothing_only c me (reaction c me (Got me bytes ∷ past)) outputs
    (ap (λ (o : Option OpenCall). option_map_or (on_got c me (Got me bytes ∷ past)) o nothing) opened
    ∙ ap (λ (o : Option Vote). option_map_or (on_reply c me (Got me bytes ∷ past) call) o nothing) (no_vote c me call.timestamp bytes past never))
    (gave c me later outputs (Got me bytes) past refl are h)

pub rests_without_call : RestsWithoutCall
rests_without_call c me input later outputs past closed (inl is) are h =
    nothing_only c me (reaction c me (Tick me ∷ past)) outputs (ap (λ (o : Option OpenCall). option_map_or (asks modes.Ordered) o nothing) closed)
    (gave c me later outputs (Tick me) past refl are (subst (λ (e : Entry). IsClient c me (going_on me later outputs e past)) is h))
rests_without_call c me input later outputs past closed (inr (bytes, is)) are h =
    nothing_only c me (reaction c me (Got me bytes ∷ past)) outputs (ap (λ (o : Option OpenCall). option_map_or (on_got c me (Got me bytes ∷ past)) o nothing) closed)
    (gave c me later outputs (Got me bytes) past refl are (subst (λ (e : Entry). IsClient c me (going_on me later outputs e past)) is h))
