-- A client's open call: only an acceptance ends it, and while it is open no 2f + 1 replies agree.
use Rattle.std.proofs.Common.{◌≡◌, ℕ, ◌+◌, ◌*◌, ◌≤◌, ◌⊎◌, inl, inr, Bool, true, false, cond, List, [], ◌∷◌, ◌++◌, Option, Some, None, refl, sym, ap, ◌∙◌, subst, arith, bytes_eq, ◌&&◌, eqb-true, eq-eqb}
use Rattle.std.specs.Prelude.{◌==◌, option_and_then}
use Rattle.std.specs.Option.{option_map_or}
use Rattle.std.specs.Bool.{then_some}
use Rattle.std.proofs.lemmas.Bool.{and_parts, and_from, leb-false}
use Rattle.std.proofs.lemmas.Slice.Eq.{bytes_eq-Decides}
use Rattle.quorum.proofs.Counting.{count_mono}
use Rattle.tuple_codec.specs.Operations.{Operation, Outcome}
use Rattle.tuple_codec.specs.Spelling.{outcome_spelling}
use Rattle.terms.specs.declared.order.Mode.{Mode}
use Rattle.wire_format.specs.Messages.{BodyData as Body, MessageData as Message, reply as Reply}
use Rattle.signing.specs.AuthenticBody.{authentic}
use Rattle.protocol.specs.System.Configuration.{Configuration, replicas, members}
use Rattle.protocol.specs.System.Frames.{same_mode}
use Rattle.protocol.specs.System.Trace.{Entry, party_of, Always, either}
use Rattle.protocol.specs.System.Trace.Entry.{Invoke, Got, Tick, Executed, Installed, Sent, Accepted}
use Rattle.protocol.specs.Client.RightClient.{OpenCall, open_call, Vote, reply_vote, later_vote, latest, is_alike, count_alike, is_complete, newest_vote, Reaction, on_got, on_reply, fallback, reaction, IsReaction, Reacts, MayAccept, MayClient, IsClient, SafeClient}
use Rattle.protocol.specs.Client.RightClient.Reaction.{nothing, accepts}
use Rattle.protocol.proofs.Words.Modes.{same_mode-true}
use Rattle.protocol.proofs.Words.Reacting.{CallsNext, calls_next, is_client_right}
use Rattle.protocol.proofs.Words.Options.{some_injective}
use Rattle.protocol.proofs.Words.Lists.{none_pass}
use Rattle.evidence.proofs.Counted.{received_is_latest}
use Rattle.progress.specs.Delivery.{HasEntry}
use Rattle.progress.specs.Answered.{OpenCallsLackQuorums}

-- ---- a client with one life

-- what each entry of such a client may be: while a call is open, it begins no other
abbrev pub LivesOnce : Configuration → ℕ → List Entry → Type 0
LivesOnce c me history = Always (λ past e. ((party_of e ≡ me) × MayClient (MayAccept c me) me past e) × CallsNext 0 past e) history

pub lives_once : (c : Configuration) (me : ℕ) (history : List Entry) → IsClient c me history → LivesOnce c me history
lives_once c me history is = both history (is_client_right c me history is) (calls_next c me 0 history is)
  where
    both : (xs : List Entry) → SafeClient c me xs → Always (CallsNext 0) xs → LivesOnce c me xs
    both [] safe next = tt
    both (e ∷ past) safe next = ((safe.0, next.0), both past safe.1 next.1)

pub once_behind : (c : Configuration) (me : ℕ) (newer xs : List Entry) → LivesOnce c me (newer ++ xs) → LivesOnce c me xs
once_behind c me [] xs once = once
once_behind c me (e ∷ newer) xs once = once_behind c me newer xs once.1

-- ---- only an acceptance ends it

-- the client k accepts an answer to the request of this timestamp
abbrev pub Accepting : ℕ → ℕ → List Entry → Type 0
Accepting k t entries = (answer : Outcome) × HasEntry (Accepted k t answer) entries

module _ (c : Configuration) (k : ℕ) (call : OpenCall) (start : List Entry) (opened : open_call start ≡ Some call) where
  abbrev me : ℕ
  me = 256 + k

  abbrev Either : List Entry → Type 0
  Either part = Accepting k call.timestamp part ⊎ (open_call (part ++ start) ≡ Some call)

  more : (e : Entry) (part : List Entry) → open_call (e ∷ part ++ start) ≡ open_call (part ++ start) → Either part → Either (e ∷ part)
  more e part same (inl a) = inl (a.0, inr a.1)
  more e part same (inr o) = inr (same ∙ o)

  by_entry : (e : Entry) (part : List Entry) → ((party_of e ≡ me) × MayClient (MayAccept c me) me (part ++ start) e) × CallsNext 0 (part ++ start) e → Either part → Either (e ∷ part)
  by_entry (Invoke x y z) part right (inr o) = let bad : None ≡ Some call = sym right.1.1 ∙ o in absurd cc
  by_entry (Accepted x y z) part right (inr o) =
      let own : 256 + x ≡ 256 + k = right.0.0 in
      let client : x ≡ k = omega arith in
      let m = right.0.1 in
      let time : y ≡ call.timestamp = sym m.3 ∙ ap (λ (o : OpenCall). o.timestamp) (some_injective m.0 call (sym m.2 ∙ o)) in
      inl (z, inl (rw (client, time) refl))
  by_entry (Got x y) part right either = more (Got x y) part refl either
  by_entry (Tick x) part right either = more (Tick x) part refl either
  by_entry (Executed x y z) part right either = more (Executed x y z) part refl either
  by_entry (Installed x y z) part right either = more (Installed x y z) part refl either
  by_entry (Sent x y) part right either = more (Sent x y) part refl either
  by_entry _ part right (inl a) = inl (a.0, inr a.1)

  pub open_or_accepted : (part : List Entry) → LivesOnce c me (part ++ start) → Either part
  open_or_accepted [] right = inr opened
  open_or_accepted (e ∷ part) right = by_entry e part right.0 (open_or_accepted part right.1)

  -- ---- a reply that came since is the latest, or another is

  some_later : (mode : Mode) (o earlier : Option Vote) (vote : Vote) → earlier ≡ Some vote → (v : Vote) × (later_vote mode o earlier ≡ Some v)
  some_later mode None earlier vote is = (vote, is)
  some_later mode (Some v) earlier vote is = go (same_mode v.mode mode)
    where
      go : (b : Bool) → (w : Vote) × (cond b (Some v) earlier ≡ Some w)
      go true = (v, refl)
      go false = (vote, is)

  Latest : Mode → ℕ → List Entry → Type 0
  Latest mode r part = (v : Vote) × (latest c me (part ++ start) call.timestamp mode r ≡ Some v)

  latest_by : (mode : Mode) (r : ℕ) (e : Entry) (part : List Entry) → CallsNext 0 (part ++ start) e → Either part → (Accepting k call.timestamp part → ⊥) → Latest mode r part → Latest mode r (e ∷ part)
  unfolding latest Latest
  latest_by mode r (Invoke x y z) part right (inl a) not_yet v = absurd (not_yet a)
  latest_by mode r (Invoke x y z) part right (inr o) not_yet v = let bad : None ≡ Some call = sym right.1 ∙ o in absurd cc
  latest_by mode r (Got x y) part right either not_yet v = some_later mode (option_and_then (reply_vote me call.timestamp r) (authentic (members c me) me y)) (latest c me (part ++ start) call.timestamp mode r) v.0 v.1
  latest_by mode r _ part right either not_yet v = v

  pub latest_since : (mode : Mode) (r n : ℕ) (answer : Outcome) (bytes : List ℕ) → authentic (members c me) me bytes ≡ Some (record { sender = r; message = Reply me call.timestamp mode n answer })
      → (part : List Entry) → LivesOnce c me (part ++ start) → (Accepting k call.timestamp part → ⊥) → HasEntry (Got me bytes) part → (v : Vote) × (latest c me (part ++ start) call.timestamp mode r ≡ Some v)
  unfolding Latest
  latest_since mode r n answer bytes receives [] right not_yet h = absurd h
  latest_since mode r n answer bytes receives (e ∷ part) right not_yet (inl is) = (
    record { mode = mode; number = n; answer = answer },
    subst (λ (x : Entry). latest c me (x ∷ part ++ start) call.timestamp mode r ≡ Some (record { mode = mode; number = n; answer = answer })) (sym is)
        (received_is_latest c me r call.timestamp n mode answer bytes (part ++ start) receives),
  )
  latest_since mode r n answer bytes receives (e ∷ part) right not_yet (inr h) =
      let none : Accepting k call.timestamp part → ⊥ = λ a. not_yet (a.0, inr a.1) in
      latest_by mode r e part right.0.1 (open_or_accepted part right.1) none (latest_since mode r n answer bytes receives part right.1 none h)

-- ---- no quorum agrees while it is open

-- none of the outputs that are still to come accepts
abbrev NoneAccepts : List Entry → Type 0
NoneAccepts outputs = (k t : ℕ) (answer : Outcome) → HasEntry (Accepted k t answer) outputs → ⊥

module _ (c : Configuration) (me : ℕ) (call : OpenCall) (vote : Vote) where
  abbrev t : ℕ
  t = call.timestamp

  abbrev alike_in : List Entry → ℕ → Bool
  alike_in past s = is_alike vote (latest c me past t vote.mode s)

  abbrev Few : List Entry → Type 0
  Few past = count_alike c me past t vote ≤ 2 * c.faults

  -- if all replies that agree did so before, no more agree
  few_still : (past new : List Entry) → ((s : ℕ) → alike_in new s ≡ true → alike_in past s ≡ true) → Few past → Few new
  few_still past new same few = let m = count_mono (alike_in new) (alike_in past) (replicas c) (λ s l h. same s h) in omega arith

  call_begins : (client time : ℕ) (op : Operation) (past : List Entry) → Few (Invoke client time op ∷ past)
  unfolding latest
  call_begins client time op past = let n = none_pass (replicas c) in omega arith

  same_spelling : (v : Vote) → is_alike vote (Some v) ≡ true → (v.number ≡ vote.number) × (outcome_spelling v.answer ≡ outcome_spelling vote.answer)
  same_spelling v h =
      let q = and_parts (v.number == vote.number) (bytes_eq (outcome_spelling v.answer) (outcome_spelling vote.answer)) h in
      (eqb-true v.number vote.number q.0, (bytes_eq-Decides (outcome_spelling v.answer) (outcome_spelling vote.answer)).0 q.1)

  -- a reply that agrees with two that agree: with the one and with the other
  alike_too : (v : Vote) → is_alike vote (Some v) ≡ true → (o : Option Vote) → is_alike vote o ≡ true → is_alike v o ≡ true
  alike_too v h None k = absurd cc
  alike_too v h (Some x) k =
      let a = same_spelling v h in
      let b = same_spelling x k in
      and_from (x.number == v.number) (bytes_eq (outcome_spelling x.answer) (outcome_spelling v.answer)) (eq-eqb x.number v.number (b.0 ∙ sym a.0))
      ((bytes_eq-Decides (outcome_spelling x.answer) (outcome_spelling v.answer)).1 (b.1 ∙ sym a.1))

  -- the client would accept a reply that agrees and makes a quorum
  not_complete : (p : ℕ) (bytes : List ℕ) (past outputs : List Entry) (v : Vote) → open_call past ≡ Some call → NoneAccepts outputs → IsReaction c me (reaction c me (Got p bytes ∷ past)) outputs
      → newest_vote c me (Got p bytes ∷ past) t ≡ Some v → is_complete c me (Got p bytes ∷ past) t v ≡ true → ⊥
  not_complete p bytes past outputs v opened none reacts newest complete =
      let at : on_got c me (Got p bytes ∷ past) call ≡ accepts t v.answer =
      ap (λ (o : Option Vote). option_map_or (on_reply c me (Got p bytes ∷ past) call) o nothing) newest ∙ ap (λ (b : Bool). cond b (accepts t v.answer) (fallback c me (Got p bytes ∷ past) call)) complete in
      let is : reaction c me (Got p bytes ∷ past) ≡ accepts t v.answer = ap (λ (o : Option OpenCall). option_map_or (on_got c me (Got p bytes ∷ past)) o nothing) opened ∙ at in
      let k = subst (λ (r : Reaction). IsReaction c me r outputs) is reacts in
      none k.0 t v.answer (subst (λ (ys : List Entry). HasEntry (Accepted k.0 t v.answer) ys) (sym k.1) (inl refl))

  -- a reply that the client receives
  module _ (p : ℕ) (bytes : List ℕ) (past outputs : List Entry) (sender client u : ℕ) (mode : Mode) (number : ℕ) (answer : Outcome)
      (receives : authentic (members c me) me bytes ≡ Some (record { sender = sender; message = Reply client u mode number answer })) (few : Few past) where
    abbrev v : Vote
    v = record { mode = mode; number = number; answer = answer }

    abbrev new : List Entry
    new = Got p bytes ∷ past

    abbrev here : ℕ → Bool
    here s = (sender == s) && (client == me) && (u == t)

    -- it is of the mode, agrees, and is to the call
    abbrev all_three : Bool
    all_three = (same_mode mode vote.mode && is_alike vote (Some v)) && ((client == me) && (u == t))

    latest_is : (s : ℕ) → latest c me new t vote.mode s ≡ later_vote vote.mode (then_some (here s) v) (latest c me past t vote.mode s)
    unfolding latest
    latest_is s = ap (λ (o : Option Body). later_vote vote.mode (option_and_then (reply_vote me t s) o) (latest c me past t vote.mode s)) receives

    no_more : all_three ≡ false → (s : ℕ) → alike_in new s ≡ true → alike_in past s ≡ true
    no_more e s h = pick (here s) refl (sym (ap (is_alike vote) (latest_is s)) ∙ h)
      where
        inner : here s ≡ true → (b : Bool) → same_mode mode vote.mode ≡ b → is_alike vote (cond b (Some v) (latest c me past t vote.mode s)) ≡ true → alike_in past s ≡ true
        inner is false f k = k
        inner is true f k =
            let q = and_parts ((sender == s) && (client == me)) (u == t) is in
            let l = and_parts (sender == s) (client == me) q.0 in
            let all : all_three ≡ true = and_from (same_mode mode vote.mode && is_alike vote (Some v)) ((client == me) && (u == t)) (and_from (same_mode mode vote.mode) (is_alike vote (Some v)) f k) (and_from (client == me) (u == t) l.1 q.1) in
            let bad : true ≡ false = sym all ∙ e in
            absurd cc

        pick : (b : Bool) → here s ≡ b → is_alike vote (later_vote vote.mode (then_some b v) (latest c me past t vote.mode s)) ≡ true → alike_in past s ≡ true
        pick false is k = k
        pick true is k = inner is (same_mode mode vote.mode) refl k

    no_quorum : open_call past ≡ Some call → NoneAccepts outputs → IsReaction c me (reaction c me new) outputs → all_three ≡ true → Few new
    no_quorum opened none reacts e = go (is_complete c me new t v) refl
      where
        parts : (same_mode mode vote.mode && is_alike vote (Some v) ≡ true) × ((client == me) && (u == t) ≡ true)
        parts = and_parts (same_mode mode vote.mode && is_alike vote (Some v)) ((client == me) && (u == t)) e

        alike : (same_mode mode vote.mode ≡ true) × (is_alike vote (Some v) ≡ true)
        alike = and_parts (same_mode mode vote.mode) (is_alike vote (Some v)) parts.0

        mine : ((client == me) ≡ true) × ((u == t) ≡ true)
        mine = and_parts (client == me) (u == t) parts.1

        newest : newest_vote c me new t ≡ Some v
        newest = rw receives (rw (eq-eqb sender sender refl, mine.0, mine.1) refl)

        is_mode : mode ≡ vote.mode
        is_mode = same_mode-true mode vote.mode alike.0

        go : (b : Bool) → is_complete c me new t v ≡ b → Few new
        go true f = absurd (not_complete p bytes past outputs v opened none reacts newest f)
        go false f =
            let n = leb-false (2 * c.faults + 1) (count_alike c me new t v) f in
            let m = count_mono (alike_in new) (λ s. is_alike v (latest c me new t mode s)) (replicas c)
            (λ s l h. subst (λ (x : Mode). is_alike v (latest c me new t x s) ≡ true) (sym is_mode) (alike_too v alike.1 (latest c me new t vote.mode s) h)) in
            omega arith

    by_reply : open_call past ≡ Some call → NoneAccepts outputs → IsReaction c me (reaction c me new) outputs → Few new
    by_reply opened none reacts = go all_three refl
      where
        go : (b : Bool) → all_three ≡ b → Few new
        go true e = no_quorum opened none reacts e
        go false e = few_still past new (no_more e) few

  by_message : (p : ℕ) (bytes : List ℕ) (past outputs : List Entry) (sender : ℕ) (message : Message) → authentic (members c me) me bytes ≡ Some (record { sender = sender; message = message })
      → open_call past ≡ Some call → NoneAccepts outputs → IsReaction c me (reaction c me (Got p bytes ∷ past)) outputs → Few past → Few (Got p bytes ∷ past)
  unfolding latest
  by_message p bytes past outputs sender (Reply client u mode number answer) receives opened none reacts few = by_reply p bytes past outputs sender client u mode number answer receives few opened none reacts
  by_message p bytes past outputs sender _ receives opened none reacts few = few_still past (Got p bytes ∷ past) (λ s h. rw receives at h) few

  by_got : (p : ℕ) (bytes : List ℕ) (past outputs : List Entry) → open_call past ≡ Some call → NoneAccepts outputs → IsReaction c me (reaction c me (Got p bytes ∷ past)) outputs → Few past
      → (o : Option Body) → authentic (members c me) me bytes ≡ o → Few (Got p bytes ∷ past)
  unfolding latest
  by_got p bytes past outputs opened none reacts few None receives = few_still past (Got p bytes ∷ past) (λ s h. rw receives at h) few
  by_got p bytes past outputs opened none reacts few (Some body) receives = by_message p bytes past outputs body.sender body.message receives opened none reacts few

  no_accept : (e : Entry) (outputs : List Entry) → NoneAccepts outputs → ((k t : ℕ) (answer : Outcome) → e ≡ Accepted k t answer → ⊥) → NoneAccepts (e ∷ outputs)
  no_accept e outputs none other k t answer (inl is) = other k t answer is
  no_accept e outputs none other k t answer (inr h) = none k t answer h

  few_while_open : (xs outputs : List Entry) → Reacts c me 0 (reaction c me) outputs xs → open_call xs ≡ Some call → NoneAccepts outputs → Few xs
  unfolding latest
  few_while_open (Invoke x y z ∷ past) outputs r opened none = call_begins x y z past
  few_while_open (Got p bytes ∷ past) outputs r opened none = by_got p bytes past outputs opened none r.1.1 (few_while_open past [] r.1.2 opened (λ k t a h. h)) (authentic (members c me) me bytes) refl
  few_while_open (Tick p ∷ past) outputs r opened none = few_while_open past [] r.1.2 opened (λ k t a h. h)
  few_while_open (Sent p bytes ∷ past) outputs r opened none = few_while_open past (Sent p bytes ∷ outputs) r.1 opened (no_accept (Sent p bytes) outputs none (λ k t a e. cc))
  few_while_open (Executed x y z ∷ past) outputs r opened none = few_while_open past (Executed x y z ∷ outputs) r.1 opened (no_accept (Executed x y z) outputs none (λ k t a e. cc))
  few_while_open (Installed x y z ∷ past) outputs r opened none = few_while_open past (Installed x y z ∷ outputs) r.1 opened (no_accept (Installed x y z) outputs none (λ k t a e. cc))
  few_while_open _ outputs r opened none = absurd cc

pub open_calls_lack_quorums : OpenCallsLackQuorums
open_calls_lack_quorums c me history call vote prompt opened = few_while_open c me call vote history [] prompt opened (λ k t a h. h)
