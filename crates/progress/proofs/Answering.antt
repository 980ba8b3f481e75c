-- If 2f + 1 correct replicas keep the reply to a call, its client accepts once it asks again and all is delivered.
use Rattle.std.proofs.Common.{◌≡◌, ℕ, zero, suc, ◌+◌, ◌*◌, ◌≤◌, ◌<◌, ◌⊎◌, inl, inr, Bool, true, false, List, [], ◌∷◌, ◌++◌, Option, Some, refl, sym, ap, ◌∙◌, subst, arith, append_assoc, bytes_eq, eqb-true, eq-eqb}
use Rattle.std.specs.Prelude.{◌==◌}
use Rattle.std.specs.List.{range_with_len}
use Rattle.std.specs.Option.{option_map_or}
use Rattle.std.proofs.lemmas.Bool.{and_parts, and_from, ltb-true, eqb-false}
use Rattle.std.proofs.lemmas.Slice.Eq.{bytes_eq-Decides}
use Rattle.quorum.specs.Quorum.{count_below}
use Rattle.quorum.proofs.Counting.{count_mono, some_more}
use Rattle.tuple_codec.specs.Operations.{Outcome}
use Rattle.tuple_codec.specs.Spelling.{outcome_spelling}
use Rattle.terms.specs.declared.order.Mode.{Mode}
use Rattle.terms.specs.declared.order.Mode.TheVariants as modes
use Rattle.wire_format.specs.Messages.{BodyData as Body, FrameData as Frame, AuthenticatorData as Authenticator, macs, signature, request as Request, reply as Reply}
use Rattle.wire_format.specs.Spelling.{authenticator_is_signed}
use Rattle.wire_format.specs.Words.{receivers_of, frame_of}
use Rattle.reply_cache.specs.Replies.{Kept}
use Rattle.protocol.specs.System.Configuration.{Configuration, IsConfiguration, replicas, is_replica, is_client, is_correct_replica, is_correct_client}
use Rattle.protocol.specs.System.Frames.{IsOutgoing, IsSealed}
use Rattle.protocol.specs.System.Trace.{Entry, party_of, history_of, Once, Has, Receives, Unforged}
use Rattle.protocol.specs.System.Trace.Entry.{Invoke, Got, Tick, Executed, Installed, Sent, Accepted}
use Rattle.protocol.specs.System.Texts.{NoCollision}
use Rattle.protocol.specs.System.Run.{IsRun, OnlyTheseStopped}
use Rattle.protocol.specs.Replica.State.{kept_of}
use Rattle.protocol.specs.Replica.RightReplica.{Point, MaySend, IsAddressed}
use Rattle.protocol.specs.Replica.Owed.{HistoryIsPrompt, SendsMessage}
use Rattle.protocol.specs.Client.RightClient.{OpenCall, open_call, Vote, latest, is_alike, Reaction, reaction, IsReaction, Reacts, SafeClient}
use Rattle.protocol.specs.Client.RightClient.Reaction.{nothing, asks}
use Rattle.protocol.proofs.Words.Options.{some_injective}
use Rattle.protocol.proofs.Words.Elements.{has_filter, has_filtered, has_left, has_right}
use Rattle.protocol.proofs.Words.Linking.{Speaks, heard_was_said}
use Rattle.protocol.proofs.Words.Reacting.{proceeds_leaves}
use Rattle.protocol.proofs.Agreement.Voting.{correct_replica}
use Rattle.protocol.proofs.Agreement.States.{history_append}
use Rattle.protocol.proofs.Points.Reading.{correct_client, own_entries, latest_received, replying}
use Rattle.protocol.proofs.Points.Running.{Run}
use Rattle.protocol.proofs.Words.Lists.{none_pass}
use Rattle.evidence.proofs.Knowing.{DoExchange, clients_exchange, exchange_back}
use Rattle.progress.specs.Delivery.{HasEntry, AllDelivered}
use Rattle.progress.specs.Answered.{KeepsReply, ExecutedCallsAreAccepted}
use Rattle.progress.proofs.Receiving.{Heard, sealed_is_authentic}
use Rattle.progress.proofs.Events.{Reacted, reacted, Owed, owed, Given, given, MightSend, sent_may}
use Rattle.progress.proofs.Clients.{Accepting, LivesOnce, lives_once, once_behind, open_or_accepted, latest_since, open_calls_lack_quorums}
use Rattle.progress.proofs.Replies.{run_of, spoken_agree}
use Rattle.progress.proofs.Keeping.{kept_stays}

-- ---- entries of a part, and of a party's history there

pub in_history : (p : ℕ) (e : Entry) (xs : List Entry) → party_of e ≡ p → HasEntry e xs → HasEntry e (history_of p xs)
in_history p e xs own h = has_filtered (λ x. x ≡ e) (λ x. party_of x == p) (λ x same. eq-eqb (party_of x) p (ap party_of same ∙ own)) xs h

pub in_trace : (p : ℕ) (e : Entry) (xs : List Entry) → HasEntry e (history_of p xs) → HasEntry e xs
in_trace p e xs h = has_filter (λ x. x ≡ e) (λ x. party_of x == p) xs h

pub not_to_come : (e : Entry) (part : List Entry) → HasEntry e [] ⊎ HasEntry e part → HasEntry e part
not_to_come e part (inl h) = absurd h
not_to_come e part (inr h) = h

pub safe_behind : (c : Configuration) (me : ℕ) (newer xs : List Entry) → SafeClient c me (newer ++ xs) → SafeClient c me xs
safe_behind c me [] xs right = right
safe_behind c me (e ∷ newer) xs right = safe_behind c me newer xs right.1

-- ---- whether a call was accepted

not_here : (k t : ℕ) (e : Entry) (part : List Entry) → ((answer : Outcome) → e ≡ Accepted k t answer → ⊥) → (Accepting k t part → ⊥) → Accepting k t (e ∷ part) → ⊥
not_here k t e part differs none a = go a.0 a.1
  where
    go : (answer : Outcome) → HasEntry (Accepted k t answer) (e ∷ part) → ⊥
    go answer (inl same) = differs answer same
    go answer (inr h) = none (answer, h)

accepted_here : (k t : ℕ) (e : Entry) (part : List Entry) → (Accepting k t part → ⊥) → Accepting k t (e ∷ part) ⊎ (Accepting k t (e ∷ part) → ⊥)
accepted_here k t (Accepted x y z) part none = go (x == k) refl (y == t) refl
  where
    go : (a : Bool) → (x == k) ≡ a → (b : Bool) → (y == t) ≡ b → Accepting k t (Accepted x y z ∷ part) ⊎ (Accepting k t (Accepted x y z ∷ part) → ⊥)
    go true e true f = inl (z, inl (rw (eqb-true x k e, eqb-true y t f) refl))
    go false e b f = inr (not_here k t (Accepted x y z) part (λ answer same. let is : x ≡ k = cc in eqb-false x k e is) none)
    go true e false f = inr (not_here k t (Accepted x y z) part (λ answer same. let is : y ≡ t = cc in eqb-false y t f is) none)
accepted_here k t (Invoke x y z) part none = inr (not_here k t (Invoke x y z) part (λ answer same. cc) none)
accepted_here k t (Got x y) part none = inr (not_here k t (Got x y) part (λ answer same. cc) none)
accepted_here k t (Tick x) part none = inr (not_here k t (Tick x) part (λ answer same. cc) none)
accepted_here k t (Executed x y z) part none = inr (not_here k t (Executed x y z) part (λ answer same. cc) none)
accepted_here k t (Installed x y z) part none = inr (not_here k t (Installed x y z) part (λ answer same. cc) none)
accepted_here k t (Sent x y) part none = inr (not_here k t (Sent x y) part (λ answer same. cc) none)

pub accepted_or_not : (k t : ℕ) (part : List Entry) → Accepting k t part ⊎ (Accepting k t part → ⊥)
accepted_or_not k t [] = inr (λ a. a.1)
accepted_or_not k t (e ∷ part) = go (accepted_or_not k t part)
  where
    go : Accepting k t part ⊎ (Accepting k t part → ⊥) → Accepting k t (e ∷ part) ⊎ (Accepting k t (e ∷ part) → ⊥)
    go (inl a) = inl (a.0, inr a.1)
    go (inr none) = accepted_here k t e part none

-- ---- receivers

pub in_range : (first n r : ℕ) → first ≤ r → r < first + n → Has (λ x. x ≡ r) (range_with_len first n)
in_range first zero r l m = absurd (omega arith)
in_range first (suc n) r l m = go (first == r) refl (in_range (first + 1) n r)
  where
    go : (b : Bool) → (first == r) ≡ b → (first + 1 ≤ r → r < first + 1 + n → Has (λ x. x ≡ r) (range_with_len (first + 1) n)) → (first ≡ r) ⊎ Has (λ x. x ≡ r) (range_with_len (first + 1) n)
    go true e below = inl (eqb-true first r e)
    go false e below = let d = eqb-false first r e in let a : first + 1 ≤ r = omega arith in let b : r < first + 1 + n = omega arith in inr (below a b)

reply_for : (c : Configuration) (r : ℕ) (past : List Entry) (client t : ℕ) (mode : Mode) (n : ℕ) (answer : Outcome) (a : Authenticator) → authenticator_is_signed a ≡ false
    → IsAddressed c r past (Reply client t mode n answer) a → Has (λ x. x ≡ client) (receivers_of a)
reply_for c r past client t mode n answer (macs entries) plain for = subst (λ (xs : List ℕ). Has (λ x. x ≡ client) xs) (sym for) (inl refl)
reply_for c r past client t mode n answer (signature s) plain for = absurd cc

-- the latest reply of a replica that counts, which that replica sent
pub record Voted (c : Configuration) (trace mine : List Entry) (me t : ℕ) (mode : Mode) (r : ℕ) : Type 0 where
  pub vote : Vote
  pub is_latest : latest c me mine t mode r ≡ Some vote
  pub says : Once (Speaks (replying r me t mode vote.number vote.answer)) (history_of r trace)

-- the client's request, sent in the part
pub record Asked (c : Configuration) (me : ℕ) (mode : Mode) (call : OpenCall) (later : List Entry) : Type 0 where
  pub bytes : List ℕ
  pub is_sent : HasEntry (Sent me bytes) later
  pub is_outgoing : IsOutgoing c me (Request call.timestamp mode call.op) (range_with_len 0 (replicas c)) bytes

-- ---- the law

module _ (c : Configuration) (setting : IsConfiguration c) (later start : List Entry) (is_run : IsRun c (later ++ start)) (goes : OnlyTheseStopped c [] (later ++ start))
    (unforged : Unforged c (later ++ start)) (apart : NoCollision c (later ++ start)) (k : ℕ) (call : OpenCall) (client : is_correct_client c (256 + k) ≡ true)
    (opened : open_call (history_of (256 + k) start) ≡ Some call) (all : AllDelivered c later) where
  abbrev me : ℕ
  me = 256 + k

  abbrev trace : List Entry
  trace = later ++ start

  abbrev mine : List Entry
  mine = history_of me later ++ history_of me start

  run : Run c trace
  run = run_of c setting trace is_run unforged apart

  is_mine : history_of me trace ≡ mine
  is_mine = history_append me later start

  safe : SafeClient c me mine
  safe = subst (SafeClient c me) is_mine (run.runs.clients me client)

  once : LivesOnce c me mine
  once = subst (LivesOnce c me) is_mine (lives_once c me (history_of me trace) (is_run.clients me client))

  prompt : Reacts c me 0 (reaction c me) [] mine
  prompt = subst (Reacts c me 0 (reaction c me) []) is_mine (goes.clients me client refl)

  below : (r : ℕ) → is_correct_replica c r ≡ true → r < replicas c
  below r correct = ltb-true r (replicas c) (and_parts (is_replica c r) _ correct).0

  exchanges_with : (r : ℕ) → is_correct_replica c r ≡ true → DoExchange c me r
  exchanges_with r correct =
      let few : replicas c ≤ 256 = (let m = setting.most in omega arith) in
      clients_exchange c few me r (and_parts (is_client c me) _ client).0 (and_parts (is_replica c r) _ correct).0

  module _ (not_yet : Accepting k call.timestamp (history_of me later) → ⊥) where
    none_before : (newer : List Entry) (e : Entry) (before : List Entry) → history_of me later ≡ newer ++ e ∷ before → Accepting k call.timestamp before → ⊥
    none_before newer e before is a = not_yet (a.0, subst (λ (xs : List Entry). HasEntry (Accepted k call.timestamp a.0) xs) (sym is) (has_right (λ x. x ≡ Accepted k call.timestamp a.0) newer (e ∷ before) (inr a.1)))

    opened_by : (part : List Entry) → LivesOnce c me (part ++ history_of me start) → (Accepting k call.timestamp part → ⊥) → open_call (part ++ history_of me start) ≡ Some call
    opened_by part right none = go (open_or_accepted c k call (history_of me start) opened part right)
      where
        go : Accepting k call.timestamp part ⊎ (open_call (part ++ history_of me start) ≡ Some call) → open_call (part ++ history_of me start) ≡ Some call
        go (inl a) = absurd (none a)
        go (inr o) = o

    pub still_open : open_call mine ≡ Some call
    still_open = opened_by (history_of me later) once not_yet

    pub asked : HasEntry (Tick me) later → Asked c me modes.Ordered call later
    asked tick = go r.outs asks_it r.among
      where
        r : Reacted c me (Tick me) [] (history_of me later) (history_of me start)
        r = reacted c me (Tick me) refl [] (history_of me later) (history_of me start) prompt (in_history me (Tick me) later refl tick)

        right : LivesOnce c me (r.before ++ history_of me start)
        right = (once_behind c me r.later (Tick me ∷ r.before ++ history_of me start) (subst (LivesOnce c me) (ap (λ (xs : List Entry). xs ++ history_of me start) r.splits ∙ append_assoc r.later (Tick me ∷ r.before) (history_of me start)) once)).1

        then_open : open_call (r.before ++ history_of me start) ≡ Some call
        then_open = opened_by r.before right (none_before r.later (Tick me) r.before r.splits)

        asks_it : IsReaction c me (asks modes.Ordered call) r.outs
        asks_it = subst (λ (x : Reaction). IsReaction c me x r.outs) (ap (λ (o : Option OpenCall). option_map_or (asks modes.Ordered) o nothing) then_open) r.reacts

        go : (outs : List Entry) → IsReaction c me (asks modes.Ordered call) outs → ((x : Entry) → HasEntry x outs → HasEntry x [] ⊎ HasEntry x (history_of me later)) → Asked c me modes.Ordered call later
        go outs is among = record {
          bytes = is.0;
          is_sent = in_trace me (Sent me is.0) later (not_to_come (Sent me is.0) (history_of me later) (among (Sent me is.0) (subst (λ (ys : List Entry). HasEntry (Sent me is.0) ys) (sym is.1) (inl refl))));
          is_outgoing = is.2;
        }

    -- ---- a replica's reply to the request reaches the client

    module _ (mode : Mode) (request : Asked c me mode call later) (r : ℕ) (correct : is_correct_replica c r ≡ true) where
      pub hears_request : Heard c me r (Request call.timestamp mode call.op) request.bytes
      hears_request =
          sealed_is_authentic c me r (Request call.timestamp mode call.op) request.bytes request.is_outgoing.says
          (λ frame is plain.
          let s = request.is_outgoing.is_sealed frame is in
          let small : r < 0 + replicas c = (let l = below r correct in omega arith) in
          (s.0, subst (λ (xs : List ℕ). Has (λ x. x ≡ r) xs) (sym s.1) (in_range 0 (replicas c) r (omega arith) small)))
          refl (and_parts (is_client c me) _ client).0 (exchanges_with r correct)

      pub gets_request : HasEntry (Got r request.bytes) later
      gets_request = all me r request.bytes request.is_sent hears_request.meant_is (correct_replica c r correct)

      abbrev its : List Entry
      its = history_of r later ++ history_of r start

      is_its : history_of r trace ≡ its
      is_its = history_append r later start

      point : Point
      point = (goes.replicas r correct refl).0

      proceeds : HistoryIsPrompt c r its [] point point
      unfolding point
      proceeds = subst (λ (xs : List Entry). HistoryIsPrompt c r xs [] point point) is_its (goes.replicas r correct refl).1

      pub event : Owed c r (Got r request.bytes) [] (history_of r later) (history_of r start)
      event = owed c r (Got r request.bytes) refl [] (history_of r later) (history_of r start) point point proceeds (in_history r (Got r request.bytes) later refl gets_request)

      module _ (n : ℕ) (answer : Outcome) (gives : SendsMessage r (Reply me call.timestamp mode n answer) event.outs) where
        reply : Given r (Reply me call.timestamp mode n answer) event.outs
        reply = given r (Reply me call.timestamp mode n answer) event.outs gives

        sends_reply : HasEntry (Sent reply.party reply.bytes) (history_of r later)
        sends_reply = not_to_come (Sent reply.party reply.bytes) (history_of r later) (event.among (Sent reply.party reply.bytes) reply.is_there)

        might : (reply.party ≡ r) × MightSend c r (Sent reply.party reply.bytes) reply.bytes
        might = sent_may c r reply.party reply.bytes its point (proceeds_leaves c r its [] point point proceeds) (has_left (λ x. x ≡ Sent reply.party reply.bytes) (history_of r later) (history_of r start) sends_reply)

        hears_reply : Heard c r me (Reply me call.timestamp mode n answer) reply.bytes
        hears_reply =
            sealed_is_authentic c r me (Reply me call.timestamp mode n answer) reply.bytes reply.says well refl (and_parts (is_replica c r) _ correct).0 (exchange_back c me r (exchanges_with r correct))
          where
            may : MaySend c r might.1.past might.1.point (Sent reply.party reply.bytes) reply.bytes
            may = might.1.may

            same_body : ◌≡◌ {A = Body} may.body (record { sender = r; message = Reply me call.timestamp mode n answer })
            same_body = some_injective may.body (record { sender = r; message = Reply me call.timestamp mode n answer }) (sym may.says ∙ reply.says)

            well : (frame : Frame) → frame_of reply.bytes ≡ Some frame → authenticator_is_signed frame.authenticator ≡ false → IsSealed c frame × Has (λ x. x ≡ me) (receivers_of frame.authenticator)
            well frame is plain =
                let s = may.is_sealed frame is in
                (s.0, reply_for c r might.1.past me call.timestamp mode n answer frame.authenticator plain (subst (λ (b : Body). IsAddressed c r might.1.past b.message frame.authenticator) same_body s.1))

        gets_reply : HasEntry (Got me reply.bytes) later
        gets_reply =
            all r me reply.bytes (subst (λ (p : ℕ). HasEntry (Sent p reply.bytes) later) might.0 (in_trace r (Sent reply.party reply.bytes) later sends_reply)) hears_reply.meant_is (correct_client c me client)

        pub voted : Voted c trace mine me call.timestamp mode r
        voted =
            let v = latest_since c k call (history_of me start) opened mode r n answer reply.bytes hears_reply.receives (history_of me later) once not_yet (in_history me (Got me reply.bytes) later refl gets_reply) in
            let heard_it = latest_received c me call.timestamp mode r v.0 mine (own_entries c me mine safe) v.1 in
            record {
              vote = v.0;
              is_latest = v.1;
              says = heard_was_said c trace me (replying r me call.timestamp mode v.0.number v.0.answer) unforged (correct_client c me client) (correct_replica c r correct)
                  (subst (λ (xs : List Entry). Once (Receives c me (replying r me call.timestamp mode v.0.number v.0.answer)) xs) (sym is_mine) heard_it);
            }

    -- ---- 2f + 1 replies that agree are a quorum

    pub not_all_alike : (mode : Mode) (n : ℕ) (answer : Outcome) (from : ℕ → Bool) → 2 * c.faults + 1 ≤ count_below from (replicas c) → (by : (r : ℕ) → from r ≡ true → Voted c trace mine me call.timestamp mode r)
        → ((r : ℕ) (h : from r ≡ true) → ((by r h).vote.number ≡ n) × ((by r h).vote.answer ≡ answer)) → ⊥
    not_all_alike mode n answer from enough by same =
        let m = count_mono from (λ r. is_alike vote (latest c me mine call.timestamp mode r)) (replicas c) (λ r l h. alike r h) in
        let few = open_calls_lack_quorums c me mine call vote prompt still_open in
        omega arith
      where
        vote : Vote
        vote = record { mode = mode; number = n; answer = answer }

        alike : (r : ℕ) → from r ≡ true → is_alike vote (latest c me mine call.timestamp mode r) ≡ true
        alike r h =
            let v = by r h in
            let s = same r h in
            ap (is_alike vote) v.is_latest ∙ and_from (v.vote.number == n) (bytes_eq (outcome_spelling v.vote.answer) (outcome_spelling answer)) (eq-eqb v.vote.number n s.0)
            ((bytes_eq-Decides (outcome_spelling v.vote.answer) (outcome_spelling answer)).1 (ap outcome_spelling s.1))

    -- ---- a replica that keeps the reply

    module _ (request : Asked c me modes.Ordered call later) (r : ℕ) (correct : is_correct_replica c r ≡ true) (keeps : KeepsReply c r (history_of r start) k call.timestamp) where
      abbrev its_event : Owed c r (Got r request.bytes) [] (history_of r later) (history_of r start)
      its_event = event modes.Ordered request r correct

      still : (kept : Kept) × (kept_of its_event.old.state k ≡ Some kept) × (kept.timestamp ≡ call.timestamp)
      still =
          kept_stays c trace run k client call (subst (λ (xs : List Entry). open_call xs ≡ Some call) (sym is_mine) still_open) r (its_event.later ++ Got r request.bytes ∷ []) its_event.before (history_of r start)
          keeps.point its_event.old keeps.kept correct splits keeps.leaves its_event.leaves keeps.is_kept keeps.time
        where
          splits : history_of r trace ≡ (its_event.later ++ Got r request.bytes ∷ []) ++ (its_event.before ++ history_of r start)
          splits = history_append r later start ∙ ap (λ (xs : List Entry). xs ++ history_of r start) its_event.splits ∙ append_assoc its_event.later (Got r request.bytes ∷ its_event.before) (history_of r start)
              ∙ sym (append_assoc its_event.later (Got r request.bytes ∷ []) (its_event.before ++ history_of r start))

      votes : Voted c trace mine me call.timestamp modes.Ordered r
      votes =
          voted modes.Ordered request r correct still.0.number still.0.outcome
          (subst (λ (t : ℕ). SendsMessage r (Reply me t modes.Ordered still.0.number still.0.outcome) its_event.outs) still.2
          (its_event.owes.again k call.timestamp call.op still.0 (hears_request modes.Ordered request r correct).receives still.1 still.2))

    contradiction : (keeps : ℕ → Bool) → 2 * c.faults + 1 ≤ count_below keeps (replicas c) → ((r : ℕ) → keeps r ≡ true → (is_correct_replica c r ≡ true) × KeepsReply c r (history_of r start) k call.timestamp)
        → HasEntry (Tick me) later → ⊥
    contradiction keeps enough each tick = not_all_alike modes.Ordered first.vote.number first.vote.answer keeps enough by same
      where
        by : (r : ℕ) → keeps r ≡ true → Voted c trace mine me call.timestamp modes.Ordered r
        by r h = votes (asked tick) r (each r h).0 (each r h).1

        some : (r : ℕ) × (r < replicas c) × (false ≡ false) × (keeps r ≡ true)
        some = let n = none_pass (replicas c) in let more : count_below (λ s. false) (replicas c) < count_below keeps (replicas c) = omega arith in some_more keeps (λ s. false) (replicas c) more

        first : Voted c trace mine me call.timestamp modes.Ordered some.0
        first = by some.0 some.3

        same : (r : ℕ) (h : keeps r ≡ true) → ((by r h).vote.number ≡ first.vote.number) × ((by r h).vote.answer ≡ first.vote.answer)
        same r h =
            let v = by r h in
            spoken_agree c trace run me call.timestamp r some.0 v.vote.number first.vote.number v.vote.answer first.vote.answer client (each r h).0 (each some.0 some.3).0 v.says first.says

pub executed_calls_are_accepted : ExecutedCallsAreAccepted
executed_calls_are_accepted c setting later start run goes unforged apart k call keeps client opened enough each tick all = go (accepted_or_not k call.timestamp (history_of (256 + k) later))
  where
    go : Accepting k call.timestamp (history_of (256 + k) later) ⊎ (Accepting k call.timestamp (history_of (256 + k) later) → ⊥) → (answer : Outcome) × HasEntry (Accepted k call.timestamp answer) later
    go (inl a) = (a.0, in_trace (256 + k) (Accepted k call.timestamp a.0) later a.1)
    go (inr none) = absurd (contradiction c setting later start run goes unforged apart k call client opened all none keeps enough each tick)
