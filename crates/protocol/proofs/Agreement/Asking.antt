-- Correct replicas received the requests of logged batches, authentic to themselves.
use Rattle.std.proofs.Common.{◌≡◌, ℕ, zero, suc, ◌+◌, ◌-◌, ◌*◌, ◌≤◌, ◌<◌, ◌⊎◌, inl, inr, Bool, true, false, cond, List, [], ◌∷◌, slice_get, refl, sym, ◌∙◌, subst, arith, ◌&&◌, Some, None, bytes_eq, is_some}
use Rattle.std.specs.Prelude.{◌==◌, nat_lt, nat_le, option_and_then}
use Rattle.std.proofs.lemmas.Bool.{and_parts, or_cases, leb-true, ltb-true}
use Rattle.std.proofs.lemmas.Slice.Eq.{bytes_eq-Decides}
use Rattle.sha2.specs.Sha256.{sha256}
use Rattle.quorum.specs.Quorum.{count_below}
use Rattle.protocol.specs.System.Configuration.{Configuration, IsConfiguration, is_replica, is_client, is_correct_replica, members}
use Rattle.wire_format.specs.Messages.{BodyData as Body, MessageData as Message, NewViewData, BatchEntryData as BatchEntry, request as Request, pre_prepare as PrePrepare}
use Rattle.wire_format.specs.Words.{carried, requests_of, said}
use Rattle.wire_format.specs.Reading.{requests_at}
use Rattle.signing.specs.AuthenticBody.{authentic}
use Rattle.terms.specs.declared.order.Mode.TheVariants as modes
use Rattle.protocol.specs.System.Frames.{same_mode}
use Rattle.protocol.specs.System.Trace.{Entry, party_of, history_of, Once, Always, Unforged, frames_in, carried_by, Has}
use Rattle.protocol.specs.System.Trace.Entry.{Invoke, Got, Sent}
use Rattle.protocol.specs.Replica.Certificates.{proposal, assigned_proposal, entry_proposal, logged, taken, assigned_batch, are_genuine, is_in_marks, low}
use Rattle.protocol.specs.Replica.Selection.{changes_of, count_in, passes_by, vouches, may_select, may_stand, may_stand_at, may_be_null, is_null, is_weak_quorum, is_quorum, agrees}
use Rattle.protocol.specs.Replica.RightReplica.{HasSeen}
use Rattle.protocol.specs.System.Texts.{NoCollision}
use Rattle.protocol.specs.Replica.State.{Call, call_in, call_of}
use Rattle.protocol.specs.Laws.Histories.{AreReplicasSafe, TakesOrSendsNewView}
use Rattle.protocol.proofs.Words.Temporal.{once_weaker, once_in_trace}
use Rattle.protocol.proofs.Words.Options.{and_then_some, some_injective, given_once, or_else_cases}
use Rattle.protocol.proofs.Words.Linking.{heard_said}
use Rattle.protocol.proofs.Agreement.Voting.{RightAt, right_always, batch_is}
use Rattle.protocol.proofs.Agreement.Marks.{takes, proposes, Proposes, selected_in}
use Rattle.protocol.proofs.Agreement.Signed.{change_was_said}
use Rattle.protocol.proofs.Agreement.Changes.{proposed}
use Rattle.protocol.proofs.Words.Lists.{passes_change, stands_at, some_below}
use Rattle.protocol.proofs.Agreement.Staying.{selected, Selected, member_of}
use Rattle.protocol.proofs.Agreement.Executing.{logged_text}
use Rattle.protocol.proofs.Agreement.States.{correct_of}
use Rattle.protocol.proofs.Agreement.Offers.{entry_batch}
use Rattle.protocol.specs.Replica.Certificates.{batch_from}
use Rattle.protocol.proofs.Words.Elements.{every_has, some_of_has, each_has}
use Rattle.wire_format.specs.Lists.{Each}

-- a correct replica received the frame, authentic to itself, alone or carried
unfoldable pub AsksFrame : Configuration → List ℕ → List Entry → Entry → Type 0
AsksFrame c frame past (Got p bytes) = (is_correct_replica c p ≡ true) × (is_some (authentic (members c p) p frame) ≡ true) × Has (λ x. x ≡ frame) (frames_in bytes)
AsksFrame c frame past _ = ⊥

asks_any : (c : Configuration) (frame : List ℕ) (past other : List Entry) (e : Entry) → AsksFrame c frame past e → AsksFrame c frame other e
unfolding AsksFrame
asks_any c frame past other (Got x y) h = h
asks_any c frame past other _ h = absurd h

-- a call comes from a client
call_client : (c : Configuration) (frame : List ℕ) (call : Call) (body : Body) → call_of c frame ≡ Some call → said frame ≡ Some body → is_client c body.sender ≡ true
call_client c frame call body h is =
    let r = and_then_some (call_in c) (said frame) call h in
    let same : r.0 ≡ body = some_injective r.0 body (sym r.1 ∙ is) in
    subst (λ (x : Body). is_client c x.sender ≡ true) same (client r.0.sender r.0.message r.2)
  where
    client : (sender : ℕ) (message : Message) → call_in c (record { sender = sender; message = message }) ≡ Some call → is_client c sender ≡ true
    client sender (Request t mode op) h = go (same_mode mode modes.Ordered) (is_client c sender) refl h
      where
        go : (x y : Bool) → is_client c sender ≡ y → cond (x && y) (Some (record { client = sender - 256; timestamp = t; op = op })) None ≡ Some call → is_client c sender ≡ true
        go true true e h = e
        go true false e h = absurd cc
        go false y e h = absurd cc
    client sender _ h = absurd cc

-- a correct replica received each client's frame that a correct replica has seen
seen_asked : (c : Configuration) → IsConfiguration c → (r : ℕ) → is_correct_replica c r ≡ true → (frame : List ℕ) (call : Call) → call_of c frame ≡ Some call → is_some (authentic (members c r) r frame) ≡ true
    → (xs : List Entry) → Always (RightAt c r) xs → Once (HasSeen frame) xs → Once (AsksFrame c frame) xs
unfolding AsksFrame
seen_asked c setting r correct frame call is genuine [] right h = absurd h
seen_asked c setting r correct frame call is genuine (e ∷ past) right (inr h) = inr (seen_asked c setting r correct frame call is genuine past right.1 h)
seen_asked c setting r correct frame call is genuine (Got p bytes ∷ past) right (inl h) =
    inl (subst (λ (x : ℕ). is_correct_replica c x ≡ true) (sym right.0.own) correct, subst (λ (x : ℕ). is_some (authentic (members c x) x frame) ≡ true) (sym right.0.own) genuine, h)
seen_asked c setting r correct frame call is genuine (Sent p bytes ∷ past) right (inl (inl h)) =
    let m = right.0.may in
    let says : said frame ≡ Some m.body = subst (λ (x : List ℕ). said x ≡ Some m.body) h m.says in
    let client = call_client c frame call m.body is says in
    let a : 256 ≤ m.body.sender = leb-true 256 m.body.sender (and_parts (nat_le 256 m.body.sender) (nat_lt m.body.sender (256 + c.clients)) client).0 in
    let sender = m.own in
    let b : r < 3 * c.faults + 1 = ltb-true r (3 * c.faults + 1) (and_parts (is_replica c r) _ correct).0 in
    let most = setting.most in
    absurd (omega arith)
seen_asked c setting r correct frame call is genuine (Sent p bytes ∷ past) right (inl (inr h)) =
    let m = right.0.may in
    let has : Has (λ x. x ≡ frame) (carried m.body.message) = rw m.says at h in
    inr (seen_asked c setting r correct frame call is genuine past right.1 (each_has (λ x. Once (HasSeen x) past) (carried m.body.message) frame m.seen has))
seen_asked c setting r correct frame call is genuine (Invoke x y z ∷ past) right (inl h) = absurd h
seen_asked c setting r correct frame call is genuine (_ ∷ past) right (inl h) = absurd h

-- a correct replica received each call of the batch, authentic to itself
abbrev pub Asked : Configuration → List Entry → List ℕ → Type 0
Asked c trace batch = (frame : List ℕ) (call : Call) → Has (λ x. x ≡ frame) (requests_of batch) → call_of c frame ≡ Some call → Once (AsksFrame c frame) trace

-- ---- at one entry

carried_prepare : (bytes : List ℕ) (body : Body) (v i : ℕ) (batch : List ℕ) (frame : List ℕ) → said bytes ≡ Some body → body.message ≡ PrePrepare v i batch → Has (λ x. x ≡ frame) (requests_of batch)
    → Has (λ x. x ≡ frame) (carried_by bytes)
carried_prepare bytes body v i batch frame is message h = rw is (rw message h)

heard_asked : (c : Configuration) (r v i : ℕ) (a : List ℕ) (bytes : List ℕ) (sender : ℕ) (message : Message) → authentic (members c r) r bytes ≡ Some (record { sender = sender; message = message })
    → batch_from c r v i (record { sender = sender; message = message }) ≡ Some a → (frame : List ℕ) → Has (λ x. x ≡ frame) (requests_of a)
    → (is_some (authentic (members c r) r frame) ≡ true) × Has (λ x. x ≡ frame) (frames_in bytes)
heard_asked c r v i a bytes sender message is h frame has =
    let b = batch_is c r v i a sender message h in
    let body : Body = record { sender = sender; message = message } in (
      every_has (λ request. is_some (authentic (members c r) r request)) (requests_of a) frame b.2 has,
      inr (carried_prepare bytes body v i a frame (heard_said c r bytes body is) b.0 has),
    )

sent_genuine : (c : Configuration) (r v i : ℕ) (a : List ℕ) (sender : ℕ) (message : Message)
    → batch_from c r v i (record { sender = sender; message = message }) ≡ Some a → (are_genuine c r a ≡ true) × ((frame : List ℕ) → Has (λ x. x ≡ frame) (requests_of a) → Has (λ x. x ≡ frame) (carried message))
sent_genuine c r v i a sender message h = let b = batch_is c r v i a sender message h in (b.2, λ frame has. rw (b.0) has)

entry_asked : (c : Configuration) → IsConfiguration c → (r v i : ℕ) (a : List ℕ) (xs past : List Entry) (e : Entry) → ((R : List Entry → Entry → Type 0) → R past e ⊎ Once R past → Once R xs) → is_correct_replica c r ≡ true
    → Always (RightAt c r) (e ∷ past) → entry_proposal c r past e v i ≡ Some a → (frame : List ℕ) (call : Call) → Has (λ x. x ≡ frame) (requests_of a) → call_of c frame ≡ Some call
    → Once (AsksFrame c frame) xs
unfolding AsksFrame
entry_asked c setting r v i a xs past (Got p bytes) emb correct right h frame call has is =
    let t = (entry_batch c r v i a past (Got p bytes) h).1 in
    let own : p ≡ r = right.0.own in
    let receives : authentic (members c r) r bytes ≡ Some t.0 = subst (λ (x : ℕ). authentic (members c x) x bytes ≡ Some t.0) own t.1 in
    let g = heard_asked c r v i a bytes t.0.sender t.0.message receives t.2 frame has in
    emb (AsksFrame c frame) (inl (subst (λ (x : ℕ). is_correct_replica c x ≡ true) (sym own) correct, subst (λ (x : ℕ). is_some (authentic (members c x) x frame) ≡ true) (sym own) g.0, g.1))
entry_asked c setting r v i a xs past (Sent p bytes) emb correct right h frame call has is =
    let t = (entry_batch c r v i a past (Sent p bytes) h).1 in
    let m = right.0.may in
    let same : m.body ≡ t.0 = some_injective m.body t.0 (sym m.says ∙ t.1) in
    let g = sent_genuine c r v i a t.0.sender t.0.message t.2 in
    let seen : Each (λ x. Once (HasSeen x) past) (carried t.0.message) = subst (λ (x : Body). Each (λ y. Once (HasSeen y) past) (carried x.message)) same m.seen in
    let one = each_has (λ x. Once (HasSeen x) past) (carried t.0.message) frame seen (g.1 frame has) in
    emb (AsksFrame c frame) (inr (seen_asked c setting r correct frame call is (every_has (λ request. is_some (authentic (members c r) r request)) (requests_of a) frame g.0 has) past right.1 one))
entry_asked c setting r v i a xs past (Invoke x y z) emb correct right h frame call has is = absurd cc
entry_asked c setting r v i a xs past _ emb correct right h frame call has is = absurd cc

-- the null batch has no requests
null_asked : (c : Configuration) (trace : List Entry) (a : List ℕ) → is_null a ≡ true → Asked c trace a
unfolding requests_of requests_at
null_asked c trace a h frame call has is =
    let e : a ≡ 0 ∷ [] = (bytes_eq-Decides a (0 ∷ [])).0 h in
    absurd (subst (λ (x : List ℕ). Has (λ y. y ≡ frame) (requests_of x)) e has)

-- ---- by induction over the views

module _ (c : Configuration) (setting : IsConfiguration c) (trace : List Entry) (right : AreReplicasSafe c trace) (unforged : Unforged c trace) (apart : NoCollision c trace) where
  AskedIn : ℕ → Type 0
  AskedIn v = (r i : ℕ) (a : List ℕ) → is_correct_replica c r ≡ true → logged c r (history_of r trace) v i ≡ Some a → Asked c trace a

  -- f + 1 replicas vouch for it in a lower view
  vouched_asked : (v : ℕ) → ((u : ℕ) → u < v → AskedIn u) → (r i : ℕ) (a : List ℕ) (new : NewViewData) → is_correct_replica c r ≡ true → logged c r (history_of r trace) v i ≡ Some a
      → Once (TakesOrSendsNewView c new) (history_of r trace) → new.view ≡ v → Selected c new → (x : ℕ) → is_weak_quorum c (count_in c (vouches i x (sha256 a)) (changes_of c new)) ≡ true → Asked c trace a
  unfolding AskedIn
  vouched_asked v below r i a new correct logs takes' view_is sel x h =
      let enough : c.faults + 1 ≤ count_below (passes_by (vouches i x (sha256 a)) (changes_of c new)) (3 * c.faults + 1) = leb-true (c.faults + 1) (count_in c (vouches i x (sha256 a)) (changes_of c new)) h in
      let more : c.faults < count_below (passes_by (vouches i x (sha256 a)) (changes_of c new)) (3 * c.faults + 1) = omega arith in
      let s = correct_of c setting (passes_by (vouches i x (sha256 a)) (changes_of c new)) more in
      let t = passes_change (vouches i x (sha256 a)) (changes_of c new) s.0 s.2 in
      let says = change_was_said c trace r s.0 new t.0 right unforged correct s.1 takes' t.1 in
      let k = some_of_has (λ (batch_entry : BatchEntry). (batch_entry.number == i) && bytes_eq batch_entry.digest (sha256 a) && nat_le x batch_entry.view) t.0.pre_prepared t.2 in
      let parts = and_parts ((k.0.number == i) && bytes_eq k.0.digest (sha256 a)) (nat_le x k.0.view) k.2 in
      let ends = and_parts (k.0.number == i) (bytes_eq k.0.digest (sha256 a)) parts.0 in
      let m = member_of c new s.0 t.0 sel t.1 in
      let q = right s.0 s.1 in
      let o = proposed c s.0 t.0 (history_of s.0 trace) (right_always c s.0 (history_of s.0 trace) q.0 q.1) says k.0 k.1 in
      let bound = (m.proposed k.0 k.1).0 in
      let member_view = m.view_is in
      let lower : k.0.view < v = omega arith in
      let digest : sha256 o.batch ≡ sha256 a = o.digest_is ∙ (bytes_eq-Decides k.0.digest (sha256 a)).0 ends.1 in
      let same : o.batch ≡ a = apart o.batch a (logged_text c trace s.0 k.0.view k.0.number o.batch right s.1 o.is_logged) (logged_text c trace r v i a right correct logs) digest in
      subst (Asked c trace) same (below k.0.view lower s.0 k.0.number o.batch s.1 o.is_logged)

  assigned_asked : (v : ℕ) → ((u : ℕ) → u < v → AskedIn u) → (r i : ℕ) (a : List ℕ) (new : NewViewData) → is_correct_replica c r ≡ true → logged c r (history_of r trace) v i ≡ Some a
      → Once (TakesOrSendsNewView c new) (history_of r trace) → assigned_batch v i new ≡ Some a → may_select c new ≡ true → Asked c trace a
  assigned_asked v below r i a new correct logs takes' has may =
      by (or_cases (nat_lt 0 (count_below (may_stand_at c (changes_of c new) i (sha256 a)) new.view)) (is_null a && may_be_null c (changes_of c new) i) stand)
    where
      sel : Selected c new
      sel = selected c new may

      at : Proposes c v i new
      at = proposes c v i new a has

      place : i ≡ suc new.start + (i - new.start - 1)
      place = let above = at.above in omega arith

      get : slice_get new.batches (i - new.start - 1) ≡ Some a
      get = go ((new.view == v) && nat_lt new.start i) has
        where
          go : (b : Bool) → cond b (slice_get new.batches (i - new.start - 1)) None ≡ Some a → slice_get new.batches (i - new.start - 1) ≡ Some a
          go true h = h
          go false h = absurd cc

      stand : may_stand c new.view (changes_of c new) i a ≡ true
      stand = stands_at c new.view (changes_of c new) (suc new.start) new.batches (i - new.start - 1) a sel.stand get i place

      by : (nat_lt 0 (count_below (may_stand_at c (changes_of c new) i (sha256 a)) new.view) ≡ true) ⊎ ((is_null a && may_be_null c (changes_of c new) i) ≡ true) → Asked c trace a
      by (inl k) =
          let x = some_below (may_stand_at c (changes_of c new) i (sha256 a)) new.view k in
          let rules = and_parts (is_quorum c (count_in c (λ vc. nat_lt vc.low i && agrees i x.0 (sha256 a) vc) (changes_of c new))) (is_weak_quorum c (count_in c (vouches i x.0 (sha256 a)) (changes_of c new))) x.2 in
          vouched_asked v below r i a new correct logs takes' at.view_is sel x.0 rules.1
      by (inr k) = null_asked c trace a (and_parts (is_null a) (may_be_null c (changes_of c new) i) k).0

  logged_asked : (v : ℕ) → ((u : ℕ) → u < v → AskedIn u) → (r i : ℕ) (a : List ℕ) → is_correct_replica c r ≡ true → logged c r (history_of r trace) v i ≡ Some a
      → (xs : List Entry) → ((R : List Entry → Entry → Type 0) → Once R xs → Once R (history_of r trace)) → Always (RightAt c r) xs
      → Once (λ past e. proposal c r past e v i ≡ Some a) xs → Asked c trace a
  logged_asked v below r i a correct logs [] emb rights h = absurd h
  logged_asked v below r i a correct logs (e ∷ past) emb rights (inr h) = logged_asked v below r i a correct logs past (λ R k. emb R (inr k)) rights.1 h
  logged_asked v below r i a correct logs (e ∷ past) emb rights (inl h) = go (or_else_cases (assigned_proposal c r past e v i) (entry_proposal c r past e v i) a h)
    where
      assigned : (m : Bool) → cond m (option_and_then (assigned_batch v i) (taken c past e)) None ≡ Some a → Asked c trace a
      assigned false k = absurd cc
      assigned true k =
          let t = and_then_some (assigned_batch v i) (taken c past e) a k in
          assigned_asked v below r i a t.0 correct logs (emb (TakesOrSendsNewView c t.0) (inl t.1)) t.2 (selected_in c e t.0 (takes c r past e t.0 t.1).brought)

      go : (assigned_proposal c r past e v i ≡ Some a) ⊎ (entry_proposal c r past e v i ≡ Some a) → Asked c trace a
      go (inl k) = assigned (is_in_marks c (low c r (e ∷ past)) i) k
      go (inr k) = λ frame call has is.
          let there : Once (AsksFrame c frame) (history_of r trace) = entry_asked c setting r v i a (history_of r trace) past e (λ R u. emb R u) correct rights k frame call has is in
          once_weaker (λ past e. (party_of e ≡ r) × AsksFrame c frame (history_of r past) e) (AsksFrame c frame) (λ past e t. asks_any c frame (history_of r past) past e t.1) trace
          (once_in_trace (AsksFrame c frame) r trace there)

  asked_at : (v : ℕ) → ((u : ℕ) → u < v → AskedIn u) → AskedIn v
  unfolding AskedIn logged
  asked_at v below r i a correct h =
      let q = right r correct in
      logged_asked v below r i a correct h (history_of r trace) (λ R x. x) (right_always c r (history_of r trace) q.0 q.1)
      (given_once (λ earlier e. proposal c r earlier e v i) a (history_of r trace) h)

  asked_below : (k v : ℕ) → v < k → AskedIn v
  asked_below zero v l = absurd (omega arith)
  asked_below (suc k) v l = asked_at v (λ u m. let n : u < k = omega arith in asked_below k u n)

  -- a correct replica received the calls of each batch that a correct replica logs, authentic to itself
  pub all_asked : (v r i : ℕ) (a : List ℕ) → is_correct_replica c r ≡ true → logged c r (history_of r trace) v i ≡ Some a → Asked c trace a
  unfolding AskedIn
  all_asked v r i a correct h = let l : v < suc v = omega arith in asked_below (suc v) v l r i a correct h
