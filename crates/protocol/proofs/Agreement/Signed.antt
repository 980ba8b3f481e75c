-- A correct replica sent the frames in a new view that it signed.
use Rattle.std.proofs.Common.{◌≡◌, ℕ, inl, inr, Bool, true, false, cond, List, [], ◌∷◌, map, Option, Some, None, refl, sym, ap, ap₂, ◌∙◌, subst, eqb-true}
use Rattle.std.specs.Prelude.{◌==◌, ⊤}
use Rattle.protocol.specs.System.Configuration.{Configuration, is_correct, is_correct_replica, members, signers}
use Rattle.wire_format.specs.Messages.{BodyData as Body, MessageData as Message, NewViewData, ViewChangeData, view_change as ViewChange, new_view as NewView}
use Rattle.wire_format.specs.Words.{carried, requests_of_all, said}
use Rattle.signing.specs.AuthenticBody.{authentic, signed_body}
use Rattle.protocol.specs.System.Trace.{Entry, party_of, history_of, Once, Always, SendsBody, IsFromSender, IsUnforgedAt, Unforged, frames_in, carried_by, Has}
use Rattle.protocol.specs.System.Trace.Entry.{Invoke, Got, Sent}
use Rattle.protocol.specs.Replica.Certificates.{new_view_in, new_view_from, taken}
use Rattle.protocol.specs.Replica.Selection.{changes_of, signed_change, change_in, change_by, list_of}
use Rattle.protocol.specs.Replica.RightReplica.{HasSeen}
use Rattle.protocol.specs.Laws.Histories.{AreReplicasSafe, TakesOrSendsNewView}
use Rattle.protocol.proofs.Words.Temporal.{once_weaker, once_in_history, always_sees, always_in_history}
use Rattle.protocol.proofs.Words.Options.{and_then_some, some_injective}
use Rattle.protocol.proofs.Words.Linking.{Speaks, heard_said, signed_said, sent_spoken}
use Rattle.protocol.proofs.Agreement.Voting.{RightAt, right_always, correct_replica, speaks_as_itself}
use Rattle.protocol.proofs.Agreement.Marks.{takes, begins}
use Rattle.protocol.proofs.Words.Elements.{each_has, has_left}
use Rattle.wire_format.specs.Lists.{Each}

-- ---- signed frames that were seen were sent

abbrev pub SaidIfSigned : Configuration → List Entry → List ℕ → Type 0
SaidIfSigned c trace bytes = (body : Body) → signed_body (signers c) bytes ≡ Some body → is_correct_replica c body.sender ≡ true → Once (Speaks body) (history_of body.sender trace)

abbrev pub GotsSaid : Configuration → List Entry → Entry → Type 0
GotsSaid c trace (Got p whole) = (bytes : List ℕ) → Has (λ x. x ≡ bytes) (frames_in whole) → SaidIfSigned c trace bytes
GotsSaid c trace _ = ⊤

pub gots_said : (c : Configuration) (trace : List Entry) (q : ℕ) → Unforged c trace → is_correct c q ≡ true → Always (λ past e. GotsSaid c trace e) (history_of q trace)
gots_said c trace q unforged correct =
    always_in_history (GotsSaid c trace) q trace
    (always_sees (IsUnforgedAt c) (λ past e. party_of e ≡ q → GotsSaid c trace e) trace trace (λ R h. h) step unforged)
  where
    step : (past : List Entry) (e : Entry) → IsUnforgedAt c past e → ((R : List Entry → Entry → Type 0) → Once R past → Once R trace) → party_of e ≡ q → GotsSaid c trace e
    step past (Got p whole) u emb own = λ bytes has body signed from.
        let mine : is_correct c p ≡ true = rw own correct in
        let frames : Each (IsFromSender c p past) (frames_in whole) = u mine in
        let one : IsFromSender c p past bytes = each_has (IsFromSender c p past) (frames_in whole) bytes frames has in
        let sends = one.signed body signed (correct_replica c body.sender from) in
        once_in_history (Speaks body) body.sender trace
        (once_weaker (SendsBody body) (λ past e. (party_of e ≡ body.sender) × Speaks body (history_of body.sender past) e)
        (sent_spoken body) trace (emb (SendsBody body) sends))
    step past _ u emb own = tt

pub seen_was_said : (c : Configuration) (trace : List Entry) (q : ℕ) (xs : List Entry) → ((R : List Entry → Entry → Type 0) → Once R xs → Once R (history_of q trace))
    → Always (RightAt c q) xs → Always (λ past e. GotsSaid c trace e) xs → (bytes : List ℕ) → Once (HasSeen bytes) xs → SaidIfSigned c trace bytes
seen_was_said c trace q [] emb right gots bytes h = absurd h
seen_was_said c trace q (e ∷ past) emb right gots bytes (inr h) = seen_was_said c trace q past (λ R k. emb R (inr k)) right.1 gots.1 bytes h
seen_was_said c trace q (Got p whole ∷ past) emb right gots bytes (inl h) = gots.0 bytes h
seen_was_said c trace q (Sent p whole ∷ past) emb right gots bytes (inl (inl is)) = λ body signed from.
    let says : said bytes ≡ Some body = signed_said c bytes body signed in
    let here : said whole ≡ Some body = rw is says in
    let mine : body.sender ≡ q = speaks_as_itself c q body past (Sent p whole) right.0 here in
    subst (λ (x : ℕ). Once (Speaks body) (history_of x trace)) (sym mine) (emb (Speaks body) (inl here))
seen_was_said c trace q (Sent p whole ∷ past) emb right gots bytes (inl (inr h)) =
    let m = right.0.may in
    let has : Has (λ x. x ≡ bytes) (carried m.body.message) = rw m.says at h in
    let seen : Once (HasSeen bytes) past = each_has (λ frame. Once (HasSeen frame) past) (carried m.body.message) bytes m.seen has in
    seen_was_said c trace q past (λ R k. emb R (inr k)) right.1 gots.1 bytes seen
seen_was_said c trace q (_ ∷ past) emb right gots bytes (inl h) = absurd h

-- ---- the view changes of a new view

abbrev pub changing : ℕ → ViewChangeData → Body
changing s vc = record { sender = s; message = ViewChange vc }

change_is : (sender : ℕ) (message : Message) (s : ℕ) (vc : ViewChangeData) → change_in (record { sender = sender; message = message }) ≡ Some (s, vc)
    → ◌≡◌ {A = Body} (record { sender = sender; message = message }) (changing s vc)
change_is sender (ViewChange x) s vc h =
    let pair : ◌≡◌ {A = ℕ × ViewChangeData} (sender, x) (s, vc) = some_injective {A = ℕ × ViewChangeData} (sender, x) (s, vc) h in
    ap (λ (y : ℕ × ViewChangeData). changing y.0 y.1) pair
change_is sender _ s vc h = absurd cc

change_frame : (c : Configuration) (frames : List (List ℕ)) (s : ℕ) (vc : ViewChangeData) → change_by (list_of (map (signed_change c) frames)) s ≡ Some vc
    → (bytes : List ℕ) × Has (λ x. x ≡ bytes) frames × (signed_change c bytes ≡ Some (s, vc))
change_frame c [] s vc h = absurd cc
change_frame c (frame ∷ frames) s vc h = go (signed_change c frame) refl h (change_frame c frames s vc)
  where
    go : (o : Option (ℕ × ViewChangeData)) → signed_change c frame ≡ o → change_by (list_of (o ∷ map (signed_change c) frames)) s ≡ Some vc
        → (change_by (list_of (map (signed_change c) frames)) s ≡ Some vc → (bytes : List ℕ) × Has (λ x. x ≡ bytes) frames × (signed_change c bytes ≡ Some (s, vc)))
        → (bytes : List ℕ) × Has (λ x. x ≡ bytes) (frame ∷ frames) × (signed_change c bytes ≡ Some (s, vc))
    go None is h below = let r = below h in (r.0, inr r.1, r.2)
    go (Some x) is h below = test (x.0 == s) refl h
      where
        test : (b : Bool) → (x.0 == s) ≡ b → cond b (Some x.1) (change_by (list_of (map (signed_change c) frames)) s) ≡ Some vc
            → (bytes : List ℕ) × Has (λ x. x ≡ bytes) (frame ∷ frames) × (signed_change c bytes ≡ Some (s, vc))
        test true e k =
            let es : x.0 ≡ s = eqb-true x.0 s e in
            let ev : x.1 ≡ vc = some_injective x.1 vc k in
            let both : ◌≡◌ {A = ℕ × ViewChangeData} x (s, vc) = ap₂ (λ (m : ℕ) (w : ViewChangeData). (let p : ℕ × ViewChangeData = (m, w) in p)) es ev in
            (frame, inl refl, is ∙ ap Some both)
        test false e k = let r = below k in (r.0, inr r.1, r.2)

pub begin_seen : (new : NewViewData) (bytes : List ℕ) (whole : List ℕ) (body : Body) → said whole ≡ Some body → body.message ≡ NewView new → Has (λ x. x ≡ bytes) new.changes
    → Has (λ x. x ≡ bytes) (carried_by whole)
begin_seen new bytes whole body is message h = rw is (rw message (has_left (λ y. y ≡ bytes) new.changes (requests_of_all new.batches) h))

pub taken_seen : (c : Configuration) (new : NewViewData) (bytes : List ℕ) → Has (λ x. x ≡ bytes) new.changes → (past : List Entry) (e : Entry) → TakesOrSendsNewView c new past e → HasSeen bytes past e
taken_seen c new bytes h past e t = go e (takes c 0 past e new t).brought
  where
    go : (e : Entry) → new_view_in c e ≡ Some new → HasSeen bytes past e
    go (Got p whole) b =
        let r = and_then_some (new_view_from c) (authentic (members c p) p whole) new b in
        let is : said whole ≡ Some r.0 = heard_said c p whole r.0 r.1 in
        inr (begin_seen new bytes whole r.0 is (begins c r.0 new r.2).message_is h)
    go (Sent p whole) b =
        let r = and_then_some (new_view_from c) (said whole) new b in
        inr (begin_seen new bytes whole r.0 r.1 (begins c r.0 new r.2).message_is h)
    go (Invoke x y z) b = absurd cc
    go _ b = absurd cc

-- a correct replica sent its view change that stands in a taken new view
pub change_was_said : (c : Configuration) (trace : List Entry) (q s : ℕ) (new : NewViewData) (vc : ViewChangeData) → AreReplicasSafe c trace → Unforged c trace
    → is_correct_replica c q ≡ true → is_correct_replica c s ≡ true → Once (TakesOrSendsNewView c new) (history_of q trace) → change_by (changes_of c new) s ≡ Some vc
    → Once (Speaks (changing s vc)) (history_of s trace)
change_was_said c trace q s new vc right unforged correct from taken is =
    let r = right q correct in
    let f = change_frame c new.changes s vc is in
    let t = and_then_some change_in (signed_body (signers c) f.0) (s, vc) f.2 in
    let body : signed_body (signers c) f.0 ≡ Some (changing s vc) = t.1 ∙ ap Some (change_is t.0.sender t.0.message s vc t.2) in
    let seen : Once (HasSeen f.0) (history_of q trace) = once_weaker (TakesOrSendsNewView c new) (HasSeen f.0) (taken_seen c new f.0 f.1) (history_of q trace) taken in
    seen_was_said c trace q (history_of q trace) (λ R h. h) (right_always c q (history_of q trace) r.0 r.1)
    (gots_said c trace q unforged (correct_replica c q correct)) f.0 seen (changing s vc) body from
