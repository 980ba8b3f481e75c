-- Each correct replica that has left for no later view takes a new view that its primary sends.
use Rattle.std.proofs.Common.{◌≡◌, ◌≢◌, ℕ, suc, ◌+◌, ◌-◌, ◌≤◌, ◌<◌, inl, Bool, true, false, cond, List, [], ◌∷◌, ◌++◌, Option, Some, None, refl, sym, ap, ◌∙◌, subst, arith, append_assoc, eqb-true, eq-eqb}
use Rattle.std.specs.Prelude.{◌==◌, nat_lt, nat_le, option_and_then}
use Rattle.std.specs.Bool.{then_some}
use Rattle.std.specs.List.{range_with_len}
use Rattle.std.specs.Option.{option_map_or}
use Rattle.std.proofs.lemmas.Bool.{and_parts, and_from, ltb-true, ltb-false, le-leb, eqb-false}
use Rattle.wire_format.specs.Messages.{BodyData as Body, FrameData as Frame, AuthenticatorData as Authenticator, macs, signature, NewViewData, new_view as NewView}
use Rattle.wire_format.specs.Spelling.{is_signed, authenticator_is_signed}
use Rattle.wire_format.specs.Words.{said}
use Rattle.signing.specs.AuthenticBody.{authentic, signed_body}
use Rattle.signing.proofs.AuthenticBody.{authentic_was_opened}
use Rattle.protocol.specs.System.Configuration.{Configuration, replicas, primary, is_replica, is_correct_replica, members, signers}
use Rattle.protocol.specs.System.Trace.{Entry, history_of, Has, party_of}
use Rattle.protocol.specs.System.Trace.Entry.{Invoke, Got, Sent}
use Rattle.protocol.specs.System.Run.{IsRun}
use Rattle.protocol.specs.System.Schedule.{meant_for}
use Rattle.protocol.specs.Replica.Selection.{may_select}
use Rattle.protocol.specs.Replica.Certificates.{view, view_after, target, is_later, new_view_in, new_view_from}
use Rattle.protocol.specs.Replica.RightReplica.{Point, HistoryReaches, SafeReplica}
use Rattle.protocol.proofs.Words.Options.{and_then_some}
use Rattle.protocol.proofs.Words.Elements.{has_left, has_right}
use Rattle.protocol.proofs.Words.Reacting.{is_replica_right}
use Rattle.protocol.proofs.Agreement.Marks.{Begins, begins, view_grows}
use Rattle.protocol.proofs.Agreement.Voting.{correct_replica}
use Rattle.protocol.proofs.Agreement.States.{history_append}
use Rattle.evidence.proofs.Knowing.{signed_is_heard}
use Rattle.progress.specs.Delivery.{HasEntry, meant, AllDelivered}
use Rattle.progress.specs.Leaving.{NewViewsAreEntered}
use Rattle.progress.proofs.Answering.{in_range, in_history, in_trace}
use Rattle.progress.proofs.Committing.{Stands, stands}
use Rattle.progress.proofs.Receiving.{Spelled, spelled_as}
use Rattle.progress.proofs.Steady.{SentAt, sent_at, view_later, target_later, leaves_behind}
use Rattle.progress.proofs.Leaving.{signed_by}

-- ---- a signed frame is for all other replicas

signed_for : (c : Configuration) (p : ℕ) (a : Authenticator) → authenticator_is_signed a ≡ true → (s : ℕ) → s < replicas c → s ≢ p → Has (λ x. x ≡ s) (meant_for c p a)
signed_for c p (macs entries) h s small differ = absurd cc
signed_for c p (signature text) h s small differ = go (nat_lt s p) refl
  where
    go : (b : Bool) → nat_lt s p ≡ b → Has (λ x. x ≡ s) (range_with_len 0 p ++ range_with_len (suc p) (replicas c - suc p))
    go true e =
        let l = ltb-true s p e in
        let inside : s < 0 + p = omega arith in
        has_left (λ x. x ≡ s) (range_with_len 0 p) (range_with_len (suc p) (replicas c - suc p)) (in_range 0 p s (omega arith) inside)
    go false e =
        let above : suc p ≤ s = omega (arith, (ltb-false s p e), differ) in
        let inside : s < suc p + (replicas c - suc p) = omega (arith, above, small) in
        has_right (λ x. x ≡ s) (range_with_len 0 p) (range_with_len (suc p) (replicas c - suc p)) (in_range (suc p) (replicas c - suc p) s above inside)

pub signed_is_meant : (c : Configuration) (p s : ℕ) (bytes : List ℕ) (body : Body) → said bytes ≡ Some body → is_signed body.message ≡ true → s < replicas c → s ≢ p
    → Has (λ x. x ≡ s) (meant c p bytes)
signed_is_meant c p s bytes body says kind small differ =
    subst (λ (o : Option Frame). Has (λ x. x ≡ s) (option_map_or (λ (frame : Frame). meant_for c p frame.authenticator) o [])) (sym f.is)
    (signed_for c p f.frame.authenticator (f.spells.valid.proved ∙ ap (λ (b : Body). is_signed b.message) f.body_is ∙ kind) s small differ)
  where
    f : Spelled bytes body
    f = spelled_as bytes body says

-- ---- the primary's new view

-- the new view that brought a replica into its view
pub record Brought (c : Configuration) (v : ℕ) (part start : List Entry) : Type 0 where
  pub newer : List Entry
  pub entry : Entry
  pub middle : List Entry
  pub splits : part ≡ newer ++ entry ∷ middle
  pub new : NewViewData
  pub brings : new_view_in c entry ≡ Some new
  pub is_view : new.view ≡ v

pub brought_into : (c : Configuration) (v : ℕ) (part start : List Entry) → view c start < v → view c (part ++ start) ≡ v → Brought c v part start
unfolding view
brought_into c v [] start below is = absurd (omega arith)
brought_into c v (e ∷ part) start below is = go (new_view_in c e) refl is (brought_into c v part start below)
  where
    behind : view c (part ++ start) ≡ v → (view c (part ++ start) ≡ v → Brought c v part start) → Brought c v (e ∷ part) start
    behind k rest = let b = rest k in record { newer = e ∷ b.newer; entry = b.entry; middle = b.middle; splits = ap (λ (xs : List Entry). e ∷ xs) b.splits; new = b.new; brings = b.brings; is_view = b.is_view }

    go : (o : Option NewViewData) → new_view_in c e ≡ o → view_after (view c (part ++ start)) (target (part ++ start)) o ≡ v → (view c (part ++ start) ≡ v → Brought c v part start) → Brought c v (e ∷ part) start
    go None h k rest = behind k rest
    go (Some new) h k rest = pick (is_later (view c (part ++ start)) (target (part ++ start)) new) k
      where
        pick : (b : Bool) → cond b new.view (view c (part ++ start)) ≡ v → Brought c v (e ∷ part) start
        pick true k = record { newer = []; entry = e; middle = part; splits = refl; new = new; brings = h; is_view = k }
        pick false k = behind k rest

-- the primary sent it
pub record NewViewSent (c : Configuration) (p v : ℕ) (part : List Entry) : Type 0 where
  pub bytes : List ℕ
  pub new : NewViewData
  pub is_sent : HasEntry (Sent p bytes) part
  pub says : said bytes ≡ Some (record { sender = p; message = NewView new })
  pub selected : may_select c new ≡ true
  pub is_view : new.view ≡ v

pub primary_sent : (c : Configuration) (v : ℕ) (part start : List Entry) (point : Point) → HistoryReaches c (primary c v) (part ++ start) point → Brought c v part start → NewViewSent c (primary c v) v part
primary_sent c v part start point leaves b = go b.entry refl b.brings
  where
    behind : (first : Point) × HistoryReaches c (primary c v) (b.entry ∷ (b.middle ++ start)) first
    behind = leaves_behind c (primary c v) b.newer (b.entry ∷ (b.middle ++ start)) point
        (subst (λ (xs : List Entry). HistoryReaches c (primary c v) xs point) (ap (λ (xs : List Entry). xs ++ start) b.splits ∙ append_assoc b.newer (b.entry ∷ b.middle) start) leaves)

    own : party_of b.entry ≡ primary c v
    own = behind.1.2.own

    there : HasEntry b.entry part
    there = subst (λ (xs : List Entry). HasEntry b.entry xs) (sym b.splits) (has_right (λ x. x ≡ b.entry) b.newer (b.entry ∷ b.middle) (inl refl))

    same : (body : Body) (t : Begins c body b.new) → body.sender ≡ primary c v
    same body t = t.sender_is ∙ ap (primary c) b.is_view

    go : (e : Entry) → b.entry ≡ e → new_view_in c e ≡ Some b.new → NewViewSent c (primary c v) v part
    go (Got q bytes) is h =
        let r = and_then_some (new_view_from c) (authentic (members c q) q bytes) b.new h in
        absurd ((authentic_was_opened (members c q) q bytes r.0 r.1).other (same r.0 (begins c r.0 b.new r.2) ∙ sym (ap party_of (sym is) ∙ own)))
    go (Sent q bytes) is h =
        let r = and_then_some (new_view_from c) (said bytes) b.new h in
        let t = begins c r.0 b.new r.2 in
        record {
          bytes = bytes;
          new = b.new;
          is_sent = subst (λ (x : ℕ). HasEntry (Sent x bytes) part) (ap party_of (sym is) ∙ own) (subst (λ (x : Entry). HasEntry x part) is there);
          says = r.1 ∙ ap Some (rw ((same r.0 t), t.message_is) refl);
          selected = t.selected;
          is_view = b.is_view;
        }
    go (Invoke x y z) is h = absurd cc
    go _ is h = absurd cc

-- ---- it is taken

-- after an entry that brings a new view of v, a replica that left for no later one is in v or beyond
pub in_view : (c : Configuration) (v : ℕ) (new : NewViewData) (newer past : List Entry) (e : Entry) → new_view_in c e ≡ Some new → new.view ≡ v → target (newer ++ e ∷ past) ≤ v → v ≤ view c (newer ++ e ∷ past)
unfolding view
in_view c v new newer past e brings is most =
    let later = view_later c newer (e ∷ past) in
    let t = target_later newer (e ∷ past) in
    let here = entered (nat_lt (view c past) v) refl in
    omega arith
  where
    entered : (b : Bool) → nat_lt (view c past) v ≡ b → v ≤ view c (e ∷ past)
    entered true h =
        let t = target_later newer (e ∷ past) in
        let g = (target_later (e ∷ []) past) in
        let l : target past ≤ new.view = omega arith in
        let above : nat_lt (view c past) new.view ≡ true = subst (λ (n : ℕ). nat_lt (view c past) n ≡ true) (sym is) h in
        let later : is_later (view c past) (target past) new ≡ true = and_from (nat_lt (view c past) new.view) (nat_le (target past) new.view) above (le-leb (target past) new.view l) in
        let at : view_after (view c past) (target past) (new_view_in c e) ≡ new.view = ap (view_after (view c past) (target past)) brings ∙ ap (λ (b : Bool). cond b new.view (view c past)) later in
        omega arith
    entered false h =
        let l = ltb-false (view c past) v h in
        let g = view_grows c e past in
        omega arith

pub selected_brings : (c : Configuration) (v : ℕ) (new : NewViewData) (body : Body) → body ≡ record { sender = primary c v; message = NewView new } → may_select c new ≡ true → new.view ≡ v → new_view_from c body ≡ Some new
selected_brings c v new body is selected at =
    ap (new_view_from c) is
    ∙ ap (λ (b : Bool). then_some b new) (and_from (primary c v == primary c new.view) (may_select c new) (eq-eqb (primary c v) (primary c new.view) (ap (primary c) (sym at))) selected)

module _ (c : Configuration) (later start : List Entry) (run : IsRun c (later ++ start)) (all : AllDelivered c later) (v : ℕ) (from : is_correct_replica c (primary c v) ≡ true)
    (below : view c (history_of (primary c v) start) < v) (is : view c (history_of (primary c v) (later ++ start)) ≡ v) where
  abbrev p0 : ℕ
  p0 = primary c v

  parts : (q : ℕ) → history_of q (later ++ start) ≡ history_of q later ++ history_of q start
  parts q = history_append q later start

  right : SafeReplica c p0 (history_of p0 later ++ history_of p0 start)
  right = subst (SafeReplica c p0) (parts p0) (is_replica_right c p0 (history_of p0 (later ++ start)) (run.replicas p0 from))

  pub its_new_view : NewViewSent c p0 v (history_of p0 later)
  its_new_view = primary_sent c v (history_of p0 later) (history_of p0 start) right.0 right.1
      (brought_into c v (history_of p0 later) (history_of p0 start) below (ap (view c) (sym (parts p0)) ∙ is))

  known : is_replica c p0 ≡ true
  known = (and_parts (is_replica c p0) _ from).0

  signed : signed_body (signers c) its_new_view.bytes ≡ Some (record { sender = p0; message = NewView its_new_view.new })
  signed = signed_by c p0 its_new_view.bytes (record { sender = p0; message = NewView its_new_view.new }) at.past at.point at.may its_new_view.says refl known
    where
      at : SentAt c p0 p0 its_new_view.bytes (history_of p0 later ++ history_of p0 start)
      at = sent_at c p0 p0 its_new_view.bytes (history_of p0 later ++ history_of p0 start) right.0 right.1
          (has_left (λ x. x ≡ Sent p0 its_new_view.bytes) (history_of p0 later) (history_of p0 start) its_new_view.is_sent)

  pub enters : (r : ℕ) → is_correct_replica c r ≡ true → target (history_of r (later ++ start)) ≤ v → v ≤ view c (history_of r (later ++ start))
  enters r correct most = go (r == p0) refl
    where
      small : r < replicas c
      small = ltb-true r (replicas c) (and_parts (is_replica c r) _ correct).0

      go : (b : Bool) → (r == p0) ≡ b → v ≤ view c (history_of r (later ++ start))
      go true e =
          let same : view c (history_of r (later ++ start)) ≡ v = ap (λ (q : ℕ). view c (history_of q (later ++ start))) (eqb-true r p0 e) ∙ is in
          omega arith
      go false e =
          let whole : history_of r (later ++ start) ≡ at.newer ++ Got r its_new_view.bytes ∷ (at.middle ++ history_of r start) = parts r ∙ at.whole in
          let there = in_view c v its_new_view.new at.newer (at.middle ++ history_of r start) (Got r its_new_view.bytes)
          (ap (option_and_then (new_view_from c)) receives ∙ selected_brings c v its_new_view.new (record { sender = p0; message = NewView its_new_view.new }) refl its_new_view.selected its_new_view.is_view)
          its_new_view.is_view (subst (λ (xs : List Entry). target xs ≤ v) whole most) in
          subst (λ (xs : List Entry). v ≤ view c xs) (sym whole) there
        where
          differ : r ≢ p0
          differ = eqb-false r p0 e

          receives : authentic (members c r) r its_new_view.bytes ≡ Some (record { sender = p0; message = NewView its_new_view.new })
          receives = signed_is_heard c r its_new_view.bytes (record { sender = p0; message = NewView its_new_view.new }) signed (λ same. differ (sym same))

          gets : HasEntry (Got r its_new_view.bytes) later
          gets = all p0 r its_new_view.bytes (in_trace p0 (Sent p0 its_new_view.bytes) later its_new_view.is_sent)
              (signed_is_meant c p0 r its_new_view.bytes (record { sender = p0; message = NewView its_new_view.new }) its_new_view.says refl small differ) (correct_replica c r correct)

          at : Stands (Got r its_new_view.bytes) (history_of r later) (history_of r start)
          at = stands (Got r its_new_view.bytes) (history_of r later) (history_of r start) (in_history r (Got r its_new_view.bytes) later refl gets)

pub new_views_are_entered : NewViewsAreEntered
new_views_are_entered c later start run all v from below is r correct most = enters c later start run all v from below is r correct most
