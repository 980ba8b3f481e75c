-- A replica that times out sends a view change, and the primary of a view that has enough of them begins the view.
use Rattle.std.proofs.Common.{◌≡◌, ℕ, suc, ◌+◌, ◌≤◌, ◌<◌, ◌⊎◌, inl, inr, Bool, true, false, cond, ◌&&◌, List, [], ◌∷◌, ◌++◌, reverse, Some, None, refl, sym, ap, ◌∙◌, subst, arith, append_assoc, eq-eqb}
use Rattle.std.specs.Prelude.{nat_le, option_and_then}
use Rattle.std.proofs.lemmas.Bool.{and_parts, and_from, leb-true, leb-false}
use Rattle.wire_format.specs.Lists.{Each}
use Rattle.wire_format.specs.Messages.{BodyData as Body, MessageData as Message, FrameData as Frame, AuthenticatorData as Authenticator, macs, signature, ViewChangeData, NewViewData, view_change as ViewChange}
use Rattle.wire_format.specs.Spelling.{is_signed, authenticator_is_signed}
use Rattle.wire_format.specs.Words.{said}
use Rattle.authenticator.specs.Membership.{has_sender}
use Rattle.signing.specs.AuthenticBody.{has_signature, is_signed_frame, signed_body}
use Rattle.protocol.specs.System.Configuration.{Configuration, replicas, primary, is_replica, signers}
use Rattle.protocol.specs.System.Trace.{Entry, is_output, history_of, Once}
use Rattle.protocol.specs.System.Trace.Entry.{Got, Tick, Sent}
use Rattle.protocol.specs.Replica.Selection.{is_within, change_in, signed_change, changes_of}
use Rattle.protocol.specs.Replica.Certificates.{view, target}
use Rattle.protocol.specs.Replica.RightReplica.{Point, HistoryReaches, MaySend, sought_view, IsNewViewChange, SafeReplica}
use Rattle.protocol.specs.Replica.Owed.{Owes, HistoryIsPrompt, HasToMove, IsSending, AreKeysSpent, BringsChange, HasLatestChange, HasBatch, CanBeginView}
use Rattle.evidence.specs.RefusedMarks.{SpellsChange}
use Rattle.protocol.proofs.Words.Options.{some_injective, and_then_some}
use Rattle.protocol.proofs.Words.Reacting.{one_of, proceeds_leaves, is_replica_right}
use Rattle.protocol.proofs.Words.Elements.{each_weaker}
use Rattle.protocol.proofs.Agreement.Signed.{changing}
use Rattle.protocol.proofs.Agreement.States.{history_append}
use Rattle.progress.specs.Leaving.{WaitingReplicasLeave, PrimariesBeginViews, UnpreparedViewsBegin}
use Rattle.progress.proofs.Flipping.{next_output}
use Rattle.progress.proofs.Receiving.{Spelled, spelled_as}
use Rattle.progress.proofs.Listing.{view_changes_exist}
use Rattle.progress.proofs.Within.{view_changes_are_within}
use Rattle.protocol.proofs.Words.Standing.{points_are_one}
use Rattle.progress.proofs.Steady.{target_later, leaves_behind}
use Rattle.protocol.proofs.Words.Plain.{plain_view}
use Rattle.progress.proofs.Gathering.{Change, Gathered, gather, bare_view, IsBare, bare_is_selected, carried_by_bare}
use Rattle.evidence.proofs.JoiningChanges.{IsSealedBy}
use Rattle.evidence.proofs.RefusingRuns.{when_false}

-- ---- the event of an input

pub record EventAt (c : Configuration) (me : ℕ) (input : Entry) (before whole : List Entry) : Type 0 where
  pub outs : List Entry
  pub old : Point
  pub new : Point
  pub leaves : HistoryReaches c me before old
  pub owes : Owes c me before input outs (reverse outs ++ input ∷ before) old new
  pub newer : List Entry
  pub is : whole ≡ newer ++ (reverse outs ++ input ∷ before)

event_behind : (c : Configuration) (me : ℕ) (input : Entry) (before front past : List Entry) → EventAt c me input before past → EventAt c me input before (front ++ past)
event_behind c me input before front past f = record {
  outs = f.outs;
  old = f.old;
  new = f.new;
  leaves = f.leaves;
  owes = f.owes;
  newer = front ++ f.newer;
  is = ap (λ (xs : List Entry). front ++ xs) f.is ∙ sym (append_assoc front f.newer (reverse f.outs ++ input ∷ before));
}

pub event_at : (c : Configuration) (me : ℕ) (input : Entry) → is_output input ≡ false → (later before outputs : List Entry) (new point : Point) → HistoryIsPrompt c me (later ++ input ∷ before) outputs new point
    → EventAt c me input before (reverse outputs ++ (later ++ input ∷ before))
event_at c me input is [] before outputs new point h =
    let event = when_false (is_output input) (HistoryIsPrompt c me before (input ∷ outputs) new h.0)
    (Owes c me before input outputs (reverse outputs ++ input ∷ before) h.0 new × HistoryIsPrompt c me before [] h.0 h.0) is h.2 in
    record { outs = outputs; old = h.0; new = new; leaves = proceeds_leaves c me before [] h.0 h.0 event.1; owes = event.0; newer = []; is = refl }
event_at c me input is (e ∷ later) before outputs new point h =
    one_of (is_output e) (HistoryIsPrompt c me (later ++ input ∷ before) (e ∷ outputs) new h.0)
    (Owes c me (later ++ input ∷ before) e outputs (reverse outputs ++ e ∷ (later ++ input ∷ before)) h.0 new × HistoryIsPrompt c me (later ++ input ∷ before) [] h.0 h.0)
    (EventAt c me input before (reverse outputs ++ e ∷ (later ++ input ∷ before))) h.2
    (λ k. subst (EventAt c me input before) (sym (next_output outputs (later ++ input ∷ before) e)) (event_at c me input is later before (e ∷ outputs) new h.0 k))
    (λ k. subst (EventAt c me input before) (append_assoc (reverse outputs) (e ∷ []) (later ++ input ∷ before))
    (event_behind c me input before (reverse outputs ++ e ∷ []) (later ++ input ∷ before) (event_at c me input is later before [] h.0 h.0 k.1)))

-- ---- a timeout

-- The replica may send a new view change for the view here, within its bounds, and some bytes say it.
pub record CanChange (c : Configuration) (me : ℕ) (past : List Entry) (point : Point) (v : ℕ) : Type 0 where
  pub change : ViewChangeData
  pub view : change.view ≡ v
  pub is_new : IsNewViewChange c me past point change
  pub within : is_within c change ≡ true
  pub bytes : List ℕ
  pub says : said bytes ≡ Some (record { sender = me; message = ViewChange change })

pub waiting_replicas_leave : WaitingReplicasLeave
waiting_replicas_leave c setting r later start run goes unforged correct small waits = go (event.owes.view_changes w.change w.bytes moves w.is_new w.within w.says)
  where
    splits : history_of r (later ++ Tick r ∷ start) ≡ history_of r later ++ Tick r ∷ history_of r start
    splits = history_append r later (Tick r ∷ start)
        ∙ ap (λ (b : Bool). history_of r later ++ cond b (Tick r ∷ history_of r start) (history_of r start)) (eq-eqb r r refl)

    proceeds : HistoryIsPrompt c r (history_of r later ++ Tick r ∷ history_of r start) [] (goes.replicas r correct refl).0 (goes.replicas r correct refl).0
    proceeds = subst (λ (xs : List Entry). HistoryIsPrompt c r xs [] (goes.replicas r correct refl).0 (goes.replicas r correct refl).0) splits (goes.replicas r correct refl).1

    event : EventAt c r (Tick r) (history_of r start) (history_of r later ++ Tick r ∷ history_of r start)
    event = event_at c r (Tick r) refl (history_of r later) (history_of r start) [] (goes.replicas r correct refl).0 (goes.replicas r correct refl).0 proceeds

    behind : (first : Point) × HistoryReaches c r (Tick r ∷ history_of r start) first
    behind = leaves_behind c r (history_of r later) (Tick r ∷ history_of r start) (goes.replicas r correct refl).0
        (proceeds_leaves c r (history_of r later ++ Tick r ∷ history_of r start) [] (goes.replicas r correct refl).0 (goes.replicas r correct refl).0 proceeds)

    -- the tick changes no snapshots
    snapshots : behind.0.snapshots ≡ event.old.snapshots
    snapshots = ap (λ (p : Point). p.snapshots) behind.1.2.moves ∙ ap (λ (p : Point). p.snapshots) (points_are_one c r (history_of r start) behind.1.0 event.old behind.1.1 event.leaves)

    w : CanChange c r (Tick r ∷ history_of r start) event.old (suc (sought_view c (history_of r start)))
    w =
        let x = waits event.old event.leaves in
        let v = (plain_view c (history_of r start) (Tick r) (record { view = refl; change = refl; checkpoint = refl; installed = refl })) in
        let above : view c (Tick r ∷ history_of r start) < suc (sought_view c (history_of r start)) = omega arith in
        let newer : target (Tick r ∷ history_of r start) < suc (sought_view c (history_of r start)) = omega arith in
        let made = view_changes_exist c r (Tick r ∷ history_of r start) event.old behind.0 behind.1 (suc (sought_view c (history_of r start))) above newer small
        (inl (record { before = history_of r start; tick = refl; waits = x.0; next = refl })) in
        let room = x.1 made.0 made.1 made.2 in
        record {
          change = made.0;
          view = made.1;
          is_new = made.2;
          within = view_changes_are_within c setting (later ++ Tick r ∷ start) run unforged r correct (history_of r later) (Tick r ∷ history_of r start) splits event.old behind.0 behind.1 snapshots made.0 made.2;
          bytes = room.0;
          says = room.1;
        }

    moves : HasToMove c r (history_of r start) (Tick r) event.old.waiting w.change.view
    moves = inl (record { before = history_of r start; tick = refl; waits = (waits event.old event.leaves).0; next = w.view })

    go : (w.change.view ≤ target (reverse event.outs ++ Tick r ∷ history_of r start)) ⊎ AreKeysSpent (history_of r start)
        → (sought_view c (history_of r start) < target (history_of r (later ++ Tick r ∷ start))) ⊎ AreKeysSpent (history_of r start)
    go (inr spent) = inr spent
    go (inl l) =
        let grows = target_later event.newer (reverse event.outs ++ Tick r ∷ history_of r start) in
        let same : target (history_of r (later ++ Tick r ∷ start)) ≡ target (event.newer ++ (reverse event.outs ++ Tick r ∷ history_of r start)) = ap target (splits ∙ event.is) in
        let v = w.view in
        inl (omega arith)

-- ---- no new view is left that the primary could send

none_there : (c : Configuration) (me : ℕ) (new : NewViewData) → CanBeginView c me [] new → ⊥
none_there c me new can = let l = can.left in absurd (omega arith)

pub all_assigned : (c : Configuration) (me : ℕ) (made : NewViewData) (xs outputs : List Entry) (new point : Point) → HistoryIsPrompt c me xs outputs new point → CanBeginView c me (reverse outputs ++ xs) made → AreKeysSpent (reverse outputs ++ xs)
all_assigned c me made [] outputs new point h can = absurd (none_there c me made (subst (λ (o : List Entry). CanBeginView c me (reverse o ++ []) made) h.1 can))
all_assigned c me made (e ∷ past) outputs new point h can =
    one_of (is_output e) (HistoryIsPrompt c me past (e ∷ outputs) new h.0) (Owes c me past e outputs (reverse outputs ++ e ∷ past) h.0 new × HistoryIsPrompt c me past [] h.0 h.0)
    (AreKeysSpent (reverse outputs ++ e ∷ past)) h.2
    (λ p. subst AreKeysSpent (sym (next_output outputs past e)) (all_assigned c me made past (e ∷ outputs) new h.0 p (subst (λ (xs : List Entry). CanBeginView c me xs made) (next_output outputs past e) can)))
    (λ p. p.0.new_views made can)

pub primaries_begin_views : PrimariesBeginViews
primaries_begin_views c trace goes p new correct own left selected changes batches = go (nat_le new.view (view c (history_of p trace))) refl
  where
    go : (b : Bool) → nat_le new.view (view c (history_of p trace)) ≡ b → (new.view ≤ view c (history_of p trace)) ⊎ AreKeysSpent (history_of p trace)
    go true e = inl (leb-true new.view (view c (history_of p trace)) e)
    go false e =
        let l = leb-false new.view (view c (history_of p trace)) e in
        inr (all_assigned c p new (history_of p trace) [] (goes.replicas p correct refl).0 (goes.replicas p correct refl).0 (goes.replicas p correct refl).1
        (record { left = (omega arith); view = sym left; primary = own; selected = selected; changes = changes; batches = batches }))

-- ---- a frame of a view change

by_signature : (c : Configuration) (frame : Frame) (a : Authenticator) → authenticator_is_signed a ≡ true → IsSealedBy c frame a → has_signature c.publics frame ≡ true
by_signature c frame (macs entries) h sealed = absurd cc
by_signature c frame (signature s) h sealed = sealed

-- a view change or new view that a replica sends is signed
pub signed_by : (c : Configuration) (me : ℕ) (bytes : List ℕ) (body : Body) (past : List Entry) (point : Point) → MaySend c me past point (Sent me bytes) bytes → said bytes ≡ Some body
    → is_signed body.message ≡ true → has_sender (signers c) body ≡ true → signed_body (signers c) bytes ≡ Some body
unfolding signed_body
signed_by c me bytes body past point may says signed known =
    ap (option_and_then (λ (frame : Frame). cond (is_signed_frame (signers c) frame) (Some frame.body) None)) f.is
    ∙ ap (λ (b : Bool). cond b (Some f.frame.body) None) passes ∙ ap Some f.body_is
  where
    f : Spelled bytes body
    f = spelled_as bytes body says

    kind : is_signed f.frame.body.message ≡ true
    kind = ap (λ (b : Body). is_signed b.message) f.body_is ∙ signed

    passes : is_signed_frame (signers c) f.frame ≡ true
    passes =
        and_from (is_signed f.frame.body.message) (has_sender (signers c) f.frame.body && has_signature c.publics f.frame) kind
        (and_from (has_sender (signers c) f.frame.body) (has_signature c.publics f.frame) (ap (has_sender (signers c)) f.body_is ∙ known)
        (by_signature c f.frame f.frame.authenticator (f.spells.valid.proved ∙ kind) (may.is_sealed f.frame f.is).0))

-- the bytes of a view change that came, or that was sent
pub record Bytes (c : Configuration) (s : ℕ) (vc : ViewChangeData) : Type 0 where
  pub bytes : List ℕ
  pub signed : SpellsChange c bytes s vc

pub change_bytes : (c : Configuration) (s : ℕ) (vc : ViewChangeData) (bytes : List ℕ) → signed_change c bytes ≡ Some (s, vc) → SpellsChange c bytes s vc
change_bytes c s vc bytes h =
    let t = and_then_some {B = ℕ × ViewChangeData} change_in (signed_body (signers c) bytes) (s, vc) h in
    t.1 ∙ ap Some (is_change t.0.sender t.0.message t.2)
  where
    is_change : (sender : ℕ) (message : Message) → change_in (record { sender = sender; message = message }) ≡ Some (s, vc) → ◌≡◌ {A = Body} (record { sender = sender; message = message }) (changing s vc)
    is_change sender (ViewChange x) h =
        let pair : ◌≡◌ {A = ℕ × ViewChangeData} (sender, x) (s, vc) = some_injective {A = ℕ × ViewChangeData} (sender, x) (s, vc) h in
        ap (λ (y : ℕ × ViewChangeData). changing y.0 y.1) pair
    is_change sender _ h = absurd cc

pub came_bytes : (c : Configuration) (s : ℕ) (vc : ViewChangeData) (xs : List Entry) → Once (BringsChange c (s, vc)) xs → Bytes c s vc
came_bytes c s vc [] h = absurd h
came_bytes c s vc (e ∷ past) (inr h) = came_bytes c s vc past h
came_bytes c s vc (Got p bytes ∷ past) (inl h) = record { bytes = bytes; signed = change_bytes c s vc bytes h.0 }
came_bytes c s vc (_ ∷ past) (inl h) = absurd h

pub own_bytes : (c : Configuration) (me : ℕ) (vc : ViewChangeData) (xs : List Entry) (point : Point) → is_replica c me ≡ true → HistoryReaches c me xs point → Once (λ earlier e. IsSending me (ViewChange vc) e) xs → Bytes c me vc
own_bytes c me vc [] point known leaves h = absurd h
own_bytes c me vc (e ∷ past) point known leaves (inr h) = own_bytes c me vc past leaves.0 known leaves.1 h
own_bytes c me vc (Sent p bytes ∷ past) point known leaves (inl h) =
    let may : MaySend c me past leaves.0 (Sent me bytes) bytes = subst (λ (x : ℕ). MaySend c me past leaves.0 (Sent x bytes) bytes) leaves.2.own leaves.2.may in
    record { bytes = bytes; signed = signed_by c me bytes (changing me vc) past leaves.0 may h refl known }
own_bytes c me vc (Got x y ∷ past) point known leaves (inl h) = absurd h
own_bytes c me vc (_ ∷ past) point known leaves (inl h) = absurd h

-- ---- nothing is prepared above a checkpoint

-- the latest that the replica has, and bare
abbrev Latest : Configuration → ℕ → List Entry → ℕ → ℕ → List ℕ → ℕ × ViewChangeData → Type 0
Latest c p past v start root x = HasLatestChange c p past x × IsBare c v start root x

pub unprepared_views_begin : UnpreparedViewsBegin
unprepared_views_begin c trace run goes p v start root correct own left from enough says =
    primaries_begin_views c trace goes p (bare_view v start root g.frames) correct is_own is_left (bare_is_selected c v start root (Latest c p (history_of p trace) v start root) (λ x h. h.1) from enough g) changes none
  where
    right : SafeReplica c p (history_of p trace)
    right = is_replica_right c p (history_of p trace) (run.replicas p correct)

    bytes_of : (s : ℕ) (vc : ViewChangeData) → HasLatestChange c p (history_of p trace) (s, vc) → Bytes c s vc
    bytes_of s vc (inl h) = came_bytes c s vc (history_of p trace) h.1
    bytes_of s vc (inr h) =
        subst (λ (x : ℕ). Bytes c x vc) (sym h.0)
        (own_bytes c p vc (history_of p trace) right.0 (and_parts (is_replica c p) _ correct).0 right.1 h.1)

    have : (s : ℕ) → 0 ≤ s → s < 0 + replicas c → from s ≡ true → Change c (Latest c p (history_of p trace) v start root) s
    have s l m h =
        let x = says s (omega arith) h in
        let b = bytes_of s x.0 x.1 in
        record { bytes = b.bytes; vc = x.0; signed = b.signed; holds = (x.1, (x.2, x.3, x.4)) }

    g : Gathered c (Latest c p (history_of p trace) v start root) from 0 (replicas c)
    g = gather c (Latest c p (history_of p trace) v start root) from 0 (replicas c) have

    is_own : primary c (bare_view v start root g.frames).view ≡ p
    is_own = own

    is_left : target (history_of p trace) ≡ (bare_view v start root g.frames).view
    is_left = left

    changes : Each (HasLatestChange c p (history_of p trace)) (changes_of c (bare_view v start root g.frames))
    changes = subst (λ (set : List (ℕ × ViewChangeData)). Each (HasLatestChange c p (history_of p trace)) set)
        (sym (carried_by_bare c v start root (Latest c p (history_of p trace) v start root) (λ x h. h.1) from enough g)) (each_weaker (Latest c p (history_of p trace) v start root) (HasLatestChange c p (history_of p trace)) (λ x h. h.0) g.set g.each)

    none : Each (HasBatch c p (history_of p trace)) (bare_view v start root g.frames).batches
    none = tt
