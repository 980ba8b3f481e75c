-- When a waiting request comes again, the replica owes only what it sends again.
use Rattle.std.proofs.Common.{◌≡◌, ℕ, ◌+◌, ◌≤◌, ◌<◌, ◌⊎◌, inl, inr, Bool, true, false, cond, List, [], ◌∷◌, ◌++◌, reverse, Option, Some, None, refl, sym, ap, ◌∙◌, subst, arith, ◌&&◌, ◌^◌}
use Rattle.std.specs.Prelude.{nat_lt, nat_le, filter, ◌==◌, not, option_and_then}
use Rattle.std.specs.List.{list_all}
use Rattle.std.specs.Option.{option_map_or}
use Rattle.std.proofs.lemmas.Bool.{and_parts, ltb-true, leb-true}
use Rattle.wire_format.specs.Messages.{MessageData as Message, NewViewData, ViewChangeData, pre_prepare as PrePrepare, prepare as Prepare, commit as Commit, checkpoint as Checkpoint, view_change as ViewChange, new_view as NewView}
use Rattle.wire_format.specs.Words.{said}
use Rattle.signing.specs.AuthenticBody.{authentic}
use Rattle.ordering.specs.Log as logs
use Rattle.ordering.specs.Log.{LogData}
use Rattle.ordering.proofs.Reading.{above_low}
use Rattle.protocol.specs.System.Configuration.{Configuration, primary, members}
use Rattle.protocol.specs.System.Trace.{Entry, Has}
use Rattle.protocol.specs.System.Trace.Entry.{Invoke, Got, Tick, Executed, Installed, Sent, Accepted}
use Rattle.protocol.specs.Replica.Certificates.{view, target, low, is_in_marks, logged, prepare_of, commit_of}
use Rattle.protocol.specs.Replica.State.{State, Call, call_in, last_time}
use Rattle.protocol.specs.Replica.RightReplica.{Point, HistoryReaches, IsStep, is_newer, with_waiting, waiting_after, still_waiting, executed_point}
use Rattle.protocol.specs.Replica.Owed.{IsSending, SendsMessage, IsAssignedBelow, SendsRow, SendsView, SendsAgain}
use Rattle.protocol.proofs.Words.Elements.{has_weaker, has_either, has_filter, has_reversed}
use Rattle.replica_histories.specs.Desk.{Desk}
use Rattle.replica_histories.specs.Logs.{FitsLog}
use Rattle.replica_histories.specs.Events.{BothFitBetweenEvents}
use Rattle.replica_histories.specs.Changes.{Changes, FitsChanges, IsAssignedUpTo}
use Rattle.replica_histories.specs.Questions.{ordered_from}
use Rattle.replica_histories.specs.Resending.{FrameGoes, RowGoes, ViewGoes, AllGoes, ResendingSuffices, WaitingAreNew}
use Rattle.replica_histories.proofs.Words.{marks_are, primary_same}
use Rattle.replica_histories.proofs.Certified.{active_view, active_log}
use Rattle.replica_histories.proofs.Questions.{others_bring_no_part, hears_no_move, requests_owe_no_part, requests_owe_no_read}

-- ---- in any order

pub sends_turned : (c : Configuration) (me : ℕ) (past : List Entry) (executed : ℕ) (outputs : List Entry) → SendsAgain c me past executed outputs → SendsAgain c me past executed (reverse outputs)
sends_turned c me past executed outputs a = record {
  active = λ v is. record {
    new_view = λ own later. let k = (a.active v is).new_view own later in (k.0, k.1, turn (NewView k.0) k.2);
    rows = λ i above inside. row v i ((a.active v is).rows i above inside);
    checkpoint = λ m is_last. turn (Checkpoint m.number m.digest) ((a.active v is).checkpoint m is_last);
  };
  inactive = λ left. let k = a.inactive left in (k.0, k.1, turn (ViewChange k.0) k.2);
}
  where
    turn : (message : Message) → SendsMessage me message outputs → SendsMessage me message (reverse outputs)
    turn message h = has_reversed (IsSending me message) outputs h

    row : (v i : ℕ) → SendsRow c me past v i outputs → SendsRow c me past v i (reverse outputs)
    row v i r = record {
      batch = λ batch own below is. turn (PrePrepare v i batch) (r.batch batch own below is);
      prepare = λ digest is. turn (Prepare v i digest) (r.prepare digest is);
      commit = λ digest is. turn (Commit v i digest) (r.commit digest is);
    }

-- ---- from the replica's data

module _ (c : Configuration) (me : ℕ) (desk : Desk) (log : LogData) (past outputs : List Entry) (x : Changes) (held : BothFitBetweenEvents c me desk log past) (fits : FitsChanges c me log x past) (all : AllGoes me log x desk.state.number outputs) where
  f : FitsLog c me log past
  f = held.of_log.fits

  number_is : held.of_desk.point.state.number ≡ desk.state.number
  number_is = ap (λ (p : Point). p.state.number) held.of_desk.is

  -- a frame that is sent has its message
  frame_says : (message : Message) (frame : List ℕ) → said frame ≡ Some (record { sender = me; message = message }) → FrameGoes me frame outputs → SendsMessage me message outputs
  frame_says message frame says goes = has_weaker (λ e. e ≡ Sent me frame) (IsSending me message) (λ e same. subst (IsSending me message) (sym same) says) outputs goes

  new_view : (v : ℕ) → v ≡ log.view → ViewGoes me log x desk.state.number outputs → primary c v ≡ me → 0 < v → (new : NewViewData) × (new.view ≡ v) × SendsMessage me (NewView new) outputs
  new_view v at goes own later = go (fits.own_begins (ap (primary c) (sym at) ∙ own))
    where
      go : (log.view ≡ 0) ⊎ ((frame : List ℕ) × (x.new_view ≡ Some frame)) → (new : NewViewData) × (new.view ≡ v) × SendsMessage me (NewView new) outputs
      go (inl zero) = absurd (omega (arith, at, zero, later))
      go (inr (frame, is)) = let o = fits.own_view frame is in (o.new, o.view ∙ sym at, frame_says (NewView o.new) frame o.is_outgoing.says (goes.new_view frame is))

  inside_log : (i : ℕ) → is_in_marks c (low c me past) i ≡ true → logs.is_in_marks log i ≡ true
  inside_log i inside = sym (marks_are c me log past i f) ∙ inside

  assigned_below : (v i : ℕ) → v ≡ log.view → is_in_marks c (low c me past) i ≡ true → IsAssignedBelow c v i past → x.assigned < i
  assigned_below v i at inside below = go fits.assigned_by
    where
      go : (x.assigned ≡ 0) ⊎ IsAssignedUpTo c log.view x.assigned past → x.assigned < i
      go (inl zero) = let over = above_low log i (inside_log i inside) in omega (arith, zero, over)
      go (inr (new, once, view_is, is)) = let most = below new once (view_is ∙ sym at) in omega (arith, is, most)

  at_most : (i : ℕ) → logs.is_in_marks log i ≡ true → i ≤ log.low + log.span
  at_most i k = leb-true i (log.low + log.span)
      (and_parts (nat_lt log.low i) (nat_le i (log.low + log.span)) (and_parts (nat_lt log.low i && nat_le i (log.low + log.span)) (nat_lt i (2 ^ 48)) k).0).1

  row : (v i : ℕ) → v ≡ log.view → is_in_marks c (low c me past) i ≡ true → RowGoes me log x.assigned i outputs → SendsRow c me past v i outputs
  row v i at inside r = record {
    batch = λ batch own below is. subst (λ (w : ℕ). SendsMessage me (PrePrepare w i batch) outputs) (sym at)
        (r.batch batch (primary_same c log log.view f.faults ∙ ap (primary c) (sym at) ∙ own) (assigned_below v i at inside below)
        (sym (f.batches i (inside_log i inside)) ∙ subst (λ (w : ℕ). logged c me past w i ≡ Some batch) at is));
    prepare = λ digest is. subst (λ (w : ℕ). SendsMessage me (Prepare w i digest) outputs) (sym at)
        (r.prepare digest (sym (f.prepares i me (inside_log i inside)) ∙ subst (λ (w : ℕ). prepare_of c me past w i me ≡ Some digest) at is));
    commit = λ digest is. subst (λ (w : ℕ). SendsMessage me (Commit w i digest) outputs) (sym at)
        (r.commit digest (sym (f.commits i me (inside_log i inside)) ∙ subst (λ (w : ℕ). commit_of c me past w i me ≡ Some digest) at is));
  }

  in_view : (v : ℕ) → v ≡ log.view → ViewGoes me log x desk.state.number outputs → SendsView c me past held.of_desk.point.state.number v outputs
  in_view v at goes = record {
    new_view = new_view v at goes;
    rows = λ i above inside. row v i at inside (goes.rows i (subst (λ (n : ℕ). n < i) number_is above) (at_most i (inside_log i inside)));
    checkpoint = λ m is. goes.checkpoint m (sym fits.latest ∙ is);
  }

  left : view c past < target past → (b : Bool) → log.active ≡ b → (vc : ViewChangeData) × (vc.view ≡ target past) × SendsMessage me (ViewChange vc) outputs
  left below true is =
      let most = leb-true (target past) log.view (f.active ∙ is) in
      let at = f.view in
      absurd (omega (arith, below, most, at))
  left below false is =
      let o = fits.own_change is in
      (o.own.change, o.view ∙ sym fits.target, frame_says (ViewChange o.own.change) o.own.frame o.is_outgoing.says (all.inactive is o.own o.held))

  pub sends : SendsAgain c me past held.of_desk.point.state.number outputs
  sends = record {
    active = λ v is. in_view v (active_view c me log past v f is) (all.active (active_log c me log past v f is));
    inactive = λ below. left below log.active refl;
  }

pub resending_suffices : ResendingSuffices
resending_suffices c me desk log past input outputs x call executed held fits receives all =
    let parts = others_bring_no_part c me (ordered_from call) past input receives outputs held.of_desk.point executed refl in (
      requests_owe_no_part c me call past input outputs held.of_desk.point receives,
      requests_owe_no_read c me call past input outputs held.of_desk.point receives,
      parts.0,
      parts.1,
      λ waits. sends c me desk log past outputs x held fits all,
      hears_no_move c me (ordered_from call) past input outputs held.of_desk.point receives refl,
    )

-- ---- waiting requests are new

abbrev AreNew : State → List Call → Type 0
AreNew st calls = (call : Call) → Has (λ x. x ≡ call) calls → last_time st call.client < call.timestamp

-- an item that a filter leaves passes its test
left_passes : (test : Call → Bool) (call : Call) (xs : List Call) → Has (λ x. x ≡ call) (filter test xs) → test call ≡ true
left_passes test call [] h = absurd h
left_passes test call (x ∷ xs) h = go (test x) refl h (left_passes test call xs)
  where
    go : (b : Bool) → test x ≡ b → Has (λ y. y ≡ call) (cond b (x ∷ filter test xs) (filter test xs)) → (Has (λ y. y ≡ call) (filter test xs) → test call ≡ true) → test call ≡ true
    go true is (inl same) rest = subst (λ (y : Call). test y ≡ true) same is
    go true is (inr k) rest = rest k
    go false is k rest = rest k

still_new : (st : State) (waiting : List Call) → AreNew st (still_waiting st waiting)
still_new st waiting call h = ltb-true (last_time st call.client) call.timestamp (left_passes (λ x. nat_lt (last_time st x.client) x.timestamp) call waiting h)

with_new : (st : State) (waiting : List Call) (call : Call) → AreNew st waiting → AreNew st (with_waiting st waiting call)
with_new st waiting call new = go (nat_lt (last_time st call.client) call.timestamp) (list_all (is_newer call) waiting) refl
  where
    more : List Call
    more = filter (λ other. not (other.client == call.client)) waiting ++ call ∷ []

    go : (a b : Bool) → nat_lt (last_time st call.client) call.timestamp ≡ a → AreNew st (cond (a && b) more waiting)
    go true true is = λ other h. pick other (has_either (λ x. x ≡ other) (filter (λ x. not (x.client == call.client)) waiting) (call ∷ []) h)
      where
        pick : (other : Call) → Has (λ x. x ≡ other) (filter (λ x. not (x.client == call.client)) waiting) ⊎ Has (λ x. x ≡ other) (call ∷ []) → last_time st other.client < other.timestamp
        pick other (inl k) = new other (has_filter (λ x. x ≡ other) (λ x. not (x.client == call.client)) waiting k)
        pick other (inr (inl same)) = subst (λ (y : Call). last_time st y.client < y.timestamp) same (ltb-true (last_time st call.client) call.timestamp is)
        pick other (inr (inr k)) = absurd k
    go true false is = new
    go false b is = new

got_new : (c : Configuration) (me : ℕ) (point : Point) (bytes : List ℕ) → AreNew point.state point.waiting → AreNew point.state (waiting_after c me point bytes)
got_new c me point bytes new = go (option_and_then (call_in c) (authentic (members c me) me bytes))
  where
    go : (o : Option Call) → AreNew point.state (option_map_or (with_waiting point.state point.waiting) o point.waiting)
    go None = new
    go (Some call) = with_new point.state point.waiting call new

step_new : (c : Configuration) (me : ℕ) (past : List Entry) (old : Point) (e : Entry) (new : Point) → IsStep c me past old e new → AreNew old.state old.waiting → AreNew new.state new.waiting
step_new c me past old (Got p bytes) new s h = subst (λ (q : Point). AreNew q.state q.waiting) (sym s.moves) (got_new c me old bytes h)
step_new c me past old (Tick p) new s h = subst (λ (q : Point). AreNew q.state q.waiting) (sym s.moves) h
step_new c me past old (Executed r k batch) new s h = subst (λ (q : Point). AreNew q.state q.waiting) (sym s.moves) (still_new (executed_point c old k batch).state old.waiting)
step_new c me past old (Installed r k root) new s h = subst (λ (xs : List Call). AreNew new.state xs) (sym s.moves.waiting) (still_new new.state old.waiting)
step_new c me past old (Sent p bytes) new s h = subst (λ (q : Point). AreNew q.state q.waiting) (sym s.moves) h
step_new c me past old (Invoke x y z) new s h = absurd s.may
step_new c me past old (Accepted x y z) new s h = absurd s.may

all_new : (c : Configuration) (me : ℕ) (history : List Entry) (point : Point) → HistoryReaches c me history point → AreNew point.state point.waiting
all_new c me [] point is = subst (λ (q : Point). AreNew q.state q.waiting) (sym is) (λ call h. absurd h)
all_new c me (e ∷ past) point h = step_new c me past h.0 e point h.2 (all_new c me past h.0 h.1)

pub waiting_are_new : WaitingAreNew
waiting_are_new c me history point call leaves has = all_new c me history point leaves call has
