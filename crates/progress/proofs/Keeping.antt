-- A replica keeps its reply to a client's open call: nothing later of that client can run.
use Rattle.std.proofs.Common.{◌≡◌, ℕ, zero, suc, ◌+◌, ◌≤◌, ◌<◌, inl, inr, Bool, true, false, cond, List, [], ◌∷◌, ◌++◌, length, fold, Option, Some, None, refl, sym, ap, ◌∙◌, subst, arith, append_assoc}
use Rattle.std.specs.Option.{option_map_or}
use Rattle.std.proofs.lemmas.Bool.{ltb-true}
use Rattle.terms.specs.declared.order.Mode.TheVariants as modes
use Rattle.wire_format.specs.Words.{requests_of}
use Rattle.reply_cache.specs.Replies.{Kept}
use Rattle.protocol.specs.Replica.RightReplica
use Rattle.protocol.specs.System.Configuration.{Configuration, IsConfiguration, is_correct_replica, is_correct_client}
use Rattle.protocol.specs.System.Trace.{Entry, history_of, Has}
use Rattle.protocol.specs.System.Trace.Entry.{Invoke, Accepted}
use Rattle.protocol.specs.Replica.State.{State, Call, Ran, opening, runs, run_call, ran_call, call_of, run_frame, execute, ran_in, kept_of, last_time}
use Rattle.protocol.specs.Replica.RightReplica.{HistoryReaches}
use Rattle.protocol.specs.Client.RightClient.{OpenCall, open_call, last_call, SafeClient}
use Rattle.protocol.specs.Space.Linear.{batch_of, reached}
use Rattle.progress.specs.Answered.{KeepsReply}
use Rattle.protocol.proofs.Words.Options.{some_injective}
use Rattle.protocol.proofs.Words.Elements.{has_some}
use Rattle.protocol.proofs.Agreement.States.{had_executed}
use Rattle.protocol.proofs.Points.Levels.{reached_grows, number_reached}
use Rattle.protocol.proofs.Points.Reading.{asking, correct_client}
use Rattle.protocol.proofs.Points.Running.{Run, IsBy, state_by, is_by, batch_is}
use Rattle.protocol.proofs.Points.Sorting.{all_has}
use Rattle.protocol.proofs.Points.Ran.{FromFrame, ran_frames}
use Rattle.protocol.proofs.Points.Keeping.{RanBy, Keeps, kept_ran-opening, Full, opening_full, frames_full, executed_full, executed_times, call_small, time_grows}
use Rattle.protocol.proofs.Points.Invoking.{executed_asked, asks_said, call_body, asked_op, invokes_le}
use Rattle.protocol.proofs.Points.Accepting.{open_last}

-- ---- last timestamps never fall

frame_grows : (c : Configuration) → IsConfiguration c → (k : ℕ) (st : State) (frame : List ℕ) (cl : ℕ) → Full st → last_time st cl ≤ last_time (run_frame c k st frame) cl
frame_grows c setting k st frame cl full = go (call_of c frame) refl
  where
    test : (call : Call) → call_of c frame ≡ Some call → (b : Bool) → runs st call ≡ b → last_time st cl ≤ last_time (cond b (ran_call st k call) st) cl
    test call is false e = omega arith
    test call is true e =
        let small : call.client < 256 = call_small c setting frame call is in
        let f : length st.replies ≡ 256 = full in
        time_grows st k call cl (omega arith) (ltb-true (last_time st call.client) call.timestamp e)

    go : (o : Option Call) → call_of c frame ≡ o → last_time st cl ≤ last_time (option_map_or (run_call st k) o st) cl
    go None is = omega arith
    go (Some call) is = test call is (runs st call) refl

pub frames_grow : (c : Configuration) → IsConfiguration c → (k : ℕ) (st : State) (frames : List (List ℕ)) (cl : ℕ) → Full st → last_time st cl ≤ last_time (fold (run_frame c k) st frames) cl
frames_grow c setting k st [] cl full = omega arith
frames_grow c setting k st (frame ∷ frames) cl full =
    let one = frame_grows c setting k st frame cl full in
    let more = frames_grow c setting k (run_frame c k st frame) frames cl (frames_full c k st (frame ∷ []) full) in
    omega arith

batch_grows : (c : Configuration) → IsConfiguration c → (st : State) (batch : List ℕ) (cl : ℕ) → Full st → last_time st cl ≤ last_time (execute c st batch) cl
batch_grows c setting st batch cl full =
    let a = frames_grow c setting (suc st.number) st (requests_of batch) cl full in
    let b = executed_times c st batch cl in
    omega arith

from_grows : (c : Configuration) → IsConfiguration c → (xs : List Entry) (st : State) (k n cl : ℕ) → Full st → last_time st cl ≤ last_time (state_by c xs st k n) cl
unfolding state_by
from_grows c setting xs st k zero cl full = omega arith
from_grows c setting xs st k (suc n) cl full =
    let a = batch_grows c setting st (batch_of xs k) cl full in
    let b = from_grows c setting xs (execute c st (batch_of xs k)) (suc k) n cl (executed_full c st (batch_of xs k) full) in
    omega arith

pub by_grows : (c : Configuration) → IsConfiguration c → (xs : List Entry) (st : State) (k n m cl : ℕ) → n ≤ m → Full st → last_time (state_by c xs st k n) cl ≤ last_time (state_by c xs st k m) cl
unfolding state_by
by_grows c setting xs st k zero m cl l full = from_grows c setting xs st k m cl full
by_grows c setting xs st k (suc n) zero cl l full = absurd (omega arith)
by_grows c setting xs st k (suc n) (suc m) cl l full =
    by_grows c setting xs (execute c st (batch_of xs k)) (suc k) n m cl (omega arith) (executed_full c st (batch_of xs k) full)

-- ---- a correct client invoked each call to which a reply is kept

pub record RanAt (c : Configuration) (xs : List Entry) (k n : ℕ) (Q : ℕ → Ran → Type 0) : Type 0 where
  pub number : ℕ
  pub from : k ≤ number
  pub below : number < k + n
  pub state : State
  pub ran : Ran
  pub is_there : Has (λ x. x ≡ ran) (ran_in c number state (requests_of (batch_of xs number)))
  pub holds : Q number ran

pub ran_at : (c : Configuration) (xs : List Entry) (st : State) (k n : ℕ) (Q : ℕ → Ran → Type 0) → RanBy c xs st k n Q → RanAt c xs k n Q
ran_at c xs st k zero Q h = absurd h
ran_at c xs st k (suc n) Q (inl h) =
    let x = has_some (Q k) (ran_in c k st (requests_of (batch_of xs k))) h in
    record { number = k; from = omega arith; below = omega arith; state = st; ran = x.0; is_there = x.1; holds = x.2 }
ran_at c xs st k (suc n) Q (inr h) =
    let r = ran_at c xs (execute c st (batch_of xs k)) (suc k) n Q h in
    let a = r.from in
    let b = r.below in
    record { number = r.number; from = omega arith; below = omega arith; state = r.state; ran = r.ran; is_there = r.is_there; holds = r.holds }

pub open_positive : (c : Configuration) (p : ℕ) (xs : List Entry) (call : OpenCall) → SafeClient c p xs → open_call xs ≡ Some call → 1 ≤ call.timestamp
open_positive c p [] call r h = absurd cc
open_positive c p (Invoke x y z ∷ past) call r h =
    let e : y ≡ call.timestamp = ap (λ (o : OpenCall). o.timestamp) (some_injective {A = OpenCall} (record { timestamp = y; op = z }) call h) in
    let n = r.0.1.0 in
    omega arith
open_positive c p (Accepted x y z ∷ past) call r h = absurd cc
open_positive c p (_ ∷ past) call r h = open_positive c p past call r.1 h

-- the state of a correct replica at some time
pub by_at : (c : Configuration) (trace : List Entry) → Run c trace → (r : ℕ) (later past : List Entry) (point : RightReplica.Point) → is_correct_replica c r ≡ true → history_of r trace ≡ later ++ past → HistoryReaches c r past point
    → IsBy c trace point.state
by_at c trace run r later past point correct splits leaves =
    is_by c trace point.state run
    (had_executed c run.setting trace run.runs.replicas run.runs.unforged run.apart point.state
    (record { replica = r; later = later; past = past; is_correct = correct; splits = splits; point = point; leaves = leaves }, inl refl))

pub later_reached : (r : ℕ) (middle past : List Entry) → reached past r ≤ reached (middle ++ past) r
later_reached r [] past = omega arith
later_reached r (e ∷ middle) past = let a = later_reached r middle past in let b = reached_grows e (middle ++ past) r in omega arith

-- last timestamps never fall at a correct replica
pub times_grow : (c : Configuration) (trace : List Entry) → Run c trace → (r : ℕ) (later middle past : List Entry) (old new : RightReplica.Point) (cl : ℕ) → is_correct_replica c r ≡ true
    → history_of r trace ≡ later ++ (middle ++ past) → HistoryReaches c r past old → HistoryReaches c r (middle ++ past) new → last_time old.state cl ≤ last_time new.state cl
times_grow c trace run r later middle past old new cl correct splits before behind =
    let first = by_at c trace run r (later ++ middle) past old correct (splits ∙ sym (append_assoc later middle past)) before in
    let second = by_at c trace run r later (middle ++ past) new correct splits behind in
    let a = number_reached c r past old before in
    let b = number_reached c r (middle ++ past) new behind in
    let l = later_reached r middle past in
    let grows = by_grows c run.setting trace opening 1 old.state.number new.state.number cl (omega arith) opening_full in
    let x : last_time old.state cl ≡ last_time (state_by c trace opening 1 old.state.number) cl = ap (λ (s : State). last_time s cl) first.is in
    let y : last_time new.state cl ≡ last_time (state_by c trace opening 1 new.state.number) cl = ap (λ (s : State). last_time s cl) second.is in
    omega arith

module _ (c : Configuration) (trace : List Entry) (run : Run c trace) (k : ℕ) (client : is_correct_client c (256 + k) ≡ true) (call : OpenCall)
    (opened : open_call (history_of (256 + k) trace) ≡ Some call) where
  -- no correct replica keeps a reply of a later timestamp than the open call's
  pub kept_most : (st : State) (kept : Kept) → IsBy c trace st → kept_of st k ≡ Some kept → kept.timestamp ≤ call.timestamp
  kept_most st kept by is =
      let there : kept_of (state_by c trace opening 1 st.number) k ≡ Some kept = subst (λ (s : State). kept_of s k ≡ Some kept) by.is is in
      let at = ran_at c trace opening 1 st.number (Keeps k kept) (kept_ran-opening c trace st.number k kept there) in
      let f = all_has (FromFrame c (requests_of (batch_of trace at.number))) (ran_in c at.number at.state (requests_of (batch_of trace at.number))) at.ran
      (ran_frames c at.number at.state (requests_of (batch_of trace at.number))) at.is_there in
      let below = at.below in
      let b = by.executed at.number at.from (omega arith) in
      let same = batch_is c trace at.number b.0 run b.1 in
      let has : Has (λ x. x ≡ f.frame) (requests_of b.0) = subst (λ (x : List ℕ). Has (λ y. y ≡ f.frame) (requests_of x)) same f.is_there in
      let party : 256 + at.ran.call.client ≡ 256 + k = ap (λ (x : ℕ). 256 + x) at.holds.1 in
      let mine : is_correct_client c (256 + at.ran.call.client) ≡ true = subst (λ (p : ℕ). is_correct_client c p ≡ true) (sym party) client in
      let says = asks_said c trace f.frame (asking (256 + at.ran.call.client) at.ran.call.timestamp modes.Ordered at.ran.call.op) run.runs (call_body c f.frame at.ran.call f.is_call)
      (correct_client c (256 + at.ran.call.client) mine) (executed_asked c trace at.number b.0 run b.1 f.frame at.ran.call has f.is_call) in
      let invoked = asked_op c (256 + at.ran.call.client) at.ran.call.timestamp modes.Ordered at.ran.call.op (history_of (256 + at.ran.call.client) trace) (run.runs.clients (256 + at.ran.call.client) mine) says in
      let most = invokes_le c (256 + at.ran.call.client) at.ran.call.timestamp at.ran.call.op (history_of (256 + at.ran.call.client) trace) (run.runs.clients (256 + at.ran.call.client) mine) invoked in
      let last : last_call (history_of (256 + at.ran.call.client) trace) ≡ call.timestamp = ap (λ (p : ℕ). last_call (history_of p trace)) party ∙ open_last (history_of (256 + k) trace) call opened in
      let time : kept.timestamp ≡ at.ran.call.timestamp = sym (ap (λ (x : Kept). x.timestamp) at.holds.0) ∙ at.holds.3 in
      omega arith

  -- a correct replica whose state has the call's timestamp, or a later one, keeps its reply
  pub keeps_reply : (r : ℕ) (later past : List Entry) (point : RightReplica.Point) → is_correct_replica c r ≡ true → history_of r trace ≡ later ++ past → HistoryReaches c r past point
      → call.timestamp ≤ last_time point.state k → KeepsReply c r past k call.timestamp
  keeps_reply r later past point correct splits leaves l = go (kept_of point.state k) refl
    where
      go : (o : Option Kept) → kept_of point.state k ≡ o → KeepsReply c r past k call.timestamp
      go None none =
          let zero_is : last_time point.state k ≡ 0 = ap (λ (o : Option Kept). option_map_or (λ (x : Kept). x.timestamp) o 0) none in
          let p = open_positive c (256 + k) (history_of (256 + k) trace) call (run.runs.clients (256 + k) client) opened in
          absurd (omega arith)
      go (Some kept) there =
          let t_is : last_time point.state k ≡ kept.timestamp = ap (λ (o : Option Kept). option_map_or (λ (x : Kept). x.timestamp) o 0) there in
          let m = kept_most point.state kept (by_at c trace run r later past point correct splits leaves) there in
          record { point = point; leaves = leaves; kept = kept; is_kept = there; time = omega arith }

  -- a reply that was kept of the open call is still kept later
  pub kept_stays : (r : ℕ) (later middle past : List Entry) (old new : RightReplica.Point) (kept : Kept) → is_correct_replica c r ≡ true → history_of r trace ≡ later ++ (middle ++ past)
      → HistoryReaches c r past old → HistoryReaches c r (middle ++ past) new → kept_of old.state k ≡ Some kept → kept.timestamp ≡ call.timestamp
      → (still : Kept) × (kept_of new.state k ≡ Some still) × (still.timestamp ≡ call.timestamp)
  kept_stays r later middle past old new kept correct splits before behind is time = go (kept_of new.state k) refl
    where
      at_least : call.timestamp ≤ last_time new.state k
      at_least =
          let grows = times_grow c trace run r later middle past old new k correct splits before behind in
          let z : last_time old.state k ≡ kept.timestamp = ap (λ (o : Option Kept). option_map_or (λ (x : Kept). x.timestamp) o 0) is in
          omega arith

      go : (o : Option Kept) → kept_of new.state k ≡ o → (still : Kept) × (kept_of new.state k ≡ Some still) × (still.timestamp ≡ call.timestamp)
      go None none =
          let zero_is : last_time new.state k ≡ 0 = ap (λ (o : Option Kept). option_map_or (λ (x : Kept). x.timestamp) o 0) none in
          let l = at_least in
          let p = open_positive c (256 + k) (history_of (256 + k) trace) call (run.runs.clients (256 + k) client) opened in
          absurd (omega arith)
      go (Some still) there =
          let t_is : last_time new.state k ≡ still.timestamp = ap (λ (o : Option Kept). option_map_or (λ (x : Kept). x.timestamp) o 0) there in
          let l = at_least in
          let m = kept_most new.state still (by_at c trace run r later (middle ++ past) new correct splits behind) there in
          (still, there, omega arith)
