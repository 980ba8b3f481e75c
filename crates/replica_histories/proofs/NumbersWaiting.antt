-- The waiting requests change: a newer one arrives, or a state that has run some.
use Rattle.std.proofs.Common.{◌≡◌, ◌≢◌, ℕ, suc, ◌≤◌, ◌<◌, ◌⊎◌, inl, inr, Bool, true, false, cond, not, ◌&&◌, ◌||◌, ◌==◌, List, [], ◌∷◌, ◌++◌, filter, fold, refl, sym, ap, ◌∙◌, subst, arith, Option, Some, None, eqb-true, eq-eqb}
use Rattle.std.specs.Prelude.{nat_lt, option_and_then}
use Rattle.std.specs.List.{list_all}
use Rattle.std.specs.Option.{option_map_or}
use Rattle.std.proofs.lemmas.Bool.{and_parts, eqb-false, not-true, ltb-true, ltb-false}
use Rattle.std.proofs.lemmas.List.{map-append}
use Rattle.std.proofs.lemmas.List.Kept.{AllPairs-filter}
use Rattle.wire_format.specs.Words.{requests_of}
use Rattle.signing.specs.AuthenticBody.{authentic}
use Rattle.reply_cache.specs.Replies.{Kept, last_of, with_reply}
use Rattle.protocol.specs.System.Configuration.{Configuration, members}
use Rattle.protocol.specs.System.Trace.{Entry, Has, either}
use Rattle.protocol.specs.Replica.State.{State, Call, call_in, call_of, runs, kept_by, ran_call, run_call, run_frame, execute, last_time}
use Rattle.protocol.specs.Replica.RightReplica.{is_newer, with_waiting, still_waiting}
use Rattle.protocol.proofs.Words.Leaving.{last_put}
use Rattle.protocol.proofs.Words.Elements.{has_some, has_weaker, has_left, has_right, has_filtered, each_has, each_with, each_filtered, each_of_all, each_where}
use Rattle.protocol.proofs.Words.Pairs.{pairs_of, all_pairs}
use Rattle.replica_histories.specs.Numbers.{Waiting, AssignedCall, calls_of, is_assigned, arrived, CallIsKnown, IsInNewView, CallHasNumber, CallHasNoNumber, IsRightly, FitsNumbers, entries_with, RequestsFit, InputsKeepNumbers, NoneFalls, StatesFit, ExecutionsRaise, StatesLeaveNoMore}
use Rattle.replica_histories.proofs.Words.{apart}
use Rattle.replica_histories.proofs.NumbersFlags.{assigned_is, is_assigned_where, assigned_numbered, fewer_unnumbered}
use Rattle.replica_histories.proofs.NumbersLists.{mapped_kept, pairs_with, Differ, Covers}

-- if one reason implies another, a call known for either stays known
either_known : {A B C : Type 0} → A ⊎ C → (A → B) → B ⊎ C
either_known (inl h) f = inl (f h)
either_known (inr h) f = inr h

-- ---- a newer request

module _ (c : Configuration) (me v used : ℕ) (assigned : List AssignedCall) (entries : List Waiting) (st : State) (history : List Entry) (call : Call)
    (f : FitsNumbers c me v used assigned entries st (calls_of entries) history)
    (unseen : last_time st call.client < call.timestamp) (newer : list_all (is_newer call) (calls_of entries) ≡ true) where
  abbrev all_calls : List Call
  all_calls = calls_of entries

  abbrev is_other : Call → Bool
  is_other = λ other. not (other.client == call.client)

  -- a waiting request of its client is older
  older : (other : Call) → Has (λ x. x ≡ other) all_calls → other.client ≡ call.client → other.timestamp < call.timestamp
  older other has same = each_has (λ (x : Call). x.client ≡ call.client → x.timestamp < call.timestamp) all_calls other
      (each_of_all (λ (x : Call). x.client ≡ call.client → x.timestamp < call.timestamp) (is_newer call) below all_calls newer) has same
    where
      below : (x : Call) → is_newer call x ≡ true → x.client ≡ call.client → x.timestamp < call.timestamp
      below x e of_client =
          let tests : (not true || nat_lt x.timestamp call.timestamp) ≡ true = ap (λ (b : Bool). not b || nat_lt x.timestamp call.timestamp) (sym (eq-eqb x.client call.client of_client)) ∙ e in
          ltb-true x.timestamp call.timestamp tests

  -- so it has a number only if a new view assigned it
  unknown : CallIsKnown st all_calls call.client call.timestamp → ⊥
  unknown (inl ran) = omega (arith, unseen, ran)
  unknown (inr waits) =
      let x = has_some (λ (y : Call). (y.client ≡ call.client) × (call.timestamp ≤ y.timestamp)) all_calls waits in
      let below = older x.0 x.1 x.2.0 in
      let above = x.2.1 in
      omega (arith, below, above)

  fresh : CallHasNumber c me v history call → is_assigned assigned call ≡ true
  fresh h = go (f.known call.client call.timestamp h)
    where
      go : CallIsKnown st all_calls call.client call.timestamp ⊎ IsInNewView assigned call.client call.timestamp → is_assigned assigned call ≡ true
      go (inl k) = absurd (unknown k)
      go (inr b) = is_assigned_where assigned call b

  rightly : IsRightly c me v history (arrived assigned call)
  rightly = go (is_assigned assigned call) refl
    where
      go : (b : Bool) → is_assigned assigned call ≡ b → either b (CallHasNumber c me v history call) (CallHasNoNumber c me v history call)
      go true e = assigned_numbered c me v call.client call.timestamp history assigned f.numbered (assigned_is assigned call e)
      go false e = λ h. apart (is_assigned assigned call) (fresh h) e

  -- known calls stay known
  known_on : (client timestamp : ℕ) → CallIsKnown st all_calls client timestamp → CallIsKnown st (filter is_other all_calls ++ call ∷ []) client timestamp
  known_on client timestamp (inl ran) = inl ran
  known_on client timestamp (inr waits) = inr (go (client == call.client) refl)
    where
      go : (b : Bool) → (client == call.client) ≡ b → Has (Covers client timestamp) (filter is_other all_calls ++ call ∷ [])
      go true e =
          let same : client ≡ call.client = eqb-true client call.client e in
          let x = has_some (Covers client timestamp) all_calls waits in
          let below = older x.0 x.1 (x.2.0 ∙ same) in
          let above = x.2.1 in
          has_right (Covers client timestamp) (filter is_other all_calls) (call ∷ []) (inl (sym same, omega (arith, below, above)))
      go false e = has_left (Covers client timestamp) (filter is_other all_calls) (call ∷ [])
          (has_filtered (Covers client timestamp) is_other (λ x at. ap (λ (k : ℕ). not (k == call.client)) at.0 ∙ ap not e) all_calls waits)

  pub request_waits : FitsNumbers c me v used assigned (filter (λ w. is_other w.call) entries ++ arrived assigned call ∷ []) st (filter is_other all_calls ++ call ∷ []) history
  request_waits = record {
    calls = map-append (λ (w : Waiting). w.call) (filter (λ w. is_other w.call) entries) (arrived assigned call ∷ [])
        ∙ ap (λ (calls : List Call). calls ++ call ∷ []) (mapped_kept (λ (w : Waiting). w.call) is_other entries);
    free = f.free;
    full = f.full;
    rightly = each_with (IsRightly c me v history) (filter (λ w. is_other w.call) entries) (arrived assigned call)
        (each_filtered (IsRightly c me v history) (IsRightly c me v history) (λ w. is_other w.call) (λ w e h. h) entries f.rightly) rightly;
    numbered = f.numbered;
    known = λ client timestamp h. either_known (f.known client timestamp h) (known_on client timestamp);
    differ = all_pairs (Differ c) (filter is_other all_calls ++ call ∷ [])
        (pairs_with (Differ c) (filter is_other all_calls) call
        (pairs_of (Differ c) (filter is_other all_calls) (AllPairs-filter (Differ c) is_other all_calls f.differ))
        (each_filtered (λ (x : Call). x ≡ x) (λ (x : Call). x.client ≢ call.client) is_other
        (λ x e h. eqb-false x.client call.client (not-true (x.client == call.client) e)) all_calls (each_where (λ (x : Call). x ≡ x) all_calls (λ x has. refl))));
  }

-- if the calls are those of the waiting requests
arrives : (c : Configuration) (me v used : ℕ) (assigned : List AssignedCall) (entries : List Waiting) (st : State) (history : List Entry) (call : Call)
    → FitsNumbers c me v used assigned entries st (calls_of entries) history
    → FitsNumbers c me v used assigned (entries_with assigned st entries call) st (with_waiting st (calls_of entries) call) history
arrives c me v used assigned entries st history call f = go (nat_lt (last_time st call.client) call.timestamp && list_all (is_newer call) (calls_of entries)) refl
  where
    go : (b : Bool) → (nat_lt (last_time st call.client) call.timestamp && list_all (is_newer call) (calls_of entries)) ≡ b
        → FitsNumbers c me v used assigned (cond b (filter (λ w. not (w.call.client == call.client)) entries ++ arrived assigned call ∷ []) entries) st
        (cond b (filter (λ other. not (other.client == call.client)) (calls_of entries) ++ call ∷ []) (calls_of entries)) history
    go true e =
        let p = and_parts (nat_lt (last_time st call.client) call.timestamp) (list_all (is_newer call) (calls_of entries)) e in
        request_waits c me v used assigned entries st history call f (ltb-true (last_time st call.client) call.timestamp p.0) p.1
    go false e = f

pub requests_fit : RequestsFit
requests_fit c me v used assigned entries st waiting history call f =
    subst (λ (calls : List Call). FitsNumbers c me v used assigned entries st calls history → FitsNumbers c me v used assigned (entries_with assigned st entries call) st (with_waiting st calls call) history) f.calls
    (arrives c me v used assigned entries st history call) f

pub inputs_keep_numbers : InputsKeepNumbers
inputs_keep_numbers c me v used assigned entries point history bytes f = go (option_and_then (call_in c) (authentic (members c me) me bytes))
  where
    go : (o : Option Call) → FitsNumbers c me v used assigned (option_map_or (entries_with assigned point.state entries) o entries) point.state (option_map_or (with_waiting point.state point.waiting) o point.waiting) history
    go None = f
    go (Some call) = requests_fit c me v used assigned entries point.state point.waiting history call f

-- ---- another state

abbrev waits_on : State → Call → Bool
waits_on st call = nat_lt (last_time st call.client) call.timestamp

known_behind : (old new : State) (waiting : List Call) (client timestamp : ℕ) → NoneFalls old new → CallIsKnown old waiting client timestamp → CallIsKnown new (still_waiting new waiting) client timestamp
known_behind old new waiting client timestamp grows (inl ran) = let more = grows client in inl (omega (arith, ran, more))
known_behind old new waiting client timestamp grows (inr waits) =
    let x = has_some (λ (y : Call). (y.client ≡ client) × (timestamp ≤ y.timestamp)) waiting waits in
    go x.0 x.1 x.2.0 x.2.1 (waits_on new x.0) refl
  where
    go : (call : Call) → Has (λ y. y ≡ call) waiting → call.client ≡ client → timestamp ≤ call.timestamp → (b : Bool) → waits_on new call ≡ b → CallIsKnown new (still_waiting new waiting) client timestamp
    go call has own late true e =
        inr (has_weaker (λ (y : Call). y ≡ call) (λ (y : Call). (y.client ≡ client) × (timestamp ≤ y.timestamp))
        (λ y same. (ap (λ (z : Call). z.client) same ∙ own, subst (λ (z : Call). timestamp ≤ z.timestamp) (sym same) late))
        (still_waiting new waiting) (has_filtered (λ (y : Call). y ≡ call) (waits_on new) (λ y same. ap (waits_on new) same ∙ e) waiting has))
    go call has own late false e =
        let past : call.timestamp ≤ last_time new call.client = ltb-false (last_time new call.client) call.timestamp e in
        let here : call.timestamp ≤ last_time new client = subst (λ (k : ℕ). call.timestamp ≤ last_time new k) own past in
        inl (omega (arith, late, here))

pub states_fit : StatesFit
states_fit c me v used assigned entries old new waiting history grows f = record {
  calls = mapped_kept (λ (w : Waiting). w.call) (waits_on new) entries ∙ ap (still_waiting new) f.calls;
  free = f.free;
  full = f.full;
  rightly = each_filtered (IsRightly c me v history) (IsRightly c me v history) (λ w. waits_on new w.call) (λ w e h. h) entries f.rightly;
  numbered = f.numbered;
  known = λ client timestamp h. either_known (f.known client timestamp h) (known_behind old new waiting client timestamp grows);
  differ = AllPairs-filter (Differ c) (waits_on new) waiting f.differ;
}

pub states_leave_no_more : StatesLeaveNoMore
states_leave_no_more new entries = fewer_unnumbered (λ w. waits_on new w.call) entries

-- ---- executions

abbrev time_of : Option Kept → ℕ
time_of o = option_map_or (λ (kept : Kept). kept.timestamp) o 0

pub call_raises : (st : State) (number : ℕ) (call : Call) → NoneFalls st (run_call st number call)
call_raises st number call client = go (runs st call) refl
  where
    ran : runs st call ≡ true
        → ((last_of (with_reply st.replies call.client (kept_by st number call)) client ≡ Some (kept_by st number call)) × (call.client ≡ client))
        ⊎ (last_of (with_reply st.replies call.client (kept_by st number call)) client ≡ last_of st.replies client)
        → last_time st client ≤ last_time (ran_call st number call) client
    ran e (inl put) =
        let newer : last_time st call.client < call.timestamp = ltb-true (last_time st call.client) call.timestamp e in
        let own : last_time st client < call.timestamp = subst (λ (k : ℕ). last_time st k < call.timestamp) put.1 newer in
        let now : last_time (ran_call st number call) client ≡ call.timestamp = ap time_of put.0 in
        omega (arith, own, now)
    ran e (inr same) =
        let now : last_time (ran_call st number call) client ≡ last_time st client = ap time_of same in
        omega (arith, now)

    go : (b : Bool) → runs st call ≡ b → last_time st client ≤ last_time (cond b (ran_call st number call) st) client
    go true e = ran e (last_put st.replies call.client client (kept_by st number call))
    go false e = omega arith

pub frames_raise : (c : Configuration) (number : ℕ) (frames : List (List ℕ)) (st : State) → NoneFalls st (fold (run_frame c number) st frames)
frames_raise c number [] st client = omega arith
frames_raise c number (frame ∷ frames) st client =
    let first : last_time st client ≤ last_time (run_frame c number st frame) client = one (call_of c frame) in
    let rest = frames_raise c number frames (run_frame c number st frame) client in
    omega (arith, first, rest)
  where
    one : (o : Option Call) → last_time st client ≤ last_time (option_map_or (run_call st number) o st) client
    one None = omega arith
    one (Some call) = call_raises st number call client

pub executions_raise : ExecutionsRaise
unfolding execute
executions_raise c st batch client = frames_raise c (suc st.number) (requests_of batch) st client
