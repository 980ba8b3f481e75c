-- The waiting requests, with the flags that say which of them have numbers: the flags stay those of the history.
use Rattle.std.proofs.Common.{◌≡◌, ◌≢◌, ℕ, zero, suc, ◌+◌, Bool, true, false, cond, not, ◌==◌, ◌||◌, ◌&&◌, nat_lt, List, [], ◌∷◌, ◌++◌, length, map, filter, take, drop, Some, refl, sym, ap, ◌∙◌, subst}
use Rattle.std.proofs.lemmas.List.{length-map, map-append, take-append-drop, take-map, take_at}
use Rattle.std.specs.List.{list_all, list_any}
use Rattle.wire_format.specs.Messages.{NewViewData, pre_prepare as PrePrepare}
use Rattle.wire_format.specs.Words.{requests_of, said}
use Rattle.protocol.specs.System.Configuration.{Configuration, primary}
use Rattle.protocol.specs.System.Trace.{Entry, Has}
use Rattle.protocol.specs.System.Trace.Entry.{Sent}
use Rattle.protocol.specs.Replica.Certificates.{taken, are_genuine}
use Rattle.protocol.specs.Replica.State.{State, Call, call_of, last_time}
use Rattle.protocol.specs.Replica.RightReplica.{is_newer, with_waiting, still_waiting, IsFree}
use Rattle.protocol.specs.Replica.Owed.{IsNumbered, NumbersOnce}
use Rattle.protocol.proofs.Words.Elements.{each_has, each_where, has_filter}
use Rattle.protocol.proofs.Words.Pairs.{all_pairs, pairs_of}
use Rattle.replica_histories.specs.Numbers.{FitsNumbers, Waiting, AssignedCall as HistoryCall, calls_of, AreCalls, KeepsNumbers, NoneFalls, AreOfNoLaterView, assigned_in, arrived, entries_with, IsNextFree}
use Rattle.replica_histories.specs.Numbers as numbers
use Rattle.replica_histories.proofs.Numbers.{first_numbers_fit, numbers_are_assigned}
use Rattle.replica_histories.proofs.NumbersAssigned.{views_begin}
use Rattle.replica_histories.proofs.NumbersGiven.{numbers_fit}
use Rattle.replica_histories.proofs.NumbersLists.{has_taken, mapped_kept, pairs_mapped}
use Rattle.replica_histories.proofs.NumbersKept.{numbers_stay}
use Rattle.replica_histories.proofs.NumbersWaiting.{requests_fit, states_fit}
use Rattle.desk.specs.declared.waiting.WaitingRequest.{WaitingRequest}
use Rattle.desk.specs.declared.waiting.AssignedCall.{AssignedCall}
use Rattle.desk.specs.Waiting.{WaitingData, none_waiting, texts, is_of, is_assigned, all_unnumbered, unnumbered, count_unnumbered, all_numbered, with_numbered, renumbered, with_view, forgotten}
use Rattle.orderer.specs.Flags.{flagged_call, flagged, FitsFlags}
use Rattle.desk.specs.Assigned.{assigned_of}
use Rattle.desk.specs.DeskOf.{waiting_call, waiting_calls, SpellCalls, AreOfDifferentClients}

-- ---- the calls, with the flags of their requests

-- if the first ones get numbers
flagged_numbered : (c : Configuration) (n : ℕ) (rs : List WaitingRequest) → flagged c (all_numbered n rs) ≡ numbers.with_numbered n (flagged c rs)
flagged_numbered c n [] = refl
flagged_numbered c zero (r ∷ rs) = refl
flagged_numbered c (suc n) (r ∷ rs) = go r.numbered (flagged_numbered c (suc n) rs) (flagged_numbered c n rs)
  where
    go : (b : Bool) → flagged c (all_numbered (suc n) rs) ≡ numbers.with_numbered (suc n) (flagged c rs) → flagged c (all_numbered n rs) ≡ numbers.with_numbered n (flagged c rs)
        → flagged c (cond b (r ∷ all_numbered (suc n) rs) (record r { numbered = true } ∷ all_numbered n rs))
        ≡ cond b (flagged_call c r ∷ numbers.with_numbered (suc n) (flagged c rs)) (record { call = waiting_call c r; numbered = true } ∷ numbers.with_numbered n (flagged c rs))
    go true many fewer = ap (λ (ws : List Waiting). flagged_call c r ∷ ws) many
    go false many fewer = ap (λ (ws : List Waiting). record { call = waiting_call c r; numbered = true } ∷ ws) fewer

-- if a view begins
assigned_same : (assigned : List AssignedCall) (client timestamp : ℕ) → list_any (λ b. (b.client == client) && (b.timestamp == timestamp)) (assigned_of assigned) ≡ is_assigned assigned client timestamp
assigned_same [] client timestamp = refl
assigned_same (b ∷ assigned) client timestamp = ap (λ t. ((b.client.number == client) && (b.timestamp.0 == timestamp)) || t) (assigned_same assigned client timestamp)

flagged_assigned : (c : Configuration) (assigned : List AssignedCall) (rs : List WaitingRequest) → flagged c (map (renumbered assigned) rs) ≡ map (arrived (assigned_of assigned)) (waiting_calls c rs)
flagged_assigned c assigned [] = refl
flagged_assigned c assigned (r ∷ rs) =
    ap (λ (b : Bool). record { call = waiting_call c r; numbered = b } ∷ flagged c (map (renumbered assigned) rs)) (sym (assigned_same assigned r.client.number r.timestamp.0))
    ∙ ap (λ (ws : List Waiting). arrived (assigned_of assigned) (waiting_call c r) ∷ ws) (flagged_assigned c assigned rs)

-- those without numbers
flagged_unnumbered : (c : Configuration) (rs : List WaitingRequest) → flagged c (all_unnumbered rs) ≡ numbers.unnumbered (flagged c rs)
flagged_unnumbered c rs = mapped_kept (flagged_call c) (λ w. not w.numbered) rs

spelled : (c : Configuration) (rs : List WaitingRequest) → SpellCalls c rs → AreCalls c (texts rs) (calls_of (flagged c rs))
spelled c [] h = refl
spelled c (r ∷ rs) h = ap (λ o. o ∷ map (call_of c) (texts rs)) h.0 ∙ ap (λ os. Some (waiting_call c r) ∷ os) (spelled c rs h.1)

-- The oldest ones' frames spell their calls.
pub oldest_spelled : (c : Configuration) (n : ℕ) (rs : List WaitingRequest) → SpellCalls c rs → AreCalls c (texts (take n (all_unnumbered rs))) (calls_of (take n (numbers.unnumbered (flagged c rs))))
oldest_spelled c n rs h = subst (λ (ws : List Waiting). AreCalls c (texts (take n (all_unnumbered rs))) (calls_of ws)) (sym (take-map (flagged_call c) n (all_unnumbered rs)) ∙ ap (take n) (flagged_unnumbered c rs))
    (spelled c (take n (all_unnumbered rs)) (each_where (λ (r : WaitingRequest). call_of c r.frame.items ≡ Some (waiting_call c r)) (take n (all_unnumbered rs))
    (λ r has. each_has (λ (r : WaitingRequest). call_of c r.frame.items ≡ Some (waiting_call c r)) rs r h (has_filter (λ x. x ≡ r) (λ x. not x.numbered) rs (has_taken (λ x. x ≡ r) n (all_unnumbered rs) has)))))

pub count_same : (c : Configuration) (w : WaitingData) → count_unnumbered w ≡ numbers.count_unnumbered (flagged c w.requests)
count_same c w = sym (length-map (all_unnumbered w.requests) (flagged_call c)) ∙ ap (λ (ws : List Waiting). length ws) (flagged_unnumbered c w.requests)

-- ---- from event to event

pub flags_first : (c : Configuration) (me v : ℕ) (st : State) → FitsFlags c me v 0 none_waiting st [] []
flags_first c me v st = first_numbers_fit c me v st

pub flags_stay : (c : Configuration) (me v used : ℕ) (w : WaitingData) (st : State) (calls : List Call) (past : List Entry) (e : Entry) → KeepsNumbers c me v past e
    → FitsFlags c me v used w st calls past → FitsFlags c me v used w st calls (e ∷ past)
flags_stay c me v used w st calls past e = numbers_stay c me v used (assigned_of w.assigned) (flagged c w.requests) st calls past e

-- another state
pub flags_forgotten : (c : Configuration) (me v used : ℕ) (w : WaitingData) (old new : State) (calls : List Call) (history : List Entry) → NoneFalls old new
    → FitsFlags c me v used w old calls history → FitsFlags c me v used (forgotten new w) new (still_waiting new calls) history
flags_forgotten c me v used w old new calls history grows f =
    subst (λ (ws : List Waiting). FitsNumbers c me v used (assigned_of w.assigned) ws new (still_waiting new calls) history)
    (sym (mapped_kept (flagged_call c) (λ x. nat_lt (last_time new x.call.client) x.call.timestamp) w.requests))
    (states_fit c me v used (assigned_of w.assigned) (flagged c w.requests) old new calls history grows f)

-- a newer request, which replaces its client's
module _ (c : Configuration) (me v used : ℕ) (w : WaitingData) (st : State) (calls : List Call) (history : List Entry) (r : WaitingRequest) (flag_is : r.numbered ≡ is_assigned w.assigned r.client.number r.timestamp.0)
    (newer : (nat_lt (last_time st r.client.number) r.timestamp.0 && list_all (is_newer (waiting_call c r)) calls) ≡ true) (f : FitsFlags c me v used w st calls history) where
  abbrev call : Call
  call = waiting_call c r

  abbrev others : List Waiting
  others = filter (λ z. not (z.call.client == r.client.number)) (flagged c w.requests)

  chosen : entries_with (assigned_of w.assigned) st (flagged c w.requests) call ≡ others ++ arrived (assigned_of w.assigned) call ∷ []
  chosen = ap (λ b. cond b (others ++ arrived (assigned_of w.assigned) call ∷ []) (flagged c w.requests))
      (ap (λ (ys : List Call). nat_lt (last_time st call.client) call.timestamp && list_all (is_newer call) ys) f.calls ∙ newer)

  entries_are : flagged c (filter (λ x. not (is_of r.client.number x)) w.requests ++ r ∷ []) ≡ others ++ arrived (assigned_of w.assigned) call ∷ []
  entries_are =
      map-append (flagged_call c) (filter (λ x. not (is_of r.client.number x)) w.requests) (r ∷ [])
      ∙ ap (λ (ws : List Waiting). ws ++ flagged_call c r ∷ []) (mapped_kept (flagged_call c) (λ z. not (z.call.client == r.client.number)) w.requests)
      ∙ ap (λ (b : Bool). others ++ record { call = call; numbered = b } ∷ []) (flag_is ∙ sym (assigned_same w.assigned r.client.number r.timestamp.0))

  pub flags_waiting : FitsFlags c me v used (record w { requests = filter (λ x. not (is_of r.client.number x)) w.requests ++ r ∷ [] }) st (with_waiting st calls call) history
  flags_waiting =
      subst (λ (ws : List Waiting). FitsNumbers c me v used (assigned_of w.assigned) ws st (with_waiting st calls call) history) (chosen ∙ sym entries_are)
      (requests_fit c me v used (assigned_of w.assigned) (flagged c w.requests) st calls history call f)

-- the oldest without a number get one
pub flags_numbered : (c : Configuration) (me v used i : ℕ) (w : WaitingData) (st : State) (calls : List Call) (batch bytes : List ℕ) (past : List Entry) → SpellCalls c w.requests
    → primary c v ≡ me → IsFree c me past st.number v i → are_genuine c me batch ≡ true → requests_of batch ≡ texts (unnumbered w)
    → said bytes ≡ Some (record { sender = me; message = PrePrepare v i batch })
    → FitsFlags c me v used w st calls past
    → NumbersOnce c me past (Sent me bytes) × FitsFlags c me v i (with_numbered (length (unnumbered w)) w) st calls (Sent me bytes ∷ past)
flags_numbered c me v used i w st calls batch bytes past h own free genuine reads says f = (
  given.0,
  subst (λ (ws : List Waiting). FitsNumbers c me v i (assigned_of w.assigned) ws st calls (Sent me bytes ∷ past)) (sym (flagged_numbered c (length (unnumbered w)) w.requests)) given.1,
)
  where
    -- as many as there are, up to 16
    front : (n : ℕ) (xs : List WaitingRequest) → take (length (take n xs)) xs ≡ take n xs
    front n xs = ap (take (length (take n xs))) (sym (take-append-drop n xs)) ∙ take_at (take n xs) (drop n xs) (length (take n xs)) refl

    spells : AreCalls c (requests_of batch) (calls_of (take (length (unnumbered w)) (numbers.unnumbered (flagged c w.requests))))
    spells = subst (λ (xs : List (List ℕ)). AreCalls c xs (calls_of (take (length (unnumbered w)) (numbers.unnumbered (flagged c w.requests))))) (ap texts (front 16 (all_unnumbered w.requests)) ∙ sym reads)
        (oldest_spelled c (length (unnumbered w)) w.requests h)

    given : NumbersOnce c me past (Sent me bytes) × FitsNumbers c me v i (assigned_of w.assigned) (numbers.with_numbered (length (unnumbered w)) (flagged c w.requests)) st calls (Sent me bytes ∷ past)
    given = numbers_fit c me v used i (length (unnumbered w)) (assigned_of w.assigned) (flagged c w.requests) st calls batch bytes past own free genuine spells says f

-- a view begins
pub flags_assigned : (c : Configuration) (me : ℕ) (w : WaitingData) (assigned : List AssignedCall) (st : State) (past : List Entry) (e : Entry) (new : NewViewData)
    → AreOfDifferentClients w.requests → taken c past e ≡ Some new → AreOfNoLaterView c me past → assigned_of assigned ≡ assigned_in c new.batches
    → FitsFlags c me new.view (new.start + length new.batches) (with_view assigned w) st (waiting_calls c w.requests) (e ∷ past)
flags_assigned c me w assigned st past e new differ enters none is =
    subst (λ (ws : List Waiting). FitsNumbers c me new.view (new.start + length new.batches) (assigned_of assigned) ws st (waiting_calls c w.requests) (e ∷ past)) (sym (flagged_assigned c assigned w.requests))
    (subst (λ (bs : List HistoryCall). FitsNumbers c me new.view (new.start + length new.batches) bs (map (arrived bs) (waiting_calls c w.requests)) st (waiting_calls c w.requests) (e ∷ past)) (sym is)
    (views_begin c me st (waiting_calls c w.requests) past e new enters none
    (all_pairs (λ (call twin : Call). call.client ≢ twin.client) (waiting_calls c w.requests)
    (pairs_mapped (λ (call twin : Call). call.client ≢ twin.client) (waiting_call c) w.requests (pairs_of (λ (r t : WaitingRequest). r.client.number ≢ t.client.number) w.requests differ)))))

-- the replica owes no numbers
pub flags_given : (c : Configuration) (me v used : ℕ) (w : WaitingData) (st : State) (calls : List Call) (history : List Entry) → FitsFlags c me v used w st calls history
    → (IsNextFree c me history used st.number → count_unnumbered w ≡ 0) → (i : ℕ) (call : Call) → Has (λ x. x ≡ call) calls → IsFree c me history st.number v i → IsNumbered c me history v call.client call.timestamp
flags_given c me v used w st calls history f all =
    numbers_are_assigned c me v used (assigned_of w.assigned) (flagged c w.requests) st calls history f (λ free. sym (count_same c w) ∙ all free)
