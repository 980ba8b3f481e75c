-- A primary offers one batch for a number of a view, by a pre-prepare or by its new view. A correct primary offered
-- each batch that a replica logs.
use Rattle.std.proofs.Common.{◌≡◌, ℕ, ◌+◌, ◌^◌, ◌≤◌, ◌<◌, ◌⊎◌, inl, inr, Bool, true, false, cond, List, [], ◌∷◌, Option, Some, None, refl, sym, ap, ◌∙◌, subst, arith, ◌&&◌, eqb-true}
use Rattle.std.specs.Prelude.{option_and_then, ◌==◌, nat_lt, nat_le}
use Rattle.std.proofs.lemmas.Bool.{and_parts, and_cases, ltb-true, ltb-false, leb-false}
use Rattle.protocol.specs.System.Configuration.{Configuration, span, primary, is_number, members}
use Rattle.wire_format.specs.Messages.{BodyData as Body, MessageData as Message, NewViewData, pre_prepare as PrePrepare, new_view as NewView}
use Rattle.signing.specs.AuthenticBody.{authentic}
use Rattle.wire_format.specs.Words.{said}
use Rattle.protocol.specs.System.Trace.{Entry, Once, Always}
use Rattle.protocol.specs.System.Trace.Entry.{Invoke, Got, Sent}
use Rattle.std.specs.Bool.{then_some}
use Rattle.quorum.specs.Votes.{or_else}
use Rattle.protocol.specs.Replica.Certificates.{first_given, view, target, taken, new_view_in, new_view_from, low, is_in_marks, is_active_in, assigned_batch, are_genuine, entry_proposal, proposal, logged, batch_from, counts_at, brought}
use Rattle.protocol.specs.Replica.RightReplica.{Point, MaySendMessage, MayPrePrepare, SentBefore, SendsBytes}
use Rattle.protocol.proofs.Words.Temporal.{once_weaker, once_always, once_stays_from}
use Rattle.protocol.proofs.Words.Options.{and_then_some, then_some_gives, or_else_cases, or_else_first, given_once, given_stays, some_injective}
use Rattle.protocol.proofs.Agreement.Voting.{RightAt, Brings, logged_stays}
use Rattle.protocol.proofs.Agreement.Marks.{view_grows, low_grows, takes, begins, few_batches, selected_in, proposes}

-- the batch that a body offers for the view and number, and the batch that an entry does
abbrev pub offer_from : ℕ → ℕ → Body → Option (List ℕ)
offer_from v i body = elim body.message [ PrePrepare view number batch ↦ then_some ((view == v) && (number == i)) batch | NewView new ↦ assigned_batch v i new | _ ↦ None ]

abbrev pub offer_in : ℕ → ℕ → Entry → Option (List ℕ)
offer_in v i (Sent p bytes) = option_and_then (offer_from v i) (said bytes)
offer_in v i _ = None

unfoldable pub offered : ℕ → ℕ → List Entry → Option (List ℕ)
offered v i past = first_given (λ earlier e. offer_in v i e) past

-- ---- logged batches were offered

pub record Offers (c : Configuration) (me v i : ℕ) (batch : List ℕ) (past : List Entry) (e : Entry) : Type 0 where
  pub body : Body
  pub brings : Brings c body past e
  pub sender_is : body.sender ≡ primary c v
  pub offers : offer_from v i body ≡ Some batch

batch_offer : (c : Configuration) (me v i : ℕ) (batch : List ℕ) (sender : ℕ) (message : Message)
    → batch_from c me v i (record { sender = sender; message = message }) ≡ Some batch
    → (sender ≡ primary c v) × (offer_from v i (record { sender = sender; message = message }) ≡ Some batch)
batch_offer c me v i batch sender (PrePrepare view number b) h =
    let g = then_some_gives ((view == v) && (number == i) && (sender == primary c v) && are_genuine c me b) b batch h in
    let p = and_parts ((view == v) && (number == i) && (sender == primary c v)) (are_genuine c me b) g.0 in
    let q = and_parts ((view == v) && (number == i)) (sender == primary c v) p.0 in
    (eqb-true sender (primary c v) q.1, rw q.0 (ap Some g.1))
batch_offer c me v i batch sender _ h = absurd cc

assigned_offer : (v i : ℕ) (new : NewViewData) (batch : List ℕ) (sender : ℕ) (message : Message) → message ≡ NewView new → assigned_batch v i new ≡ Some batch
    → offer_from v i (record { sender = sender; message = message }) ≡ Some batch
assigned_offer v i new batch sender message is h = rw is h

taken_offer : (c : Configuration) (me v i : ℕ) (past : List Entry) (batch : List ℕ) (e : Entry) (new : NewViewData) → new_view_in c e ≡ Some new → assigned_batch v i new ≡ Some batch → Offers c me v i batch past e
taken_offer c me v i past batch (Got p bytes) new h b =
    let r = and_then_some (new_view_from c) (authentic (members c p) p bytes) new h in
    let g = begins c r.0 new r.2 in
    record { body = r.0; brings = r.1; sender_is = g.sender_is ∙ ap (primary c) (proposes c v i new batch b).view_is; offers = assigned_offer v i new batch r.0.sender r.0.message g.message_is b }
taken_offer c me v i past batch (Sent p bytes) new h b =
    let r = and_then_some (new_view_from c) (said bytes) new h in
    let g = begins c r.0 new r.2 in
    record { body = r.0; brings = r.1; sender_is = g.sender_is ∙ ap (primary c) (proposes c v i new batch b).view_is; offers = assigned_offer v i new batch r.0.sender r.0.message g.message_is b }
taken_offer c me v i past batch (Invoke x y z) new h b = absurd cc
taken_offer c me v i past batch _ new h b = absurd cc

-- the pre-prepare by which an entry logs a batch
pub entry_batch : (c : Configuration) (me v i : ℕ) (batch : List ℕ) (past : List Entry) (e : Entry) → entry_proposal c me past e v i ≡ Some batch
    → (counts_at c me past e v i ≡ true) × ((body : Body) × (brought c e ≡ Some body) × (batch_from c me v i body ≡ Some batch))
entry_batch c me v i batch past e h = go (counts_at c me past e v i) h
  where
    go : (b : Bool) → cond b (option_and_then (batch_from c me v i) (brought c e)) None ≡ Some batch → (b ≡ true) × ((body : Body) × (brought c e ≡ Some body) × (batch_from c me v i body ≡ Some batch))
    go true h = (refl, and_then_some (batch_from c me v i) (brought c e) batch h)
    go false h = absurd cc

-- an entry that logs a batch brings an offer of the view's primary
entry_offer : (c : Configuration) (me v i : ℕ) (batch : List ℕ) (past : List Entry) (e : Entry)
    → entry_proposal c me past e v i ≡ Some batch → Offers c me v i batch past e
entry_offer c me v i batch past e h =
    let t = entry_batch c me v i batch past e h in
    let o = batch_offer c me v i batch t.1.0.sender t.1.0.message t.1.2 in
    record { body = t.1.0; brings = t.1.1; sender_is = o.0; offers = o.1 }

pub proposal_offer : (c : Configuration) (me v i : ℕ) (batch : List ℕ) (past : List Entry) (e : Entry) → proposal c me past e v i ≡ Some batch → Offers c me v i batch past e
proposal_offer c me v i batch past e h = go (or_else_cases _ _ batch h)
  where
    assigned : (b : Bool) → cond b (option_and_then (assigned_batch v i) (taken c past e)) None ≡ Some batch → Offers c me v i batch past e
    assigned true h =
        let t = and_then_some (assigned_batch v i) (taken c past e) batch h in
        taken_offer c me v i past batch e t.0 (takes c me past e t.0 t.1).brought t.2
    assigned false h = absurd cc

    go : (cond (is_in_marks c (low c me (e ∷ past)) i) (option_and_then (assigned_batch v i) (taken c past e)) None ≡ Some batch)
        ⊎ (entry_proposal c me past e v i ≡ Some batch) → Offers c me v i batch past e
    go (inl h) = assigned (is_in_marks c (low c me (e ∷ past)) i) h
    go (inr h) = entry_offer c me v i batch past e h

-- ---- a primary offers one batch for a number of a view

active_view : (c : Configuration) (past : List Entry) (v : ℕ) → is_active_in c past v ≡ true → view c past ≡ v
active_view c past v h = eqb-true (view c past) v (and_parts (view c past == v) (nat_le (target past) v) h).0

pub marks_above : (c : Configuration) (h i : ℕ) → is_in_marks c h i ≡ true → h < i
marks_above c h i m = ltb-true h i (and_parts (nat_lt h i) (nat_le i (h + span c)) (and_parts (nat_lt h i && nat_le i (h + span c)) (is_number i) m).0).0

marks_outside : (c : Configuration) (h i : ℕ) → i < 2 ^ 48 → is_in_marks c h i ≡ false → (i ≤ h) ⊎ (h + span c < i)
marks_outside c h i small m = go (and_cases (nat_lt h i && nat_le i (h + span c)) (is_number i) m)
  where
    inside : (nat_lt h i ≡ false) ⊎ (nat_le i (h + span c) ≡ false) → (i ≤ h) ⊎ (h + span c < i)
    inside (inl e) = inl (ltb-false h i e)
    inside (inr e) = inr (leb-false i (h + span c) e)

    go : ((nat_lt h i && nat_le i (h + span c)) ≡ false) ⊎ (is_number i ≡ false) → (i ≤ h) ⊎ (h + span c < i)
    go (inl e) = inside (and_cases (nat_lt h i) (nat_le i (h + span c)) e)
    go (inr e) = let large = ltb-false i (2 ^ 48) e in absurd (omega arith)

-- an offer is new, or of a new view, or repeats an earlier one
data IsOffer (c : Configuration) (me v i : ℕ) (batch : List ℕ) (past : List Entry) (e : Entry) : Type 0 where
  fresh : is_active_in c past v ≡ true → is_in_marks c (low c me past) i ≡ true → logged c me (e ∷ past) v i ≡ Some batch → IsOffer c me v i batch past e
  assigned : (new : NewViewData) → taken c past e ≡ Some new → assigned_batch v i new ≡ Some batch → IsOffer c me v i batch past e
  again : Once (λ earlier x. offer_in v i x ≡ Some batch) past → IsOffer c me v i batch past e

same_bytes : (v i : ℕ) (batch bytes : List ℕ) → option_and_then (offer_from v i) (said bytes) ≡ Some batch → (past : List Entry) → SentBefore bytes past → Once (λ earlier x. offer_in v i x ≡ Some batch) past
same_bytes v i batch bytes h past s = once_weaker (SendsBytes bytes) (λ earlier x. offer_in v i x ≡ Some batch) step past s
  where
    step : (earlier : List Entry) (e : Entry) → SendsBytes bytes earlier e → offer_in v i e ≡ Some batch
    step earlier (Sent p sent) is = rw is h
    step earlier _ is = absurd is

offer_by : (c : Configuration) (me v i : ℕ) (batch : List ℕ) (past : List Entry) (point : Point) (p : ℕ) (bytes : List ℕ) (sender : ℕ) (message : Message)
    → option_and_then (offer_from v i) (said bytes) ≡ Some batch
    → offer_from v i (record { sender = sender; message = message }) ≡ Some batch → MaySendMessage c me past point (Sent p bytes) bytes message → IsOffer c me v i batch past (Sent p bytes)
offer_by c me v i batch past point p bytes sender (PrePrepare view number b) whole h allowed =
    let g = then_some_gives ((view == v) && (number == i)) b batch h in
    let q = and_parts (view == v) (number == i) g.0 in
    let ev : view ≡ v = eqb-true view v q.0 in
    let ei : number ≡ i = eqb-true number i q.1 in
    let m : MayPrePrepare c me past point (Sent p bytes) v i batch =
    subst (λ (x : ℕ). MayPrePrepare c me past point (Sent p bytes) x i batch) ev
    (subst (λ (x : ℕ). MayPrePrepare c me past point (Sent p bytes) view x batch) ei
    (subst (λ (x : List ℕ). MayPrePrepare c me past point (Sent p bytes) view number x) g.1 allowed)) in
    fresh m.active m.in_marks m.one
offer_by c me v i batch past point p bytes sender (NewView new) whole h allowed = go allowed.1
  where
    go : (taken c past (Sent p bytes) ≡ Some new) ⊎ ((is_active_in c past new.view ≡ true) × SentBefore bytes past) → IsOffer c me v i batch past (Sent p bytes)
    go (inl t) = assigned new t h
    go (inr t) = again (same_bytes v i batch bytes whole past t.1)
offer_by c me v i batch past point p bytes sender _ whole h allowed = absurd cc

is_offer : (c : Configuration) (me v i : ℕ) (batch : List ℕ) (past : List Entry) (e : Entry) → RightAt c me past e → offer_in v i e ≡ Some batch → IsOffer c me v i batch past e
is_offer c me v i batch past (Sent p bytes) r h =
    let t = and_then_some (offer_from v i) (said bytes) batch h in
    let m = r.may in
    let is : m.body ≡ t.0 = some_injective m.body t.0 (sym m.says ∙ t.1) in
    let allowed : MaySendMessage c me past r.point (Sent p bytes) bytes t.0.message = subst (λ (x : Body). MaySendMessage c me past r.point (Sent p bytes) bytes x.message) is m.allowed in
    offer_by c me v i batch past r.point p bytes t.0.sender t.0.message h t.2 allowed
is_offer c me v i batch past (Invoke x y z) r h = absurd cc
is_offer c me v i batch past _ r h = absurd cc

-- ---- logged batches are of views that were reached

entered_view : (c : Configuration) (me v i : ℕ) (batch : List ℕ) (past : List Entry) (e : Entry) (new : NewViewData) → taken c past e ≡ Some new → assigned_batch v i new ≡ Some batch → view c (e ∷ past) ≡ v
entered_view c me v i batch past e new t b = (takes c me past e new t).view_is ∙ (proposes c v i new batch b).view_is

sent_view : (c : Configuration) (me v i : ℕ) (past : List Entry) (point : Point) (e : Entry) (bytes batch : List ℕ) (sender : ℕ) (message : Message)
    → batch_from c me v i (record { sender = sender; message = message }) ≡ Some batch → MaySendMessage c me past point e bytes message
    → (view c past ≡ v) × (is_in_marks c (low c me past) i ≡ true)
sent_view c me v i past point e bytes batch sender (PrePrepare view number b) h allowed =
    let g = then_some_gives ((view == v) && (number == i) && (sender == primary c v) && are_genuine c me b) b batch h in
    let o = and_parts ((view == v) && (number == i) && (sender == primary c v)) (are_genuine c me b) g.0 in
    let q = and_parts ((view == v) && (number == i)) (sender == primary c v) o.0 in
    let p = and_parts (view == v) (number == i) q.0 in
    (active_view c past view allowed.active ∙ eqb-true view v p.0, subst (λ (x : ℕ). is_in_marks c (low c me past) x ≡ true) (eqb-true number i p.1) allowed.in_marks)
sent_view c me v i past point e bytes batch sender _ h allowed = absurd cc

-- a batch that a pre-prepare logs is of the replica's view, and within the marks
pub entry_within : (c : Configuration) (me v i : ℕ) (batch : List ℕ) (past : List Entry) (e : Entry) → RightAt c me past e
    → entry_proposal c me past e v i ≡ Some batch → (view c past ≡ v) × (is_in_marks c (low c me past) i ≡ true)
entry_within c me v i batch past (Got p bytes) r h =
    let t = entry_batch c me v i batch past (Got p bytes) h in
    let a = and_parts (is_active_in c past v) (is_in_marks c (low c me past) i) t.0 in
    (active_view c past v a.0, a.1)
entry_within c me v i batch past (Sent p bytes) r h =
    let t = (entry_batch c me v i batch past (Sent p bytes) h).1 in
    let m = r.may in
    let is : m.body ≡ t.0 = some_injective m.body t.0 (sym m.says ∙ t.1) in
    let allowed : MaySendMessage c me past r.point (Sent p bytes) bytes t.0.message = subst (λ (x : Body). MaySendMessage c me past r.point (Sent p bytes) bytes x.message) is m.allowed in
    sent_view c me v i past r.point (Sent p bytes) bytes batch t.0.sender t.0.message t.2 allowed
entry_within c me v i batch past (Invoke x y z) r h = absurd cc
entry_within c me v i batch past _ r h = absurd cc

proposal_view : (c : Configuration) (me v i : ℕ) (batch : List ℕ) (past : List Entry) (e : Entry) → RightAt c me past e → proposal c me past e v i ≡ Some batch → v ≤ view c (e ∷ past)
proposal_view c me v i batch past e r h = go (or_else_cases _ _ batch h)
  where
    at_view : (b : Bool) → cond b (option_and_then (assigned_batch v i) (taken c past e)) None ≡ Some batch → v ≤ view c (e ∷ past)
    at_view true h =
        let t = and_then_some (assigned_batch v i) (taken c past e) batch h in
        let is : view c (e ∷ past) ≡ v = entered_view c me v i batch past e t.0 t.1 t.2 in omega arith
    at_view false h = absurd cc

    go : (cond (is_in_marks c (low c me (e ∷ past)) i) (option_and_then (assigned_batch v i) (taken c past e)) None ≡ Some batch)
        ⊎ (entry_proposal c me past e v i ≡ Some batch) → v ≤ view c (e ∷ past)
    go (inl h) = at_view (is_in_marks c (low c me (e ∷ past)) i) h
    go (inr h) = let is : view c past ≡ v = (entry_within c me v i batch past e r h).0 in let grows = view_grows c e past in omega arith

pub logged_view : (c : Configuration) (me v i : ℕ) (batch : List ℕ) (xs : List Entry) → Always (RightAt c me) xs → logged c me xs v i ≡ Some batch → v ≤ view c xs
unfolding logged
logged_view c me v i batch xs right h =
    once_stays_from (λ past. v ≤ view c past) (λ e past k. let grows = view_grows c e past in omega arith) xs
    (once_weaker (λ past e. RightAt c me past e × (proposal c me past e v i ≡ Some batch) × Always (RightAt c me) past) (λ past e. v ≤ view c (e ∷ past))
    (λ past e t. proposal_view c me v i batch past e t.0 t.1) xs
    (once_always (RightAt c me) (λ past e. proposal c me past e v i ≡ Some batch) xs right (given_once (λ earlier e. proposal c me earlier e v i) batch xs h)))

-- ---- a right primary offers one batch

pub record Offered (c : Configuration) (me v i : ℕ) (batch : List ℕ) (past : List Entry) : Type 0 where
  pub is_offered : offered v i past ≡ Some batch
  pub view : v ≤ view c past
  pub place : (logged c me past v i ≡ Some batch) ⊎ (i ≤ low c me past)

offered_later : (c : Configuration) (me v i : ℕ) (batch : List ℕ) (e : Entry) (past : List Entry) → Offered c me v i batch past → Offered c me v i batch (e ∷ past)
unfolding offered
offered_later c me v i batch e past o = record {
  is_offered = given_stays (λ earlier e. offer_in v i e) batch e past o.is_offered;
  view = (let grows = view_grows c e past in let had = o.view in omega arith);
  place = go o.place;
}
  where
    go : (logged c me past v i ≡ Some batch) ⊎ (i ≤ low c me past) → (logged c me (e ∷ past) v i ≡ Some batch) ⊎ (i ≤ low c me (e ∷ past))
    go (inl h) = inl (logged_stays c me v i batch e past h)
    go (inr h) = inr (let grows = low_grows c me e past in omega arith)

-- an entry's offer is the first, or repeats it
offered_now : (v i : ℕ) (batch : List ℕ) (past : List Entry) (e : Entry) → offer_in v i e ≡ Some batch
    → ((b : List ℕ) → offered v i past ≡ Some b → b ≡ batch) → offered v i (e ∷ past) ≡ Some batch
unfolding offered
offered_now v i batch past e h same = go (first_given (λ earlier e. offer_in v i e) past) same
  where
    go : (o : Option (List ℕ)) → ((b : List ℕ) → o ≡ Some b → b ≡ batch) → or_else o (offer_in v i e) ≡ Some batch
    go None same = h
    go (Some b) same = ap Some (same b refl)

offered_once : (v i : ℕ) (batch : List ℕ) (past : List Entry) → offered v i past ≡ Some batch → Once (λ earlier x. offer_in v i x ≡ Some batch) past
unfolding offered
offered_once v i batch past h = given_once (λ earlier e. offer_in v i e) batch past h

logged_now : (c : Configuration) (me v i : ℕ) (batch : List ℕ) (past : List Entry) (e : Entry) → Always (RightAt c me) past → view c past < v → proposal c me past e v i ≡ Some batch
    → logged c me (e ∷ past) v i ≡ Some batch
unfolding logged
logged_now c me v i batch past e right above h = go (first_given (λ earlier e. proposal c me earlier e v i) past) refl
  where
    go : (o : Option (List ℕ)) → first_given (λ earlier e. proposal c me earlier e v i) past ≡ o → or_else o (proposal c me past e v i) ≡ Some batch
    go None is = h
    go (Some b) is = let reached = logged_view c me v i b past right is in absurd (omega arith)

pub assigned_place : (c : Configuration) (me v i : ℕ) (batch : List ℕ) (past : List Entry) (e : Entry) (new : NewViewData) → Always (RightAt c me) past
    → taken c past e ≡ Some new → assigned_batch v i new ≡ Some batch → (logged c me (e ∷ past) v i ≡ Some batch) ⊎ (i ≤ low c me (e ∷ past))
assigned_place c me v i batch past e new right t b = go (is_in_marks c (low c me (e ∷ past)) i) refl
  where
    small : i < 2 ^ 48
    small = let p = proposes c v i new batch b in (few_batches c new (selected_in c e new (takes c me past e new t).brought)).1 i p.above p.within

    go : (m : Bool) → is_in_marks c (low c me (e ∷ past)) i ≡ m → (logged c me (e ∷ past) v i ≡ Some batch) ⊎ (i ≤ low c me (e ∷ past))
    go true m =
        let s = takes c me past e new t in
        let is = (proposes c v i new batch b).view_is in
        let above = s.above in
        let higher : view c past < v = omega arith in
        let assigned : option_and_then (assigned_batch v i) (taken c past e) ≡ Some batch = rw t b in
        let first : cond (is_in_marks c (low c me (e ∷ past)) i) (option_and_then (assigned_batch v i) (taken c past e)) None ≡ Some batch = rw m assigned in
        let gives : proposal c me past e v i ≡ Some batch = or_else_first (cond (is_in_marks c (low c me (e ∷ past)) i) (option_and_then (assigned_batch v i) (taken c past e)) None) _ batch first in
        inl (logged_now c me v i batch past e right higher gives)
    go false m = outside (marks_outside c (low c me (e ∷ past)) i small m)
      where
        outside : (i ≤ low c me (e ∷ past)) ⊎ (low c me (e ∷ past) + span c < i) → (logged c me (e ∷ past) v i ≡ Some batch) ⊎ (i ≤ low c me (e ∷ past))
        outside (inl h) = inr h
        outside (inr h) =
            let s = takes c me past e new t in
            let p = proposes c v i new batch b in
            let few = (few_batches c new (selected_in c e new s.brought)).0 in
            let within = p.within in
            let low_is = s.low_is in
            absurd (omega arith)

offers_head : (c : Configuration) (me v i : ℕ) (batch : List ℕ) (past : List Entry) (e : Entry) → Always (RightAt c me) (e ∷ past) → offer_in v i e ≡ Some batch
    → IsOffer c me v i batch past e → ((b : List ℕ) → Once (λ earlier x. offer_in v i x ≡ Some b) past → Offered c me v i b past) → Offered c me v i batch (e ∷ past)
offers_head c me v i batch past e right h (fresh active marks logs) kept =
    let at : view c past ≡ v = active_view c past v active in
    let grows = view_grows c e past in
    record {
      is_offered = offered_now v i batch past e h (λ b o. same b (kept b (offered_once v i b past o)));
      view = omega arith;
      place = inl logs;
    }
  where
    same : (b : List ℕ) → Offered c me v i b past → b ≡ batch
    same b o = go o.place
      where
        go : (logged c me past v i ≡ Some b) ⊎ (i ≤ low c me past) → b ≡ batch
        go (inl l) = some_injective b batch (sym (logged_stays c me v i b e past l) ∙ logs)
        go (inr l) = let above = marks_above c (low c me past) i marks in absurd (omega arith)
offers_head c me v i batch past e right h (assigned new t b) kept =
    let s = takes c me past e new t in
    let is = (proposes c v i new batch b).view_is in
    let above = s.above in
    let now = s.view_is in
    record {
      is_offered = offered_now v i batch past e h (λ x o. let k = (kept x (offered_once v i x past o)).view in absurd (omega arith));
      view = omega arith;
      place = assigned_place c me v i batch past e new right.1 t b;
    }
offers_head c me v i batch past e right h (again earlier) kept = offered_later c me v i batch e past (kept batch earlier)

pub offers_kept : (c : Configuration) (me v i : ℕ) (batch : List ℕ) (xs : List Entry) → Always (RightAt c me) xs → Once (λ earlier x. offer_in v i x ≡ Some batch) xs
    → Offered c me v i batch xs
offers_kept c me v i batch [] right h = absurd h
offers_kept c me v i batch (e ∷ past) right (inr h) = offered_later c me v i batch e past (offers_kept c me v i batch past right.1 h)
offers_kept c me v i batch (e ∷ past) right (inl h) =
    offers_head c me v i batch past e right h (is_offer c me v i batch past e right.0 h) (λ b o. offers_kept c me v i b past right.1 o)
