-- Over the view changes of 2f + 1 correct replicas that have one low mark there is a new view that meets the rules.
use Rattle.std.proofs.Common.{◌≡◌, ℕ, zero, suc, ◌+◌, ◌-◌, ◌*◌, ◌^◌, ◌≤◌, ◌<◌, ◌⊎◌, inl, inr, Bool, true, false, cond, ◌&&◌, ◌||◌, not, List, [], ◌∷◌, ◌++◌, length, slice_get, Some, None, refl, sym, ap, ◌∙◌, subst, arith, append_assoc, eqb-true}
use Rattle.std.specs.Prelude.{◌==◌, nat_lt, nat_le, option_and_then, ⊤}
use Rattle.std.specs.Bool.{then_some}
use Rattle.std.proofs.lemmas.Nat.{mod_below}
use Rattle.std.proofs.lemmas.Bool.{or_cases, and_parts, and_from, ltb-true, ltb-false, lt-ltb, leb-true, leb-false, le-leb, eqb-false}
use Rattle.sha2.specs.Sha256.{sha256}
use Rattle.quorum.specs.Quorum.{count_below}
use Rattle.quorum.specs.Votes.{has_digest}
use Rattle.quorum.proofs.Counting.{two_meet, count_mono, count_with}
use Rattle.wire_format.specs.Lists.{Each}
use Rattle.wire_format.specs.Messages.{BodyData as Body, MessageData as Message, ViewChangeData, NewViewData, CheckpointEntryData as CheckpointEntry, BatchEntryData as BatchEntry, pre_prepare as PrePrepare, view_change as ViewChange, new_view as NewView}
use Rattle.wire_format.specs.Words.{said}
use Rattle.protocol.specs.System.Configuration.{Configuration, IsConfiguration, replicas, primary, span, is_number, is_replica, is_correct_replica}
use Rattle.protocol.specs.System.Trace.{Entry, history_of, Once, Always, Has, Unforged}
use Rattle.protocol.specs.System.Trace.Entry.{Got, Sent}
use Rattle.protocol.specs.System.Run.{IsRun}
use Rattle.protocol.specs.Replica.Selection.{is_within, null_batch, changes_of, may_select}
use Rattle.protocol.specs.Replica.Certificates.{view, target, is_active_in, is_later, taken, new_view_in, new_view_from, low, is_in_marks, batch_from, assigned_batch, assigned_proposal, entry_proposal, proposal, first_given, logged, prepare_of, Prepared}
use Rattle.protocol.specs.Replica.RightReplica.{Point, MaySendMessage, SentBefore, SafeReplica}
use Rattle.protocol.specs.Replica.Owed.{IsSending, AreKeysSpent, BringsChange, HasLatestChange, HasBatch}
use Rattle.protocol.specs.Laws.Bounds.{IsBounded}
use Rattle.protocol.specs.Laws.Histories.{AreReplicasSafe}
use Rattle.evidence.specs.Refused.{SoManyHave, SaysNothingAgainst, SaysForIt, SaysNothing}
use Rattle.evidence.specs.Selected.{SomePrepared, MayStand}
use Rattle.protocol.proofs.Words.Bounds.{bounded}
use Rattle.protocol.proofs.Words.Elements.{has_some, each_weaker, each_has}
use Rattle.protocol.proofs.Words.Linking.{Speaks, saying_speaks}
use Rattle.protocol.proofs.Words.Options.{some_injective, and_then_some, then_some_gives, or_else_cases, given_once}
use Rattle.protocol.proofs.Words.Reacting.{is_replica_right}
use Rattle.protocol.proofs.Words.Temporal.{once_weaker}
use Rattle.protocol.proofs.Agreement.Agreeing.{logged_was_offered, has_digest_is, prepared_agree}
use Rattle.protocol.proofs.Agreement.Changes.{NewChangeAt, change_is_new, change_target}
use Rattle.protocol.proofs.Agreement.Commits.{prepared_remains}
use Rattle.protocol.proofs.Agreement.Marks.{takes, proposes}
use Rattle.protocol.proofs.Agreement.Offers.{offer_from, offer_in, offered, entry_batch, logged_view, offers_kept}
use Rattle.protocol.proofs.Agreement.Signed.{changing}
use Rattle.protocol.proofs.Agreement.Voting.{RightAt, right_always, voter_logs, primary_votes_not}
use Rattle.evidence.proofs.SelectedTests.{pairs_of_ascending}
use Rattle.evidence.proofs.SelectedRules.{new_views_meet_the_rules, changes_are}
use Rattle.progress.specs.Leaving.{SaysFrom, PreparedViewsBegin}
use Rattle.progress.proofs.Committing.{pre_prepare_is}
use Rattle.progress.proofs.Gathering.{Change, Gathered, gather}
use Rattle.progress.proofs.Leaving.{Bytes, came_bytes, own_bytes, primaries_begin_views}
use Rattle.progress.proofs.Happened.{At, once_at}
use Rattle.progress.proofs.Silence.{SignedHere}
use Rattle.progress.proofs.SilentView.{came_said, brings_signed}
use Rattle.progress.proofs.Steady.{target_later, active_parts, marks_parts}

-- ---- a batch is proposed in a view before a view change for a later one

taken_target : (c : Configuration) (past : List Entry) (e : Entry) (new : NewViewData) → taken c past e ≡ Some new → target past ≤ new.view
taken_target c past e new h =
    let r = and_then_some (λ (x : NewViewData). then_some (is_later (view c past) (target past) x) x) (new_view_in c e) new h in
    let g = then_some_gives (is_later (view c past) (target past) r.0) r.0 new r.2 in
    let test : (nat_lt (view c past) new.view && nat_le (target past) new.view) ≡ true = subst (λ (x : NewViewData). (nat_lt (view c past) x.view && nat_le (target past) x.view) ≡ true) g.1 g.0 in
    leb-true (target past) new.view (and_parts (nat_lt (view c past) new.view) (nat_le (target past) new.view) test).1

entry_target : (c : Configuration) (me w i : ℕ) (b : List ℕ) (past : List Entry) (e : Entry) → RightAt c me past e → entry_proposal c me past e w i ≡ Some b → target past ≤ w
entry_target c me w i b (past) (Got p bytes) r h =
    let t = (entry_batch c me w i b past (Got p bytes) h).0 in
    (active_parts c past w (and_parts (is_active_in c past w) (is_in_marks c (low c me past) i) t).0).1
entry_target c me w i b past (Sent p bytes) r h =
    let t = (entry_batch c me w i b past (Sent p bytes) h).1 in
    let is : ◌≡◌ {A = Body} r.may.body (record { sender = primary c w; message = PrePrepare w i b }) =
    some_injective r.may.body (record { sender = primary c w; message = PrePrepare w i b }) (sym r.may.says ∙ t.1 ∙ ap Some (pre_prepare_is c me w i b t.0.sender t.0.message t.2).0) in
    (active_parts c past w (subst (λ (x : Body). MaySendMessage c me past r.point (Sent p bytes) bytes x.message) is r.may.allowed).active).1
entry_target c me w i b past _ r h = absurd cc

proposal_target : (c : Configuration) (me w i : ℕ) (b : List ℕ) (past : List Entry) (e : Entry) → RightAt c me past e → proposal c me past e w i ≡ Some b → target past ≤ w
proposal_target c me w i b past e r h = go (or_else_cases (assigned_proposal c me past e w i) (entry_proposal c me past e w i) b h)
  where
    assigned : (m : Bool) → cond m (option_and_then (assigned_batch w i) (taken c past e)) None ≡ Some b → target past ≤ w
    assigned true k =
        let t = and_then_some (assigned_batch w i) (taken c past e) b k in
        let l = taken_target c past e t.0 t.1 in
        let is = (proposes c w i t.0 b t.2).view_is in
        omega arith
    assigned false k = absurd cc

    go : (assigned_proposal c me past e w i ≡ Some b) ⊎ (entry_proposal c me past e w i ≡ Some b) → target past ≤ w
    go (inl k) = assigned (is_in_marks c (low c me (e ∷ past)) i) k
    go (inr k) = entry_target c me w i b past e r k

-- an entry that sends a view change proposes nothing
change_proposes : (c : Configuration) (s w i : ℕ) (b : List ℕ) (vc : ViewChangeData) (past : List Entry) (e : Entry) → Speaks (changing s vc) past e → proposal c s past e w i ≡ Some b → ⊥
change_proposes c s w i b vc past (Sent p bytes) says h = go (or_else_cases (assigned_proposal c s past (Sent p bytes) w i) (entry_proposal c s past (Sent p bytes) w i) b h)
  where
    assigned : (m : Bool) → cond m (option_and_then (assigned_batch w i) (taken c past (Sent p bytes))) None ≡ Some b → ⊥
    assigned true k =
        let t = and_then_some (assigned_batch w i) (taken c past (Sent p bytes)) b k in
        let bad : None ≡ Some t.0 = sym (ap (option_and_then (new_view_from c)) says) ∙ (takes c 0 past (Sent p bytes) t.0 t.1).brought in
        cc
    assigned false k = cc

    go : (assigned_proposal c s past (Sent p bytes) w i ≡ Some b) ⊎ (entry_proposal c s past (Sent p bytes) w i ≡ Some b) → ⊥
    go (inl k) = assigned (is_in_marks c (low c s (Sent p bytes ∷ past)) i) k
    go (inr k) =
        let t = (entry_batch c s w i b past (Sent p bytes) k).1 in
        let same : changing s vc ≡ t.0 = some_injective (changing s vc) t.0 (sym says ∙ t.1) in
        let bad : batch_from c s w i (changing s vc) ≡ Some b = ap (batch_from c s w i) same ∙ t.2 in
        cc
change_proposes c s w i b vc past _ says h = absurd says

-- so a batch that is logged in a view was logged before a view change for a later one
logged_before : (c : Configuration) (s w i : ℕ) (b : List ℕ) (vc : ViewChangeData) (newer past : List Entry) (e : Entry) → Always (RightAt c s) (newer ++ e ∷ past) → Speaks (changing s vc) past e → w < vc.view
    → logged c s (newer ++ e ∷ past) w i ≡ Some b → logged c s past w i ≡ Some b
unfolding logged
logged_before c s w i b vc [] past e right says less h = go (or_else_cases (first_given (λ earlier x. proposal c s earlier x w i) past) (proposal c s past e w i) b h)
  where
    go : (first_given (λ earlier x. proposal c s earlier x w i) past ≡ Some b) ⊎ (proposal c s past e w i ≡ Some b) → first_given (λ earlier x. proposal c s earlier x w i) past ≡ Some b
    go (inl k) = k
    go (inr k) = absurd (change_proposes c s w i b vc past e says k)
logged_before c s w i b vc (x ∷ newer) past e right says less h =
    go (or_else_cases (first_given (λ earlier x. proposal c s earlier x w i) (newer ++ e ∷ past)) (proposal c s (newer ++ e ∷ past) x w i) b h) (logged_before c s w i b vc newer past e right.1 says less)
  where
    go : (first_given (λ earlier x. proposal c s earlier x w i) (newer ++ e ∷ past) ≡ Some b) ⊎ (proposal c s (newer ++ e ∷ past) x w i ≡ Some b)
        → (first_given (λ earlier x. proposal c s earlier x w i) (newer ++ e ∷ past) ≡ Some b → first_given (λ earlier x. proposal c s earlier x w i) past ≡ Some b)
        → first_given (λ earlier x. proposal c s earlier x w i) past ≡ Some b
    go (inl k) below = below k
    go (inr k) below =
        let l = proposal_target c s w i b (newer ++ e ∷ past) x right.0 k in
        let t = change_target s vc past e says in
        let g = target_later newer (e ∷ past) in
        absurd (omega arith)

-- and so it is with a primary's offers
offer_target : (c : Configuration) (s w i : ℕ) (b : List ℕ) (past : List Entry) (point : Point) (p : ℕ) (bytes : List ℕ) (sender : ℕ) (message : Message) → offer_from w i (record { sender = sender; message = message }) ≡ Some b
    → MaySendMessage c s past point (Sent p bytes) bytes message → target past ≤ w
offer_target c s w i b past point p bytes sender (PrePrepare u j d) h allowed =
    let is : u ≡ w = eqb-true u w (and_parts (u == w) (j == i) (then_some_gives ((u == w) && (j == i)) d b h).0).0 in
    let l = (active_parts c past u allowed.active).1 in
    omega arith
offer_target c s w i b past point p bytes sender (NewView new) h allowed = go allowed.1
  where
    is : new.view ≡ w
    is = (proposes c w i new b h).view_is

    go : (taken c past (Sent p bytes) ≡ Some new) ⊎ ((is_active_in c past new.view ≡ true) × SentBefore bytes past) → target past ≤ w
    go (inl t) = let l = taken_target c past (Sent p bytes) new t in let v = is in omega arith
    go (inr a) = let l = (active_parts c past new.view a.0).1 in let v = is in omega arith
offer_target c s w i b past point p bytes sender _ h allowed = absurd cc

offered_before : (c : Configuration) (s w i : ℕ) (b : List ℕ) (vc : ViewChangeData) (newer past : List Entry) (e : Entry) → Always (RightAt c s) (newer ++ e ∷ past) → Speaks (changing s vc) past e → w < vc.view
    → Once (λ earlier x. offer_in w i x ≡ Some b) (newer ++ e ∷ past) → Once (λ earlier x. offer_in w i x ≡ Some b) past
offered_before c s w i b vc [] past e right says less (inr h) = h
offered_before c s w i b vc [] past e right says less (inl h) = absurd (none e says h)
  where
    none : (e : Entry) → Speaks (changing s vc) past e → offer_in w i e ≡ Some b → ⊥
    none (Sent p bytes) k h = let bad : None ≡ Some b = sym (ap (option_and_then (offer_from w i)) k) ∙ h in cc
    none _ k h = k
offered_before c s w i b vc (x ∷ newer) past e right says less (inr h) = offered_before c s w i b vc newer past e right.1 says less h
offered_before c s w i b vc (x ∷ newer) past e right says less (inl h) =
    let l = at x right.0 h in
    let t = change_target s vc past e says in
    let g = target_later newer (e ∷ past) in
    absurd (omega arith)
  where
    at : (x : Entry) → RightAt c s (newer ++ e ∷ past) x → offer_in w i x ≡ Some b → target (newer ++ e ∷ past) ≤ w
    at (Sent p bytes) r h =
        let t = and_then_some (offer_from w i) (said bytes) b h in
        let is : r.may.body ≡ t.0 = some_injective r.may.body t.0 (sym r.may.says ∙ t.1) in
        offer_target c s w i b (newer ++ e ∷ past) r.point p bytes t.0.sender t.0.message t.2 (subst (λ (x : Body). MaySendMessage c s (newer ++ e ∷ past) r.point (Sent p bytes) bytes x.message) is r.may.allowed)
    at (Got x y) r h = absurd cc
    at _ r h = absurd cc

-- ---- the greatest in lists

-- the entry of the number in the latest view
record Last (xs : List BatchEntry) (i : ℕ) : Type 0 where
  entry : BatchEntry
  is_there : Has (λ y. y ≡ entry) xs
  number : entry.number ≡ i
  most : (other : BatchEntry) → Has (λ y. y ≡ other) xs → other.number ≡ i → other.view ≤ entry.view

abbrev HasNone : List BatchEntry → ℕ → Type 0
HasNone xs i = (other : BatchEntry) → Has (λ y. y ≡ other) xs → other.number ≡ i → ⊥

last_with : (x : BatchEntry) (xs : List BatchEntry) (i : ℕ) → Last xs i ⊎ HasNone xs i → Last (x ∷ xs) i ⊎ HasNone (x ∷ xs) i
last_with x xs i rest = go (x.number == i) refl rest
  where
    none_more : (x.number == i) ≡ false → HasNone xs i → HasNone (x ∷ xs) i
    none_more e none other (inl is) n = eqb-false x.number i e (ap (λ (y : BatchEntry). y.number) is ∙ n)
    none_more e none other (inr h) n = none other h n

    as_before : (x.number == i) ≡ false → Last xs i → Last (x ∷ xs) i
    as_before e l = record { entry = l.entry; is_there = inr l.is_there; number = l.number; most = most }
      where
        most : (other : BatchEntry) → Has (λ y. y ≡ other) (x ∷ xs) → other.number ≡ i → other.view ≤ l.entry.view
        most other (inl is) n = absurd (eqb-false x.number i e (ap (λ (y : BatchEntry). y.number) is ∙ n))
        most other (inr h) n = l.most other h n

    alone : x.number ≡ i → HasNone xs i → Last (x ∷ xs) i
    alone is none = record { entry = x; is_there = inl refl; number = is; most = most }
      where
        most : (other : BatchEntry) → Has (λ y. y ≡ other) (x ∷ xs) → other.number ≡ i → other.view ≤ x.view
        most other (inl same) n = let v : x.view ≡ other.view = ap (λ (y : BatchEntry). y.view) same in omega arith
        most other (inr h) n = absurd (none other h n)

    later : x.number ≡ i → (l : Last xs i) → (b : Bool) → nat_le l.entry.view x.view ≡ b → Last (x ∷ xs) i
    later is l true e = record { entry = x; is_there = inl refl; number = is; most = most }
      where
        most : (other : BatchEntry) → Has (λ y. y ≡ other) (x ∷ xs) → other.number ≡ i → other.view ≤ x.view
        most other (inl same) n = let v : x.view ≡ other.view = ap (λ (y : BatchEntry). y.view) same in omega arith
        most other (inr h) n = let m = l.most other h n in let k = leb-true l.entry.view x.view e in omega arith
    later is l false e = record { entry = l.entry; is_there = inr l.is_there; number = l.number; most = most }
      where
        most : (other : BatchEntry) → Has (λ y. y ≡ other) (x ∷ xs) → other.number ≡ i → other.view ≤ l.entry.view
        most other (inl same) n = let v : x.view ≡ other.view = ap (λ (y : BatchEntry). y.view) same in let k = leb-false l.entry.view x.view e in omega arith
        most other (inr h) n = l.most other h n

    go : (b : Bool) → (x.number == i) ≡ b → Last xs i ⊎ HasNone xs i → Last (x ∷ xs) i ⊎ HasNone (x ∷ xs) i
    go false e (inl l) = inl (as_before e l)
    go false e (inr none) = inr (none_more e none)
    go true e (inl l) = inl (later (eqb-true x.number i e) l (nat_le l.entry.view x.view) refl)
    go true e (inr none) = inl (alone (eqb-true x.number i e) none)

last_in : (xs : List BatchEntry) (i : ℕ) → Last xs i ⊎ HasNone xs i
last_in [] i = inr (λ other h n. h)
last_in (x ∷ xs) i = last_with x xs i (last_in xs i)

-- the same over a set
record Best (set : List (ℕ × ViewChangeData)) (i : ℕ) : Type 0 where
  of : ℕ × ViewChangeData
  in_set : Has (λ y. y ≡ of) set
  entry : BatchEntry
  is_there : Has (λ y. y ≡ entry) of.1.prepared
  number : entry.number ≡ i
  most : (x : ℕ × ViewChangeData) (other : BatchEntry) → Has (λ y. y ≡ x) set → Has (λ y. y ≡ other) x.1.prepared → other.number ≡ i → other.view ≤ entry.view

abbrev NoneHas : List (ℕ × ViewChangeData) → ℕ → Type 0
NoneHas set i = (x : ℕ × ViewChangeData) (other : BatchEntry) → Has (λ y. y ≡ x) set → Has (λ y. y ≡ other) x.1.prepared → other.number ≡ i → ⊥

of_same : (x y : ℕ × ViewChangeData) (other : BatchEntry) → x ≡ y → Has (λ z. z ≡ other) y.1.prepared → Has (λ z. z ≡ other) x.1.prepared
of_same x y other is h = subst (λ (z : ℕ × ViewChangeData). Has (λ w. w ≡ other) z.1.prepared) (sym is) h

best_with : (x : ℕ × ViewChangeData) (xs : List (ℕ × ViewChangeData)) (i : ℕ) → Last x.1.prepared i ⊎ HasNone x.1.prepared i → Best xs i ⊎ NoneHas xs i → Best (x ∷ xs) i ⊎ NoneHas (x ∷ xs) i
best_with x xs i (inr none) (inr never) = inr none_there
  where
    none_there : NoneHas (x ∷ xs) i
    none_there y other (inl is) h n = none other (of_same x y other is h) n
    none_there y other (inr k) h n = never y other k h n
best_with x xs i (inl l) (inr never) = inl (record { of = x; in_set = inl refl; entry = l.entry; is_there = l.is_there; number = l.number; most = most })
  where
    most : (y : ℕ × ViewChangeData) (other : BatchEntry) → Has (λ z. z ≡ y) (x ∷ xs) → Has (λ z. z ≡ other) y.1.prepared → other.number ≡ i → other.view ≤ l.entry.view
    most y other (inl is) h n = l.most other (of_same x y other is h) n
    most y other (inr k) h n = absurd (never y other k h n)
best_with x xs i (inr none) (inl b) = inl (record { of = b.of; in_set = inr b.in_set; entry = b.entry; is_there = b.is_there; number = b.number; most = most })
  where
    most : (y : ℕ × ViewChangeData) (other : BatchEntry) → Has (λ z. z ≡ y) (x ∷ xs) → Has (λ z. z ≡ other) y.1.prepared → other.number ≡ i → other.view ≤ b.entry.view
    most y other (inl is) h n = absurd (none other (of_same x y other is h) n)
    most y other (inr k) h n = b.most y other k h n
best_with x xs i (inl l) (inl b) = inl (go (nat_le b.entry.view l.entry.view) refl)
  where
    go : (t : Bool) → nat_le b.entry.view l.entry.view ≡ t → Best (x ∷ xs) i
    go true e = record { of = x; in_set = inl refl; entry = l.entry; is_there = l.is_there; number = l.number; most = most }
      where
        most : (y : ℕ × ViewChangeData) (other : BatchEntry) → Has (λ z. z ≡ y) (x ∷ xs) → Has (λ z. z ≡ other) y.1.prepared → other.number ≡ i → other.view ≤ l.entry.view
        most y other (inl is) h n = l.most other (of_same x y other is h) n
        most y other (inr k) h n = let m = b.most y other k h n in let u = leb-true b.entry.view l.entry.view e in omega arith
    go false e = record { of = b.of; in_set = inr b.in_set; entry = b.entry; is_there = b.is_there; number = b.number; most = most }
      where
        most : (y : ℕ × ViewChangeData) (other : BatchEntry) → Has (λ z. z ≡ y) (x ∷ xs) → Has (λ z. z ≡ other) y.1.prepared → other.number ≡ i → other.view ≤ b.entry.view
        most y other (inl is) h n = let m = l.most other (of_same x y other is h) n in let u = leb-false b.entry.view l.entry.view e in omega arith
        most y other (inr k) h n = b.most y other k h n

best_in : (set : List (ℕ × ViewChangeData)) (i : ℕ) → Best set i ⊎ NoneHas set i
best_in [] i = inr (λ x other k h n. k)
best_in (x ∷ xs) i = best_with x xs i (last_in x.1.prepared i) (best_in xs i)

-- the greatest number that is prepared in a set, or the start
record Top (P : ℕ → Type 0) (start : ℕ) : Type 0 where
  number : ℕ
  from : start ≤ number
  most : (i : ℕ) → P i → i ≤ number
  ends : (number ≡ start) ⊎ P number

top_entries : (start : ℕ) (xs : List BatchEntry) → Top (λ i. Has (λ (b : BatchEntry). b.number ≡ i) xs) start
top_entries start [] = record { number = start; from = omega arith; most = λ i h. absurd h; ends = inl refl }
top_entries start (x ∷ xs) = go (top_entries start xs)
  where
    go : Top (λ i. Has (λ (b : BatchEntry). b.number ≡ i) xs) start → Top (λ i. Has (λ (b : BatchEntry). b.number ≡ i) (x ∷ xs)) start
    go t = pick (nat_le x.number t.number) refl
      where
        ending : (t.number ≡ start) ⊎ Has (λ (b : BatchEntry). b.number ≡ t.number) xs → (t.number ≡ start) ⊎ Has (λ (b : BatchEntry). b.number ≡ t.number) (x ∷ xs)
        ending (inl is) = inl is
        ending (inr h) = inr (inr h)

        pick : (b : Bool) → nat_le x.number t.number ≡ b → Top (λ i. Has (λ (b : BatchEntry). b.number ≡ i) (x ∷ xs)) start
        pick true e = record { number = t.number; from = t.from; most = most; ends = ending t.ends }
          where
            most : (i : ℕ) → Has (λ (b : BatchEntry). b.number ≡ i) (x ∷ xs) → i ≤ t.number
            most i (inl is) = let l = leb-true x.number t.number e in omega arith
            most i (inr h) = t.most i h
        pick false e = record { number = x.number; from = (let l = leb-false x.number t.number e in let f = t.from in omega arith); most = most; ends = inr (inl refl) }
          where
            most : (i : ℕ) → Has (λ (b : BatchEntry). b.number ≡ i) (x ∷ xs) → i ≤ x.number
            most i (inl is) = omega arith
            most i (inr h) = let m = t.most i h in let l = leb-false x.number t.number e in omega arith

top_set : (start : ℕ) (set : List (ℕ × ViewChangeData)) → Top (SomePrepared set) start
top_set start [] = record { number = start; from = omega arith; most = λ i h. absurd h; ends = inl refl }
top_set start (x ∷ xs) = go (top_entries start x.1.prepared) (top_set start xs)
  where
    go : Top (λ i. Has (λ (b : BatchEntry). b.number ≡ i) x.1.prepared) start → Top (SomePrepared xs) start → Top (SomePrepared (x ∷ xs)) start
    go a t = pick (nat_le a.number t.number) refl
      where
        ending : (t.number ≡ start) ⊎ SomePrepared xs t.number → (t.number ≡ start) ⊎ SomePrepared (x ∷ xs) t.number
        ending (inl is) = inl is
        ending (inr h) = inr (inr h)

        first : (a.number ≡ start) ⊎ Has (λ (b : BatchEntry). b.number ≡ a.number) x.1.prepared → (a.number ≡ start) ⊎ SomePrepared (x ∷ xs) a.number
        first (inl is) = inl is
        first (inr h) = inr (inl h)

        pick : (b : Bool) → nat_le a.number t.number ≡ b → Top (SomePrepared (x ∷ xs)) start
        pick true e = record { number = t.number; from = t.from; most = most; ends = ending t.ends }
          where
            most : (i : ℕ) → SomePrepared (x ∷ xs) i → i ≤ t.number
            most i (inl h) = let m = a.most i h in let l = leb-true a.number t.number e in omega arith
            most i (inr h) = t.most i h
        pick false e = record { number = a.number; from = a.from; most = most; ends = first a.ends }
          where
            most : (i : ℕ) → SomePrepared (x ∷ xs) i → i ≤ a.number
            most i (inl h) = a.most i h
            most i (inr h) = let m = t.most i h in let l = leb-false a.number t.number e in omega arith

-- ---- the primary and the backups that prepared are a quorum

prepared_by : Configuration → ℕ → List Entry → ℕ → ℕ → List ℕ → ℕ → Bool
prepared_by c p past w i d s = (s == primary c w) || has_digest d (prepare_of c p past w i s)

prepared_quorum : (c : Configuration) (p : ℕ) (past : List Entry) (w i : ℕ) (batch : List ℕ) → primary c w < replicas c → Prepared c p past w i batch → 2 * c.faults + 1 ≤ count_below (prepared_by c p past w i (sha256 batch)) (replicas c)
unfolding prepared_by
prepared_quorum c p past w i batch lt x =
    let more = count_with (λ s. has_digest (sha256 batch) (prepare_of c p past w i s)) (primary c w) (replicas c) lt in
    let same = count_mono (λ s. has_digest (sha256 batch) (prepare_of c p past w i s)) (λ s. not (s == primary c w) && has_digest (sha256 batch) (prepare_of c p past w i s)) (replicas c)
    (λ s l h. and_from (not (s == primary c w)) (has_digest (sha256 batch) (prepare_of c p past w i s))
    (primary_votes_not c p w i s (sha256 batch) past (has_digest_is (sha256 batch) (prepare_of c p past w i s) h)) h) in
    let had = x.backups in
    omega arith

was_offered : (xs : List Entry) (w i : ℕ) (b : List ℕ) → offered w i xs ≡ Some b → Once (λ earlier y. offer_in w i y ≡ Some b) xs
unfolding offered
was_offered xs w i b h = given_once (λ earlier y. offer_in w i y) b xs h

no_entry : (n : ℕ) (xs : List (List ℕ)) → length xs ≡ n → n ≡ 0 → xs ≡ []
no_entry n [] is zero_is = refl
no_entry n (x ∷ xs) is zero_is = absurd (omega arith)

-- ---- a primary that has the view changes, and the batches that are prepared there

module _ (c : Configuration) (setting : IsConfiguration c) (trace : List Entry) (is_run : IsRun c trace) (unforged : Unforged c trace) (p v start : ℕ) (root : List ℕ) (correct : is_correct_replica c p ≡ true)
    (from : ℕ → Bool) (enough : 2 * c.faults + 1 ≤ count_below from (replicas c))
    (says : (s : ℕ) → s < replicas c → from s ≡ true → (is_correct_replica c s ≡ true) × SaysFrom c p (history_of p trace) v start root s)
    (has : (s w i : ℕ) (batch : List ℕ) → is_correct_replica c s ≡ true → from s ≡ true → w < v → start < i → Prepared c s (history_of s trace) w i batch → HasBatch c p (history_of p trace) batch) where
  safe : AreReplicasSafe c trace
  safe q h = is_replica_right c q (history_of q trace) (is_run.replicas q h)

  pub record Voter (x : ℕ × ViewChangeData) : Type 0 where
    pub latest : HasLatestChange c p (history_of p trace) x
    pub is_correct : is_correct_replica c x.0 ≡ true
    pub chosen : from x.0 ≡ true
    pub is_view : x.1.view ≡ v
    pub within : is_within c x.1 ≡ true
    pub low_is : x.1.low ≡ start
    pub lists : Has (λ (m : CheckpointEntry). (m.number ≡ start) × (m.digest ≡ root)) x.1.checkpoints

  have : (s : ℕ) → 0 ≤ s → s < 0 + replicas c → from s ≡ true → Change c Voter s
  have s l m h =
      let t = says s (omega arith) h in
      let x = t.1 in
      let b = bytes_of s x.0 x.1 in
      record { bytes = b.bytes; vc = x.0; signed = b.signed; holds = record { latest = x.1; is_correct = t.0; chosen = h; is_view = x.2; within = x.3; low_is = x.4; lists = x.5 } }
    where
      right : SafeReplica c p (history_of p trace)
      right = is_replica_right c p (history_of p trace) (is_run.replicas p correct)

      bytes_of : (s : ℕ) (vc : ViewChangeData) → HasLatestChange c p (history_of p trace) (s, vc) → Bytes c s vc
      bytes_of s vc (inl h) = came_bytes c s vc (history_of p trace) h.1
      bytes_of s vc (inr h) = subst (λ (x : ℕ). Bytes c x vc) (sym h.0) (own_bytes c p vc (history_of p trace) right.0 (and_parts (is_replica c p) _ correct).0 right.1 h.1)

  pub g : Gathered c Voter from 0 (replicas c)
  g = gather c Voter from 0 (replicas c) have

  voter : (x : ℕ × ViewChangeData) → Has (λ y. y ≡ x) g.set → Voter x
  voter x h = each_has Voter g.set x g.each h

  -- ---- one of them

  module _ (x : ℕ × ViewChangeData) (h : Voter x) where
    spoken : Once (Speaks (changing x.0 x.1)) (history_of x.0 trace)
    spoken = go h.latest
      where
        go : HasLatestChange c p (history_of p trace) x → Once (Speaks (changing x.0 x.1)) (history_of x.0 trace)
        go (inl k) = came_said c trace p x.0 x.1 unforged correct h.is_correct (once_weaker (BringsChange c (x.0, x.1)) (SignedHere c x.0 x.1) (brings_signed c x.0 x.1) (history_of p trace) k.1)
        go (inr k) = subst (λ (s : ℕ). Once (Speaks (changing s x.1)) (history_of s trace)) (sym k.0)
            (once_weaker (λ earlier e. IsSending p (ViewChange x.1) e) (Speaks (changing p x.1)) (saying_speaks p (ViewChange x.1)) (history_of p trace) k.1)

    it : At (NewChangeAt c x.0 x.1) (history_of x.0 trace)
    it = once_at (NewChangeAt c x.0 x.1) (history_of x.0 trace) (change_is_new c x.0 x.1 (history_of x.0 trace) (right_always c x.0 (history_of x.0 trace) (safe x.0 h.is_correct).0 (safe x.0 h.is_correct).1) spoken)

    right_there : Always (RightAt c x.0) (it.newer ++ it.entry ∷ it.past)
    right_there = subst (λ (xs : List Entry). Always (RightAt c x.0) xs) it.splits (right_always c x.0 (history_of x.0 trace) (safe x.0 h.is_correct).0 (safe x.0 h.is_correct).1)

    low_there : low c x.0 it.past ≡ start
    low_there = sym it.holds.is_new.low ∙ h.low_is

    marks_there : (i : ℕ) → start < i → i ≤ start + span c → is_number i ≡ true → is_in_marks c (low c x.0 it.past) i ≡ true
    marks_there i a b n = subst (λ (l : ℕ). is_in_marks c l i ≡ true) (sym low_there)
        (and_from (nat_lt start i && nat_le i (start + span c)) (is_number i) (and_from (nat_lt start i) (nat_le i (start + span c)) (lt-ltb start i a) (le-leb i (start + span c) b)) n)

    below_view : (w : ℕ) → w < v → w < x.1.view
    below_view w l = let is = h.is_view in omega arith

    logged_there : (w i : ℕ) (b : List ℕ) → w < v → logged c x.0 (history_of x.0 trace) w i ≡ Some b → logged c x.0 it.past w i ≡ Some b
    logged_there w i b less k = logged_before c x.0 w i b x.1 it.newer it.past it.entry right_there it.holds.says (below_view w less) (subst (λ (xs : List Entry). logged c x.0 xs w i ≡ Some b) it.splits k)

    -- its Q set has each batch that it had logged
    vouches_for : (w i : ℕ) (b : List ℕ) → start < i → i ≤ start + span c → is_number i ≡ true → logged c x.0 it.past w i ≡ Some b → SaysForIt i w (sha256 b) x.1
    vouches_for w i b a l n k = it.holds.is_new.proposed.all w i b (marks_there i a l n) k

    -- an entry that it has prepared
    record Entered (e : BatchEntry) : Type 0 where
      batch : List ℕ
      prepared : Prepared c x.0 (history_of x.0 trace) e.view e.number batch
      digest_is : sha256 batch ≡ e.digest
      earlier : e.view < v
      above : start < e.number
      high : e.number ≤ start + span c
      is_small : is_number e.number ≡ true

    entered : (e : BatchEntry) → Has (λ y. y ≡ e) x.1.prepared → Entered e
    entered e k =
        let l = it.holds.is_new.prepared.listed e k in
        let m = marks_parts c start e.number (subst (λ (z : ℕ). is_in_marks c z e.number ≡ true) low_there l.1) in
        let u = logged_view c x.0 e.view e.number l.0.0 it.past (right_always c x.0 it.past it.holds.point it.holds.leaves) l.0.1.logged in
        let a = it.holds.is_new.above in
        let is = h.is_view in
        record {
          batch = l.0.0;
          prepared = subst (λ (xs : List Entry). Prepared c x.0 xs e.view e.number l.0.0) (sym (it.splits ∙ sym (append_assoc it.newer (it.entry ∷ []) it.past)))
              (prepared_remains c x.0 e.view e.number l.0.0 (it.newer ++ it.entry ∷ []) it.past l.0.1);
          digest_is = l.0.2;
          earlier = omega arith;
          above = m.0;
          high = m.1;
          is_small = m.2;
        }

    -- it had logged what it offered as the primary of an earlier view
    offered_there : (w i : ℕ) (b : List ℕ) → w < v → start < i → Once (λ earlier y. offer_in w i y ≡ Some b) (history_of x.0 trace) → logged c x.0 it.past w i ≡ Some b
    offered_there w i b less a k = go (offers_kept c x.0 w i b it.past (right_always c x.0 it.past it.holds.point it.holds.leaves)
        (offered_before c x.0 w i b x.1 it.newer it.past it.entry right_there it.holds.says (below_view w less) (subst (λ (xs : List Entry). Once (λ earlier y. offer_in w i y ≡ Some b) xs) it.splits k))).place
      where
        go : (logged c x.0 it.past w i ≡ Some b) ⊎ (i ≤ low c x.0 it.past) → logged c x.0 it.past w i ≡ Some b
        go (inl l) = l
        go (inr l) = let z = low_there in absurd (omega arith)

  -- ---- counts over the set

  inside : ℕ → Bool
  inside s = nat_lt s (replicas c) && from s

  so_many : 2 * c.faults + 1 ≤ count_below inside (replicas c)
  unfolding inside
  so_many =
      let more = count_mono from (λ s. nat_lt s (replicas c) && from s) (replicas c) (λ s l h. and_from (nat_lt s (replicas c)) (from s) (lt-ltb s (replicas c) l) h) in
      omega arith

  in_the_set : (s : ℕ) → inside s ≡ true → (vc : ViewChangeData) × Has (λ x. x ≡ (s, vc)) g.set
  unfolding inside
  in_the_set s h =
      let q = and_parts (nat_lt s (replicas c)) (from s) h in
      let l = ltb-true s (replicas c) q.0 in
      g.there s (omega arith) (omega arith) q.1

  quorum : (Q : ViewChangeData → Type 0) → ((x : ℕ × ViewChangeData) → Has (λ y. y ≡ x) g.set → Q x.1) → SoManyHave (2 * c.faults + 1) c g.set Q
  quorum Q q = (inside, so_many, λ s h. let t = in_the_set s h in (t.0, t.1, q (s, t.0) t.1))

  weak : (Q : ViewChangeData → Type 0) → ((x : ℕ × ViewChangeData) → Has (λ y. y ≡ x) g.set → Q x.1) → SoManyHave (c.faults + 1) c g.set Q
  weak Q q = (inside, (let m = so_many in omega arith), λ s h. let t = in_the_set s h in (t.0, t.1, q (s, t.0) t.1))

  -- ---- the batch that may be selected for a number

  record Chosen (i : ℕ) : Type 0 where
    batch : List ℕ
    stands : MayStand c v g.set i batch
    is_had : HasBatch c p (history_of p trace) batch

  module _ (i : ℕ) (above : start < i) (high : i ≤ start + span c) (small : is_number i ≡ true) where
    low_below : (x : ℕ × ViewChangeData) → Has (λ y. y ≡ x) g.set → x.1.low < i
    low_below x k = let is = (voter x k).low_is in omega arith

    module _ (b : Best g.set i) where
      its : Voter b.of
      its = voter b.of b.in_set

      e : Entered b.of its b.entry
      e = entered b.of its b.entry b.is_there

      prepared_here : Prepared c b.of.0 (history_of b.of.0 trace) b.entry.view i e.batch
      prepared_here = subst (λ (n : ℕ). Prepared c b.of.0 (history_of b.of.0 trace) b.entry.view n e.batch) b.number e.prepared

      against : (x : ℕ × ViewChangeData) → Has (λ y. y ≡ x) g.set → SaysNothingAgainst i b.entry.view (sha256 e.batch) x.1
      against x k = (low_below x k, λ other there n. pick other there n (nat_lt other.view b.entry.view) refl)
        where
          pick : (other : BatchEntry) → Has (λ y. y ≡ other) x.1.prepared → other.number ≡ i → (t : Bool) → nat_lt other.view b.entry.view ≡ t → (other.view < b.entry.view) ⊎ ((other.view ≡ b.entry.view) × (other.digest ≡ sha256 e.batch))
          pick other there n true f = inl (ltb-true other.view b.entry.view f)
          pick other there n false f =
              let o = entered x (voter x k) other there in
              let l = ltb-false other.view b.entry.view f in
              let m = b.most x other k there n in
              let same : other.view ≡ b.entry.view = omega arith in
              let two : Prepared c x.0 (history_of x.0 trace) b.entry.view i o.batch =
              subst (λ (n : ℕ). Prepared c x.0 (history_of x.0 trace) b.entry.view n o.batch) n (subst (λ (u : ℕ). Prepared c x.0 (history_of x.0 trace) u other.number o.batch) same o.prepared) in
              inr (same, sym o.digest_is ∙ prepared_agree c setting trace safe unforged x.0 b.of.0 b.entry.view i o.batch e.batch (voter x k).is_correct its.is_correct two prepared_here)

      both : ℕ → Bool
      both s = inside s && prepared_by c b.of.0 (history_of b.of.0 trace) b.entry.view i (sha256 e.batch) s

      primary_small : primary c b.entry.view < replicas c
      primary_small = let all : replicas c ≡ 3 * c.faults + 1 = refl in let some : 0 < replicas c = omega arith in mod_below b.entry.view (replicas c) some

      enough_both : c.faults + 1 ≤ count_below both (replicas c)
      unfolding both
      enough_both =
          let all : replicas c ≡ 3 * c.faults + 1 = refl in
          let one = so_many in
          let two = prepared_quorum c b.of.0 (history_of b.of.0 trace) b.entry.view i e.batch primary_small prepared_here in
          let meet = two_meet inside (prepared_by c b.of.0 (history_of b.of.0 trace) b.entry.view i (sha256 e.batch)) (replicas c) in
          omega arith

      logged_by : (s : ℕ) → inside s ≡ true → prepared_by c b.of.0 (history_of b.of.0 trace) b.entry.view i (sha256 e.batch) s ≡ true → (vc : ViewChangeData) × Has (λ x. x ≡ (s, vc)) g.set × SaysForIt i b.entry.view (sha256 e.batch) vc
      unfolding prepared_by
      logged_by s k d = (t.0, t.1, go (or_cases (s == primary c b.entry.view) (has_digest (sha256 e.batch) (prepare_of c b.of.0 (history_of b.of.0 trace) b.entry.view i s)) d))
        where
          t : (vc : ViewChangeData) × Has (λ x. x ≡ (s, vc)) g.set
          t = in_the_set s k

          h : Voter (s, t.0)
          h = voter (s, t.0) t.1

          go : ((s == primary c b.entry.view) ≡ true) ⊎ (has_digest (sha256 e.batch) (prepare_of c b.of.0 (history_of b.of.0 trace) b.entry.view i s) ≡ true) → SaysForIt i b.entry.view (sha256 e.batch) t.0
          go (inl is) =
              let same : s ≡ primary c b.entry.view = eqb-true s (primary c b.entry.view) is in
              let from_primary : is_correct_replica c (primary c b.entry.view) ≡ true = subst (λ (z : ℕ). is_correct_replica c z ≡ true) same h.is_correct in
              let offers = was_offered (history_of (primary c b.entry.view) trace) b.entry.view i e.batch (logged_was_offered c trace b.of.0 b.entry.view i e.batch safe unforged its.is_correct from_primary prepared_here.logged) in
              let mine : Once (λ earlier y. offer_in b.entry.view i y ≡ Some e.batch) (history_of s trace) = subst (λ (z : ℕ). Once (λ earlier y. offer_in b.entry.view i y ≡ Some e.batch) (history_of z trace)) (sym same) offers in
              vouches_for (s, t.0) h b.entry.view i e.batch above high small (offered_there (s, t.0) h b.entry.view i e.batch e.earlier above mine)
          go (inr is) =
              let l = voter_logs c trace b.of.0 s b.entry.view i (sha256 e.batch) safe unforged its.is_correct h.is_correct (has_digest_is (sha256 e.batch) (prepare_of c b.of.0 (history_of b.of.0 trace) b.entry.view i s) is) in
              subst (λ (d : List ℕ). SaysForIt i b.entry.view d t.0) l.digest
              (vouches_for (s, t.0) h b.entry.view i l.batch above high small (logged_there (s, t.0) h b.entry.view i l.batch e.earlier l.is_logged))

      each_both : (s : ℕ) → both s ≡ true → (vc : ViewChangeData) × Has (λ x. x ≡ (s, vc)) g.set × SaysForIt i b.entry.view (sha256 e.batch) vc
      unfolding both
      each_both s k =
          let q = and_parts (inside s) (prepared_by c b.of.0 (history_of b.of.0 trace) b.entry.view i (sha256 e.batch) s) k in
          logged_by s q.0 q.1

      chosen_best : Chosen i
      chosen_best = record {
        batch = e.batch;
        stands = inl (b.entry.view, e.earlier, quorum (SaysNothingAgainst i b.entry.view (sha256 e.batch)) against, (both, enough_both, each_both));
        is_had = has b.of.0 b.entry.view i e.batch its.is_correct its.chosen e.earlier above prepared_here;
      }

    chosen : Chosen i
    chosen = go (best_in g.set i)
      where
        nothing : NoneHas g.set i → (x : ℕ × ViewChangeData) → Has (λ y. y ≡ x) g.set → SaysNothing i x.1
        nothing none x k = (low_below x k, λ some. let b = has_some (λ (y : BatchEntry). y.number ≡ i) x.1.prepared some in none x b.0 k b.1 b.2)

        go : Best g.set i ⊎ NoneHas g.set i → Chosen i
        go (inl b) = chosen_best b
        go (inr none) = record { batch = null_batch; stands = inr (refl, quorum (SaysNothing i) (nothing none)); is_had = inl refl }

  -- ---- the batches from a number on

  record Filled (first n : ℕ) : Type 0 where
    batches : List (List ℕ)
    long : length batches ≡ n
    stand : (k : ℕ) (batch : List ℕ) → slice_get batches k ≡ Some batch → MayStand c v g.set (first + k) batch
    are_had : Each (HasBatch c p (history_of p trace)) batches

  fill : (first n : ℕ) → ((i : ℕ) → first ≤ i → i < first + n → Chosen i) → Filled first n
  fill first zero choose = record { batches = []; long = refl; stand = λ k batch get. absurd (let bad : None ≡ Some batch = get in cc); are_had = tt }
  fill first (suc n) choose =
      with_first (let a : first ≤ first = omega arith in let b : first < first + suc n = omega arith in choose first a b)
      (fill (suc first) n (λ i l m. let a : first ≤ i = omega arith in let b : i < first + suc n = omega arith in choose i a b))
    where
      with_first : Chosen first → Filled (suc first) n → Filled first (suc n)
      with_first x rest = record { batches = x.batch ∷ rest.batches; long = ap suc rest.long; stand = stand; are_had = (x.is_had, rest.are_had) }
        where
          stand : (k : ℕ) (batch : List ℕ) → slice_get (x.batch ∷ rest.batches) k ≡ Some batch → MayStand c v g.set (first + k) batch
          stand zero batch get =
              let same : x.batch ≡ batch = some_injective x.batch batch get in
              subst (λ (j : ℕ). MayStand c v g.set j batch) (omega arith) (subst (λ (y : List ℕ). MayStand c v g.set first y) same x.stands)
          stand (suc k) batch get =
              subst (λ (j : ℕ). MayStand c v g.set j batch) (omega arith) (rest.stand k batch get)

  -- ---- the new view

  top : Top (SomePrepared g.set) start
  top = top_set start g.set

  -- P entries are within the marks
  some_entered : (i : ℕ) (set : List (ℕ × ViewChangeData)) → ((x : ℕ × ViewChangeData) → Has (λ y. y ≡ x) set → Voter x) → SomePrepared set i → (start < i) × (i ≤ start + span c) × (is_number i ≡ true)
  some_entered i [] voters h = absurd h
  some_entered i (x ∷ xs) voters (inr h) = some_entered i xs (λ y k. voters y (inr k)) h
  some_entered i (x ∷ xs) voters (inl h) =
      let b = has_some (λ (y : BatchEntry). y.number ≡ i) x.1.prepared h in
      let o = entered x (voters x (inl refl)) b.0 b.1 in
      let n = b.2 in
      let a = o.above in
      let m = o.high in
      ((let r : start < i = omega arith in r), (let r : i ≤ start + span c = omega arith in r), subst (λ (j : ℕ). is_number j ≡ true) n o.is_small)

  top_within : (top.number ≡ start) ⊎ ((start < top.number) × (top.number ≤ start + span c) × (is_number top.number ≡ true))
  top_within = go top.ends
    where
      go : (top.number ≡ start) ⊎ SomePrepared g.set top.number → (top.number ≡ start) ⊎ ((start < top.number) × (top.number ≤ start + span c) × (is_number top.number ≡ true))
      go (inl is) = inl is
      go (inr h) = inr (some_entered top.number g.set voter h)

  choose : (i : ℕ) → suc start ≤ i → i < suc start + (top.number - start) → Chosen i
  choose i l m = go top_within
    where
      go : (top.number ≡ start) ⊎ ((start < top.number) × (top.number ≤ start + span c) × (is_number top.number ≡ true)) → Chosen i
      go (inl is) = absurd (omega arith)
      go (inr t) =
          let x = t.0 in
          let y = t.1 in
          let n = ltb-true top.number (2 ^ 48) t.2 in
          chosen i (omega arith) (omega arith) (lt-ltb i (2 ^ 48) (omega arith))

  filled : Filled (suc start) (top.number - start)
  filled = fill (suc start) (top.number - start) choose

  pub made : NewViewData
  made = record { view = v; changes = g.frames; start = start; root = root; batches = filled.batches }

  pub made_view : made.view ≡ v
  unfolding made
  made_view = refl

  pub made_batches : Each (HasBatch c p (history_of p trace)) made.batches
  unfolding made
  made_batches = filled.are_had

  pub made_changes : Each (HasLatestChange c p (history_of p trace)) (changes_of c made)
  unfolding made
  made_changes = subst (λ (set : List (ℕ × ViewChangeData)). Each (HasLatestChange c p (history_of p trace)) set) (sym (changes_are c g.frames g.set g.signed))
      (each_weaker Voter (HasLatestChange c p (history_of p trace)) (λ x h. h.latest) g.set g.each)

  long_enough : start + length filled.batches ≡ top.number
  long_enough = let l = filled.long in let f = top.from in omega arith

  pub made_selected : may_select c made ≡ true
  unfolding made
  made_selected = (new_views_meet_the_rules c (record { view = v; changes = g.frames; start = start; root = root; batches = filled.batches })).1 (record {
    set = g.set;
    signed = g.signed;
    ascending = pairs_of_ascending g.set g.order;
    enough = quorum (λ vc. ⊤) (λ x k. tt);
    within = each_weaker Voter (λ x. (x.1.view ≡ v) × IsBounded c x.1) (λ x h. (h.is_view, bounded c x.1 h.within)) g.set g.each;
    started = quorum (λ vc. vc.low ≤ start) (λ x k. let is = (voter x k).low_is in omega arith);
    listed = weak (λ vc. Has (λ (m : CheckpointEntry). (m.number ≡ start) × (m.digest ≡ root)) vc.checkpoints) (λ x k. (voter x k).lists);
    filled = λ i some l. let m = top.most i some in let e = long_enough in omega arith;
    ends = ending top.ends;
    stands = λ k batch get. filled.stand k batch get;
  })
    where
      ending : (top.number ≡ start) ⊎ SomePrepared g.set top.number → (filled.batches ≡ []) ⊎ (SomePrepared g.set (start + length filled.batches) × (length filled.batches ≤ 2 * c.period))
      ending (inl is) = inl (no_entry (top.number - start) filled.batches filled.long (let z : top.number - start ≡ 0 = omega arith in z))
      ending (inr h) =
          let b = (some_entered top.number g.set voter h).1 in
          let e = long_enough in
          inr (subst (λ (n : ℕ). SomePrepared g.set n) (sym long_enough) h, (let r : length filled.batches ≤ 2 * c.period = omega arith in r))

pub prepared_views_begin : PreparedViewsBegin
prepared_views_begin c setting trace is_run goes unforged p v start root correct own left from enough says has =
    subst (λ (n : ℕ). (n ≤ view c (history_of p trace)) ⊎ AreKeysSpent (history_of p trace)) (made_view c setting trace is_run unforged p v start root correct from enough says has)
    (primaries_begin_views c trace goes p (made c setting trace is_run unforged p v start root correct from enough says has) correct
    (ap (primary c) (made_view c setting trace is_run unforged p v start root correct from enough says has) ∙ own)
    (left ∙ sym (made_view c setting trace is_run unforged p v start root correct from enough says has))
    (made_selected c setting trace is_run unforged p v start root correct from enough says has)
    (made_changes c setting trace is_run unforged p v start root correct from enough says has)
    (made_batches c setting trace is_run unforged p v start root correct from enough says has))
