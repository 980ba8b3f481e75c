-- A right replica's view change says what it had prepared and logged.
use Rattle.std.proofs.Common.{◌≡◌, ℕ, ◌+◌, ◌≤◌, ◌<◌, ◌⊎◌, inl, inr, Bool, true, false, cond, List, [], ◌∷◌, Some, None, refl, sym, ap, ◌∙◌, subst, arith, ◌&&◌, ltb-true}
use Rattle.std.specs.Prelude.{option_and_then, ◌==◌, nat_lt, nat_le, ◌^◌}
use Rattle.std.specs.Option.{option_map_or}
use Rattle.std.proofs.lemmas.Bool.{and_parts, and_from, leb-true, lt-ltb, le-leb, cases_lt}
use Rattle.sha2.specs.Sha256.{sha256}
use Rattle.protocol.specs.System.Configuration.{Configuration, span, is_number}
use Rattle.wire_format.specs.Messages.{BodyData as Body, MessageData as Message, ViewChangeData, BatchEntryData as BatchEntry, commit as Commit, view_change as ViewChange}
use Rattle.wire_format.specs.Words.{said}
use Rattle.protocol.specs.System.Trace.{Entry, Once, Always, Has}
use Rattle.protocol.specs.System.Trace.Entry.{Invoke, Sent}
use Rattle.protocol.specs.Replica.Certificates.{logged, target, is_in_marks, low, Prepared, proposal, taken, assigned_batch, view, entry_proposal, change_from}
use Rattle.protocol.specs.Replica.RightReplica.{Point, HistoryReaches, MaySendMessage, MayViewChange, IsNewViewChange, SendsBytes}
use Rattle.protocol.proofs.Words.Temporal.{once_weaker, once_always, once_order, once_stays, once_stays_from}
use Rattle.protocol.proofs.Words.Options.{or_else_cases, given_once, some_injective}
use Rattle.protocol.proofs.Words.Linking.{Speaks}
use Rattle.protocol.proofs.Agreement.Voting.{RightAt, logged_stays}
use Rattle.protocol.proofs.Agreement.Marks.{low_grows}
use Rattle.protocol.proofs.Agreement.Signed.{changing}
use Rattle.protocol.proofs.Agreement.Commits.{Commits, CommitsAt, committing, prepared_stays}
use Rattle.protocol.proofs.Agreement.Offers.{entry_within}

-- ---- the first time that a view change is sent

pub record NewChangeAt (c : Configuration) (s : ℕ) (vc : ViewChangeData) (past : List Entry) (e : Entry) : Type 0 where
  pub point : Point
  pub leaves : HistoryReaches c s past point
  pub is_new : IsNewViewChange c s past point vc
  pub says : Speaks (changing s vc) past e

again_says : (body : Body) (bytes : List ℕ) → said bytes ≡ Some body → (past : List Entry) (e : Entry) → SendsBytes bytes past e → Speaks body past e
again_says body bytes is past (Sent p sent) h = rw h is
again_says body bytes is past _ h = absurd h

says_change : (c : Configuration) (s : ℕ) (vc : ViewChangeData) (past : List Entry) (e : Entry) → RightAt c s past e → Speaks (changing s vc) past e
    → NewChangeAt c s vc past e ⊎ Once (Speaks (changing s vc)) past
says_change c s vc past (Sent p bytes) r h = go (subst (λ (x : Body). MaySendMessage c s past r.point (Sent p bytes) bytes x.message) (some_injective r.may.body (changing s vc) (sym r.may.says ∙ h)) r.may.allowed)
  where
    go : MayViewChange c s past r.point bytes vc → NewChangeAt c s vc past (Sent p bytes) ⊎ Once (Speaks (changing s vc)) past
    go (inl n) = inl (record { point = r.point; leaves = r.leaves; is_new = n; says = h })
    go (inr n) = inr (once_weaker (SendsBytes bytes) (Speaks (changing s vc)) (again_says (changing s vc) bytes h) past n.2)
says_change c s vc past _ r h = absurd h

pub change_is_new : (c : Configuration) (s : ℕ) (vc : ViewChangeData) (xs : List Entry) → Always (RightAt c s) xs → Once (Speaks (changing s vc)) xs → Once (NewChangeAt c s vc) xs
change_is_new c s vc [] right h = absurd h
change_is_new c s vc (e ∷ past) right (inr h) = inr (change_is_new c s vc past right.1 h)
change_is_new c s vc (e ∷ past) right (inl h) = go (says_change c s vc past e right.0 h) (change_is_new c s vc past right.1)
  where
    go : NewChangeAt c s vc past e ⊎ Once (Speaks (changing s vc)) past → (Once (Speaks (changing s vc)) past → Once (NewChangeAt c s vc) past) → Once (NewChangeAt c s vc) (e ∷ past)
    go (inl n) below = inl n
    go (inr n) below = inr (below n)

-- ---- a commit in a lower view comes before

pub target_grows : (e : Entry) (past : List Entry) → target past ≤ target (e ∷ past)
target_grows e past = omega arith

pub change_target : (s : ℕ) (vc : ViewChangeData) (past : List Entry) (e : Entry) → Speaks (changing s vc) past e → vc.view ≤ target (e ∷ past)
change_target s vc past (Sent p bytes) h =
    let is : option_map_or change_from (said bytes) 0 ≡ vc.view = ap (λ o. option_map_or change_from o 0) h in omega arith
change_target s vc past (Invoke x y z) h = absurd h
change_target s vc past _ h = absurd h

not_both : (s v i : ℕ) (d : List ℕ) (vc : ViewChangeData) (past : List Entry) (e : Entry) → Speaks (committing s v i d) past e → Speaks (changing s vc) past e → ⊥
not_both s v i d vc past (Sent p bytes) h k =
    let is : committing s v i d ≡ changing s vc = some_injective (committing s v i d) (changing s vc) (sym h ∙ k) in
    let m : ◌≡◌ {A = Message} (Commit v i d) (ViewChange vc) = ap (λ (x : Body). x.message) is in cc
not_both s v i d vc past (Invoke x y z) h k = h
not_both s v i d vc past _ h k = h

-- at the view change the batch is prepared
pub record Pledges (c : Configuration) (s v i : ℕ) (d : List ℕ) (vc : ViewChangeData) (past : List Entry) : Type 0 where
  pub batch : List ℕ
  pub prepared : Prepared c s past v i batch
  pub digest_is : sha256 batch ≡ d
  pub point : Point
  pub is_new : IsNewViewChange c s past point vc

record Had (c : Configuration) (s v i : ℕ) (d : List ℕ) (past : List Entry) : Type 0 where
  batch : List ℕ
  prepared : Prepared c s past v i batch
  digest_is : sha256 batch ≡ d

had_stays : (c : Configuration) (s v i : ℕ) (d : List ℕ) (e : Entry) (past : List Entry) → Had c s v i d past → Had c s v i d (e ∷ past)
had_stays c s v i d e past h = record { batch = h.batch; prepared = prepared_stays c s v i h.batch e past h.prepared; digest_is = h.digest_is }

pub pledge : (c : Configuration) (s v i : ℕ) (d : List ℕ) (vc : ViewChangeData) (xs : List Entry) → Once (CommitsAt c s v i d) xs → Once (NewChangeAt c s vc) xs → v < vc.view
    → Once (λ past e. Pledges c s v i d vc past) xs
pledge c s v i d vc xs commits changes above = go (once_order (NewChangeAt c s vc) (CommitsAt c s v i d) xs changes commits)
  where
    had : (past : List Entry) → Once (CommitsAt c s v i d) past → Had c s v i d past
    had past h = once_stays (Had c s v i d) (had_stays c s v i d) past
        (once_weaker (CommitsAt c s v i d) (λ earlier e. Had c s v i d earlier) (λ earlier e t. record { batch = t.0.batch; prepared = t.0.prepared; digest_is = t.0.digest_is }) past h)

    above_target : (past : List Entry) → Once (NewChangeAt c s vc) past → vc.view ≤ target past
    above_target past h = once_stays_from (λ x. vc.view ≤ target x) (λ e x k. let grows = target_grows e x in omega arith) past
        (once_weaker (NewChangeAt c s vc) (λ x e. vc.view ≤ target (e ∷ x)) (λ x e t. change_target s vc x e t.says) past h)

    too_late : (past : List Entry) → Commits c s v i d past → Once (NewChangeAt c s vc) past → ⊥
    too_late past k h =
        let t = above_target past h in
        let low' : target past ≤ v = leb-true (target past) v (and_parts (view c past == v) (nat_le (target past) v) k.active).1 in
        omega arith

    go : Once (λ past e. NewChangeAt c s vc past e × Once (CommitsAt c s v i d) past) xs
        ⊎ (Once (λ past e. CommitsAt c s v i d past e × Once (NewChangeAt c s vc) past) xs ⊎ Once (λ past e. NewChangeAt c s vc past e × CommitsAt c s v i d past e) xs)
        → Once (λ past e. Pledges c s v i d vc past) xs
    go (inl h) = once_weaker (λ past e. NewChangeAt c s vc past e × Once (CommitsAt c s v i d) past) (λ past e. Pledges c s v i d vc past)
        (λ past e t. let k = had past t.1 in record { batch = k.batch; prepared = k.prepared; digest_is = k.digest_is; point = t.0.point; is_new = t.0.is_new }) xs h
    go (inr (inl h)) = once_weaker (λ past e. CommitsAt c s v i d past e × Once (NewChangeAt c s vc) past) (λ past e. Pledges c s v i d vc past)
        (λ past e t. absurd (too_late past t.0.0 t.1)) xs h
    go (inr (inr h)) = once_weaker (λ past e. NewChangeAt c s vc past e × CommitsAt c s v i d past e) (λ past e. Pledges c s v i d vc past)
        (λ past e t. absurd (not_both s v i d vc past e t.1.1 t.0.says)) xs h

-- ---- logged numbers are within the marks, or below them later

marks_within : (c : Configuration) (h i : ℕ) → is_in_marks c h i ≡ true → (i ≤ h + span c) × (i < 2 ^ 48)
marks_within c h i m =
    let a = and_parts (nat_lt h i && nat_le i (h + span c)) (is_number i) m in
    (leb-true i (h + span c) (and_parts (nat_lt h i) (nat_le i (h + span c)) a.0).1, ltb-true i (2 ^ 48) a.1)

proposal_within : (c : Configuration) (me v i : ℕ) (batch : List ℕ) (past : List Entry) (e : Entry) → RightAt c me past e → proposal c me past e v i ≡ Some batch → (i ≤ low c me (e ∷ past) + span c) × (i < 2 ^ 48)
proposal_within c me v i batch past e r h = go (or_else_cases _ _ batch h)
  where
    assigned : (b : Bool) → is_in_marks c (low c me (e ∷ past)) i ≡ b → cond b (option_and_then (assigned_batch v i) (taken c past e)) None ≡ Some batch → (i ≤ low c me (e ∷ past) + span c) × (i < 2 ^ 48)
    assigned true m h = marks_within c (low c me (e ∷ past)) i m
    assigned false m h = absurd cc

    go : (cond (is_in_marks c (low c me (e ∷ past)) i) (option_and_then (assigned_batch v i) (taken c past e)) None ≡ Some batch)
        ⊎ (entry_proposal c me past e v i ≡ Some batch) → (i ≤ low c me (e ∷ past) + span c) × (i < 2 ^ 48)
    go (inl h) = assigned (is_in_marks c (low c me (e ∷ past)) i) refl h
    go (inr h) =
        let a = marks_within c (low c me past) i (entry_within c me v i batch past e r h).1 in
        let grows = low_grows c me e past in
        let high = a.0 in (omega arith, a.1)

pub logged_within : (c : Configuration) (me v i : ℕ) (batch : List ℕ) (xs : List Entry) → Always (RightAt c me) xs → logged c me xs v i ≡ Some batch → (i ≤ low c me xs + span c) × (i < 2 ^ 48)
unfolding logged
logged_within c me v i batch xs right h =
    once_stays_from (λ past. (i ≤ low c me past + span c) × (i < 2 ^ 48)) (λ e past k. let grows = low_grows c me e past in let high = k.0 in (omega arith, k.1)) xs
    (once_weaker (λ past e. RightAt c me past e × (proposal c me past e v i ≡ Some batch) × Always (RightAt c me) past) (λ past e. (i ≤ low c me (e ∷ past) + span c) × (i < 2 ^ 48))
    (λ past e t. proposal_within c me v i batch past e t.0 t.1) xs
    (once_always (RightAt c me) (λ past e. proposal c me past e v i ≡ Some batch) xs right (given_once (λ earlier e. proposal c me earlier e v i) batch xs h)))

-- ---- the contents of the view change, by the whole history

pub record Listed (c : Configuration) (s v i : ℕ) (batch_entry : BatchEntry) (past : List Entry) : Type 0 where
  pub batch : List ℕ
  pub prepared : Prepared c s past batch_entry.view i batch
  pub digest_is : sha256 batch ≡ batch_entry.digest
  pub at_least : v ≤ batch_entry.view

pub record Pledged (c : Configuration) (s v i : ℕ) (vc : ViewChangeData) (past : List Entry) : Type 0 where
  pub has : vc.low < i → Has (λ x. x.number ≡ i) vc.prepared
  pub each : (batch_entry : BatchEntry) → Has (λ x. x ≡ batch_entry) vc.prepared → batch_entry.number ≡ i → Listed c s v i batch_entry past

pledged_stays : (c : Configuration) (s v i : ℕ) (vc : ViewChangeData) (e : Entry) (past : List Entry) → Pledged c s v i vc past → Pledged c s v i vc (e ∷ past)
pledged_stays c s v i vc e past p = record {
  has = p.has;
  each = λ batch_entry h is. let k = p.each batch_entry h is in
      record { batch = k.batch; prepared = prepared_stays c s batch_entry.view i k.batch e past k.prepared; digest_is = k.digest_is; at_least = k.at_least };
}

pledged_at : (c : Configuration) (s v i : ℕ) (d : List ℕ) (vc : ViewChangeData) (past : List Entry) → Always (RightAt c s) past → Pledges c s v i d vc past → Pledged c s v i vc past
pledged_at c s v i d vc past right p = record { has = has; each = each }
  where
    has : vc.low < i → Has (λ x. x.number ≡ i) vc.prepared
    has above =
        let within = logged_within c s v i p.batch past right p.prepared.logged in
        let low_is = p.is_new.low in
        let a : low c s past < i = omega arith in
        p.is_new.prepared.all v i p.batch (and_from (nat_lt (low c s past) i && nat_le i (low c s past + span c)) (is_number i)
        (and_from (nat_lt (low c s past) i) (nat_le i (low c s past + span c)) (lt-ltb (low c s past) i a) (le-leb i (low c s past + span c) within.0)) (lt-ltb i (2 ^ 48) within.1)) p.prepared

    each : (batch_entry : BatchEntry) → Has (λ x. x ≡ batch_entry) vc.prepared → batch_entry.number ≡ i → Listed c s v i batch_entry past
    each batch_entry h is =
        let l = p.is_new.prepared.listed batch_entry h in
        let prepared : Prepared c s past batch_entry.view i l.0.0 = subst (λ (x : ℕ). Prepared c s past batch_entry.view x l.0.0) is l.0.1 in
        record { batch = l.0.0; prepared = prepared; digest_is = l.0.2; at_least = go (cases_lt batch_entry.view v) l.2 }
      where
        go : (batch_entry.view < v) ⊎ (v ≤ batch_entry.view) → ((v' : ℕ) (batch : List ℕ) → batch_entry.view < v' → Prepared c s past v' batch_entry.number batch → ⊥) → v ≤ batch_entry.view
        go (inl lt) none = absurd (none v p.batch lt (subst (λ (x : ℕ). Prepared c s past v x p.batch) (sym is) p.prepared))
        go (inr le) none = le

pub pledged : (c : Configuration) (s v i : ℕ) (d : List ℕ) (vc : ViewChangeData) (xs : List Entry) → Always (RightAt c s) xs → Once (CommitsAt c s v i d) xs → Once (Speaks (changing s vc)) xs → v < vc.view
    → Pledged c s v i vc xs
pledged c s v i d vc xs right commits says above =
    once_stays (Pledged c s v i vc) (pledged_stays c s v i vc) xs
    (once_weaker (λ past e. RightAt c s past e × Pledges c s v i d vc past × Always (RightAt c s) past) (λ past e. Pledged c s v i vc past)
    (λ past e t. pledged_at c s v i d vc past t.2 t.1) xs
    (once_always (RightAt c s) (λ past e. Pledges c s v i d vc past) xs right
    (pledge c s v i d vc xs commits (change_is_new c s vc xs right says) above)))

pub record Proposed (c : Configuration) (s : ℕ) (batch_entry : BatchEntry) (past : List Entry) : Type 0 where
  pub batch : List ℕ
  pub is_logged : logged c s past batch_entry.view batch_entry.number ≡ Some batch
  pub digest_is : sha256 batch ≡ batch_entry.digest

pub proposed : (c : Configuration) (s : ℕ) (vc : ViewChangeData) (xs : List Entry) → Always (RightAt c s) xs → Once (Speaks (changing s vc)) xs
    → (batch_entry : BatchEntry) → Has (λ x. x ≡ batch_entry) vc.pre_prepared → Proposed c s batch_entry xs
proposed c s vc xs right says batch_entry h =
    once_stays (Proposed c s batch_entry) (λ e past p. record { batch = p.batch; is_logged = logged_stays c s batch_entry.view batch_entry.number p.batch e past p.is_logged; digest_is = p.digest_is }) xs
    (once_weaker (NewChangeAt c s vc) (λ past e. Proposed c s batch_entry past)
    (λ past e t. let l = t.is_new.proposed.listed batch_entry h in record { batch = l.0.0; is_logged = l.0.1; digest_is = l.0.2 }) xs
    (change_is_new c s vc xs right says))
