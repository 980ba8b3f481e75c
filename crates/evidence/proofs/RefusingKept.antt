-- The definitions refuse parts and checkpoints of states that are not kept.
use Rattle.std.proofs.Common.{◌≡◌, ◌%◌, ℕ, zero, suc, ◌≤◌, ◌<◌, ◌⊎◌, inl, inr, Bool, true, false, cond, filter, map, List, [], ◌∷◌, slice_get, refl, sym, ap, ◌∙◌, subst, arith, Some, eqb-true, eq-eqb}
use Rattle.std.specs.Prelude.{◌==◌, nat_le, reverse, ⊤}
use mathlib.Core.List.{reverse_aux}
use Rattle.std.proofs.lemmas.Bool.{leb-true, le-leb}
use Rattle.protocol.specs.System.Configuration.{Configuration}
use Rattle.wire_format.specs.Messages.{ViewChangeData, CheckpointEntryData as CheckpointEntry, meta as Meta, page as Page}
use Rattle.protocol.specs.System.Trace.{Entry, Has}
use Rattle.protocol.specs.System.Trace.Entry.{Invoke, Got, Tick, Executed, Installed, Sent, Accepted}
use Rattle.protocol.specs.Replica.Certificates.{low}
use Rattle.protocol.specs.Replica.State.{State, opening, execute, page_text}
use Rattle.protocol.specs.Replica.RightReplica.{MayMeta, MayPage, IsNewViewChange, kept_states, checkpoint_of, digests_at, Point, HistoryReaches, May, MovesPoint, Executes}
use Rattle.evidence.specs.RefusedChanges.{SendsNewChange}
use Rattle.evidence.specs.RefusedKept.{SendsNoLowDigests, SendsNoLowPages, InstallsStateOf, HasSnapshot, ChangesFromLowMark, ListsNoneBelow, ListsSnapshots, ListsEachSnapshot, CheckpointsAscend}
use Rattle.evidence.proofs.RefusingChanges.{new_change}
use Rattle.evidence.proofs.RefusingRuns.{says_may}
use Rattle.protocol.proofs.Words.Elements.{has_some, each_filtered, each_has, each_mapped, each_turned, each_weaker, has_filtered, has_mapped}
use Rattle.wire_format.specs.Lists.{Each}
use Rattle.protocol.proofs.Words.Leaving.{executed_number}

-- ---- lists

has_turned : {A : Type 0} (P : A → Type 0) (xs ys : List A) → Has P xs ⊎ Has P ys → Has P (reverse_aux xs ys)
has_turned P [] ys (inl h) = absurd h
has_turned P [] ys (inr h) = h
has_turned P (x ∷ xs) ys (inl (inl h)) = has_turned P xs (x ∷ ys) (inr (inl h))
has_turned P (x ∷ xs) ys (inl (inr h)) = has_turned P xs (x ∷ ys) (inl h)
has_turned P (x ∷ xs) ys (inr h) = has_turned P xs (x ∷ ys) (inr (inr h))

-- ---- which states there are

later : (c : Configuration) (k : ℕ) (e : Entry) (past : List Entry) → HasSnapshot c k past → HasSnapshot c k (e ∷ past)
later c k e past (inl h) = inl h
later c k e past (inr (inl h)) = inr (inl (h.0, inr h.1))
later c k e past (inr (inr h)) = inr (inr (inr h))

earlier : (c : Configuration) (k : ℕ) (e : Entry) (past : List Entry) → (Executes k past e → ⊥) → (InstallsStateOf k past e → ⊥) → HasSnapshot c k (e ∷ past) → HasSnapshot c k past
earlier c k e past x y (inl h) = inl h
earlier c k e past x y (inr (inl (m, inl h))) = absurd (x h)
earlier c k e past x y (inr (inl (m, inr h))) = inr (inl (m, h))
earlier c k e past x y (inr (inr (inl h))) = absurd (y h)
earlier c k e past x y (inr (inr (inr h))) = inr (inr h)

each_snapshot : (c : Configuration) (me : ℕ) (xs : List Entry) (point : Point) → HistoryReaches c me xs point → Each (λ (st : State). HasSnapshot c st.number xs) point.snapshots
each_snapshot c me [] point h = subst (λ (p : Point). Each (λ (st : State). HasSnapshot c st.number []) p.snapshots) (sym h) (inl refl, tt)
each_snapshot c me (e ∷ past) point h =
    go e h.2.may h.2.moves (each_weaker (λ (st : State). HasSnapshot c st.number past) (λ (st : State). HasSnapshot c st.number (e ∷ past)) (λ st k. later c st.number e past k) h.0.snapshots (each_snapshot c me past h.0 h.1))
  where
    kept : (e : Entry) (ss : List State) → point.snapshots ≡ ss → Each (λ (st : State). HasSnapshot c st.number (e ∷ past)) ss → Each (λ (st : State). HasSnapshot c st.number (e ∷ past)) point.snapshots
    kept e ss is each = subst (λ (xs : List State). Each (λ (st : State). HasSnapshot c st.number (e ∷ past)) xs) (sym is) each

    go : (e : Entry) → May c me past h.0 e → MovesPoint c me past h.0 e point → Each (λ (st : State). HasSnapshot c st.number (e ∷ past)) h.0.snapshots → Each (λ (st : State). HasSnapshot c st.number (e ∷ past)) point.snapshots
    go (Got p bytes) may move was = kept (Got p bytes) h.0.snapshots (ap (λ (q : Point). q.snapshots) move) was
    go (Tick p) may move was = kept (Tick p) h.0.snapshots (ap (λ (q : Point). q.snapshots) move) was
    go (Sent p bytes) may move was = kept (Sent p bytes) h.0.snapshots (ap (λ (q : Point). q.snapshots) move) was
    go (Invoke x y z) may move was = absurd may
    go (Accepted x y z) may move was = absurd may
    go (Installed p k root) may move was = kept (Installed p k root) (point.state ∷ h.0.snapshots) move.snapshots (inr (inr (inl (sym move.number))), was)
    go (Executed p k batch) may move was =
        kept (Executed p k batch) (cond (new.number % c.period == 0) (new ∷ h.0.snapshots) h.0.snapshots) (ap (λ (q : Point). q.snapshots) move) (by (new.number % c.period == 0) refl)
      where
        new : State
        new = execute c h.0.state batch

        by : (b : Bool) → (new.number % c.period == 0) ≡ b → Each (λ (st : State). HasSnapshot c st.number (Executed p k batch ∷ past)) (cond b (new ∷ h.0.snapshots) h.0.snapshots)
        by true multiple = (inr (inl (eqb-true (new.number % c.period) 0 multiple, inl (may.next ∙ sym (executed_number c h.0.state batch)))), was)
        by false multiple = was

has_snapshot : (c : Configuration) (me k : ℕ) (xs : List Entry) (point : Point) → HistoryReaches c me xs point → HasSnapshot c k xs → Has (λ (st : State). st.number ≡ k) point.snapshots
has_snapshot c me k [] point h is = subst (λ (p : Point). Has (λ (st : State). st.number ≡ k) p.snapshots) (sym h) (first is)
  where
    first : HasSnapshot c k [] → (opening.number ≡ k) ⊎ ⊥
    first (inl z) = inl (sym z)
    first (inr (inl x)) = absurd x.1
    first (inr (inr x)) = absurd x
has_snapshot c me k (e ∷ past) point h is = go e h.2.may h.2.moves is (has_snapshot c me k past h.0 h.1)
  where
    kept : (ss : List State) → point.snapshots ≡ ss → Has (λ (st : State). st.number ≡ k) ss → Has (λ (st : State). st.number ≡ k) point.snapshots
    kept ss is has = subst (λ (xs : List State). Has (λ (st : State). st.number ≡ k) xs) (sym is) has

    go : (e : Entry) → May c me past h.0 e → MovesPoint c me past h.0 e point → HasSnapshot c k (e ∷ past) → (HasSnapshot c k past → Has (λ (st : State). st.number ≡ k) h.0.snapshots)
        → Has (λ (st : State). st.number ≡ k) point.snapshots
    go (Got p bytes) may move is was = kept h.0.snapshots (ap (λ (q : Point). q.snapshots) move) (was (earlier c k (Got p bytes) past (λ x. x) (λ x. x) is))
    go (Tick p) may move is was = kept h.0.snapshots (ap (λ (q : Point). q.snapshots) move) (was (earlier c k (Tick p) past (λ x. x) (λ x. x) is))
    go (Sent p bytes) may move is was = kept h.0.snapshots (ap (λ (q : Point). q.snapshots) move) (was (earlier c k (Sent p bytes) past (λ x. x) (λ x. x) is))
    go (Invoke x y z) may move is was = absurd may
    go (Accepted x y z) may move is was = absurd may
    go (Installed p n root) may move is was = kept (point.state ∷ h.0.snapshots) move.snapshots (by is)
      where
        by : HasSnapshot c k (Installed p n root ∷ past) → (point.state.number ≡ k) ⊎ Has (λ (st : State). st.number ≡ k) h.0.snapshots
        by (inl z) = inr (was (inl z))
        by (inr (inl (m, inl x))) = absurd x
        by (inr (inl (m, inr x))) = inr (was (inr (inl (m, x))))
        by (inr (inr (inl x))) = inl (move.number ∙ x)
        by (inr (inr (inr x))) = inr (was (inr (inr x)))
    go (Executed p n batch) may move is was =
        kept (cond (new.number % c.period == 0) (new ∷ h.0.snapshots) h.0.snapshots) (ap (λ (q : Point). q.snapshots) move) (by is)
      where
        new : State
        new = execute c h.0.state batch

        old : (b : Bool) → Has (λ (st : State). st.number ≡ k) h.0.snapshots → Has (λ (st : State). st.number ≡ k) (cond b (new ∷ h.0.snapshots) h.0.snapshots)
        old true has = inr has
        old false has = has

        here : (b : Bool) → b ≡ true → new.number ≡ k → Has (λ (st : State). st.number ≡ k) (cond b (new ∷ h.0.snapshots) h.0.snapshots)
        here true t same = inl same
        here false t same = absurd cc

        by : HasSnapshot c k (Executed p n batch ∷ past) → Has (λ (st : State). st.number ≡ k) (cond (new.number % c.period == 0) (new ∷ h.0.snapshots) h.0.snapshots)
        by (inl z) = old (new.number % c.period == 0) (was (inl z))
        by (inr (inl (m, inl x))) =
            let same : new.number ≡ k = executed_number c h.0.state batch ∙ sym may.next ∙ x in
            here (new.number % c.period == 0) (eq-eqb (new.number % c.period) 0 (ap (λ (i : ℕ). i % c.period) same ∙ m)) same
        by (inr (inl (m, inr x))) = old (new.number % c.period == 0) (was (inr (inl (m, x))))
        by (inr (inr (inl x))) = absurd x
        by (inr (inr (inr x))) = old (new.number % c.period == 0) (was (inr (inr x)))

-- ---- their order

-- each is below the number, and below the one before it
abbrev Falls : ℕ → List State → Type 0
Falls n [] = ⊤
Falls n (st ∷ xs) = (st.number < n) × Falls st.number xs

falls_below : (n m : ℕ) (xs : List State) → n ≤ m → Falls n xs → Falls m xs
falls_below n m [] l h = tt
falls_below n m (x ∷ xs) l h = let a = h.0 in (omega arith, h.1)

falls_filtered : (test : State → Bool) (n : ℕ) (xs : List State) → Falls n xs → Falls n (filter test xs)
falls_filtered test n [] h = tt
falls_filtered test n (x ∷ xs) h = go (test x) (falls_filtered test x.number xs h.1)
  where
    go : (b : Bool) → Falls x.number (filter test xs) → Falls n (cond b (x ∷ filter test xs) (filter test xs))
    go true below = (h.0, below)
    go false below = let a = h.0 in let l : x.number ≤ n = omega arith in falls_below x.number n (filter test xs) l below

snapshots_fall : (c : Configuration) (me : ℕ) (xs : List Entry) (point : Point) → HistoryReaches c me xs point → Falls (suc point.state.number) point.snapshots
snapshots_fall c me [] point h = subst (λ (p : Point). Falls (suc p.state.number) p.snapshots) (sym h) (omega arith, tt)
snapshots_fall c me (e ∷ past) point h = go e h.2.may h.2.moves (snapshots_fall c me past h.0 h.1)
  where
    go : (e : Entry) → May c me past h.0 e → MovesPoint c me past h.0 e point → Falls (suc h.0.state.number) h.0.snapshots → Falls (suc point.state.number) point.snapshots
    go (Invoke x y z) may move was = absurd may
    go (Accepted x y z) may move was = absurd may
    go (Installed p k root) may move was =
        let above = may.0 in
        let is = move.number in
        let l : suc h.0.state.number ≤ point.state.number = omega arith in
        subst (λ (ss : List State). Falls (suc point.state.number) ss) (sym move.snapshots) (omega arith, falls_below (suc h.0.state.number) point.state.number h.0.snapshots l was)
    go (Executed p k batch) may move was = subst (λ (q : Point). Falls (suc q.state.number) q.snapshots) (sym move) (by (new.number % c.period == 0))
      where
        new : State
        new = execute c h.0.state batch

        by : (b : Bool) → Falls (suc new.number) (cond b (new ∷ h.0.snapshots) h.0.snapshots)
        by true = let is = executed_number c h.0.state batch in let l : suc h.0.state.number ≤ new.number = omega arith in (omega arith, falls_below (suc h.0.state.number) new.number h.0.snapshots l was)
        by false = let is = executed_number c h.0.state batch in let l : suc h.0.state.number ≤ suc new.number = omega arith in falls_below (suc h.0.state.number) (suc new.number) h.0.snapshots l was
    go _ may move was = subst (λ (q : Point). Falls (suc q.state.number) q.snapshots) (sym move) was

-- each is at or above the number, and above the one before it
abbrev Rises : ℕ → List CheckpointEntry → Type 0
Rises n [] = ⊤
Rises n (checkpoint ∷ checkpoints) = (n ≤ checkpoint.number) × Rises (suc checkpoint.number) checkpoints

rises_above : (n m : ℕ) (checkpoints : List CheckpointEntry) → m ≤ n → Rises n checkpoints → Rises m checkpoints
rises_above n m [] l h = tt
rises_above n m (x ∷ xs) l h = let a = h.0 in (omega arith, h.1)

turned : (n : ℕ) (xs ys : List State) → Falls n xs → Rises n (map checkpoint_of ys) → Rises 0 (map checkpoint_of (reverse_aux xs ys))
turned n [] ys h r = let l : 0 ≤ n = omega arith in rises_above n 0 (map checkpoint_of ys) l r
turned n (x ∷ xs) ys h r = let a = h.0 in let l : suc x.number ≤ n = omega arith in turned x.number xs (x ∷ ys) h.1 (omega arith, rises_above n (suc x.number) (map checkpoint_of ys) l r)

above : (n i : ℕ) (checkpoints : List CheckpointEntry) (a : CheckpointEntry) → Rises n checkpoints → slice_get checkpoints i ≡ Some a → n ≤ a.number
above n i [] a r get = absurd cc
above n zero (x ∷ xs) a r get = let same : x ≡ a = cc in subst (λ (y : CheckpointEntry). n ≤ y.number) same r.0
above n (suc i) (x ∷ xs) a r get = let l = r.0 in let m = above (suc x.number) i xs a r.1 get in omega arith

ordered : (n i j : ℕ) (checkpoints : List CheckpointEntry) (a b : CheckpointEntry) → Rises n checkpoints → i < j → slice_get checkpoints i ≡ Some a → slice_get checkpoints j ≡ Some b → a.number < b.number
ordered n i j [] a b r less first second = absurd cc
ordered n i zero (x ∷ xs) a b r less first second = absurd (omega arith)
ordered n zero (suc j) (x ∷ xs) a b r less first second =
    let same : x ≡ a = cc in
    subst (λ (y : CheckpointEntry). y.number < b.number) same (above (suc x.number) j xs b r.1 second)
ordered n (suc i) (suc j) (x ∷ xs) a b r less first second = let l : i < j = omega arith in ordered (suc x.number) i j xs a b r.1 l first second

-- ---- parts of states

-- Each kept state is at or above the low mark. A property of all snapshots also holds of each kept state.
kept_above : (P : State → Type 0) (low_mark : ℕ) (snapshots : List State) → Each P snapshots → Each (λ (st : State). (low_mark ≤ st.number) × P st) (kept_states low_mark snapshots)
kept_above P low_mark snapshots e = each_filtered P (λ (st : State). (low_mark ≤ st.number) × P st) (λ (st : State). nat_le low_mark st.number) (λ st t p. (leb-true low_mark st.number t, p)) snapshots e

each_any : (xs : List State) → Each (λ (st : State). ⊤) xs
each_any [] = tt
each_any (x ∷ xs) = (tt, each_any xs)

at_or_above : (low_mark k : ℕ) (P : State → Type 0) (snapshots : List State) → Has (λ (st : State). (st.number ≡ k) × P st) (kept_states low_mark snapshots) → low_mark ≤ k
at_or_above low_mark k P snapshots h =
    let x = has_some (λ (st : State). (st.number ≡ k) × P st) (kept_states low_mark snapshots) h in
    let high = each_has (λ (st : State). (low_mark ≤ st.number) × ⊤) (kept_states low_mark snapshots) x.0 (kept_above (λ (st : State). ⊤) low_mark snapshots (each_any snapshots)) x.1 in
    subst (λ (n : ℕ). low_mark ≤ n) x.2.0 high.0

pub gives_no_low_digests : SendsNoLowDigests
gives_no_low_digests c me k index level digests bytes past says right =
    let m : MayMeta c me past right.1.0 k level index digests = says_may c me bytes (record { sender = me; message = Meta k level index digests }) past right says in
    at_or_above (low c me past) k (λ st. digests ≡ digests_at st level index) right.1.0.snapshots m.0

pub gives_no_low_pages : SendsNoLowPages
gives_no_low_pages c me k index text bytes past says right =
    let m : MayPage c me past right.1.0 k index text = says_may c me bytes (record { sender = me; message = Page k index text }) past right says in
    at_or_above (low c me past) k (λ st. text ≡ page_text st index) right.1.0.snapshots m.0

-- ---- the checkpoints of a new view change

pub changes_from_low_mark : ChangesFromLowMark
changes_from_low_mark c me vc bytes past sends = let change = new_change c me vc bytes past sends in change.low

-- each checkpoint that a view change lists is at or above its low mark and has a snapshot
listed : (c : Configuration) (me : ℕ) (vc : ViewChangeData) (bytes : List ℕ) (past : List Entry) (sends : SendsNewChange c me vc bytes past) (checkpoint : CheckpointEntry) → Has (λ x. x ≡ checkpoint) vc.checkpoints
    → (vc.low ≤ checkpoint.number) × HasSnapshot c checkpoint.number past
listed c me vc bytes past sends checkpoint has =
    each_has P vc.checkpoints checkpoint
    (subst (λ (checkpoints : List CheckpointEntry). Each P checkpoints) (sym (new_change c me vc bytes past sends).checkpoints)
    (each_mapped P checkpoint_of (reverse (kept_states vc.low point.snapshots))
    (each_turned Q (kept_states vc.low point.snapshots) [] (kept_above (λ (st : State). HasSnapshot c st.number past) vc.low point.snapshots (each_snapshot c me past point sends.is_safe.1.1)) tt))) has
  where
    point : Point
    point = sends.is_safe.1.0

    P : CheckpointEntry → Type 0
    P x = (vc.low ≤ x.number) × HasSnapshot c x.number past

    Q : State → Type 0
    Q st = (vc.low ≤ st.number) × HasSnapshot c st.number past

pub lists_none_below : ListsNoneBelow
lists_none_below c me vc checkpoint bytes past sends has =
    subst (λ (h : ℕ). h ≤ checkpoint.number) (new_change c me vc bytes past sends).low (listed c me vc bytes past sends checkpoint has).0

pub lists_snapshots : ListsSnapshots
lists_snapshots c me vc checkpoint bytes past sends has = (listed c me vc bytes past sends checkpoint has).1

pub lists_each_snapshot : ListsEachSnapshot
lists_each_snapshot c me k vc bytes past sends is high =
    subst (λ (checkpoints : List CheckpointEntry). Has (λ (checkpoint : CheckpointEntry). checkpoint.number ≡ k) checkpoints) (sym change.checkpoints)
    (has_mapped (λ (checkpoint : CheckpointEntry). checkpoint.number ≡ k) checkpoint_of (reverse (kept_states vc.low point.snapshots))
    (has_turned (λ (st : State). st.number ≡ k) (kept_states vc.low point.snapshots) []
    (inl (has_filtered (λ (st : State). st.number ≡ k) (λ (st : State). nat_le vc.low st.number) passes point.snapshots (has_snapshot c me k past point sends.is_safe.1.1 is)))))
  where
    point : Point
    point = sends.is_safe.1.0

    change : IsNewViewChange c me past point vc
    change = new_change c me vc bytes past sends

    passes : (st : State) → st.number ≡ k → nat_le vc.low st.number ≡ true
    passes st same = let is_low = change.low in let l : vc.low ≤ st.number = omega arith in le-leb vc.low st.number l

pub checkpoints_ascend : CheckpointsAscend
checkpoints_ascend c me i j vc a b bytes past sends less first second = ordered 0 i j vc.checkpoints a b rising less first second
  where
    point : Point
    point = sends.is_safe.1.0

    change : IsNewViewChange c me past point vc
    change = new_change c me vc bytes past sends

    rising : Rises 0 vc.checkpoints
    rising =
        subst (λ (checkpoints : List CheckpointEntry). Rises 0 checkpoints) (sym change.checkpoints)
        (turned (suc point.state.number) (kept_states vc.low point.snapshots) [] (falls_filtered (λ (st : State). nat_le vc.low st.number) (suc point.state.number) point.snapshots (snapshots_fall c me past point sends.is_safe.1.1)) tt)
