-- Each state of a correct replica is the state of the executed batches.
use Rattle.std.proofs.Common.{◌≡◌, ℕ, zero, suc, ◌+◌, ◌*◌, ◌%◌, ◌^◌, ◌≤◌, ◌<◌, ◌⊎◌, inl, inr, Bool, true, false, cond, List, [], ◌∷◌, ◌++◌, length, take, map, reverse, refl, sym, ap, ◌∙◌, subst, arith, ◌&&◌, ◌||◌, Option, Some, None, eqb-true, bytes_eq, append_assoc, not}
use Rattle.std.specs.Prelude.{◌==◌, nat_lt, nat_le}
use Rattle.std.proofs.lemmas.Bool.{and_parts, and_from, or_cases, leb-true, lt-ltb, not_from_false}
use Rattle.std.proofs.lemmas.Slice.Eq.{bytes_eq-Decides}
use Rattle.quorum.proofs.Counting.{some_more, count_members}
use Rattle.quorum.specs.Quorum.{count_below}
use Rattle.protocol.specs.System.Configuration.{Configuration, IsConfiguration, is_replica, is_faulty_replica, is_correct_replica, is_number}
use Rattle.wire_format.specs.Messages.{BodyData as Body, MessageData as Message, CheckpointEntryData as CheckpointEntry, NewViewData, ViewChangeData, checkpoint as Checkpoint, page as Page}
use Rattle.protocol.specs.System.Trace.{Entry, party_of, history_of, Once, Always, Unforged, IsUnforgedAt, Has}
use Rattle.protocol.specs.System.Trace.Entry.{Invoke, Got, Tick, Executed, Installed, Sent, Accepted}
use Rattle.protocol.specs.Replica.Certificates.{checkpoint_from, checkpoint_in, insert_checkpoint, with_checkpoint, checkpoints_of, lists_checkpoint, count_checkpoints, brought}
use Rattle.protocol.specs.Replica.Selection.{is_quorum, changes_of, passes_by, count_in, may_select}
use Rattle.std.specs.List.{list_any}
use Rattle.protocol.specs.Replica.State.{State, IsReplicatedState, opening, execute, after_batches, page_text, root_of}
use Rattle.protocol.specs.Replica.Transfers.{in_place}
use Rattle.protocol.specs.Replica.RightReplica.{Point, first_point, HistoryReaches, SafeReplica, May, MaySendMessage, MayCheckpoint, MayInstall, MovesPoint, GetsPage, StartsAt, kept_states, checkpoint_of, waiting_after, HadQuorum, executed_point}
use Rattle.protocol.specs.System.Texts.{NoCollision, IsText, IsUnder, InstallsOver, EntryHasPart, AreFirstBatches}
use Rattle.protocol.specs.System.Texts.IsText.{part, page_of, under, installed}
use Rattle.protocol.specs.Space.Linear.{reached}
use Rattle.protocol.specs.Laws.Histories.{AreReplicasSafe, ExecutesBatch, AreExecuted, TakesOrSendsNewView, IsRootOf, IsStateOf, Installs, Had}
use Rattle.protocol.proofs.Words.Temporal.{once_weaker, once_always, once_stays, once_in_trace}
use Rattle.protocol.proofs.Words.Options.{and_then_some, then_some_gives, some_injective}
use Rattle.protocol.proofs.Words.Linking.{Speaks, heard_said}
use Rattle.protocol.proofs.Agreement.Voting.{RightAt, right_always, once_right, Brings, brought_was_said}
use Rattle.protocol.proofs.Agreement.Signed.{changing, change_was_said}
use Rattle.protocol.proofs.Words.Lists.{passes_change}
use Rattle.protocol.proofs.Agreement.Marks.{takes, selected_in}
use Rattle.protocol.proofs.Agreement.Staying.{selected}
use Rattle.protocol.proofs.Agreement.Agreeing.{once_some}
use Rattle.protocol.proofs.Words.Roots.{same_pages}
use Rattle.protocol.proofs.Words.Paging.{pages_determine}
use Rattle.protocol.proofs.Words.Leaving.{batches_leave_states}
use Rattle.protocol.proofs.Words.Taking.{is_own_or_got, under_same}
use Rattle.protocol.proofs.Points.Levels.{reached_history, number_reached}
use Rattle.protocol.proofs.Agreement.Executing.{executor, executed_committed}
use Rattle.protocol.proofs.Agreement.Firsts.{executed_first}
use Rattle.protocol.proofs.Agreement.Changes.{NewChangeAt, change_is_new, logged_within}
use Rattle.protocol.proofs.Words.Elements.{has_some, some_of_has, has_filter, has_map, has_reverse}

-- ---- states of executed batches

pub number_after : (c : Configuration) (st : State) (batches : List (List ℕ)) → (after_batches c st batches).number ≡ st.number + length batches
unfolding execute
number_after c st [] = omega arith
number_after c st (batch ∷ batches) = let r = number_after c (execute c st batch) batches in omega arith

after_batches-append : (c : Configuration) (st : State) (batches : List (List ℕ)) (batch : List ℕ) → after_batches c st (batches ++ batch ∷ []) ≡ execute c (after_batches c st batches) batch
after_batches-append c st [] batch = refl
after_batches-append c st (x ∷ batches) batch = after_batches-append c (execute c st x) batches batch

executed_append : (c : Configuration) (trace : List Entry) (first : ℕ) (batches : List (List ℕ)) (batch : List ℕ) (k : ℕ) → k ≡ first + length batches
    → AreExecuted c trace first batches → Once (ExecutesBatch c k batch) trace → AreExecuted c trace first (batches ++ batch ∷ [])
executed_append c trace first [] batch k is a h =
    let e : k ≡ first = omega arith in (subst (λ (x : ℕ). Once (ExecutesBatch c x batch) trace) e h, tt)
executed_append c trace first (x ∷ batches) batch k is a h =
    let e : k ≡ first + 1 + length batches = omega arith in (a.0, executed_append c trace (first + 1) batches batch k e a.1 h)

-- ---- the sender of a checkpoint

abbrev pub checking : ℕ → ℕ → List ℕ → Body
checking s k root = record { sender = s; message = Checkpoint k root }

pub has_take : (checkpoint : CheckpointEntry) (n : ℕ) (checkpoints : List CheckpointEntry) → lists_checkpoint checkpoint (take n checkpoints) ≡ true → lists_checkpoint checkpoint checkpoints ≡ true
has_take checkpoint zero [] h = h
has_take checkpoint zero (m ∷ checkpoints) h = absurd cc
has_take checkpoint (suc n) [] h = h
has_take checkpoint (suc n) (m ∷ checkpoints) h = go ((m.number == checkpoint.number) && bytes_eq m.digest checkpoint.digest) h (has_take checkpoint n checkpoints)
  where
    go : (b : Bool) → (b || lists_checkpoint checkpoint (take n checkpoints)) ≡ true → (lists_checkpoint checkpoint (take n checkpoints) ≡ true → lists_checkpoint checkpoint checkpoints ≡ true) → (b || lists_checkpoint checkpoint checkpoints) ≡ true
    go true k below = refl
    go false k below = below k

abbrev pub is_checkpoint : CheckpointEntry → CheckpointEntry → Bool
is_checkpoint checkpoint m = (m.number == checkpoint.number) && bytes_eq m.digest checkpoint.digest

pub has_insert : (checkpoint new : CheckpointEntry) (checkpoints : List CheckpointEntry) → lists_checkpoint checkpoint (insert_checkpoint new checkpoints) ≡ true → (is_checkpoint checkpoint new ≡ true) ⊎ (lists_checkpoint checkpoint checkpoints ≡ true)
has_insert checkpoint new [] h = go (is_checkpoint checkpoint new) h
  where
    go : (b : Bool) → (b || false) ≡ true → (b ≡ true) ⊎ (false ≡ true)
    go true k = inl refl
    go false k = inr k
has_insert checkpoint new (m ∷ checkpoints) h = go (m.number == new.number) (nat_lt m.number new.number) h (has_insert checkpoint new checkpoints)
  where
    keep : (x : Bool) → (x || lists_checkpoint checkpoint (insert_checkpoint new checkpoints)) ≡ true → (lists_checkpoint checkpoint (insert_checkpoint new checkpoints) ≡ true → (is_checkpoint checkpoint new ≡ true) ⊎ (lists_checkpoint checkpoint checkpoints ≡ true))
        → (is_checkpoint checkpoint new ≡ true) ⊎ ((x || lists_checkpoint checkpoint checkpoints) ≡ true)
    keep true k below = inr refl
    keep false k below = below k

    go : (a b : Bool) → lists_checkpoint checkpoint (cond a (m ∷ checkpoints) (cond b (new ∷ m ∷ checkpoints) (m ∷ insert_checkpoint new checkpoints))) ≡ true
        → (lists_checkpoint checkpoint (insert_checkpoint new checkpoints) ≡ true → (is_checkpoint checkpoint new ≡ true) ⊎ (lists_checkpoint checkpoint checkpoints ≡ true))
        → (is_checkpoint checkpoint new ≡ true) ⊎ (lists_checkpoint checkpoint (m ∷ checkpoints) ≡ true)
    go true b k below = inr k
    go false true k below = or_cases (is_checkpoint checkpoint new) (lists_checkpoint checkpoint (m ∷ checkpoints)) k
    go false false k below = keep (is_checkpoint checkpoint m) k below

checkpoints_source : (c : Configuration) (s : ℕ) (checkpoint : CheckpointEntry) (xs : List Entry) → lists_checkpoint checkpoint (checkpoints_of c xs s) ≡ true
    → Once (λ past e. (m : CheckpointEntry) × (checkpoint_in c e ≡ Some (s, m)) × (is_checkpoint checkpoint m ≡ true)) xs
unfolding checkpoints_of
checkpoints_source c s checkpoint [] h = absurd cc
checkpoints_source c s checkpoint (e ∷ past) h = go (checkpoint_in c e) refl h (checkpoints_source c s checkpoint past)
  where
    go : (o : Option (ℕ × CheckpointEntry)) → checkpoint_in c e ≡ o → lists_checkpoint checkpoint (with_checkpoint s o (checkpoints_of c past s)) ≡ true
        → (lists_checkpoint checkpoint (checkpoints_of c past s) ≡ true → Once (λ past e. (m : CheckpointEntry) × (checkpoint_in c e ≡ Some (s, m)) × (is_checkpoint checkpoint m ≡ true)) past)
        → Once (λ past e. (m : CheckpointEntry) × (checkpoint_in c e ≡ Some (s, m)) × (is_checkpoint checkpoint m ≡ true)) (e ∷ past)
    go None is k below = inr (below k)
    go (Some x) is k below = from (x.0 == s) refl k
      where
        here : x.0 ≡ s → checkpoint_in c e ≡ Some (s, x.1)
        here own = is ∙ ap (λ (t : ℕ). Some (let p : ℕ × CheckpointEntry = (t, x.1) in p)) own

        pick : x.0 ≡ s → (is_checkpoint checkpoint x.1 ≡ true) ⊎ (lists_checkpoint checkpoint (checkpoints_of c past s) ≡ true) → Once (λ past e. (m : CheckpointEntry) × (checkpoint_in c e ≡ Some (s, m)) × (is_checkpoint checkpoint m ≡ true)) (e ∷ past)
        pick own (inl y) = inl (x.1, here own, y)
        pick own (inr y) = inr (below y)

        from : (b : Bool) → (x.0 == s) ≡ b → lists_checkpoint checkpoint (cond b (take 3 (insert_checkpoint x.1 (checkpoints_of c past s))) (checkpoints_of c past s)) ≡ true
            → Once (λ past e. (m : CheckpointEntry) × (checkpoint_in c e ≡ Some (s, m)) × (is_checkpoint checkpoint m ≡ true)) (e ∷ past)
        from true own k = pick (eqb-true x.0 s own) (has_insert checkpoint x.1 (checkpoints_of c past s) (has_take checkpoint 3 (insert_checkpoint x.1 (checkpoints_of c past s)) k))
        from false own k = inr (below k)

checkpoint_body : (s : ℕ) (checkpoint m : CheckpointEntry) (sender : ℕ) (message : Message) → checkpoint_from (record { sender = sender; message = message }) ≡ Some (s, m) → is_checkpoint checkpoint m ≡ true
    → ◌≡◌ {A = Body} (record { sender = sender; message = message }) (checking s checkpoint.number checkpoint.digest)
checkpoint_body s checkpoint m sender (Checkpoint number root) h k =
    let x : ℕ × CheckpointEntry = (sender, record { number = number; digest = root }) in
    let y : ℕ × CheckpointEntry = (s, m) in
    let g = then_some_gives {A = ℕ × CheckpointEntry} (is_number number) x y h in
    let q = and_parts (m.number == checkpoint.number) (bytes_eq m.digest checkpoint.digest) k in
    let es : sender ≡ s = ap (λ (z : ℕ × CheckpointEntry). z.0) g.1 in
    let en : number ≡ checkpoint.number = ap (λ (z : ℕ × CheckpointEntry). z.1.number) g.1 ∙ eqb-true m.number checkpoint.number q.0 in
    let ed : root ≡ checkpoint.digest = ap (λ (z : ℕ × CheckpointEntry). z.1.digest) g.1 ∙ (bytes_eq-Decides m.digest checkpoint.digest).0 q.1 in
    rw (es, en, ed) refl
checkpoint_body s checkpoint m sender _ h k = absurd cc

checkpoint_brings : (c : Configuration) (s : ℕ) (checkpoint m : CheckpointEntry) (past : List Entry) (e : Entry) → checkpoint_in c e ≡ Some (s, m) → is_checkpoint checkpoint m ≡ true
    → Brings c (checking s checkpoint.number checkpoint.digest) past e
checkpoint_brings c s checkpoint m past e h k =
    let r = and_then_some {B = ℕ × CheckpointEntry} checkpoint_from (brought c e) (s, m) h in
    r.1 ∙ ap Some (checkpoint_body s checkpoint m r.0.sender r.0.message r.2 k)

once_from : (Q : List Entry → Entry → Type 0) (xs : List Entry) → Once (λ past e. Once Q (e ∷ past)) xs → Once Q xs
once_from Q [] h = h
once_from Q (e ∷ past) (inl h) = h
once_from Q (e ∷ past) (inr h) = inr (once_from Q past h)

-- ---- parts of a trace

pub once_append : (R : List Entry → Entry → Type 0) (pre xs : List Entry) → Once R xs → Once R (pre ++ xs)
once_append R [] xs h = h
once_append R (e ∷ pre) xs h = inr (once_append R pre xs h)

pub always_append : (R : List Entry → Entry → Type 0) (pre xs : List Entry) → Always R (pre ++ xs) → Always R xs
always_append R [] xs h = h
always_append R (e ∷ pre) xs h = always_append R pre xs h.1

pub right_append : (c : Configuration) (p : ℕ) (pre xs : List Entry) → SafeReplica c p (history_of p (pre ++ xs)) → SafeReplica c p (history_of p xs)
right_append c p [] xs h = h
right_append c p (e ∷ pre) xs h = go (party_of e == p) h (right_append c p pre xs)
  where
    go : (b : Bool) → SafeReplica c p (cond b (e ∷ history_of p (pre ++ xs)) (history_of p (pre ++ xs))) → (SafeReplica c p (history_of p (pre ++ xs)) → SafeReplica c p (history_of p xs))
        → SafeReplica c p (history_of p xs)
    go true r below = below (r.1.0, r.1.1)
    go false r below = below r

pub history_append : (p : ℕ) (pre xs : List Entry) → history_of p (pre ++ xs) ≡ history_of p pre ++ history_of p xs
history_append p [] xs = refl
history_append p (e ∷ pre) xs = go (party_of e == p) (history_append p pre xs)
  where
    go : (b : Bool) → history_of p (pre ++ xs) ≡ history_of p pre ++ history_of p xs
        → cond b (e ∷ history_of p (pre ++ xs)) (history_of p (pre ++ xs)) ≡ cond b (e ∷ history_of p pre) (history_of p pre) ++ history_of p xs
    go true h = ap (λ t. e ∷ t) h
    go false h = h

-- ---- good points

pub record Good (c : Configuration) (trace : List Entry) (point : Point) : Type 0 where
  pub state : IsStateOf c trace point.state
  pub snapshots : (st : State) → Has (λ x. x ≡ st) point.snapshots → IsStateOf c trace st

abbrev pub GoodHere : Configuration → List Entry → ℕ → List Entry → Type 0
GoodHere c trace r past = (point : Point) → HistoryReaches c r past point → Good c trace point

-- at each point of the history
abbrev pub GoodAll : Configuration → List Entry → ℕ → List Entry → Type 0
GoodAll c trace r history = GoodHere c trace r history × Always (λ past e. GoodHere c trace r past) history

good_behind : (c : Configuration) (trace : List Entry) (r : ℕ) (later past : List Entry) → GoodAll c trace r (later ++ past) → GoodAll c trace r past
good_behind c trace r [] past h = h
good_behind c trace r (e ∷ later) past h = good_behind c trace r later past h.1

good_start : (c : Configuration) (trace : List Entry) (point : Point) → point ≡ first_point → Good c trace point
good_start c trace point is = subst (Good c trace) (sym is) (record { state = first; snapshots = each })
  where
    first : IsStateOf c trace opening
    first = record { batches = []; executed = tt; is = refl }

    each : (st : State) → Has (λ x. x ≡ st) (opening ∷ []) → IsStateOf c trace st
    each st (inl h) = subst (IsStateOf c trace) h first
    each st (inr h) = absurd h

-- a state of executed batches with this number and root
pub record Known (c : Configuration) (trace : List Entry) (k : ℕ) (root : List ℕ) : Type 0 where
  pub state : State
  pub is_state : IsStateOf c trace state
  pub number_is : state.number ≡ k
  pub root_is : root_of state ≡ root

known_snapshot : (c : Configuration) (trace : List Entry) (k : ℕ) (root : List ℕ) (point : Point) → Good c trace point
    → Has (λ (st : State). (st.number ≡ k) × (root_of st ≡ root)) point.snapshots → Known c trace k root
known_snapshot c trace k root point good h =
    let s = has_some (λ (st : State). (st.number ≡ k) × (root_of st ≡ root)) point.snapshots h in
    record { state = s.0; is_state = good.snapshots s.0 s.1; number_is = s.2.0; root_is = s.2.1 }

says_known : (c : Configuration) (trace : List Entry) (s k : ℕ) (root : List ℕ) (past : List Entry) (e : Entry) → RightAt c s past e → GoodHere c trace s past
    → Speaks (checking s k root) past e → Known c trace k root
says_known c trace s k root past (Sent p bytes) r good h =
    let is = some_injective r.may.body (checking s k root) (sym r.may.says ∙ h) in
    let m : MayCheckpoint c past r.point k root = subst (λ (x : Body). MaySendMessage c s past r.point (Sent p bytes) bytes x.message) is r.may.allowed in
    known_snapshot c trace k root r.point (good r.point r.leaves) m.state
says_known c trace s k root past (Invoke x y z) r good h = absurd h
says_known c trace s k root past _ r good h = absurd h

-- the root in a correct replica's checkpoint is known
checkpoint_known : (c : Configuration) (trace ys : List Entry) (s k : ℕ) (root : List ℕ) → SafeReplica c s (history_of s ys) → GoodAll c trace s (history_of s ys)
    → Once (Speaks (checking s k root)) (history_of s ys) → Known c trace k root
checkpoint_known c trace ys s k root right good h =
    once_stays (λ past. Known c trace k root) (λ e past x. x) (history_of s ys)
    (once_weaker (λ past e. GoodHere c trace s past × (RightAt c s past e × Speaks (checking s k root) past e × Always (RightAt c s) past) × Always (λ past e. GoodHere c trace s past) past)
    (λ past e. Known c trace k root) (λ past e t. says_known c trace s k root past e t.1.0 t.0 t.1.1) (history_of s ys)
    (once_always (λ past e. GoodHere c trace s past) (λ past e. RightAt c s past e × Speaks (checking s k root) past e × Always (RightAt c s) past) (history_of s ys) good.1
    (once_right c s (Speaks (checking s k root)) (history_of s ys) right h)))

-- the checkpoints that a correct replica's view change lists are known
change_known : (c : Configuration) (trace ys : List Entry) (s k : ℕ) (root : List ℕ) (vc : ViewChangeData) → SafeReplica c s (history_of s ys) → GoodAll c trace s (history_of s ys)
    → Once (Speaks (changing s vc)) (history_of s ys) → Has (λ (checkpoint : CheckpointEntry). (checkpoint.number ≡ k) × (checkpoint.digest ≡ root)) vc.checkpoints → Known c trace k root
change_known c trace ys s k root vc right good h has =
    once_stays (λ past. Known c trace k root) (λ e past x. x) (history_of s ys)
    (once_weaker (λ past e. GoodHere c trace s past × NewChangeAt c s vc past e × Always (λ past e. GoodHere c trace s past) past)
    (λ past e. Known c trace k root) step (history_of s ys)
    (once_always (λ past e. GoodHere c trace s past) (NewChangeAt c s vc) (history_of s ys) good.1
    (change_is_new c s vc (history_of s ys) (right_always c s (history_of s ys) right.0 right.1) h)))
  where
    step : (past : List Entry) (e : Entry) → GoodHere c trace s past × NewChangeAt c s vc past e × Always (λ past e. GoodHere c trace s past) past → Known c trace k root
    step past e t =
        let listed : Has (λ (checkpoint : CheckpointEntry). (checkpoint.number ≡ k) × (checkpoint.digest ≡ root)) (map checkpoint_of (reverse (kept_states vc.low t.1.point.snapshots))) =
        subst (λ (checkpoints : List CheckpointEntry). Has (λ (checkpoint : CheckpointEntry). (checkpoint.number ≡ k) × (checkpoint.digest ≡ root)) checkpoints) t.1.is_new.checkpoints has in
        let kept = has_map (λ (checkpoint : CheckpointEntry). (checkpoint.number ≡ k) × (checkpoint.digest ≡ root)) checkpoint_of (reverse (kept_states vc.low t.1.point.snapshots)) listed in
        let states : Has (λ (st : State). (st.number ≡ k) × (root_of st ≡ root)) (kept_states vc.low t.1.point.snapshots) =
        has_reverse (λ (st : State). (st.number ≡ k) × (root_of st ≡ root)) (kept_states vc.low t.1.point.snapshots) kept in
        known_snapshot c trace k root t.1.point (t.0 t.1.point t.1.leaves)
        (has_filter (λ (st : State). (st.number ≡ k) × (root_of st ≡ root)) (λ st. nat_le vc.low st.number) t.1.point.snapshots states)

-- ---- installed roots are known

few_faulty : (c : Configuration) → IsConfiguration c → count_below (is_faulty_replica c) (3 * c.faults + 1) ≤ c.faults
few_faulty c setting = let m = count_members c.faulty_replicas (3 * c.faults + 1) in let k = setting.few in omega arith

-- of more than f replicas that pass, one is correct
pub correct_of : (c : Configuration) → IsConfiguration c → (test : ℕ → Bool) → c.faults < count_below test (3 * c.faults + 1)
    → (s : ℕ) × (is_correct_replica c s ≡ true) × (test s ≡ true)
correct_of c setting test enough =
    let few = few_faulty c setting in
    let more : count_below (is_faulty_replica c) (3 * c.faults + 1) < count_below test (3 * c.faults + 1) = omega arith in
    let s = some_more test (is_faulty_replica c) (3 * c.faults + 1) more in
    (s.0, and_from (is_replica c s.0) (not (is_faulty_replica c s.0)) (lt-ltb s.0 (3 * c.faults + 1) s.1) (not_from_false (is_faulty_replica c s.0) s.2), s.3)

module _ (c : Configuration) (setting : IsConfiguration c) (trace ys : List Entry) (right : AreReplicasSafe c ys) (unforged : Unforged c ys)
    (good : (s : ℕ) → is_correct_replica c s ≡ true → GoodAll c trace s (history_of s ys)) (r : ℕ) (correct : is_correct_replica c r ≡ true) (k : ℕ) (root : List ℕ) where
  Shows : ℕ → List Entry → Entry → Type 0
  Shows s past e = (m : CheckpointEntry) × (checkpoint_in c e ≡ Some (s, m)) × (is_checkpoint (record { number = k; digest = root }) m ≡ true)

  by_quorum : Once (λ earlier e. is_quorum c (count_checkpoints c (e ∷ earlier) (record { number = k; digest = root })) ≡ true) (history_of r ys) → Known c trace k root
  unfolding Shows
  by_quorum h =
      let found : Once (λ past e. (s : ℕ) × Once (Shows s) (e ∷ past) × (is_correct_replica c s ≡ true)) (history_of r ys) =
      once_weaker (λ earlier e. is_quorum c (count_checkpoints c (e ∷ earlier) (record { number = k; digest = root })) ≡ true)
      (λ past e. (s : ℕ) × Once (Shows s) (e ∷ past) × (is_correct_replica c s ≡ true)) one (history_of r ys) h in
      let s = once_some (λ s past e. Once (Shows s) (e ∷ past)) (λ s. is_correct_replica c s ≡ true) (history_of r ys) found in
      let shown : Once (Shows s.0) (history_of r ys) = once_from (Shows s.0) (history_of r ys) s.1 in
      let brings : Once (Brings c (checking s.0 k root)) (history_of r ys) =
      once_weaker (λ past e. RightAt c r past e × Shows s.0 past e × Always (RightAt c r) past) (Brings c (checking s.0 k root))
      (λ past e t. checkpoint_brings c s.0 (record { number = k; digest = root }) t.1.0 past e t.1.1 t.1.2) (history_of r ys)
      (once_right c r (Shows s.0) (history_of r ys) (right r correct) shown) in
      let says = brought_was_said c ys r (checking s.0 k root) right unforged correct s.2 brings in
      checkpoint_known c trace ys s.0 k root (right s.0 s.2) (good s.0 s.2) says
    where
      one : (past : List Entry) (e : Entry) → is_quorum c (count_checkpoints c (e ∷ past) (record { number = k; digest = root })) ≡ true
          → (s : ℕ) × Once (λ past e. (m : CheckpointEntry) × (checkpoint_in c e ≡ Some (s, m)) × (is_checkpoint (record { number = k; digest = root }) m ≡ true)) (e ∷ past) × (is_correct_replica c s ≡ true)
      one past e q =
          let enough : 2 * c.faults + 1 ≤ count_below (λ s. lists_checkpoint (record { number = k; digest = root }) (checkpoints_of c (e ∷ past) s)) (3 * c.faults + 1) =
          leb-true (2 * c.faults + 1) (count_checkpoints c (e ∷ past) (record { number = k; digest = root })) q in
          let more : c.faults < count_below (λ s. lists_checkpoint (record { number = k; digest = root }) (checkpoints_of c (e ∷ past) s)) (3 * c.faults + 1) = omega arith in
          let s = correct_of c setting (λ s. lists_checkpoint (record { number = k; digest = root }) (checkpoints_of c (e ∷ past) s)) more in
          (s.0, checkpoints_source c s.0 (record { number = k; digest = root }) (e ∷ past) s.2, s.1)

  by_new_view : Once (StartsAt c k root) (history_of r ys) → Known c trace k root
  by_new_view h =
      let found : Once (λ past e. (new : NewViewData) × TakesOrSendsNewView c new past e × ((new.start ≡ k) × (new.root ≡ root))) (history_of r ys) =
      once_weaker (StartsAt c k root) (λ past e. (new : NewViewData) × TakesOrSendsNewView c new past e × ((new.start ≡ k) × (new.root ≡ root)))
      (λ past e t. (t.0, t.1, (t.2, t.3))) (history_of r ys) h in
      let n = once_some (λ new past e. TakesOrSendsNewView c new past e) (λ (new : NewViewData). (new.start ≡ k) × (new.root ≡ root)) (history_of r ys) found in
      let sel = selected c n.0 (once_stays (λ past. may_select c n.0 ≡ true) (λ e past x. x) (history_of r ys)
      (once_weaker (TakesOrSendsNewView c n.0) (λ past e. may_select c n.0 ≡ true) (λ past e t. selected_in c e n.0 (takes c r past e n.0 t).brought) (history_of r ys) n.1)) in
      let enough : c.faults + 1 ≤ count_below (passes_by (λ vc. list_any (λ checkpoint. (checkpoint.number == n.0.start) && bytes_eq checkpoint.digest n.0.root) vc.checkpoints) (changes_of c n.0)) (3 * c.faults + 1) =
      leb-true (c.faults + 1) (count_in c (λ vc. list_any (λ checkpoint. (checkpoint.number == n.0.start) && bytes_eq checkpoint.digest n.0.root) vc.checkpoints) (changes_of c n.0)) sel.lists in
      let more : c.faults < count_below (passes_by (λ vc. list_any (λ checkpoint. (checkpoint.number == n.0.start) && bytes_eq checkpoint.digest n.0.root) vc.checkpoints) (changes_of c n.0)) (3 * c.faults + 1) = omega arith in
      let s = correct_of c setting (passes_by (λ vc. list_any (λ checkpoint. (checkpoint.number == n.0.start) && bytes_eq checkpoint.digest n.0.root) vc.checkpoints) (changes_of c n.0)) more in
      let t = passes_change (λ vc. list_any (λ checkpoint. (checkpoint.number == n.0.start) && bytes_eq checkpoint.digest n.0.root) vc.checkpoints) (changes_of c n.0) s.0 s.2 in
      let says = change_was_said c ys r s.0 n.0 t.0 right unforged correct s.1 n.1 t.1 in
      let m = some_of_has (λ (checkpoint : CheckpointEntry). (checkpoint.number == n.0.start) && bytes_eq checkpoint.digest n.0.root) t.0.checkpoints t.2 in
      let p = and_parts (m.0.number == n.0.start) (bytes_eq m.0.digest n.0.root) m.2 in
      let number : m.0.number ≡ k = eqb-true m.0.number n.0.start p.0 ∙ n.2.0 in
      let digest : m.0.digest ≡ root = (bytes_eq-Decides m.0.digest n.0.root).0 p.1 ∙ n.2.1 in
      change_known c trace ys s.0 k root t.0 (right s.0 s.1) (good s.0 s.1) says (has_at (λ (checkpoint : CheckpointEntry). (checkpoint.number ≡ k) × (checkpoint.digest ≡ root)) t.0.checkpoints m.0 m.1 (number, digest))
    where
      has_at : (P : CheckpointEntry → Type 0) (xs : List CheckpointEntry) (x : CheckpointEntry) → Has (λ y. y ≡ x) xs → P x → Has P xs
      has_at P [] x h p = h
      has_at P (y ∷ ys) x (inl h) p = inl (subst P (sym h) p)
      has_at P (y ∷ ys) x (inr h) p = inr (has_at P ys x h p)

  installed_known : (old : Point) → MayInstall c (history_of r ys) old k root → Known c trace k root
  installed_known old may = go may.1
    where
      go : Once (λ earlier e. is_quorum c (count_checkpoints c (e ∷ earlier) (record { number = k; digest = root })) ≡ true) (history_of r ys) ⊎ Once (StartsAt c k root) (history_of r ys) → Known c trace k root
      go (inl h) = by_quorum h
      go (inr h) = by_new_view h

-- a page that is received is a text
got_part : (c : Configuration) (r i : ℕ) (text : List ℕ) (past other : List Entry) (e : Entry) → GetsPage c r i text past e → EntryHasPart text other e
got_part c r i text past other (Got p bytes) h =
    (record { sender = h.0; message = Page h.1 i text }, heard_said c r bytes (record { sender = h.0; message = Page h.1 i text }) h.2, inl refl)
got_part c r i text past other (Invoke x y z) h = absurd h
got_part c r i text past other _ h = absurd h

-- ---- executed batches are fewer than 2^48

number_small : (c : Configuration) (trace : List Entry) → AreReplicasSafe c trace → (k : ℕ) (a : List ℕ) → Once (ExecutesBatch c k a) trace → k < 2 ^ 48
number_small c trace right k a h =
    let p = executor c k a trace h in
    let first = executed_committed c trace p.0 k a right p.1 p.2 in
    let r = right p.0 p.1 in
    (logged_within c p.0 first.view k a (history_of p.0 trace) (right_always c p.0 (history_of p.0 trace) r.0 r.1) first.committed.prepared.logged).1

few_executed : (c : Configuration) (trace : List Entry) → AreReplicasSafe c trace → (first : ℕ) (batches : List (List ℕ)) → first ≤ 2 ^ 48 → AreExecuted c trace first batches → first + length batches ≤ 2 ^ 48
few_executed c trace right first [] l h = omega arith
few_executed c trace right first (batch ∷ batches) l h =
    let one = number_small c trace right first batch h.0 in
    let next : first + 1 ≤ 2 ^ 48 = omega arith in
    let rest = few_executed c trace right (first + 1) batches next h.1 in
    omega arith

pub executed_leave : (c : Configuration) → IsConfiguration c → (trace : List Entry) → AreReplicasSafe c trace → (batches : List (List ℕ)) → AreExecuted c trace 1 batches → IsReplicatedState (after_batches c opening batches)
executed_leave c setting trace right batches h =
    let one : 1 ≤ 2 ^ 48 = omega arith in
    let few = few_executed c trace right 1 batches one h in
    let l : length batches < 2 ^ 48 = omega arith in
    batches_leave_states c batches setting l

-- ---- the induction over the trace

module _ (c : Configuration) (setting : IsConfiguration c) (trace : List Entry) (right : AreReplicasSafe c trace) (unforged : Unforged c trace) (apart : NoCollision c trace) where
  -- the batches of a state are the first
  firsts : (st : State) → (is : IsStateOf c trace st) → AreFirstBatches c trace 1 is.batches
  firsts st is = executed_first c setting trace right unforged apart 1 is.batches is.executed

  -- a state with the root of a state of executed batches, whose texts are apart, is that state
  same_state : (st : State) → IsStateOf c trace st → (other : State) → IsReplicatedState other → ((text : List ℕ) → IsUnder (page_text other) text → IsText c trace text)
      → ((i : ℕ) → i < 1024 → IsText c trace (page_text other i)) → root_of st ≡ root_of other → IsStateOf c trace other
  same_state st is other state unders texts root =
      let pages = same_pages c trace (page_text (after_batches c opening is.batches)) (page_text other) apart
      (λ text u. under is.batches text (firsts st is) u) unders
      (λ i l. page_of is.batches i l (firsts st is)) texts
      (subst (λ (x : State). root_of x ≡ root_of other) is.is root) in
      let e : after_batches c opening is.batches ≡ other = pages_determine (after_batches c opening is.batches) other (executed_leave c setting trace right is.batches is.executed) state pages in
      record { batches = is.batches; executed = is.executed; is = sym e }

  good_moved : (old point new : Point) → point ≡ new → new.state ≡ old.state → new.snapshots ≡ old.snapshots → Good c trace old → Good c trace point
  good_moved old point new is same snapshots was = subst (Good c trace) (sym is) (record {
    state = subst (IsStateOf c trace) (sym same) was.state;
    snapshots = subst (λ (xs : List State). (st : State) → Has (λ y. y ≡ st) xs → IsStateOf c trace st) (sym snapshots) was.snapshots;
  })

  good_step : (pre ys : List Entry) (e : Entry) → trace ≡ pre ++ e ∷ ys → (r : ℕ) → is_correct_replica c r ≡ true → party_of e ≡ r
      → ((s : ℕ) → is_correct_replica c s ≡ true → GoodAll c trace s (history_of s ys))
      → (old point : Point) → HistoryReaches c r (history_of r ys) old → Good c trace old → May c r (history_of r ys) old e → MovesPoint c r (history_of r ys) old e point → Good c trace point
  good_step pre ys (Got p bytes) is r correct own good old point leaves was may move = good_moved old point (record old { ran = []; waiting = waiting_after c r old bytes }) move refl refl was
  good_step pre ys (Tick p) is r correct own good old point leaves was may move = good_moved old point (record old { ran = [] }) move refl refl was
  good_step pre ys (Sent p bytes) is r correct own good old point leaves was may move = subst (Good c trace) (sym move) was
  good_step pre ys (Invoke x y z) is r correct own good old point leaves was may move = absurd may
  good_step pre ys (Accepted x y z) is r correct own good old point leaves was may move = absurd may
  good_step pre ys (Executed p k batch) is r correct own good old point leaves was may move = subst (Good c trace) (sym move) (record { state = next; snapshots = each })
    where
      next : IsStateOf c trace (execute c old.state batch)
      next =
          let s = was.state in
          let n = number_after c opening s.batches in
          let old_number : old.state.number ≡ (after_batches c opening s.batches).number = ap (λ (x : State). x.number) s.is in
          let k_is = may.next in
          let place : k ≡ 1 + length s.batches = omega arith in
          let whole : Once (ExecutesBatch c k batch) (pre ++ Executed p k batch ∷ ys) =
          once_append (ExecutesBatch c k batch) pre (Executed p k batch ∷ ys) (inl (subst (λ (x : ℕ). is_correct_replica c x ≡ true) (sym own) correct, refl, refl)) in
          let there : Once (ExecutesBatch c k batch) trace = subst (λ (t : List Entry). Once (ExecutesBatch c k batch) t) (sym is) whole in
          record {
            batches = s.batches ++ batch ∷ [];
            executed = executed_append c trace 1 s.batches batch k place s.executed there;
            is = ap (λ (x : State). execute c x batch) s.is ∙ sym (after_batches-append c opening s.batches batch);
          }

      each : (st : State) → Has (λ x. x ≡ st) (executed_point c old k batch).snapshots → IsStateOf c trace st
      each st h = go ((execute c old.state batch).number % c.period == 0) h
        where
          go : (b : Bool) → Has (λ x. x ≡ st) (cond b (execute c old.state batch ∷ old.snapshots) old.snapshots) → IsStateOf c trace st
          go true (inl e) = subst (IsStateOf c trace) e next
          go true (inr e) = was.snapshots st e
          go false e = was.snapshots st e
  good_step pre ys (Installed p k root) is r correct own good old point leaves was may move = record { state = next; snapshots = each }
    where
      right_ys : AreReplicasSafe c ys
      right_ys q from = right_append c q (pre ++ Installed p k root ∷ []) ys (subst (λ (t : List Entry). SafeReplica c q (history_of q t)) (is ∙ sym (append_assoc pre (Installed p k root ∷ []) ys)) (right q from))

      unforged_ys : Unforged c ys
      unforged_ys = always_append (IsUnforgedAt c) (pre ++ Installed p k root ∷ []) ys (subst (λ (t : List Entry). Unforged c t) (is ∙ sym (append_assoc pre (Installed p k root ∷ []) ys)) unforged)

      known : Known c trace k root
      known = installed_known c setting trace ys right_ys unforged_ys good r correct k root old may

      next : IsStateOf c trace point.state
      next = same_state known.state known.is_state point.state move.is_state unders texts (known.root_is ∙ sym move.root_is)
        where
          texts : (i : ℕ) → i < 1024 → IsText c trace (page_text point.state i)
          texts i l = pick (is_own_or_got c r k i (history_of r ys) old.state (page_text point.state i) (move.pages i l))
            where
              pick : (page_text point.state i ≡ page_text old.state i) ⊎ Once (GetsPage c r i (page_text point.state i)) (history_of r ys) → IsText c trace (page_text point.state i)
              pick (inl same) =
                  subst (IsText c trace) (sym same) (subst (λ (x : State). IsText c trace (page_text x i)) (sym was.state.is) (page_of was.state.batches i l (firsts old.state was.state)))
              pick (inr got) =
                  let parts : Once (EntryHasPart (page_text point.state i)) ys =
                  once_weaker (λ past e. (party_of e ≡ r) × GetsPage c r i (page_text point.state i) (history_of r past) e) (EntryHasPart (page_text point.state i))
                  (λ past e t. got_part c r i (page_text point.state i) (history_of r past) past e t.1) ys (once_in_trace (GetsPage c r i (page_text point.state i)) r ys got) in
                  part (page_text point.state i) (subst (λ (t : List Entry). Once (EntryHasPart (page_text point.state i)) t) (sym is) (once_append (EntryHasPart (page_text point.state i)) pre (Installed p k root ∷ ys) (inr parts)))

          number : length was.state.batches ≡ reached ys r
          number =
              let n = number_after c opening was.state.batches in
              let m : old.state.number ≡ (after_batches c opening was.state.batches).number = ap (λ (x : State). x.number) was.state.is in
              let h = number_reached c r (history_of r ys) old leaves in
              let t = reached_history r ys in
              omega arith

          same : (i : ℕ) → i < 1024 → page_text point.state i ≡ in_place c r k (history_of r ys) (after_batches c opening was.state.batches) i
          same i l = subst (λ (x : State). page_text point.state i ≡ in_place c r k (history_of r ys) x i) was.state.is (move.pages i l)

          over : (text : List ℕ) → IsUnder (page_text point.state) text → InstallsOver c was.state.batches text ys (Installed r k root)
          over text u = (correct, number, under_same (page_text point.state) (in_place c r k (history_of r ys) (after_batches c opening was.state.batches)) text same u)

          unders : (text : List ℕ) → IsUnder (page_text point.state) text → IsText c trace text
          unders text u =
              installed was.state.batches text (firsts old.state was.state)
              (subst (λ (t : List Entry). Once (InstallsOver c was.state.batches text) t) (sym is)
              (once_append (InstallsOver c was.state.batches text) pre (Installed p k root ∷ ys)
              (inl (subst (λ (q : ℕ). InstallsOver c was.state.batches text ys (Installed q k root)) (sym own) (over text u)))))

      each : (st : State) → Has (λ x. x ≡ st) point.snapshots → IsStateOf c trace st
      each st h = go (subst (λ (x : List State). Has (λ y. y ≡ st) x) move.snapshots h)
        where
          go : Has (λ x. x ≡ st) (point.state ∷ old.snapshots) → IsStateOf c trace st
          go (inl e) = subst (IsStateOf c trace) e next
          go (inr e) = was.snapshots st e

  all_good : (xs pre : List Entry) → trace ≡ pre ++ xs → (r : ℕ) → is_correct_replica c r ≡ true → GoodAll c trace r (history_of r xs)
  all_good [] pre is r correct = (λ point h. good_start c trace point h, tt)
  all_good (e ∷ ys) pre is r correct =
      go (party_of e == r) refl (λ s from. all_good ys (pre ++ e ∷ []) (is ∙ sym (append_assoc pre (e ∷ []) ys)) s from)
    where
      go : (b : Bool) → (party_of e == r) ≡ b → ((s : ℕ) → is_correct_replica c s ≡ true → GoodAll c trace s (history_of s ys)) → GoodAll c trace r (cond b (e ∷ history_of r ys) (history_of r ys))
      go true own below =
          let was = below r correct in
          (λ point h. good_step pre ys e is r correct (eqb-true (party_of e) r own) below h.0 point h.1 (was.0 h.0 h.1) h.2.may h.2.moves, was)
      go false own below = below r correct

  -- each state of a correct replica, and each of its snapshots, is that of the executed batches
  pub states_agree : (r : ℕ) → is_correct_replica c r ≡ true → GoodAll c trace r (history_of r trace)
  states_agree r correct = all_good trace [] refl r correct

  -- at each time, not at the end alone
  pub had_executed : (st : State) → Had c trace st → IsStateOf c trace st
  had_executed st h = pick h.1
    where
      good : Good c trace h.0.point
      good = (good_behind c trace h.0.replica h.0.later h.0.past (subst (GoodAll c trace h.0.replica) h.0.splits (states_agree h.0.replica h.0.is_correct))).0 h.0.point h.0.leaves

      pick : (h.0.point.state ≡ st) ⊎ Has (λ x. x ≡ st) h.0.point.snapshots → IsStateOf c trace st
      pick (inl e) = subst (IsStateOf c trace) e good.state
      pick (inr e) = good.snapshots st e

  -- ---- roots

  root_known : (k : ℕ) (root : List ℕ) → Known c trace k root → IsRootOf c trace k root
  root_known k root known =
      let s = known.is_state in
      let n = number_after c opening s.batches in
      let m : known.state.number ≡ (after_batches c opening s.batches).number = ap (λ (x : State). x.number) s.is in
      let e = known.number_is in
      record { batches = s.batches; long = omega arith; executed = s.executed; root_is = sym known.root_is ∙ ap root_of s.is }

  good_all : (s : ℕ) → is_correct_replica c s ≡ true → GoodAll c trace s (history_of s trace)
  good_all s from = states_agree s from

  pub quorum_root : (r k : ℕ) (root : List ℕ) → is_correct_replica c r ≡ true → HadQuorum c (record { number = k; digest = root }) (history_of r trace) → IsRootOf c trace k root
  quorum_root r k root correct h = root_known k root (by_quorum c setting trace trace right unforged good_all r correct k root h)

  pub start_root : (r k : ℕ) (root : List ℕ) → is_correct_replica c r ≡ true → Once (StartsAt c k root) (history_of r trace) → IsRootOf c trace k root
  start_root r k root correct h = root_known k root (by_new_view c setting trace trace right unforged good_all r correct k root h)

  installs_may : (r k : ℕ) (root : List ℕ) (past : List Entry) (e : Entry) → RightAt c r past e → Installs k root past e
      → HadQuorum c (record { number = k; digest = root }) past ⊎ Once (StartsAt c k root) past
  installs_may r k root past (Installed p number digest) t h =
      let m = t.may.1 in
      subst (λ (x : ℕ). HadQuorum c (record { number = x; digest = root }) past ⊎ Once (StartsAt c x root) past) h.0
      (subst (λ (x : List ℕ). HadQuorum c (record { number = number; digest = x }) past ⊎ Once (StartsAt c number x) past) h.1 m)
  installs_may r k root past (Invoke x y z) t h = absurd h
  installs_may r k root past _ t h = absurd h

  pub installed_root : (r k : ℕ) (root : List ℕ) → is_correct_replica c r ≡ true → Once (Installs k root) (history_of r trace) → IsRootOf c trace k root
  installed_root r k root correct h =
      go (once_stays (λ past. HadQuorum c (record { number = k; digest = root }) past ⊎ Once (StartsAt c k root) past) later (history_of r trace)
      (once_weaker (λ past e. RightAt c r past e × Installs k root past e × Always (RightAt c r) past) (λ past e. HadQuorum c (record { number = k; digest = root }) past ⊎ Once (StartsAt c k root) past)
      (λ past e t. installs_may r k root past e t.0 t.1) (history_of r trace) (once_right c r (Installs k root) (history_of r trace) (right r correct) h)))
    where
      later : (e : Entry) (past : List Entry) → HadQuorum c (record { number = k; digest = root }) past ⊎ Once (StartsAt c k root) past
          → HadQuorum c (record { number = k; digest = root }) (e ∷ past) ⊎ Once (StartsAt c k root) (e ∷ past)
      later e past (inl x) = inl (inr x)
      later e past (inr x) = inr (inr x)

      go : HadQuorum c (record { number = k; digest = root }) (history_of r trace) ⊎ Once (StartsAt c k root) (history_of r trace) → IsRootOf c trace k root
      go (inl x) = quorum_root r k root correct x
      go (inr x) = start_root r k root correct x
