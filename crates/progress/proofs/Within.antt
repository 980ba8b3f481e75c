-- A new view change that a correct replica may send is within its bounds.
use Rattle.std.proofs.Common.{◌≡◌, ℕ, ◌+◌, ◌*◌, ◌%◌, ◌^◌, ◌≤◌, ◌<◌, ◌⊎◌, inl, inr, Bool, true, false, cond, ◌&&◌, List, [], ◌∷◌, ◌++◌, reverse, take, Option, Some, None, refl, sym, ap, ◌∙◌, subst, arith, append_assoc, eqb-true, bytes_eq}
use Rattle.std.specs.Prelude.{◌==◌, nat_le}
use Rattle.std.specs.List.{list_any}
use Rattle.std.specs.Option.{option_map_or}
use Rattle.std.proofs.Math.Nat.{zero-mod}
use Rattle.std.proofs.lemmas.Bool.{and_parts, ltb-true, leb-true}
use Rattle.quorum.specs.Quorum.{count_below}
use Rattle.wire_format.specs.Lists.{Each}
use Rattle.wire_format.specs.Messages.{BodyData as Body, MessageData as Message, ViewChangeData, NewViewData, CheckpointEntryData as CheckpointEntry, BatchEntryData as BatchEntry, checkpoint as Checkpoint}
use Rattle.protocol.specs.System.Configuration.{Configuration, IsConfiguration, span, is_number, is_correct_replica}
use Rattle.protocol.specs.System.Trace.{Entry, history_of, Once, Always, Has, Unforged}
use Rattle.protocol.specs.System.Trace.Entry.{Invoke, Got, Tick, Executed, Installed, Sent, Accepted}
use Rattle.protocol.specs.System.Run.{IsRun}
use Rattle.protocol.specs.Replica.Selection.{is_quorum, is_weak_quorum, is_within, changes_of, passes_by, count_in}
use Rattle.protocol.specs.Replica.Certificates.{taken, brought, checkpoint_from, checkpoint_in, with_checkpoint, insert_checkpoint, checkpoints_of, lists_checkpoint, count_checkpoints, is_stable, installed_at, low, logged}
use Rattle.protocol.specs.Replica.State.{State, execute}
use Rattle.protocol.specs.Replica.RightReplica.{Point, HistoryReaches, May, MovesPoint, MaySendMessage, MayCheckpoint, IsRootWanted, HadQuorum, StartsAt, checkpoint_of, kept_states, IsNewViewChange}
use Rattle.protocol.specs.Laws.Bounds.{IsBatchEntryBounded, IsCheckpointBounded}
use Rattle.protocol.specs.Laws.Histories.{AreReplicasSafe}
use Rattle.protocol.proofs.Words.Bounds.{bounded, within_of_bounded}
use Rattle.protocol.proofs.Words.Elements.{has_some, has_map, has_reverse, has_filter, some_of_has, each_has, each_weaker}
use Rattle.protocol.proofs.Words.Leaving.{executed_number}
use Rattle.protocol.proofs.Words.Linking.{Speaks}
use Rattle.protocol.proofs.Words.Lists.{every_change, passes_change}
use Rattle.protocol.proofs.Words.Options.{some_injective, and_then_some, then_some_gives}
use Rattle.protocol.proofs.Words.Reacting.{is_replica_right}
use Rattle.protocol.proofs.Agreement.Changes.{logged_within}
use Rattle.protocol.proofs.Agreement.Marks.{takes, selects, selected_in, low_grows}
use Rattle.protocol.proofs.Agreement.Offers.{logged_view}
use Rattle.protocol.proofs.Agreement.States.{correct_of, once_append, has_take, has_insert, is_checkpoint}
use Rattle.protocol.proofs.Agreement.Voting.{RightAt, right_always, once_right, Brings, brought_was_said}
use Rattle.progress.specs.Leaving.{ViewChangesAreWithin}
use Rattle.progress.proofs.Happened.{At, once_at}
use Rattle.progress.proofs.Steady.{marks_parts}

-- ---- the number of a checkpoint that is counted

-- the fields of a checkpoint message
record IsSaid (s : ℕ) (m : CheckpointEntry) (body : Body) : Type 0 where
  is_body : ◌≡◌ {A = Body} body (record { sender = s; message = Checkpoint m.number m.digest })
  small : is_number m.number ≡ true

checkpoint_said : (s : ℕ) (m : CheckpointEntry) (sender : ℕ) (message : Message) → checkpoint_from (record { sender = sender; message = message }) ≡ Some (s, m) → IsSaid s m (record { sender = sender; message = message })
checkpoint_said s m sender (Checkpoint number root) h =
    let g = then_some_gives {A = ℕ × CheckpointEntry} (is_number number) (sender, record { number = number; digest = root }) (s, m) h in
    let en : number ≡ m.number = ap (λ (z : ℕ × CheckpointEntry). z.1.number) g.1 in
    let ed : root ≡ m.digest = ap (λ (z : ℕ × CheckpointEntry). z.1.digest) g.1 in
    record { is_body = rw ((ap (λ (z : ℕ × CheckpointEntry). z.0) g.1), en, ed) refl; small = subst (λ (n : ℕ). is_number n ≡ true) en g.0 }
checkpoint_said s m sender _ h = absurd cc

-- a checkpoint with the number came from the replica
abbrev Shows : Configuration → ℕ → ℕ → List Entry → Entry → Type 0
Shows c s k past e = (m : CheckpointEntry) × (checkpoint_in c e ≡ Some (s, m)) × (m.number ≡ k)

shown : (c : Configuration) (s : ℕ) (checkpoint : CheckpointEntry) (xs : List Entry) → lists_checkpoint checkpoint (checkpoints_of c xs s) ≡ true → Once (Shows c s checkpoint.number) xs
unfolding checkpoints_of
shown c s checkpoint [] h = absurd cc
shown c s checkpoint (e ∷ past) h = go (checkpoint_in c e) refl h (shown c s checkpoint past)
  where
    go : (o : Option (ℕ × CheckpointEntry)) → checkpoint_in c e ≡ o → lists_checkpoint checkpoint (with_checkpoint s o (checkpoints_of c past s)) ≡ true
        → (lists_checkpoint checkpoint (checkpoints_of c past s) ≡ true → Once (Shows c s checkpoint.number) past) → Once (Shows c s checkpoint.number) (e ∷ past)
    go None is k below = inr (below k)
    go (Some x) is k below = from (x.0 == s) refl k
      where
        pick : x.0 ≡ s → (is_checkpoint checkpoint x.1 ≡ true) ⊎ (lists_checkpoint checkpoint (checkpoints_of c past s) ≡ true) → Once (Shows c s checkpoint.number) (e ∷ past)
        pick own (inl y) =
            inl (x.1, is ∙ ap (λ (t : ℕ). Some (let p : ℕ × CheckpointEntry = (t, x.1) in p)) own, eqb-true x.1.number checkpoint.number (and_parts (x.1.number == checkpoint.number) (bytes_eq x.1.digest checkpoint.digest) y).0)
        pick own (inr y) = inr (below y)

        from : (b : Bool) → (x.0 == s) ≡ b → lists_checkpoint checkpoint (cond b (take 3 (insert_checkpoint x.1 (checkpoints_of c past s))) (checkpoints_of c past s)) ≡ true → Once (Shows c s checkpoint.number) (e ∷ past)
        from true own k = pick (eqb-true x.0 s own) (has_insert checkpoint x.1 (checkpoints_of c past s) (has_take checkpoint 3 (insert_checkpoint x.1 (checkpoints_of c past s)) k))
        from false own k = inr (below k)

-- a kept state is not below the mark
kept_above : (h : ℕ) (ss : List State) (st : State) → Has (λ y. y ≡ st) (kept_states h ss) → h ≤ st.number
kept_above h [] st k = absurd k
kept_above h (s ∷ ss) st k = go (nat_le h s.number) refl k (kept_above h ss st)
  where
    go : (b : Bool) → nat_le h s.number ≡ b → Has (λ y. y ≡ st) (cond b (s ∷ kept_states h ss) (kept_states h ss)) → (Has (λ y. y ≡ st) (kept_states h ss) → h ≤ st.number) → h ≤ st.number
    go true e (inl is) below = let l = leb-true h s.number e in let n : s.number ≡ st.number = ap (λ (x : State). x.number) is in omega arith
    go true e (inr k) below = below k
    go false e k below = below k

-- the number may be a kept state's
record IsKept (c : Configuration) (k : ℕ) : Type 0 where
  multiple : k % c.period ≡ 0
  small : k < 2 ^ 48

module _ (c : Configuration) (setting : IsConfiguration c) (trace : List Entry) (is_run : IsRun c trace) (unforged : Unforged c trace) (r : ℕ) (correct : is_correct_replica c r ≡ true) where
  safe : AreReplicasSafe c trace
  safe p h = is_replica_right c p (history_of p trace) (is_run.replicas p h)

  -- a correct replica sends checkpoints of multiples alone
  said_multiple : (s k : ℕ) (root : List ℕ) → is_correct_replica c s ≡ true → Once (Speaks (record { sender = s; message = Checkpoint k root })) (history_of s trace) → k % c.period ≡ 0
  said_multiple s k root from says =
      go (once_at (λ past e. RightAt c s past e × Speaks (record { sender = s; message = Checkpoint k root }) past e × Always (RightAt c s) past) (history_of s trace)
      (once_right c s (Speaks (record { sender = s; message = Checkpoint k root })) (history_of s trace) (safe s from) says))
    where
      by : (past : List Entry) (e : Entry) → RightAt c s past e → Speaks (record { sender = s; message = Checkpoint k root }) past e → k % c.period ≡ 0
      by past (Sent p bytes) t h =
          let allowed : MayCheckpoint c past t.point k root = subst (λ (b : Body). MaySendMessage c s past t.point (Sent p bytes) bytes b.message)
          (some_injective t.may.body (record { sender = s; message = Checkpoint k root }) (sym t.may.says ∙ h)) t.may.allowed in
          allowed.multiple
      by past (Got x y) t h = absurd h
      by past _ t h = absurd h

      go : At (λ past e. RightAt c s past e × Speaks (record { sender = s; message = Checkpoint k root }) past e × Always (RightAt c s) past) (history_of s trace) → k % c.period ≡ 0
      go a = by a.past a.entry a.holds.0 a.holds.1

  -- so does a quorum of them
  quorum_kept : (k : ℕ) (root : List ℕ) (newer past : List Entry) → history_of r trace ≡ newer ++ past → HadQuorum c (record { number = k; digest = root }) past → IsKept c k
  quorum_kept k root newer past splits had = go (once_at (λ earlier e. is_quorum c (count_checkpoints c (e ∷ earlier) (record { number = k; digest = root })) ≡ true) past had)
    where
      go : At (λ earlier e. is_quorum c (count_checkpoints c (e ∷ earlier) (record { number = k; digest = root })) ≡ true) past → IsKept c k
      go a = from (correct_of c setting (λ s. lists_checkpoint (record { number = k; digest = root }) (checkpoints_of c (a.entry ∷ a.past) s)) more)
        where
          more : c.faults < count_below (λ s. lists_checkpoint (record { number = k; digest = root }) (checkpoints_of c (a.entry ∷ a.past) s)) (3 * c.faults + 1)
          more = let enough = leb-true (2 * c.faults + 1) (count_checkpoints c (a.entry ∷ a.past) (record { number = k; digest = root })) a.holds in omega arith

          whole : history_of r trace ≡ (newer ++ a.newer) ++ (a.entry ∷ a.past)
          whole = splits ∙ ap (λ (xs : List Entry). newer ++ xs) a.splits ∙ sym (append_assoc newer a.newer (a.entry ∷ a.past))

          from : (s : ℕ) × (is_correct_replica c s ≡ true) × (lists_checkpoint (record { number = k; digest = root }) (checkpoints_of c (a.entry ∷ a.past) s) ≡ true) → IsKept c k
          from s = by (once_at (Shows c s.0 k) (a.entry ∷ a.past) (shown c s.0 (record { number = k; digest = root }) (a.entry ∷ a.past) s.2))
            where
              by : At (Shows c s.0 k) (a.entry ∷ a.past) → IsKept c k
              by b =
                  let x = and_then_some {B = ℕ × CheckpointEntry} checkpoint_from (brought c b.entry) (s.0, b.holds.0) b.holds.1 in
                  let t = checkpoint_said s.0 b.holds.0 x.0.sender x.0.message x.2 in
                  let brings : Brings c (record { sender = s.0; message = Checkpoint b.holds.0.number b.holds.0.digest }) b.past b.entry = x.1 ∙ ap Some t.is_body in
                  let there : Once (Brings c (record { sender = s.0; message = Checkpoint b.holds.0.number b.holds.0.digest })) (history_of r trace) =
                  subst (λ (xs : List Entry). Once (Brings c (record { sender = s.0; message = Checkpoint b.holds.0.number b.holds.0.digest })) xs) (sym whole)
                  (once_append (Brings c (record { sender = s.0; message = Checkpoint b.holds.0.number b.holds.0.digest })) (newer ++ a.newer) (a.entry ∷ a.past)
                  (subst (λ (xs : List Entry). Once (Brings c (record { sender = s.0; message = Checkpoint b.holds.0.number b.holds.0.digest })) xs) (sym b.splits)
                  (once_append (Brings c (record { sender = s.0; message = Checkpoint b.holds.0.number b.holds.0.digest })) b.newer (b.entry ∷ b.past) (inl brings)))) in
                  let says = brought_was_said c trace r (record { sender = s.0; message = Checkpoint b.holds.0.number b.holds.0.digest }) safe unforged correct s.1 there in
                  let m = said_multiple s.0 b.holds.0.number b.holds.0.digest s.1 says in
                  record { multiple = subst (λ (n : ℕ). n % c.period ≡ 0) b.holds.2 m; small = ltb-true k (2 ^ 48) (subst (λ (n : ℕ). is_number n ≡ true) b.holds.2 t.small) }

  -- and a new view starts at one that a view change within its bounds lists
  start_kept : (k : ℕ) (root : List ℕ) (past : List Entry) → Once (StartsAt c k root) past → IsKept c k
  start_kept k root past starts = go (once_at (StartsAt c k root) past starts)
    where
      go : At (StartsAt c k root) past → IsKept c k
      go a = from (one (correct_of c setting (passes_by lists (changes_of c new)) more))
        where
          new : NewViewData
          new = a.holds.0

          lists : ViewChangeData → Bool
          lists vc = list_any (λ (m : CheckpointEntry). (m.number == new.start) && bytes_eq m.digest new.root) vc.checkpoints

          more : c.faults < count_below (passes_by lists (changes_of c new)) (3 * c.faults + 1)
          more =
              let s = selects c new (selected_in c a.entry new (takes c 0 a.past a.entry new a.holds.1).brought) in
              let listed = (and_parts (is_quorum c (count_in c (λ vc. nat_le vc.low new.start) (changes_of c new))) (is_weak_quorum c (count_in c lists (changes_of c new))) s.start).1 in
              let enough = leb-true (c.faults + 1) (count_in c lists (changes_of c new)) listed in
              omega arith

          one : (s : ℕ) × (is_correct_replica c s ≡ true) × (passes_by lists (changes_of c new) s ≡ true) → (vc : ViewChangeData) × (is_within c vc ≡ true) × (lists vc ≡ true)
          one s =
              let x = passes_change lists (changes_of c new) s.0 s.2 in
              let t = selects c new (selected_in c a.entry new (takes c 0 a.past a.entry new a.holds.1).brought) in
              let within = every_change (λ vc. (vc.view == new.view) && is_within c vc) (changes_of c new) s.0 x.0 t.each x.1 in
              (x.0, (and_parts (x.0.view == new.view) (is_within c x.0) within).1, x.2)

          from : (vc : ViewChangeData) × (is_within c vc ≡ true) × (lists vc ≡ true) → IsKept c k
          from vc =
              let m = some_of_has (λ (m : CheckpointEntry). (m.number == new.start) && bytes_eq m.digest new.root) vc.0.checkpoints vc.2 in
              let b = (bounded c vc.0 vc.1).checkpoints m.0 m.1 in
              let n : m.0.number ≡ new.start = eqb-true m.0.number new.start (and_parts (m.0.number == new.start) (bytes_eq m.0.digest new.root) m.2).0 in
              let is : m.0.number ≡ k = n ∙ a.holds.2 in
              record { multiple = subst (λ (j : ℕ). j % c.period ≡ 0) is b.multiple; small = subst (λ (j : ℕ). j < 2 ^ 48) is b.number }

  -- ---- the kept states

  abbrev Fits : List Entry → State → Type 0
  Fits xs st = (st.number % c.period ≡ 0) × (st.number ≤ low c r xs + span c) × (st.number < 2 ^ 48)

  fits_later : (e : Entry) (past : List Entry) (st : State) → Fits past st → Fits (e ∷ past) st
  fits_later e past st h = let g = low_grows c r e past in let l = h.1 in (h.0, (let m : st.number ≤ low c r (e ∷ past) + span c = omega arith in m), h.2)

  installed_low : (p k : ℕ) (root : List ℕ) (past : List Entry) → k ≤ low c r (Installed p k root ∷ past)
  unfolding low
  installed_low p k root past = omega arith

  snapshots_fit : (newer xs : List Entry) → history_of r trace ≡ newer ++ xs → (point : Point) → HistoryReaches c r xs point → Each (Fits xs) point.snapshots
  snapshots_fit newer [] splits point leaves = subst (λ (p : Point). Each (Fits []) p.snapshots) (sym leaves) ((zero-mod c.period, omega arith, omega arith), tt)
  snapshots_fit newer (e ∷ past) splits point leaves =
      go e leaves.2.may leaves.2.moves beside
      (each_weaker (Fits past) (Fits (e ∷ past)) (fits_later e past) leaves.0.snapshots (snapshots_fit (newer ++ e ∷ []) past beside leaves.0 leaves.1))
    where
      beside : history_of r trace ≡ (newer ++ e ∷ []) ++ past
      beside = splits ∙ sym (append_assoc newer (e ∷ []) past)

      kept : (e : Entry) (ss : List State) → point.snapshots ≡ ss → Each (Fits (e ∷ past)) ss → Each (Fits (e ∷ past)) point.snapshots
      kept e ss is h = subst (λ (xs : List State). Each (Fits (e ∷ past)) xs) (sym is) h

      go : (e : Entry) → May c r past leaves.0 e → MovesPoint c r past leaves.0 e point → history_of r trace ≡ (newer ++ e ∷ []) ++ past → Each (Fits (e ∷ past)) leaves.0.snapshots → Each (Fits (e ∷ past)) point.snapshots
      go (Got p bytes) may move is was = kept (Got p bytes) leaves.0.snapshots (ap (λ (q : Point). q.snapshots) move) was
      go (Tick p) may move is was = kept (Tick p) leaves.0.snapshots (ap (λ (q : Point). q.snapshots) move) was
      go (Sent p bytes) may move is was = kept (Sent p bytes) leaves.0.snapshots (ap (λ (q : Point). q.snapshots) move) was
      go (Invoke x y z) may move is was = absurd may
      go (Accepted x y z) may move is was = absurd may
      go (Installed p k root) may move is was = kept (Installed p k root) (point.state ∷ leaves.0.snapshots) move.snapshots (here, was)
        where
          wanted : IsRootWanted c past k root → IsKept c k
          wanted (inl had) = quorum_kept k root (newer ++ Installed p k root ∷ []) past is had
          wanted (inr starts) = start_kept k root past starts

          here : Fits (Installed p k root ∷ past) point.state
          here =
              let w = wanted may.1 in
              let l = installed_low p k root past in
              let n = move.number in
              let s = w.small in
              (subst (λ (j : ℕ). j % c.period ≡ 0) (sym move.number) w.multiple, (let m : point.state.number ≤ low c r (Installed p k root ∷ past) + span c = omega arith in m), (let m : point.state.number < 2 ^ 48 = omega arith in m))
      go (Executed p k batch) may move is was = kept (Executed p k batch) (cond (new.number % c.period == 0) (new ∷ leaves.0.snapshots) leaves.0.snapshots) (ap (λ (q : Point). q.snapshots) move) (by (new.number % c.period == 0) refl)
        where
          new : State
          new = execute c leaves.0.state batch

          by : (b : Bool) → (new.number % c.period == 0) ≡ b → Each (Fits (Executed p k batch ∷ past)) (cond b (new ∷ leaves.0.snapshots) leaves.0.snapshots)
          by true multiple = (fits_later (Executed p k batch) past new (eqb-true (new.number % c.period) 0 multiple, near, small), was)
            where
              inside : (k ≤ low c r past + span c) × (k < 2 ^ 48)
              inside = logged_within c r may.in_view k batch past (right_always c r past leaves.0 leaves.1) may.committed.prepared.logged

              number : new.number ≡ k
              number = executed_number c leaves.0.state batch ∙ sym may.next

              near : new.number ≤ low c r past + span c
              near = let i = inside.0 in let n = number in omega arith

              small : new.number < 2 ^ 48
              small = let i = inside.1 in let n = number in omega arith
          by false multiple = was

  -- ---- the low mark is a number

  low_number : (newer xs : List Entry) → history_of r trace ≡ newer ++ xs → (point : Point) → HistoryReaches c r xs point → low c r xs < 2 ^ 48
  unfolding low
  low_number newer [] splits point leaves = omega arith
  low_number newer (e ∷ past) splits point leaves =
      let a = low_number (newer ++ e ∷ []) past (splits ∙ sym (append_assoc newer (e ∷ []) past)) leaves.0 leaves.1 in
      let x = stable (checkpoint_in c e) refl in
      let y = installed e leaves.2.may (splits ∙ sym (append_assoc newer (e ∷ []) past)) in
      let z = started (taken c past e) refl in
      omega arith
    where
      stable : (o : Option (ℕ × CheckpointEntry)) → checkpoint_in c e ≡ o → option_map_or (λ (x : ℕ × CheckpointEntry). cond (is_stable c r (e ∷ past) x.1) x.1.number 0) o 0 < 2 ^ 48
      stable None is = omega arith
      stable (Some x) is = test (is_stable c r (e ∷ past) x.1)
        where
          test : (b : Bool) → cond b x.1.number 0 < 2 ^ 48
          test true =
              let k = and_then_some {B = ℕ × CheckpointEntry} checkpoint_from (brought c e) (x.0, x.1) is in
              ltb-true x.1.number (2 ^ 48) (checkpoint_said x.0 x.1 k.0.sender k.0.message k.2).small
          test false = omega arith

      installed : (e : Entry) → May c r past leaves.0 e → history_of r trace ≡ (newer ++ e ∷ []) ++ past → installed_at e < 2 ^ 48
      installed (Installed p k root) may is = wanted may.1
        where
          wanted : IsRootWanted c past k root → k < 2 ^ 48
          wanted (inl had) = (quorum_kept k root (newer ++ Installed p k root ∷ []) past is had).small
          wanted (inr starts) = (start_kept k root past starts).small
      installed _ may is = omega arith

      started : (o : Option NewViewData) → taken c past e ≡ o → option_map_or (λ (new : NewViewData). new.start) o 0 < 2 ^ 48
      started None is = omega arith
      started (Some new) is = (start_kept new.start new.root (e ∷ past) (inl (new, is, refl, refl))).small

  -- ---- the whole

  pub is_inside : (newer past : List Entry) → history_of r trace ≡ newer ++ past → (point behind : Point) → HistoryReaches c r past behind → behind.snapshots ≡ point.snapshots → (vc : ViewChangeData) → IsNewViewChange c r past point vc → is_within c vc ≡ true
  is_inside newer past splits point behind leaves same vc is_new = within_of_bounded c vc (record { view = view_small; low = low_small; prepared = prepared; pre_prepared = proposed; checkpoints = checkpoints })
    where
      view_small : vc.view < 2 ^ 48
      view_small = ltb-true vc.view (2 ^ 48) is_new.is_view

      entry : (e : BatchEntry) → (b : List ℕ) → logged c r past e.view e.number ≡ Some b → (low c r past < e.number) × (e.number ≤ low c r past + span c) × (is_number e.number ≡ true) → IsBatchEntryBounded c vc e
      entry e b h m =
          let v = logged_view c r e.view e.number b past (right_always c r past behind leaves) h in
          let a = is_new.above in
          let l = is_new.low in
          let x = m.0 in
          let y = m.1 in
          record { earlier = omega arith; above = omega arith; within = omega arith; number = ltb-true e.number (2 ^ 48) m.2 }

      prepared : (e : BatchEntry) → Has (λ x. x ≡ e) vc.prepared → IsBatchEntryBounded c vc e
      prepared e h = let l = is_new.prepared.listed e h in entry e l.0.0 l.0.1.logged (marks_parts c (low c r past) e.number l.1)

      proposed : (e : BatchEntry) → Has (λ x. x ≡ e) vc.pre_prepared → IsBatchEntryBounded c vc e
      proposed e h = let l = is_new.proposed.listed e h in entry e l.0.0 l.0.1 (marks_parts c (low c r past) e.number l.1)

      fits : Each (Fits past) point.snapshots
      fits = subst (λ (ss : List State). Each (Fits past) ss) same (snapshots_fit newer past splits behind leaves)

      low_small : vc.low < 2 ^ 48
      low_small = let l = low_number newer past splits behind leaves in let is = is_new.low in omega arith

      checkpoints : (m : CheckpointEntry) → Has (λ x. x ≡ m) vc.checkpoints → IsCheckpointBounded c vc m
      checkpoints m h = go (has_some (λ (st : State). checkpoint_of st ≡ m) (reverse (kept_states vc.low point.snapshots)) (has_map (λ x. x ≡ m) checkpoint_of (reverse (kept_states vc.low point.snapshots)) (subst (λ (ms : List CheckpointEntry). Has (λ x. x ≡ m) ms) is_new.checkpoints h)))
        where
          go : (st : State) × Has (λ y. y ≡ st) (reverse (kept_states vc.low point.snapshots)) × (checkpoint_of st ≡ m) → IsCheckpointBounded c vc m
          go st =
              let there = has_reverse (λ y. y ≡ st.0) (kept_states vc.low point.snapshots) st.1 in
              let f = each_has (Fits past) point.snapshots st.0 fits (has_filter (λ y. y ≡ st.0) (λ (x : State). nat_le vc.low x.number) point.snapshots there) in
              let k = kept_above vc.low point.snapshots st.0 there in
              let n : st.0.number ≡ m.number = ap (λ (x : CheckpointEntry). x.number) st.2 in
              let l = is_new.low in
              let y = f.1 in
              let z = f.2 in
              record { from = omega arith; within = omega arith; multiple = subst (λ (j : ℕ). j % c.period ≡ 0) n f.0; number = omega arith }

pub view_changes_are_within : ViewChangesAreWithin
view_changes_are_within c setting trace run unforged r correct later past splits point behind leaves same vc is_new = is_inside c setting trace run unforged r correct later past splits point behind leaves same vc is_new
