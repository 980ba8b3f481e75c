-- The definitions refuse a low mark below or above the number that was stable or installed, or that a new view started
-- at.
use Rattle.std.specs.Option.{option_map_or}
use Rattle.std.proofs.Common.{◌≡◌, ℕ, ◌+◌, ◌*◌, ◌≤◌, ◌⊎◌, inl, inr, Bool, true, false, cond, ◌&&◌, ◌||◌, List, [], ◌∷◌, take, max, bytes_eq, refl, sym, ap, ap₂, ◌∙◌, subst, arith, Option, Some, None, eqb-true, eq-eqb}
use Rattle.std.specs.Prelude.{◌==◌, nat_le}
use Rattle.std.proofs.lemmas.Bool.{and_parts, and_from, leb-true, leb-false, le-leb}
use Rattle.std.proofs.lemmas.Slice.Eq.{bytes_eq-Decides}
use Rattle.quorum.specs.Quorum.{count_below}
use Rattle.quorum.proofs.Counting.{count_mono}
use Rattle.protocol.specs.System.Configuration.{Configuration, replicas}
use Rattle.wire_format.specs.Messages.{NewViewData, CheckpointEntryData as CheckpointEntry}
use Rattle.protocol.specs.System.Trace.{Entry, Once, Has}
use Rattle.protocol.specs.System.Trace.Entry.{Installed}
use Rattle.protocol.specs.Replica.Selection.{is_quorum}
use Rattle.protocol.specs.Replica.Certificates.{taken, checkpoint_in, insert_checkpoint, with_checkpoint, checkpoints_of, lists_checkpoint, count_checkpoints, is_stable, stable_at, installed_at, started_at, low}
use Rattle.evidence.specs.RefusedMarks.{IsStable, InstallsNumber, IsMarkAt, LowIsNoLower, LowIsMarked}
use Rattle.protocol.proofs.Words.Temporal.{once_weaker, once_stays_from}
use Rattle.protocol.proofs.Agreement.Checkpoints.{checkpoints_with, no_checkpoints}
use Rattle.protocol.proofs.Agreement.Marks.{low_grows, takes}
use Rattle.protocol.proofs.Agreement.States.{has_insert, has_take, is_checkpoint}
use Rattle.protocol.proofs.Words.Elements.{has_of_any}

-- ---- checkpoint messages in a list

abbrev pub entry_of : ℕ → List ℕ → CheckpointEntry
entry_of k root = record { number = k; digest = root }

said_has : (k : ℕ) (root : List ℕ) (checkpoints : List CheckpointEntry) → lists_checkpoint (entry_of k root) checkpoints ≡ true → Has (λ (m : CheckpointEntry). (m.number ≡ k) × (m.digest ≡ root)) checkpoints
said_has k root checkpoints h =
    has_of_any (λ (m : CheckpointEntry). (m.number ≡ k) × (m.digest ≡ root)) (λ (m : CheckpointEntry). (m.number == k) && bytes_eq m.digest root)
    (λ m t. let p = and_parts (m.number == k) (bytes_eq m.digest root) t in (eqb-true m.number k p.0, (bytes_eq-Decides m.digest root).0 p.1)) checkpoints h

has_said : (k : ℕ) (root : List ℕ) (checkpoints : List CheckpointEntry) → Has (λ (m : CheckpointEntry). (m.number ≡ k) × (m.digest ≡ root)) checkpoints → lists_checkpoint (entry_of k root) checkpoints ≡ true
has_said k root [] h = absurd h
has_said k root (m ∷ checkpoints) (inl h) = rw (eq-eqb m.number k h.0, (bytes_eq-Decides m.digest root).1 h.1) refl
has_said k root (m ∷ checkpoints) (inr h) = go ((m.number == k) && bytes_eq m.digest root) (has_said k root checkpoints h)
  where
    go : (b : Bool) → lists_checkpoint (entry_of k root) checkpoints ≡ true → (b || lists_checkpoint (entry_of k root) checkpoints) ≡ true
    go true e = refl
    go false e = e

stable_of : (c : Configuration) (me : ℕ) (past : List Entry) (k : ℕ) (root : List ℕ) → IsStable c me past k root → is_stable c me past (entry_of k root) ≡ true
stable_of c me past k root h =
    let more : count_below h.from (replicas c) ≤ count_checkpoints c past (entry_of k root) =
    count_mono h.from (λ s. lists_checkpoint (entry_of k root) (checkpoints_of c past s)) (replicas c) (λ s within t. has_said k root (checkpoints_of c past s) (h.alike s t)) in
    let full = h.enough in
    and_from (is_quorum c (count_checkpoints c past (entry_of k root))) (lists_checkpoint (entry_of k root) (checkpoints_of c past me))
    (le-leb (2 * c.faults + 1) (count_checkpoints c past (entry_of k root)) (omega arith)) (has_said k root (checkpoints_of c past me) h.own)

of_stable : (c : Configuration) (me : ℕ) (past : List Entry) (checkpoint : CheckpointEntry) → is_stable c me past checkpoint ≡ true → IsStable c me past checkpoint.number checkpoint.digest
of_stable c me past checkpoint h =
    let p = and_parts (is_quorum c (count_checkpoints c past checkpoint)) (lists_checkpoint checkpoint (checkpoints_of c past me)) h in
    record {
      from = λ s. lists_checkpoint checkpoint (checkpoints_of c past s);
      enough = leb-true (2 * c.faults + 1) (count_checkpoints c past checkpoint) p.0;
      alike = λ s t. said_has checkpoint.number checkpoint.digest (checkpoints_of c past s) t;
      own = said_has checkpoint.number checkpoint.digest (checkpoints_of c past me) p.1;
    }

-- ---- no lower

low_with : (c : Configuration) (me : ℕ) (e : Entry) (past : List Entry) → low c me (e ∷ past) ≡ max (low c me past) (max (stable_at c me past e) (max (installed_at e) (started_at c past e)))
unfolding low
low_with c me e past = refl

pub low_at_first : (c : Configuration) (me : ℕ) → low c me [] ≡ 0
unfolding low
low_at_first c me = refl

-- if a list says a checkpoint after another one is added, the list said it before
said_before : (checkpoint : CheckpointEntry) (x : ℕ × CheckpointEntry) (s : ℕ) (checkpoints : List CheckpointEntry) → is_checkpoint checkpoint x.1 ≡ false → lists_checkpoint checkpoint (with_checkpoint s (Some x) checkpoints) ≡ true → lists_checkpoint checkpoint checkpoints ≡ true
said_before checkpoint x s checkpoints other h = go (x.0 == s) h
  where
    pick : (is_checkpoint checkpoint x.1 ≡ true) ⊎ (lists_checkpoint checkpoint checkpoints ≡ true) → lists_checkpoint checkpoint checkpoints ≡ true
    pick (inl same) = absurd (let bad : false ≡ true = sym other ∙ same in cc)
    pick (inr was) = was

    go : (b : Bool) → lists_checkpoint checkpoint (cond b (take 3 (insert_checkpoint x.1 checkpoints)) checkpoints) ≡ true → lists_checkpoint checkpoint checkpoints ≡ true
    go true k = pick (has_insert checkpoint x.1 checkpoints (has_take checkpoint 3 (insert_checkpoint x.1 checkpoints) k))
    go false k = k

-- a checkpoint that becomes stable here is at most the low mark
stable_here : (c : Configuration) (me : ℕ) (checkpoint : CheckpointEntry) (x : ℕ × CheckpointEntry) (e : Entry) (past : List Entry) → checkpoint_in c e ≡ Some x → x.1 ≡ checkpoint → is_stable c me (e ∷ past) checkpoint ≡ true
    → checkpoint.number ≤ low c me (e ∷ past)
stable_here c me checkpoint x e past is same h =
    let made : stable_at c me past e ≡ checkpoint.number =
    ap (λ (o : Option (ℕ × CheckpointEntry)). option_map_or (λ (y : ℕ × CheckpointEntry). cond (is_stable c me (e ∷ past) y.1) y.1.number 0) o 0) is
    ∙ ap (λ (m : CheckpointEntry). cond (is_stable c me (e ∷ past) m) m.number 0) same ∙ ap (λ (b : Bool). cond b checkpoint.number 0) h in
    let grown = low_with c me e past in
    omega arith

low_stable : (c : Configuration) (me : ℕ) (checkpoint : CheckpointEntry) (xs : List Entry) → is_stable c me xs checkpoint ≡ true → checkpoint.number ≤ low c me xs
low_stable c me checkpoint [] h =
    let own = (and_parts (is_quorum c (count_checkpoints c [] checkpoint)) (lists_checkpoint checkpoint (checkpoints_of c [] me)) h).1 in
    absurd (let bad : false ≡ true = sym (ap (lists_checkpoint checkpoint) (no_checkpoints c me)) ∙ own in cc)
low_stable c me checkpoint (e ∷ past) h = go (checkpoint_in c e) refl (low_stable c me checkpoint past)
  where
    parts : (is_quorum c (count_checkpoints c (e ∷ past) checkpoint) ≡ true) × (lists_checkpoint checkpoint (checkpoints_of c (e ∷ past) me) ≡ true)
    parts = and_parts (is_quorum c (count_checkpoints c (e ∷ past) checkpoint)) (lists_checkpoint checkpoint (checkpoints_of c (e ∷ past) me)) h

    before : ((s : ℕ) → lists_checkpoint checkpoint (checkpoints_of c (e ∷ past) s) ≡ true → lists_checkpoint checkpoint (checkpoints_of c past s) ≡ true) → is_stable c me past checkpoint ≡ true
    before f =
        let full = leb-true (2 * c.faults + 1) (count_checkpoints c (e ∷ past) checkpoint) parts.0 in
        let more : count_checkpoints c (e ∷ past) checkpoint ≤ count_checkpoints c past checkpoint =
        count_mono (λ s. lists_checkpoint checkpoint (checkpoints_of c (e ∷ past) s)) (λ s. lists_checkpoint checkpoint (checkpoints_of c past s)) (replicas c) (λ s within t. f s t) in
        and_from (is_quorum c (count_checkpoints c past checkpoint)) (lists_checkpoint checkpoint (checkpoints_of c past me))
        (le-leb (2 * c.faults + 1) (count_checkpoints c past checkpoint) (omega arith)) (f me parts.1)

    was : (o : Option (ℕ × CheckpointEntry)) → checkpoint_in c e ≡ o → ((s : ℕ) → lists_checkpoint checkpoint (with_checkpoint s o (checkpoints_of c past s)) ≡ true → lists_checkpoint checkpoint (checkpoints_of c past s) ≡ true)
        → (is_stable c me past checkpoint ≡ true → checkpoint.number ≤ low c me past) → checkpoint.number ≤ low c me (e ∷ past)
    was o is f below =
        let r = below (before (λ s t. f s (sym (ap (λ (y : Option (ℕ × CheckpointEntry)). lists_checkpoint checkpoint (with_checkpoint s y (checkpoints_of c past s))) is) ∙ sym (ap (lists_checkpoint checkpoint) (checkpoints_with c e past s)) ∙ t))) in
        let grows = low_grows c me e past in
        omega arith

    same_checkpoint : (m : CheckpointEntry) → is_checkpoint checkpoint m ≡ true → m ≡ checkpoint
    same_checkpoint m t =
        let p = and_parts (m.number == checkpoint.number) (bytes_eq m.digest checkpoint.digest) t in
        ap₂ (λ (n : ℕ) (d : List ℕ). entry_of n d) (eqb-true m.number checkpoint.number p.0) ((bytes_eq-Decides m.digest checkpoint.digest).0 p.1)

    go : (o : Option (ℕ × CheckpointEntry)) → checkpoint_in c e ≡ o → (is_stable c me past checkpoint ≡ true → checkpoint.number ≤ low c me past) → checkpoint.number ≤ low c me (e ∷ past)
    go None is below = was None is (λ s t. t) below
    go (Some x) is below = pick (is_checkpoint checkpoint x.1) refl
      where
        pick : (b : Bool) → is_checkpoint checkpoint x.1 ≡ b → checkpoint.number ≤ low c me (e ∷ past)
        pick true same = stable_here c me checkpoint x e past is (same_checkpoint x.1 same) h
        pick false other = was (Some x) is (λ s t. said_before checkpoint x s (checkpoints_of c past s) other t) below

marked_low : (c : Configuration) (me k : ℕ) (past : List Entry) (e : Entry) → IsMarkAt c me k past e → k ≤ low c me (e ∷ past)
marked_low c me k past e (inl h) = low_stable c me (entry_of k h.0) (e ∷ past) (stable_of c me (e ∷ past) k h.0 h.1)
marked_low c me k past e (inr (inr h)) =
    let start = (takes c me past e h.0 h.1).low_is in
    let is = h.2 in
    omega arith
marked_low c me k past e (inr (inl h)) = go e h (low_with c me e past)
  where
    go : (e : Entry) → InstallsNumber k e → low c me (e ∷ past) ≡ max (low c me past) (max (stable_at c me past e) (max (installed_at e) (started_at c past e))) → k ≤ low c me (e ∷ past)
    go (Installed x y z) is grown = omega arith
    go _ is grown = absurd is

pub low_is_no_lower : LowIsNoLower
low_is_no_lower c me k past h =
    once_stays_from (λ x. k ≤ low c me x) (λ e x t. let grows = low_grows c me e x in omega arith) past
    (once_weaker (IsMarkAt c me k) (λ x e. k ≤ low c me (e ∷ x)) (marked_low c me k) past h)

-- ---- no higher

max_is : (x y : ℕ) → (max x y ≡ x) ⊎ (max x y ≡ y)
max_is x y = go (nat_le x y) refl
  where
    go : (b : Bool) → nat_le x y ≡ b → (max x y ≡ x) ⊎ (max x y ≡ y)
    go true e = let l = leb-true x y e in inr (omega arith)
    go false e = let l = leb-false x y e in inl (omega arith)

by_stable : (c : Configuration) (me : ℕ) (past : List Entry) (e : Entry) → (stable_at c me past e ≡ 0) ⊎ IsMarkAt c me (stable_at c me past e) past e
by_stable c me past e = go (checkpoint_in c e) refl
  where
    at : Option (ℕ × CheckpointEntry) → ℕ
    at o = option_map_or (λ (y : ℕ × CheckpointEntry). cond (is_stable c me (e ∷ past) y.1) y.1.number 0) o 0

    go : (o : Option (ℕ × CheckpointEntry)) → checkpoint_in c e ≡ o → (stable_at c me past e ≡ 0) ⊎ IsMarkAt c me (stable_at c me past e) past e
    go None is = inl (ap at is)
    go (Some x) is = pick (is_stable c me (e ∷ past) x.1) refl
      where
        pick : (b : Bool) → is_stable c me (e ∷ past) x.1 ≡ b → (stable_at c me past e ≡ 0) ⊎ IsMarkAt c me (stable_at c me past e) past e
        pick true t =
            let made : x.1.number ≡ stable_at c me past e = sym (ap at is ∙ ap (λ (b : Bool). cond b x.1.number 0) t) in
            inr (subst (λ (n : ℕ). IsMarkAt c me n past e) made (inl (x.1.digest, of_stable c me (e ∷ past) x.1 t)))
        pick false t = inl (ap at is ∙ ap (λ (b : Bool). cond b x.1.number 0) t)

by_installed : (c : Configuration) (me : ℕ) (past : List Entry) (e : Entry) → (installed_at e ≡ 0) ⊎ IsMarkAt c me (installed_at e) past e
by_installed c me past (Installed x y z) = inr (inr (inl refl))
by_installed c me past _ = inl refl

by_started : (c : Configuration) (me : ℕ) (past : List Entry) (e : Entry) → (started_at c past e ≡ 0) ⊎ IsMarkAt c me (started_at c past e) past e
by_started c me past e = go (taken c past e) refl
  where
    at : Option NewViewData → ℕ
    at o = option_map_or (λ (new : NewViewData). new.start) o 0

    go : (o : Option NewViewData) → taken c past e ≡ o → (started_at c past e ≡ 0) ⊎ IsMarkAt c me (started_at c past e) past e
    go None is = inl (ap at is)
    go (Some new) is = inr (inr (inr (new, is, sym (ap at is))))

pub low_is_marked : LowIsMarked
low_is_marked c me [] = inl (low_at_first c me)
low_is_marked c me (e ∷ past) = from (max_is (low c me past) (max (stable_at c me past e) (max (installed_at e) (started_at c past e)))) (low_is_marked c me past)
  where
    here : (n : ℕ) → (n ≡ 0) ⊎ IsMarkAt c me n past e → low c me (e ∷ past) ≡ n → (low c me (e ∷ past) ≡ 0) ⊎ Once (IsMarkAt c me (low c me (e ∷ past))) (e ∷ past)
    here n (inl none) is = inl (is ∙ none)
    here n (inr checkpoint) is = inr (inl (subst (λ (m : ℕ). IsMarkAt c me m past e) (sym is) checkpoint))

    last : (max (installed_at e) (started_at c past e) ≡ installed_at e) ⊎ (max (installed_at e) (started_at c past e) ≡ started_at c past e)
        → low c me (e ∷ past) ≡ max (installed_at e) (started_at c past e) → (low c me (e ∷ past) ≡ 0) ⊎ Once (IsMarkAt c me (low c me (e ∷ past))) (e ∷ past)
    last (inl k) is = here (installed_at e) (by_installed c me past e) (is ∙ k)
    last (inr k) is = here (started_at c past e) (by_started c me past e) (is ∙ k)

    rest : (max (stable_at c me past e) (max (installed_at e) (started_at c past e)) ≡ stable_at c me past e)
        ⊎ (max (stable_at c me past e) (max (installed_at e) (started_at c past e)) ≡ max (installed_at e) (started_at c past e))
        → low c me (e ∷ past) ≡ max (stable_at c me past e) (max (installed_at e) (started_at c past e)) → (low c me (e ∷ past) ≡ 0) ⊎ Once (IsMarkAt c me (low c me (e ∷ past))) (e ∷ past)
    rest (inl k) is = here (stable_at c me past e) (by_stable c me past e) (is ∙ k)
    rest (inr k) is = last (max_is (installed_at e) (started_at c past e)) (is ∙ k)

    from : (max (low c me past) (max (stable_at c me past e) (max (installed_at e) (started_at c past e))) ≡ low c me past)
        ⊎ (max (low c me past) (max (stable_at c me past e) (max (installed_at e) (started_at c past e))) ≡ max (stable_at c me past e) (max (installed_at e) (started_at c past e)))
        → (low c me past ≡ 0) ⊎ Once (IsMarkAt c me (low c me past)) past → (low c me (e ∷ past) ≡ 0) ⊎ Once (IsMarkAt c me (low c me (e ∷ past))) (e ∷ past)
    from (inl k) (inl none) = inl (low_with c me e past ∙ k ∙ none)
    from (inl k) (inr was) = inr (inr (subst (λ (m : ℕ). Once (IsMarkAt c me m) past) (sym (low_with c me e past ∙ k)) was))
    from (inr k) was = rest (max_is (stable_at c me past e) (max (installed_at e) (started_at c past e))) (low_with c me e past ∙ k)
