-- The definitions refuse a frame that answers an input that is to be dropped.
use Rattle.std.specs.List.{list_any}
use Rattle.std.proofs.Common.{◌≡◌, ◌≢◌, ◌^◌, ◌+◌, ℕ, max, not, ◌≤◌, ◌<◌, ◌⊎◌, inl, inr, Bool, true, false, cond, ◌&&◌, ◌||◌, List, [], ◌∷◌, refl, sym, ap, ◌∙◌, subst, arith, Option, Some, None, eqb-true, eq-eqb}
use Rattle.std.specs.Prelude.{◌==◌, nat_lt, option_and_then, take}
use Rattle.std.specs.Option.{option_map_or}
use Rattle.std.proofs.lemmas.Bool.{and_parts, ltb-false, ltb-true}
use Rattle.tuple_codec.specs.Operations.{Operation}
use Rattle.partition_tree.specs.Digests.{digest_of_children}
use Rattle.std.specs.Bool.{then_some}
use Rattle.protocol.specs.System.Configuration.{Configuration, primary, is_number, members}
use Rattle.terms.specs.declared.order.Mode.TheVariants as modes
use Rattle.terms.specs.declared.state.Level.TheVariants as levels
use Rattle.wire_format.specs.Messages.{BodyData as Body, MessageData as Message, ViewChangeData, CheckpointEntryData as CheckpointEntry, request as Request, pre_prepare as PrePrepare, prepare as Prepare, commit as Commit, checkpoint as Checkpoint, view_change as ViewChange, new_view as NewView, fetch as Fetch, meta as Meta, page as Page}
use Rattle.signing.specs.AuthenticBody.{authentic}
use Rattle.protocol.specs.System.Trace.{Entry, Has}
use Rattle.protocol.specs.System.Trace.Entry.{Invoke, Got, Sent}
use Rattle.protocol.specs.Replica.Selection.{is_within}
use Rattle.protocol.specs.Replica.Certificates.{view, change_taken, latest_change, low, is_active_in, is_in_marks, batch_from, are_genuine, prepare_from, commit_from, vote_in, checkpoint_from, checkpoint_in, insert_checkpoint, with_checkpoint, checkpoints_of}
use Rattle.reply_cache.specs.Replies.{Kept}
use Rattle.protocol.specs.Replica.State.{State, Call, last_time}
use Rattle.protocol.specs.Replica.RightReplica.{Point, HistoryReaches, kept_states, IsRootWanted}
use Rattle.protocol.specs.Replica.Owed.{Owes, Counts, IsReplica, IsNoOlder, has_number}
use Rattle.evidence.specs.RefusedChanges.{FrameAnswersInput, GotChange, IsNoRoot, DropsWrites, DropsRequestsOfReplicas, DropsOldRequests, DropsPassedRequests, DropsPrePreparesOfBackups, DropsPrePreparesWhileInactive, DropsPrePreparesOutsideMarks, DropsSecondPrePrepares, DropsPreparesOfPrimaries, DropsPreparesWhileInactive, DropsSecondPrepares, DropsCommitsWhileInactive, DropsSecondCommits, DropsLowCheckpoints, DropsCheckpointsOfNoNumber, DropsSecondCheckpoints, DropsPassedCheckpoints, DropsLowChanges, DropsUnboundChanges, DropsPassedChanges, DropsNewViews, DropsFetches, DropsLowDigests, DropsLowPages, DropsOtherRoots, DropsOtherDigests, DropsOtherPages}
use Rattle.protocol.proofs.Words.Temporal.{once_weaker, once_stays_from}
use Rattle.protocol.proofs.Words.Options.{then_some_gives, some_injective}
use Rattle.protocol.proofs.Agreement.Marks.{view_grows}
use Rattle.protocol.proofs.Words.Reacting.{proceeds_leaves}
use Rattle.evidence.proofs.Refusing.{newest_state}
use Rattle.protocol.proofs.Words.Elements.{has_some}
use Rattle.protocol.proofs.Agreement.Checkpoints.{checkpoints_with}

-- ---- an input that is answered counts

record Event (c : Configuration) (me : ℕ) (bytes : List ℕ) (past outputs : List Entry) : Type 0 where
  old : Point
  before : HistoryReaches c me past old
  new : Point
  now : List Entry
  owes : Owes c me past (Got me bytes) outputs now old new

event : (c : Configuration) (me : ℕ) (bytes later : List ℕ) (past : List Entry) → IsReplica c me (Sent me later ∷ Got me bytes ∷ past) → Event c me bytes past (Sent me later ∷ [])
event c me bytes later past (inl h) = record { old = _; before = proceeds_leaves c me past [] _ _ h.1.2.2.1; new = _; now = _; owes = h.1.2.2.0 }
event c me bytes later past (inr h) = absurd h.1

answered : (c : Configuration) (me s : ℕ) (message : Message) (bytes : List ℕ) (past : List Entry) (a : FrameAnswersInput c me s message bytes past)
    → ((point : Point) → HistoryReaches c me past point → Counts c me past point bytes s message → ⊥) → ⊥
answered c me s message bytes past a never =
    let e = event c me bytes a.later past a.is_replica in
    let none : Sent me a.later ∷ [] ≡ [] = e.owes.dropped bytes refl (λ other is k.
    never e.old e.before (subst (λ (x : Body). Counts c me past e.old bytes x.sender x.message) (some_injective other (record { sender = s; message = message }) (sym is ∙ a.receives)) k)) in
    absurd cc

-- ---- requests

pub drops_writes : DropsWrites
drops_writes c me s timestamp op bytes past write a =
    answered c me s (Request timestamp modes.ReadOnly op) bytes past a (λ point leaves k. absurd (let bad : false ≡ true = sym write ∙ k in cc))

pub drops_requests_of_replicas : DropsRequestsOfReplicas
drops_requests_of_replicas c me s timestamp op bytes past small a =
    answered c me s (Request timestamp modes.Ordered op) bytes past a (λ point leaves k. let is : s ≡ 256 + k.0 = k.1 in absurd (omega arith))

-- an ordered request that counts is the last that ran, or newer than it and no older than those that wait
ordered_counts : (c : Configuration) (me k timestamp : ℕ) (op : Operation) (bytes : List ℕ) (past : List Entry) (point : Point)
    → Counts c me past point bytes (256 + k) (Request timestamp modes.Ordered op)
    → (last_time point.state k ≡ timestamp) ⊎ ((last_time point.state k < timestamp) × IsNoOlder point.waiting k timestamp op)
ordered_counts c me k timestamp op bytes past point (n, is, inl x) =
    let same : k ≡ n = (let e : 256 + k ≡ 256 + n = is in omega arith) in
    inl (ap (last_time point.state) same ∙ (ap (λ (o : Option Kept). option_map_or (λ (x : Kept). x.timestamp) o 0) x.1) ∙ x.2)
ordered_counts c me k timestamp op bytes past point (n, is, inr x) =
    let same : k ≡ n = (let e : 256 + k ≡ 256 + n = is in omega arith) in
    inr (subst (λ (m : ℕ). (last_time point.state m < timestamp) × IsNoOlder point.waiting m timestamp op) (sym same) x)

pub drops_old_requests : DropsOldRequests
drops_old_requests c me k timestamp op bytes past old a =
    answered c me (256 + k) (Request timestamp modes.Ordered op) bytes past a (λ point leaves counts. go point (old point leaves) (ordered_counts c me k timestamp op bytes past point counts))
  where
    go : (point : Point) → timestamp < last_time point.state k → (last_time point.state k ≡ timestamp) ⊎ ((last_time point.state k < timestamp) × IsNoOlder point.waiting k timestamp op) → ⊥
    go point above (inl same) = absurd (omega arith)
    go point above (inr x) = let newer = x.0 in absurd (omega arith)

pub drops_passed_requests : DropsPassedRequests
drops_passed_requests c me k timestamp op bytes past passed a =
    answered c me (256 + k) (Request timestamp modes.Ordered op) bytes past a (λ point leaves counts. let p = passed point leaves in go point p.0 p.1 (ordered_counts c me k timestamp op bytes past point counts))
  where
    among : (calls : List Call) → Has (λ (call : Call). (call.client ≡ k) × (timestamp ≤ call.timestamp) × (call.timestamp ≡ timestamp → call.op ≢ op)) calls → IsNoOlder calls k timestamp op → ⊥
    among [] h older = h
    among (call ∷ calls) (inr h) older = among calls h older.1
    among (call ∷ calls) (inl h) older = pick (older.0 h.0)
      where
        pick : (call.timestamp < timestamp) ⊎ ((call.timestamp ≡ timestamp) × (call.op ≡ op)) → ⊥
        pick (inl below) = let above = h.1 in absurd (omega arith)
        pick (inr x) = h.2 x.0 x.1

    go : (point : Point) → last_time point.state k ≢ timestamp → Has (λ (call : Call). (call.client ≡ k) × (timestamp ≤ call.timestamp) × (call.timestamp ≡ timestamp → call.op ≢ op)) point.waiting
        → (last_time point.state k ≡ timestamp) ⊎ ((last_time point.state k < timestamp) × IsNoOlder point.waiting k timestamp op) → ⊥
    go point other has (inl same) = other same
    go point other has (inr x) = among point.waiting has x.1

-- ---- ordering messages

-- a message gives a value for a number only while the view is active and the number is in the marks
record Given (c : Configuration) (me : ℕ) (past : List Entry) (v i : ℕ) (body : Body) (emit : Body → Option (List ℕ)) (given : List ℕ) : Type 0 where
  active : is_active_in c past v ≡ true
  in_marks : is_in_marks c (low c me past) i ≡ true
  gives : emit body ≡ Some given

given_at : (c : Configuration) (me : ℕ) (past : List Entry) (v i : ℕ) (bytes : List ℕ) (body : Body) (emit : Body → Option (List ℕ)) (given : List ℕ)
    → authentic (members c me) me bytes ≡ Some body → vote_in c me past (Got me bytes) emit v i ≡ Some given → Given c me past v i body emit given
given_at c me past v i bytes body emit given receives h = go (is_active_in c past v) (is_in_marks c (low c me past) i) refl refl h
  where
    go : (b d : Bool) → is_active_in c past v ≡ b → is_in_marks c (low c me past) i ≡ d → cond (b && d) (option_and_then emit (authentic (members c me) me bytes)) None ≡ Some given
        → Given c me past v i body emit given
    go true true e f k = record { active = e; in_marks = f; gives = sym (ap (option_and_then emit) receives) ∙ k }
    go true false e f k = absurd cc
    go false d e f k = absurd cc

pub drops_pre_prepares_of_backups : DropsPrePreparesOfBackups
drops_pre_prepares_of_backups c me s v i batch bytes past other a =
    answered c me s (PrePrepare v i batch) bytes past a (λ point leaves k.
    let g = given_at c me past v i bytes (record { sender = s; message = PrePrepare v i batch }) (batch_from c me v i) batch a.receives k.0 in
    let t = then_some_gives ((v == v) && (i == i) && (s == primary c v) && are_genuine c me batch) batch batch g.gives in
    let p = and_parts ((v == v) && (i == i) && (s == primary c v)) (are_genuine c me batch) t.0 in
    other (sym (eqb-true s (primary c v) (and_parts ((v == v) && (i == i)) (s == primary c v) p.0).1)))

pub drops_pre_prepares_while_inactive : DropsPrePreparesWhileInactive
drops_pre_prepares_while_inactive c me s v i batch bytes past idle a =
    answered c me s (PrePrepare v i batch) bytes past a (λ point leaves k.
    let g = given_at c me past v i bytes (record { sender = s; message = PrePrepare v i batch }) (batch_from c me v i) batch a.receives k.0 in
    (absurd (let bad : false ≡ true = sym idle ∙ g.active in cc)))

pub drops_pre_prepares_outside_marks : DropsPrePreparesOutsideMarks
drops_pre_prepares_outside_marks c me s v i batch bytes past outside a =
    answered c me s (PrePrepare v i batch) bytes past a (λ point leaves k.
    let g = given_at c me past v i bytes (record { sender = s; message = PrePrepare v i batch }) (batch_from c me v i) batch a.receives k.0 in
    absurd (let bad : false ≡ true = sym outside ∙ g.in_marks in cc))

pub drops_second_pre_prepares : DropsSecondPrePrepares
drops_second_pre_prepares c me s v i batch other bytes past is a =
    answered c me s (PrePrepare v i batch) bytes past a (λ point leaves k. absurd (let bad : Some other ≡ None = sym is ∙ k.1 in cc))

pub drops_prepares_of_primaries : DropsPreparesOfPrimaries
drops_prepares_of_primaries c me s v i digest bytes past is a =
    answered c me s (Prepare v i digest) bytes past a (λ point leaves k.
    let g = given_at c me past v i bytes (record { sender = s; message = Prepare v i digest }) (prepare_from c s v i) digest a.receives k.0 in
    let t = then_some_gives ((s == s) && (v == v) && (i == i) && not (s == primary c v)) digest digest g.gives in
    let p = and_parts ((s == s) && (v == v) && (i == i)) (not (s == primary c v)) t.0 in
    absurd (let bad : not true ≡ true = subst (λ (b : Bool). not b ≡ true) (eq-eqb s (primary c v) (sym is)) p.1 in cc))

pub drops_prepares_while_inactive : DropsPreparesWhileInactive
drops_prepares_while_inactive c me s v i digest bytes past idle a =
    answered c me s (Prepare v i digest) bytes past a (λ point leaves k.
    let g = given_at c me past v i bytes (record { sender = s; message = Prepare v i digest }) (prepare_from c s v i) digest a.receives k.0 in
    (absurd (let bad : false ≡ true = sym idle ∙ g.active in cc)))

pub drops_second_prepares : DropsSecondPrepares
drops_second_prepares c me s v i digest first bytes past is a =
    answered c me s (Prepare v i digest) bytes past a (λ point leaves k. absurd (let bad : Some first ≡ None = sym is ∙ k.1 in cc))

pub drops_commits_while_inactive : DropsCommitsWhileInactive
drops_commits_while_inactive c me s v i digest bytes past idle a =
    answered c me s (Commit v i digest) bytes past a (λ point leaves k.
    let g = given_at c me past v i bytes (record { sender = s; message = Commit v i digest }) (commit_from s v i) digest a.receives k.0 in
    (absurd (let bad : false ≡ true = sym idle ∙ g.active in cc)))

pub drops_second_commits : DropsSecondCommits
drops_second_commits c me s v i digest first bytes past is a =
    answered c me s (Commit v i digest) bytes past a (λ point leaves k. absurd (let bad : Some first ≡ None = sym is ∙ k.1 in cc))

-- ---- checkpoints

pub drops_low_checkpoints : DropsLowCheckpoints
drops_low_checkpoints c me s k root bytes past below a =
    answered c me s (Checkpoint k root) bytes past a (λ point leaves counts. let above = counts.0 in absurd (omega (arith, below)))

pub drops_checkpoints_of_no_number : DropsCheckpointsOfNoNumber
drops_checkpoints_of_no_number c me s k root bytes past large a =
    answered c me s (Checkpoint k root) bytes past a (λ point leaves counts. let few = ltb-true k (2 ^ 48) counts.1 in absurd (omega (arith, large)))

numbered : (k : ℕ) (checkpoints : List CheckpointEntry) → Has (λ (checkpoint : CheckpointEntry). checkpoint.number ≡ k) checkpoints → has_number k checkpoints ≡ true
numbered k [] h = absurd h
numbered k (checkpoint ∷ checkpoints) (inl h) = rw (eq-eqb checkpoint.number k h) refl
numbered k (checkpoint ∷ checkpoints) (inr h) = go (checkpoint.number == k) (numbered k checkpoints h)
  where
    go : (b : Bool) → list_any (λ (m : CheckpointEntry). m.number == k) checkpoints ≡ true → (b || list_any (λ (m : CheckpointEntry). m.number == k) checkpoints) ≡ true
    go true e = refl
    go false e = e

pub drops_second_checkpoints : DropsSecondCheckpoints
drops_second_checkpoints c me s k root bytes past has a =
    answered c me s (Checkpoint k root) bytes past a (λ point leaves counts.
    absurd (let bad : false ≡ true = sym counts.2 ∙ numbered k (checkpoints_of c past s) has in cc))

pub drops_passed_checkpoints : DropsPassedCheckpoints
drops_passed_checkpoints c me s k root bytes a b d past are below first second answers =
    answered c me s (Checkpoint k root) bytes past answers (λ point leaves counts. none counts.1 counts.3)
  where
    checkpoint : CheckpointEntry
    checkpoint = record { number = k; digest = root }

    kept : take 3 (insert_checkpoint checkpoint (a ∷ b ∷ d ∷ [])) ≡ a ∷ b ∷ d ∷ []
    kept = go (a.number == k) (nat_lt a.number k) (b.number == k) (nat_lt b.number k) (d.number == k) (nat_lt d.number k) refl refl refl refl refl refl
      where
        go : (p q r t u w : Bool) → (a.number == k) ≡ p → nat_lt a.number k ≡ q → (b.number == k) ≡ r → nat_lt b.number k ≡ t → (d.number == k) ≡ u → nat_lt d.number k ≡ w
            → take 3 (cond p (a ∷ b ∷ d ∷ []) (cond q (checkpoint ∷ a ∷ b ∷ d ∷ []) (a ∷ cond r (b ∷ d ∷ []) (cond t (checkpoint ∷ b ∷ d ∷ []) (b ∷ cond u (d ∷ []) (cond w (checkpoint ∷ d ∷ []) (d ∷ checkpoint ∷ []))))))) ≡ a ∷ b ∷ d ∷ []
        go true q r t u w e0 e1 e2 e3 e4 e5 = refl
        go false true r t u w e0 e1 e2 e3 e4 e5 = let l = ltb-true a.number k e1 in absurd (omega arith)
        go false false true t u w e0 e1 e2 e3 e4 e5 = refl
        go false false false true u w e0 e1 e2 e3 e4 e5 = let l = ltb-true b.number k e3 in absurd (omega arith)
        go false false false false true w e0 e1 e2 e3 e4 e5 = refl
        go false false false false false true e0 e1 e2 e3 e4 e5 = let l = ltb-true d.number k e5 in absurd (omega arith)
        go false false false false false false e0 e1 e2 e3 e4 e5 = refl

    brings : is_number k ≡ true → checkpoint_in c (Got me bytes) ≡ Some (s, checkpoint)
    brings is = ap (option_and_then checkpoint_from) answers.receives ∙ ap (λ (x : Bool). then_some x (s, checkpoint)) is

    now : is_number k ≡ true → checkpoints_of c (Got me bytes ∷ past) s ≡ a ∷ b ∷ d ∷ []
    now is =
        checkpoints_with c (Got me bytes) past s ∙ ap (λ (o : Option (ℕ × CheckpointEntry)). with_checkpoint s o (checkpoints_of c past s)) (brings is)
        ∙ ap (λ (x : Bool). cond x (take 3 (insert_checkpoint checkpoint (checkpoints_of c past s))) (checkpoints_of c past s)) (eq-eqb s s refl)
        ∙ ap (λ (ms : List CheckpointEntry). take 3 (insert_checkpoint checkpoint ms)) are ∙ kept

    lacks : has_number k (a ∷ b ∷ d ∷ []) ≡ true → ⊥
    lacks h = go (a.number == k) (b.number == k) (d.number == k) refl refl refl h
      where
        go : (p q r : Bool) → (a.number == k) ≡ p → (b.number == k) ≡ q → (d.number == k) ≡ r → (p || (q || (r || false))) ≡ true → ⊥
        go true q r e f g h = let l = eqb-true a.number k e in absurd (omega arith)
        go false true r e f g h = let l = eqb-true b.number k f in absurd (omega arith)
        go false false true e f g h = let l = eqb-true d.number k g in absurd (omega arith)
        go false false false e f g h = absurd cc

    none : is_number k ≡ true → has_number k (checkpoints_of c (Got me bytes ∷ past) s) ≡ true → ⊥
    none is h = lacks (subst (λ (ms : List CheckpointEntry). has_number k ms ≡ true) (now is) h)

-- ---- view changes

pub drops_low_changes : DropsLowChanges
drops_low_changes c me s vc bytes past below a =
    answered c me s (ViewChange vc) bytes past a (λ point leaves counts. let above = counts.0 in absurd (omega (arith, below)))

pub drops_unbound_changes : DropsUnboundChanges
drops_unbound_changes c me s vc bytes past unbound a =
    answered c me s (ViewChange vc) bytes past a (λ point leaves counts. absurd (let bad : false ≡ true = sym unbound ∙ counts.1 in cc))

-- a received view change's view is at most the sender's latest known view or the replica's view
got_counts : (c : Configuration) (s : ℕ) (vc : ViewChangeData) (x : List Entry) (e : Entry) → GotChange c s vc x e → vc.view ≤ max (latest_change c (e ∷ x) s) (view c (e ∷ x))
got_counts c s vc x (Got p sent) t =
    let grows = view_grows c (Got p sent) x in
    let r = counts (view c x) in
    omega arith
  where
    counts : (v : ℕ) → vc.view ≤ max (change_taken c v s sent) v
    counts v =
        let is : change_taken c v s sent ≡ cond ((s == s) && nat_lt v vc.view && is_within c vc) vc.view 0
        = ap (λ (o : Option (ℕ × ViewChangeData)). option_map_or (λ (y : ℕ × ViewChangeData). cond ((y.0 == s) && nat_lt v y.1.view && is_within c y.1) y.1.view 0) o 0) t.0 in
        let r = go (s == s) (nat_lt v vc.view) (is_within c vc) (eq-eqb s s refl) t.1 (λ k. ltb-false v vc.view k) in
        subst (λ (n : ℕ). vc.view ≤ max n v) (sym is) r
      where
        go : (a b d : Bool) → a ≡ true → d ≡ true → (b ≡ false → vc.view ≤ v) → vc.view ≤ max (cond (a && b && d) vc.view 0) v
        go true true true ea ed f = omega arith
        go true false true ea ed f = let l = f refl in omega arith
        go true b false ea ed f = absurd cc
        go false b d ea ed f = absurd cc
got_counts c s vc x (Invoke a b d) t = absurd t
got_counts c s vc x _ t = absurd t

pub drops_passed_changes : DropsPassedChanges
drops_passed_changes c me s vc earlier bytes past got below a =
    answered c me s (ViewChange vc) bytes past a (λ point leaves counts. let newer = counts.2 in late counts.0 (omega arith))
  where
    late : view c past < vc.view → latest_change c past s < vc.view → ⊥
    late above newer =
        let r = once_stays_from (λ x. earlier.view ≤ max (latest_change c x s) (view c x)) (λ e x k. let grows = view_grows c e x in omega arith) past
        (once_weaker (GotChange c s earlier) (λ x e. earlier.view ≤ max (latest_change c (e ∷ x) s) (view c (e ∷ x))) (got_counts c s earlier) past got) in
        absurd (omega (arith, below))

pub drops_new_views : DropsNewViews
drops_new_views c me s new bytes past none a =
    answered c me s (NewView new) bytes past a (λ point leaves counts. absurd (let bad = sym none ∙ counts in cc))

-- ---- parts of states

pub drops_fetches : DropsFetches
drops_fetches c me s k index level bytes past none a =
    answered c me s (Fetch k level index) bytes past a (λ point leaves counts.
    let x = has_some (λ (st : State). (st.number ≡ k) × Rattle.std.specs.Prelude.⊤) (kept_states (low c me past) point.snapshots) counts in
    none point leaves x.0 x.1 x.2.0)

pub drops_low_digests : DropsLowDigests
drops_low_digests c me s k index level digests bytes past below a =
    answered c me s (Meta k level index digests) bytes past a (λ point leaves counts.
    let is = newest_state c me past point leaves in let above = counts.1 in absurd (omega (arith, below)))

pub drops_low_pages : DropsLowPages
drops_low_pages c me s k index text bytes past below a =
    answered c me s (Page k index text) bytes past a (λ point leaves counts.
    let is = newest_state c me past point leaves in let above = counts.1 in absurd (omega (arith, below)))

no_root : (c : Configuration) (past : List Entry) (k : ℕ) (root digest : List ℕ) → IsNoRoot c past k digest → digest ≡ root → IsRootWanted c past k root → ⊥
no_root c past k root digest none same wanted = go (subst (IsRootWanted c past k) (sym same) wanted)
  where
    go : IsRootWanted c past k digest → ⊥
    go (inl h) = none.0 h
    go (inr h) = none.1 h

pub drops_other_roots : DropsOtherRoots
drops_other_roots c me s k index digests bytes past none a =
    answered c me s (Meta k levels.Root index digests) bytes past a (λ point leaves counts. no_root c past k (digest_of_children digests) (digest_of_children digests) none refl counts.2)

pub drops_other_digests : DropsOtherDigests
drops_other_digests c me s k index digests bytes past none a =
    answered c me s (Meta k levels.Inner index digests) bytes past a (λ point leaves counts.
    let w = counts.2 in
    let below = w.3 in
    no_root c past k w.0 (digest_of_children w.1) (none w.1 below.1 w.4) below.0 w.2)

pub drops_other_pages : DropsOtherPages
drops_other_pages c me s k index text bytes past none a =
    answered c me s (Page k index text) bytes past a (λ point leaves counts.
    let w = counts.2 in
    let inner = w.2 in
    let lower = w.3 in
    let upper = inner.3 in
    no_root c past k inner.0 (digest_of_children inner.1)
    (none inner.1 w.1 upper.1 lower.1 (inner.4 ∙ ap Some (sym lower.0)) w.4) upper.0 inner.2)
