-- The normal case: each correct replica logs, prepares, commits and executes the primary's batch for the next number.
use Rattle.std.proofs.Common.{◌≡◌, ℕ, suc, ◌≤◌, ◌<◌, ◌⊎◌, inl, inr, Bool, true, false, cond, List, [], ◌∷◌, ◌++◌, Some, None, refl, sym, ap, ◌∙◌, subst, arith, append_assoc, eqb-true}
use Rattle.std.specs.Prelude.{◌==◌, nat_le, option_and_then}
use Rattle.std.proofs.lemmas.Bool.{and_parts, ltb-true, leb-true, leb-false, eqb-false}
use Rattle.wire_format.specs.Messages.{BodyData as Body, MessageData as Message, pre_prepare as PrePrepare}
use Rattle.signing.proofs.AuthenticBody.{authentic_was_opened}
use Rattle.protocol.specs.System.Configuration.{Configuration, IsConfiguration, replicas, primary, is_replica, is_correct_replica, members}
use Rattle.protocol.specs.System.Trace.{Entry, party_of, history_of, Unforged}
use Rattle.protocol.specs.System.Trace.Entry.{Invoke, Got, Sent}
use Rattle.protocol.specs.System.Run.{IsRun, OnlyTheseStopped}
use Rattle.protocol.specs.Replica.Certificates.{view, taken, is_active_in, low, is_in_marks, are_genuine, brought, assigned_batch, assigned_proposal, entry_proposal, proposal, logged, first_given, Committed}
use Rattle.protocol.specs.Replica.RightReplica.{Point, HistoryReaches, MaySend, MaySendMessage}
use Rattle.protocol.specs.Replica.Owed.{HistoryIsPrompt}
use Rattle.protocol.specs.Space.Linear.{reached}
use Rattle.protocol.specs.Laws.Histories.{AreReplicasSafe}
use Rattle.protocol.proofs.Words.Options.{some_injective, and_then_some, or_else_cases}
use Rattle.protocol.proofs.Words.Elements.{has_left, has_right}
use Rattle.protocol.proofs.Words.Reacting.{is_replica_right, proceeds_leaves}
use Rattle.protocol.proofs.Agreement.Voting.{correct_replica}
use Rattle.protocol.proofs.Agreement.Marks.{takes, proposes}
use Rattle.protocol.proofs.Agreement.Offers.{entry_batch}
use Rattle.protocol.proofs.Agreement.States.{history_append}
use Rattle.protocol.proofs.Points.Levels.{reached_history, number_reached}
use Rattle.progress.specs.Delivery.{HasEntry, AllDelivered}
use Rattle.progress.specs.Normal.{IsSteady, NextBatchesAreExecuted}
use Rattle.progress.proofs.Receiving.{Heard}
use Rattle.progress.proofs.Answering.{in_history, in_trace}
use Rattle.progress.proofs.Flipping.{none_is_left}
use Rattle.progress.proofs.Steady.{active_once, active_between, marks_between, Since, given_since, SentAt, sent_at, sent_in_part, other_hears}
use Rattle.progress.proofs.Committing.{Stands, stands, Shared, Comes, IsOf, of_unsigned, of_sent, of_others, of_logged, counts_here, pre_prepare_is, own_in, committed as committed_by}
use Rattle.progress.proofs.Keeping.{later_reached}

module _ (c : Configuration) (setting : IsConfiguration c) (later start : List Entry) (is_run : IsRun c (later ++ start)) (goes : OnlyTheseStopped c [] (later ++ start))
    (unforged : Unforged c (later ++ start)) (v i : ℕ) (batch : List ℕ) (from : is_correct_replica c (primary c v) ≡ true)
    (steady : (r : ℕ) → is_correct_replica c r ≡ true → IsSteady c v i later start r × (are_genuine c r batch ≡ true)) (all : AllDelivered c later)
    (begins : logged c (primary c v) (history_of (primary c v) (later ++ start)) v i ≡ Some batch) where
  abbrev trace : List Entry
  trace = later ++ start

  abbrev whole : ℕ → List Entry
  whole q = history_of q (later ++ start)

  abbrev part : ℕ → List Entry
  part q = history_of q later

  abbrev first : ℕ → List Entry
  first q = history_of q start

  safe : AreReplicasSafe c trace
  safe p h = is_replica_right c p (history_of p trace) (is_run.replicas p h)

  parts : (q : ℕ) → whole q ≡ part q ++ first q
  parts q = history_append q later start

  below : (q : ℕ) → is_correct_replica c q ≡ true → q < replicas c
  below q correct = ltb-true q (replicas c) (and_parts (is_replica c q) _ correct).0

  known : (q : ℕ) → is_correct_replica c q ≡ true → is_replica c q ≡ true
  known q correct = (and_parts (is_replica c q) _ correct).0

  -- ---- one correct replica

  module _ (q : ℕ) (correct : is_correct_replica c q ≡ true) where
    abbrev its : IsSteady c v i later start q
    its = (steady q correct).0

    ends : (newer middle : List Entry) → part q ≡ newer ++ middle → whole q ≡ newer ++ (middle ++ first q)
    ends newer middle is = parts q ∙ ap (λ (xs : List Entry). xs ++ first q) is ∙ append_assoc newer middle (first q)

    active_at : (newer middle : List Entry) → whole q ≡ newer ++ (middle ++ first q) → is_active_in c (middle ++ first q) v ≡ true
    active_at newer middle is = active_between c v newer middle (first q) its.active_first (subst (λ (xs : List Entry). is_active_in c xs v ≡ true) is its.active_last)

    marks_at : (newer middle : List Entry) → whole q ≡ newer ++ (middle ++ first q) → is_in_marks c (low c q (middle ++ first q)) i ≡ true
    marks_at newer middle is = marks_between c q i newer middle (first q) its.marks_first (subst (λ (xs : List Entry). is_in_marks c (low c q xs) i ≡ true) is its.marks_last)

    point : Point
    point = (goes.replicas q correct refl).0

    proceeds : HistoryIsPrompt c q (whole q) [] point point
    unfolding point
    proceeds = (goes.replicas q correct refl).1

    leaves : HistoryReaches c q (whole q) point
    leaves = proceeds_leaves c q (whole q) [] point point proceeds

    leaves_parts : HistoryReaches c q (part q ++ first q) point
    leaves_parts = subst (λ (xs : List Entry). HistoryReaches c q xs point) (parts q) leaves

  -- ---- each message about the number comes to each

  comes : (q s : ℕ) → is_correct_replica c q ≡ true → is_correct_replica c s ≡ true → (message : Message) → IsOf v i message → Shared c q message (whole q)
      → Comes c s v i (record { sender = q; message = message }) (whole s)
  comes q s one other message of shared = go (q == s) refl
    where
      allowed : (past : List Entry) (at : Point) → MaySend c q past at (Sent q shared.bytes) shared.bytes → MaySendMessage c q past at (Sent q shared.bytes) shared.bytes message
      allowed past at may =
          let same : ◌≡◌ {A = Body} may.body (record { sender = q; message = message }) = some_injective may.body (record { sender = q; message = message }) (sym may.says ∙ shared.says) in
          subst (λ (b : Body). MaySendMessage c q past at (Sent q shared.bytes) shared.bytes b.message) same may.allowed

      in_part : HasEntry (Sent q shared.bytes) (part q)
      in_part = sent_in_part c q q v i shared.bytes (part q) (first q) (point q one) (leaves_parts q one) (steady q one).0.unlogged
          (λ past at may. of_logged c v i q past at shared.bytes message of (allowed past at may)) (subst (λ (xs : List Entry). HasEntry (Sent q shared.bytes) xs) (parts q) shared.is_sent)

      got : (q == s) ≡ false → Comes c s v i (record { sender = q; message = message }) (whole s)
      got e = record {
        newer = at.newer;
        past = at.middle ++ first s;
        entry = Got s shared.bytes;
        splits = its_whole;
        brings = receives.receives;
        counts = counts_here c s v i (at.middle ++ first s) (record { sender = q; message = message }) (Got s shared.bytes) receives.receives
            (active_at s other (at.newer ++ Got s shared.bytes ∷ []) at.middle beside) (marks_at s other (at.newer ++ Got s shared.bytes ∷ []) at.middle beside);
      }
        where
          receives : Heard c q s message shared.bytes
          receives = other_hears c q s message shared.bytes shared.past shared.point shared.may shared.says (of_unsigned v i message of) (of_sent c v i q message of (known q one)) (known q one)
              (λ receivers h. of_others c v i q shared.past receivers message of h) (below s other) (λ same. eqb-false q s e (sym same))

          at : Stands (Got s shared.bytes) (part s) (first s)
          at = stands (Got s shared.bytes) (part s) (first s)
              (in_history s (Got s shared.bytes) later refl (all q s shared.bytes (in_trace q (Sent q shared.bytes) later in_part) receives.meant_is (correct_replica c s other)))

          its_whole : whole s ≡ at.newer ++ Got s shared.bytes ∷ (at.middle ++ first s)
          its_whole = parts s ∙ at.whole

          beside : whole s ≡ (at.newer ++ Got s shared.bytes ∷ []) ++ (at.middle ++ first s)
          beside = its_whole ∙ sym (append_assoc at.newer (Got s shared.bytes ∷ []) (at.middle ++ first s))

      own : (q == s) ≡ true → Comes c s v i (record { sender = q; message = message }) (whole s)
      own e = subst (λ (x : ℕ). Comes c x v i (record { sender = q; message = message }) (whole x)) (eqb-true q s e)
          (record { newer = at.newer; past = at.past; entry = Sent q shared.bytes; splits = at.splits; brings = shared.says; counts = refl })
        where
          at : SentAt c q q shared.bytes (whole q)
          at = sent_at c q q shared.bytes (whole q) (point q one) (leaves q one) shared.is_sent

      go : (b : Bool) → (q == s) ≡ b → Comes c s v i (record { sender = q; message = message }) (whole s)
      go true e = own e
      go false e = got e

  -- ---- the primary's batch

  abbrev p0 : ℕ
  p0 = primary c v

  since : Since (λ earlier e. proposal c p0 earlier e v i) batch (part p0) (first p0)
  unfolding logged
  since = given_since (λ earlier e. proposal c p0 earlier e v i) batch (part p0) (first p0) (steady p0 from).0.unlogged (subst (λ (xs : List Entry). first_given (λ earlier e. proposal c p0 earlier e v i) xs ≡ Some batch) (parts p0) begins)

  since_whole : whole p0 ≡ (since.newer ++ since.entry ∷ []) ++ (since.middle ++ first p0)
  since_whole = ends p0 from (since.newer ++ since.entry ∷ []) since.middle (since.splits ∙ sym (append_assoc since.newer (since.entry ∷ []) since.middle))

  -- it comes of a pre-prepare, since no new view is taken
  by_pre_prepare : entry_proposal c p0 (since.middle ++ first p0) since.entry v i ≡ Some batch
  by_pre_prepare = go (or_else_cases (assigned_proposal c p0 (since.middle ++ first p0) since.entry v i) (entry_proposal c p0 (since.middle ++ first p0) since.entry v i) batch since.gives)
    where
      active : is_active_in c (since.middle ++ first p0) v ≡ true
      active = active_at p0 from (since.newer ++ since.entry ∷ []) since.middle since_whole

      assigned : (b : Bool) → cond b (option_and_then (assigned_batch v i) (taken c (since.middle ++ first p0) since.entry)) None ≡ Some batch → ⊥
      assigned true h =
          let t = and_then_some (assigned_batch v i) (taken c (since.middle ++ first p0) since.entry) batch h in
          let above = (takes c p0 (since.middle ++ first p0) since.entry t.0 t.1).above in
          let of = (proposes c v i t.0 batch t.2).view_is in
          let at = (eqb-true (view c (since.middle ++ first p0)) v (and_parts (view c (since.middle ++ first p0) == v) _ active).0) in
          omega arith
      assigned false h = cc

      go : (assigned_proposal c p0 (since.middle ++ first p0) since.entry v i ≡ Some batch) ⊎ (entry_proposal c p0 (since.middle ++ first p0) since.entry v i ≡ Some batch)
          → entry_proposal c p0 (since.middle ++ first p0) since.entry v i ≡ Some batch
      go (inl h) = absurd (assigned (is_in_marks c (low c p0 (since.entry ∷ (since.middle ++ first p0))) i) h)
      go (inr h) = h

  -- the body that the entry brings
  brings_it : brought c since.entry ≡ Some (record { sender = p0; message = PrePrepare v i batch })
  brings_it =
      let b = (entry_batch c p0 v i batch (since.middle ++ first p0) since.entry by_pre_prepare).1 in
      b.1 ∙ ap Some (pre_prepare_is c p0 v i batch b.0.sender b.0.message b.2).0

  entry_in_whole : HasEntry since.entry (whole p0)
  entry_in_whole = subst (λ (xs : List Entry). HasEntry since.entry xs) (sym since_whole)
      (has_left (λ x. x ≡ since.entry) (since.newer ++ since.entry ∷ []) (since.middle ++ first p0) (has_right (λ x. x ≡ since.entry) since.newer (since.entry ∷ []) (inl refl)))

  -- it is the primary's own
  shared_batch : Shared c p0 (PrePrepare v i batch) (whole p0)
  shared_batch = go since.entry refl brings_it
    where
      in_part : HasEntry since.entry (part p0)
      in_part = subst (λ (xs : List Entry). HasEntry since.entry xs) (sym since.splits) (has_right (λ x. x ≡ since.entry) since.newer (since.entry ∷ since.middle) (inl refl))

      own : (e : Entry) → since.entry ≡ e → party_of e ≡ p0
      own e is = own_in p0 e later (subst (λ (x : Entry). HasEntry x (part p0)) is in_part)

      go : (e : Entry) → since.entry ≡ e → brought c e ≡ Some (record { sender = p0; message = PrePrepare v i batch }) → Shared c p0 (PrePrepare v i batch) (whole p0)
      go (Got p bytes) is h =
          let o = authentic_was_opened (members c p) p bytes (record { sender = p0; message = PrePrepare v i batch }) h in
          absurd (o.other (sym (own (Got p bytes) is)))
      go (Sent p bytes) is h = record {
        bytes = bytes;
        is_sent = subst (λ (x : ℕ). HasEntry (Sent x bytes) (whole p0)) (own (Sent p bytes) is) (subst (λ (x : Entry). HasEntry x (whole p0)) is entry_in_whole);
        says = h;
        past = at.past;
        point = at.point;
        may = subst (λ (x : ℕ). MaySend c p0 at.past at.point (Sent x bytes) bytes) at.own at.may;
      }
        where
          at : SentAt c p0 p bytes (whole p0)
          at = sent_at c p0 p bytes (whole p0) (point p0 from) (leaves p0 from) (subst (λ (x : Entry). HasEntry x (whole p0)) is entry_in_whole)
      go (Invoke x y z) is h = absurd cc
      go _ is h = absurd cc

  -- ---- each commits it

  active : (q : ℕ) → is_correct_replica c q ≡ true → (newer now : List Entry) (b : List ℕ) → whole q ≡ newer ++ now → logged c q now v i ≡ Some b → is_active_in c now v ≡ true
  active q one newer now b is h = active_once c q v i newer now b (point q one) (subst (λ (xs : List Entry). HistoryReaches c q xs (point q one)) is (leaves q one)) (subst (λ (xs : List Entry). is_active_in c xs v ≡ true) is (steady q one).0.active_last) h

  pub committed : (s : ℕ) → is_correct_replica c s ≡ true → Committed c s (whole s) v i batch
  committed s other = committed_by c setting trace goes safe unforged v i batch from active (λ x h. inr (λ q one message of shared. comes q x one h message of shared)) begins shared_batch (λ q h. (steady q h).1) s other

  -- ---- and executes it

  executes : (s : ℕ) → is_correct_replica c s ≡ true → i ≤ reached trace s
  executes s other = go (nat_le i (reached trace s)) refl
    where
      go : (b : Bool) → nat_le i (reached trace s) ≡ b → i ≤ reached trace s
      go true e = leb-true i (reached trace s) e
      go false e =
          let l = leb-false i (reached trace s) e in
          let next = (steady s other).0.next in
          let grows : reached start s ≤ reached trace s = later_reached s later start in
          let at = number_reached c s (whole s) (point s other) (leaves s other) in
          let same = reached_history s trace in
          let number : i ≡ suc (point s other).state.number = omega arith in
          absurd (none_is_left c s (whole s) [] (point s other) (point s other) (proceeds s other) v batch (subst (λ (n : ℕ). Committed c s (whole s) v n batch) number (committed s other)))

pub next_batches_are_executed : NextBatchesAreExecuted
next_batches_are_executed c setting later start run goes unforged v i batch from steady all begins r correct = executes c setting later start run goes unforged v i batch from steady all begins r correct
