-- The answers of the log when a new view begins: the new view's batches, no votes, and the batches committed before.
use Rattle.std.proofs.Common.{◌≡◌, ℕ, suc, ◌-◌, ◌≤◌, ◌<◌, ◌^◌, Bool, true, false, cond, List, [], ◌∷◌, max, Option, Some, None, slice_get, refl, sym, ap, ◌∙◌, subst, arith, eqb-true}
use Rattle.std.specs.Prelude.{◌==◌, nat_lt}
use Rattle.std.proofs.lemmas.Bool.{eqb-false, eq-eqb, ne_eqb, ltb-true, ltb-false}
use Rattle.quorum.specs.Votes.{or_else}
use Rattle.wire_format.specs.Messages.{NewViewData}
use Rattle.wire.proofs.Skipping.{none_chosen}
use Rattle.ordering.specs.Log as logs
use Rattle.ordering.specs.Log.{LogData}
use Rattle.ordering.specs.Keeping.{IsLog}
use Rattle.ordering.proofs.Keeping.{in_span, batch_kept, log_entered}
use Rattle.ordering.proofs.Reading.{batches_are_logged}
use Rattle.ordering.proofs.Moving.{cuts_keep}
use Rattle.ordering.proofs.Viewing.{committed_stay}
use Rattle.replica_histories.specs.Logs.{LogStays}
use Rattle.replica_histories.specs.Views.{with_batches, entered_log}
use Rattle.replica_histories.proofs.Words.{marks_stay}
use Rattle.replica_histories.proofs.Cutting.{cut_low, cut_same, cut_at, cut_is_log}

-- ---- one batch, if its number is within the marks

abbrev pub with_one : LogData → ℕ → List ℕ → LogData
with_one m k batch = cond (logs.is_in_marks m k) (logs.with_batch m k batch) m

-- it leaves all but the row
stays_one : (m : LogData) (k : ℕ) (batch : List ℕ) → IsLog m → LogStays m (with_one m k batch)
stays_one m k batch is = go (logs.is_in_marks m k) refl
  where
    go : (b : Bool) → logs.is_in_marks m k ≡ b → LogStays m (cond b (logs.with_batch m k batch) m)
    go true w = record {
      is_log = batch_kept m (logs.place m k) batch (logs.with_batch m k batch).rows (in_span m k w) is refl;
      me = refl;
      faults = refl;
      span = refl;
      view = refl;
      active = refl;
      low = refl;
      checkpoints = refl;
    }
    go false w = record { is_log = is; me = refl; faults = refl; span = refl; view = refl; active = refl; low = refl; checkpoints = refl }

-- and changes the answers at its number alone
one_there : (m : LogData) (k : ℕ) (batch : List ℕ) → IsLog m → logs.is_in_marks m k ≡ true → logs.logged_batch (with_one m k batch) k ≡ Some batch
one_there m k batch is w = rw w ((batches_are_logged m k k m.me batch is w).0 ∙ rw (eq-eqb k k refl) refl)

one_elsewhere : (m : LogData) (k i : ℕ) (batch : List ℕ) → IsLog m → (i ≡ k → ⊥) → logs.logged_batch (with_one m k batch) i ≡ logs.logged_batch m i
one_elsewhere m k i batch is other = go (logs.is_in_marks m k) refl
  where
    go : (b : Bool) → logs.is_in_marks m k ≡ b → logs.logged_batch (cond b (logs.with_batch m k batch) m) i ≡ logs.logged_batch m i
    go true w = (batches_are_logged m i k m.me batch is w).0 ∙ rw (ne_eqb i k other) refl
    go false w = refl

-- no vote changes, nor a batch that was committed
one_votes : (m : LogData) (k i s : ℕ) (batch : List ℕ) → IsLog m
    → (logs.prepare_of (with_one m k batch) i s ≡ logs.prepare_of m i s) × (logs.commit_of (with_one m k batch) i s ≡ logs.commit_of m i s)
one_votes m k i s batch is = go (logs.is_in_marks m k) refl
  where
    go : (b : Bool) → logs.is_in_marks m k ≡ b
        → (logs.prepare_of (cond b (logs.with_batch m k batch) m) i s ≡ logs.prepare_of m i s) × (logs.commit_of (cond b (logs.with_batch m k batch) m) i s ≡ logs.commit_of m i s)
    go true w = let l = batches_are_logged m i k s batch is w in (l.1, l.2)
    go false w = (refl, refl)

one_decided : (m : LogData) (k i : ℕ) (batch : List ℕ) → IsLog m → logs.is_in_marks m i ≡ true → (logs.row_of (with_one m k batch) i).decided ≡ (logs.row_of m i).decided
one_decided m k i batch is within = go (logs.is_in_marks m k) refl
  where
    go : (b : Bool) → logs.is_in_marks m k ≡ b → (logs.row_of (cond b (logs.with_batch m k batch) m) i).decided ≡ (logs.row_of m i).decided
    go true w = (batches_are_logged m i k m.me batch is w).3 within
    go false w = refl

-- ---- several, from a number on

stays_on : (a b d : LogData) → LogStays a b → LogStays b d → LogStays a d
stays_on a b d s t = record {
  is_log = t.is_log;
  me = t.me ∙ s.me;
  faults = t.faults ∙ s.faults;
  span = t.span ∙ s.span;
  view = t.view ∙ s.view;
  active = t.active ∙ s.active;
  low = t.low ∙ s.low;
  checkpoints = t.checkpoints ∙ s.checkpoints;
}

pub batches_stay : (m : LogData) (k : ℕ) (batches : List (List ℕ)) → IsLog m → LogStays m (with_batches m k batches)
batches_stay m k [] is = record { is_log = is; me = refl; faults = refl; span = refl; view = refl; active = refl; low = refl; checkpoints = refl }
batches_stay m k (batch ∷ batches) is =
    let one = stays_one m k batch is in
    stays_on m (with_one m k batch) (with_batches m k (batch ∷ batches)) one (batches_stay (with_one m k batch) (suc k) batches one.is_log)

-- below the number no answer changes
batches_above : (m : LogData) (k i : ℕ) (batches : List (List ℕ)) → IsLog m → i < k → logs.logged_batch (with_batches m k batches) i ≡ logs.logged_batch m i
batches_above m k i [] is l = refl
batches_above m k i (batch ∷ batches) is l =
    batches_above (with_one m k batch) (suc k) i batches (stays_one m k batch is).is_log (omega arith) ∙ one_elsewhere m k i batch is (λ same. absurd (omega arith))

less : (a b : ℕ) → a ≤ b → (a ≡ b → ⊥) → a < b
less a b l d = go (nat_lt a b) refl
  where
    go : (t : Bool) → nat_lt a b ≡ t → a < b
    go true e = ltb-true a b e
    go false e = let k = ltb-false a b e in let same : a ≡ b = omega arith in absurd (d same)

-- from it on each is at its place
pub batches_there : (m : LogData) (k i : ℕ) (batches : List (List ℕ)) → IsLog m → logs.is_in_marks m i ≡ true → k ≤ i
    → logs.logged_batch (with_batches m k batches) i ≡ or_else (slice_get batches (i - k)) (logs.logged_batch m i)
batches_there m k i [] is w l = refl
batches_there m k i (batch ∷ batches) is w l = go (k == i) refl (batches_there (with_one m k batch) (suc k) i batches (stays_one m k batch is).is_log)
  where
    one : LogStays m (with_one m k batch)
    one = stays_one m k batch is

    go : (b : Bool) → (k == i) ≡ b
        → (logs.is_in_marks (with_one m k batch) i ≡ true → suc k ≤ i
        → logs.logged_batch (with_batches m k (batch ∷ batches)) i ≡ or_else (slice_get batches (i - suc k)) (logs.logged_batch (with_one m k batch) i))
        → logs.logged_batch (with_batches m k (batch ∷ batches)) i ≡ or_else (slice_get (batch ∷ batches) (i - k)) (logs.logged_batch m i)
    go true e rest =
        let same : k ≡ i = eqb-true k i e in
        let first : i - k ≡ 0 = omega arith in
        batches_above (with_one m k batch) (suc k) i batches one.is_log (omega arith)
        ∙ subst (λ (j : ℕ). logs.logged_batch (with_one m k batch) j ≡ Some batch) same (one_there m k batch is (subst (λ (j : ℕ). logs.is_in_marks m j ≡ true) (sym same) w))
        ∙ ap (λ (n : ℕ). or_else (slice_get (batch ∷ batches) n) (logs.logged_batch m i)) (sym first)
    go false e rest =
        let other = eqb-false k i e in
        let later : k < i = less k i l other in
        let next : i - k ≡ suc (i - suc k) = omega arith in
        rest (marks_stay m (with_one m k batch) i one ∙ w) (omega arith)
        ∙ ap (or_else (slice_get batches (i - suc k))) (one_elsewhere m k i batch is (λ same. other (sym same)))
        ∙ ap (λ (n : ℕ). or_else (slice_get (batch ∷ batches) n) (logs.logged_batch m i)) (sym next)

pub batches_votes : (m : LogData) (k i s : ℕ) (batches : List (List ℕ)) → IsLog m
    → (logs.prepare_of (with_batches m k batches) i s ≡ logs.prepare_of m i s) × (logs.commit_of (with_batches m k batches) i s ≡ logs.commit_of m i s)
batches_votes m k i s [] is = (refl, refl)
batches_votes m k i s (batch ∷ batches) is =
    let rest = batches_votes (with_one m k batch) (suc k) i s batches (stays_one m k batch is).is_log in
    let one = one_votes m k i s batch is in
    (rest.0 ∙ one.0, rest.1 ∙ one.1)

pub batches_decided : (m : LogData) (k i : ℕ) (batches : List (List ℕ)) → IsLog m → logs.is_in_marks m i ≡ true → (logs.row_of (with_batches m k batches) i).decided ≡ (logs.row_of m i).decided
batches_decided m k i [] is w = refl
batches_decided m k i (batch ∷ batches) is w =
    let one = stays_one m k batch is in
    batches_decided (with_one m k batch) (suc k) i batches one.is_log (marks_stay m (with_one m k batch) i one ∙ w) ∙ one_decided m k i batch is w

-- ---- the log when a new view begins

module _ (log : LogData) (new : NewViewData) (is : IsLog log) (small : new.start < 2 ^ 48) where
  abbrev in_view : LogData
  in_view = logs.entered log new.view

  abbrev cut : LogData
  cut = logs.cut_to in_view new.start

  in_view_is_log : IsLog in_view
  in_view_is_log = log_entered log new.view in_view.rows is refl

  cut_is : IsLog cut
  cut_is = cut_is_log in_view new.start in_view_is_log small

  pub stays : LogStays cut (entered_log log new)
  stays = batches_stay cut (suc new.start) new.batches cut_is

  pub entered_is_log : IsLog (entered_log log new)
  entered_is_log = stays.is_log

  pub entered_me : (entered_log log new).me ≡ log.me
  entered_me = stays.me ∙ cut_same (λ m. m.me) (λ m h rows. refl) in_view new.start

  pub entered_faults : (entered_log log new).faults ≡ log.faults
  entered_faults = stays.faults ∙ cut_same (λ m. m.faults) (λ m h rows. refl) in_view new.start

  pub entered_span : (entered_log log new).span ≡ log.span
  entered_span = stays.span ∙ cut_same (λ m. m.span) (λ m h rows. refl) in_view new.start

  pub entered_view : (entered_log log new).view ≡ new.view
  entered_view = stays.view ∙ cut_same (λ m. m.view) (λ m h rows. refl) in_view new.start

  pub entered_log_active : (entered_log log new).active ≡ true
  entered_log_active = stays.active ∙ cut_same (λ m. m.active) (λ m h rows. refl) in_view new.start

  pub entered_checkpoints : (entered_log log new).checkpoints ≡ log.checkpoints
  entered_checkpoints = stays.checkpoints ∙ cut_same (λ m. m.checkpoints) (λ m h rows. refl) in_view new.start

  pub entered_low : (entered_log log new).low ≡ max log.low new.start
  entered_low = stays.low ∙ ap (λ (m : LogData). m.low) (sym (cut_at in_view new.start)) ∙ cut_low in_view (max log.low new.start) (omega arith)

  within_cut : (i : ℕ) → logs.is_in_marks (entered_log log new) i ≡ true → logs.is_in_marks cut i ≡ true
  within_cut i w = sym (marks_stay cut (entered_log log new) i stays) ∙ w

  -- its batch is the new view's
  pub entered_batch : (i : ℕ) → logs.is_in_marks (entered_log log new) i ≡ true → new.start < i → logs.logged_batch (entered_log log new) i ≡ slice_get new.batches (i - suc new.start)
  entered_batch i w l =
      batches_there cut (suc new.start) i new.batches cut_is (within_cut i w) (omega arith)
      ∙ ap (or_else (slice_get new.batches (i - suc new.start))) ((cuts_keep in_view new.start i log.me in_view_is_log).0 ∙ rw (within_cut i w) (committed_stay log new.view i log.me is).0)
      ∙ alone (slice_get new.batches (i - suc new.start))
    where
      alone : (o : Option (List ℕ)) → or_else o None ≡ o
      alone None = refl
      alone (Some x) = refl

  -- nobody has voted
  pub assigned_prepare : (i s : ℕ) → logs.prepare_of (entered_log log new) i s ≡ None
  assigned_prepare i s =
      (batches_votes cut (suc new.start) i s new.batches cut_is).0 ∙ (cuts_keep in_view new.start i s in_view_is_log).1
      ∙ none_chosen (logs.is_in_marks cut i) (logs.prepare_of in_view i s) (committed_stay log new.view i s is).1

  pub assigned_commit : (i s : ℕ) → logs.commit_of (entered_log log new) i s ≡ None
  assigned_commit i s =
      (batches_votes cut (suc new.start) i s new.batches cut_is).1 ∙ (cuts_keep in_view new.start i s in_view_is_log).2
      ∙ none_chosen (logs.is_in_marks cut i) (logs.commit_of in_view i s) (committed_stay log new.view i s is).2

  -- and it has the batch that was committed
  pub assigned_decided : (i : ℕ) → logs.is_in_marks (entered_log log new) i ≡ true → (logs.row_of (entered_log log new) i).decided ≡ logs.committed_batch log i
  assigned_decided i w =
      batches_decided cut (suc new.start) i new.batches cut_is (within_cut i w) ∙ (cuts_keep in_view new.start i log.me in_view_is_log).3 (within_cut i w) ∙ go (logs.is_in_marks log i) refl
    where
      go : (b : Bool) → logs.is_in_marks log i ≡ b → cond b (logs.row_of in_view i).decided None ≡ logs.committed_batch log i
      go true h = (committed_stay log new.view i log.me is).4 h
      go false h = rw h refl
