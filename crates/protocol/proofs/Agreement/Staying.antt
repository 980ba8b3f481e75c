-- The induction over views: a committed batch stays, and committed batches of one number agree.
use Rattle.std.proofs.Common.{◌≡◌, ℕ, zero, suc, ◌+◌, ◌-◌, ◌*◌, ◌≤◌, ◌<◌, ◌⊎◌, inl, inr, Bool, true, false, not, List, length, slice_get, Some, refl, sym, ◌∙◌, subst, arith, ◌&&◌, ◌||◌, eqb-true, eq-eqb, bytes_eq}
use Rattle.std.specs.Prelude.{◌==◌, nat_lt, nat_le}
use Rattle.std.proofs.lemmas.Bool.{and_parts, or_cases, leb-true, ltb-true, lt-ltb, cases_lt, cases_order, and_from, not_from_false, not_from_true}
use Rattle.std.proofs.lemmas.Slice.Eq.{bytes_eq-Decides}
use Rattle.sha2.specs.Sha256.{sha256}
use Rattle.quorum.proofs.Counting.{quorums_meet, some_more, count_members}
use Rattle.quorum.specs.Quorum.{count_below}
use Rattle.protocol.specs.System.Configuration.{Configuration, IsConfiguration, span, is_replica, is_faulty_replica, is_correct_replica, is_number}
use Rattle.wire_format.specs.Messages.{ViewChangeData, NewViewData, BatchEntryData as BatchEntry}
use Rattle.protocol.specs.System.Trace.{Entry, history_of, Once, Unforged, Has}
use Rattle.std.specs.List.{list_all, list_any}
use Rattle.protocol.specs.Replica.Selection.{is_quorum, is_weak_quorum, count_in, passes_by, change_by, changes_of, may_select, may_stand_at, may_be_null, may_all_stand, is_null, is_within, is_batch_entry_within, is_checkpoint_within, agrees, vouches, how_many_batches}
use Rattle.protocol.specs.Replica.Certificates.{assigned_batch, commit_of, Prepared, Committed, logged}
use Rattle.quorum.specs.Votes.{has_digest}
use Rattle.protocol.specs.Laws.Histories.{AreReplicasSafe, TakesOrSendsNewView, HasOrStartsAbove, CommittedStays, CommittedAgree}
use Rattle.protocol.proofs.Words.Temporal.{once_weaker, once_stays}
use Rattle.protocol.proofs.Agreement.Voting.{right_always}
use Rattle.protocol.proofs.Agreement.Marks.{takes, selected_in, selects}
use Rattle.protocol.proofs.Agreement.Signed.{change_was_said}
use Rattle.protocol.proofs.Agreement.Commits.{voter_commits}
use Rattle.protocol.proofs.Agreement.Changes.{Listed, Pledged, pledged, proposed}
use Rattle.protocol.proofs.Words.Lists.{every_change, passes_change, largest_of-ge, get_there, stands_at, some_below}
use Rattle.protocol.proofs.Agreement.Settling.{Settled, settled_logged}
use Rattle.protocol.proofs.Agreement.Agreeing.{prepared_agree, has_digest_is}
use Rattle.protocol.proofs.Words.Elements.{every_has, has_some, some_of_has}

-- ---- consequences of the rules of a new view

pub record Selected (c : Configuration) (new : NewViewData) : Type 0 where
  pub each : list_all (λ x. (x.1.view == new.view) && is_within c x.1) (changes_of c new) ≡ true
  pub starts : is_quorum c (count_in c (λ vc. nat_le vc.low new.start) (changes_of c new)) ≡ true
  pub lists : is_weak_quorum c (count_in c (λ vc. list_any (λ checkpoint. (checkpoint.number == new.start) && bytes_eq checkpoint.digest new.root) vc.checkpoints) (changes_of c new)) ≡ true
  pub long : length new.batches ≡ how_many_batches c new
  pub stand : may_all_stand c new.view (changes_of c new) (suc new.start) new.batches ≡ true

pub selected : (c : Configuration) (new : NewViewData) → may_select c new ≡ true → Selected c new
selected c new h =
    let s = selects c new h in
    let p = and_parts (is_quorum c (count_in c (λ vc. nat_le vc.low new.start) (changes_of c new))) _ s.start in
    record { each = s.each; starts = p.0; lists = p.1; long = eqb-true (length new.batches) (how_many_batches c new) s.long; stand = s.stand }

batch_entry_within : (c : Configuration) (vc : ViewChangeData) (batch_entry : BatchEntry) → is_batch_entry_within c vc batch_entry ≡ true → (batch_entry.view < vc.view) × (batch_entry.number ≤ vc.low + span c)
batch_entry_within c vc batch_entry h =
    let o = and_parts (nat_lt batch_entry.view vc.view && nat_lt vc.low batch_entry.number && nat_le batch_entry.number (vc.low + span c)) (is_number batch_entry.number) h in
    let a = and_parts (nat_lt batch_entry.view vc.view && nat_lt vc.low batch_entry.number) (nat_le batch_entry.number (vc.low + span c)) o.0 in
    let b = and_parts (nat_lt batch_entry.view vc.view) (nat_lt vc.low batch_entry.number) a.0 in
    (ltb-true batch_entry.view vc.view b.0, leb-true batch_entry.number (vc.low + span c) a.1)

-- a member of the set: its view, and its batch entries within bounds
pub record Member (c : Configuration) (new : NewViewData) (vc : ViewChangeData) : Type 0 where
  pub view_is : vc.view ≡ new.view
  pub prepared : (batch_entry : BatchEntry) → Has (λ x. x ≡ batch_entry) vc.prepared → (batch_entry.view < vc.view) × (batch_entry.number ≤ vc.low + span c)
  pub proposed : (batch_entry : BatchEntry) → Has (λ x. x ≡ batch_entry) vc.pre_prepared → (batch_entry.view < vc.view) × (batch_entry.number ≤ vc.low + span c)

pub member_of : (c : Configuration) (new : NewViewData) (s : ℕ) (vc : ViewChangeData) → Selected c new → change_by (changes_of c new) s ≡ Some vc → Member c new vc
member_of c new s vc sel is =
    let t = every_change (λ vc. (vc.view == new.view) && is_within c vc) (changes_of c new) s vc sel.each is in
    let p = and_parts (vc.view == new.view) (is_within c vc) t in
    let w = and_parts (is_number vc.view && is_number vc.low && list_all (is_batch_entry_within c vc) vc.prepared && list_all (is_batch_entry_within c vc) vc.pre_prepared) (list_all (is_checkpoint_within c vc) vc.checkpoints) p.1 in
    let y = and_parts (is_number vc.view && is_number vc.low && list_all (is_batch_entry_within c vc) vc.prepared) (list_all (is_batch_entry_within c vc) vc.pre_prepared) w.0 in
    let z = and_parts (is_number vc.view && is_number vc.low) (list_all (is_batch_entry_within c vc) vc.prepared) y.0 in
    record {
      view_is = eqb-true vc.view new.view p.0;
      prepared = λ batch_entry h. batch_entry_within c vc batch_entry (every_has (is_batch_entry_within c vc) vc.prepared batch_entry z.1 h);
      proposed = λ batch_entry h. batch_entry_within c vc batch_entry (every_has (is_batch_entry_within c vc) vc.pre_prepared batch_entry y.1 h);
    }

-- ---- over one committed batch

module _ (c : Configuration) (setting : IsConfiguration c) (trace : List Entry) (right : AreReplicasSafe c trace) (unforged : Unforged c trace)
    (p v i : ℕ) (a : List ℕ) (correct : is_correct_replica c p ≡ true) (committed : Committed c p (history_of p trace) v i a) where
  few : count_below (is_faulty_replica c) (3 * c.faults + 1) ≤ c.faults
  few = let m = count_members c.faulty_replicas (3 * c.faults + 1) in let k = setting.few in omega arith

  is_correct : (s : ℕ) → s < 3 * c.faults + 1 → is_faulty_replica c s ≡ false → is_correct_replica c s ≡ true
  is_correct s l f = and_from (is_replica c s) (not (is_faulty_replica c s)) (lt-ltb s (3 * c.faults + 1) l) (not_from_false (is_faulty_replica c s) f)

  -- each quorum of a new view has a correct replica that committed, with what it lists
  record Witness (new : NewViewData) (test : ViewChangeData → Bool) : Type 0 where
    who : ℕ
    vc : ViewChangeData
    is_correct : is_correct_replica c who ≡ true
    passes : test vc ≡ true
    change : change_by (changes_of c new) who ≡ Some vc
    pledged : Pledged c who v i vc (history_of who trace)

  witness : (q : ℕ) (new : NewViewData) (test : ViewChangeData → Bool) → is_correct_replica c q ≡ true → Once (TakesOrSendsNewView c new) (history_of q trace) → Selected c new → v < new.view
      → is_quorum c (count_in c test (changes_of c new)) ≡ true → Witness new test
  witness q new test correct' takes sel above h =
      let enough : 2 * c.faults + 1 ≤ count_below (passes_by test (changes_of c new)) (3 * c.faults + 1) = leb-true (2 * c.faults + 1) (count_in c test (changes_of c new)) h in
      let s = quorums_meet c.faults (is_faulty_replica c) (passes_by test (changes_of c new)) (λ s. has_digest (sha256 a) (commit_of c p (history_of p trace) v i s)) few enough committed.commits in
      let who : is_correct_replica c s.0 ≡ true = is_correct s.0 s.1 s.2 in
      let t = passes_change test (changes_of c new) s.0 s.3 in
      let m = member_of c new s.0 t.0 sel t.1 in
      let says = change_was_said c trace q s.0 new t.0 right unforged correct' who takes t.1 in
      let commits = voter_commits c trace p s.0 v i (sha256 a) right unforged correct who (has_digest_is (sha256 a) (commit_of c p (history_of p trace) v i s.0) s.4) in
      let r = right s.0 who in
      let view_is = m.view_is in
      let higher : v < t.0.view = omega arith in
      record {
        who = s.0;
        vc = t.0;
        is_correct = who;
        passes = t.2;
        change = t.1;
        pledged = pledged c s.0 v i (sha256 a) t.0 (history_of s.0 trace) (right_always c s.0 (history_of s.0 trace) r.0 r.1) commits says higher;
      }

  -- the P entry of a committer has the digest
  batch_entry_digest : (w : ℕ) → ((u : ℕ) → v < u → u < w → Settled c trace i (sha256 a) u) → (s : ℕ) → is_correct_replica c s ≡ true → (batch_entry : BatchEntry) → batch_entry.view < w
      → Listed c s v i batch_entry (history_of s trace) → batch_entry.digest ≡ sha256 a
  batch_entry_digest w below s who batch_entry lt k = go (cases_order v batch_entry.view)
    where
      go : (v ≡ batch_entry.view) ⊎ ((v < batch_entry.view) ⊎ (batch_entry.view < v)) → batch_entry.digest ≡ sha256 a
      go (inl e) =
          let there : Prepared c s (history_of s trace) v i k.batch = subst (λ (x : ℕ). Prepared c s (history_of s trace) x i k.batch) (sym e) k.prepared in
          sym k.digest_is ∙ prepared_agree c setting trace right unforged s p v i k.batch a who correct there committed.prepared
      go (inr (inl l)) =
          let some : 0 < batch_entry.view = omega arith in
          sym k.digest_is ∙ settled_logged c trace i (sha256 a) batch_entry.view s right (below batch_entry.view l lt) some who k.batch k.prepared.logged
      go (inr (inr l)) = let at_least = k.at_least in absurd (omega arith)

  -- in a later view than v, each batch that a correct replica logged has the digest
  logged_digest : (w : ℕ) → ((u : ℕ) → v < u → u < w → Settled c trace i (sha256 a) u) → (s u : ℕ) → is_correct_replica c s ≡ true → v < u → u < w
      → (b : List ℕ) → logged c s (history_of s trace) u i ≡ Some b → sha256 b ≡ sha256 a
  logged_digest w below s u who l m b h = let some : 0 < u = omega arith in settled_logged c trace i (sha256 a) u s right (below u l m) some who b h

  -- f + 1 replicas that vouch for a digest in a view above v
  vouched : (q : ℕ) (new : NewViewData) → is_correct_replica c q ≡ true → Once (TakesOrSendsNewView c new) (history_of q trace) → Selected c new
      → ((u : ℕ) → v < u → u < new.view → Settled c trace i (sha256 a) u) → (x : ℕ) (b : List ℕ) → v < x
      → is_weak_quorum c (count_in c (vouches i x (sha256 b)) (changes_of c new)) ≡ true → sha256 b ≡ sha256 a
  vouched q new correct' takes' sel below x b above h =
      let enough : c.faults + 1 ≤ count_below (passes_by (vouches i x (sha256 b)) (changes_of c new)) (3 * c.faults + 1) = leb-true (c.faults + 1) (count_in c (vouches i x (sha256 b)) (changes_of c new)) h in
      let few' = few in
      let more : count_below (is_faulty_replica c) (3 * c.faults + 1) < count_below (passes_by (vouches i x (sha256 b)) (changes_of c new)) (3 * c.faults + 1) = omega arith in
      let s = some_more (passes_by (vouches i x (sha256 b)) (changes_of c new)) (is_faulty_replica c) (3 * c.faults + 1) more in
      let who : is_correct_replica c s.0 ≡ true = is_correct s.0 s.1 s.2 in
      let t = passes_change (vouches i x (sha256 b)) (changes_of c new) s.0 s.3 in
      let says = change_was_said c trace q s.0 new t.0 right unforged correct' who takes' t.1 in
      let k = some_of_has (λ (batch_entry : BatchEntry). (batch_entry.number == i) && bytes_eq batch_entry.digest (sha256 b) && nat_le x batch_entry.view) t.0.pre_prepared t.2 in
      let parts = and_parts ((k.0.number == i) && bytes_eq k.0.digest (sha256 b)) (nat_le x k.0.view) k.2 in
      let ends = and_parts (k.0.number == i) (bytes_eq k.0.digest (sha256 b)) parts.0 in
      let m = member_of c new s.0 t.0 sel t.1 in
      let r = right s.0 who in
      let o = proposed c s.0 t.0 (history_of s.0 trace) (right_always c s.0 (history_of s.0 trace) r.0 r.1) says k.0 k.1 in
      let high : x ≤ k.0.view = leb-true x k.0.view parts.1 in
      let bound = (m.proposed k.0 k.1).0 in
      let view_is = m.view_is in
      let later : v < k.0.view = omega arith in
      let lower : k.0.view < new.view = omega arith in
      let number : k.0.number ≡ i = eqb-true k.0.number i ends.0 in
      let there : logged c s.0 (history_of s.0 trace) k.0.view i ≡ Some o.batch = subst (λ (y : ℕ). logged c s.0 (history_of s.0 trace) k.0.view y ≡ Some o.batch) number o.is_logged in
      let digest : k.0.digest ≡ sha256 b = (bytes_eq-Decides k.0.digest (sha256 b)).0 ends.1 in
      sym {a = sha256 o.batch} (o.digest_is ∙ digest) ∙ logged_digest new.view below s.0 k.0.view who later lower o.batch there

  -- a batch that may stand at the number has the digest
  may_stand_digest : (q : ℕ) (new : NewViewData) → is_correct_replica c q ≡ true → Once (TakesOrSendsNewView c new) (history_of q trace) → Selected c new → v < new.view
      → ((u : ℕ) → v < u → u < new.view → Settled c trace i (sha256 a) u) → (b : List ℕ) (x : ℕ)
      → may_stand_at c (changes_of c new) i (sha256 b) x ≡ true → sha256 b ≡ sha256 a
  may_stand_digest q new correct' takes' sel above below b x h = go (or_cases (not (w.1.0.number == i) || nat_lt w.1.0.view x) ((w.1.0.view == x) && bytes_eq w.1.0.digest (sha256 b)) tests)
    where
      rules : (is_quorum c (count_in c (λ vc. nat_lt vc.low i && agrees i x (sha256 b) vc) (changes_of c new)) ≡ true)
          × (is_weak_quorum c (count_in c (vouches i x (sha256 b)) (changes_of c new)) ≡ true)
      rules = and_parts (is_quorum c (count_in c (λ vc. nat_lt vc.low i && agrees i x (sha256 b) vc) (changes_of c new))) (is_weak_quorum c (count_in c (vouches i x (sha256 b)) (changes_of c new))) h

      -- a committer, and its prepared entry for the number
      w : (w : Witness new (λ vc. nat_lt vc.low i && agrees i x (sha256 b) vc)) × ((batch_entry : BatchEntry) × Has (λ y. y ≡ batch_entry) w.vc.prepared × (batch_entry.number ≡ i))
      w = let m = witness q new (λ vc. nat_lt vc.low i && agrees i x (sha256 b) vc) correct' takes' sel above rules.0 in
          let l = (and_parts (nat_lt m.vc.low i) (agrees i x (sha256 b) m.vc) m.passes).0 in
          (m, has_some (λ batch_entry. batch_entry.number ≡ i) m.vc.prepared (m.pledged.has (ltb-true m.vc.low i l)))

      tests : (not (w.1.0.number == i) || nat_lt w.1.0.view x || ((w.1.0.view == x) && bytes_eq w.1.0.digest (sha256 b))) ≡ true
      tests = every_has (λ (batch_entry : BatchEntry). not (batch_entry.number == i) || nat_lt batch_entry.view x || ((batch_entry.view == x) && bytes_eq batch_entry.digest (sha256 b))) w.0.vc.prepared w.1.0
          (and_parts (nat_lt w.0.vc.low i) (agrees i x (sha256 b) w.0.vc) w.0.passes).1 w.1.1

      bound : w.1.0.view < new.view
      bound = let m = member_of c new w.0.who w.0.vc sel w.0.change in let t = (m.prepared w.1.0 w.1.1).0 in let e = m.view_is in omega arith

      listed : Listed c w.0.who v i w.1.0 (history_of w.0.who trace)
      listed = w.0.pledged.each w.1.0 w.1.1 w.1.2

      earlier : (not (w.1.0.number == i) ≡ true) ⊎ (nat_lt w.1.0.view x ≡ true) → sha256 b ≡ sha256 a
      earlier (inl n) = let e = eq-eqb w.1.0.number i w.1.2 in let f = not_from_true (w.1.0.number == i) e in absurd (let bad : false ≡ true = sym f ∙ n in cc)
      earlier (inr l) =
          let lt : w.1.0.view < x = ltb-true w.1.0.view x l in
          let at_least = listed.at_least in
          let high : v < x = omega arith in
          vouched q new correct' takes' sel below x b high rules.1

      go : ((not (w.1.0.number == i) || nat_lt w.1.0.view x) ≡ true) ⊎ (((w.1.0.view == x) && bytes_eq w.1.0.digest (sha256 b)) ≡ true) → sha256 b ≡ sha256 a
      go (inl k) = earlier (or_cases (not (w.1.0.number == i)) (nat_lt w.1.0.view x) k)
      go (inr k) =
          let e : w.1.0.digest ≡ sha256 b = (bytes_eq-Decides w.1.0.digest (sha256 b)).0 (and_parts (w.1.0.view == x) (bytes_eq w.1.0.digest (sha256 b)) k).1 in
          sym e ∙ batch_entry_digest new.view below w.0.who w.0.is_correct w.1.0 bound listed

  -- no null batch may stand at the number
  not_null : (q : ℕ) (new : NewViewData) → is_correct_replica c q ≡ true → Once (TakesOrSendsNewView c new) (history_of q trace) → Selected c new → v < new.view
      → may_be_null c (changes_of c new) i ≡ true → ⊥
  not_null q new correct' takes' sel above h =
      let m = witness q new (λ vc. nat_lt vc.low i && list_all (λ (batch_entry : BatchEntry). not (batch_entry.number == i)) vc.prepared) correct' takes' sel above h in
      let parts = and_parts (nat_lt m.vc.low i) (list_all (λ (batch_entry : BatchEntry). not (batch_entry.number == i)) m.vc.prepared) m.passes in
      let k = has_some (λ batch_entry. batch_entry.number ≡ i) m.vc.prepared (m.pledged.has (ltb-true m.vc.low i parts.0)) in
      let n = every_has (λ (batch_entry : BatchEntry). not (batch_entry.number == i)) m.vc.prepared k.0 parts.1 k.1 in
      let e = eq-eqb k.0.number i k.2 in
      let f = not_from_true (k.0.number == i) e in
      let bad : false ≡ true = sym f ∙ n in absurd cc

  settle : (w : ℕ) → v < w → ((u : ℕ) → v < u → u < w → Settled c trace i (sha256 a) u) → Settled c trace i (sha256 a) w
  settle w above below q new correct' takes' is = go (cases_lt new.start i)
    where
      sel : Selected c new
      sel = selected c new (once_any (history_of q trace) (once_weaker (TakesOrSendsNewView c new) (λ past e. may_select c new ≡ true) (λ past e t. selected_in c e new (takes c q past e new t).brought) (history_of q trace) takes'))
        where
          once_any : (xs : List Entry) → Once (λ past e. may_select c new ≡ true) xs → may_select c new ≡ true
          once_any xs h = once_stays (λ past. may_select c new ≡ true) (λ e past k. k) xs h

      higher : v < new.view
      higher = omega arith

      below' : (u : ℕ) → v < u → u < new.view → Settled c trace i (sha256 a) u
      below' u l m = let n : u < w = omega arith in below u l n

      there : new.start < i → (b : List ℕ) × (slice_get new.batches (i - new.start - 1) ≡ Some b)
      there lt =
          let m = witness q new (λ vc. nat_le vc.low new.start) correct' takes' sel higher sel.starts in
          let low_is : m.vc.low ≤ new.start = leb-true m.vc.low new.start m.passes in
          let low_lt : m.vc.low < i = omega arith in
          let has = m.pledged.has low_lt in
          let k = has_some (λ batch_entry. batch_entry.number ≡ i) m.vc.prepared has in
          let within = ((member_of c new m.who m.vc sel m.change).prepared k.0 k.1).1 in
          let number = k.2 in
          let most : i ≤ new.start + span c = omega arith in
          let ge = largest_of-ge (new.start + span c) i m.who (changes_of c new) m.vc m.change has most in
          let long = sel.long in
          let room : i - new.start - 1 < length new.batches = omega arith in
          get_there new.batches (i - new.start - 1) room

      assigned : new.start < i → (b : List ℕ) → slice_get new.batches (i - new.start - 1) ≡ Some b → assigned_batch new.view i new ≡ Some b
      assigned lt b h = rw (and_from (new.view == new.view) (nat_lt new.start i) (eq-eqb new.view new.view refl) (lt-ltb new.start i lt)) h

      digest : new.start < i → (b : List ℕ) → slice_get new.batches (i - new.start - 1) ≡ Some b → sha256 b ≡ sha256 a
      digest lt b h =
          let place : i ≡ suc new.start + (i - new.start - 1) = omega arith in
          let stand = stands_at c new.view (changes_of c new) (suc new.start) new.batches (i - new.start - 1) b sel.stand h i place in
          by (or_cases (nat_lt 0 (count_below (may_stand_at c (changes_of c new) i (sha256 b)) new.view)) (is_null b && may_be_null c (changes_of c new) i) stand)
        where
          by : (nat_lt 0 (count_below (may_stand_at c (changes_of c new) i (sha256 b)) new.view) ≡ true) ⊎ ((is_null b && may_be_null c (changes_of c new) i) ≡ true) → sha256 b ≡ sha256 a
          by (inl k) = let x = some_below (may_stand_at c (changes_of c new) i (sha256 b)) new.view k in may_stand_digest q new correct' takes' sel higher below' b x.0 x.2
          by (inr k) = absurd (not_null q new correct' takes' sel higher (and_parts (is_null b) (may_be_null c (changes_of c new) i) k).1)

      go : (new.start < i) ⊎ (i ≤ new.start) → HasOrStartsAbove i (sha256 a) new
      go (inl lt) = let b = there lt in inr (b.0, assigned lt b.0 b.1, digest lt b.0 b.1)
      go (inr le) = inl le

  -- by induction over the views
  settle_below : (k u : ℕ) → v < u → u < k → Settled c trace i (sha256 a) u
  settle_below zero u l m = absurd (omega arith)
  settle_below (suc k) u l m = settle u l (λ x y z. let n : x < k = omega arith in settle_below k x y n)

  settled : (u : ℕ) → v < u → Settled c trace i (sha256 a) u
  settled u l = let m : u < suc u = omega arith in settle_below (suc u) u l m

pub committed_stays : CommittedStays
committed_stays c setting trace right unforged p q v i a new correct correct' committed takes' above =
    settled c setting trace right unforged p v i a correct committed new.view above q new correct' takes' refl

-- the later of two committed batches has the digest of the earlier
later_agrees : (c : Configuration) → IsConfiguration c → (trace : List Entry) → AreReplicasSafe c trace → Unforged c trace
    → (p q v w i : ℕ) (a b : List ℕ) → is_correct_replica c p ≡ true → is_correct_replica c q ≡ true
    → Committed c p (history_of p trace) v i a → Committed c q (history_of q trace) w i b → v < w → sha256 b ≡ sha256 a
later_agrees c setting trace right unforged p q v w i a b correct correct' x y above =
    let some : 0 < w = omega arith in
    settled_logged c trace i (sha256 a) w q right (settled c setting trace right unforged p v i a correct x w above) some correct' b y.prepared.logged

pub committed_agree : CommittedAgree
committed_agree c setting trace right unforged p q v w i a b correct correct' x y = go (cases_order v w)
  where
    go : (v ≡ w) ⊎ ((v < w) ⊎ (w < v)) → sha256 a ≡ sha256 b
    go (inl e) =
        let there : Prepared c p (history_of p trace) w i a = subst (λ (u : ℕ). Prepared c p (history_of p trace) u i a) e x.prepared in
        prepared_agree c setting trace right unforged p q w i a b correct correct' there y.prepared
    go (inr (inl l)) = sym (later_agrees c setting trace right unforged p q v w i a b correct correct' x y l)
    go (inr (inr l)) = later_agrees c setting trace right unforged q p w v i b a correct' correct y x l
