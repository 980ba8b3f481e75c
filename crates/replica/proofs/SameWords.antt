-- Every word of the certificates is the same on a history with and without idle entries.
use Rattle.std.proofs.Common.{◌≡◌, ℕ, Bool, cond, ◌&&◌, List, ◌∷◌, refl, ap, ◌∙◌, arith, Option, Some, None}
use Rattle.std.specs.Prelude.{◌==◌, nat_le, max, option_and_then}
use Rattle.std.specs.Option.{option_map_or}
use Rattle.std.specs.Bool.{then_some}
use Rattle.quorum.specs.Votes.{or_else}
use Rattle.quorum.proofs.Counting.{count_same}
use Rattle.wire_format.specs.Messages.{BodyData as Body, NewViewData, CheckpointEntryData as CheckpointEntry}
use Rattle.wire.proofs.Skipping.{none_chosen}
use Rattle.protocol.specs.System.Configuration.{Configuration, replicas}
use Rattle.protocol.specs.System.Trace.{Entry}
use Rattle.protocol.specs.System.Trace.Entry.{Got, Sent}
use Rattle.protocol.specs.Replica.Selection.{is_quorum}
use Rattle.protocol.specs.Replica.Certificates.{brought, view, view_after, target, taken, is_later, is_active_in, new_view_in, change_sent, checkpoint_in, installed_at, count_checkpoints, lists_checkpoint, is_stable, stable_at, started_at, low, is_in_marks, counts_at, checkpoints_of, with_checkpoint, assigned_batch, batch_from, assigned_proposal, entry_proposal, proposal, logged, prepare_from, prepare_of, commit_from, commit_of, vote_in, change_taken, change_at, latest_change}
use Rattle.protocol.specs.Replica.Transfers.{fetch_sent, fetching, asked_last}
use Rattle.protocol.proofs.Words.Options.{or_else_alone}
use Rattle.replica.specs.Idle.{BringsNothing, CertifySame, WordsStay}
use Rattle.replica.specs.Idle.LeavesOut.{none, both, beside}

pub count_checkpoints_same : (c : Configuration) (g h : List Entry) → ((s : ℕ) → checkpoints_of c h s ≡ checkpoints_of c g s) → (mark : CheckpointEntry) → count_checkpoints c h mark ≡ count_checkpoints c g mark
count_checkpoints_same c g h same mark = count_same (λ s. lists_checkpoint mark (checkpoints_of c h s)) (λ s. lists_checkpoint mark (checkpoints_of c g s)) (λ s. ap (lists_checkpoint mark) (same s)) (replicas c)

pub stable_same : (c : Configuration) (me : ℕ) (g h : List Entry) → ((s : ℕ) → checkpoints_of c h s ≡ checkpoints_of c g s) → (mark : CheckpointEntry) → is_stable c me h mark ≡ is_stable c me g mark
stable_same c me g h same mark =
    ap (λ (n : ℕ). is_quorum c n && lists_checkpoint mark (checkpoints_of c h me)) (count_checkpoints_same c g h same mark)
    ∙ ap (λ (ms : List CheckpointEntry). is_quorum c (count_checkpoints c g mark) && lists_checkpoint mark ms) (same me)

-- ---- an entry of both

module _ (c : Configuration) (me : ℕ) (e : Entry) (g h : List Entry) (f : CertifySame c me g h) where
  pub taken_same : taken c h e ≡ taken c g e
  taken_same =
      ap (λ (v : ℕ). option_and_then (λ (new : NewViewData). then_some (is_later v (target h) new) new) (new_view_in c e)) f.view
      ∙ ap (λ (t : ℕ). option_and_then (λ (new : NewViewData). then_some (is_later (view c g) t new) new) (new_view_in c e)) f.target

  pub active_same : (v : ℕ) → is_active_in c h v ≡ is_active_in c g v
  active_same v = ap (λ (x : ℕ). (x == v) && nat_le (target h) v) f.view ∙ ap (λ (t : ℕ). (view c g == v) && nat_le t v) f.target

  view_both : view c (e ∷ h) ≡ view c (e ∷ g)
  unfolding view
  view_both = ap (λ (v : ℕ). view_after v (target h) (new_view_in c e)) f.view ∙ ap (λ (t : ℕ). view_after (view c g) t (new_view_in c e)) f.target

  checkpoints_both : (s : ℕ) → checkpoints_of c (e ∷ h) s ≡ checkpoints_of c (e ∷ g) s
  unfolding checkpoints_of
  checkpoints_both s = ap (with_checkpoint s (checkpoint_in c e)) (f.checkpoints s)

  stable_both : stable_at c me h e ≡ stable_at c me g e
  stable_both = go (checkpoint_in c e)
    where
      go : (o : Option (ℕ × CheckpointEntry)) → option_map_or (λ (x : ℕ × CheckpointEntry). cond (is_stable c me (e ∷ h) x.1) x.1.number 0) o 0 ≡ option_map_or (λ (x : ℕ × CheckpointEntry). cond (is_stable c me (e ∷ g) x.1) x.1.number 0) o 0
      go None = refl
      go (Some x) = ap (λ (b : Bool). cond b x.1.number 0) (stable_same c me (e ∷ g) (e ∷ h) checkpoints_both x.1)

  low_both : low c me (e ∷ h) ≡ low c me (e ∷ g)
  unfolding low
  low_both =
      let a = f.low in
      let b = stable_both in
      let d : started_at c h e ≡ started_at c g e = ap (λ (o : Option NewViewData). option_map_or (λ (new : NewViewData). new.start) o 0) taken_same in
      ap (λ (n : ℕ). max n (max (stable_at c me h e) (max (installed_at e) (started_at c h e)))) a
      ∙ ap (λ (n : ℕ). max (low c me g) (max n (max (installed_at e) (started_at c h e)))) b
      ∙ ap (λ (n : ℕ). max (low c me g) (max (stable_at c me g e) (max (installed_at e) n))) d

  pub counts_same : (v i : ℕ) → counts_at c me h e v i ≡ counts_at c me g e v i
  counts_same v i = go e
    where
      go : (x : Entry) → counts_at c me h x v i ≡ counts_at c me g x v i
      go (Got p bytes) = ap (λ (b : Bool). b && is_in_marks c (low c me h) i) (active_same v) ∙ ap (λ (n : ℕ). is_active_in c g v && is_in_marks c n i) f.low
      go _ = refl

  pub vote_same : (vote : Body → Option (List ℕ)) (v i : ℕ) → vote_in c me h e vote v i ≡ vote_in c me g e vote v i
  vote_same vote v i = ap (λ (b : Bool). cond b (option_and_then vote (brought c e)) None) (counts_same v i)

  begins_nothing_same : (v i : ℕ) → assigned_proposal c me h e v i ≡ assigned_proposal c me g e v i
  begins_nothing_same v i =
      ap (λ (n : ℕ). cond (is_in_marks c n i) (option_and_then (assigned_batch v i) (taken c h e)) None) low_both
      ∙ ap (λ (o : Option NewViewData). cond (is_in_marks c (low c me (e ∷ g)) i) (option_and_then (assigned_batch v i) o) None) taken_same

  pub proposal_same : (v i : ℕ) → proposal c me h e v i ≡ proposal c me g e v i
  proposal_same v i =
      ap (λ (o : Option (List ℕ)). or_else o (entry_proposal c me h e v i)) (begins_nothing_same v i)
      ∙ ap (or_else (assigned_proposal c me g e v i)) (vote_same (batch_from c me v i) v i)

  asked_both : asked_last (e ∷ h) ≡ asked_last (e ∷ g)
  asked_both = go e
    where
      go : (x : Entry) → asked_last (x ∷ h) ≡ asked_last (x ∷ g)
      go (Sent p bytes) = ap (or_else _) f.asked
      go _ = f.asked

  change_both : (s : ℕ) → change_at c h e s ≡ change_at c g e s
  change_both s = go e
    where
      go : (x : Entry) → change_at c h x s ≡ change_at c g x s
      go (Got p bytes) = ap (λ (v : ℕ). change_taken c v s bytes) f.view
      go _ = refl

  pub both_same : CertifySame c me (e ∷ g) (e ∷ h)
  unfolding logged prepare_of commit_of
  both_same = record {
    target = ap (max (change_sent e)) f.target;
    view = view_both;
    checkpoints = checkpoints_both;
    low = low_both;
    logged = λ v i. ap (λ (o : Option (List ℕ)). or_else o (proposal c me h e v i)) (f.logged v i) ∙ ap (or_else (logged c me g v i)) (proposal_same v i);
    prepares = λ v i s. ap (λ (o : Option (List ℕ)). or_else o (vote_in c me h e (prepare_from c s v i) v i)) (f.prepares v i s) ∙ ap (or_else (prepare_of c me g v i s)) (vote_same (prepare_from c s v i) v i);
    commits = λ v i s. ap (λ (o : Option (List ℕ)). or_else o (vote_in c me h e (commit_from s v i) v i)) (f.commits v i s) ∙ ap (or_else (commit_of c me g v i s)) (vote_same (commit_from s v i) v i);
    fetching = ap (max (fetch_sent e)) f.fetching;
    asked = asked_both;
    latest = λ s. ap (λ (n : ℕ). max n (change_at c h e s)) (f.latest s) ∙ ap (max (latest_change c g s)) (change_both s);
  }

-- ---- an idle entry

both_none : {A : Type 0} (o later : Option A) → o ≡ None → later ≡ None → or_else o later ≡ None
both_none None later h k = k
both_none (Some x) later h k = absurd cc

max_none : (n m : ℕ) → m ≡ 0 → max n m ≡ n
max_none n m h = omega arith

none_max : (n m : ℕ) → m ≡ 0 → max m n ≡ n
none_max n m h = omega arith

module _ (c : Configuration) (me : ℕ) (e : Entry) (idle : BringsNothing c me e) (h : List Entry) where
  taken_none : taken c h e ≡ None
  taken_none = ap (option_and_then (λ (new : NewViewData). then_some (is_later (view c h) (target h) new) new)) idle.view

  low_idle : low c me (e ∷ h) ≡ low c me h
  unfolding low
  low_idle =
      let stable : stable_at c me h e ≡ 0 = ap (λ (o : Option (ℕ × CheckpointEntry)). option_map_or (λ (x : ℕ × CheckpointEntry). cond (is_stable c me (e ∷ h) x.1) x.1.number 0) o 0) idle.checkpoint in
      let started : started_at c h e ≡ 0 = ap (λ (o : Option NewViewData). option_map_or (λ (new : NewViewData). new.start) o 0) taken_none in
      let installed = idle.installed in
      omega arith

  -- the words after an idle entry are those before it
  pub idle_same : CertifySame c me h (e ∷ h)
  unfolding view checkpoints_of logged prepare_of commit_of
  idle_same = record {
    target = none_max (target h) (change_sent e) idle.change;
    view = ap (view_after (view c h) (target h)) idle.view;
    checkpoints = λ s. ap (λ (o : Option (ℕ × CheckpointEntry)). with_checkpoint s o (checkpoints_of c h s)) idle.checkpoint;
    low = low_idle;
    logged = λ v i. or_else_alone (logged c me h v i) (proposal c me h e v i)
        (both_none (assigned_proposal c me h e v i) (entry_proposal c me h e v i)
        (none_chosen (is_in_marks c (low c me (e ∷ h)) i) (option_and_then (assigned_batch v i) (taken c h e)) (ap (option_and_then (assigned_batch v i)) taken_none))
        (none_chosen (counts_at c me h e v i) (option_and_then (batch_from c me v i) (brought c e)) (idle.batch v i)));
    prepares = λ v i s. or_else_alone (prepare_of c me h v i s) (vote_in c me h e (prepare_from c s v i) v i) (none_chosen (counts_at c me h e v i) (option_and_then (prepare_from c s v i) (brought c e)) (idle.prepare s v i));
    commits = λ v i s. or_else_alone (commit_of c me h v i s) (vote_in c me h e (commit_from s v i) v i) (none_chosen (counts_at c me h e v i) (option_and_then (commit_from s v i) (brought c e)) (idle.commit s v i));
    fetching = none_max (fetching h) (fetch_sent e) idle.fetch;
    asked = idle.asked h;
    latest = λ s. max_none (latest_change c h s) (change_at c h e s) (idle.latest h s);
  }

pub same_then : (c : Configuration) (me : ℕ) (f g h : List Entry) → CertifySame c me f g → CertifySame c me g h → CertifySame c me f h
same_then c me f g h a b = record {
  target = b.target ∙ a.target;
  view = b.view ∙ a.view;
  checkpoints = λ s. b.checkpoints s ∙ a.checkpoints s;
  low = b.low ∙ a.low;
  logged = λ v i. b.logged v i ∙ a.logged v i;
  prepares = λ v i s. b.prepares v i s ∙ a.prepares v i s;
  commits = λ v i s. b.commits v i s ∙ a.commits v i s;
  fetching = b.fetching ∙ a.fetching;
  asked = b.asked ∙ a.asked;
  latest = λ s. b.latest s ∙ a.latest s;
}

-- ---- the whole history

pub words_same : WordsStay
unfolding view low logged prepare_of commit_of checkpoints_of
words_same c me _ _ none = record {
  target = refl;
  view = refl;
  checkpoints = λ s. refl;
  low = refl;
  logged = λ v i. refl;
  prepares = λ v i s. refl;
  commits = λ v i s. refl;
  fetching = refl;
  asked = refl;
  latest = λ s. refl;
}
words_same c me _ _ (both e g h p) = both_same c me e g h (words_same c me g h p)
words_same c me _ _ (beside e g h idle p) = same_then c me g h (e ∷ h) (words_same c me g h p) (idle_same c me e idle h)
