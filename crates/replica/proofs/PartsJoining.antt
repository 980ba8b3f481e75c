-- Desk and orderer together hold what a whole replica holds of the whole history, and the other way round.
use Rattle.std.proofs.Common.{◌≡◌, ℕ, ◌+◌, ◌*◌, ◌≤◌, ◌<◌, ◌⊎◌, inl, inr, Bool, true, false, cond, List, [], ◌∷◌, length, refl, sym, ap, ◌∙◌, subst, arith, Option, Some, None, is_some}
use Rattle.std.proofs.lemmas.Option.{none-some}
use Rattle.std.specs.Prelude.{nat_le, nat_lt, slice_get, not, ◌&&◌, ◌^◌}
use Rattle.sha2.specs.Sha256.{sha256}
use Rattle.quorum.specs.Votes.{has_digest}
use Rattle.quorum.proofs.Counting.{count_same}
use Rattle.std.specs.Prelude.{option_and_then}
use Rattle.std.specs.Bool.{then_some}
use Rattle.wire_format.specs.Words.{frame_of, said}
use Rattle.wire_format.specs.Lists.{Each}
use Rattle.wire_format.specs.Messages.{FrameData, MessageData as Message, ViewChangeData, NewViewData, CheckpointEntryData as CheckpointEntry, checkpoint as Checkpoint, view_change as ViewChange, new_view as NewView, request as Request, reply as Reply}
use Rattle.ordering.specs.Log.{LogData}
use Rattle.protocol.specs.System.Configuration.{Configuration, primary, replicas, span}
use Rattle.protocol.specs.System.Trace.{Entry, Once, Has, either}
use Rattle.protocol.specs.System.Trace.Entry.{Got, Sent}
use Rattle.protocol.specs.Replica.RightReplica.{SendsBytes, SentBefore, HasSeen, IsFree}
use Rattle.protocol.specs.Replica.Certificates.{target, view, taken, is_later, low, is_in_marks, logged, prepare_of, commit_of, Prepared, Committed}
use Rattle.protocol.specs.Replica.State.{Call}
use Rattle.protocol.specs.Replica.Owed.{IsSending, BeginsViewWith, BringsChange, HasLatestChange, HasBatch, CanBeginView, AreKeysSpent, StartsAhead}
use Rattle.pq_sets.specs.PqSetsView.{PqSetsData}
use Rattle.view_change.specs.ReceivedData.{HeldData}
use Rattle.replica_histories.specs.Logs.{FitsLog, IsVoted, checkpoints_above}
use Rattle.replica_histories.specs.PqSets.{FitsPqSets, WasLogged}
use Rattle.replica_histories.specs.Received.{FitsReceived}
use Rattle.replica_histories.specs.Changes.{Changes, FitsChanges, IsAssignedUpTo}
use Rattle.replica_histories.specs.Events as histories
use Rattle.replica_histories.specs.Numbers as numbers
use Rattle.replica.specs.Idle.{BringsNothing, OrdersNothing, LeavesOut, CertifySame}
use Rattle.replica.proofs.IdleEntries.{once_over, once_back, parted}
use Rattle.wire_format.proofs.Saying.{reads_frames, reads_said}
use Rattle.wire_format.specs.Spelling.{is_signed}
use Rattle.protocol.specs.System.Frames.{leaf_in, leaf_of}
use Rattle.protocol.proofs.Words.Outgoing.{unsigned_no_leaf}
use Rattle.protocol.specs.Replica.Selection.{changes_of as changes_in}
use Rattle.protocol.proofs.Words.Elements.{each_weaker}
use Rattle.replica_histories.proofs.Received.{brings_view, brings_newer}
use Rattle.replica.proofs.SameWords.{words_same, taken_same}
use Rattle.protocol.specs.System.Reads.{without_reads}
use Rattle.orderer.specs.State.{OrdererData}
use Rattle.desk.specs.State.{DeskData}
use Rattle.desk.specs.DeskOf.{waiting_calls, desk_of}
use Rattle.orderer.specs.Flags.{FitsFlags, flagged}
use Rattle.replica.specs.Numbering.{IsAllNumbered}
use Rattle.orderer.specs.Fitting.{FitsWaiting, WasSent, changes_held}
use Rattle.orderer.specs.Numbering.{next_number}
use Rattle.replica.specs.BothParts.{both_parts, me_of}
use Rattle.replica.specs.Parted.{DeskMatchesHistory, OrdererMatchesHistory, IsUsed}
use Rattle.replica.specs.PartedLaws.{PartsJoin, HoldsPart}
use Rattle.orderer.specs.ViewChangeOut.{AreChanges}
use Rattle.orderer.proofs.Flags.{count_same as flags_count}
use Rattle.replica_histories.proofs.Resting.{held_are_settled}
use Rattle.replica_histories.proofs.Words.{primary_same}

-- ---- what both histories certify, turned round

pub turned : (c : Configuration) (me : ℕ) (g h : List Entry) → CertifySame c me g h → CertifySame c me h g
turned c me g h s = record {
  target = sym s.target;
  view = sym s.view;
  checkpoints = λ x. sym (s.checkpoints x);
  low = sym s.low;
  logged = λ v i. sym (s.logged v i);
  prepares = λ v i x. sym (s.prepares v i x);
  commits = λ v i x. sym (s.commits v i x);
  fetching = sym s.fetching;
  asked = sym s.asked;
  latest = λ x. sym (s.latest x);
}

-- ---- certificates

pub prepared_same : (c : Configuration) (me : ℕ) (g h : List Entry) (v i : ℕ) (batch : List ℕ) → CertifySame c me g h → Prepared c me h v i batch → Prepared c me g v i batch
prepared_same c me g h v i batch s p = record {
  logged = sym (s.logged v i) ∙ p.logged;
  backups = subst (λ (n : ℕ). 2 * c.faults ≤ n)
      (count_same (λ x. has_digest (sha256 batch) (prepare_of c me h v i x)) (λ x. has_digest (sha256 batch) (prepare_of c me g v i x)) (λ x. ap (has_digest (sha256 batch)) (s.prepares v i x)) (replicas c)) p.backups;
}

pub committed_same : (c : Configuration) (me : ℕ) (g h : List Entry) (v i : ℕ) (batch : List ℕ) → CertifySame c me g h → Committed c me h v i batch → Committed c me g v i batch
committed_same c me g h v i batch s k = record {
  prepared = prepared_same c me g h v i batch s k.prepared;
  commits = subst (λ (n : ℕ). 2 * c.faults + 1 ≤ n)
      (count_same (λ x. has_digest (sha256 batch) (commit_of c me h v i x)) (λ x. has_digest (sha256 batch) (commit_of c me g v i x)) (λ x. ap (has_digest (sha256 batch)) (s.commits v i x)) (replicas c)) k.commits;
  own = sym (s.commits v i me) ∙ k.own;
}

-- ---- the log, from one history to the other

module _ (c : Configuration) (me : ℕ) (g h : List Entry) (s : CertifySame c me g h) where
  back : CertifySame c me h g
  back = turned c me g h s

  voted : (v i : ℕ) (batch : List ℕ) → IsVoted c me g v i batch → IsVoted c me h v i batch
  voted v i batch k = record {
    prepare = λ backup. let x = k.prepare backup in (x.0, s.prepares v i me ∙ x.1);
    commit = λ p. let x = k.commit (prepared_same c me g h v i batch s p) in (x.0, s.commits v i me ∙ x.1);
  }

  pub log_over : (log : LogData) → ((v : ℕ) (batch : List ℕ) → Once (BeginsViewWith c v batch) h → Once (BeginsViewWith c v batch) g) → FitsLog c me log g → FitsLog c me log h
  log_over log begins f = record {
    is_log = f.is_log;
    own = f.own;
    faults = f.faults;
    span = f.span;
    view = s.view ∙ f.view;
    active = ap (λ (t : ℕ). nat_le t log.view) s.target ∙ f.active;
    low = s.low ∙ f.low;
    batches = λ i k. s.logged log.view i ∙ f.batches i k;
    prepares = λ i x k. s.prepares log.view i x ∙ f.prepares i x k;
    commits = λ i x k. s.commits log.view i x ∙ f.commits i x k;
    within = λ v i batch k. f.within v i batch (sym (s.logged v i) ∙ k);
    above = λ i x l m. let a = f.above i x l m in (s.prepares log.view i x ∙ a.0, s.commits log.view i x ∙ a.1);
    begins = λ v batch k. f.begins v batch (begins v batch k);
    settled = λ a i batch l k. voted log.view i batch (f.settled a i batch l (sym (s.logged log.view i) ∙ k));
    views = record {
      decided = λ i batch k d. let x = f.views.decided i batch k d in (x.0, x.1, committed_same c me h g x.0 i batch back x.2);
      all_decided = λ v i batch l k x. f.views.all_decided v i batch l k (committed_same c me g h v i batch s x);
      voted = λ v i batch k o x. let y = f.views.voted v i batch k o (prepared_same c me g h v i batch s x) in (y.0, s.commits v i me ∙ y.1);
      later = λ v i x l. let y = f.views.later v i x l in (s.prepares v i x ∙ y.0, s.commits v i x ∙ y.1);
    };
    checkpoints = λ x. ap (checkpoints_above log.low) (s.checkpoints x) ∙ f.checkpoints x;
    latest = f.latest;
  }

  -- ---- P and Q

  logged_over : (texts : List (List ℕ)) → Each (WasLogged c me g) texts → Each (WasLogged c me h) texts
  logged_over [] k = tt
  logged_over (x ∷ xs) k = ((k.0.0, k.0.1, s.logged k.0.0 k.0.1 ∙ k.0.2), logged_over xs k.1)

  marked : (i : ℕ) → is_in_marks c (low c me g) i ≡ true → is_in_marks c (low c me h) i ≡ true
  marked i k = subst (λ (n : ℕ). is_in_marks c n i ≡ true) (sym s.low) k

  unmarked : (i : ℕ) → is_in_marks c (low c me h) i ≡ true → is_in_marks c (low c me g) i ≡ true
  unmarked i k = subst (λ (n : ℕ). is_in_marks c n i ≡ true) s.low k

  pub pq_sets_over : (pq_sets : PqSetsData) → FitsPqSets c me g pq_sets → FitsPqSets c me h pq_sets
  pq_sets_over pq_sets f = record {
    prepared = record {
      listed = λ pq_entry has. let x = f.prepared.listed pq_entry has in
          (s.commits pq_entry.view pq_entry.number me ∙ x.0, marked pq_entry.number x.1, λ v d l k. x.2 v d l (sym (s.commits v pq_entry.number me) ∙ k));
      all = λ v i d m k. f.prepared.all v i d (unmarked i m) (sym (s.commits v i me) ∙ k);
      ascending = f.prepared.ascending;
    };
    logged = record {
      listed = λ pq_entry has. let x = f.logged.listed pq_entry has in ((x.0.0, s.logged pq_entry.view pq_entry.number ∙ x.0.1, x.0.2), marked pq_entry.number x.1);
      all = λ v i d m k. f.logged.all v i d (unmarked i m) (k.0, sym (s.logged v i) ∙ k.1, k.2);
      ascending = f.logged.ascending;
    };
    texts = logged_over pq_sets.texts f.texts;
  }

-- ---- view-change data

saying_sent : (me : ℕ) (message : Message) (frame : List ℕ) (past : List Entry) (e : Entry) → said frame ≡ Some (record { sender = me; message = message }) → SendsBytes frame past e → IsSending me message e
saying_sent me message frame past (Sent p text) says is = ap said is ∙ says
saying_sent me message frame past _ says is = absurd is

pub taken_none : (c : Configuration) (me : ℕ) (e : Entry) (past : List Entry) → BringsNothing c me e → taken c past e ≡ None
taken_none c me e past idle = ap (option_and_then (λ (new : NewViewData). then_some (is_later (view c past) (target past) new) new)) idle.view

-- an idle entry brings no view change that counts
idle_brings_none : (c : Configuration) (me : ℕ) (x : ℕ × ViewChangeData) (past : List Entry) (e : Entry) → BringsNothing c me e → BringsChange c x past e → ⊥
idle_brings_none c me x past e idle b =
    let none = idle.latest past x.0 in
    let is = brings_view c x past e b in
    let newer = brings_newer c x past e b in
    omega (arith, none, is, newer)

-- and with one more such entry no other new view can begin
has_latest_idle : (c : Configuration) (me : ℕ) (past : List Entry) (e : Entry) → BringsNothing c me e → CertifySame c me past (e ∷ past) → (x : ℕ × ViewChangeData) → HasLatestChange c me (e ∷ past) x → HasLatestChange c me past x
has_latest_idle c me past e idle s x (inl (other, inl b, latest)) = absurd (idle_brings_none c me x past e idle b)
has_latest_idle c me past e idle s x (inl (other, inr once, latest)) = inl (other, once, sym (s.latest x.0) ∙ latest)
has_latest_idle c me past e idle s x (inr (mine, inl says, at)) = absurd (idle.says (ViewChange x.1) says)
has_latest_idle c me past e idle s x (inr (mine, inr once, at)) = inr (mine, once, sym s.target ∙ at)

pub can_begin_idle : (c : Configuration) (me : ℕ) (past : List Entry) (e : Entry) → BringsNothing c me e → CertifySame c me past (e ∷ past) → (new : NewViewData) → CanBeginView c me (e ∷ past) new → CanBeginView c me past new
can_begin_idle c me past e idle s new can = record {
  left = subst (λ (v : ℕ). v < target past) s.view (subst (λ (t : ℕ). view c (e ∷ past) < t) s.target can.left);
  view = can.view ∙ s.target;
  primary = can.primary;
  selected = can.selected;
  changes = each_weaker (HasLatestChange c me (e ∷ past)) (HasLatestChange c me past) (has_latest_idle c me past e idle s) (changes_in c new) can.changes;
  batches = each_weaker (HasBatch c me (e ∷ past)) (HasBatch c me past) has new.batches can.batches;
}
  where
    has : (batch : List ℕ) → HasBatch c me (e ∷ past) batch → HasBatch c me past batch
    has batch (inl null) = inl null
    has batch (inr (v, i, here, within)) = inr (v, i, sym (s.logged v i) ∙ here, subst (λ (n : ℕ). is_in_marks c n i ≡ true) s.low within)

-- spent keys stay spent
pub spent_on : (past : List Entry) (e : Entry) → AreKeysSpent past → AreKeysSpent (e ∷ past)
spent_on past e spent leaf l = let k = spent leaf l in (k.0, k.1, inr k.2)

-- no new view starts at an idle entry
pub idle_starts : (c : Configuration) (me k : ℕ) (past : List Entry) (e : Entry) → BringsNothing c me e → Once (StartsAhead c k) (e ∷ past) → Once (StartsAhead c k) past
idle_starts c me k past e idle (inl h) = absurd (none-some h.0 (sym (taken_none c me e past idle) ∙ h.1))
idle_starts c me k past e idle (inr h) = h

-- from the entries of ordering to all
module _ (c : Configuration) (me : ℕ) (g h : List Entry) (p : LeavesOut c me g h) where
  words : CertifySame c me g h
  words = words_same c me g h p

  taken_over : (new : NewViewData) → Once (λ past e. taken c past e ≡ Some new) g → Once (λ past e. taken c past e ≡ Some new) h
  taken_over new k = once_over c me (λ past e. taken c past e ≡ Some new) (λ e g h p x. taken_same c me e g h (words_same c me g h p) ∙ x) g h p k

  taken_back : (new : NewViewData) → Once (λ past e. taken c past e ≡ Some new) h → Once (λ past e. taken c past e ≡ Some new) g
  taken_back new k = once_back c me (λ past e. taken c past e ≡ Some new) (λ e g h p x. sym (taken_same c me e g h (words_same c me g h p)) ∙ x)
      (λ e past idle x. none-some new (sym (taken_none c me e past idle) ∙ x)) g h p k

  begins_over : (v : ℕ) (batch : List ℕ) → Once (BeginsViewWith c v batch) g → Once (BeginsViewWith c v batch) h
  begins_over v batch k = once_over c me (BeginsViewWith c v batch) (λ e g h p b. (b.0, taken_same c me e g h (words_same c me g h p) ∙ b.1, b.2, b.3)) g h p k

  begins_back : (v : ℕ) (batch : List ℕ) → Once (BeginsViewWith c v batch) h → Once (BeginsViewWith c v batch) g
  begins_back v batch k = once_back c me (BeginsViewWith c v batch) (λ e g h p b. (b.0, sym (taken_same c me e g h (words_same c me g h p)) ∙ b.1, b.2, b.3))
      (λ e past idle b. none-some b.0 (sym (taken_none c me e past idle) ∙ b.1)) g h p k

  pub log_joins : (log : LogData) → FitsLog c me log g → FitsLog c me log h
  log_joins log = log_over c me g h words log begins_back

  pub log_parts : (log : LogData) → FitsLog c me log h → FitsLog c me log g
  log_parts log = log_over c me h g (turned c me g h words) log begins_over

  sent_back : (message : Message) (frame : List ℕ) → (OrdersNothing message → ⊥) → said frame ≡ Some (record { sender = me; message = message }) → SentBefore frame h → SentBefore frame g
  sent_back message frame loud says k = once_back c me (SendsBytes frame) (λ e g h p x. sends_anywhere frame h g e x)
      (λ e past idle x. loud (idle.says message (saying_sent me message frame past e says x))) g h p k
    where
      sends_anywhere : (frame : List ℕ) (a b : List Entry) (e : Entry) → SendsBytes frame a e → SendsBytes frame b e
      sends_anywhere frame a b (Sent p text) x = x
      sends_anywhere frame a b _ k = absurd k

  seen_anywhere : (frame : List ℕ) (a b : List Entry) (e : Entry) → HasSeen frame a e → HasSeen frame b e
  seen_anywhere frame a b (Sent p text) x = x
  seen_anywhere frame a b (Got p text) x = x
  seen_anywhere frame a b _ k = absurd k

  sends_so : (frame : List ℕ) (a b : List Entry) (e : Entry) → SendsBytes frame a e → SendsBytes frame b e
  sends_so frame a b (Sent p text) x = x
  sends_so frame a b _ k = absurd k

  sent_over : (frame : List ℕ) → SentBefore frame g → SentBefore frame h
  sent_over frame k = once_over c me (SendsBytes frame) (λ e g h p x. sends_so frame g h e x) g h p k

  -- an entry that counts for nothing has no leaf
  leaf_back : (sent : List ℕ) (leaf : ℕ) → leaf_of sent ≡ Some leaf → SentBefore sent h → SentBefore sent g
  leaf_back sent leaf by k = once_back c me (SendsBytes sent) (λ e g h p x. sends_so sent h g e x) (λ e past idle x. none e past idle x (frame_of sent) refl) g h p k
    where
      unsigned : (m : Message) → OrdersNothing m → is_signed m ≡ false
      unsigned (Request t mode op) q = refl
      unsigned (Reply client t mode number answer) q = refl
      unsigned _ q = absurd q

      seen : (e : Entry) (past : List Entry) → SendsBytes sent past e → HasSeen sent past e
      seen (Sent p text) past x = inl x
      seen _ past k = absurd k

      none : (e : Entry) (past : List Entry) → BringsNothing c me e → SendsBytes sent past e → (o : Option FrameData) → frame_of sent ≡ o → ⊥
      none e past idle x None is = absurd (let bad : None ≡ Some leaf = sym (ap (option_and_then (λ (f : FrameData). leaf_in f.authenticator)) is) ∙ by in cc)
      none e past idle x (Some frame) is =
          let says : said sent ≡ Some frame.body = reads_said sent frame ((reads_frames sent frame).0 is) in
          let quiet : OrdersNothing frame.body.message = idle.seen past sent frame.body (seen e past x) says in
          absurd (let bad : None ≡ Some leaf = sym (unsigned_no_leaf sent frame.body says (unsigned frame.body.message quiet)) ∙ by in cc)

  -- view changes that count do so with and without idle entries
  brought_same : (x : ℕ × ViewChangeData) (a b : List Entry) (e : Entry) → CertifySame c me a b → BringsChange c x a e → BringsChange c x b e
  brought_same x a b (Got p bytes) s h =
      (h.0, (subst (λ (v : ℕ). v < x.1.view) (sym s.view) h.1.0, h.1.1, subst (λ (v : ℕ). v < x.1.view) (sym (s.latest x.0)) h.1.2))
  brought_same x a b _ s h = absurd h

  brought_over : (x : ℕ × ViewChangeData) → Once (BringsChange c x) g → Once (BringsChange c x) h
  brought_over x k = once_over c me (BringsChange c x) (λ e g h p b. brought_same x g h e (words_same c me g h p) b) g h p k

  brought_back : (x : ℕ × ViewChangeData) → Once (BringsChange c x) h → Once (BringsChange c x) g
  brought_back x k = once_back c me (BringsChange c x) (λ e g h p b. brought_same x h g e (turned c me g h (words_same c me g h p)) b)
      (λ e past idle b. idle_brings_none c me x past e idle b) g h p k

  received_over : (held : List (Option HeldData)) → FitsReceived c me g held → FitsReceived c me h held
  received_over held f = record {
    latest = λ x n. words.latest x ∙ f.latest x n;
    placed = f.placed;
    taken = λ x other once latest. f.taken x other (brought_back x once) (sym (words.latest x.0) ∙ latest);
    seen = λ x k is. once_over c me (HasSeen k.frame) (λ e g h p y. seen_anywhere k.frame g h e y) g h p (f.seen x k is);
  }

  received_back : (held : List (Option HeldData)) → AreChanges held → FitsReceived c me h held → FitsReceived c me g held
  received_back held are f = record {
    latest = λ x n. sym (words.latest x) ∙ f.latest x n;
    placed = f.placed;
    taken = λ x other once latest. f.taken x other (brought_over x once) (words.latest x.0 ∙ latest);
    seen = λ x k is. once_back c me (HasSeen k.frame) (λ e g h p y. seen_anywhere k.frame h g e y)
        (λ e past idle y. idle.seen past k.frame (record { sender = (are x k is).0; message = ViewChange k.change }) y (are x k is).1) g h p (f.seen x k is);
  }

  pub changes_over : (log : LogData) (x : Changes) → FitsChanges c me log x g → FitsChanges c me log x h
  changes_over log x f = record {
    target = words.target ∙ f.target;
    pq_sets = pq_sets_over c me g h words x.pq_sets f.pq_sets;
    received = received_over x.held f.received;
    places = f.places;
    assigned = λ new k same. f.assigned new (taken_back new k) same;
    assigned_by = assigned_over f.assigned_by;
    own_change = λ a. let o = f.own_change a in record { own = o.own; held = o.held; view = o.view; sent = sent_over o.own.frame o.sent; is_outgoing = o.is_outgoing };
    own_view = λ frame is. let o = f.own_view frame is in record { new = o.new; view = o.view; primary = o.primary; sent = sent_over frame o.sent; is_outgoing = o.is_outgoing };
    own_latest = f.own_latest;
    own_begins = f.own_begins;
    latest = ap (λ (ms : List CheckpointEntry). slice_get ms 0) (words.checkpoints me) ∙ f.latest;
    leaves = λ sent leaf by k. f.leaves sent leaf by (leaf_back sent leaf by k);
    signed = λ leaf l. let s = f.signed leaf l in (s.0, s.1, sent_over s.0 s.2);
  }
    where
      assigned_over : (x.assigned ≡ 0) ⊎ IsAssignedUpTo c log.view x.assigned g → (x.assigned ≡ 0) ⊎ IsAssignedUpTo c log.view x.assigned h
      assigned_over (inl none) = inl none
      assigned_over (inr (new, once, at, is)) = inr (new, taken_over new once, at, is)

  pub changes_back : (log : LogData) (x : Changes) → AreChanges x.held → FitsChanges c me log x h → FitsChanges c me log x g
  changes_back log x are f = record {
    target = sym words.target ∙ f.target;
    pq_sets = pq_sets_over c me h g (turned c me g h words) x.pq_sets f.pq_sets;
    received = received_back x.held are f.received;
    places = f.places;
    assigned = λ new k same. f.assigned new (taken_over new k) same;
    assigned_by = entered_back f.assigned_by;
    own_change = λ a. let o = f.own_change a in record { own = o.own; held = o.held; view = o.view; sent = sent_back (ViewChange o.own.change) o.own.frame (λ q. q) o.is_outgoing.says o.sent; is_outgoing = o.is_outgoing };
    own_view = λ frame is. let o = f.own_view frame is in record { new = o.new; view = o.view; primary = o.primary; sent = sent_back (NewView o.new) frame (λ q. q) o.is_outgoing.says o.sent; is_outgoing = o.is_outgoing };
    own_latest = f.own_latest;
    own_begins = f.own_begins;
    latest = sym (ap (λ (ms : List CheckpointEntry). slice_get ms 0) (words.checkpoints me)) ∙ f.latest;
    leaves = λ sent leaf by k. f.leaves sent leaf by (sent_over sent k);
    signed = λ leaf l. let s = f.signed leaf l in (s.0, s.1, leaf_back s.0 leaf s.1 s.2);
  }
    where
      entered_back : (x.assigned ≡ 0) ⊎ IsAssignedUpTo c log.view x.assigned h → (x.assigned ≡ 0) ⊎ IsAssignedUpTo c log.view x.assigned g
      entered_back (inl none) = inl none
      entered_back (inr (new, once, at, is)) = inr (new, taken_back new once, at, is)

  pub said_over : (last : Option CheckpointEntry) → WasSent me last g → WasSent me last h
  said_over last f entry is = once_over c me (λ past e. IsSending me (Checkpoint entry.number entry.digest) e) (λ e g h p x. x) g h p (f entry is)

  pub said_back : (last : Option CheckpointEntry) → WasSent me last h → WasSent me last g
  said_back last f entry is = once_back c me (λ past e. IsSending me (Checkpoint entry.number entry.digest) e) (λ e g h p x. x)
      (λ e past idle x. idle.says (Checkpoint entry.number entry.digest) x) g h p (f entry is)

-- ---- used numbers, and waiting requests

pub used_over : (c : Configuration) (me used : ℕ) (g h : List Entry) → CertifySame c me g h → IsUsed c me (view c g) used g → IsUsed c me (view c h) used h
used_over c me used g h s u = record {
  free = λ j a. s.logged (view c h) j ∙ subst (λ (v : ℕ). logged c me g v j ≡ None) (sym s.view) (u.free j a);
  full = λ j above below. ap is_some (s.logged (view c h) j) ∙ subst (λ (v : ℕ). is_some (logged c me g v j) ≡ true) (sym s.view) (u.full j (subst (λ (n : ℕ). n < j) s.low above) below);
}

-- if each has a number, none is flagged as without
none_left : (c : Configuration) (me v : ℕ) (history : List Entry) (entries : List numbers.Waiting) → Each (numbers.IsRightly c me v history) entries
    → ((call : Call) → Has (λ x. x ≡ call) (numbers.calls_of entries) → numbers.CallHasNumber c me v history call) → numbers.unnumbered entries ≡ []
none_left c me v history [] right all = refl
none_left c me v history (w ∷ ws) right all = go w.numbered right.0 (none_left c me v history ws right.1 (λ call has. all call (inr has)))
  where
    go : (b : Bool) → either b (numbers.CallHasNumber c me v history w.call) (numbers.CallHasNoNumber c me v history w.call) → numbers.unnumbered ws ≡ [] → cond (not b) (w ∷ numbers.unnumbered ws) (numbers.unnumbered ws) ≡ []
    go true r rest = rest
    go false r rest = absurd (r (all w.call (inl refl)))

-- ---- together

module _ (c : Configuration) (o : OrdererData) (d : DeskData) (h : List Entry) (hd : DeskMatchesHistory c o.endpoint.me d h) (ho : OrdererMatchesHistory c o.endpoint.me o (without_reads h)) where
  abbrev me : ℕ
  me = o.endpoint.me

  p : LeavesOut c me (without_reads h) h
  p = parted c me h

  fits : FitsLog c me o.log h
  fits = log_joins c me (without_reads h) h p o.log ho.holds.fits

  holds : histories.BothFitBetweenEvents c me (desk_of c d) o.log h
  holds = record {
    of_desk = hd.holds;
    of_log = record { fits = fits; prepares = ho.holds.prepares; commits = ho.holds.commits };
    low = subst (λ (n : ℕ). histories.LowMarkIsReached c me n d.executed.state.number [] h) fits.low hd.low;
  }

  numbered : FitsWaiting c me o d.waiting (desk_of c d) h
  numbered own =
      let mine : primary c (view c h) ≡ me = ap (primary c) fits.view ∙ sym (primary_same c o.log o.log.view fits.faults) ∙ own ∙ fits.own in
      let f = hd.flags mine in
      let s = words_same c me (without_reads h) h p in
      let u = used_over c me o.used (without_reads h) h s (ho.used (ap (primary c) (sym s.view) ∙ mine)) in
      subst (λ (v : ℕ). FitsFlags c me v o.used d.waiting d.executed.state (waiting_calls c d.waiting.requests) h) fits.view
      (record { calls = f.1.calls; free = u.free; full = u.full; rightly = f.1.rightly; numbered = f.1.numbered; known = f.1.known; differ = f.1.differ })

  all : IsAllNumbered (both_parts o d)
  all (own, marks, near, active) =
      let f = numbered own in
      let n = next_number o in
      let in_marks : is_in_marks c (low c me h) n ≡ true =
      subst (λ (l : ℕ). (nat_lt l n && nat_le n (l + span c) && nat_lt n (2 ^ 48)) ≡ true) (sym fits.low)
      (subst (λ (k : ℕ). (nat_lt o.log.low n && nat_le n (o.log.low + k) && nat_lt n (2 ^ 48)) ≡ true) fits.span marks) in
      let same : low c me h ≡ o.log.low = fits.low in
      let free : IsFree c me h d.executed.state.number o.log.view n = record {
        in_marks = in_marks;
        near = near;
        used = λ j above below. f.full j above (omega (arith, above, below, same));
        unused = λ j above. f.free j (omega (arith, above));
      } in
      let settled = held_are_settled c me (desk_of c d) o.log h holds in
      flags_count c d.waiting
      ∙ ap (λ (ws : List numbers.Waiting). length ws) (none_left c me o.log.view h (flagged c d.waiting.requests) f.rightly
      (λ call has. settled.numbers n call active own (subst (λ (xs : List Call). Has (λ x. x ≡ call) xs) f.calls has) free))

pub parts_join : PartsJoin
parts_join c o d h one hd ho = record {
  is_desk = hd.is_desk;
  holds = holds c o d h hd ho;
  numbers = numbered c o d h hd ho;
  said = said_over c o.endpoint.me (without_reads h) h (parted c o.endpoint.me h) o.last_checkpoint ho.said;
  changes = changes_over c o.endpoint.me (without_reads h) h (parted c o.endpoint.me h) o.log (changes_held o) ho.changes;
  all = all c o d h hd ho;
  nothing_begins = ho.nothing_begins;
}

-- ---- and in parts

pub holds_part : HoldsPart
holds_part c r h one are runs = (
  record {
    is_desk = runs.is_desk;
    holds = runs.holds.of_desk;
    low = subst (λ (n : ℕ). histories.LowMarkIsReached c me n r.desk.executed.state.number [] h) (sym fits.low) runs.holds.low;
    flags = λ mine. (r.orderer.used, flags mine);
  },
  record {
    holds = record { fits = log_parts c me g h (parted c me h) r.orderer.log fits; prepares = runs.holds.of_log.prepares; commits = runs.holds.of_log.commits };
    used = λ mine. let f = flags (ap (primary c) s.view ∙ mine) in used_over c me r.orderer.used h g (turned c me g h s) (record { free = f.free; full = f.full });
    said = said_back c me g h (parted c me h) r.orderer.last_checkpoint runs.said;
    changes = changes_back c me g h (parted c me h) r.orderer.log (changes_held r.orderer) are runs.changes;
    period = runs.is_desk.period_is ∙ sym one.1;
    nothing_begins = runs.nothing_begins;
  },
)
  where
    me : ℕ
    me = me_of r

    g : List Entry
    g = without_reads h

    s : CertifySame c me g h
    s = words_same c me g h (parted c me h)

    fits : FitsLog c me r.orderer.log h
    fits = runs.holds.of_log.fits

    flags : primary c (view c h) ≡ me → FitsFlags c me (view c h) r.orderer.used r.desk.waiting r.desk.executed.state (waiting_calls c r.desk.waiting.requests) h
    flags mine = subst (λ (v : ℕ). FitsFlags c me v r.orderer.used r.desk.waiting r.desk.executed.state (waiting_calls c r.desk.waiting.requests) h) (sym fits.view)
        (runs.numbers (primary_same c r.orderer.log r.orderer.log.view fits.faults ∙ ap (primary c) (sym fits.view) ∙ mine ∙ sym fits.own))
