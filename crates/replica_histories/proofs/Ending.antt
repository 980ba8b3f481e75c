-- An event ends, and the replica has sent all that it owes.
use Rattle.std.proofs.Common.{◌≡◌, ◌≢◌, ℕ, suc, ◌<◌, ◌⊎◌, inl, inr, Bool, true, false, List, [], ◌∷◌, ◌++◌, refl, sym, ap, ◌∙◌, subst, arith, ◌%◌, Some, None, reverse}
use mathlib.Core.List.{reverse_aux}
use Rattle.std.proofs.lemmas.List.{reverse-reverse}
use Rattle.sha2.specs.Sha256.{sha256}
use Rattle.terms.specs.declared.state.Level.{Level}
use Rattle.terms.specs.declared.state.Level.TheVariants as levels
use Rattle.wire_format.specs.Messages.{MessageData as Message, prepare as Prepare, commit as Commit, checkpoint as Checkpoint, fetch as Fetch, meta as Meta, page as Page}
use Rattle.wire_format.specs.Spelling.{has_children}
use Rattle.ordering.specs.Log as logs
use Rattle.ordering.specs.Log.{LogData}
use Rattle.protocol.specs.System.Configuration.{Configuration, primary}
use Rattle.protocol.specs.System.Trace.{Entry, is_output, Once, Has, either, Receives}
use Rattle.protocol.specs.System.Trace.Entry.{Got}
use Rattle.protocol.specs.Replica.Certificates.{is_active_in, logged, prepare_of, commit_of, Prepared, Committed}
use Rattle.protocol.specs.Replica.State.{State, Call, root_of, page_text}
use Rattle.protocol.specs.Replica.RightReplica.{Point, HistoryReaches, Executes, reply_of, KeptState, digests_at, IsFree}
use Rattle.protocol.specs.Replica.Transfers.{fetch_sent, fetching}
use Rattle.protocol.specs.Replica.Owed.{IsSending, SendsMessage, SendsMessageTo, AtOutputs, NumbersOnce, IsNumbered, IsDropped, TransferGoesOn, Owes, HistoryIsPrompt}
use Rattle.protocol.proofs.Words.Options.{some_injective}
use Rattle.protocol.proofs.Words.Elements.{has_weaker, has_reverse, has_reversed}
use Rattle.protocol.proofs.Words.Linking.{Speaks}
use Rattle.protocol.proofs.Agreement.Voting.{preparing}
use Rattle.protocol.proofs.Agreement.Commits.{committing, prepared_stays, prepared_remains}
use Rattle.replica_histories.specs.Desk.{Desk, point_of}
use Rattle.replica_histories.specs.Events.{Start, after_outputs, Steps, AtEach, IsOnItsWay, LowMarkIsReached, BothFitWithinEvent, IsSettled, LeavesNoView, IsTaken, EventsEnd}
use Rattle.replica_histories.specs.Logs.{IsVoted}
use Rattle.replica_histories.specs.Questions.{AnswersInput, read_reply}
use Rattle.replica_histories.specs.TransfersQuorums.{IsToFetch, QuorumsFetched}
use Rattle.replica_histories.proofs.Words.{given_not, primary_same}
use Rattle.replica_histories.proofs.Certified.{active_view, active_log, committed_there}
use Rattle.replica_histories.proofs.Settling.{votes_said}
use Rattle.replica_histories.proofs.Speaking.{prepare_spoken, spoken_logged, commit_spoken, spoken_certified, in_event}
use Rattle.replica_histories.proofs.TransfersAnswering.{answers_turn, answers_in_parts}
use Rattle.replica_histories.proofs.TransfersQuorums.{quorums_end}
use Rattle.replica_histories.proofs.Resending.{sends_turned}

-- ---- at each output

at_outputs : (P : List Entry → Entry → Type 0) (s : Start) (outputs later : List Entry) → AtEach P s outputs → AtOutputs P (after_outputs s outputs) later → AtOutputs P (s.input ∷ s.before) (reverse_aux outputs later)
at_outputs P s [] later h k = k
at_outputs P s (e ∷ outputs) later h k = at_outputs P s outputs (e ∷ later) h.1 (h.0, k)

-- the history up to here is safe
pub steps_leave : (c : Configuration) (me : ℕ) (s : Start) (outputs : List Entry) (point : Point) → HistoryReaches c me s.before s.old → Steps c me s outputs point → HistoryReaches c me (after_outputs s outputs) point
steps_leave c me s [] point leaves steps = (s.old, leaves, steps)
steps_leave c me s (e ∷ outputs) point leaves steps = (steps.0, steps_leave c me s outputs steps.0 leaves steps.1, steps.2)

-- ---- what the event owes

module _ (c : Configuration) (me : ℕ) (s : Start) (desk : Desk) (log : LogData) (outputs : List Entry) (is : is_output s.input ≡ false) (f : BothFitWithinEvent c me s desk log [] outputs) (settled : IsSettled c me desk log (after_outputs s outputs)) where
  abbrev now : List Entry
  now = after_outputs s outputs

  abbrev reached : Point
  reached = point_of desk f.of_desk.states f.of_desk.ran

  leaves_now : HistoryReaches c me now reached
  leaves_now = steps_leave c me s outputs reached f.of_desk.leaves f.of_desk.steps

  given : (message : Message) → SendsMessage me message outputs → SendsMessage me message (reverse outputs)
  given message h = has_reversed (IsSending me message) outputs h

  -- nothing is due any more
  gave : (message : Message) → IsOnItsWay me [] outputs message → SendsMessage me message outputs
  gave message (inl h) = absurd h
  gave message (inr h) = h

  -- a logged batch has the replica's own votes, while the replica is active
  votes : (v i : ℕ) (batch : List ℕ) → is_active_in c now v ≡ true → logged c me now v i ≡ Some batch → IsVoted c me now v i batch
  votes v i batch active h =
      let at : v ≡ log.view = active_view c me log now v f.of_log active in
      subst (λ (x : ℕ). IsVoted c me now x i batch) (sym at) (votes_said c me log now f.of_log i batch (active_log c me log now v f.of_log active) (λ above. (settled.prepares i, settled.commits i)) (subst (λ (x : ℕ). logged c me now x i ≡ Some batch) at h))

  prepares : (v i : ℕ) (batch : List ℕ) → logged c me s.before v i ≡ None → logged c me now v i ≡ Some batch → is_active_in c now v ≡ true → primary c v ≢ me
      → SendsMessage me (Prepare v i (sha256 batch)) outputs
  prepares v i batch none some active backup =
      subst (λ (x : List ℕ). SendsMessage me (Prepare v i x) outputs) digest (pick (in_event me (Prepare v i own.0) s outputs is said))
    where
      own : (d : List ℕ) × (prepare_of c me now v i me ≡ Some d)
      own = (votes v i batch active some).prepare backup

      said : Once (Speaks (preparing me v i own.0)) now
      said = prepare_spoken c me v i own.0 now reached leaves_now own.1

      digest : own.0 ≡ sha256 batch
      digest =
          let l = spoken_logged c me v i own.0 now reached leaves_now said in
          sym l.digest ∙ ap sha256 (some_injective l.batch batch (sym l.is_logged ∙ some))

      pick : SendsMessage me (Prepare v i own.0) outputs ⊎ Once (Speaks (preparing me v i own.0)) s.before → SendsMessage me (Prepare v i own.0) outputs
      pick (inl h) = h
      pick (inr h) = let l = spoken_logged c me v i own.0 s.before s.old f.of_desk.leaves h in absurd (given_not (logged c me s.before v i) l.batch l.is_logged none)

  logged_now : (v i : ℕ) (batch : List ℕ) → Prepared c me s.before v i batch → logged c me now v i ≡ Some batch
  logged_now v i batch p = (prepared_remains c me v i batch outputs (s.input ∷ s.before) (prepared_stays c me v i batch s.input s.before p)).logged

  commits : (v i : ℕ) (batch : List ℕ) → (Prepared c me s.before v i batch → ⊥) → Prepared c me now v i batch → is_active_in c now v ≡ true
      → SendsMessage me (Commit v i (sha256 batch)) outputs
  commits v i batch none some active =
      subst (λ (x : List ℕ). SendsMessage me (Commit v i x) outputs) digest (pick (in_event me (Commit v i own.0) s outputs is said))
    where
      own : (d : List ℕ) × (commit_of c me now v i me ≡ Some d)
      own = (votes v i batch active some.logged).commit some

      said : Once (Speaks (committing me v i own.0)) now
      said = commit_spoken c me v i own.0 now reached leaves_now own.1

      digest : own.0 ≡ sha256 batch
      digest =
          let l = spoken_certified c me v i own.0 now reached leaves_now said in
          sym l.digest_is ∙ ap sha256 (some_injective l.batch batch (sym l.prepared.logged ∙ some.logged))

      pick : SendsMessage me (Commit v i own.0) outputs ⊎ Once (Speaks (committing me v i own.0)) s.before → SendsMessage me (Commit v i own.0) outputs
      pick (inl h) = h
      pick (inr h) =
          let l = spoken_certified c me v i own.0 s.before s.old f.of_desk.leaves h in
          let same : l.batch ≡ batch = some_injective l.batch batch (sym (logged_now v i l.batch l.prepared) ∙ some.logged) in
          absurd (none (subst (λ (b : List ℕ). Prepared c me s.before v i b) same l.prepared))

  numbers : (v i : ℕ) (call : Call) → is_active_in c now v ≡ true → primary c v ≡ me → Has (λ x. x ≡ call) desk.waiting
      → IsFree c me now desk.state.number v i → IsNumbered c me now v call.client call.timestamp
  numbers v i call active own waits free =
      subst (λ (x : ℕ). IsNumbered c me now x call.client call.timestamp) (sym at)
      (settled.numbers i call (active_log c me log now v f.of_log active) (primary_same c log log.view f.of_log.faults ∙ ap (primary c) (sym at) ∙ own ∙ sym f.of_log.own) waits (subst (λ (x : ℕ). IsFree c me now desk.state.number x i) at free))
    where
      at : v ≡ log.view
      at = active_view c me log now v f.of_log active

  checkpoints : (k : ℕ) → Has (λ e. Executes k [] e) (reverse outputs) → k % c.period ≡ 0 → Has (λ st. (st.number ≡ k) × SendsMessage me (Checkpoint k (root_of st)) (reverse outputs)) f.of_desk.states
  checkpoints k h multiple =
      has_weaker (λ st. (st.number ≡ k) × IsOnItsWay me [] outputs (Checkpoint k (root_of st))) (λ st. (st.number ≡ k) × SendsMessage me (Checkpoint k (root_of st)) (reverse outputs))
      (λ st w. (w.0, given (Checkpoint k (root_of st)) (gave (Checkpoint k (root_of st)) w.1))) f.of_desk.states
      (f.of_desk.checkpoints k (has_reverse (λ e. Executes k [] e) outputs h) multiple)

  -- no batch is committed for the next number: the log would have it, or the low mark is above it
  executes : (v : ℕ) (batch : List ℕ) → Committed c me now v (suc desk.state.number) batch → LowMarkIsReached c me log.low desk.state.number [] now → ⊥
  executes v batch k (inl l) = let known = committed_there c me log now v (suc desk.state.number) batch f.of_log (omega arith) k in given_not (logs.committed_batch log (suc desk.state.number)) known.0 known.1 settled.executes
  executes v batch k (inr h) = h.1 v batch k

  -- the states of the quorums were fetched
  pub fetched : QuorumsFetched c desk.state.number now
      × ((k : ℕ) (root : List ℕ) → IsToFetch c now k root → desk.state.number < k → fetching s.before < k → SendsMessage me (Fetch k levels.Root 0) outputs)
  fetched = quorums_end c me s desk.state.number outputs f.of_desk.fetches

  pub owes : AnswersInput c me s.before s.input outputs s.old desk.state.number → LeavesNoView c me now → (outputs ≡ []) ⊎ IsTaken c me s → Owes c me s.before s.input (reverse outputs) now s.old reached
  owes answered none_left taken = record {
    numbers = numbers;
    numbers_once = at_outputs (NumbersOnce c me) s outputs [] f.once tt;
    prepares = λ v i batch none some active backup. given (Prepare v i (sha256 batch)) (prepares v i batch none some active backup);
    commits = λ v i batch none some active. given (Commit v i (sha256 batch)) (commits v i batch none some active);
    executes = λ v batch k. executes v batch k f.low;
    replies = λ ran h. given (reply_of ran.call.client ran.kept) (gave (reply_of ran.call.client ran.kept) (f.of_desk.replies ran h));
    checkpoints = checkpoints;
    again = λ k t op kept receives is same. given (reply_of k kept) (gave (reply_of k kept) (f.of_desk.asked k kept (t, op, receives, is, same)));
    says_again = λ waits. sends_turned c me s.before s.old.state.number outputs (answered.4 waits);
    reads = λ client t op receives is. given (read_reply s.old.state client t op) (answered.1 client t op receives is);
    fetched_digests = parts.0;
    fetched_page = parts.1;
    fetches = λ k root h above fresh. given (Fetch k levels.Root 0) (fetched.1 k root (inl h) above fresh);
    fetches_start = λ k h above fresh. given (Fetch k levels.Root 0) (fetched.1 k [] (inr h) above fresh);
    fetches_again = λ k index level tick asked above. given (Fetch k level index) (gave (Fetch k level index) (f.of_desk.fetch_again k index level (tick, asked, above)));
    goes_on_by_digests = λ p k index level digests receives awaited. goes_on k (answered.2 p k index level digests receives awaited);
    goes_on_by_page = λ p k index text receives awaited. goes_on k (answered.3 p k index text receives awaited);
    view_changes = answered.5;
    new_views = none_left;
    dropped = λ bytes got drops. dropped taken bytes got drops;
  }
    where
      parts : ((p k index : ℕ) (level : Level) → has_children level ≡ true → Receives c me (record { sender = p; message = Fetch k level index }) s.before s.input → (st : State) → KeptState c me s.before s.old k (λ x. x ≡ st)
          → SendsMessageTo me p (Meta k level index (digests_at st level index)) (reverse outputs))
          × ((p k index : ℕ) → Receives c me (record { sender = p; message = Fetch k levels.Page index }) s.before s.input → (st : State) → KeptState c me s.before s.old k (λ x. x ≡ st)
          → SendsMessageTo me p (Page k index (page_text st index)) (reverse outputs))
      parts = answers_in_parts c me s.before s.input (reverse outputs) s.old (answers_turn c me s.before s.input outputs s.old answered.0)

      goes_on : (k : ℕ) → TransferGoesOn c me (s.input ∷ s.before) s.old outputs desk.state.number k → TransferGoesOn c me (s.input ∷ s.before) s.old (reverse outputs) desk.state.number k
      goes_on k (inl h) = inl (has_reversed (λ e. fetch_sent e ≡ k) outputs h)
      goes_on k (inr h) = inr h

      dropped : (outputs ≡ []) ⊎ IsTaken c me s → (bytes : List ℕ) → s.input ≡ Got me bytes → IsDropped c me s.before s.old bytes → reverse outputs ≡ []
      dropped (inl none) bytes got drops = ap reverse none
      dropped (inr t) bytes got drops =
          let k : IsTaken c me (record s { input = Got me bytes }) = subst (λ (e : Entry). IsTaken c me (record s { input = e })) got t in
          absurd (drops k.0 k.1 k.2)

-- ---- the history goes on

by_either : (b : Bool) (X Y : Type 0) → b ≡ true → X → either b X Y
by_either true X Y e x = x
by_either false X Y e x = absurd cc

by_or : (b : Bool) (X Y : Type 0) → b ≡ false → Y → either b X Y
by_or true X Y e y = absurd cc
by_or false X Y e y = y

proceed : (c : Configuration) (me : ℕ) (s : Start) (outputs later : List Entry) (mid new : Point) → is_output s.input ≡ false → Steps c me s outputs mid
    → Owes c me s.before s.input (reverse_aux outputs later) (reverse (reverse_aux outputs later) ++ s.input ∷ s.before) s.old new
    → HistoryIsPrompt c me s.before [] s.old s.old → HistoryIsPrompt c me (after_outputs s outputs) later new mid
proceed c me s [] later mid new is steps owes past = (s.old, steps, by_or (is_output s.input) _ _ is (owes, past))
proceed c me s (e ∷ outputs) later mid new is steps owes past =
    (steps.0, steps.2, by_either (is_output e) _ _ steps.3 (proceed c me s outputs (e ∷ later) steps.0 new is steps.1 owes past))

pub events_end : EventsEnd
events_end c me desk new log after past outputs input held f settled answered none_left is taken = record {
  of_desk = record {
    point = point_of new f.of_desk.states f.of_desk.ran;
    proceeds = proceed c me s outputs [] (point_of new f.of_desk.states f.of_desk.ran) (point_of new f.of_desk.states f.of_desk.ran) is f.of_desk.steps
        (subst (λ (xs : List Entry). Owes c me past input (reverse outputs) (xs ++ input ∷ past) held.of_desk.point (point_of new f.of_desk.states f.of_desk.ran)) (sym (reverse-reverse outputs))
        (owes c me s new after outputs is f settled answered none_left taken)) held.of_desk.proceeds;
    is = refl;
    kept = f.of_desk.kept;
    frames = f.of_desk.frames;
    opened = f.of_desk.opened;
    fetches = (fetched c me s new after outputs is f settled).0;
  };
  of_log = record { fits = f.of_log; prepares = settled.prepares; commits = settled.commits };
  low = f.low;
}
  where
    s : Start
    s = record { before = past; input = input; old = held.of_desk.point }
