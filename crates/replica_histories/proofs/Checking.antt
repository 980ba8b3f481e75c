-- The checkpoints of a history: the latest of each sender, nothing stable above the low mark, and the replica's own,
-- which it sent of executed states.
use Rattle.std.proofs.Common.{◌≡◌, ℕ, ◌+◌, ◌*◌, ◌≤◌, ◌<◌, ◌⊎◌, inl, inr, Bool, true, false, cond, ◌&&◌, List, [], ◌∷◌, Option, Some, None, refl, sym, ap, ◌∙◌, subst, arith, eq-eqb}
use Rattle.std.specs.Bool.{then_some}
use Rattle.std.specs.Prelude.{◌==◌, nat_le, nat_lt, option_and_then, ◌%◌}
use Rattle.std.specs.Option.{option_map_or}
use Rattle.std.proofs.lemmas.Bool.{and_parts, and_from, leb-true, le-leb, ltb-true, ltb-false}
use Rattle.std.proofs.lemmas.Slice.Eq.{bytes_eq-Decides}
use Rattle.quorum.specs.Quorum.{count_below}
use Rattle.quorum.proofs.Counting.{count_mono, count_same}
use Rattle.wire_format.specs.Messages.{BodyData as Body, MessageData as Message, CheckpointEntryData as CheckpointEntry, checkpoint as Checkpoint}
use Rattle.ordering.specs.Log as logs
use Rattle.ordering.specs.Log.{LogData}
use Rattle.protocol.specs.System.Configuration.{Configuration, replicas, is_number}
use Rattle.protocol.specs.System.Trace.{Entry, Once, Has}
use Rattle.protocol.specs.System.Trace.Entry.{Invoke, Got, Executed, Installed, Sent, Accepted}
use Rattle.protocol.specs.Replica.Selection.{is_quorum}
use Rattle.protocol.specs.Replica.Certificates.{brought, checkpoint_from, checkpoint_in, with_checkpoint, checkpoints_of, lists_checkpoint, count_checkpoints, is_stable, stable_at, low}
use Rattle.protocol.specs.Replica.State.{State, execute, root_of}
use Rattle.protocol.specs.Replica.RightReplica.{Point, Executes, IsStep, HistoryReaches, May, MovesPoint, MaySendMessage, MayCheckpoint}
use Rattle.protocol.specs.Replica.Owed.{IsSending}
use Rattle.protocol.proofs.Words.Options.{some_injective, and_then_some, then_some_gives}
use Rattle.protocol.proofs.Words.Temporal.{once_weaker}
use Rattle.protocol.proofs.Words.Leaving.{executed_number}
use Rattle.protocol.proofs.Words.Linking.{Speaks}
use Rattle.protocol.proofs.Agreement.Marks.{low_grows}
use Rattle.protocol.proofs.Agreement.Voting.{Brings}
use Rattle.protocol.proofs.Agreement.States.{is_checkpoint, checking}
use Rattle.replica_histories.specs.Logs.{checkpoints_above, AreLatest}
use Rattle.replica_histories.specs.Marks.{StableAreLow, StableAreCut}
use Rattle.replica_histories.proofs.Words.{apart}
use Rattle.replica_histories.proofs.Latest.{none_latest, behind_latest, same_entry, behind_says, behind_passed, says_above, IsPassed, passed_behind}
use Rattle.replica_histories.proofs.Speaking.{own_spoken, says}

-- ---- the latest

pub latest_of : (c : Configuration) (history : List Entry) (s : ℕ) → AreLatest (checkpoints_of c history s)
unfolding checkpoints_of
latest_of c [] s = none_latest
latest_of c (e ∷ past) s = behind_latest s (checkpoint_in c e) (checkpoints_of c past s) (latest_of c past s)

-- ---- stable checkpoints

-- by the stored checkpoints of each sender
abbrev pub is_stable_by : Configuration → ℕ → (ℕ → List CheckpointEntry) → CheckpointEntry → Bool
is_stable_by c me held entry = is_quorum c (count_below (λ s. lists_checkpoint entry (held s)) (replicas c)) && lists_checkpoint entry (held me)

-- if each sender's checkpoints say no less, it is stable too
stable_more : (c : Configuration) (me : ℕ) (held more : ℕ → List CheckpointEntry) (m : CheckpointEntry) → ((s : ℕ) → lists_checkpoint m (held s) ≡ true → lists_checkpoint m (more s) ≡ true)
    → is_stable_by c me held m ≡ true → is_stable_by c me more m ≡ true
stable_more c me held more m grows h =
    let p = and_parts (is_quorum c (count_below (λ s. lists_checkpoint m (held s)) (replicas c))) (lists_checkpoint m (held me)) h in
    let enough = leb-true (2 * c.faults + 1) (count_below (λ s. lists_checkpoint m (held s)) (replicas c)) p.0 in
    let mono = count_mono (λ s. lists_checkpoint m (held s)) (λ s. lists_checkpoint m (more s)) (replicas c) (λ s l. grows s) in
    and_from (is_quorum c (count_below (λ s. lists_checkpoint m (more s)) (replicas c))) (lists_checkpoint m (more me))
    (le-leb (2 * c.faults + 1) (count_below (λ s. lists_checkpoint m (more s)) (replicas c)) (omega arith)) (grows me p.1)

-- for a number above the mark the checkpoints above the mark decide
pub stable_above : (c : Configuration) (me low : ℕ) (held other : ℕ → List CheckpointEntry) (m : CheckpointEntry) → low < m.number → ((s : ℕ) → checkpoints_above low (held s) ≡ checkpoints_above low (other s))
    → is_stable_by c me held m ≡ is_stable_by c me other m
stable_above c me low held other m l same =
    ap (λ (n : ℕ). is_quorum c n && lists_checkpoint m (held me)) (count_same (λ s. lists_checkpoint m (held s)) (λ s. lists_checkpoint m (other s)) says_same (replicas c))
    ∙ ap (λ (b : Bool). is_quorum c (count_below (λ s. lists_checkpoint m (other s)) (replicas c)) && b) (says_same me)
  where
    says_same : (s : ℕ) → lists_checkpoint m (held s) ≡ lists_checkpoint m (other s)
    says_same s = sym (says_above low m (held s) l) ∙ ap (lists_checkpoint m) (same s) ∙ says_above low m (other s) l

-- an entry that makes a checkpoint stable brings it
abbrev is_this : CheckpointEntry → Option (ℕ × CheckpointEntry) → Bool
is_this m o = option_map_or (λ x. is_checkpoint m x.1) o false

this_is : (m : CheckpointEntry) (o : Option (ℕ × CheckpointEntry)) → is_this m o ≡ true → (s : ℕ) × (o ≡ Some (s, m))
this_is m None h = absurd cc
this_is m (Some x) h = (x.0, ap (λ (t : CheckpointEntry). Some (let y : ℕ × CheckpointEntry = (x.0, t) in y)) (same_entry m x.1 h))

itself : (m : CheckpointEntry) → is_checkpoint m m ≡ true
itself m = rw (eq-eqb m.number m.number refl, (bytes_eq-Decides m.digest m.digest).1 refl) refl

stable_before : (c : Configuration) (me : ℕ) (m : CheckpointEntry) (e : Entry) (past : List Entry) → is_stable c me (e ∷ past) m ≡ true
    → (is_stable c me past m ≡ true) ⊎ ((s : ℕ) × (checkpoint_in c e ≡ Some (s, m)))
unfolding checkpoints_of
stable_before c me m e past h = go (is_this m (checkpoint_in c e)) refl
  where
    was : is_this m (checkpoint_in c e) ≡ false → (s : ℕ) → (lists_checkpoint m (checkpoints_of c past s) ≡ true) ⊎ (checkpoint_in c e ≡ Some (s, m)) → lists_checkpoint m (checkpoints_of c past s) ≡ true
    was other s (inl k) = k
    was other s (inr k) = absurd (apart (is_this m (checkpoint_in c e)) (ap (is_this m) k ∙ itself m) other)

    go : (b : Bool) → is_this m (checkpoint_in c e) ≡ b → (is_stable c me past m ≡ true) ⊎ ((s : ℕ) × (checkpoint_in c e ≡ Some (s, m)))
    go true is = inr (this_is m (checkpoint_in c e) is)
    go false other =
        inl (stable_more c me (λ s. with_checkpoint s (checkpoint_in c e) (checkpoints_of c past s)) (checkpoints_of c past) m (λ s k. was other s (behind_says m s (checkpoint_in c e) (checkpoints_of c past s) k)) h)

pub stable_at_most : (c : Configuration) (me : ℕ) (e : Entry) (past : List Entry) → stable_at c me past e ≤ low c me (e ∷ past)
unfolding low
stable_at_most c me e past = omega arith

pub stable_are_low : StableAreLow
unfolding checkpoints_of
stable_are_low c me [] m h = absurd (apart _ (and_parts (is_quorum c (count_checkpoints c [] m)) (lists_checkpoint m (checkpoints_of c [] me)) h).1 refl)
stable_are_low c me (e ∷ past) m h = go (stable_before c me m e past h) (stable_are_low c me past m)
  where
    go : (is_stable c me past m ≡ true) ⊎ ((s : ℕ) × (checkpoint_in c e ≡ Some (s, m))) → (is_stable c me past m ≡ true → m.number ≤ low c me past) → m.number ≤ low c me (e ∷ past)
    go (inl k) was = let l = was k in let g = low_grows c me e past in omega arith
    go (inr k) was =
        let at : stable_at c me past e ≡ m.number =
        ap (λ (o : Option (ℕ × CheckpointEntry)). option_map_or (λ (x : ℕ × CheckpointEntry). cond (is_stable c me (e ∷ past) x.1) x.1.number 0) o 0) k.1 ∙ ap (λ (b : Bool). cond b m.number 0) h in
        let g = stable_at_most c me e past in
        omega arith

-- ---- in the log

-- a checkpoint that is stable in a log with the same checkpoints above its mark
pub log_stable : (c : Configuration) (me : ℕ) (log : LogData) (history : List Entry) (m : CheckpointEntry) → log.faults ≡ c.faults → log.me ≡ me → log.low < m.number
    → ((s : ℕ) → checkpoints_above log.low (checkpoints_of c history s) ≡ checkpoints_above log.low (logs.checkpoints_of log s)) → is_stable c me history m ≡ logs.is_stable log m
log_stable c me log history m faults own l same =
    stable_above c me log.low (checkpoints_of c history) (logs.checkpoints_of log) m l same
    ∙ ap (λ (x : ℕ). is_stable_by c x (logs.checkpoints_of log) m) (sym own)
    ∙ ap (λ (f : ℕ). nat_le (2 * f + 1) (count_below (λ s. lists_checkpoint m (logs.checkpoints_of log s)) (3 * f + 1)) && lists_checkpoint m (logs.checkpoints_of log log.me)) (sym faults)

-- the log counts as the history does above the mark
pub quorum_counted : (c : Configuration) (log : LogData) (history : List Entry) (m : CheckpointEntry) → log.faults ≡ c.faults → log.low < m.number
    → ((s : ℕ) → checkpoints_above log.low (checkpoints_of c history s) ≡ checkpoints_above log.low (logs.checkpoints_of log s)) → is_quorum c (count_checkpoints c history m) ≡ nat_le (2 * log.faults + 1) (logs.count_checkpoints log m)
quorum_counted c log history m faults l same =
    ap (is_quorum c) (count_same (λ s. lists_checkpoint m (checkpoints_of c history s)) (λ s. lists_checkpoint m (logs.checkpoints_of log s)) says_same (replicas c))
    ∙ ap (λ (f : ℕ). nat_le (2 * f + 1) (count_below (λ s. lists_checkpoint m (logs.checkpoints_of log s)) (3 * f + 1))) (sym faults)
  where
    says_same : (s : ℕ) → lists_checkpoint m (checkpoints_of c history s) ≡ lists_checkpoint m (logs.checkpoints_of log s)
    says_same s = sym (says_above log.low m (checkpoints_of c history s) l) ∙ ap (lists_checkpoint m) (same s) ∙ says_above log.low m (logs.checkpoints_of log s) l

pub stable_are_cut : StableAreCut
stable_are_cut c me log history m f h = go (nat_lt log.low m.number) refl
  where
    go : (b : Bool) → nat_lt log.low m.number ≡ b → m.number ≤ log.low
    go false e = ltb-false log.low m.number e
    go true e =
        let l = ltb-true log.low m.number e in
        let k = stable_are_low c me history m (log_stable c me log history m f.faults f.own l f.checkpoints ∙ h) in
        let same = f.low in
        omega arith

-- ---- the replica sent its own checkpoints

checkpoint_is : (s : ℕ) (m : CheckpointEntry) (sender : ℕ) (message : Message) → checkpoint_from (record { sender = sender; message = message }) ≡ Some (s, m)
    → ◌≡◌ {A = Body} (record { sender = sender; message = message }) (checking s m.number m.digest)
checkpoint_is s m sender (Checkpoint number root) h =
    let x : ℕ × CheckpointEntry = (sender, record { number = number; digest = root }) in
    let y : ℕ × CheckpointEntry = (s, m) in
    let g = then_some_gives {A = ℕ × CheckpointEntry} (is_number number) x y h in
    ap (λ (z : ℕ × CheckpointEntry). checking z.0 z.1.number z.1.digest) g.1
checkpoint_is s m sender _ h = absurd cc

checkpoint_source : (c : Configuration) (s : ℕ) (m : CheckpointEntry) (past : List Entry) (e : Entry) → checkpoint_in c e ≡ Some (s, m) → Brings c (checking s m.number m.digest) past e
checkpoint_source c s m past e h =
    let r = and_then_some {B = ℕ × CheckpointEntry} checkpoint_from (brought c e) (s, m) h in
    r.1 ∙ ap Some (checkpoint_is s m r.0.sender r.0.message r.2)

listed_brought : (c : Configuration) (s : ℕ) (m : CheckpointEntry) (history : List Entry) → lists_checkpoint m (checkpoints_of c history s) ≡ true → Once (Brings c (checking s m.number m.digest)) history
unfolding checkpoints_of
listed_brought c s m [] h = absurd cc
listed_brought c s m (e ∷ past) h = go (behind_says m s (checkpoint_in c e) (checkpoints_of c past s) h) (listed_brought c s m past)
  where
    go : (lists_checkpoint m (checkpoints_of c past s) ≡ true) ⊎ (checkpoint_in c e ≡ Some (s, m)) → (lists_checkpoint m (checkpoints_of c past s) ≡ true → Once (Brings c (checking s m.number m.digest)) past)
        → Once (Brings c (checking s m.number m.digest)) (e ∷ past)
    go (inl k) below = inr (below k)
    go (inr k) below = inl (checkpoint_source c s m past e k)

pub own_said : (c : Configuration) (me : ℕ) (m : CheckpointEntry) (history : List Entry) (point : Point) → HistoryReaches c me history point → lists_checkpoint m (checkpoints_of c history me) ≡ true
    → Once (λ earlier e. IsSending me (Checkpoint m.number m.digest) e) history
own_said c me m history point leaves h =
    once_weaker (Speaks (checking me m.number m.digest)) (λ earlier e. IsSending me (Checkpoint m.number m.digest) e) (λ earlier e k. says me (Checkpoint m.number m.digest) earlier e k) history
    (own_spoken c me (checking me m.number m.digest) history point leaves refl (listed_brought c me m history h))

-- ---- of executed states

-- a snapshot is never removed from the point
snapshots_stay : (c : Configuration) (me : ℕ) (P : State → Type 0) (past : List Entry) (e : Entry) (old new : Point) → May c me past old e → MovesPoint c me past old e new → Has P old.snapshots → Has P new.snapshots
snapshots_stay c me P past (Executed p k batch) old new may moves h = subst (λ (q : Point). Has P q.snapshots) (sym moves) (go ((execute c old.state batch).number % c.period == 0))
  where
    go : (b : Bool) → Has P (cond b (execute c old.state batch ∷ old.snapshots) old.snapshots)
    go true = inr h
    go false = h
snapshots_stay c me P past (Installed p k root) old new may moves h = subst (Has P) (sym moves.snapshots) (inr h)
snapshots_stay c me P past (Invoke x y z) old new may moves h = absurd may
snapshots_stay c me P past (Accepted x y z) old new may moves h = absurd may
snapshots_stay c me P past _ old new may moves h = subst (λ (q : Point). Has P q.snapshots) (sym moves) h

-- so a checkpoint that may be sent stays so
pub checkpoint_stays : (c : Configuration) (me k : ℕ) (root : List ℕ) (past : List Entry) (e : Entry) (old new : Point) → IsStep c me past old e new → MayCheckpoint c past old k root → MayCheckpoint c (e ∷ past) new k root
checkpoint_stays c me k root past e old new step h =
    record { multiple = h.multiple; executed = inr h.executed; state = snapshots_stay c me (λ st. (st.number ≡ k) × (root_of st ≡ root)) past e old new step.may step.moves h.state }

saying_may : (c : Configuration) (me k : ℕ) (root : List ℕ) (past : List Entry) (e : Entry) (old : Point) → May c me past old e → IsSending me (Checkpoint k root) e → MayCheckpoint c past old k root
saying_may c me k root past (Sent p bytes) old may h =
    let is : may.body ≡ checking me k root = some_injective may.body (checking me k root) (sym may.says ∙ h) in
    subst (λ (b : Body). MaySendMessage c me past old (Sent p bytes) bytes b.message) is may.allowed
saying_may c me k root past (Got p bytes) old may h = absurd h
saying_may c me k root past _ old may h = absurd h

pub said_may : (c : Configuration) (me k : ℕ) (root : List ℕ) (history : List Entry) (point : Point) → HistoryReaches c me history point → Once (λ earlier e. IsSending me (Checkpoint k root) e) history
    → MayCheckpoint c history point k root
said_may c me k root [] point leaves h = absurd h
said_may c me k root (e ∷ past) point leaves (inl h) = checkpoint_stays c me k root past e leaves.0 point leaves.2 (saying_may c me k root past e leaves.0 leaves.2.may h)
said_may c me k root (e ∷ past) point leaves (inr h) = checkpoint_stays c me k root past e leaves.0 point leaves.2 (said_may c me k root past leaves.0 leaves.1 h)

-- ---- an executed number is at most the state's

state_grows : (c : Configuration) (me : ℕ) (past : List Entry) (e : Entry) (old new : Point) → May c me past old e → MovesPoint c me past old e new → old.state.number ≤ new.state.number
state_grows c me past (Executed p k batch) old new may moves = let n = ap (λ (q : Point). q.state.number) moves ∙ executed_number c old.state batch in omega arith
state_grows c me past (Installed p k root) old new may moves = let n = moves.number in let above = may.0 in omega arith
state_grows c me past (Invoke x y z) old new may moves = absurd may
state_grows c me past (Accepted x y z) old new may moves = absurd may
state_grows c me past _ old new may moves = let same = ap (λ (q : Point). q.state.number) moves in omega arith

executes_it : (c : Configuration) (me k : ℕ) (past : List Entry) (e : Entry) (old new : Point) → May c me past old e → MovesPoint c me past old e new → Executes k past e → k ≤ new.state.number
executes_it c me k past (Executed p i batch) old new may moves h = let n = ap (λ (q : Point). q.state.number) moves ∙ executed_number c old.state batch in let next = may.next in let same = h in omega arith
executes_it c me k past _ old new may moves h = absurd h

pub executed_at_most : (c : Configuration) (me k : ℕ) (history : List Entry) (point : Point) → HistoryReaches c me history point → Once (Executes k) history → k ≤ point.state.number
executed_at_most c me k [] point leaves h = absurd h
executed_at_most c me k (e ∷ past) point leaves (inl h) = executes_it c me k past e leaves.0 point leaves.2.may leaves.2.moves h
executed_at_most c me k (e ∷ past) point leaves (inr h) =
    let below = executed_at_most c me k past leaves.0 leaves.1 h in
    let grows = state_grows c me past e leaves.0 point leaves.2.may leaves.2.moves in
    omega arith

-- the replica's own checkpoint is at most the state's number
pub own_at_most : (c : Configuration) (me : ℕ) (m : CheckpointEntry) (history : List Entry) (point : Point) → HistoryReaches c me history point → lists_checkpoint m (checkpoints_of c history me) ≡ true → m.number ≤ point.state.number
own_at_most c me m history point leaves h =
    executed_at_most c me m.number history point leaves (said_may c me m.number m.digest history point leaves (own_said c me m history point leaves h)).executed

-- ---- a checkpoint that was sent adds nothing

pub said_listed : (c : Configuration) (me k : ℕ) (root : List ℕ) (e : Entry) → is_number k ≡ true → IsSending me (Checkpoint k root) e → checkpoint_in c e ≡ Some (me, record { number = k; digest = root })
said_listed c me k root (Sent p bytes) n h = ap (option_and_then checkpoint_from) h ∙ ap (λ (b : Bool). then_some b (let y : ℕ × CheckpointEntry = (me, record { number = k; digest = root }) in y)) n
said_listed c me k root _ n h = absurd h

pub said_passed : (c : Configuration) (me k : ℕ) (root : List ℕ) (history : List Entry) → is_number k ≡ true → Once (λ earlier e. IsSending me (Checkpoint k root) e) history → IsPassed 3 k (checkpoints_of c history me)
unfolding checkpoints_of
said_passed c me k root [] n h = absurd h
said_passed c me k root (e ∷ past) n (inl h) =
    subst (λ (o : Option (ℕ × CheckpointEntry)). IsPassed 3 k (with_checkpoint me o (checkpoints_of c past me))) (sym (said_listed c me k root e n h)) itself_passed
  where
    itself_passed : IsPassed 3 k (with_checkpoint me (Some (me, record { number = k; digest = root })) (checkpoints_of c past me))
    itself_passed = rw (eq-eqb me me refl) (passed_behind 3 (record { number = k; digest = root }) (checkpoints_of c past me))
said_passed c me k root (e ∷ past) n (inr h) = behind_passed k me (checkpoint_in c e) (checkpoints_of c past me) (said_passed c me k root past n h)
