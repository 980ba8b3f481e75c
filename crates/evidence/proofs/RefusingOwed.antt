-- The definitions refuse a correct replica that goes on and leaves undone what an event owes.
use Rattle.std.proofs.Common.{◌≡◌, ℕ, suc, ◌+◌, ◌≤◌, arith, ◌<◌, inl, inr, Bool, true, false, List, [], ◌∷◌, ◌++◌, reverse, refl, sym, ap, ◌∙◌, subst, ◌⊎◌}
use Rattle.std.specs.Prelude.{AllPairs, Some, None}
use Rattle.std.proofs.lemmas.List.{reverse-reverse}
use mathlib.Core.List.{reverse_aux}
use Rattle.protocol.specs.System.Configuration.{Configuration}
use Rattle.protocol.specs.System.Trace.{Entry, is_output, Once, Has, AreOutputs, either, Receives}
use Rattle.protocol.specs.System.Trace.Entry.{Got, Tick, Executed, Sent}
use Rattle.protocol.specs.Replica.State.{State, root_of, Call}
use Rattle.protocol.specs.Replica.RightReplica.{Point, HistoryReaches, Executes, IsInstalled, IsRootWanted, TimesOut, JoinsOthers}
use Rattle.protocol.specs.Replica.Transfers.{fetch_sent, fetching}
use Rattle.wire_format.specs.Words.{requests_of, said}
use Rattle.wire_format.specs.Messages.{pre_prepare as PrePrepare, checkpoint as Checkpoint, reply as Reply, ViewChangeData, view_change as ViewChange}
use Rattle.terms.specs.declared.state.Level.TheVariants as levels
use Rattle.terms.specs.declared.order.Mode.TheVariants as modes
use Rattle.tuple_codec.specs.Operations.{Outcome}
use Rattle.protocol.specs.Replica.Selection.{is_within}
use Rattle.protocol.specs.Replica.Certificates.{logged, Committed, taken, view, latest_change}
use Rattle.protocol.specs.Replica.Owed.{AtOutputs, HasRequest, IsNumbered, AreDifferent, NumbersOnce, StartsAhead, TransferGoesOn, Owes, HistoryIsPrompt, IsReplica, SendsMessage, HasToMove}
use Rattle.evidence.specs.Refused.{ReplicaGoesOn, NumbersNoneTwice, NumbersNoneTogether, AnswersReads, AnswersDigestFetches, AnswersPageFetches, AnswersAgain, AnswersRan, PreparesLogged, CommitsPrepared, ExecutesCommitted, NumbersWaiting, FetchesAhead, FetchesStarts, FetchesAgain, SendsCheckpoints, AsksOn, InstallsFetched, newest_number, MovesForReasons}
use Rattle.protocol.proofs.Words.Reacting.{one_of, proceeds_leaves}
use Rattle.evidence.proofs.Refusing.{newest_state}
use Rattle.evidence.proofs.Gaps.{some_is_free}
use Rattle.protocol.proofs.Words.Elements.{has_reverse, has_reversed}
use Rattle.protocol.proofs.Words.Temporal.{once_weaker}

-- ---- the event of a replica that goes on

at_output : (b : Bool) → b ≡ true → (X Y : Type 0) → either b X Y → X
at_output true is X Y h = h
at_output false is X Y h = absurd cc

at_input : (b : Bool) → b ≡ false → (X Y : Type 0) → either b X Y → Y
at_input true is X Y h = absurd cc
at_input false is X Y h = h

-- what a replica owes in an event, and the points before and after the event
pub record Event (c : Configuration) (me : ℕ) (outputs : List Entry) (input : Entry) (past : List Entry) : Type 0 where
  pub old : Point
  pub new : Point
  pub before : HistoryReaches c me past old
  pub behind : HistoryReaches c me (outputs ++ input ∷ past) new
  pub owes : Owes c me past input (reverse outputs) (outputs ++ input ∷ past) old new

-- a history without its later entries
record Part (c : Configuration) (me : ℕ) (xs : List Entry) : Type 0 where
  outputs : List Entry
  new : Point
  point : Point
  proceeds : HistoryIsPrompt c me xs outputs new point

part_of : (c : Configuration) (me : ℕ) (ys xs outputs : List Entry) (new point : Point) → HistoryIsPrompt c me (ys ++ xs) outputs new point → Part c me xs
part_of c me [] xs outputs new point h = record { outputs = outputs; new = new; point = point; proceeds = h }
part_of c me (e ∷ ys) xs outputs new point h = one_of (is_output e) _ _ (Part c me xs) h.2 (part_of c me ys xs (e ∷ outputs) new h.0) (λ k. part_of c me ys xs [] h.0 h.0 k.1)

-- from the end of an event back to its input
input_of : (c : Configuration) (me : ℕ) (outputs : List Entry) (input : Entry) (past said : List Entry) (new point : Point) → AreOutputs outputs → is_output input ≡ false
    → HistoryIsPrompt c me (outputs ++ input ∷ past) said new point
    → (old : Point) × HistoryReaches c me past old × Owes c me past input (reverse_aux outputs said) (reverse (reverse_aux outputs said) ++ input ∷ past) old new
input_of c me [] input past said new point are is h =
    let k = at_input (is_output input) is (HistoryIsPrompt c me past (input ∷ said) new h.0) (Owes c me past input said (reverse said ++ input ∷ past) h.0 new × HistoryIsPrompt c me past [] h.0 h.0) h.2 in
    (h.0, proceeds_leaves c me past [] h.0 h.0 k.1, k.0)
input_of c me (e ∷ outputs) input past said new point are is h =
    input_of c me outputs input past (e ∷ said) new h.0 are.1 is
    (at_output (is_output e) are.0 (HistoryIsPrompt c me (outputs ++ input ∷ past) (e ∷ said) new h.0)
    (Owes c me (outputs ++ input ∷ past) e said (reverse said ++ e ∷ (outputs ++ input ∷ past)) h.0 new × HistoryIsPrompt c me (outputs ++ input ∷ past) [] h.0 h.0) h.2)

pub event_of : (c : Configuration) (me : ℕ) (outputs : List Entry) (input : Entry) (past : List Entry) → ReplicaGoesOn c me outputs input past → Event c me outputs input past
event_of c me outputs input past g = go g.is_replica
  where
    rest : List Entry
    rest = outputs ++ input ∷ past

    at_end : (point : Point) → HistoryIsPrompt c me rest [] point point → Event c me outputs input past
    at_end point h =
        let r = input_of c me outputs input past [] point point g.are_outputs g.is_input h in
        record {
          old = r.0;
          new = point;
          before = r.1;
          behind = proceeds_leaves c me rest [] point point h;
          owes = subst (λ (xs : List Entry). Owes c me past input (reverse outputs) (xs ++ input ∷ past) r.0 point) (reverse-reverse outputs) r.2;
        }

    go : IsReplica c me (Sent me g.later ∷ (g.between ++ g.next ∷ rest)) → Event c me outputs input past
    go (inl h) =
        let p = part_of c me g.between (g.next ∷ rest) (Sent me g.later ∷ []) h.0 h.1.0 h.1.2 in
        let k = at_input (is_output g.next) g.is_next (HistoryIsPrompt c me rest (g.next ∷ p.outputs) p.new p.proceeds.0)
        (Owes c me rest g.next p.outputs (reverse p.outputs ++ g.next ∷ rest) p.proceeds.0 p.new × HistoryIsPrompt c me rest [] p.proceeds.0 p.proceeds.0) p.proceeds.2 in
        at_end p.proceeds.0 k.1
    go (inr h) = absurd h.1

-- ---- the answers

kept_there : (st : State) (xs : List State) → Has (λ x. x ≡ st) xs → Has (λ x. (x.number ≡ st.number) × (x ≡ st)) xs
kept_there st [] h = h
kept_there st (x ∷ xs) (inl h) = inl (ap (λ (y : State). y.number) h, h)
kept_there st (x ∷ xs) (inr h) = inr (kept_there st xs h)

pub answers_reads : AnswersReads
answers_reads c me client timestamp op answer bytes outputs past receives is answers goes =
    let e = event_of c me outputs (Got me bytes) past goes in
    subst (λ (number : ℕ). SendsMessage me (Reply client timestamp modes.ReadOnly number answer) outputs) (newest_state c me past e.old e.before)
    (subst (λ (given : Outcome). SendsMessage me (Reply client timestamp modes.ReadOnly e.old.state.number given) outputs) (answers e.old e.before)
    (has_reverse _ outputs (e.owes.reads client timestamp op receives is)))

pub answers_digest_fetches : AnswersDigestFetches
answers_digest_fetches c me s index level st bytes outputs past receives below kept goes =
    let e = event_of c me outputs (Got me bytes) past goes in
    has_reverse _ outputs (e.owes.fetched_digests s st.number index level below receives st (kept_there st _ (kept e.old e.before)))

pub answers_page_fetches : AnswersPageFetches
answers_page_fetches c me s index st bytes outputs past receives kept goes =
    let e = event_of c me outputs (Got me bytes) past goes in
    has_reverse _ outputs (e.owes.fetched_page s st.number index receives st (kept_there st _ (kept e.old e.before)))

pub answers_again : AnswersAgain
answers_again c me k op kept bytes outputs past receives is goes =
    let e = event_of c me outputs (Got me bytes) past goes in
    has_reverse _ outputs (e.owes.again k kept.timestamp op kept receives (is e.old e.before) refl)

pub answers_ran : AnswersRan
answers_ran c me ran input outputs past has goes =
    let e = event_of c me outputs input past goes in
    has_reverse _ outputs (e.owes.replies ran (has e.new e.behind))

-- ---- ordering, execution and fetching

pub prepares_logged : PreparesLogged
prepares_logged c me v i batch input outputs past none some active backup goes =
    has_reverse _ outputs ((event_of c me outputs input past goes).owes.prepares v i batch none some active backup)

pub commits_prepared : CommitsPrepared
commits_prepared c me v i batch input outputs past not_yet prepared active goes =
    has_reverse _ outputs ((event_of c me outputs input past goes).owes.commits v i batch not_yet prepared active)

pub executes_committed : ExecutesCommitted
executes_committed c me v batch input outputs past committed goes =
    let e = event_of c me outputs input past goes in
    e.owes.executes v batch (subst (λ (k : ℕ). Committed c me (outputs ++ input ∷ past) v (suc k) batch) (sym (newest_state c me (outputs ++ input ∷ past) e.new e.behind)) committed)

pub numbers_waiting : NumbersWaiting
numbers_waiting c me v i call input outputs past active is waits marks near free goes =
    let e = event_of c me outputs input past goes in
    let number = newest_state c me (outputs ++ input ∷ past) e.new e.behind in
    let near' : i ≤ e.new.state.number + 2 = omega arith in
    let next = some_is_free c me v e.new.state.number (outputs ++ input ∷ past) is (e.new, e.behind) i marks near' free in
    e.owes.numbers v next.0 call active is (waits e.new e.behind) next.1

reversed_append : (xs ys acc : List Entry) → reverse_aux (xs ++ ys) acc ≡ reverse_aux ys (reverse_aux xs acc)
reversed_append [] ys acc = refl
reversed_append (x ∷ xs) ys acc = reversed_append xs ys (x ∷ acc)

-- if P holds at each output, it holds at the outputs after the older ones
behind_older : (P : List Entry → Entry → Type 0) (past older rest : List Entry) → AtOutputs P past (reverse_aux older rest) → AtOutputs P (older ++ past) rest
behind_older P past [] rest h = h
behind_older P past (x ∷ older) rest h = (behind_older P past older (x ∷ rest) h).1

-- a pre-prepare of a new number keeps both clauses
numbers_at : (c : Configuration) (me v i : ℕ) (batch bytes : List ℕ) (input : Entry) (newer older past : List Entry) → said bytes ≡ Some (record { sender = me; message = PrePrepare v i batch })
    → logged c me (older ++ input ∷ past) v i ≡ None → ReplicaGoesOn c me (newer ++ Sent me bytes ∷ older) input past
    → AllPairs (AreDifferent c) (requests_of batch) × ((client timestamp : ℕ) → HasRequest c client timestamp batch → IsNumbered c me (older ++ input ∷ past) v client timestamp → ⊥)
numbers_at c me v i batch bytes input newer older past says none goes =
    let e = event_of c me (newer ++ Sent me bytes ∷ older) input past goes in
    let all = subst (λ (xs : List Entry). AtOutputs (NumbersOnce c me) (input ∷ past) xs) (reversed_append newer (Sent me bytes ∷ older) []) e.owes.numbers_once in
    (behind_older (NumbersOnce c me) (input ∷ past) older (Sent me bytes ∷ reverse newer) all).0 v i batch says none

pub numbers_none_twice : NumbersNoneTwice
numbers_none_twice c me v i client timestamp batch bytes input newer older past says none has numbered goes =
    (numbers_at c me v i batch bytes input newer older past says none goes).1 client timestamp has numbered

pub numbers_none_together : NumbersNoneTogether
numbers_none_together c me v i one other call twin batch bytes input newer older past says none before within is same client time goes =
    (numbers_at c me v i batch bytes input newer older past says none goes).0 one other [] before within call twin is same client time

pub fetches_ahead : FetchesAhead
fetches_ahead c me k root input outputs past quorum above newer goes =
    let e = event_of c me outputs input past goes in
    has_reverse _ outputs (e.owes.fetches k root quorum
    (subst (λ (n : ℕ). n < k) (sym (newest_state c me (outputs ++ input ∷ past) e.new e.behind)) above) newer)

pub fetches_starts : FetchesStarts
fetches_starts c me k new input outputs past starts at above newer goes =
    let e = event_of c me outputs input past goes in
    has_reverse _ outputs (e.owes.fetches_start k
    (once_weaker (λ earlier x. (taken c earlier x ≡ Some new) × (fetching earlier < k)) (StartsAhead c k) (λ earlier x h. (new, h.0, at, h.1)) (outputs ++ input ∷ past) starts)
    (subst (λ (n : ℕ). n < k) (sym (newest_state c me (outputs ++ input ∷ past) e.new e.behind)) above) newer)

pub fetches_again : FetchesAgain
fetches_again c me k index level outputs past asked above goes =
    let e = event_of c me outputs (Tick me) past goes in
    has_reverse _ outputs (e.owes.fetches_again k index level tt asked (subst (λ (n : ℕ). n < k) (sym (newest_state c me past e.old e.before)) above))

pub moves_for_reasons : MovesForReasons
moves_for_reasons c me input outputs past goes =
    let e = event_of c me outputs input past goes in
    (e.old, e.before, λ vc bytes may within says reason. e.owes.view_changes vc bytes (has_to e.old.waiting vc.view reason) may within says)
  where
    has_to : (waiting : List Call) (v : ℕ) → TimesOut c me (input ∷ past) waiting v
        ⊎ ((s : ℕ) × (other : ViewChangeData) × Receives c me (record { sender = s; message = ViewChange other }) past input × (view c past < other.view)
        × (is_within c other ≡ true) × (latest_change c past s < other.view) × JoinsOthers c me (input ∷ past) v)
        → HasToMove c me past input waiting v
    has_to waiting v (inl t) = inl t
    has_to waiting v (inr (s, other, receives, above, within, newer, joins)) = inr ((s, other, receives, (above, within, newer)), joins)

pub sends_checkpoints : SendsCheckpoints
sends_checkpoints c me k input outputs past executed multiple goes =
    let e = event_of c me outputs input past goes in
    (e.new, e.behind, go e.new.snapshots (e.owes.checkpoints k (has_reversed (λ x. Executes k [] x) outputs (there outputs executed)) multiple))
  where
    here : (past : List Entry) (x : Entry) → Executes k past x → Executes k [] x
    here past (Executed r n batch) h = h
    here past _ h = absurd h

    there : (xs : List Entry) → Once (Executes k) xs → Has (λ x. Executes k [] x) xs
    there [] h = h
    there (x ∷ xs) (inl h) = inl (here xs x h)
    there (x ∷ xs) (inr h) = inr (there xs h)

    go : (xs : List State) → Has (λ st. (st.number ≡ k) × SendsMessage me (Checkpoint k (root_of st)) (reverse outputs)) xs → Has (λ st. (st.number ≡ k) × SendsMessage me (Checkpoint k (root_of st)) outputs) xs
    go [] h = h
    go (st ∷ xs) (inl h) = inl (h.0, has_reverse _ outputs h.1)
    go (st ∷ xs) (inr h) = inr (go xs h)

-- ---- a transfer

pub asks_on : AsksOn
asks_on c me s k digests bytes outputs past receives asked above wanted one other goes =
    go (e.owes.goes_on_by_digests s k 0 levels.Root digests receives ((asked, subst (λ (n : ℕ). n < k) (sym (newest_state c me past e.old e.before)) above, wanted), λ root is. one root (later root is)))
  where
    e : Event c me outputs (Got me bytes) past
    e = event_of c me outputs (Got me bytes) past goes

    later : (root : List ℕ) → IsRootWanted c past k root → IsRootWanted c (Got me bytes ∷ past) k root
    later root (inl h) = inl (inr h)
    later root (inr h) = inr (inr h)

    go : TransferGoesOn c me (Got me bytes ∷ past) e.old (reverse outputs) e.new.state.number k → Has (λ x. fetch_sent x ≡ k) outputs
    go (inl h) = has_reverse (λ x. fetch_sent x ≡ k) outputs h
    go (inr h) = absurd (other e.old e.before (h.1.1 ∙ one h.0 h.1.0))

pub installs_fetched : InstallsFetched
installs_fetched c me s k index text bytes outputs past receives asked above wanted one can none goes =
    go (e.owes.goes_on_by_page s k index text receives ((asked, subst (λ (n : ℕ). n < k) (sym (newest_state c me past e.old e.before)) above, wanted), one))
  where
    e : Event c me outputs (Got me bytes) past
    e = event_of c me outputs (Got me bytes) past goes

    go : TransferGoesOn c me (Got me bytes ∷ past) e.old (reverse outputs) e.new.state.number k → k ≤ newest_number (outputs ++ Got me bytes ∷ past)
    go (inl h) = absurd (none (has_reverse (λ x. fetch_sent x ≡ k) outputs h))
    go (inr h) =
        let it = can e.old e.before in
        subst (λ (n : ℕ). k ≤ n) (newest_state c me (outputs ++ Got me bytes ∷ past) e.new e.behind)
        (h.2 (it.0, subst (λ (root : List ℕ). IsInstalled c me (Got me bytes ∷ past) e.old k root it.0) h.1.1 it.1, it.2))
