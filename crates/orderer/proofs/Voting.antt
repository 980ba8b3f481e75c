-- The votes that the replica sends fit, and the fetch of the place that an open transfer asks for.
use Rattle.std.proofs.Common.{◌≡◌, ◌≢◌, ℕ, ◌+◌, ◌<◌, ◌^◌, Bool, true, false, cond, not, List, length, Option, Some, None, refl, ap, ◌∙◌, arith, ◌&&◌, ◌==◌, eq-eqb, nat_lt, nat_le, is_none, ◌∷◌, option_map, sym, subst}
use Rattle.std.proofs.lemmas.Bool.{and_parts, ltb-true, leb-true}
use Rattle.std.proofs.lemmas.List.{get_or-set_same, get_or-set_other}
use Rattle.std.specs.Bool.{then_some}
use Rattle.quorum.specs.Votes.{or_else}
use Rattle.ordering.specs.declared.votes.Phase.{Phase}
use Rattle.ordering.specs.declared.votes.Phase.TheVariants as phases
use Rattle.ordering.specs.declared.votes.Vote.{Vote}
use Rattle.ordering.specs.Votes.{voted_digest, with_vote}
use Rattle.ordering.specs.Log.{Row, no_row, LogData, primary, replicas, digest_of, is_in_marks, is_row_prepared, place, row_of, with_row, with_row_vote, with_prepare, with_commit, with_vote_in, due_prepare, due_commit, due_vote, votes_in, logged_digest, commit_of, vote_of, is_prepared, logged_batch}
use Rattle.ordering.specs.Keeping.{IsLog}
use Rattle.replica_histories.proofs.Words.{passed}
use Rattle.sha2.specs.Sha256.{sha256}
use Rattle.wire_format.specs.Messages.{MessageData as Message, prepare as Prepare, commit as Commit}
use Rattle.ordering.proofs.Reading.{prepares_count, commits_count}
use Rattle.protocol.specs.System.Configuration.{Configuration, members}
use Rattle.protocol.specs.System.Frames.{IsOutgoing}
use Rattle.protocol.specs.System.Trace.{Entry, Has}
use Rattle.protocol.specs.System.Trace.Entry.{Sent}
use Rattle.protocol.proofs.Words.Options.{some_injective}
use Rattle.pq_sets.specs.PqSetsView.{PqSetsData}
use Rattle.pq_sets.specs.Recording.{with_prepared}
use Rattle.protocol.specs.Replica.RightReplica.{others}
use Rattle.frame_endpoint.proofs.Outgoing.{outgoing_for_others}
use Rattle.events.specs.declared.output.Output.{Output}
use Rattle.replica_histories.specs.Events as events
use Rattle.replica_histories.specs.Events.{after_outputs, Start}
use Rattle.replica_histories.specs.Changes.{FitsChanges}
use Rattle.replica_histories.proofs.ChangesPassing.{outputs_pass, commits_enter_p}
use Rattle.replica_histories.proofs.Giving.{prepares_fit, commits_fit}
use Rattle.orderer.specs.State.{OrdererData, IsOrderer}
use Rattle.orderer.specs.Fitting.{given, changes_held, FitsEvent}
use Rattle.orderer.specs.Going.{KeepsFitting, NoVoteIsDue}
use Rattle.orderer.specs.PqSets.{noting_prepared, NotesPrepared}
use Rattle.orderer.specs.Multicasting.{Multicasts, AddsVote, MulticastsVote, MulticastsPrepare, MulticastsCommit, MulticastsVotes}
use Rattle.orderer.proofs.Staying.{EmitsOne, emits_one, sent_beside, same_rows, fits_on, fits_with, changes_still, fits_behind, numbers_beside}
use Rattle.orderer.proofs.Parties.{same_orderer, orderers_twice, same_log}
use Rattle.replica_histories.proofs.ChangesKept.{sent_keep}
use Rattle.state_transfer.specs.Transfer.{TransferData}
use Rattle.replica_histories.specs.Desk.{Desk}
use Rattle.replica_histories.specs.Transfers.{TransferMayAsk, AsksNext}
use Rattle.replica_histories.proofs.Fetching.{fetches_fit, due_fetches_fit}
use Rattle.desk.specs.Waiting.{WaitingData}
use Rattle.desk.specs.Fetching.{fetch_of}

-- a number within the marks stands so
pub record Within (m : LogData) (i : ℕ) : Type 0 where
  pub low : m.low < i
  pub high : i < m.low + m.span + 1

pub within : (m : LogData) (i : ℕ) → is_in_marks m i ≡ true → Within m i
within m i h =
    let a = and_parts (nat_lt m.low i && nat_le i (m.low + m.span)) (nat_lt i (2 ^ 48)) h in
    let b = and_parts (nat_lt m.low i) (nat_le i (m.low + m.span)) a.0 in
    let l = ltb-true m.low i b.0 in let r = leb-true i (m.low + m.span) b.1 in record { low = l; high = omega (arith, r) }

pub row_elsewhere : (m : LogData) (i j : ℕ) (row : Row) → is_in_marks m i ≡ true → is_in_marks m j ≡ true → i ≢ j → row_of (with_row m j row) i ≡ row_of m i
row_elsewhere m i j row hi hj ne =
    let a = within m i hi in let b = within m j hj in let al = a.low in let bl = b.low in
    get_or-set_other m.rows (place m j) (place m i) row no_row (λ h. ne (omega (arith, h, al, bl)))

pub row_here : (m : LogData) (j : ℕ) (row : Row) → IsLog m → is_in_marks m j ≡ true → row_of (with_row m j row) j ≡ row
row_here m j row is hj =
    let b = within m j hj in let bl = b.low in let bh = b.high in let size = is.size in
    let l : place m j < length m.rows = omega (arith, bl, bh, size) in
    get_or-set_same m.rows (place m j) row no_row l

-- A word that depends on a row alone, and on none outside the marks, is the same elsewhere.
elsewhere : {A : Type 0} (f : Bool → Row → A) → ((r s : Row) → f false r ≡ f false s) → (m : LogData) (i j : ℕ) (row : Row) → is_in_marks m j ≡ true → i ≢ j
    → f (is_in_marks m i) (row_of (with_row m j row) i) ≡ f (is_in_marks m i) (row_of m i)
elsewhere f out m i j row hj ne = go (is_in_marks m i) refl
  where
    go : (b : Bool) → is_in_marks m i ≡ b → f b (row_of (with_row m j row) i) ≡ f b (row_of m i)
    go true e = ap (f true) (row_elsewhere m i j row e hj ne)
    go false e = out _ _

-- the prepare, or the commit, that is due by a row
abbrev prepare_by : LogData → Bool → Row → Option (List ℕ)
prepare_by m b r = cond (m.active && not (m.me == primary m m.view) && is_none (cond b (voted_digest r.prepares m.me) None)) (cond b (digest_of r) None) None

abbrev commit_by : LogData → Bool → Row → Option (List ℕ)
commit_by m b r = cond (m.active && (b && is_row_prepared m.faults (replicas m) r) && is_none (cond b (voted_digest r.commits m.me) None)) (cond b (digest_of r) None) None

pub due_elsewhere : (m : LogData) (i j : ℕ) (row : Row) → is_in_marks m j ≡ true → i ≢ j → (due_prepare (with_row m j row) i ≡ due_prepare m i) × (due_commit (with_row m j row) i ≡ due_commit m i)
due_elsewhere m i j row hj ne = (elsewhere (prepare_by m) (λ r s. refl) m i j row hj ne, elsewhere (commit_by m) (λ r s. refl) m i j row hj ne)

-- where no vote was due, none is
pub none_elsewhere : (m : LogData) (i j : ℕ) (row : Row) → is_in_marks m j ≡ true → i ≢ j → NoVoteIsDue m i → NoVoteIsDue (with_row m j row) i
none_elsewhere m i j row hj ne v = let e = due_elsewhere m i j row hj ne in (e.0 ∙ v.0, e.1 ∙ v.1)

-- if a vote is due, the number is within the marks
due_within : (phase : Phase) (m : LogData) (i : ℕ) (d : List ℕ) → due_vote phase m i ≡ Some d → is_in_marks m i ≡ true
due_within phase m i d h =
    let a = passed (m.active && votes_in phase m i && is_none (vote_of phase m i m.me)) (logged_digest m i) d h in
    (passed (is_in_marks m i) (digest_of (row_of m i)) d a.1).0

-- a counted vote is the sender's, if not the first
counted : (o : Option (List ℕ)) (s i : ℕ) (vote : Vote) → vote.sender.0 ≡ s → is_none (cond (i == i) (or_else o (then_some (vote.sender.0 == s) vote.digest)) o) ≡ false
counted o s i vote own = rw (eq-eqb i i refl, eq-eqb vote.sender.0 s own) (go o)
  where
    go : (o : Option (List ℕ)) → is_none (or_else o (Some vote.digest)) ≡ false
    go None = refl
    go (Some d) = refl

stopped : (b : Bool) (o : Option (List ℕ)) (x : Bool) → x ≡ false → cond (b && x) o None ≡ None
stopped true o x e = rw e refl
stopped false o x e = refl

vote_read : (phase : Phase) (m : LogData) (i s : ℕ) (vote : Vote) → IsLog m → is_in_marks m i ≡ true
    → vote_of phase (with_vote_in phase m i vote) i s ≡ cond (i == i) (or_else (vote_of phase m i s) (then_some (vote.sender.0 == s) vote.digest)) (vote_of phase m i s)
vote_read phases.Prepare m i s vote is hi = (prepares_count m i i s vote is hi).1
vote_read phases.Commit m i s vote is hi = (commits_count m i i s vote is hi).2

vote_said : (phase : Phase) (m : LogData) (i : ℕ) (vote : Vote) → IsLog m → is_in_marks m i ≡ true → vote.sender.0 ≡ m.me → due_vote phase (with_vote_in phase m i vote) i ≡ None
vote_said phase m i vote is hi own =
    let new : LogData = with_vote_in phase m i vote in
    stopped (m.active && votes_in phase new i) (logged_digest new i) (is_none (vote_of phase new i m.me)) (ap is_none (vote_read phase m i m.me vote is hi) ∙ counted (vote_of phase m i m.me) m.me i vote own)

-- a commit leaves the due prepare
pub prepare_stays : (m : LogData) (i : ℕ) (vote : Vote) → IsLog m → is_in_marks m i ≡ true → due_prepare (with_commit m i vote) i ≡ due_prepare m i
prepare_stays m i vote is hi = ap (prepare_by m (is_in_marks m i)) (row_here m i (record (row_of m i) { commits = with_vote vote (row_of m i).commits }) is hi)

-- the sent message, as the laws over histories ask for it
pub record SaidIn (c : Configuration) (o : OrdererData) (message : Message) (before after : List Output) : Type 0 where
  pub bytes : List ℕ
  pub is_outgoing : IsOutgoing c o.endpoint.me message (others c o.endpoint.me) bytes
  pub is : EmitsOne c o.endpoint.me before after (Sent o.endpoint.me bytes)

pub said_in : (c : Configuration) (o : OrdererData) (message : Message) (before after : List Output) → members c o.endpoint.me ≡ o.endpoint.membership → Multicasts o message before after
    → SaidIn c o message before after
said_in c o message before after known s = record {
  bytes = s.sends_frame.bytes;
  is_outgoing = outgoing_for_others o.endpoint.membership o.endpoint.me message s.sends_frame.bytes s.sends_frame.is_outgoing c known;
  is = emits_one c o.endpoint.me before after s.output (Sent o.endpoint.me s.sends_frame.bytes) s.given_is s.sends_frame.sends (s.sends_frame.meant c known);
}

-- nothing is asked for, and nothing is sent
pub silent : (number : ℕ) (o : OrdererData) (outs : List Output) → MulticastsVote number o outs o outs
silent number o outs = record {
  goes = λ c s desk w due known f. f;
  same = same_orderer o;
  low = refl;
  used = refl;
  others = λ i ne v. v;
}

pub no_commit : (number : ℕ) (o : OrdererData) (outs : List Output) → due_commit o.log number ≡ None → MulticastsCommit number o outs o outs
no_commit number o outs h = record { says = silent number o outs; said = h; prepared = refl }

-- a vote is counted, and Q does not change
votes : (phase : Phase) (number : ℕ) (vote : Vote) (old : OrdererData) (pq_sets : PqSetsData) (before after : List Output) → pq_sets.logged ≡ old.pq_sets.logged → is_in_marks old.log number ≡ true
    → (let new : OrdererData = record old { log = with_vote_in phase old.log number vote; pq_sets = pq_sets } in KeepsFitting old before new after → MulticastsVote number old before new after)
votes phase number vote old pq_sets before after logged inside goes = record {
  goes = goes;
  same = record {
    endpoint = refl;
    log = same_rows old.log (with_vote_in phase old.log number vote).rows;
    target = refl;
    choice = λ off. record { received = refl; spent = refl; logged = λ pq_entry has. subst (Has (λ x. x ≡ pq_entry)) logged has };
  };
  low = refl;
  used = refl;
  others = λ i ne. none_elsewhere old.log i number (with_row_vote phase (row_of old.log number) vote) inside ne;
}

-- ---- a prepare

prepare_goes : (number : ℕ) (digest : List ℕ) (vote : Vote) (o : OrdererData) (before after : List Output) → o.log.me ≡ o.endpoint.me → due_prepare o.log number ≡ Some digest
    → vote.sender.0 ≡ o.log.me → vote.digest ≡ digest → Multicasts o (Prepare o.log.view number digest) before after
    → KeepsFitting o before (record o { log = with_prepare o.log number vote }) after
prepare_goes number digest vote o before after own due sender same says c s desk w d known f =
    let k = said_in c o (Prepare o.log.view number digest) before after known says in
    fits_on c o.endpoint.me s o (record o { log = with_prepare o.log number vote }) desk w d d before after (Sent o.endpoint.me k.bytes) k.is
    (sent_beside c o.endpoint.me (Prepare o.log.view number digest) (others c o.endpoint.me) k.bytes (after_outputs s (given o.endpoint.me before)) tt k.is_outgoing)
    (sent_keep c o.endpoint.me (after_outputs s (given o.endpoint.me before)) (Prepare o.log.view number digest) k.bytes k.is_outgoing.says tt (λ signed. absurd cc))
    (same_rows o.log (with_prepare o.log number vote).rows) refl refl refl refl f
    (prepares_fit c o.endpoint.me s desk o.log d (given o.endpoint.me before) number digest k.bytes vote due (sender ∙ own) same k.is_outgoing f.fits)

pub says_prepare : (number : ℕ) (digest : List ℕ) (old new : OrdererData) (before after : List Output) → IsLog old.log → IsOrderer old → due_prepare old.log number ≡ Some digest
    → Multicasts old (Prepare old.log.view number digest) before after → AddsVote phases.Prepare number digest old new → MulticastsPrepare number old before new after
says_prepare number digest old new before after is own due says adds =
    subst (λ (x : OrdererData). MulticastsPrepare number old before x after) (sym adds.new_is) (record {
      says = votes phases.Prepare number adds.vote old old.pq_sets before after refl inside (prepare_goes number digest adds.vote old before after own.0 due adds.sender adds.digest_is says);
      said = vote_said phases.Prepare old.log number adds.vote is inside adds.sender;
    })
  where
    inside : is_in_marks old.log number ≡ true
    inside = due_within phases.Prepare old.log number digest due

-- ---- a commit

-- the logged digest is the batch's
digest_logged : (m : LogData) (i : ℕ) → logged_digest m i ≡ option_map sha256 (logged_batch m i)
digest_logged m i = go (is_in_marks m i)
  where
    go : (b : Bool) → cond b (digest_of (row_of m i)) None ≡ option_map sha256 (cond b (row_of m i).batch None)
    go true = refl
    go false = refl

-- the batch whose commit is due enters P
pub record PqSetsDue (number : ℕ) (digest : List ℕ) (old new : OrdererData) : Type 0 where
  pub text : List ℕ
  pub digest_is : sha256 text ≡ digest
  pub new_is : new ≡ noting_prepared number text old

abbrev NotesFound : ℕ → OrdererData → OrdererData → Option (List ℕ) → Type 0
NotesFound number old new found = elim found [ Some text ↦ new ≡ noting_prepared number text old | None ↦ new ≡ old ]

pub pq_sets_due : (number : ℕ) (digest : List ℕ) (old new : OrdererData) → due_commit old.log number ≡ Some digest → NotesPrepared number old new → PqSetsDue number digest old new
pq_sets_due number digest old new due pq_sets = go (logged_batch old.log number) has pq_sets
  where
    has : option_map sha256 (logged_batch old.log number) ≡ Some digest
    has = sym (digest_logged old.log number)
        ∙ (passed (old.log.active && is_prepared old.log number && is_none (commit_of old.log number old.log.me)) (logged_digest old.log number) digest due).1

    go : (o : Option (List ℕ)) → option_map sha256 o ≡ Some digest → NotesFound number old new o → PqSetsDue number digest old new
    go None e is = absurd cc
    go (Some text) e is = record { text = text; digest_is = some_injective (sha256 text) digest e; new_is = is }

commit_goes : (number : ℕ) (digest text : List ℕ) (vote : Vote) (o : OrdererData) (before after : List Output) → o.log.me ≡ o.endpoint.me → due_commit o.log number ≡ Some digest
    → sha256 text ≡ digest → vote.sender.0 ≡ o.log.me → vote.digest ≡ digest → Multicasts (noting_prepared number text o) (Commit o.log.view number digest) before after
    → KeepsFitting o before (record (noting_prepared number text o) { log = with_commit o.log number vote }) after
commit_goes number digest text vote o before after own due hashed sender same says c s desk w d known f =
    fits_with c me s o (record (noting_prepared number text o) { log = log }) desk w d d before after e k.is
    (sent_beside c me (Commit o.log.view number digest) (others c me) k.bytes past tt k.is_outgoing)
    (same_rows o.log log.rows) refl refl
    (subst (λ (x : List ℕ). FitsChanges c me log (record (changes_held o) {
      pq_sets = record o.pq_sets { prepared = with_prepared (record { number = number; digest = x; view = o.log.view }) o.pq_sets.prepared };
    }) (e ∷ past)) (sym hashed)
    (commits_enter_p c me past o.log log (changes_held o) number digest k.bytes (outputs_pass c me s desk desk o.log log d d (given me before) e f.fits on)
    (record { view = refl; active = refl }) refl due k.is_outgoing.says f.changes)) f on
  where
    me : ℕ
    me = o.endpoint.me

    past : List Entry
    past = after_outputs s (given me before)

    log : LogData
    log = with_commit o.log number vote

    k : SaidIn c (noting_prepared number text o) (Commit o.log.view number digest) before after
    k = said_in c (noting_prepared number text o) (Commit o.log.view number digest) before after known says

    e : Entry
    e = Sent me k.bytes

    on : events.BothFitWithinEvent c me s desk log d (e ∷ given me before)
    on = commits_fit c me s desk o.log d (given me before) number digest k.bytes vote due (sender ∙ own) same k.is_outgoing f.fits

commit_in_p : (number : ℕ) (digest text : List ℕ) (old new : OrdererData) (before after : List Output) → IsLog old.log → IsOrderer old → due_commit old.log number ≡ Some digest → sha256 text ≡ digest
    → Multicasts (noting_prepared number text old) (Commit old.log.view number digest) before after → AddsVote phases.Commit number digest (noting_prepared number text old) new → MulticastsCommit number old before new after
commit_in_p number digest text old new before after is own due hashed says adds =
    subst (λ (x : OrdererData). MulticastsCommit number old before x after) (sym adds.new_is) (record {
      says = votes phases.Commit number adds.vote old (noting_prepared number text old).pq_sets before after refl inside (commit_goes number digest text adds.vote old before after own.0 due hashed adds.sender adds.digest_is says);
      said = vote_said phases.Commit old.log number adds.vote is inside adds.sender;
      prepared = prepare_stays old.log number adds.vote is inside;
    })
  where
    inside : is_in_marks old.log number ≡ true
    inside = due_within phases.Commit old.log number digest due

pub says_commit : (number : ℕ) (digest : List ℕ) (old mid new : OrdererData) (before after : List Output) → IsLog old.log → IsOrderer old → due_commit old.log number ≡ Some digest
    → NotesPrepared number old mid → Multicasts mid (Commit mid.log.view number digest) before after → AddsVote phases.Commit number digest mid new → MulticastsCommit number old before new after
says_commit number digest old mid new before after is own due pq_sets says adds =
    let k = pq_sets_due number digest old mid due pq_sets in
    commit_in_p number digest k.text old new before after is own due k.digest_is
    (subst (λ (x : OrdererData). Multicasts x (Commit x.log.view number digest) before after) k.new_is says)
    (subst (λ (x : OrdererData). AddsVote phases.Commit number digest x new) k.new_is adds)

-- ---- both

-- if both go on, the whole does
pub goes_twice : (a b d : OrdererData) (x y z : List Output) → b.endpoint ≡ a.endpoint → KeepsFitting a x b y → KeepsFitting b y d z → KeepsFitting a x d z
goes_twice a b d x y z same first second c s desk w due known f =
    subst (λ e. FitsEvent c e.me s d desk w due z) same
    (second c s desk w due (subst (λ e. members c e.me ≡ e.membership) (sym same) known) (subst (λ e. FitsEvent c e.me s b desk w due y) (sym same) (first c s desk w due known f)))

pub says_votes : (number : ℕ) (a b d : OrdererData) (x y z : List Output) → MulticastsPrepare number a x b y → MulticastsCommit number b y d z → MulticastsVotes number a x d z
says_votes number a b d x y z p q = record {
  says = record {
    goes = goes_twice a b d x y z p.says.same.endpoint p.says.goes q.says.goes;
    same = orderers_twice a b d p.says.same q.says.same;
    low = q.says.low ∙ p.says.low;
    used = q.says.used ∙ p.says.used;
    others = λ i ne v. q.says.others i ne (p.says.others i ne v);
  };
  said = (q.prepared ∙ p.said, q.said);
}

module _ (c : Configuration) (s : Start) (o : OrdererData) (desk : Desk) (w : WaitingData) (before after : List Output) (t : TransferData) (known : members c o.endpoint.me ≡ o.endpoint.membership)
    (says : Multicasts o (fetch_of t) before after) where
  abbrev pub me : ℕ
  me = o.endpoint.me

  abbrev pub past : List Entry
  past = after_outputs s (given me before)

  said : SaidIn c o (fetch_of t) before after
  said = said_in c o (fetch_of t) before after known says

  abbrev pub with_it : Desk
  with_it = record desk { transfer = Some t }

  -- the desk has the transfer after its fetch
  behind_it : (due rest : List Message) → FitsEvent c me s o desk w due before → events.BothFitWithinEvent c me s with_it o.log rest (Sent me said.bytes ∷ given me before)
      → FitsEvent c me s o with_it w rest after
  behind_it due rest f on =
      fits_behind c me s o o desk with_it w w due rest before after (Sent me said.bytes) said.is refl f on
      (numbers_beside c me w o desk past (Sent me said.bytes) f.fits.of_log.faults f.fits.of_log.own (sent_beside c me (fetch_of t) (others c me) said.bytes past tt said.is_outgoing) f.numbers)
      (changes_still c me s o o desk with_it due rest (given me before) (Sent me said.bytes) f.fits on (sent_keep c me past (fetch_of t) said.bytes said.is_outgoing.says tt (λ signed. absurd cc)) (same_log o.log) refl refl f.changes)

  pub asks : (due : List Message) → TransferMayAsk c me t desk.state.number past → AsksNext c me t desk.state past → FitsEvent c me s o desk w due before → FitsEvent c me s o with_it w due after
  asks due may next f = behind_it due due f (fetches_fit c me s desk o.log due (given me before) t said.bytes may next said.is_outgoing f.fits)

  -- the fetch was due
  pub asks_due : (rest : List Message) → TransferMayAsk c me t desk.state.number past → AsksNext c me t desk.state past → FitsEvent c me s o desk w (fetch_of t ∷ rest) before → FitsEvent c me s o with_it w rest after
  asks_due rest may next f = behind_it (fetch_of t ∷ rest) rest f (due_fetches_fit c me s desk o.log rest (given me before) t said.bytes may next said.is_outgoing f.fits)

  -- the open transfer may ask again, if a fetch is due
  pub asks_again : (rest : List Message) → desk.transfer ≡ Some t → TransferMayAsk c me t desk.state.number past → AsksNext c me t desk.state past → FitsEvent c me s o desk w (fetch_of t ∷ rest) before → FitsEvent c me s o desk w rest after
  asks_again rest there may next f =
      subst (λ x. FitsEvent c me s o (record desk { transfer = x }) w rest after) (sym there)
      (asks_due rest may next f)
