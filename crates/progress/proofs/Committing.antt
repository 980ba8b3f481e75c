-- Each correct replica logs, prepares and commits a batch that each receives, if all that each sends about it reaches
-- each.
use Rattle.std.proofs.Common.{◌≡◌, ◌≢◌, ℕ, zero, suc, ◌+◌, ◌*◌, ◌≤◌, ◌<◌, ◌⊎◌, inl, inr, Bool, true, false, not, cond, List, [], ◌∷◌, ◌++◌, Option, Some, None, reverse, refl, sym, ap, ◌∙◌, subst, arith, append_assoc, ◌&&◌, eqb-true, eq-eqb, bytes_eq}
use Rattle.std.specs.Prelude.{◌==◌, nat_le, option_and_then}
use Rattle.std.proofs.lemmas.Bool.{and_parts, and_from, leb-true, leb-false, eqb-false, ne_eqb, not-true}
use Rattle.std.proofs.lemmas.Slice.Eq.{bytes_eq-Decides}
use Rattle.sha2.specs.Sha256.{sha256}
use Rattle.quorum.specs.Quorum.{count_below}
use Rattle.quorum.specs.Votes.{or_else, has_digest}
use Rattle.quorum.proofs.Counting.{count_mono}
use Rattle.wire_format.specs.Messages.{BodyData as Body, MessageData as Message, pre_prepare as PrePrepare, prepare as Prepare, commit as Commit}
use Rattle.wire_format.specs.Spelling.{is_signed}
use Rattle.wire_format.specs.Words.{said}
use Rattle.authenticator.specs.Membership.{sends}
use Rattle.protocol.specs.System.Configuration.{Configuration, IsConfiguration, replicas, primary, is_replica, is_correct_replica, signers}
use Rattle.protocol.specs.System.Trace.{Entry, party_of, history_of, Once, Unforged}
use Rattle.protocol.specs.System.Trace.Entry.{Got, Sent}
use Rattle.protocol.specs.System.Run.{OnlyTheseStopped}
use Rattle.protocol.specs.Replica.Certificates.{is_active_in, low, is_in_marks, are_genuine, brought, counts_at, batch_from, assigned_proposal, entry_proposal, proposal, logged, first_given, prepare_from, commit_from, vote_in, prepare_of, commit_of, Prepared, Committed}
use Rattle.protocol.specs.Replica.RightReplica.{Point, HistoryReaches, MaySend, MaySendMessage, IsFor, others}
use Rattle.protocol.specs.Replica.Owed.{HistoryIsPrompt, SendsMessage}
use Rattle.protocol.specs.Laws.Histories.{AreReplicasSafe}
use Rattle.protocol.proofs.Words.Options.{some_injective}
use Rattle.protocol.proofs.Words.Elements.{has_left, has_right, has_reversed}
use Rattle.protocol.proofs.Words.Reacting.{proceeds_leaves}
use Rattle.protocol.proofs.Agreement.Voting.{Logs, logs_stay, logged_stays, voter_logs, batch_is}
use Rattle.protocol.proofs.Agreement.Commits.{CommitsAt, voter_commits}
use Rattle.protocol.proofs.Agreement.Agreeing.{logged_was_offered}
use Rattle.protocol.proofs.Agreement.States.{once_append}
use Rattle.protocol.proofs.Words.Temporal.{once_weaker, once_stays}
use Rattle.protocol.proofs.Points.Levels.{many_correct}
use Rattle.progress.specs.Delivery.{HasEntry}
use Rattle.progress.proofs.Events.{Given, given}
use Rattle.progress.proofs.Flipping.{Flip, flips}
use Rattle.progress.proofs.Steady.{logged_later, some_given, SentAt, sent_at}

-- ---- counts

-- at most one of those that pass is the number a
count_without : (p : ℕ → Bool) (a n : ℕ) → count_below p n ≤ suc (count_below (λ s. not (s == a) && p s) n)
count_without p a zero = omega arith
count_without p a (suc n) = go (n == a) refl (p n) (count_without p a n)
  where
    below_all : (m : ℕ) → m ≤ n → (n == a) ≡ true → count_below p m ≤ count_below (λ s. not (s == a) && p s) m
    below_all m l e = count_mono p (λ s. not (s == a) && p s) m (λ s k h. and_from (not (s == a)) (p s) (differs s k) h)
      where
        differs : (s : ℕ) → s < m → not (s == a) ≡ true
        differs s k = ap not (ne_eqb s a (λ same. let is : n ≡ a = eqb-true n a e in omega arith))

    go : (x : Bool) → (n == a) ≡ x → (y : Bool) → count_below p n ≤ suc (count_below (λ s. not (s == a) && p s) n)
        → cond y (suc (count_below p n)) (count_below p n) ≤ suc (cond (not x && y) (suc (count_below (λ s. not (s == a) && p s) n)) (count_below (λ s. not (s == a) && p s) n))
    go true e true below = let self : n ≤ n = omega arith in let k = below_all n self e in omega arith
    go true e false below = omega arith
    go false e true below = omega arith
    go false e false below = omega arith

-- ---- an entry of a part

pub record Stands (e : Entry) (part start : List Entry) : Type 0 where
  pub newer : List Entry
  pub middle : List Entry
  pub splits : part ≡ newer ++ e ∷ middle
  pub whole : part ++ start ≡ newer ++ e ∷ (middle ++ start)

pub stands : (e : Entry) (part start : List Entry) → HasEntry e part → Stands e part start
stands e [] start h = absurd h
stands e (x ∷ part) start (inl is) = record { newer = []; middle = part; splits = ap (λ (y : Entry). y ∷ part) is; whole = ap (λ (y : Entry). y ∷ (part ++ start)) is }
stands e (x ∷ part) start (inr h) = let b = stands e part start h in record { newer = x ∷ b.newer; middle = b.middle; splits = ap (λ (xs : List Entry). x ∷ xs) b.splits; whole = ap (λ (xs : List Entry). x ∷ xs) b.whole }

-- ---- the fields of messages

pub pre_prepare_is : (c : Configuration) (me v i : ℕ) (batch : List ℕ) (sender : ℕ) (message : Message) → batch_from c me v i (record { sender = sender; message = message }) ≡ Some batch
    → (◌≡◌ {A = Body} (record { sender = sender; message = message }) (record { sender = primary c v; message = PrePrepare v i batch })) × (are_genuine c me batch ≡ true)
pre_prepare_is c me v i batch sender message h = let b = batch_is c me v i batch sender message h in (rw (b.1, b.0) refl, b.2)

-- whether the batch is logged
decide_logged : (c : Configuration) (me v i : ℕ) (batch : List ℕ) (past : List Entry) → (logged c me past v i ≡ Some batch) ⊎ (logged c me past v i ≡ Some batch → ⊥)
decide_logged c me v i batch past = go (logged c me past v i)
  where
    same : (x : List ℕ) (b : Bool) → bytes_eq x batch ≡ b → (Some x ≡ Some batch) ⊎ (Some x ≡ Some batch → ⊥)
    same x true e = inl (ap Some ((bytes_eq-Decides x batch).0 e))
    same x false e = inr (λ is. let bad : false ≡ true = sym e ∙ (bytes_eq-Decides x batch).1 (some_injective x batch is) in cc)

    go : (o : Option (List ℕ)) → (o ≡ Some batch) ⊎ (o ≡ Some batch → ⊥)
    go None = inr (λ is. cc)
    go (Some x) = same x (bytes_eq x batch) refl

pub decide_prepared : (c : Configuration) (me v i : ℕ) (batch : List ℕ) (past : List Entry) → Prepared c me past v i batch ⊎ (Prepared c me past v i batch → ⊥)
decide_prepared c me v i batch past = go (decide_logged c me v i batch past)
  where
    enough : logged c me past v i ≡ Some batch → (b : Bool) → nat_le (2 * c.faults) (count_below (λ s. has_digest (sha256 batch) (prepare_of c me past v i s)) (replicas c)) ≡ b
        → Prepared c me past v i batch ⊎ (Prepared c me past v i batch → ⊥)
    enough is true e = inl (record { logged = is; backups = leb-true (2 * c.faults) (count_below (λ s. has_digest (sha256 batch) (prepare_of c me past v i s)) (replicas c)) e })
    enough is false e = inr (λ p. let l = leb-false (2 * c.faults) (count_below (λ s. has_digest (sha256 batch) (prepare_of c me past v i s)) (replicas c)) e in let k = p.backups in omega arith)

    go : (logged c me past v i ≡ Some batch) ⊎ (logged c me past v i ≡ Some batch → ⊥) → Prepared c me past v i batch ⊎ (Prepared c me past v i batch → ⊥)
    go (inl is) = enough is (nat_le (2 * c.faults) (count_below (λ s. has_digest (sha256 batch) (prepare_of c me past v i s)) (replicas c))) refl
    go (inr fails) = inr (λ p. fails p.logged)

pub none_logged : (c : Configuration) (me v i : ℕ) (batch : List ℕ) → logged c me [] v i ≡ Some batch → ⊥
unfolding logged
none_logged c me v i batch h = cc

pub own_in : (p : ℕ) (e : Entry) (xs : List Entry) → HasEntry e (history_of p xs) → party_of e ≡ p
own_in p e [] h = absurd h
own_in p e (x ∷ xs) h = go (party_of x == p) refl h (own_in p e xs)
  where
    go : (b : Bool) → (party_of x == p) ≡ b → HasEntry e (cond b (x ∷ history_of p xs) (history_of p xs)) → (HasEntry e (history_of p xs) → party_of e ≡ p) → party_of e ≡ p
    go true own (inl is) below = ap party_of (sym is) ∙ eqb-true (party_of x) p own
    go true own (inr k) below = below k
    go false own k below = below k

-- a message that a replica sent
pub record Shared (c : Configuration) (q : ℕ) (message : Message) (entries : List Entry) : Type 0 where
  pub bytes : List ℕ
  pub is_sent : HasEntry (Sent q bytes) entries
  pub says : said bytes ≡ Some (record { sender = q; message = message })
  pub past : List Entry
  pub point : Point
  pub may : MaySend c q past point (Sent q bytes) bytes

-- an entry of the replica's history that brings the body, if it counts
pub record Comes (c : Configuration) (s v i : ℕ) (body : Body) (whole : List Entry) : Type 0 where
  pub newer : List Entry
  pub past : List Entry
  pub entry : Entry
  pub splits : whole ≡ newer ++ entry ∷ past
  pub brings : brought c entry ≡ Some body
  pub counts : counts_at c s past entry v i ≡ true

pub counts_here : (c : Configuration) (s v i : ℕ) (past : List Entry) (body : Body) (e : Entry) → brought c e ≡ Some body → is_active_in c past v ≡ true → is_in_marks c (low c s past) i ≡ true → counts_at c s past e v i ≡ true
counts_here c s v i past body (Got p bytes) h active marks = and_from (is_active_in c past v) (is_in_marks c (low c s past) i) active marks
counts_here c s v i past body (Sent p bytes) h active marks = refl
counts_here c s v i past body _ h active marks = absurd cc

pub prepares_batch : (c : Configuration) (s v i : ℕ) (batch : List ℕ) → are_genuine c s batch ≡ true → batch_from c s v i (record { sender = primary c v; message = PrePrepare v i batch }) ≡ Some batch
prepares_batch c s v i batch genuine = rw (eq-eqb v v refl, eq-eqb i i refl, eq-eqb (primary c v) (primary c v) refl, genuine) refl

prepares_digest : (c : Configuration) (q v i : ℕ) (d : List ℕ) → (q == primary c v) ≡ false → prepare_from c q v i (record { sender = q; message = Prepare v i d }) ≡ Some d
prepares_digest c q v i d other = rw (eq-eqb q q refl, eq-eqb v v refl, eq-eqb i i refl, other) refl

commits_digest : (q v i : ℕ) (d : List ℕ) → commit_from q v i (record { sender = q; message = Commit v i d }) ≡ Some d
commits_digest q v i d = rw (eq-eqb q q refl, eq-eqb v v refl, eq-eqb i i refl) refl

has_its_digest : (d : List ℕ) (o : Option (List ℕ)) → o ≡ Some d → has_digest d o ≡ true
has_its_digest d o is = ap (has_digest d) is ∙ (bytes_eq-Decides d d).1 refl

-- the three messages of the normal case, of one view and number
pub data IsOf (v i : ℕ) : Message → Type 0 where
  is_batch : (batch : List ℕ) → IsOf v i (PrePrepare v i batch)
  is_prepare : (digest : List ℕ) → IsOf v i (Prepare v i digest)
  is_commit : (digest : List ℕ) → IsOf v i (Commit v i digest)

pub of_unsigned : (v i : ℕ) (message : Message) → IsOf v i message → is_signed message ≡ false
of_unsigned v i _ (is_batch b) = refl
of_unsigned v i _ _ = refl

pub of_sent : (c : Configuration) (v i q : ℕ) (message : Message) → IsOf v i message → is_replica c q ≡ true → sends (signers c) q message ≡ true
of_sent c v i q _ (is_batch b) h = h
of_sent c v i q _ _ h = h

pub of_others : (c : Configuration) (v i q : ℕ) (past : List Entry) (receivers : List ℕ) (message : Message) → IsOf v i message → IsFor c q past message receivers → receivers ≡ others c q
of_others c v i q past receivers _ (is_batch b) h = h
of_others c v i q past receivers _ _ h = h

-- a replica that may send one of these has logged a batch for the number
pub of_logged : (c : Configuration) (v i q : ℕ) (past : List Entry) (at : Point) (bytes : List ℕ) (message : Message) → IsOf v i message → MaySendMessage c q past at (Sent q bytes) bytes message
    → (b : List ℕ) × (logged c q (Sent q bytes ∷ past) v i ≡ Some b)
of_logged c v i q past at bytes _ (is_batch b) may = (b, may.one)
of_logged c v i q past at bytes _ (is_prepare d) may = (may.batch, logged_stays c q v i may.batch (Sent q bytes) past may.is_logged)
of_logged c v i q past at bytes _ (is_commit d) may = (may.batch, logged_stays c q v i may.batch (Sent q bytes) past may.prepared.logged)

-- each message about the number that a correct replica sends reaches this one, if it counts
abbrev pub Reaches : Configuration → ℕ → ℕ → List Entry → ℕ → Type 0
Reaches c v i trace s =
    (q : ℕ) → is_correct_replica c q ≡ true → (message : Message) → IsOf v i message → Shared c q message (history_of q trace) → Comes c s v i (record { sender = q; message = message }) (history_of s trace)

-- ---- the number is committed at each correct replica, if it is so already or all that each sends about it comes there

module _ (c : Configuration) (setting : IsConfiguration c) (trace : List Entry) (goes : OnlyTheseStopped c [] trace)
    (safe : AreReplicasSafe c trace) (unforged : Unforged c trace) (v i : ℕ) (batch : List ℕ) (from : is_correct_replica c (primary c v) ≡ true)
    (active : (q : ℕ) → is_correct_replica c q ≡ true → (newer now : List Entry) (b : List ℕ) → history_of q trace ≡ newer ++ now → logged c q now v i ≡ Some b → is_active_in c now v ≡ true)
    (settled : (s : ℕ) → is_correct_replica c s ≡ true → Committed c s (history_of s trace) v i batch ⊎ Reaches c v i trace s) where
  abbrev whole : ℕ → List Entry
  whole q = history_of q trace

  abbrev p0 : ℕ
  p0 = primary c v

  known : (q : ℕ) → is_correct_replica c q ≡ true → is_replica c q ≡ true
  known q correct = (and_parts (is_replica c q) _ correct).0

  module _ (q : ℕ) (correct : is_correct_replica c q ≡ true) where
    pub point : Point
    point = (goes.replicas q correct refl).0

    pub proceeds : HistoryIsPrompt c q (whole q) [] point point
    unfolding point
    proceeds = (goes.replicas q correct refl).1

    pub leaves : HistoryReaches c q (whole q) point
    leaves = proceeds_leaves c q (whole q) [] point point proceeds

    -- a message among an event's outputs is sent
    shares : (message : Message) (newer outs rest : List Entry) → whole q ≡ newer ++ (reverse outs ++ rest) → SendsMessage q message outs → Shared c q message (whole q)
    shares message newer outs rest is gives = record {
      bytes = g.bytes;
      is_sent = subst (λ (p : ℕ). HasEntry (Sent p g.bytes) (whole q)) at.own there;
      says = g.says;
      past = at.past;
      point = at.point;
      may = subst (λ (p : ℕ). MaySend c q at.past at.point (Sent p g.bytes) g.bytes) at.own at.may;
    }
      where
        g : Given q message outs
        g = given q message outs gives

        there : HasEntry (Sent g.party g.bytes) (whole q)
        there = subst (λ (xs : List Entry). HasEntry (Sent g.party g.bytes) xs) (sym is)
            (has_right (λ x. x ≡ Sent g.party g.bytes) newer (reverse outs ++ rest) (has_left (λ x. x ≡ Sent g.party g.bytes) (reverse outs) rest (has_reversed (λ x. x ≡ Sent g.party g.bytes) outs g.is_there)))

        at : SentAt c q g.party g.bytes (whole q)
        at = sent_at c q g.party g.bytes (whole q) point leaves there

  -- a message that comes and counts has happened
  module _ (s : ℕ) (body : Body) (x : Comes c s v i body (whole s)) where
    happens : (Q : List Entry → Entry → Type 0) → Q x.past x.entry → Once Q (whole s)
    happens Q h = subst (λ (xs : List Entry). Once Q xs) (sym x.splits) (once_append Q x.newer (x.entry ∷ x.past) (inl h))

    votes : (vote : Body → Option (List ℕ)) (d : List ℕ) → vote body ≡ Some d → (y : List ℕ) × (first_given (λ earlier e. vote_in c s earlier e vote v i) (whole s) ≡ Some y)
    votes vote d h =
        some_given (λ earlier e. vote_in c s earlier e vote v i) (whole s)
        (happens (λ past e. (y : List ℕ) × (vote_in c s past e vote v i ≡ Some y))
        (d, ap (λ (b : Bool). cond b (option_and_then vote (brought c x.entry)) None) x.counts ∙ ap (option_and_then vote) x.brings ∙ h))

    logs : batch_from c s v i body ≡ Some batch → (y : List ℕ) × (logged c s (whole s) v i ≡ Some y)
    unfolding logged
    logs h =
        some_given (λ earlier e. proposal c s earlier e v i) (whole s)
        (happens (λ past e. (y : List ℕ) × (proposal c s past e v i ≡ Some y)) (either (assigned_proposal c s x.past x.entry v i)))
      where
        entry : entry_proposal c s x.past x.entry v i ≡ Some batch
        entry = ap (λ (b : Bool). cond b (option_and_then (batch_from c s v i) (brought c x.entry)) None) x.counts ∙ ap (option_and_then (batch_from c s v i)) x.brings ∙ h

        either : (o : Option (List ℕ)) → (y : List ℕ) × (or_else o (entry_proposal c s x.past x.entry v i) ≡ Some y)
        either None = (batch, entry)
        either (Some y) = (y, refl)

  -- ---- if each has logged it

  module _ (logs_it : (s : ℕ) → is_correct_replica c s ≡ true → logged c s (history_of s trace) v i ≡ Some batch) where
    -- ---- each backup prepares it

    prepares_it : (q : ℕ) → is_correct_replica c q ≡ true → p0 ≢ q → Shared c q (Prepare v i (sha256 batch)) (whole q)
    prepares_it q one backup = shares q one (Prepare v i (sha256 batch)) f.newer f.outs (f.input ∷ f.before) f.is given_it
      where
        f : Flip c q (λ past. logged c q past v i ≡ Some batch) (whole q)
        f = flips c q (λ past. logged c q past v i ≡ Some batch) (decide_logged c q v i batch) (none_logged c q v i batch) (whole q) [] (point q one) (point q one) (proceeds q one) (logs_it q one)

        unlogged : (o : Option (List ℕ)) → logged c q f.before v i ≡ o → o ≡ None
        unlogged None is = refl
        unlogged (Some x) is =
            let now = logged_later c q v i x (reverse f.outs ++ f.input ∷ []) f.before is in
            let here : logged c q (reverse f.outs ++ f.input ∷ f.before) v i ≡ Some x = subst (λ (xs : List Entry). logged c q xs v i ≡ Some x) (append_assoc (reverse f.outs) (f.input ∷ []) f.before) now in
            absurd (f.not_yet (is ∙ ap Some (some_injective x batch (sym here ∙ f.holds))))

        given_it : SendsMessage q (Prepare v i (sha256 batch)) f.outs
        given_it = f.owes.prepares v i batch (unlogged (logged c q f.before v i) refl) f.holds (active q one f.newer (reverse f.outs ++ f.input ∷ f.before) batch f.is f.holds) backup

    -- ---- so each has it prepared

    prepare_counts : (s q : ℕ) → is_correct_replica c s ≡ true → is_correct_replica c q ≡ true → Reaches c v i trace s → (q == p0) ≡ false → has_digest (sha256 batch) (prepare_of c s (whole s) v i q) ≡ true
    unfolding prepare_of
    prepare_counts s q other one comes backup =
        let x = comes q one (Prepare v i (sha256 batch)) (is_prepare (sha256 batch)) (prepares_it q one (λ same. eqb-false q p0 backup (sym same))) in
        let y = votes s (record { sender = q; message = Prepare v i (sha256 batch) }) x (prepare_from c q v i) (sha256 batch) (prepares_digest c q v i (sha256 batch) backup) in
        let l = voter_logs c trace s q v i y.0 safe unforged other one y.1 in
        let same : l.batch ≡ batch = some_injective l.batch batch (sym l.is_logged ∙ logs_it q one) in
        has_its_digest (sha256 batch) (prepare_of c s (whole s) v i q) (y.1 ∙ ap Some (sym l.digest ∙ ap sha256 same))

    prepared : (s : ℕ) → is_correct_replica c s ≡ true → Prepared c s (whole s) v i batch
    prepared s other = go (settled s other)
      where
        enough : Reaches c v i trace s → 2 * c.faults ≤ count_below (λ q. has_digest (sha256 batch) (prepare_of c s (whole s) v i q)) (replicas c)
        enough comes =
            let many : 2 * c.faults + 1 ≤ count_below (is_correct_replica c) (replicas c) = many_correct c setting in
            let less = count_without (is_correct_replica c) p0 (replicas c) in
            let more = count_mono (λ q. not (q == p0) && is_correct_replica c q) (λ q. has_digest (sha256 batch) (prepare_of c s (whole s) v i q)) (replicas c)
            (λ q l h. let p = and_parts (not (q == p0)) (is_correct_replica c q) h in prepare_counts s q other p.1 comes (not-true (q == p0) p.0)) in
            omega arith

        go : Committed c s (whole s) v i batch ⊎ Reaches c v i trace s → Prepared c s (whole s) v i batch
        go (inl k) = k.prepared
        go (inr comes) = record { logged = logs_it s other; backups = enough comes }

    -- ---- each commits it

    commits_it : (q : ℕ) → is_correct_replica c q ≡ true → Shared c q (Commit v i (sha256 batch)) (whole q)
    commits_it q one = shares q one (Commit v i (sha256 batch)) f.newer f.outs (f.input ∷ f.before) f.is given_it
      where
        f : Flip c q (λ past. Prepared c q past v i batch) (whole q)
        f = flips c q (λ past. Prepared c q past v i batch) (decide_prepared c q v i batch) (λ p. none_logged c q v i batch p.logged) (whole q) [] (point q one) (point q one) (proceeds q one) (prepared q one)

        given_it : SendsMessage q (Commit v i (sha256 batch)) f.outs
        given_it = f.owes.commits v i batch f.not_yet f.holds (active q one f.newer (reverse f.outs ++ f.input ∷ f.before) batch f.is f.holds.logged)

    commit_counts : (s q : ℕ) → is_correct_replica c s ≡ true → is_correct_replica c q ≡ true → Reaches c v i trace s → commit_of c s (whole s) v i q ≡ Some (sha256 batch)
    unfolding commit_of
    commit_counts s q other one comes =
        let x = comes q one (Commit v i (sha256 batch)) (is_commit (sha256 batch)) (commits_it q one) in
        let y = votes s (record { sender = q; message = Commit v i (sha256 batch) }) x (commit_from q v i) (sha256 batch) (commits_digest q v i (sha256 batch)) in
        let k = voter_commits c trace s q v i y.0 safe unforged other one y.1 in
        let l = once_stays (Logs c q v i y.0) (logs_stay c q v i y.0) (whole q)
        (once_weaker (CommitsAt c q v i y.0) (λ past e. Logs c q v i y.0 past) (λ past e t. record { batch = t.0.batch; is_logged = t.0.prepared.logged; digest = t.0.digest_is }) (whole q) k) in
        y.1 ∙ ap Some (sym l.digest ∙ ap sha256 (some_injective l.batch batch (sym l.is_logged ∙ logs_it q one)))

    pub committed_by_log : (s : ℕ) → is_correct_replica c s ≡ true → Committed c s (whole s) v i batch
    committed_by_log s other = go (settled s other)
      where
        enough : Reaches c v i trace s → 2 * c.faults + 1 ≤ count_below (λ q. has_digest (sha256 batch) (commit_of c s (whole s) v i q)) (replicas c)
        enough comes =
            let many : 2 * c.faults + 1 ≤ count_below (is_correct_replica c) (replicas c) = many_correct c setting in
            let more = count_mono (is_correct_replica c) (λ q. has_digest (sha256 batch) (commit_of c s (whole s) v i q)) (replicas c)
            (λ q l h. has_its_digest (sha256 batch) (commit_of c s (whole s) v i q) (commit_counts s q other h comes)) in
            omega arith

        go : Committed c s (whole s) v i batch ⊎ Reaches c v i trace s → Committed c s (whole s) v i batch
        go (inl k) = k
        go (inr comes) = record { prepared = prepared s other; commits = enough comes; own = commit_counts s s other other comes }

  -- ---- if the primary assigns it

  module _ (begins : logged c (primary c v) (history_of (primary c v) trace) v i ≡ Some batch)
      (gives : Shared c (primary c v) (PrePrepare v i batch) (history_of (primary c v) trace))
      (genuine : (q : ℕ) → is_correct_replica c q ≡ true → are_genuine c q batch ≡ true) where
    pub logs_it : (s : ℕ) → is_correct_replica c s ≡ true → logged c s (whole s) v i ≡ Some batch
    logs_it s other = go (settled s other)
      where
        go : Committed c s (whole s) v i batch ⊎ Reaches c v i trace s → logged c s (whole s) v i ≡ Some batch
        go (inl k) = k.prepared.logged
        go (inr comes) =
            let x = comes p0 from (PrePrepare v i batch) (is_batch batch) gives in
            let y = logs s (record { sender = p0; message = PrePrepare v i batch }) x (prepares_batch c s v i batch (genuine s other)) in
            let one = logged_was_offered c trace s v i y.0 safe unforged other from y.1 in
            let two = logged_was_offered c trace p0 v i batch safe unforged from from begins in
            y.1 ∙ ap Some (some_injective y.0 batch (sym one ∙ two))

    pub committed : (s : ℕ) → is_correct_replica c s ≡ true → Committed c s (whole s) v i batch
    committed s other = committed_by_log logs_it s other
