-- What a replica's past certifies at each entry of the first operation: a few facts, and what each kind of entry
-- does to them.
use Rattle.std.proofs.Common.{◌≡◌, ℕ, Bool, true, false, cond, not, ◌&&◌, ◌||◌, List, [], ◌∷◌, refl, sym, ap, ◌∙◌, subst, Option, Some, None, eqb-true, eq-eqb}
use Rattle.std.specs.Prelude.{◌==◌, option_and_then}
use Rattle.std.proofs.lemmas.Bool.{and_parts, eqb-false, ne_eqb}
use Rattle.sha2.specs.Sha256.{sha256}
use Rattle.std.specs.Bool.{then_some}
use Rattle.quorum.specs.Votes.{or_else}
use Rattle.protocol.specs.System.Configuration.{Configuration, primary, members}
use Rattle.wire_format.specs.Messages.{BodyData as Body, CheckpointEntryData as CheckpointEntry, request as Request, pre_prepare as PrePrepare, prepare as Prepare, commit as Commit, reply as Reply, fetch as Fetch, meta as Meta}
use Rattle.signing.specs.AuthenticBody.{authentic}
use Rattle.wire_format.specs.Words.{said}
use Rattle.wire.proofs.Skipping.{none_chosen}
use Rattle.protocol.specs.System.Trace.{Entry}
use Rattle.protocol.specs.System.Trace.Entry.{Got, Executed, Sent}
use Rattle.protocol.specs.Replica.Certificates.{brought, low, is_active_in, is_in_marks, counts_at, are_genuine, logged, proposal, batch_from, prepare_of, prepare_from, commit_of, commit_from, vote_in, checkpoints_of, with_checkpoint, checkpoint_in}
use Rattle.evidence.specs.Examples.{four}
use Rattle.evidence.proofs.FirstBatch.{AllPlain, still}
use Rattle.protocol.proofs.Words.Options.{or_else_alone}
use Rattle.protocol.proofs.Words.Plain.{Plain, IsPlain, heard_plain, said_plain, plain_proposal}

-- the one place that is used: number 1 in view 0
abbrev pub here : ℕ → ℕ → Bool
here v i = (v == 0) && (i == 1)

abbrev pub none : ℕ → Bool
none s = false

-- these replicas and one more
abbrev pub and_of : (ℕ → Bool) → ℕ → ℕ → Bool
and_of p s r = p r || (r == s)

-- ---- truth values and optional texts

eq_flip : (a b : ℕ) → (a == b) ≡ (b == a)
eq_flip a b = go (b == a) refl
  where
    go : (x : Bool) → (b == a) ≡ x → (a == b) ≡ x
    go true e = eq-eqb a b (sym (eqb-true b a e))
    go false e = ne_eqb a b (λ same. eqb-false b a e (sym same))

pub only_here : (v i : ℕ) → here v i ≡ true → (v ≡ 0) × (i ≡ 1)
only_here v i h = let p = and_parts (v == 0) (i == 1) h in (eqb-true v 0 p.0, eqb-true i 1 p.1)

one_more : (h a b : Bool) (d : List ℕ) → or_else (then_some (h && a) d) (then_some (h && b) d) ≡ then_some (h && (a || b)) d
one_more true true b d = refl
one_more true false b d = refl
one_more false a b d = refl

-- a value that is given only if it counts needs no test whether it counts
counted : (n b : Bool) (d : List ℕ) → (b ≡ true → n ≡ true) → cond n (then_some b d) None ≡ then_some b d
counted true b d h = refl
counted false false d h = refl
counted false true d h = let bad : false ≡ true = h refl in absurd cc

-- a vote's tests in either order
ordered_tests : (a b t q : Bool) (d : List ℕ) → (a ≡ true → b ≡ true → q ≡ true) → then_some (a && b && t && q) d ≡ then_some ((b && t) && a) d
ordered_tests true true true true d h = refl
ordered_tests true true true false d h = let bad : false ≡ true = h refl refl in absurd cc
ordered_tests true true false q d h = refl
ordered_tests true false t q d h = refl
ordered_tests false true true q d h = refl
ordered_tests false true false q d h = refl
ordered_tests false false t q d h = refl

three_tests : (a b t : Bool) (d : List ℕ) → then_some (a && b && t) d ≡ then_some ((b && t) && a) d
three_tests true true true d = refl
three_tests true true false d = refl
three_tests true false t d = refl
three_tests false true true d = refl
three_tests false true false d = refl
three_tests false false t d = refl

four_tests : (b t q g : Bool) (d : List ℕ) → (b ≡ true → q ≡ true) → g ≡ true → then_some (b && t && q && g) d ≡ then_some ((b && t) && true) d
four_tests true true true true d h k = refl
four_tests true true false g d h k = let bad : false ≡ true = h refl in absurd cc
four_tests true false q g d h k = refl
four_tests false t q g d h k = refl
four_tests b t q false d h k = absurd cc

module _ (clients : ℕ) (seed batch : List ℕ) (me : ℕ) where
  abbrev c : Configuration
  c = four clients seed

  -- Whether the batch is logged, and whose prepares and commits count for it. Nothing else is logged, assigned by a new
  -- view, changed or stable.
  pub record Stage (past : List Entry) (l : Bool) (p k : ℕ → Bool) : Type 0 where
    pub plain : AllPlain c past
    pub checkpoints_are : (s : ℕ) → checkpoints_of c past s ≡ []
    pub logged_is : (v i : ℕ) → logged c me past v i ≡ then_some (here v i && l) batch
    pub prepare_is : (v i s : ℕ) → prepare_of c me past v i s ≡ then_some (here v i && p s) (sha256 batch)
    pub commit_is : (v i s : ℕ) → commit_of c me past v i s ≡ then_some (here v i && k s) (sha256 batch)

  -- an entry that brings an ordering message, a request or a reply, which counts at the one place
  pub record Brings (past : List Entry) (e : Entry) (body : Body) : Type 0 where
    pub plain : Plain c past e
    pub brings : brought c e ≡ Some body
    pub counts : (v i : ℕ) → here v i ≡ true → counts_at c me past e v i ≡ true

  pub active_here : (past : List Entry) → AllPlain c past → (v i : ℕ) → here v i ≡ true → (is_active_in c past v && is_in_marks c (low c me past) i) ≡ true
  active_here past q v i h =
      let s = still c me past q in
      let w = only_here v i h in
      subst (λ (x : ℕ). (is_active_in c past x && is_in_marks c (low c me past) i) ≡ true) (sym w.0)
      (subst (λ (x : ℕ). (is_active_in c past 0 && is_in_marks c (low c me past) x) ≡ true) (sym w.1) (rw (s.view_is, s.target_is, s.low_is) refl))

  pub got : (past : List Entry) (bytes : List ℕ) (body : Body) → AllPlain c past → authentic (members c me) me bytes ≡ Some body → IsPlain body.message → Brings past (Got me bytes) body
  got past bytes body q h o = record { plain = heard_plain c past me bytes body h o; brings = h; counts = active_here past q }

  pub sent : (past : List Entry) (bytes : List ℕ) (body : Body) → said bytes ≡ Some body → IsPlain body.message → Brings past (Sent me bytes) body
  sent past bytes body h o = record { plain = said_plain c past me bytes body h o; brings = h; counts = λ v i t. refl }

  -- ---- what an entry gives

  pub gives : (past : List Entry) (e : Entry) (body : Body) → Brings past e body → (v i : ℕ) (vote : Body → Option (List ℕ)) (q : Bool) (d : List ℕ)
      → vote body ≡ then_some (here v i && q) d → vote_in c me past e vote v i ≡ then_some (here v i && q) d
  gives past e body x v i vote q d h =
      ap (λ (o : Option Body). cond (counts_at c me past e v i) (option_and_then vote o) None) x.brings
      ∙ ap (λ (o : Option (List ℕ)). cond (counts_at c me past e v i) o None) h
      ∙ counted (counts_at c me past e v i) (here v i && q) d (λ t. x.counts v i (and_parts (here v i) q t).0)

  gives_none : (past : List Entry) (e : Entry) (body : Body) → Brings past e body → (v i : ℕ) (vote : Body → Option (List ℕ)) → vote body ≡ None → vote_in c me past e vote v i ≡ None
  gives_none past e body x v i vote h =
      none_chosen (counts_at c me past e v i) (option_and_then vote (brought c e)) (ap (option_and_then vote) x.brings ∙ h)

  -- ---- the facts after an entry

  log_next : (past : List Entry) (e : Entry) (v i : ℕ) → logged c me (e ∷ past) v i ≡ or_else (logged c me past v i) (proposal c me past e v i)
  unfolding logged
  log_next past e v i = refl

  prepare_next : (past : List Entry) (e : Entry) (v i s : ℕ) → prepare_of c me (e ∷ past) v i s ≡ or_else (prepare_of c me past v i s) (vote_in c me past e (prepare_from c s v i) v i)
  unfolding prepare_of
  prepare_next past e v i s = refl

  commit_next : (past : List Entry) (e : Entry) (v i s : ℕ) → commit_of c me (e ∷ past) v i s ≡ or_else (commit_of c me past v i s) (vote_in c me past e (commit_from s v i) v i)
  unfolding commit_of
  commit_next past e v i s = refl

  checkpoints_next : (past : List Entry) (e : Entry) (s : ℕ) → checkpoints_of c (e ∷ past) s ≡ with_checkpoint s (checkpoint_in c e) (checkpoints_of c past s)
  unfolding checkpoints_of
  checkpoints_next past e s = refl

  pub first_stage : Stage [] false none none
  unfolding logged prepare_of commit_of checkpoints_of
  first_stage = record { plain = tt; checkpoints_are = λ s. refl; logged_is = λ v i. sym (never (here v i) batch); prepare_is = λ v i s. sym (never (here v i) (sha256 batch)); commit_is = λ v i s. sym (never (here v i) (sha256 batch)) }
    where
      never : (b : Bool) (d : List ℕ) → then_some (b && false) d ≡ None
      never true d = refl
      never false d = refl

  carry : (past : List Entry) (e : Entry) (l l' : Bool) (p p' k k' : ℕ → Bool) → Stage past l p k → Plain c past e
      → ((v i : ℕ) → or_else (then_some (here v i && l) batch) (vote_in c me past e (batch_from c me v i) v i) ≡ then_some (here v i && l') batch)
      → ((v i s : ℕ) → or_else (then_some (here v i && p s) (sha256 batch)) (vote_in c me past e (prepare_from c s v i) v i) ≡ then_some (here v i && p' s) (sha256 batch))
      → ((v i s : ℕ) → or_else (then_some (here v i && k s) (sha256 batch)) (vote_in c me past e (commit_from s v i) v i) ≡ then_some (here v i && k' s) (sha256 batch))
      → Stage (e ∷ past) l' p' k'
  carry past e l l' p p' k k' st q logs prepares commits = record {
    plain = (q, st.plain);
    checkpoints_are = λ s. checkpoints_next past e s ∙ ap (λ (o : Option (ℕ × CheckpointEntry)). with_checkpoint s o (checkpoints_of c past s)) q.checkpoint ∙ st.checkpoints_are s;
    logged_is = λ v i.
        log_next past e v i ∙ ap (λ (o : Option (List ℕ)). or_else o (proposal c me past e v i)) (st.logged_is v i)
        ∙ ap (or_else (then_some (here v i && l) batch)) (plain_proposal c me past e v i q) ∙ logs v i;
    prepare_is = λ v i s.
        prepare_next past e v i s ∙ ap (λ (o : Option (List ℕ)). or_else o (vote_in c me past e (prepare_from c s v i) v i)) (st.prepare_is v i s) ∙ prepares v i s;
    commit_is = λ v i s.
        commit_next past e v i s ∙ ap (λ (o : Option (List ℕ)). or_else o (vote_in c me past e (commit_from s v i) v i)) (st.commit_is v i s) ∙ commits v i s;
  }

  -- an execution says nothing
  pub stage_executed : (past : List Entry) (r n : ℕ) (b : List ℕ) (l : Bool) (p k : ℕ → Bool) → Stage past l p k → Stage (Executed r n b ∷ past) l p k
  stage_executed past r n b l p k st =
      carry past (Executed r n b) l l p p k k st (record { view = refl; change = refl; checkpoint = refl; installed = refl })
      (λ v i. or_else_alone (then_some (here v i && l) batch) None refl) (λ v i s. or_else_alone (then_some (here v i && p s) (sha256 batch)) None refl) (λ v i s. or_else_alone (then_some (here v i && k s) (sha256 batch)) None refl)

  -- nor does a request or a reply
  pub stage_request : (past : List Entry) (e : Entry) (sender t : ℕ) (mode : _) (op : _) (l : Bool) (p k : ℕ → Bool) → Stage past l p k
      → Brings past e (record { sender = sender; message = Request t mode op }) → Stage (e ∷ past) l p k
  stage_request past e sender t mode op l p k st x =
      let body : Body = record { sender = sender; message = Request t mode op } in
      carry past e l l p p k k st x.plain
      (λ v i. or_else_alone (then_some (here v i && l) batch) (vote_in c me past e (batch_from c me v i) v i) (gives_none past e body x v i (batch_from c me v i) refl))
      (λ v i s. or_else_alone (then_some (here v i && p s) (sha256 batch)) (vote_in c me past e (prepare_from c s v i) v i) (gives_none past e body x v i (prepare_from c s v i) refl))
      (λ v i s. or_else_alone (then_some (here v i && k s) (sha256 batch)) (vote_in c me past e (commit_from s v i) v i) (gives_none past e body x v i (commit_from s v i) refl))

  pub stage_reply : (past : List Entry) (e : Entry) (sender client t number : ℕ) (mode : _) (answer : _) (l : Bool) (p k : ℕ → Bool) → Stage past l p k
      → Brings past e (record { sender = sender; message = Reply client t mode number answer }) → Stage (e ∷ past) l p k
  stage_reply past e sender client t number mode answer l p k st x =
      let body : Body = record { sender = sender; message = Reply client t mode number answer } in
      carry past e l l p p k k st x.plain
      (λ v i. or_else_alone (then_some (here v i && l) batch) (vote_in c me past e (batch_from c me v i) v i) (gives_none past e body x v i (batch_from c me v i) refl))
      (λ v i s. or_else_alone (then_some (here v i && p s) (sha256 batch)) (vote_in c me past e (prepare_from c s v i) v i) (gives_none past e body x v i (prepare_from c s v i) refl))
      (λ v i s. or_else_alone (then_some (here v i && k s) (sha256 batch)) (vote_in c me past e (commit_from s v i) v i) (gives_none past e body x v i (commit_from s v i) refl))

  -- nor does a fetch, or digests
  pub stage_fetch : (past : List Entry) (e : Entry) (sender number index : ℕ) (level : _) (l : Bool) (p k : ℕ → Bool) → Stage past l p k
      → Brings past e (record { sender = sender; message = Fetch number level index }) → Stage (e ∷ past) l p k
  stage_fetch past e sender number index level l p k st x =
      let body : Body = record { sender = sender; message = Fetch number level index } in
      carry past e l l p p k k st x.plain
      (λ v i. or_else_alone (then_some (here v i && l) batch) (vote_in c me past e (batch_from c me v i) v i) (gives_none past e body x v i (batch_from c me v i) refl))
      (λ v i s. or_else_alone (then_some (here v i && p s) (sha256 batch)) (vote_in c me past e (prepare_from c s v i) v i) (gives_none past e body x v i (prepare_from c s v i) refl))
      (λ v i s. or_else_alone (then_some (here v i && k s) (sha256 batch)) (vote_in c me past e (commit_from s v i) v i) (gives_none past e body x v i (commit_from s v i) refl))

  pub stage_meta : (past : List Entry) (e : Entry) (sender number index : ℕ) (level : _) (digests : _) (l : Bool) (p k : ℕ → Bool) → Stage past l p k
      → Brings past e (record { sender = sender; message = Meta number level index digests }) → Stage (e ∷ past) l p k
  stage_meta past e sender number index level digests l p k st x =
      let body : Body = record { sender = sender; message = Meta number level index digests } in
      carry past e l l p p k k st x.plain
      (λ v i. or_else_alone (then_some (here v i && l) batch) (vote_in c me past e (batch_from c me v i) v i) (gives_none past e body x v i (batch_from c me v i) refl))
      (λ v i s. or_else_alone (then_some (here v i && p s) (sha256 batch)) (vote_in c me past e (prepare_from c s v i) v i) (gives_none past e body x v i (prepare_from c s v i) refl))
      (λ v i s. or_else_alone (then_some (here v i && k s) (sha256 batch)) (vote_in c me past e (commit_from s v i) v i) (gives_none past e body x v i (commit_from s v i) refl))

  -- the primary's pre-prepare logs the batch
  pub batch_given : are_genuine c me batch ≡ true → (v i : ℕ) → batch_from c me v i (record { sender = 0; message = PrePrepare 0 1 batch }) ≡ then_some (here v i && true) batch
  batch_given genuine v i =
      ap (λ (b : Bool). then_some (b && (1 == i) && (0 == primary c v) && are_genuine c me batch) batch) (eq_flip 0 v)
      ∙ ap (λ (b : Bool). then_some ((v == 0) && b && (0 == primary c v) && are_genuine c me batch) batch) (eq_flip 1 i)
      ∙ four_tests (v == 0) (i == 1) (0 == primary c v) (are_genuine c me batch) batch (λ t. ap (λ (x : ℕ). 0 == primary c x) (eqb-true v 0 t)) genuine

  pub stage_pre_prepare : (past : List Entry) (e : Entry) (p k : ℕ → Bool) → are_genuine c me batch ≡ true → Stage past false p k
      → Brings past e (record { sender = 0; message = PrePrepare 0 1 batch }) → Stage (e ∷ past) true p k
  stage_pre_prepare past e p k genuine st x =
      let body : Body = record { sender = 0; message = PrePrepare 0 1 batch } in
      carry past e false true p p k k st x.plain
      (λ v i. ap (or_else (then_some (here v i && false) batch)) (gives past e body x v i (batch_from c me v i) true batch (batch_given genuine v i)) ∙ one_more (here v i) false true batch)
      (λ v i s. or_else_alone (then_some (here v i && p s) (sha256 batch)) (vote_in c me past e (prepare_from c s v i) v i) (gives_none past e body x v i (prepare_from c s v i) refl))
      (λ v i s. or_else_alone (then_some (here v i && k s) (sha256 batch)) (vote_in c me past e (commit_from s v i) v i) (gives_none past e body x v i (commit_from s v i) refl))

  -- a backup's prepare counts as its
  pub prepare_given : (r : ℕ) → not (r == 0) ≡ true → (v i s : ℕ) → prepare_from c s v i (record { sender = r; message = Prepare 0 1 (sha256 batch) }) ≡ then_some (here v i && (s == r)) (sha256 batch)
  prepare_given r backup v i s =
      ap (λ (b : Bool). then_some (b && (0 == v) && (1 == i) && not (s == primary c v)) (sha256 batch)) (eq_flip r s)
      ∙ ap (λ (b : Bool). then_some ((s == r) && b && (1 == i) && not (s == primary c v)) (sha256 batch)) (eq_flip 0 v)
      ∙ ap (λ (b : Bool). then_some ((s == r) && (v == 0) && b && not (s == primary c v)) (sha256 batch)) (eq_flip 1 i)
      ∙ ordered_tests (s == r) (v == 0) (i == 1) (not (s == primary c v)) (sha256 batch)
      (λ t u. ap (λ (x : ℕ). not (x == primary c v)) (eqb-true s r t) ∙ ap (λ (x : ℕ). not (r == primary c x)) (eqb-true v 0 u) ∙ backup)

  pub stage_prepare : (past : List Entry) (e : Entry) (r : ℕ) (l : Bool) (p k : ℕ → Bool) → not (r == 0) ≡ true → Stage past l p k
      → Brings past e (record { sender = r; message = Prepare 0 1 (sha256 batch) }) → Stage (e ∷ past) l (and_of p r) k
  stage_prepare past e r l p k backup st x =
      let body : Body = record { sender = r; message = Prepare 0 1 (sha256 batch) } in
      carry past e l l p (and_of p r) k k st x.plain
      (λ v i. or_else_alone (then_some (here v i && l) batch) (vote_in c me past e (batch_from c me v i) v i) (gives_none past e body x v i (batch_from c me v i) refl))
      (λ v i s. ap (or_else (then_some (here v i && p s) (sha256 batch))) (gives past e body x v i (prepare_from c s v i) (s == r) (sha256 batch) (prepare_given r backup v i s)) ∙ one_more (here v i) (p s) (s == r) (sha256 batch))
      (λ v i s. or_else_alone (then_some (here v i && k s) (sha256 batch)) (vote_in c me past e (commit_from s v i) v i) (gives_none past e body x v i (commit_from s v i) refl))

  pub commit_given : (r v i s : ℕ) → commit_from s v i (record { sender = r; message = Commit 0 1 (sha256 batch) }) ≡ then_some (here v i && (s == r)) (sha256 batch)
  commit_given r v i s =
      ap (λ (b : Bool). then_some (b && (0 == v) && (1 == i)) (sha256 batch)) (eq_flip r s)
      ∙ ap (λ (b : Bool). then_some ((s == r) && b && (1 == i)) (sha256 batch)) (eq_flip 0 v)
      ∙ ap (λ (b : Bool). then_some ((s == r) && (v == 0) && b) (sha256 batch)) (eq_flip 1 i)
      ∙ three_tests (s == r) (v == 0) (i == 1) (sha256 batch)

  pub stage_commit : (past : List Entry) (e : Entry) (r : ℕ) (l : Bool) (p k : ℕ → Bool) → Stage past l p k
      → Brings past e (record { sender = r; message = Commit 0 1 (sha256 batch) }) → Stage (e ∷ past) l p (and_of k r)
  stage_commit past e r l p k st x =
      let body : Body = record { sender = r; message = Commit 0 1 (sha256 batch) } in
      carry past e l l p p k (and_of k r) st x.plain
      (λ v i. or_else_alone (then_some (here v i && l) batch) (vote_in c me past e (batch_from c me v i) v i) (gives_none past e body x v i (batch_from c me v i) refl))
      (λ v i s. or_else_alone (then_some (here v i && p s) (sha256 batch)) (vote_in c me past e (prepare_from c s v i) v i) (gives_none past e body x v i (prepare_from c s v i) refl))
      (λ v i s. ap (or_else (then_some (here v i && k s) (sha256 batch))) (gives past e body x v i (commit_from s v i) (s == r) (sha256 batch) (commit_given r v i s)) ∙ one_more (here v i) (k s) (s == r) (sha256 batch))
