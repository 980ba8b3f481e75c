-- What a replica owes at an input of the first operation, from the facts before and after the event.
use Rattle.std.proofs.Common.{◌≡◌, ◌≢◌, ℕ, suc, ◌+◌, ◌≤◌, ◌⊎◌, inl, inr, Bool, true, false, ◌&&◌, List, [], ◌∷◌, refl, sym, ap, ◌∙◌, subst, arith, Some, None, eqb-true}
use Rattle.std.specs.Prelude.{◌==◌, ◌%◌, nat_le, ⊤}
use Rattle.std.proofs.lemmas.Bool.{and_parts, leb-true, le-leb, false_from_ne_true}
use Rattle.sha2.specs.Sha256.{sha256}
use Rattle.quorum.specs.Quorum.{count_below}
use Rattle.std.specs.Bool.{then_some}
use Rattle.quorum.specs.Votes.{has_digest}
use Rattle.protocol.specs.System.Configuration.{Configuration, primary, members}
use Rattle.terms.specs.declared.order.Mode.TheVariants as modes
use Rattle.terms.specs.declared.state.Level.TheVariants as levels
use Rattle.wire_format.specs.Messages.{BodyData as Body, MessageData as Message, CheckpointEntryData as CheckpointEntry, request as Request, pre_prepare as PrePrepare, prepare as Prepare, commit as Commit, fetch as Fetch, meta as Meta, page as Page, view_change as ViewChange}
use Rattle.signing.specs.AuthenticBody.{authentic}
use Rattle.protocol.specs.System.Trace.{Entry, Has}
use Rattle.protocol.specs.System.Trace.Entry.{Got}
use Rattle.protocol.specs.Replica.Certificates.{view, target, is_active_in, logged, prepare_of, commit_of, checkpoints_of, lists_checkpoint, count_checkpoints, Prepared, Committed}
use Rattle.protocol.specs.Replica.State.{State, Call, Ran, opening, kept_of}
use Rattle.protocol.specs.Replica.RightReplica.{Point, reply_of, Executes}
use Rattle.protocol.specs.Replica.Owed.{SendsMessage, AtOutputs, IsNumbered, NumbersOnce, IsDropped, Owes}
use Rattle.protocol.specs.Replica.Selection.{is_quorum}
use Rattle.evidence.specs.Examples.{four}
use Rattle.protocol.proofs.Words.Moving.{no_reason}
use Rattle.protocol.proofs.Words.Starts.{starts_low}
use Rattle.evidence.proofs.FirstBatch.{still, same_digest}
use Rattle.evidence.proofs.FirstReplicasStages.{here, only_here, Stage}
use Rattle.protocol.proofs.Words.Options.{some_injective, then_some_gives}
use Rattle.protocol.proofs.Words.Leaving.{none_kept}
use Rattle.quorum.proofs.Counting.{count_same}

digest_if : (b : Bool) (d : List ℕ) → has_digest d (then_some b d) ≡ b
digest_if true d = same_digest d
digest_if false d = refl

-- the batch is logged, and two backups prepared it
abbrev pub ready : Bool → (ℕ → Bool) → Bool
ready l p = l && nat_le 2 (count_below p 4)

-- three replicas committed it
abbrev pub full : (ℕ → Bool) → Bool
full k = nat_le 3 (count_below k 4)

-- messages to which nothing is answered: no read, no fetch, and a request only before anything is executed
abbrev pub IsUnanswered : Point → Message → Type 0
IsUnanswered old message = elim message [ Request t mode op ↦ (mode ≡ modes.Ordered) × (old.state ≡ opening) × (old.waiting ≡ []) | PrePrepare v i b ↦ ⊤ | Prepare v i digest ↦ ⊤ | Commit v i digest ↦ ⊤ | _ ↦ ⊥ ]

module _ (clients : ℕ) (seed batch : List ℕ) (me : ℕ) where
  abbrev c : Configuration
  c = four clients seed

  abbrev At : List Entry → Bool → (ℕ → Bool) → (ℕ → Bool) → Type 0
  At past l p k = Stage clients seed batch me past l p k

  -- ---- certificates

  pub record IsIt (v i : ℕ) (b : List ℕ) : Type 0 where
    pub view_is : v ≡ 0
    pub number_is : i ≡ 1
    pub batch_is : b ≡ batch

  pub logs_it : (past : List Entry) (l : Bool) (p k : ℕ → Bool) → At past l p k → (v i : ℕ) (b : List ℕ) → logged c me past v i ≡ Some b → IsIt v i b × (l ≡ true)
  logs_it past l p k st v i b h =
      let g = then_some_gives (here v i && l) batch b (sym (st.logged_is v i) ∙ h) in
      let t = and_parts (here v i) l g.0 in
      let w = only_here v i t.0 in
      (record { view_is = w.0; number_is = w.1; batch_is = sym g.1 }, t.1)

  pub prepared_here : (past : List Entry) (p k : ℕ → Bool) → At past true p k → nat_le 2 (count_below p 4) ≡ true → Prepared c me past 0 1 batch
  prepared_here past p k st h = record {
    logged = st.logged_is 0 1;
    backups =
        let same = count_same (λ s. has_digest (sha256 batch) (prepare_of c me past 0 1 s)) p (λ s. ap (has_digest (sha256 batch)) (st.prepare_is 0 1 s) ∙ digest_if (p s) (sha256 batch)) 4 in
        subst (λ (n : ℕ). 2 ≤ n) (sym same) (leb-true 2 (count_below p 4) h);
  }

  pub prepared_ready : (past : List Entry) (l : Bool) (p k : ℕ → Bool) → At past l p k → ready l p ≡ true → Prepared c me past 0 1 batch
  prepared_ready past true p k st h = prepared_here past p k st h
  prepared_ready past false p k st h = absurd cc

  pub is_prepared : (past : List Entry) (l : Bool) (p k : ℕ → Bool) → At past l p k → (v i : ℕ) (b : List ℕ) → Prepared c me past v i b → IsIt v i b × (ready l p ≡ true)
  is_prepared past l p k st v i b h = (it.0, ap (λ (x : Bool). x && nat_le 2 (count_below p 4)) it.1 ∙ le-leb 2 (count_below p 4) enough)
    where
      it : IsIt v i b × (l ≡ true)
      it = logs_it past l p k st v i b h.logged

      each : (s : ℕ) → has_digest (sha256 b) (prepare_of c me past v i s) ≡ p s
      each s =
          ap (λ (x : List ℕ). has_digest (sha256 x) (prepare_of c me past v i s)) it.0.batch_is
          ∙ ap (λ (x : ℕ). has_digest (sha256 batch) (prepare_of c me past x i s)) it.0.view_is
          ∙ ap (λ (x : ℕ). has_digest (sha256 batch) (prepare_of c me past 0 x s)) it.0.number_is
          ∙ ap (has_digest (sha256 batch)) (st.prepare_is 0 1 s) ∙ digest_if (p s) (sha256 batch)

      enough : 2 ≤ count_below p 4
      enough = subst (λ (n : ℕ). 2 ≤ n) (count_same (λ s. has_digest (sha256 b) (prepare_of c me past v i s)) p each 4) h.backups

  pub is_committed : (past : List Entry) (l : Bool) (p k : ℕ → Bool) → At past l p k → (v i : ℕ) (b : List ℕ) → Committed c me past v i b → IsIt v i b × (full k ≡ true)
  is_committed past l p k st v i b h = (it, le-leb 3 (count_below k 4) enough)
    where
      it : IsIt v i b
      it = (is_prepared past l p k st v i b h.prepared).0

      each : (s : ℕ) → has_digest (sha256 b) (commit_of c me past v i s) ≡ k s
      each s =
          ap (λ (x : List ℕ). has_digest (sha256 x) (commit_of c me past v i s)) it.batch_is
          ∙ ap (λ (x : ℕ). has_digest (sha256 batch) (commit_of c me past x i s)) it.view_is
          ∙ ap (λ (x : ℕ). has_digest (sha256 batch) (commit_of c me past 0 x s)) it.number_is
          ∙ ap (has_digest (sha256 batch)) (st.commit_is 0 1 s) ∙ digest_if (k s) (sha256 batch)

      enough : 3 ≤ count_below k 4
      enough = subst (λ (n : ℕ). 3 ≤ n) (count_same (λ s. has_digest (sha256 b) (commit_of c me past v i s)) k each 4) h.commits

  pub committed_full : (past : List Entry) (l : Bool) (p k : ℕ → Bool) → At past l p k → ready l p ≡ true → full k ≡ true → k me ≡ true → Committed c me past 0 1 batch
  committed_full past l p k st r f own = record {
    prepared = prepared_ready past l p k st r;
    commits =
        let same = count_same (λ s. has_digest (sha256 batch) (commit_of c me past 0 1 s)) k (λ s. ap (has_digest (sha256 batch)) (st.commit_is 0 1 s) ∙ digest_if (k s) (sha256 batch)) 4 in
        subst (λ (n : ℕ). 3 ≤ n) (sym same) (leb-true 3 (count_below k 4) f);
    own = st.commit_is 0 1 me ∙ ap (λ (b : Bool). then_some b (sha256 batch)) own;
  }

  active_zero : (past : List Entry) (l : Bool) (p k : ℕ → Bool) → At past l p k → (v : ℕ) → is_active_in c past v ≡ true → v ≡ 0
  active_zero past l p k st v h =
      sym (eqb-true (view c past) v (and_parts (view c past == v) (nat_le (target past) v) h).0) ∙ (still c me past st.plain).view_is

  no_checkpoints : (past : List Entry) (l : Bool) (p k : ℕ → Bool) → At past l p k → (checkpoint : CheckpointEntry) → is_quorum c (count_checkpoints c past checkpoint) ≡ true → ⊥
  no_checkpoints past l p k st checkpoint h =
      let same : count_checkpoints c past checkpoint ≡ 0 = count_same (λ s. lists_checkpoint checkpoint (checkpoints_of c past s)) (λ s. false) (λ s. ap (lists_checkpoint checkpoint) (st.checkpoints_are s)) 4 in
      absurd (let worse : false ≡ true = subst (λ (n : ℕ). is_quorum c n ≡ true) same h in cc)

  -- ---- an event

  -- The proof obligations of an event. l and l' say whether the batch is logged before and after the event.
  -- p and p' say who prepared the batch at these times. k' says who committed the batch after the event.
  pub record Due (before : List Entry) (bytes : List ℕ) (outputs now : List Entry) (old new : Point) (l l' : Bool) (p p' k' : ℕ → Bool) : Type 0 where
    pub body : Body
    pub receives : authentic (members c me) me bytes ≡ Some body
    pub unanswered : IsUnanswered old body.message
    pub numbers : me ≡ 0 → (call : Call) → Has (λ x. x ≡ call) new.waiting → IsNumbered c me now 0 call.client call.timestamp
    pub numbers_once : AtOutputs (NumbersOnce c me) (Got me bytes ∷ before) outputs
    pub prepares : l ≡ false → l' ≡ true → me ≢ 0 → SendsMessage me (Prepare 0 1 (sha256 batch)) outputs
    pub commits : ready l p ≡ false → ready l' p' ≡ true → SendsMessage me (Commit 0 1 (sha256 batch)) outputs
    pub executes : (new.state.number ≡ 1) ⊎ (full k' ≡ false)
    pub replies : (ran : Ran) → Has (λ x. x ≡ ran) new.ran → SendsMessage me (reply_of ran.call.client ran.kept) outputs
    pub checkpoints : (n : ℕ) → Has (λ e. Executes n [] e) outputs → n ≡ 1
    pub dropped : IsDropped c me before old bytes → outputs ≡ []

  heard_is : (bytes : List ℕ) (body other : Body) → authentic (members c me) me bytes ≡ Some body → authentic (members c me) me bytes ≡ Some other → body ≡ other
  heard_is bytes body other h k = some_injective body other (sym h ∙ k)

  pub owes : (before : List Entry) (bytes : List ℕ) (outputs now : List Entry) (old new : Point) (l l' : Bool) (p p' k k' : ℕ → Bool)
      → At before l p k → At now l' p' k' → Due before bytes outputs now old new l l' p p' k' → Owes c me before (Got me bytes) outputs now old new
  owes before bytes outputs now old new l l' p p' k k' was st due = record {
    numbers = λ v i call active is_primary waits free.
        let z = active_zero now l' p' k' st v active in
        let own : me ≡ 0 = sym is_primary ∙ ap (primary c) z in
        subst (λ (x : ℕ). IsNumbered c me now x call.client call.timestamp) (sym z) (due.numbers own call waits);
    numbers_once = due.numbers_once;
    prepares = λ v i b none some active backup.
        let it = logs_it now l' p' k' st v i b some in
        let other : me ≢ 0 = λ own. backup (ap (primary c) it.0.view_is ∙ sym own) in
        at_it (λ x y z. SendsMessage me (Prepare x y (sha256 z)) outputs) v i b it.0 (due.prepares (unlogged l (none_there v i b it.0 none)) it.1 other);
    commits = λ v i b none some active.
        let it = is_prepared now l' p' k' st v i b some in
        at_it (λ x y z. SendsMessage me (Commit x y (sha256 z)) outputs) v i b it.0
        (due.commits (false_from_ne_true (ready l p) (λ h. none (at_it (λ x y z. Prepared c me before x y z) v i b it.0 (prepared_ready before l p k was h)))) it.1);
    executes = λ v b h. nothing_next due.executes v b h;
    replies = due.replies;
    checkpoints = λ n ran multiple. let one = due.checkpoints n ran in absurd (let bad : 1 % 16 ≡ 0 = subst (λ (x : ℕ). x % 16 ≡ 0) one multiple in cc);
    again = λ n t op kept asks is same.
        let u = subst (λ (x : Body). IsUnanswered old x.message) (heard_is bytes due.body (record { sender = 256 + n; message = Request t modes.Ordered op }) due.receives asks) due.unanswered in
        absurd (let none : None ≡ Some kept = sym (none_kept n) ∙ subst (λ (s : State). kept_of s n ≡ Some kept) u.1 is in cc);
    says_again = λ r.
        let u = subst (λ (x : Body). IsUnanswered old x.message) (heard_is bytes due.body (record { sender = 256 + r.0.client; message = Request r.0.timestamp modes.Ordered r.0.op }) due.receives r.2) due.unanswered in
        absurd (subst (λ (calls : List Call). Has (λ x. x ≡ r.0) calls) u.2 r.1);
    reads = λ n t op asks is.
        let u = subst (λ (x : Body). IsUnanswered old x.message) (heard_is bytes due.body (record { sender = n; message = Request t modes.ReadOnly op }) due.receives asks) due.unanswered in
        absurd cc;
    fetched_digests = λ s n index level h asks st kept.
        absurd (subst (λ (x : Body). IsUnanswered old x.message) (heard_is bytes due.body (record { sender = s; message = Fetch n level index }) due.receives asks) due.unanswered);
    fetched_page = λ s n index asks st kept.
        absurd (subst (λ (x : Body). IsUnanswered old x.message) (heard_is bytes due.body (record { sender = s; message = Fetch n levels.Page index }) due.receives asks) due.unanswered);
    goes_on_by_digests = λ s n index level digests brings awaited.
        absurd (subst (λ (x : Body). IsUnanswered old x.message) (heard_is bytes due.body (record { sender = s; message = Meta n level index digests }) due.receives brings) due.unanswered);
    goes_on_by_page = λ s n index text brings awaited.
        absurd (subst (λ (x : Body). IsUnanswered old x.message) (heard_is bytes due.body (record { sender = s; message = Page n index text }) due.receives brings) due.unanswered);
    fetches = λ n root quorum above later. absurd (no_checkpoints now l' p' k' st (record { number = n; digest = root }) quorum);
    fetches_start = λ n starts above later. absurd (let most = starts_low c me n now starts in let low = (still c me now st.plain).low_is in omega (arith, most, low, above));
    fetches_again = λ n index level tick asked above. absurd tick;
    view_changes = λ vc other moves may within says.
        absurd (no_reason c me before bytes old.waiting vc.view (λ s x asks. subst (λ (y : Body). IsUnanswered old y.message) (heard_is bytes due.body (record { sender = s; message = ViewChange x }) due.receives asks) due.unanswered) moves);
    new_views = λ new can. absurd (let left = can.left in let sent = (still c me now st.plain).target_is in omega (arith, left, sent));
    dropped = λ other is drops. due.dropped (subst (λ (bs : List ℕ). IsDropped c me before old bs) (sym (same_bytes other is)) drops);
  }
    where
      at_it : (P : ℕ → ℕ → List ℕ → Type 0) (v i : ℕ) (b : List ℕ) → IsIt v i b → P 0 1 batch → P v i b
      at_it P v i b it h = subst (λ (x : ℕ). P x i b) (sym it.view_is) (subst (λ (x : ℕ). P 0 x b) (sym it.number_is) (subst (λ (x : List ℕ). P 0 1 x) (sym it.batch_is) h))

      none_there : (v i : ℕ) (b : List ℕ) → IsIt v i b → logged c me before v i ≡ None → then_some l batch ≡ None
      none_there v i b it h =
          sym (was.logged_is 0 1) ∙ sym (ap (logged c me before 0) it.number_is) ∙ sym (ap (λ (x : ℕ). logged c me before x i) it.view_is) ∙ h

      unlogged : (x : Bool) → then_some x batch ≡ None → x ≡ false
      unlogged true h = absurd cc
      unlogged false h = refl

      same_bytes : (other : List ℕ) → Got me bytes ≡ Got me other → bytes ≡ other
      same_bytes other is = cc

      nothing_next : (new.state.number ≡ 1) ⊎ (full k' ≡ false) → (v : ℕ) (b : List ℕ) → Committed c me now v (suc new.state.number) b → ⊥
      nothing_next (inl n) v b h = let it = is_committed now l' p' k' st v (suc new.state.number) b h in let i = it.0.number_is in absurd (omega arith)
      nothing_next (inr n) v b h = let it = is_committed now l' p' k' st v (suc new.state.number) b h in let bad : true ≡ false = sym it.1 ∙ n in absurd cc
