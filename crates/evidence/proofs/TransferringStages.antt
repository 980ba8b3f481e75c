-- What a replica's past certifies while it fetches a state: nothing is ordered, and each checkpoint is the same one of
-- number 16.
use Rattle.std.proofs.Common.{◌≡◌, ℕ, Bool, true, false, cond, ◌&&◌, ◌||◌, List, [], ◌∷◌, take, max, bytes_eq, refl, sym, ap, ◌∙◌, subst, arith, Option, Some, None, eqb-true}
use Rattle.std.specs.Prelude.{◌==◌, ◌≤◌, nat_le, option_and_then, ⊤}
use Rattle.std.specs.Option.{option_map_or}
use Rattle.std.proofs.lemmas.Bool.{and_parts, and_right}
use Rattle.std.proofs.lemmas.Slice.Eq.{bytes_eq-Decides}
use Rattle.quorum.specs.Quorum.{count_below}
use Rattle.std.specs.Bool.{then_some}
use Rattle.quorum.specs.Votes.{or_else}
use Rattle.protocol.specs.System.Configuration.{Configuration, members}
use Rattle.terms.specs.declared.state.Level.{Level}
use Rattle.wire_format.specs.Messages.{BodyData as Body, MessageData as Message, NewViewData, CheckpointEntryData as CheckpointEntry, checkpoint as Checkpoint, fetch as Fetch, meta as Meta, page as Page, pre_prepare as PrePrepare, view_change as ViewChange, new_view as NewView}
use Rattle.signing.specs.AuthenticBody.{authentic}
use Rattle.wire_format.specs.Words.{said}
use Rattle.wire.proofs.Skipping.{none_chosen}
use Rattle.protocol.specs.System.Trace.{Entry}
use Rattle.protocol.specs.System.Trace.Entry.{Got, Sent}
use Rattle.protocol.specs.Replica.Selection.{is_quorum}
use Rattle.protocol.specs.Replica.Certificates.{brought, view, target, low, new_view_in, new_view_from, change_from, change_sent, installed_at, started_at, stable_at, is_stable, taken, is_later, is_in_marks, counts_at, logged, proposal, assigned_proposal, entry_proposal, assigned_batch, batch_from, checkpoint_in, checkpoint_from, insert_checkpoint, with_checkpoint, checkpoints_of, lists_checkpoint, count_checkpoints}
use Rattle.protocol.specs.Replica.Transfers.{asked_last, place_from, fetching, fetch_sent}
use Rattle.evidence.specs.Examples.{four}
use Rattle.protocol.proofs.Agreement.Checkpoints.{checkpoints_with, no_checkpoints}
use Rattle.quorum.proofs.Counting.{count_same}

-- ---- messages of a transfer order nothing

abbrev pub IsPart : Message → Type 0
IsPart message = elim message [ Checkpoint k root ↦ ⊤ | Fetch k level index ↦ ⊤ | Meta k level index digests ↦ ⊤ | Page k index text ↦ ⊤ | _ ↦ ⊥ ]

none_begins : (c : Configuration) (sender : ℕ) (message : Message) → IsPart message → new_view_from c (record { sender = sender; message = message }) ≡ None
none_begins c sender (NewView new) h = absurd h
none_begins c sender _ h = refl

none_changes : (sender : ℕ) (message : Message) → IsPart message → change_from (record { sender = sender; message = message }) ≡ 0
none_changes sender (ViewChange change) h = absurd h
none_changes sender _ h = refl

none_proposes : (c : Configuration) (me v i sender : ℕ) (message : Message) → IsPart message → batch_from c me v i (record { sender = sender; message = message }) ≡ None
none_proposes c me v i sender (PrePrepare w k batch) h = absurd h
none_proposes c me v i sender _ h = refl

-- ---- on truth values and options

pub or_nothing : (o later : Option (List ℕ)) → o ≡ None → later ≡ None → or_else o later ≡ None
or_nothing None later h k = k
or_nothing (Some x) later h k = absurd cc

one_said : (b : Bool) → (b || false) ≡ (b && true)
one_said true = refl
one_said false = refl

none_said : (b : Bool) → false ≡ (b && false)
none_said true = refl
none_said false = refl

-- these replicas and one more
abbrev pub and_one : (ℕ → Bool) → ℕ → ℕ → Bool
and_one p r s = p s || (r == s)

module _ (clients : ℕ) (seed root : List ℕ) where
  abbrev c : Configuration
  c = four clients seed

  abbrev checkpoint : CheckpointEntry
  checkpoint = record { number = 16; digest = root }

  abbrev marks_if : Bool → List CheckpointEntry
  marks_if true = checkpoint ∷ []
  marks_if false = []

  -- Whose checkpoint there is, the place that was asked for last, and the number of the transfer. Nothing is logged or
  -- stable.
  pub record Stage (past : List Entry) (p : ℕ → Bool) (asked : Option (ℕ × (Level × ℕ))) (k : ℕ) : Type 0 where
    pub low_is : low c 0 past ≡ 0
    pub logged_is : (v i : ℕ) → logged c 0 past v i ≡ None
    pub checkpoints_are : (s : ℕ) → checkpoints_of c past s ≡ marks_if (p s)
    pub asked_is : asked_last past ≡ asked
    pub fetching_is : fetching past ≡ k
    pub target_is : target past ≡ 0

  -- an entry that brings a message of a transfer
  record Brings (e : Entry) (body : Body) : Type 0 where
    pub brings : brought c e ≡ Some body
    pub no_view : new_view_in c e ≡ None
    pub no_change : change_sent e ≡ 0
    pub installs : installed_at e ≡ 0
    pub part : IsPart body.message

  got : (bytes : List ℕ) (body : Body) → authentic (members c 0) 0 bytes ≡ Some body → IsPart body.message → Brings (Got 0 bytes) body
  got bytes body h part = record { brings = h; no_view = ap (option_and_then (new_view_from c)) h ∙ none_begins c body.sender body.message part; no_change = refl; installs = refl; part = part }

  sent : (bytes : List ℕ) (body : Body) → said bytes ≡ Some body → IsPart body.message → Brings (Sent 0 bytes) body
  sent bytes body h part = record { brings = h; no_view = ap (option_and_then (new_view_from c)) h ∙ none_begins c body.sender body.message part; no_change = ap (λ (o : Option Body). option_map_or change_from o 0) h ∙ none_changes body.sender body.message part; installs = refl; part = part }

  -- ---- from one entry to the next

  pub first_stage : Stage [] (λ s. false) None 0
  unfolding low logged
  first_stage = record { low_is = refl; logged_is = λ v i. refl; checkpoints_are = no_checkpoints c; asked_is = refl; fetching_is = refl; target_is = refl }

  low_with : (e : Entry) (past : List Entry) → low c 0 (e ∷ past) ≡ max (low c 0 past) (max (stable_at c 0 past e) (max (installed_at e) (started_at c past e)))
  unfolding low
  low_with e past = refl

  log_with : (e : Entry) (past : List Entry) (v i : ℕ) → logged c 0 (e ∷ past) v i ≡ or_else (logged c 0 past v i) (proposal c 0 past e v i)
  unfolding logged
  log_with e past v i = refl

  takes_none : (past : List Entry) (e : Entry) (body : Body) → Brings e body → taken c past e ≡ None
  takes_none past e body x = ap (option_and_then (λ (new : NewViewData). then_some (is_later (view c past) (target past) new) new)) x.no_view

  proposes_none : (past : List Entry) (e : Entry) (body : Body) → Brings e body → (v i : ℕ) → proposal c 0 past e v i ≡ None
  proposes_none past e body x v i =
      or_nothing (assigned_proposal c 0 past e v i) (entry_proposal c 0 past e v i)
      (none_chosen (is_in_marks c (low c 0 (e ∷ past)) i) (option_and_then (assigned_batch v i) (taken c past e)) (ap (option_and_then (assigned_batch v i)) (takes_none past e body x)))
      (none_chosen (counts_at c 0 past e v i) (option_and_then (batch_from c 0 v i) (brought c e)) (ap (option_and_then (batch_from c 0 v i)) x.brings ∙ none_proposes c 0 v i body.sender body.message x.part))

  -- without an own checkpoint nothing is stable
  stable_none : (past : List Entry) (e : Entry) → checkpoints_of c (e ∷ past) 0 ≡ [] → stable_at c 0 past e ≡ 0
  stable_none past e own = go (checkpoint_in c e)
    where
      unstable : (m : CheckpointEntry) → is_stable c 0 (e ∷ past) m ≡ false
      unstable m = and_right (is_quorum c (count_checkpoints c (e ∷ past) m)) (lists_checkpoint m (checkpoints_of c (e ∷ past) 0)) (ap (lists_checkpoint m) own)

      go : (o : Option (ℕ × CheckpointEntry)) → option_map_or (λ (x : ℕ × CheckpointEntry). cond (is_stable c 0 (e ∷ past) x.1) x.1.number 0) o 0 ≡ 0
      go None = refl
      go (Some x) = ap (λ (b : Bool). cond b x.1.number 0) (unstable x.1)

  next : (past : List Entry) (e : Entry) (body : Body) (p q : ℕ → Bool) (asked later : Option (ℕ × (Level × ℕ))) (k n : ℕ) → Stage past p asked k → Brings e body → q 0 ≡ false
      → ((s : ℕ) → with_checkpoint s (checkpoint_from body) (marks_if (p s)) ≡ marks_if (q s)) → asked_last (e ∷ past) ≡ later → fetching (e ∷ past) ≡ n → Stage (e ∷ past) q later n
  next past e body p q asked later k n st x own marks asks fetches = record {
    low_is =
        let grown = low_with e past in
        let was = st.low_is in
        let stable = stable_none past e (checkpoints 0 ∙ ap marks_if own) in
        let installs = x.installs in
        let started : started_at c past e ≡ 0 = ap (λ (o : Option NewViewData). option_map_or (λ (new : NewViewData). new.start) o 0) (takes_none past e body x) in
        omega arith;
    logged_is = λ v i. log_with e past v i ∙ or_nothing (logged c 0 past v i) (proposal c 0 past e v i) (st.logged_is v i) (proposes_none past e body x v i);
    checkpoints_are = checkpoints;
    asked_is = asks;
    fetching_is = fetches;
    target_is = let was = st.target_is in let none = x.no_change in omega arith;
  }
    where
      checkpoints : (s : ℕ) → checkpoints_of c (e ∷ past) s ≡ marks_if (q s)
      checkpoints s =
          checkpoints_with c e past s
          ∙ ap (λ (o : Option Body). with_checkpoint s (option_and_then checkpoint_from o) (checkpoints_of c past s)) x.brings
          ∙ ap (with_checkpoint s (checkpoint_from body)) (st.checkpoints_are s)
          ∙ marks s

  -- a checkpoint of another counts as its
  pub stage_checkpoint : (past : List Entry) (bytes : List ℕ) (r : ℕ) (p : ℕ → Bool) (asked : Option (ℕ × (Level × ℕ))) (k : ℕ) → Stage past p asked k → and_one p r 0 ≡ false
      → authentic (members c 0) 0 bytes ≡ Some (record { sender = r; message = Checkpoint 16 root }) → Stage (Got 0 bytes ∷ past) (and_one p r) asked k
  stage_checkpoint past bytes r p asked k st own h =
      let body : Body = record { sender = r; message = Checkpoint 16 root } in
      next past (Got 0 bytes) body p (and_one p r) asked asked k k st (got bytes body h tt) own (λ s. one_more (p s) (r == s)) st.asked_is (let was = st.fetching_is in omega arith)
    where
      one_more : (a b : Bool) → cond b (take 3 (insert_checkpoint checkpoint (marks_if a))) (marks_if a) ≡ marks_if (a || b)
      one_more true true = refl
      one_more true false = refl
      one_more false true = refl
      one_more false false = refl

  -- a received part leaves the stage as it is
  pub stage_meta : (past : List Entry) (bytes : List ℕ) (sender number index : ℕ) (level : Level) (digests : List (List ℕ)) (p : ℕ → Bool) (asked : Option (ℕ × (Level × ℕ))) (k : ℕ)
      → Stage past p asked k → p 0 ≡ false → authentic (members c 0) 0 bytes ≡ Some (record { sender = sender; message = Meta number level index digests }) → Stage (Got 0 bytes ∷ past) p asked k
  stage_meta past bytes sender number index level digests p asked k st own h =
      let body : Body = record { sender = sender; message = Meta number level index digests } in
      next past (Got 0 bytes) body p p asked asked k k st (got bytes body h tt) own (λ s. refl) st.asked_is (let was = st.fetching_is in omega arith)

  pub stage_page : (past : List Entry) (bytes : List ℕ) (sender number index : ℕ) (text : List ℕ) (p : ℕ → Bool) (asked : Option (ℕ × (Level × ℕ))) (k : ℕ)
      → Stage past p asked k → p 0 ≡ false → authentic (members c 0) 0 bytes ≡ Some (record { sender = sender; message = Page number index text }) → Stage (Got 0 bytes ∷ past) p asked k
  stage_page past bytes sender number index text p asked k st own h =
      let body : Body = record { sender = sender; message = Page number index text } in
      next past (Got 0 bytes) body p p asked asked k k st (got bytes body h tt) own (λ s. refl) st.asked_is (let was = st.fetching_is in omega arith)

  -- a fetch that is sent is the place that was asked for last
  pub stage_fetch : (past : List Entry) (bytes : List ℕ) (index : ℕ) (level : Level) (p : ℕ → Bool) (asked : Option (ℕ × (Level × ℕ))) (k : ℕ) → Stage past p asked k → p 0 ≡ false → k ≤ 16
      → said bytes ≡ Some (record { sender = 0; message = Fetch 16 level index }) → Stage (Sent 0 bytes ∷ past) p (Some (16, (level, index))) 16
  stage_fetch past bytes index level p asked k st own small h =
      let body : Body = record { sender = 0; message = Fetch 16 level index } in
      next past (Sent 0 bytes) body p p asked (Some (16, (level, index))) k 16 st (sent bytes body h tt) own (λ s. refl)
      (ap (λ (o : Option Body). or_else (option_and_then place_from o) (asked_last past)) h)
      (let was = st.fetching_is in let here : fetch_sent (Sent 0 bytes) ≡ 16 = rw h refl in omega (arith, small))

  -- ---- quorums of checkpoints

  says_if : (m : CheckpointEntry) (b : Bool) → lists_checkpoint m (marks_if b) ≡ (((16 == m.number) && bytes_eq root m.digest) && b)
  says_if m true = one_said ((16 == m.number) && bytes_eq root m.digest)
  says_if m false = none_said ((16 == m.number) && bytes_eq root m.digest)

  count_is : (past : List Entry) (p : ℕ → Bool) (asked : Option (ℕ × (Level × ℕ))) (k : ℕ) → Stage past p asked k → (m : CheckpointEntry)
      → count_checkpoints c past m ≡ count_below (λ s. ((16 == m.number) && bytes_eq root m.digest) && p s) 4
  count_is past p asked k st m =
      count_same (λ s. lists_checkpoint m (checkpoints_of c past s)) (λ s. ((16 == m.number) && bytes_eq root m.digest) && p s)
      (λ s. ap (lists_checkpoint m) (st.checkpoints_are s) ∙ says_if m (p s)) 4

  -- a quorum is of three replicas, and of this number
  pub agreed : (past : List Entry) (p : ℕ → Bool) (asked : Option (ℕ × (Level × ℕ))) (k : ℕ) → Stage past p asked k → (m : CheckpointEntry)
      → is_quorum c (count_checkpoints c past m) ≡ true → (16 ≡ m.number) × (nat_le 3 (count_below p 4) ≡ true)
  agreed past p asked k st m h = go ((16 == m.number) && bytes_eq root m.digest) refl (subst (λ (n : ℕ). is_quorum c n ≡ true) (count_is past p asked k st m) h)
    where
      go : (b : Bool) → ((16 == m.number) && bytes_eq root m.digest) ≡ b → is_quorum c (count_below (λ s. b && p s) 4) ≡ true → (16 ≡ m.number) × (nat_le 3 (count_below p 4) ≡ true)
      go true e q = (eqb-true 16 m.number (and_parts (16 == m.number) (bytes_eq root m.digest) e).0, q)
      go false e q = absurd (let bad : false ≡ true = q in cc)

  -- three replicas are one
  pub quorum_here : (past : List Entry) (p : ℕ → Bool) (asked : Option (ℕ × (Level × ℕ))) (k : ℕ) → Stage past p asked k → nat_le 3 (count_below p 4) ≡ true
      → is_quorum c (count_checkpoints c past checkpoint) ≡ true
  quorum_here past p asked k st enough =
      subst (λ (n : ℕ). is_quorum c n ≡ true) (sym (count_is past p asked k st checkpoint))
      (subst (λ (b : Bool). is_quorum c (count_below (λ s. b && p s) 4) ≡ true) (sym ((bytes_eq-Decides root root).1 refl)) enough)
