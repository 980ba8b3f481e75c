-- The events of a replica over the first operation, of the primary and of a backup alike: what each owes, whatever past
-- it has.
use Rattle.std.proofs.Common.{◌≡◌, ℕ, ◌<◌, ◌⊎◌, inl, inr, Bool, true, false, not, List, [], ◌∷◌, refl, sym, ap, ◌∙◌, subst, Some, None, eq-eqb}
use Rattle.std.specs.Prelude.{◌==◌, ⊤}
use Rattle.std.proofs.lemmas.Bool.{and_parts, both_ways}
use Rattle.sha2.specs.Sha256.{sha256}
use Rattle.std.specs.Bool.{then_some}
use Rattle.tuple_codec.specs.Operations.{Operation}
use Rattle.protocol.specs.System.Configuration.{Configuration, members}
use Rattle.terms.specs.declared.order.Mode.TheVariants as modes
use Rattle.wire_format.specs.Messages.{BodyData as Body, MessageData as Message, pre_prepare as PrePrepare, commit as Commit, reply as Reply}
use Rattle.signing.specs.AuthenticBody.{authentic}
use Rattle.wire_format.specs.Words.{said}
use Rattle.protocol.specs.System.Trace.{Entry, Has}
use Rattle.protocol.specs.System.Trace.Entry.{Got, Executed, Sent}
use Rattle.protocol.specs.Replica.Certificates.{low, is_active_in, is_in_marks, prepare_from, commit_from}
use Rattle.protocol.specs.Replica.State.{Call, Ran, opening, call_in}
use Rattle.protocol.specs.Replica.RightReplica.{Point, others, reply_of, Executes, MaySend, IsStep, SentInEvent}
use Rattle.protocol.specs.Replica.Owed.{IsNumbered, NumbersOnce, SendsMessage, Owes}
use Rattle.evidence.specs.Examples.{four}
use Rattle.evidence.specs.FirstOperation.{FirstFrames, first_answer}
use Rattle.evidence.proofs.FirstBatch.{AllPlain}
use Rattle.evidence.proofs.FirstReplicasStages.{and_of, Stage, got, sent, gives, active_here, prepare_given, commit_given, stage_executed, stage_reply, stage_prepare, stage_commit}
use Rattle.evidence.proofs.FirstReplicasOwing.{IsUnanswered, ready, full, Due, owes, prepared_ready, committed_full}
use Rattle.evidence.proofs.FirstReplicasSteps.{Part, is_among, gets_from, prepares, commits, replies, the_call, waits, ran, done, may_send, moves_quiet, moves_executed, after_number}
use Rattle.protocol.proofs.Words.Options.{some_injective}

-- messages that replicas send after a pre-prepare
abbrev pub IsLater : Message → Type 0
IsLater message = elim message [ PrePrepare v i b ↦ ⊥ | _ ↦ ⊤ ]

-- a sender whom the replica receives
pub record IsSender (me r : ℕ) : Type 0 where
  pub within : r < 4
  pub gets : gets_from r me ≡ true

module _ (o : Part) where
  abbrev clients : ℕ
  clients = o.clients

  abbrev seed : List ℕ
  seed = o.seed

  abbrev op : Operation
  op = o.op

  abbrev batch : List ℕ
  batch = o.batch

  abbrev w : FirstFrames
  w = o.frames

  abbrev me : ℕ
  me = o.me

  abbrev c : Configuration
  c = four clients seed

  abbrev At : List Entry → Bool → (ℕ → Bool) → (ℕ → Bool) → Type 0
  At past l p k = Stage clients seed batch me past l p k

  abbrev Owing : List Entry → List ℕ → List Entry → List Entry → Point → Point → Bool → Bool → (ℕ → Bool) → (ℕ → Bool) → (ℕ → Bool) → Type 0
  Owing before bytes outputs now old new l l' p p' k' = Due clients seed batch me before bytes outputs now old new l l' p p' k'

  -- a primary owes a number for each waiting request
  abbrev pub Numbers : List Entry → Point → Type 0
  Numbers now new = me ≡ 0 → (call : Call) → Has (λ y. y ≡ call) new.waiting → IsNumbered c me now 0 call.client call.timestamp

  pub hears_prepare : (r : ℕ) → IsSender me r → authentic (members c me) me (w.prepare r) ≡ Some (prepares batch r)
  hears_prepare r s = (o.are_frames.prepares r s.within).is_authentic_to me (is_among me (others c r) s.gets)

  pub hears_commit : (r : ℕ) → IsSender me r → authentic (members c me) me (w.commit r) ≡ Some (commits batch r)
  hears_commit r s = (o.are_frames.commits r s.within).is_authentic_to me (is_among me (others c r) s.gets)

  pub active : (past : List Entry) → AllPlain c past → is_active_in c past 0 ≡ true
  active past plain = (and_parts (is_active_in c past 0) (is_in_marks c (low c me past) 1) (active_here clients seed batch me past plain 0 1 refl)).0

  pub marked : (past : List Entry) → AllPlain c past → is_in_marks c (low c me past) 1 ≡ true
  marked past plain = (and_parts (is_active_in c past 0) (is_in_marks c (low c me past) 1) (active_here clients seed batch me past plain 0 1 refl)).1

  -- ---- the certificates after a message

  pub behind_prepare : (past : List Entry) (r : ℕ) (p k : ℕ → Bool) → IsSender me r → not (r == 0) ≡ true → At past true p k → At (Got me (w.prepare r) ∷ past) true (and_of p r) k
  behind_prepare past r p k s backup st =
      stage_prepare clients seed batch me past (Got me (w.prepare r)) r true p k backup st (got clients seed batch me past (w.prepare r) (prepares batch r) st.plain (hears_prepare r s) tt)

  pub behind_commit : (past : List Entry) (r : ℕ) (p k : ℕ → Bool) → IsSender me r → At past true p k → At (Got me (w.commit r) ∷ past) true p (and_of k r)
  behind_commit past r p k s st = stage_commit clients seed batch me past (Got me (w.commit r)) r true p k st (got clients seed batch me past (w.commit r) (commits batch r) st.plain (hears_commit r s) tt)

  pub behind_own_commit : (past : List Entry) (p k : ℕ → Bool) → At past true p k → At (Sent me (w.commit me) ∷ past) true p (and_of k me)
  behind_own_commit past p k st = stage_commit clients seed batch me past (Sent me (w.commit me)) me true p k st (sent clients seed batch me past (w.commit me) (commits batch me) (o.are_frames.commits me o.within).says tt)

  pub behind_reply : (past : List Entry) (p k : ℕ → Bool) → At past true p k → At (Sent me (w.reply me) ∷ Executed me 1 batch ∷ past) true p k
  behind_reply past p k st =
      stage_reply clients seed batch me (Executed me 1 batch ∷ past) (Sent me (w.reply me)) me 256 1 1 modes.Ordered (first_answer op) true p k (stage_executed clients seed batch me past me 1 batch true p k st)
      (sent clients seed batch me (Executed me 1 batch ∷ past) (w.reply me) (replies op me) (o.are_frames.replies me o.within).says tt)

  -- ---- the steps

  pub step_quiet : (past : List Entry) (bytes : List ℕ) (body : Body) → authentic (members c me) me bytes ≡ Some body → call_in c body ≡ None → IsStep c me past (waits op) (Got me bytes) (waits op)
  step_quiet past bytes body h nothing = record { own = refl; may = tt; moves = moves_quiet o opening [] (the_call op ∷ []) bytes body h nothing }

  pub step_last : (past : List Entry) (r : ℕ) → IsSender me r → IsStep c me past (ran c op batch) (Got me (w.commit r)) (done c batch)
  step_last past r s =
      record { own = refl; may = tt; moves = moves_quiet o (ran c op batch).state (ran c op batch).ran [] (w.commit r) (commits batch r) (hears_commit r s) refl }

  may_commit : (past : List Entry) (p k : ℕ → Bool) → At past true p k → ready true p ≡ true → (SentInEvent (w.commit me) past → ⊥) → MaySend c me past (waits op) (Sent me (w.commit me)) (w.commit me)
  may_commit past p k st enough once =
      may_send o past (waits op) (w.commit me) (Commit 0 1 (sha256 batch)) (others c me) (o.are_frames.commits me o.within) (λ rs is. is) tt
      (record { active = active past st.plain; batch = batch; prepared = prepared_ready clients seed batch me past true p k st enough; digest_is = refl }) once

  pub step_commit : (past : List Entry) (p k : ℕ → Bool) → At past true p k → ready true p ≡ true → (SentInEvent (w.commit me) past → ⊥) → IsStep c me past (waits op) (Sent me (w.commit me)) (waits op)
  step_commit past p k st enough once = record { own = refl; may = may_commit past p k st enough once; moves = refl }

  pub step_executed : (past : List Entry) (p k : ℕ → Bool) → At past true p k → ready true p ≡ true → full k ≡ true → k me ≡ true → IsStep c me past (waits op) (Executed me 1 batch) (ran c op batch)
  step_executed past p k st enough most own = record {
    own = refl;
    may = record { next = refl; in_view = 0; committed = committed_full clients seed batch me past true p k st enough most own };
    moves = moves_executed o;
  }

  may_reply : (past : List Entry) → (SentInEvent (w.reply me) past → ⊥) → MaySend c me past (ran c op batch) (Sent me (w.reply me)) (w.reply me)
  may_reply past once =
      may_send o past (ran c op batch) (w.reply me) (Reply 256 1 modes.Ordered 1 (first_answer op)) (256 ∷ []) (o.are_frames.replies me o.within) (λ rs is. is) tt (inl (inl refl)) once

  pub step_reply : (past : List Entry) → (SentInEvent (w.reply me) past → ⊥) → IsStep c me past (ran c op batch) (Sent me (w.reply me)) (ran c op batch)
  step_reply past once = record { own = refl; may = may_reply past once; moves = refl }

  -- an execution sends nothing
  pub behind_execution : (past : List Entry) → (SentInEvent (w.reply me) past → ⊥) → SentInEvent (w.reply me) (Executed me 1 batch ∷ past) → ⊥
  behind_execution past none (inl here) = here
  behind_execution past none (inr before) = none before

  -- ---- the obligations

  -- a message other than a pre-prepare assigns no number
  pub no_pre_prepare : (past : List Entry) (bytes : List ℕ) (body : Body) → said bytes ≡ Some body → IsLater body.message → NumbersOnce c me past (Sent me bytes)
  no_pre_prepare past bytes body says later v i other batch_entry free =
      absurd (subst (λ (y : Body). IsLater y.message) (some_injective body (record { sender = me; message = PrePrepare v i other }) (sym says ∙ batch_entry)) later)

  pub none_executed : (bytes : List ℕ) (n : ℕ) → Has (λ y. Executes n [] y) (Sent me bytes ∷ []) → ⊥
  none_executed bytes n (inl h) = h
  none_executed bytes n (inr h) = h

  -- nothing, at an input by which nothing becomes prepared or is left committed
  pub due_nothing : (before now : List Entry) (bytes : List ℕ) (body : Body) (old new : Point) (p p' k' : ℕ → Bool) → authentic (members c me) me bytes ≡ Some body → IsUnanswered old body.message
      → Numbers now new → new.ran ≡ [] → (ready true p ≡ true) ⊎ (ready true p' ≡ false) → (new.state.number ≡ 1) ⊎ (full k' ≡ false)
      → Owing before bytes [] now old new true true p p' k'
  due_nothing before now bytes body old new p p' k' h u numbers idle held next = record {
    body = body;
    receives = h;
    unanswered = u;
    numbers = numbers;
    numbers_once = tt;
    prepares = λ was is other. absurd (both_ways true was refl);
    commits = λ was is. becomes held was is;
    executes = next;
    replies = λ y has. absurd (subst (λ (ys : List Ran). Has (λ z. z ≡ y) ys) idle has);
    checkpoints = λ n has. absurd has;
    dropped = λ drops. refl;
  }
    where
      becomes : (ready true p ≡ true) ⊎ (ready true p' ≡ false) → ready true p ≡ false → ready true p' ≡ true → SendsMessage me (Commit 0 1 (sha256 batch)) []
      becomes (inl before_it) was is = absurd (both_ways (ready true p) was before_it)
      becomes (inr after_it) was is = absurd (both_ways (ready true p') after_it is)

  -- a commit, at a prepare that may be the second
  pub due_commit : (before now : List Entry) (r : ℕ) (p k k' : ℕ → Bool) → IsSender me r → not (r == 0) ≡ true → At before true p k → p r ≡ false → full k' ≡ false
      → Numbers now (waits op) → Owing before (w.prepare r) (Sent me (w.commit me) ∷ []) now (waits op) (waits op) true true p (and_of p r) k'
  due_commit before now r p k k' s backup st fresh few numbers = record {
    body = prepares batch r;
    receives = hears_prepare r s;
    unanswered = tt;
    numbers = numbers;
    numbers_once = (no_pre_prepare (Got me (w.prepare r) ∷ before) (w.commit me) (commits batch me) (o.are_frames.commits me o.within).says tt, tt);
    prepares = λ was is other. absurd (both_ways true was refl);
    commits = λ was is. inl (o.are_frames.commits me o.within).says;
    executes = inr few;
    replies = λ y has. absurd has;
    checkpoints = λ n has. absurd (none_executed (w.commit me) n has);
    dropped = λ drops.
        absurd (drops (prepares batch r) (hears_prepare r s) (
          gives clients seed batch me before (Got me (w.prepare r)) (prepares batch r) (got clients seed batch me before (w.prepare r) (prepares batch r) st.plain (hears_prepare r s) tt)
              0 1 (prepare_from c r 0 1) (r == r) (sha256 batch) (prepare_given clients seed batch me r backup 0 1 r) ∙ ap (λ (y : Bool). then_some y (sha256 batch)) (eq-eqb r r refl),
          st.prepare_is 0 1 r ∙ ap (λ (y : Bool). then_some y (sha256 batch)) fresh,
        ));
  }

  -- the execution and its reply, at a commit that makes a quorum
  pub due_execution : (before now : List Entry) (r : ℕ) (p k k' : ℕ → Bool) → IsSender me r → At before true p k → ready true p ≡ true → k r ≡ false
      → Owing before (w.commit r) (Executed me 1 batch ∷ Sent me (w.reply me) ∷ []) now (waits op) (ran c op batch) true true p p k'
  due_execution before now r p k k' s st held fresh = record {
    body = commits batch r;
    receives = hears_commit r s;
    unanswered = tt;
    numbers = λ own call has. absurd has;
    numbers_once = (tt, (no_pre_prepare (Executed me 1 batch ∷ Got me (w.commit r) ∷ before) (w.reply me) (replies op me) (o.are_frames.replies me o.within).says tt, tt));
    prepares = λ was is other. absurd (both_ways true was refl);
    commits = λ was is. absurd (both_ways (ready true p) was held);
    executes = inl (after_number o);
    replies = replied;
    checkpoints = first_run;
    dropped = λ drops.
        absurd (drops (commits batch r) (hears_commit r s) (
          gives clients seed batch me before (Got me (w.commit r)) (commits batch r) (got clients seed batch me before (w.commit r) (commits batch r) st.plain (hears_commit r s) tt)
              0 1 (commit_from r 0 1) (r == r) (sha256 batch) (commit_given clients seed batch me r 0 1 r) ∙ ap (λ (y : Bool). then_some y (sha256 batch)) (eq-eqb r r refl),
          st.commit_is 0 1 r ∙ ap (λ (y : Bool). then_some y (sha256 batch)) fresh,
        ));
  }
    where
      replied : (y : Ran) → Has (λ z. z ≡ y) (ran c op batch).ran → SendsMessage me (reply_of y.call.client y.kept) (Executed me 1 batch ∷ Sent me (w.reply me) ∷ [])
      replied y (inl is) = subst (λ (z : Ran). SendsMessage me (reply_of z.call.client z.kept) (Executed me 1 batch ∷ Sent me (w.reply me) ∷ [])) is (inr (inl (o.are_frames.replies me o.within).says))
      replied y (inr h) = absurd h

      first_run : (n : ℕ) → Has (λ y. Executes n [] y) (Executed me 1 batch ∷ Sent me (w.reply me) ∷ []) → n ≡ 1
      first_run n (inl is) = sym is
      first_run n (inr (inl h)) = absurd h
      first_run n (inr (inr h)) = absurd h

  -- ---- what the replica owes, from the obligations
  pub owing : (before : List Entry) (bytes : List ℕ) (outputs now : List Entry) (old new : Point) (l l' : Bool) (p p' k k' : ℕ → Bool)
      → At before l p k → At now l' p' k' → Owing before bytes outputs now old new l l' p p' k' → Owes c me before (Got me bytes) outputs now old new
  owing before bytes outputs now old new l l' p p' k k' was is due = owes clients seed batch me before bytes outputs now old new l l' p p' k k' was is due
