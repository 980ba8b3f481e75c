-- What an orderer sends again, or asks for: no message twice, and all that it should.
use Rattle.std.proofs.Common.{◌≡◌, ℕ, inl, true, false, List, [], ◌∷◌, ◌++◌, map, Some, sym, ◌∙◌, subst, ◌+◌, ◌≤◌, ◌<◌, inr, Bool, length, Option, None, refl, ap, arith}
use Rattle.wire_format.specs.Messages.{MessageData as Message, pre_prepare as PrePrepare, prepare as Prepare, commit as Commit, checkpoint as Checkpoint, CheckpointEntryData as CheckpointEntry, new_view as NewView}
use Rattle.wire_format.specs.Spelling.{is_signed}
use Rattle.frame_endpoint.specs.Endpoint.{SendsMessageToOthers}
use Rattle.ordering.specs.declared.votes.Phase.{Phase}
use Rattle.ordering.specs.declared.votes.Phase.TheVariants as phases
use Rattle.ordering.specs.Log as logs
use Rattle.events.specs.declared.output.Output.{Output}
use Rattle.events.specs.Outputs.{entry_of}
use Rattle.protocol.specs.System.Configuration.{Configuration, members}
use Rattle.protocol.specs.System.Frames.{IsOutgoing}
use Rattle.protocol.specs.System.Trace.{Entry, Has}
use Rattle.protocol.specs.System.Trace.Entry.{Sent}
use Rattle.protocol.specs.Replica.Owed.{IsSending, SendsMessage, IsAssignedBelow}
use Rattle.protocol.proofs.Words.Elements.{has_weaker, has_left, has_right, has_mapped, has_reversed, all_of_each, each_weaker}
use Rattle.view_change.specs.ReceivedData.{held_of}
use Rattle.replica_histories.specs.Resending.{FrameGoes, RowGoes, ViewGoes, AllGoes}
use Rattle.orderer.specs.State.{OrdererData, IsOrderer}
use Rattle.orderer.specs.PqSets.{MulticastsFrame, LogsBatch}
use Rattle.orderer.specs.Fitting.{given, changes_held, FitsEvent}
use Rattle.orderer.specs.Multicasting.{OutputsHave, OutputsHaveFrame, OutputsHaveAll, OutputsHaveBatch, OutputsHaveViewChange, OutputsHaveNewView, OutputsHaveRow, OutputsHaveVote, Multicasts, AreBelow, IsBelow, OutputsHaveCheckpoint, MulticastsAgain, MulticastsAlso, MulticastsOwnBatch, MulticastsLastAgain, MulticastsLastAlso, row_place, vote_message, vote_place}
use Rattle.std.specs.Prelude.{is_some, ◌==◌}
use Rattle.std.proofs.lemmas.Bool.{eqb-true, eqb-false}
use Rattle.std.proofs.lemmas.List.{append-nil, append_assoc}
use Rattle.wire_format.specs.Words.{requests_of, said}
use Rattle.signing.specs.AuthenticBody.{authentic}
use Rattle.ordering.specs.Log.{LogData, with_batch}
use Rattle.ordering.specs.Votes.{voted_digest}
use Rattle.protocol.specs.Replica.Certificates.{are_genuine, logged, commit_of}
use Rattle.protocol.specs.Replica.RightReplica.{others}
use Rattle.protocol.proofs.Words.Options.{some_injective}
use Rattle.replica_histories.specs.Desk.{Desk}
use Rattle.replica_histories.specs.Events as events
use Rattle.replica_histories.specs.Events.{Start, after_outputs}
use Rattle.replica_histories.specs.Logs.{FitsLog}
use Rattle.replica_histories.specs.Outputs.{MayNumber}
use Rattle.replica_histories.proofs.Words.{passed, primary_same}
use Rattle.replica_histories.proofs.Giving.{batches_fit}
use Rattle.replica_histories.proofs.SentOnce.{saying}
use Rattle.replica_histories.proofs.Again.{prepares_go_again, commits_go_again, batches_go_again, checkpoints_go_again}
use Rattle.replica_histories.proofs.NumbersKept.{batches_keep_numbers}
use Rattle.replica_histories.specs.Changes.{FitsChanges, IsNoNews}
use Rattle.replica_histories.proofs.ChangesPassing.{outputs_pass, batches_enter_q}
use Rattle.replica_histories.proofs.ChangesKept.{sent_keep}
use Rattle.desk.specs.Waiting.{unnumbered, with_numbered}
use Rattle.orderer.proofs.Parties.{same_log}
use Rattle.orderer.proofs.Staying.{AssignsNoNumber, sent_beside, fits_on, fits_behind, changes_still}
use Rattle.orderer.proofs.Flags.{flags_stay, flags_numbered}
use Rattle.orderer.proofs.Voting.{said_in}

-- ---- among the outputs

pub outgoing_now : (o : OrdererData) (message : Message) (before after : List Output) → Multicasts o message before after → OutputsHave o message after
outgoing_now o message before after s =
    subst (OutputsHave o message) (sym s.given_is) (has_right (λ output. SendsMessageToOthers o.endpoint message output) before (s.output ∷ []) (inl s.sends_frame))

pub frame_now : (o : OrdererData) (frame : List ℕ) (before after : List Output) → MulticastsFrame o frame before after → OutputsHaveFrame o frame after
frame_now o frame before after s =
    subst (OutputsHaveFrame o frame) (sym s.given_is) (has_right (λ output. entry_of o.endpoint.me output ≡ Sent o.endpoint.me frame) before (s.output ∷ []) (inl s.sends.sends))

-- messages among them stay there
module _ (before more after : List Output) (given_is : after ≡ before ++ more) (o : OrdererData) where
  outgoing_on : (message : Message) → OutputsHave o message before → OutputsHave o message after
  outgoing_on message h = subst (OutputsHave o message) (sym given_is) (has_left (λ output. SendsMessageToOthers o.endpoint message output) before more h)

  frame_on : (frame : List ℕ) → OutputsHaveFrame o frame before → OutputsHaveFrame o frame after
  frame_on frame h = subst (OutputsHaveFrame o frame) (sym given_is) (has_left (λ output. entry_of o.endpoint.me output ≡ Sent o.endpoint.me frame) before more h)

  pub batch_on : (number : ℕ) → OutputsHaveBatch number o before → OutputsHaveBatch number o after
  batch_on number h text own above is = outgoing_on (PrePrepare o.log.view number text) (h text own above is)

  pub vote_on : (phase : Phase) (number : ℕ) → OutputsHaveVote phase number o before → OutputsHaveVote phase number o after
  vote_on phase number h digest is = outgoing_on (vote_message phase o.log.view number digest) (h digest is)

  pub row_on : (number : ℕ) → OutputsHaveRow number o before → OutputsHaveRow number o after
  row_on number h = (batch_on number h.0, vote_on phases.Prepare number h.1, vote_on phases.Commit number h.2)

  pub new_view_on : OutputsHaveNewView o before → OutputsHaveNewView o after
  new_view_on h frame is = frame_on frame (h frame is)

-- ---- as entries

module _ (c : Configuration) (o : OrdererData) (outs : List Output) (known : members c o.endpoint.me ≡ o.endpoint.membership) where
  abbrev me : ℕ
  me = o.endpoint.me

  abbrev entries : List Entry
  entries = given me outs

  -- what holds of an output's entry
  as_entry : (P : Output → Type 0) (Q : Entry → Type 0) → ((output : Output) → P output → Q (entry_of me output)) → Has P outs → Has Q entries
  as_entry P Q f h = has_reversed Q (map (entry_of me) outs) (has_mapped Q (entry_of me) outs (has_weaker P (λ output. Q (entry_of me output)) f outs h))

  outgoing_goes : (message : Message) → OutputsHave o message outs → SendsMessage me message entries
  outgoing_goes message = as_entry (λ output. SendsMessageToOthers o.endpoint message output) (IsSending me message)
      (λ output p. subst (IsSending me message) (sym p.sends) (p.is_outgoing c known).says)

  frame_goes : (frame : List ℕ) → OutputsHaveFrame o frame outs → FrameGoes me frame entries
  frame_goes frame = as_entry (λ output. entry_of me output ≡ Sent me frame) (λ e. e ≡ Sent me frame) (λ output is. is)

  module _ (own : o.log.me ≡ me) where
    row_goes : (i : ℕ) → OutputsHaveRow i o outs → RowGoes me o.log o.assigned i entries
    row_goes i p = record {
      batch = λ batch primary above is. outgoing_goes (PrePrepare o.log.view i batch) (p.0 batch (own ∙ sym primary) above is);
      prepare = λ digest is. outgoing_goes (Prepare o.log.view i digest) (p.1 digest (subst (λ (m : ℕ). logs.prepare_of o.log i m ≡ Some digest) (sym own) is));
      commit = λ digest is. outgoing_goes (Commit o.log.view i digest) (p.2 digest (subst (λ (m : ℕ). logs.commit_of o.log i m ≡ Some digest) (sym own) is));
    }

    view_goes : (executed : ℕ) → OutputsHaveAll executed o outs → ViewGoes me o.log (changes_held o) executed entries
    view_goes executed p = record {
      new_view = λ frame is. frame_goes frame (p.new_view frame is);
      rows = λ i above most. row_goes i (p.rows i above most);
      checkpoint = λ m is. outgoing_goes (Checkpoint m.number m.digest) (p.checkpoint m is);
    }

    pub all_goes : (executed : ℕ) → (o.log.active ≡ true → OutputsHaveAll executed o outs) → (o.log.active ≡ false → OutputsHaveViewChange o outs) → AllGoes me o.log (changes_held o) executed entries
    all_goes executed active inactive = record {
      active = λ is. view_goes executed (active is);
      inactive = λ is held has. frame_goes held.frame (inactive is held (subst (λ (m : ℕ). held_of o.received.held m ≡ Some held) (sym own) has));
    }

-- ---- the order of messages

-- a message that comes before a place comes before a later one
below_later : (first end : ℕ) (message : Message) → first ≤ end → IsBelow first message → IsBelow end message
below_later first end (NewView new) l h = omega (arith, l, h)
below_later first end (PrePrepare v i batch) l h = omega (arith, l, h)
below_later first end (Prepare v i digest) l h = omega (arith, l, h)
below_later first end (Commit v i digest) l h = omega (arith, l, h)
below_later first end _ l h = absurd h

are_below_later : (me first end : ℕ) (outputs : List Entry) → first ≤ end → AreBelow me first outputs → AreBelow me end outputs
are_below_later me first end outputs l h =
    each_weaker (λ e. (message : Message) → IsSending me message e → IsBelow first message) (λ e. (message : Message) → IsSending me message e → IsBelow end message)
    (λ e below message says. below_later first end message l (below message says)) outputs h

-- a message that comes before no such place was not sent
pub never_said : (me place : ℕ) (message : Message) (outputs : List Entry) → (IsBelow place message → ⊥) → AreBelow me place outputs → SendsMessage me message outputs → ⊥
never_said me place message [] above h given = given
never_said me place message (e ∷ outputs) above h (inl now) = above (h.0 message now)
never_said me place message (e ∷ outputs) above h (inr before) = never_said me place message outputs above h.1 before

-- one frame more
pub one_below : (me first end : ℕ) (message : Message) (bytes : List ℕ) (before after : List Entry) → after ≡ Sent me bytes ∷ before → said bytes ≡ Some (record { sender = me; message = message }) → first ≤ end → IsBelow end message
    → AreBelow me first before → AreBelow me end after
one_below me first end message bytes before after is says l below h =
    subst (AreBelow me end) (sym is)
    (λ other now. subst (IsBelow end) (saying me message other bytes says now) below, are_below_later me first end before l h)

pub nothing_again : (first end : ℕ) (o : OrdererData) (outs : List Output) → first ≤ end → MulticastsAgain first end o outs o outs
nothing_again first end o outs l = record { goes = λ is c s desk w known below f. (f, are_below_later o.endpoint.me first end (given o.endpoint.me outs) l below); same = refl; more = []; given_is = sym (append-nil outs) }

absent : {A : Type 0} (o : Option A) (x : A) → o ≡ None → o ≡ Some x → ⊥
absent o x none is = absurd (let bad : None ≡ Some x = sym none ∙ is in cc)

-- if the log has no batch, another is the primary, or the new view has the batch
pub no_batch_again : (number : ℕ) (o : OrdererData) (outs : List Output) → logs.logged_batch o.log number ≡ None → MulticastsAlso (row_place number) (row_place number + 1) (OutputsHaveBatch number) o outs o outs
no_batch_again number o outs none =
    (nothing_again (row_place number) (row_place number + 1) o outs (omega arith), λ text own above is. absurd (absent (logs.logged_batch o.log number) text none is))

pub other_batch_again : (number : ℕ) (o : OrdererData) (outs : List Output) → (o.log.me ≡ logs.primary o.log o.log.view → o.assigned < number → ⊥) → MulticastsAlso (row_place number) (row_place number + 1) (OutputsHaveBatch number) o outs o outs
other_batch_again number o outs other =
    (nothing_again (row_place number) (row_place number + 1) o outs (omega arith), λ text own above is. absurd (other own above))

pub no_vote_again : (phase : Phase) (number : ℕ) (o : OrdererData) (outs : List Output) → logs.vote_of phase o.log number o.log.me ≡ None
    → MulticastsAlso (row_place number + vote_place phase) (row_place number + (vote_place phase + 1)) (OutputsHaveVote phase number) o outs o outs
no_vote_again phase number o outs none =
    (nothing_again (row_place number + vote_place phase) (row_place number + (vote_place phase + 1)) o outs (omega arith), λ digest is. absurd (absent (logs.vote_of phase o.log number o.log.me) digest none is))

pub no_checkpoint_again : (o : OrdererData) (outs : List Output) → o.last_checkpoint ≡ None → (place : ℕ) → MulticastsLastAlso true place OutputsHaveCheckpoint o outs o outs
no_checkpoint_again o outs none place = (
  record { goes = λ active c s desk w known below f. f; same = refl; more = []; given_is = sym (append-nil outs) },
  λ entry is. absurd (absent o.last_checkpoint entry none is),
)

-- ---- the log

-- a message that assigns no number goes again, if the history fits it again
goes_again : (first end : ℕ) (message : Message) (o : OrdererData) (before after : List Output) → Multicasts o message before after → first ≤ end → IsBelow end message → AssignsNoNumber message → is_signed message ≡ false
    → (o.log.active ≡ true → (c : Configuration) (s : Start) (desk : Desk) (bytes : List ℕ) → IsOutgoing c o.endpoint.me message (others c o.endpoint.me) bytes → AreBelow o.endpoint.me first (given o.endpoint.me before)
    → events.BothFitWithinEvent c o.endpoint.me s desk o.log [] (given o.endpoint.me before)
    → IsNoNews c o.endpoint.me (after_outputs s (given o.endpoint.me before)) message × events.BothFitWithinEvent c o.endpoint.me s desk o.log [] (Sent o.endpoint.me bytes ∷ given o.endpoint.me before))
    → MulticastsAgain first end o before o after
goes_again first end message o before after says later under none unsigned fits = record {
  goes = λ active c s desk w known below f.
      let k = said_in c o message before after known says in
      let past = after_outputs s (given o.endpoint.me before) in
      let on = fits active c s desk k.bytes k.is_outgoing below f.fits in (
        fits_on c o.endpoint.me s o o desk w [] [] before after (Sent o.endpoint.me k.bytes) k.is
            (sent_beside c o.endpoint.me message (others c o.endpoint.me) k.bytes past none k.is_outgoing)
            (sent_keep c o.endpoint.me past message k.bytes k.is_outgoing.says on.0 (λ signed. absurd (let bad : false ≡ true = sym unsigned ∙ signed in cc)))
            (same_log o.log) refl refl refl refl f on.1,
        one_below o.endpoint.me first end message k.bytes (given o.endpoint.me before) (given o.endpoint.me after) k.is.is k.is_outgoing.says later under below,
      );
  same = refl;
  more = says.output ∷ [];
  given_is = says.given_is;
}

-- the history has the replica's own commit in the log
committed_here : (c : Configuration) (me : ℕ) (log : LogData) (history : List Entry) (number : ℕ) (digest : List ℕ) → FitsLog c me log history → logs.commit_of log number me ≡ Some digest
    → commit_of c me history log.view number me ≡ Some digest
committed_here c me log history number digest f has =
    f.commits number me (passed (logs.is_in_marks log number) (voted_digest (logs.row_of log number).commits me) digest has).0 ∙ has

vote_goes : (phase : Phase) (number : ℕ) (digest : List ℕ) (o : OrdererData) (before after : List Output) → logs.vote_of phase o.log number o.endpoint.me ≡ Some digest
    → Multicasts o (vote_message phase o.log.view number digest) before after → MulticastsAgain (row_place number + vote_place phase) (row_place number + (vote_place phase + 1)) o before o after
vote_goes phases.Prepare number digest o before after has says =
    goes_again (row_place number + 1) (row_place number + 2) (Prepare o.log.view number digest) o before after says (omega arith) (omega arith) tt refl
    (λ active c s desk bytes is_outgoing below f. (
      tt,
      prepares_go_again c o.endpoint.me s desk o.log [] (given o.endpoint.me before) number digest bytes active has
          (never_said o.endpoint.me (row_place number + 1) (Prepare o.log.view number digest) (given o.endpoint.me before) (λ l. absurd (omega (arith, l))) below) is_outgoing f,
    ))
vote_goes phases.Commit number digest o before after has says =
    goes_again (row_place number + 2) (row_place number + 3) (Commit o.log.view number digest) o before after says (omega arith) (omega arith) tt refl
    (λ active c s desk bytes is_outgoing below f. (
      (digest, committed_here c o.endpoint.me o.log (after_outputs s (given o.endpoint.me before)) number digest f.of_log has),
      commits_go_again c o.endpoint.me s desk o.log [] (given o.endpoint.me before) number digest bytes active has
          (never_said o.endpoint.me (row_place number + 2) (Commit o.log.view number digest) (given o.endpoint.me before) (λ l. absurd (omega (arith, l))) below) is_outgoing f,
    ))

pub vote_again : (phase : Phase) (number : ℕ) (digest : List ℕ) (o new : OrdererData) (before after : List Output) → IsOrderer o → logs.vote_of phase o.log number o.log.me ≡ Some digest
    → Multicasts o (vote_message phase o.log.view number digest) before after → new ≡ o → MulticastsAlso (row_place number + vote_place phase) (row_place number + (vote_place phase + 1)) (OutputsHaveVote phase number) o before new after
vote_again phase number digest o new before after own has says is = (
  subst (λ (x : OrdererData). MulticastsAgain (row_place number + vote_place phase) (row_place number + (vote_place phase + 1)) o before x after) (sym is)
      (vote_goes phase number digest o before after (subst (λ (m : ℕ). logs.vote_of phase o.log number m ≡ Some digest) own.0 has) says),
  λ other is_it. subst (λ (d : List ℕ). OutputsHave o (vote_message phase o.log.view number d) after) (some_injective digest other (sym has ∙ is_it)) (outgoing_now o (vote_message phase o.log.view number digest) before after says),
)

-- the history has what stands in the log
logged_here : (c : Configuration) (me : ℕ) (log : LogData) (history : List Entry) (number : ℕ) (text : List ℕ) → FitsLog c me log history → logs.logged_batch log number ≡ Some text
    → logged c me history log.view number ≡ Some text
logged_here c me log history number text f has = f.batches number (passed (logs.is_in_marks log number) (logs.row_of log number).batch text has).0 ∙ has

-- the batches of the new view with which the view began are below
assigned_below : (c : Configuration) (me number : ℕ) (o : OrdererData) (history : List Entry) → o.assigned < number → FitsChanges c me o.log (changes_held o) history → IsAssignedBelow c o.log.view number history
assigned_below c me number o history above f new once at = let most = f.assigned new once at in omega (arith, most, above)

pub batch_again : (number : ℕ) (text : List ℕ) (o new : OrdererData) (before after : List Output) → IsOrderer o → o.log.me ≡ logs.primary o.log o.log.view → o.assigned < number
    → logs.logged_batch o.log number ≡ Some text → Multicasts o (PrePrepare o.log.view number text) before after → new ≡ o → MulticastsAlso (row_place number) (row_place number + 1) (OutputsHaveBatch number) o before new after
batch_again number text o new before after own primary above has says is = (
  subst (λ (x : OrdererData). MulticastsAgain (row_place number) (row_place number + 1) o before x after) (sym is) (record {
    goes = λ active c s desk w known below f.
        let k = said_in c o (PrePrepare o.log.view number text) before after known says in
        let past = after_outputs s (given o.endpoint.me before) in
        let e = Sent o.endpoint.me k.bytes in
        let here = logged_here c o.endpoint.me o.log past number text f.fits.of_log has in
        let on = batches_go_again c o.endpoint.me s desk o.log [] (given o.endpoint.me before) number text k.bytes active (sym primary ∙ own.0) has
        (assigned_below c o.endpoint.me number o past above f.changes)
        (never_said o.endpoint.me (row_place number) (PrePrepare o.log.view number text) (given o.endpoint.me before) (λ l. absurd (omega (arith, l))) below) k.is_outgoing f.fits in (
          fits_behind c o.endpoint.me s o o desk desk w w [] [] before after e k.is refl f on
              (λ first. flags_stay c o.endpoint.me o.log.view o.used w desk.state desk.waiting past e
              (batches_keep_numbers c o.endpoint.me o.log.view number text k.bytes past k.is_outgoing.says here).1
              (f.numbers first))
              (changes_still c o.endpoint.me s o o desk desk [] [] (given o.endpoint.me before) e f.fits on
              (sent_keep c o.endpoint.me past (PrePrepare o.log.view number text) k.bytes k.is_outgoing.says (text, here) (λ signed. absurd cc)) (same_log o.log) refl refl f.changes),
          one_below o.endpoint.me (row_place number) (row_place number + 1) (PrePrepare o.log.view number text) k.bytes (given o.endpoint.me before) (given o.endpoint.me after) k.is.is k.is_outgoing.says (omega arith) (omega arith) below,
        );
    same = refl;
    more = says.output ∷ [];
    given_is = says.given_is;
  }),
  λ other mine over is_it. subst (λ (t : List ℕ). OutputsHave o (PrePrepare o.log.view number t) after) (some_injective text other (sym has ∙ is_it)) (outgoing_now o (PrePrepare o.log.view number text) before after says),
)

-- the replica's last checkpoint
pub checkpoint_again : (entry : CheckpointEntry) (o new : OrdererData) (before after : List Output) → o.last_checkpoint ≡ Some entry
    → Multicasts o (Checkpoint entry.number entry.digest) before after → new ≡ o → (place : ℕ) → MulticastsLastAlso true place OutputsHaveCheckpoint o before new after
checkpoint_again entry o new before after last says is place = (
  subst (λ (x : OrdererData). MulticastsLastAgain true place o before x after) (sym is) (record {
    goes = λ active c s desk w known below f.
        let k = said_in c o (Checkpoint entry.number entry.digest) before after known says in
        let past = after_outputs s (given o.endpoint.me before) in
        fits_on c o.endpoint.me s o o desk w [] [] before after (Sent o.endpoint.me k.bytes) k.is
        (sent_beside c o.endpoint.me (Checkpoint entry.number entry.digest) (others c o.endpoint.me) k.bytes past tt k.is_outgoing)
        (sent_keep c o.endpoint.me past (Checkpoint entry.number entry.digest) k.bytes k.is_outgoing.says (f.changes.latest ∙ last) (λ signed. absurd cc))
        (same_log o.log) refl refl refl refl f
        (checkpoints_go_again c o.endpoint.me s desk o.log (given o.endpoint.me before) entry.number entry.digest k.bytes
        (f.said entry last) (never_said o.endpoint.me place (Checkpoint entry.number entry.digest) (given o.endpoint.me before) (λ none. none) below) k.is_outgoing f.fits);
    same = refl;
    more = says.output ∷ [];
    given_is = says.given_is;
  }),
  λ other is_it. subst (λ (m : CheckpointEntry). OutputsHave o (Checkpoint m.number m.digest) after) (some_injective entry other (sym last ∙ is_it)) (outgoing_now o (Checkpoint entry.number entry.digest) before after says),
)

-- the event goes on with the same orderer
pub again_twice : (first middle end : ℕ) (a b d : OrdererData) (x y z : List Output) → MulticastsAgain first middle a x b y → MulticastsAgain middle end b y d z → MulticastsAgain first end a x d z
again_twice first middle end a b d x y z p q = subst (λ (o : OrdererData). MulticastsAgain middle end o y d z → MulticastsAgain first end a x d z) (sym p.same) onward q
  where
    onward : MulticastsAgain middle end a y d z → MulticastsAgain first end a x d z
    onward r = record {
      goes = λ is c s desk w known below f.
          let g = p.goes is c s desk w known below f in
          r.goes is c s desk w known g.1 (subst (λ (o : OrdererData). FitsEvent c a.endpoint.me s o desk w [] y) p.same g.0);
      same = r.same;
      more = p.more ++ r.more;
      given_is = r.given_is ∙ ap (λ (xs : List Output). xs ++ r.more) p.given_is ∙ append_assoc x p.more r.more;
    }

again_last : (active : Bool) (first place : ℕ) (a b d : OrdererData) (x y z : List Output) → active ≡ true → MulticastsAgain first place a x b y → MulticastsLastAgain active place b y d z → MulticastsLastAgain active first a x d z
again_last active first place a b d x y z right p q = subst (λ (o : OrdererData). MulticastsLastAgain active place o y d z → MulticastsLastAgain active first a x d z) (sym p.same) onward q
  where
    onward : MulticastsLastAgain active place a y d z → MulticastsLastAgain active first a x d z
    onward r = record {
      goes = λ is c s desk w known below f.
          let g = p.goes (is ∙ right) c s desk w known below f in
          r.goes is c s desk w known g.1 (subst (λ (o : OrdererData). FitsEvent c a.endpoint.me s o desk w [] y) p.same g.0);
      same = r.same;
      more = p.more ++ r.more;
      given_is = r.given_is ∙ ap (λ (xs : List Output). xs ++ r.more) p.given_is ∙ append_assoc x p.more r.more;
    }

-- ---- one after another

-- the earlier messages are among the later ones
also_on : (first middle end : ℕ) (P Q R : OrdererData → List Output → Type 0) (a b d : OrdererData) (x y z : List Output)
    → ((o : OrdererData) (before more after : List Output) → after ≡ before ++ more → P o before → P o after) → ((o : OrdererData) (outs : List Output) → P o outs → Q o outs → R o outs)
    → MulticastsAlso first middle P a x b y → MulticastsAlso middle end Q b y d z → MulticastsAlso first end R a x d z
also_on first middle end P Q R a b d x y z stays both p q =
    (again_twice first middle end a b d x y z p.0 q.0, both a z (stays a y q.0.more z q.0.given_is p.1) (subst (λ (o : OrdererData). Q o z) p.0.same q.1))

pub row_again : (number : ℕ) (a b d e : OrdererData) (x y z w : List Output) → MulticastsAlso (row_place number) (row_place number + 1) (OutputsHaveBatch number) a x b y
    → MulticastsAlso (row_place number + 1) (row_place number + 2) (OutputsHaveVote phases.Prepare number) b y d z → MulticastsAlso (row_place number + 2) (row_place number + 3) (OutputsHaveVote phases.Commit number) d z e w
    → MulticastsAlso (row_place number) (row_place number + 3) (OutputsHaveRow number) a x e w
row_again number a b d e x y z w p q r =
    also_on (row_place number) (row_place number + 2) (row_place number + 3) (λ o outs. OutputsHaveBatch number o outs × OutputsHaveVote phases.Prepare number o outs) (OutputsHaveVote phases.Commit number) (OutputsHaveRow number) a d e x z w
    (λ o before more after is h. (batch_on before more after is o number h.0, vote_on before more after is o phases.Prepare number h.1)) (λ o outs h k. (h.0, h.1, k))
    (also_on (row_place number) (row_place number + 1) (row_place number + 2) (OutputsHaveBatch number) (OutputsHaveVote phases.Prepare number) (λ o outs. OutputsHaveBatch number o outs × OutputsHaveVote phases.Prepare number o outs) a b d x y z
    (λ o before more after is h. batch_on before more after is o number h) (λ o outs h k. (h, k)) p q) r

-- the new view, and the rows of the numbers from one on, up to below another
abbrev pub OutputsHaveRows : ℕ → ℕ → OrdererData → List Output → Type 0
OutputsHaveRows first end o outs = OutputsHaveNewView o outs × ((i : ℕ) → first ≤ i → i < end → OutputsHaveRow i o outs)

pub rows_begin : (first : ℕ) (a b : OrdererData) (x y : List Output) → 1 ≤ row_place first → MulticastsAlso 0 1 OutputsHaveNewView a x b y → MulticastsAlso 0 (row_place first) (OutputsHaveRows first first) a x b y
rows_begin first a b x y later p =
    (again_twice 0 1 (row_place first) a b b x y y p.0 (nothing_again 1 (row_place first) b y later), (p.1, λ i above below. absurd (omega (arith, above, below))))

pub one_row : (first number : ℕ) (a b d : OrdererData) (x y z : List Output) → MulticastsAlso 0 (row_place number) (OutputsHaveRows first number) a x b y
    → MulticastsAlso (row_place number) (row_place number + 3) (OutputsHaveRow number) b y d z → MulticastsAlso 0 (row_place (number + 1)) (OutputsHaveRows first (number + 1)) a x d z
one_row first number a b d x y z p q =
    let same : row_place number + 3 ≡ row_place (number + 1) = omega arith in
    subst (λ (n : ℕ). MulticastsAlso 0 n (OutputsHaveRows first (number + 1)) a x d z) same
    (also_on 0 (row_place number) (row_place number + 3) (OutputsHaveRows first number) (OutputsHaveRow number) (OutputsHaveRows first (number + 1)) a b d x y z
    (λ o before more after is h. (new_view_on before more after is o h.0, λ i above below. row_on before more after is o i (h.1 i above below)))
    (λ o outs h k. (h.0, λ i above below. go o outs i above h k (i == number) refl below)) p q)
  where
    go : (o : OrdererData) (outs : List Output) (i : ℕ) → first ≤ i → OutputsHaveRows first number o outs → OutputsHaveRow number o outs → (same : Bool) → (i == number) ≡ same → i < number + 1 → OutputsHaveRow i o outs
    go o outs i above h k true e below = subst (λ (n : ℕ). OutputsHaveRow n o outs) (sym (eqb-true i number e)) k
    go o outs i above h k false e below = h.1 i above (less (eqb-false i number e) below)
      where
        less : (i ≡ number → ⊥) → i < number + 1 → i < number
        less other l = omega (arith, other, l)

pub all_said : (executed end : ℕ) (a b d : OrdererData) (x y z : List Output) → a.log.low + a.log.span < end → MulticastsAlso 0 (row_place end) (OutputsHaveRows (executed + 1) end) a x b y
    → MulticastsLastAlso true (row_place end) OutputsHaveCheckpoint b y d z → MulticastsLastAlso true 0 (OutputsHaveAll executed) a x d z
all_said executed end a b d x y z whole p q = (
  again_last true 0 (row_place end) a b d x y z refl p.0 q.0,
  record {
    new_view = new_view_on y q.0.more z q.0.given_is a p.1.0;
    rows = λ i above most. row_on y q.0.more z q.0.given_is a i (p.1.1 i (omega (arith, above)) (omega (arith, most, whole)));
    checkpoint = subst (λ (o : OrdererData). OutputsHaveCheckpoint o z) p.0.same q.1;
  },
)

-- ---- a batch

-- the requests of the batch are authentic
held_are_genuine : (c : Configuration) (me : ℕ) (s : Start) (desk : Desk) (log : LogData) (due : List Message) (outputs : List Entry) (number : ℕ) (text : List ℕ) → events.BothFitWithinEvent c me s desk log due outputs
    → MayNumber c me desk log (after_outputs s outputs) number text → are_genuine c me text ≡ true
held_are_genuine c me s desk log due outputs number text f may =
    all_of_each (λ frame. Has (λ x. x ≡ frame) desk.frames) (λ request. is_some (authentic (members c me) me request)) (λ frame k. (f.of_desk.frames frame k).1) (requests_of text) may.held

pub says_batch : (number : ℕ) (text : List ℕ) (o mid new : OrdererData) (before after : List Output) → IsOrderer o
    → Multicasts o (PrePrepare o.log.view number text) before after → LogsBatch number text o mid → new ≡ record mid { used = number } → MulticastsOwnBatch number text o before new after
says_batch number text o mid new before after own says (pq_sets, adds, logs_it) is =
    subst (λ (x : OrdererData). MulticastsOwnBatch number text o before x after) (sym (is ∙ ap (λ (x : OrdererData). record x { used = number }) logs_it)) (record {
      endpoint = refl;
      log = refl;
      target = refl;
      goes = λ c s desk w due known calls reads may f.
          let k = said_in c o (PrePrepare o.log.view number text) before after known says in
          let past = given o.endpoint.me before in
          let e = Sent o.endpoint.me k.bytes in
          let faults = f.fits.of_log.faults in
          let on = batches_fit c o.endpoint.me s desk o.log due past number text k.bytes may k.is_outgoing f.fits in
          fits_behind c o.endpoint.me s o (record o { log = with_batch o.log number text; pq_sets = pq_sets; used = number }) desk desk w (with_numbered (length (unnumbered w)) w) due due before after
          e k.is refl f on
          (λ first. (flags_numbered c o.endpoint.me o.log.view o.used number w desk.state desk.waiting text k.bytes (after_outputs s past) calls
          (sym (primary_same c o.log o.log.view faults) ∙ may.own ∙ own.0) may.free (held_are_genuine c o.endpoint.me s desk o.log due past number text f.fits may) reads k.is_outgoing.says (f.numbers first)).1)
          (batches_enter_q c o.endpoint.me (after_outputs s past) e o.log (changes_held o) pq_sets o.endpoint.me number text
          (outputs_pass c o.endpoint.me s desk desk o.log (with_batch o.log number text) due due past e f.fits on) may.within (sym (f.fits.of_log.batches number may.within) ∙ may.free.unused number (omega arith)) k.is_outgoing.says adds f.changes);
    })
