-- An event that begins with bytes: what the replica drops, and what its log takes.
use Rattle.std.proofs.Common.{◌≡◌, ◌≢◌, ℕ, ◌+◌, ◌*◌, ◌<◌, inl, inr, Bool, true, false, not, cond, ◌&&◌, ◌==◌, List, [], ◌∷◌, Option, Some, None, refl, sym, ap, ◌∙◌, subst, nat_lt, nat_le, arith, eqb-true, ◌⊎◌}
use Rattle.std.specs.Prelude.{is_none}
use Rattle.std.specs.Bool.{then_some}
use Rattle.std.specs.Option.{option_and_then}
use Rattle.std.proofs.lemmas.Bool.{and_parts, false≢true, leb-true, ltb-true}
use lib.Dec.{eqb}
use Rattle.quorum.specs.Votes.{or_else}
use Rattle.terms.specs.declared.order.Number.{Number}
use Rattle.terms.specs.declared.parties.ReplicaId.{ReplicaId}
use Rattle.wire_format.specs.declared.messages.PrePrepare.{PrePrepare as WirePrePrepare}
use Rattle.wire_format.specs.declared.messages.Prepare.{Prepare as WirePrepare}
use Rattle.wire_format.specs.declared.messages.Commit.{Commit as WireCommit}
use Rattle.wire_format.specs.declared.messages.Checkpoint.{Checkpoint as WireCheckpoint}
use Rattle.wire_format.specs.declared.messages.Fetch.{Fetch as WireFetch}
use Rattle.wire_format.specs.declared.messages.ViewChange.{ViewChange as WireViewChange}
use Rattle.wire_format.specs.declared.messages.NewView.{NewView as WireNewView}
use Rattle.wire_format.specs.declared.messages.Meta.{Meta as WireMeta}
use Rattle.wire_format.specs.declared.messages.Page.{Page as WirePage}
use Rattle.wire_format.specs.Words.{requests_of}
use Rattle.wire_format.specs.declared.messages.Request.{Request as WireRequest}
use Rattle.wire_format.specs.declared.messages.Message.{Message as WireMessage}
use Rattle.wire_format.specs.declared.messages.Message.TheVariants as messages
use Rattle.wire.specs.Marks.{has_type_of_requests}
use Rattle.wire_format.specs.Spelling.{message_type}
use Rattle.wire_format.specs.Views.{message_data}
use Rattle.wire_format.specs.Messages.{BodyData as Body, NewViewData, pre_prepare as PrePrepare, prepare as Prepare, commit as Commit}
use Rattle.signing.specs.AuthenticBody.{authentic}
use Rattle.signing.proofs.AuthenticBody.{authentic_was_opened}
use Rattle.signing.proofs.Requests.{heard_is_marked}
use Rattle.ordering.specs.Log as logs
use Rattle.ordering.specs.Log.{LogData, is_in_marks, logged_batch, with_batch, with_prepare, with_commit, due_prepare, due_commit}
use Rattle.ordering.specs.Taking.{ordering_fault, fault_beside}
use Rattle.ordering.specs.declared.dropped.Dropped.{Dropped}
use Rattle.ordering.specs.declared.dropped.Dropped.TheVariants.{WrongView, OutOfMarks, UnknownSender}
use Rattle.ordering.specs.declared.votes.Vote.{Vote}
use Rattle.ordering.specs.Messages.{preprepare_fault_of}
use Rattle.sha2.specs.Sha256.{sha256}
use Rattle.authenticator.specs.Membership.{Membership, has_sender, is_client, is_replica}
use Rattle.frame_endpoint.specs.Endpoint.{are_authentic}
use Rattle.protocol.specs.System.Configuration.{Configuration, members, signers}
use Rattle.protocol.specs.System.Trace.{Entry}
use Rattle.protocol.specs.System.Trace.Entry.{Got}
use Rattle.protocol.specs.Replica.Certificates.{taken, are_genuine, brought, new_view_from, is_later, view, target}
use Rattle.protocol.specs.Replica.State.{State, call_in}
use Rattle.pq_sets.specs.PqSetsView.{PqSetsData}
use Rattle.replica_histories.specs.Questions.{has_question}
use Rattle.replica_histories.specs.Events as histories
use Rattle.replica_histories.specs.Events.{IsTaken}
use Rattle.replica_histories.specs.Changes.{CutsPqSets, FitsChanges, LogPassesEntry, KeepsChanges, IsNoBatch, IsNoChange}
use Rattle.replica_histories.proofs.ChangesPassing.{inputs_enter, changes_stay, pq_sets_are_above, batches_enter_q}
use Rattle.replica_histories.proofs.ChangesKept.{got_keep, received_keep, others_bring_none}
use Rattle.replica_histories.proofs.Questions.{others_owe_none}
use Rattle.replica_histories.specs.Inputs.{replies_again, IsBesideLog}
use Rattle.replica_histories.specs.Logs.{FitsLog, LogTakesBody}
use Rattle.replica_histories.proofs.Entering.{inputs_fit}
use Rattle.replica_histories.proofs.Resting.{held_are_settled}
use Rattle.replica_histories.proofs.Counting.{batches_count, batches_drop, prepares_count, prepares_drop, commits_count, commits_drop, others_drop, mapped_none}
use Rattle.replica.specs.declared.taking.DueWork.TheVariants as due_work
use Rattle.replica.specs.State.{BothPartsData, AreOne, Gives, heard}
use Rattle.replica.specs.Desks.{PartsFitEvent}
use Rattle.replica.specs.Going.{NothingIsLeft}
use Rattle.orderer.specs.Taking.{TakesBatch, TakesPrepare, TakesCommit}
use Rattle.replica.specs.BothParts.{BothPartsMatchHistory, me_of}
use Rattle.orderer.specs.State.{OrdererData}
use Rattle.orderer.specs.Fitting.{FitsEvent, changes_held}
use Rattle.orderer.specs.Going.{IsSameLog, IsVotedBut}
use Rattle.replica.specs.Entering.{event_of, TakesBytes, TakesMessage}
use Rattle.replica.proofs.Choosing.{active_begins_none}
use Rattle.replica.proofs.Parties.{one_self}
use Rattle.orderer.proofs.Staying.{numbers_alike, numbers_beside, said_on, same_rows}
use Rattle.desk.specs.DeskOf.{desk_of}
use Rattle.orderer.proofs.Parties.{same_log}
use Rattle.orderer.proofs.Voting.{due_elsewhere}

-- ---- between events

-- no message is left to send, and no batch to execute
pub rests : (c : Configuration) (r : BothPartsData) (past : List Entry) → BothPartsMatchHistory c r past → NothingIsLeft r
rests c r past runs =
    let settled = held_are_settled c (me_of r) (desk_of c r.desk) r.orderer.log past runs.holds in (
      (λ i. (runs.holds.of_log.prepares i, runs.holds.of_log.commits i)),
      settled.executes,
    )

-- ---- received messages

-- it is no ordered request, no view change and no new view, and asks for no part of a state
pub record IsNoCall (c : Configuration) (said : Option Body) : Type 0 where
  pub call : option_and_then (call_in c) said ≡ None
  pub asks : (st : State) → replies_again st said ≡ []
  pub parts : has_question said ≡ false
  pub views : option_and_then (new_view_from c) said ≡ None
  pub changes : IsNoChange said

-- a message that brings no new view takes none
pub none_taken : (c : Configuration) (past : List Entry) (e : Entry) → option_and_then (new_view_from c) (brought c e) ≡ None → taken c past e ≡ None
none_taken c past e h = ap (option_and_then (λ (new : NewViewData). then_some (is_later (view c past) (target past) new) new)) h

-- With this log and these sets P and Q, the view-change data fit after the bytes.
abbrev pub ChangesFit : (r : BothPartsData) (c : Configuration) (past : List Entry) → List ℕ → LogData → PqSetsData → Type 0
ChangesFit r c past bytes after pq_sets = LogPassesEntry c (me_of r) past (Got (me_of r) bytes) r.orderer.log after
    → FitsChanges c (me_of r) after (record (changes_held r.orderer) { pq_sets = pq_sets }) (Got (me_of r) bytes ∷ past)

-- The log takes the bytes, which count.
pub record TakesOne (r : BothPartsData) (c : Configuration) (past : List Entry) (runs : BothPartsMatchHistory c r past) (bytes : List ℕ) (after : LogData) (pq_sets : PqSetsData) : Type 0 where
  pub takes : LogTakesBody c (me_of r) (authentic (members c (me_of r)) (me_of r) bytes) r.orderer.log after
  pub none : IsNoCall c (authentic (members c (me_of r)) (me_of r) bytes)
  pub counts : IsTaken c (me_of r) (event_of c r past runs bytes)
  pub changes : ChangesFit r c past bytes after pq_sets

module _ (r : BothPartsData) (one : AreOne r.orderer r.desk) where
  -- what the orderer hears is authentic in the configuration
  pub heard_by : (c : Configuration) (bytes : List ℕ) (body : Body) → Gives c r.orderer → heard r.orderer bytes ≡ Some body
      → authentic (members c (me_of r)) (me_of r) bytes ≡ Some body
  heard_by c bytes body known h = ap (λ m. authentic m (me_of r) bytes) known ∙ h

  -- So they do if the bytes change no view-change data, and the low mark stays.
  pub changes_kept : (c : Configuration) (past : List Entry) (runs : BothPartsMatchHistory c r past) (bytes : List ℕ) (after : LogData) → IsSameLog r.orderer.log after → after.low ≡ r.orderer.log.low
      → (LogPassesEntry c (me_of r) past (Got (me_of r) bytes) r.orderer.log after → KeepsChanges c (me_of r) past (Got (me_of r) bytes)) → ChangesFit r c past bytes after r.orderer.pq_sets
  changes_kept c past runs bytes after same low keeps passes =
      changes_stay c (me_of r) past (Got (me_of r) bytes) r.orderer.log after (changes_held r.orderer) r.orderer.pq_sets passes (record { view = same.view; active = same.active }) (keeps passes)
      (subst (λ (n : ℕ). CutsPqSets n r.orderer.pq_sets r.orderer.pq_sets) (sym low)
      (pq_sets_are_above c (me_of r) r.orderer.log past r.orderer.pq_sets runs.holds.of_log.fits runs.changes.pq_sets)) runs.changes

  -- bytes that are no ordered request, of which the log may take something
  pub begins_with : (c : Configuration) (past : List Entry) (runs : BothPartsMatchHistory c r past) (bytes : List ℕ) (after : LogData) (pq_sets : PqSetsData)
      → IsSameLog r.orderer.log after → LogTakesBody c (me_of r) (authentic (members c (me_of r)) (me_of r) bytes) r.orderer.log after → IsNoCall c (authentic (members c (me_of r)) (me_of r) bytes)
      → ChangesFit r c past bytes after pq_sets
      → PartsFitEvent c (event_of c r past runs bytes) (record r.orderer { log = after; pq_sets = pq_sets }) r.desk [] []
  begins_with c past runs bytes after pq_sets same takes none changes = record {
    is = runs.is_desk;
    fits = subst (λ (m : ℕ). FitsEvent c m (event_of c r past runs bytes) (record r.orderer { log = after; pq_sets = pq_sets }) (desk_of c r.desk) r.desk.waiting [] []) (sym one.0) event;
  }
    where
      free : taken c past (Got (me_of r) bytes) ≡ None
      free = none_taken c past (Got (me_of r) bytes) none.views

      enters : histories.BothFitWithinEvent c (me_of r) (event_of c r past runs bytes) (desk_of c r.desk) after [] []
      enters = inputs_fit c (me_of r) (desk_of c r.desk) (desk_of c r.desk) r.orderer.log after [] past bytes runs.holds free (record {
        takes = takes;
        state = refl;
        snapshots = refl;
        waiting = rw none.call refl;
        transfer = refl;
        frames = λ frame h. inl h;
        due_is = sym (none.asks r.desk.executed.state);
      })

      event : FitsEvent c (me_of r) (event_of c r past runs bytes) (record r.orderer { log = after; pq_sets = pq_sets }) (desk_of c r.desk) r.desk.waiting [] []
      event = record {
        fits = enters;
        numbers = numbers_alike c (me_of r) r.desk.waiting r.orderer (record r.orderer { log = after; pq_sets = pq_sets }) (desk_of c r.desk) (Got (me_of r) bytes ∷ past) same refl
            (numbers_beside c (me_of r) r.desk.waiting r.orderer (desk_of c r.desk) past (Got (me_of r) bytes) runs.holds.of_log.fits.faults runs.holds.of_log.fits.own
            (record { here = refl; none = free; sends = refl }) runs.numbers);
        said = said_on (me_of r) r.orderer.last_checkpoint past (Got (me_of r) bytes) runs.said;
        changes = changes (inputs_enter c (me_of r) (desk_of c r.desk) (desk_of c r.desk) r.orderer.log after [] past (Got (me_of r) bytes) runs.holds enters);
        meant = tt;
      }

  -- Dropped bytes change nothing.
  pub drops : (bytes : List ℕ)
      → ((c : Configuration) (past : List Entry) → BothPartsMatchHistory c r past → Gives c r.orderer
      → LogTakesBody c (me_of r) (authentic (members c (me_of r)) (me_of r) bytes) r.orderer.log r.orderer.log × IsNoCall c (authentic (members c (me_of r)) (me_of r) bytes))
      → TakesBytes bytes r due_work.Nothing r []
  drops bytes none = record {
    party = one_self r;
    begins = λ c past runs known. let n = none c past runs known in (
      begins_with c past runs bytes r.orderer.log r.orderer.pq_sets (same_log r.orderer.log) n.0 n.1 (kept c past runs n.1),
      (
        rests c r past runs,
        runs.all,
        others_owe_none c (me_of r) past (Got (me_of r) bytes) [] runs.holds.of_desk.point r.desk.executed.state.number n.1.parts,
        inl refl,
      ),
      runs.nothing_begins,
    );
  }
    where
      kept : (c : Configuration) (past : List Entry) (runs : BothPartsMatchHistory c r past) → IsNoCall c (authentic (members c (me_of r)) (me_of r) bytes) → ChangesFit r c past bytes r.orderer.log r.orderer.pq_sets
      kept c past runs silent = changes_kept c past runs bytes r.orderer.log (same_log r.orderer.log) refl
          (λ passes. got_keep c (me_of r) past bytes r.orderer.log r.orderer.log passes (record { view = refl; active = refl }) (none_taken c past (Got (me_of r) bytes) silent.views)
          (λ i within. refl) (λ s other. others_bring_none c (me_of r) s past bytes silent.changes other))

  -- A message that the log takes touches one number.
  pub takes_row : (bytes : List ℕ) (number : Number) (after : LogData) (pq_sets : PqSetsData)
      → IsSameLog r.orderer.log after → r.orderer.log.active ≡ true → ((i : ℕ) → i ≢ number.0 → (due_prepare after i ≡ due_prepare r.orderer.log i) × (due_commit after i ≡ due_commit r.orderer.log i))
      → ((c : Configuration) (past : List Entry) (runs : BothPartsMatchHistory c r past) → Gives c r.orderer → TakesOne r c past runs bytes after pq_sets)
      → TakesBytes bytes r (due_work.Row number) (record r { orderer = record r.orderer { log = after; pq_sets = pq_sets } }) []
  takes_row bytes number after pq_sets same active others takes = record {
    party = record { endpoint = refl; me = refl; membership = refl };
    begins = λ c past runs known. let t = takes c past runs known in (
      begins_with c past runs bytes after pq_sets same t.takes t.none t.changes,
      (voted c past runs, (t.counts, t.none.parts)),
      active_begins_none c (record r.orderer { log = after; pq_sets = pq_sets }) (same.active ∙ active),
    );
  }
    where
      voted : (c : Configuration) (past : List Entry) → BothPartsMatchHistory c r past → IsVotedBut number.0 after
      voted c past runs i ne = ((others i ne).0 ∙ (runs.holds.of_log.prepares i), (others i ne).1 ∙ (runs.holds.of_log.commits i))

-- ---- messages without a fault

no_fault : {A : Type 0} (first later : Option A) → or_else first later ≡ None → first ≡ None
no_fault None later h = refl
no_fault (Some x) later h = absurd cc

-- a message for the log's view, of a number within the marks
record Fitting (log : LogData) (may_send : Bool) (v i : ℕ) : Type 0 where
  pub sends : may_send ≡ true
  pub view : v ≡ log.view
  pub within : is_in_marks log i ≡ true
  pub active : log.active ≡ true

fitting : (log : LogData) (may_send : Bool) (v i : ℕ) → ordering_fault log may_send v i ≡ None → Fitting log may_send v i
fitting log may_send v i h = go may_send (logs.is_active_in log v) (is_in_marks log i) refl refl refl h
  where
    go : (sends active within : Bool) → may_send ≡ sends → logs.is_active_in log v ≡ active → is_in_marks log i ≡ within
        → cond (not sends) (Some UnknownSender) (cond (not active) (Some WrongView) (cond (not within) (Some OutOfMarks) None)) ≡ None → Fitting log may_send v i
    go false active within a b d h = absurd cc
    go true false within a b d h = absurd cc
    go true true false a b d h = absurd cc
    go true true true a b d h = record { sends = a; view = eqb-true v log.view (and_parts (v == log.view) log.active b).0; within = d; active = (and_parts (v == log.view) log.active b).1 }

-- a vote of the sender
abbrev vote_by : ReplicaId → List ℕ → Vote
vote_by sender digest = record { sender = sender; digest = digest }

-- a vote is no call, and changes no view-change data
none_of : (r : BothPartsData) (bytes : List ℕ) (c : Configuration) (body : Body) → authentic (members c (me_of r)) (me_of r) bytes ≡ Some body → IsNoCall c (Some body) → IsNoCall c (authentic (members c (me_of r)) (me_of r) bytes)
none_of r bytes c body receives none = subst (IsNoCall c) (sym receives) none

prepare_none : (r : BothPartsData) (bytes : List ℕ) (c : Configuration) (s v i : ℕ) (digest : List ℕ) → authentic (members c (me_of r)) (me_of r) bytes ≡ Some (record { sender = s; message = Prepare v i digest })
    → IsNoCall c (authentic (members c (me_of r)) (me_of r) bytes)
prepare_none r bytes c s v i digest receives = none_of r bytes c _ receives (record { call = refl; asks = λ st. refl; parts = refl; views = refl; changes = tt })

commit_none : (r : BothPartsData) (bytes : List ℕ) (c : Configuration) (s v i : ℕ) (digest : List ℕ) → authentic (members c (me_of r)) (me_of r) bytes ≡ Some (record { sender = s; message = Commit v i digest })
    → IsNoCall c (authentic (members c (me_of r)) (me_of r) bytes)
commit_none r bytes c s v i digest receives = none_of r bytes c _ receives (record { call = refl; asks = λ st. refl; parts = refl; views = refl; changes = tt })

batch_none : (r : BothPartsData) (bytes : List ℕ) (c : Configuration) (s v i : ℕ) (batch : List ℕ) → authentic (members c (me_of r)) (me_of r) bytes ≡ Some (record { sender = s; message = PrePrepare v i batch })
    → IsNoCall c (authentic (members c (me_of r)) (me_of r) bytes)
batch_none r bytes c s v i batch receives = none_of r bytes c _ receives (record { call = refl; asks = λ st. refl; parts = refl; views = refl; changes = tt })

votes_keep : (r : BothPartsData) (bytes : List ℕ) (c : Configuration) (past : List Entry) → IsNoCall c (authentic (members c (me_of r)) (me_of r) bytes) → IsNoBatch (authentic (members c (me_of r)) (me_of r) bytes)
    → KeepsChanges c (me_of r) past (Got (me_of r) bytes)
votes_keep r bytes c past none no_batch =
    received_keep c (me_of r) past bytes (none_taken c past (Got (me_of r) bytes) none.views) no_batch (λ s other. others_bring_none c (me_of r) s past bytes none.changes other)

pub prepare_taken : (r : BothPartsData) (sender : ReplicaId) (p : WirePrepare) (new : OrdererData) → AreOne r.orderer r.desk → TakesPrepare r.orderer sender p new true
    → TakesMessage sender (Prepare p.view.0 p.number.0 p.digest) r (due_work.Row p.number) (record r { orderer = new }) []
prepare_taken r sender p new one t bytes h =
    subst (λ (o : OrdererData). TakesBytes bytes r (due_work.Row p.number) (record r { orderer = o }) []) (sym t.1)
    (takes_row r one bytes p.number (with_prepare r.orderer.log p.number.0 vote) r.orderer.pq_sets (same_rows r.orderer.log (with_prepare r.orderer.log p.number.0 vote).rows) active
    (λ i ne. due_elsewhere r.orderer.log i p.number.0 _ inside ne) takes)
  where
    vote : Vote
    vote = vote_by sender p.digest

    inside : is_in_marks r.orderer.log p.number.0 ≡ true
    inside = (fitting r.orderer.log _ p.view.0 p.number.0 (no_fault _ (fault_beside (logs.prepare_of r.orderer.log p.number.0 sender.0) p.digest) t.0)).within

    active : r.orderer.log.active ≡ true
    active = (fitting r.orderer.log _ p.view.0 p.number.0 (no_fault _ (fault_beside (logs.prepare_of r.orderer.log p.number.0 sender.0) p.digest) t.0)).active

    takes : (c : Configuration) (past : List Entry) (runs : BothPartsMatchHistory c r past) → Gives c r.orderer
        → TakesOne r c past runs bytes (with_prepare r.orderer.log p.number.0 vote) r.orderer.pq_sets
    takes c past runs known =
        let receives = heard_by r one c bytes _ known h in
        let counts = prepares_count c (me_of r) r.orderer.log past runs.holds.of_desk.point sender.0 p.view.0 p.number.0 p.digest bytes vote runs.holds.of_log.fits receives t.0 refl refl in record {
          takes = counts.1;
          none = prepare_none r bytes c sender.0 p.view.0 p.number.0 p.digest receives;
          counts = (record { sender = sender.0; message = Prepare p.view.0 p.number.0 p.digest }, receives, counts.0);
          changes = changes_kept r one c past runs bytes (with_prepare r.orderer.log p.number.0 vote) (same_rows r.orderer.log (with_prepare r.orderer.log p.number.0 vote).rows) refl
              (λ passes. votes_keep r bytes c past (prepare_none r bytes c sender.0 p.view.0 p.number.0 p.digest receives) (rw receives tt));
        }

pub commit_taken : (r : BothPartsData) (sender : ReplicaId) (p : WireCommit) (new : OrdererData) → AreOne r.orderer r.desk → TakesCommit r.orderer sender p new true
    → TakesMessage sender (Commit p.view.0 p.number.0 p.digest) r (due_work.Row p.number) (record r { orderer = new }) []
commit_taken r sender p new one t bytes h =
    subst (λ (o : OrdererData). TakesBytes bytes r (due_work.Row p.number) (record r { orderer = o }) []) (sym t.1)
    (takes_row r one bytes p.number (with_commit r.orderer.log p.number.0 vote) r.orderer.pq_sets (same_rows r.orderer.log (with_commit r.orderer.log p.number.0 vote).rows) active
    (λ i ne. due_elsewhere r.orderer.log i p.number.0 _ inside ne) takes)
  where
    vote : Vote
    vote = vote_by sender p.digest

    inside : is_in_marks r.orderer.log p.number.0 ≡ true
    inside = (fitting r.orderer.log _ p.view.0 p.number.0 (no_fault _ (fault_beside (logs.commit_of r.orderer.log p.number.0 sender.0) p.digest) t.0)).within

    active : r.orderer.log.active ≡ true
    active = (fitting r.orderer.log _ p.view.0 p.number.0 (no_fault _ (fault_beside (logs.commit_of r.orderer.log p.number.0 sender.0) p.digest) t.0)).active

    takes : (c : Configuration) (past : List Entry) (runs : BothPartsMatchHistory c r past) → Gives c r.orderer
        → TakesOne r c past runs bytes (with_commit r.orderer.log p.number.0 vote) r.orderer.pq_sets
    takes c past runs known =
        let receives = heard_by r one c bytes _ known h in
        let counts = commits_count c (me_of r) r.orderer.log past runs.holds.of_desk.point sender.0 p.view.0 p.number.0 p.digest bytes vote runs.holds.of_log.fits receives t.0 refl refl in record {
          takes = counts.1;
          none = commit_none r bytes c sender.0 p.view.0 p.number.0 p.digest receives;
          counts = (record { sender = sender.0; message = Commit p.view.0 p.number.0 p.digest }, receives, counts.0);
          changes = changes_kept r one c past runs bytes (with_commit r.orderer.log p.number.0 vote) (same_rows r.orderer.log (with_commit r.orderer.log p.number.0 vote).rows) refl
              (λ passes. votes_keep r bytes c past (commit_none r bytes c sender.0 p.view.0 p.number.0 p.digest receives) (rw receives tt));
        }

-- ---- messages with a fault

pub some_fault : (o : Option Dropped) → is_none o ≡ false → (fault : Dropped) × (o ≡ Some fault)
some_fault None h = absurd cc
some_fault (Some x) h = (x, refl)

pub prepare_dropped : (r : BothPartsData) (sender : ReplicaId) (p : WirePrepare) (new : OrdererData) → AreOne r.orderer r.desk → TakesPrepare r.orderer sender p new false
    → TakesMessage sender (Prepare p.view.0 p.number.0 p.digest) r due_work.Nothing (record r { orderer = new }) []
prepare_dropped r sender p new one t bytes h =
    subst (λ (o : OrdererData). TakesBytes bytes r due_work.Nothing (record r { orderer = o }) []) (sym t.1) (drops r one bytes none)
  where
    none : (c : Configuration) (past : List Entry) → BothPartsMatchHistory c r past → Gives c r.orderer
        → LogTakesBody c (me_of r) (authentic (members c (me_of r)) (me_of r) bytes) r.orderer.log r.orderer.log × IsNoCall c (authentic (members c (me_of r)) (me_of r) bytes)
    none c past runs known =
        let receives = heard_by r one c bytes _ known h in
        let fault = some_fault _ t.0 in (
          prepares_drop c (me_of r) r.orderer.log past sender.0 p.view.0 p.number.0 p.digest bytes fault.0 runs.holds.of_log.fits receives fault.1,
          prepare_none r bytes c sender.0 p.view.0 p.number.0 p.digest receives,
        )

pub commit_dropped : (r : BothPartsData) (sender : ReplicaId) (p : WireCommit) (new : OrdererData) → AreOne r.orderer r.desk → TakesCommit r.orderer sender p new false
    → TakesMessage sender (Commit p.view.0 p.number.0 p.digest) r due_work.Nothing (record r { orderer = new }) []
commit_dropped r sender p new one t bytes h =
    subst (λ (o : OrdererData). TakesBytes bytes r due_work.Nothing (record r { orderer = o }) []) (sym t.1) (drops r one bytes none)
  where
    none : (c : Configuration) (past : List Entry) → BothPartsMatchHistory c r past → Gives c r.orderer
        → LogTakesBody c (me_of r) (authentic (members c (me_of r)) (me_of r) bytes) r.orderer.log r.orderer.log × IsNoCall c (authentic (members c (me_of r)) (me_of r) bytes)
    none c past runs known =
        let receives = heard_by r one c bytes _ known h in
        let fault = some_fault _ t.0 in (
          commits_drop c (me_of r) r.orderer.log past sender.0 p.view.0 p.number.0 p.digest bytes fault.0 runs.holds.of_log.fits receives fault.1,
          commit_none r bytes c sender.0 p.view.0 p.number.0 p.digest receives,
        )

pub batch_dropped : (r : BothPartsData) (sender : ReplicaId) (p : WirePrePrepare) (new : OrdererData) → AreOne r.orderer r.desk → TakesBatch r.orderer sender p new false
    → TakesMessage sender (PrePrepare p.view.0 p.number.0 p.batch.text.items) r due_work.Nothing (record r { orderer = new }) []
batch_dropped r sender p new one t bytes h =
    subst (λ (o : OrdererData). TakesBytes bytes r due_work.Nothing (record r { orderer = o }) []) (sym t.1) (drops r one bytes none)
  where
    why : (c : Configuration) → Gives c r.orderer
        → (is_none (preprepare_fault_of r.orderer.log sender p) ≡ false) ⊎ (are_authentic r.orderer.endpoint.membership r.orderer.endpoint.me (requests_of p.batch.text.items) ≡ false)
        → ((fault : Dropped) × (preprepare_fault_of r.orderer.log sender p ≡ Some fault)) ⊎ (are_genuine c (me_of r) p.batch.text.items ≡ false)
    why c known (inl e) = inl (some_fault _ e)
    why c known (inr e) = inr (ap (λ (m : Membership). are_authentic m (me_of r) (requests_of p.batch.text.items)) known ∙ e)

    none : (c : Configuration) (past : List Entry) → BothPartsMatchHistory c r past → Gives c r.orderer
        → LogTakesBody c (me_of r) (authentic (members c (me_of r)) (me_of r) bytes) r.orderer.log r.orderer.log × IsNoCall c (authentic (members c (me_of r)) (me_of r) bytes)
    none c past runs known =
        let receives = heard_by r one c bytes _ known h in (
          batches_drop c (me_of r) r.orderer.log past sender.0 p.view.0 p.number.0 p.batch.text.items bytes runs.holds.of_log.fits receives (why c known t.0),
          batch_none r bytes c sender.0 p.view.0 p.number.0 p.batch.text.items receives,
        )

-- ---- a batch

no_fault_later : {A : Type 0} (first later : Option A) → or_else first later ≡ None → later ≡ None
no_fault_later None later h = h
no_fault_later (Some x) later h = absurd cc

no_digest : (first : Option (List ℕ)) (digest : List ℕ) → fault_beside first digest ≡ None → first ≡ None
no_digest None digest h = refl
no_digest (Some x) digest h = absurd cc

-- if the log has no digest for a number, it has no batch
no_batch : (log : LogData) (i : ℕ) → is_in_marks log i ≡ true → logs.logged_digest log i ≡ None → logged_batch log i ≡ None
no_batch log i within h = ap (λ (b : Bool). cond b (logs.row_of log i).batch None) within ∙ mapped_none sha256 (logs.row_of log i).batch (sym (ap (λ (b : Bool). cond b (logs.digest_of (logs.row_of log i)) None) within) ∙ h)

pub batch_taken : (r : BothPartsData) (sender : ReplicaId) (p : WirePrePrepare) (new : OrdererData) → AreOne r.orderer r.desk → TakesBatch r.orderer sender p new true
    → TakesMessage sender (PrePrepare p.view.0 p.number.0 p.batch.text.items) r (due_work.Row p.number) (record r { orderer = new }) []
batch_taken r sender p new one (free, were_heard, (pq_sets, adds, is)) bytes h =
    subst (λ (o : OrdererData). TakesBytes bytes r (due_work.Row p.number) (record r { orderer = o }) []) (sym is)
    (takes_row r one bytes p.number (with_batch r.orderer.log p.number.0 p.batch.text.items) pq_sets (same_rows r.orderer.log (with_batch r.orderer.log p.number.0 p.batch.text.items).rows) fits.active
    (λ i ne. due_elsewhere r.orderer.log i p.number.0 _ fits.within ne) takes)
  where
    beside : Option Dropped
    beside = fault_beside (logs.logged_digest r.orderer.log p.number.0) (sha256 p.batch.text.items)

    fits : Fitting r.orderer.log (sender.0 == logs.primary r.orderer.log p.view.0) p.view.0 p.number.0
    fits = fitting r.orderer.log _ p.view.0 p.number.0 (no_fault _ beside free)

    takes : (c : Configuration) (past : List Entry) (runs : BothPartsMatchHistory c r past) → Gives c r.orderer
        → TakesOne r c past runs bytes (with_batch r.orderer.log p.number.0 p.batch.text.items) pq_sets
    takes c past runs known =
        let receives = heard_by r one c bytes _ known h in
        let genuine = ap (λ (m : Membership). are_authentic m (me_of r) (requests_of p.batch.text.items)) known ∙ were_heard in
        let counts = batches_count c (me_of r) r.orderer.log past runs.holds.of_desk.point sender.0 p.view.0 p.number.0 p.batch.text.items bytes runs.holds.of_log.fits receives free genuine in
        record {
          takes = counts.1;
          none = batch_none r bytes c sender.0 p.view.0 p.number.0 p.batch.text.items receives;
          counts = (record { sender = sender.0; message = PrePrepare p.view.0 p.number.0 p.batch.text.items }, receives, counts.0);
          changes = λ passes. batches_enter_q c (me_of r) past (Got (me_of r) bytes) r.orderer.log (changes_held r.orderer) pq_sets sender.0 p.number.0 p.batch.text.items passes fits.within
              (no_batch r.orderer.log p.number.0 fits.within (no_digest (logs.logged_digest r.orderer.log p.number.0) (sha256 p.batch.text.items) (no_fault_later _ beside free)))
              (receives ∙ ap (λ (v : ℕ). Some (record { sender = sender.0; message = PrePrepare v p.number.0 p.batch.text.items })) fits.view) adds runs.changes;
        }

-- ---- messages that no rule takes here

-- no message of the three phases, no checkpoint, no fetch and no part, no view change and no new view
abbrev pub IsOther : WireMessage → Type 0
IsOther m = ((x : WirePrePrepare) → m ≡ messages.PrePrepare x → ⊥) × ((x : WirePrepare) → m ≡ messages.Prepare x → ⊥) × ((x : WireCommit) → m ≡ messages.Commit x → ⊥)
    × ((x : WireCheckpoint) → m ≡ messages.Checkpoint x → ⊥) × ((x : WireFetch) → m ≡ messages.Fetch x → ⊥)
    × ((x : WireViewChange) → m ≡ messages.ViewChange x → ⊥) × ((x : WireNewView) → m ≡ messages.NewView x → ⊥)
    × ((x : WireMeta) → m ≡ messages.Meta x → ⊥) × ((x : WirePage) → m ≡ messages.Page x → ⊥)

other_beside : (s : ℕ) (m : WireMessage) → IsOther m → IsBesideLog (Some (record { sender = s; message = message_data m }))
other_beside s (messages.PrePrepare x) h = h.0 x refl
other_beside s (messages.Prepare x) h = h.1 x refl
other_beside s (messages.Commit x) h = h.2 x refl
other_beside s (messages.Checkpoint x) h = h.3 x refl
other_beside s _ h = tt

-- Nor is it a client's, if a replica sent it.
no_client : (m : Membership) (s : ℕ) → s < 256 → is_client m s ≡ false
no_client m s below = go (nat_le 256 s) refl
  where
    go : (b : Bool) → nat_le 256 s ≡ b → (b && nat_lt s (256 + m.clients)) ≡ false
    go false e = refl
    go true e = let l = leb-true 256 s e in absurd (omega (arith, l, below))

other_no_call : (c : Configuration) (m : Membership) (s : ℕ) (w : WireMessage) → s < 256 → has_sender m (record { sender = s; message = message_data w }) ≡ true → IsOther w
    → IsNoCall c (Some (record { sender = s; message = message_data w }))
other_no_call c m s (messages.Request x) below sends other = absurd (let bad : false ≡ true = sym (no_client m s below) ∙ sends in cc)
other_no_call c m s (messages.ViewChange x) below sends other = absurd (other.5 x refl)
other_no_call c m s (messages.NewView x) below sends other = absurd (other.6 x refl)
other_no_call c m s (messages.Fetch x) below sends other = absurd (other.4 x refl)
other_no_call c m s (messages.Meta x) below sends other = absurd (other.7 x refl)
other_no_call c m s (messages.Page x) below sends other = absurd (other.8 x refl)
other_no_call c m s _ below sends other = record { call = refl; asks = λ st. refl; parts = refl; views = refl; changes = tt }

-- A received message that has no part in the three phases is dropped.
drops_heard : (r : BothPartsData) (bytes : List ℕ) (body : Body) → AreOne r.orderer r.desk → IsBesideLog (Some body) → ((c : Configuration) → IsNoCall c (Some body))
    → heard r.orderer bytes ≡ Some body → TakesBytes bytes r due_work.Nothing r []
drops_heard r bytes body one beside none h = drops r one bytes (λ c past runs known. let receives = heard_by r one c bytes body known h in
    (others_drop c (me_of r) r.orderer.log past bytes runs.holds.of_log.fits (rw receives beside), rw receives (none c)))

pub other_dropped : (r : BothPartsData) (sender : ReplicaId) (m : WireMessage) → AreOne r.orderer r.desk → sender.0 < 256 → IsOther m → TakesMessage sender (message_data m) r due_work.Nothing r []
other_dropped r sender m one below other bytes h =
    let o = authentic_was_opened r.orderer.endpoint.membership (me_of r) bytes (record { sender = sender.0; message = message_data m }) h in
    let sends = subst (λ (b : Body). has_sender r.orderer.endpoint.membership b ≡ true) o.body_is o.opens.sender in
    drops_heard r bytes _ one (other_beside sender.0 m other) (λ c. other_no_call c r.orderer.endpoint.membership sender.0 m below sends other) h

-- ---- nothing, and client messages beside ordered requests

pub silent_dropped : (r : BothPartsData) (bytes : List ℕ) → AreOne r.orderer r.desk
    → ((c : Configuration) (past : List Entry) → BothPartsMatchHistory c r past → Gives c r.orderer → authentic (members c (me_of r)) (me_of r) bytes ≡ None) → TakesBytes bytes r due_work.Nothing r []
silent_dropped r bytes one none = drops r one bytes (λ c past runs known. let silent = none c past runs known in
    (others_drop c (me_of r) r.orderer.log past bytes runs.holds.of_log.fits (rw silent tt), subst (IsNoCall c) (sym silent) (record { call = refl; asks = λ st. refl; parts = refl; views = refl; changes = tt })))

pub silence_dropped : (r : BothPartsData) (bytes : List ℕ) → AreOne r.orderer r.desk → heard r.orderer bytes ≡ None → TakesBytes bytes r due_work.Nothing r []
silence_dropped r bytes one h = silent_dropped r bytes one (λ c past runs known. ap (λ m. authentic m (me_of r) bytes) known ∙ h)

-- clients send only requests
pub client_dropped : (r : BothPartsData) (k : ℕ) (m : WireMessage) (bytes : List ℕ) → AreOne r.orderer r.desk → has_type_of_requests bytes ≡ false
    → heard r.orderer bytes ≡ Some (record { sender = 256 + k; message = message_data m }) → TakesBytes bytes r due_work.Nothing r []
client_dropped r k m bytes one unmarked h = drops r one bytes (λ c past runs known.
    let receives = heard_by r one c bytes _ known h in
    let sender = (authentic_was_opened (members c (me_of r)) (me_of r) bytes _ receives) in
    absurd (no_sender c past m other runs.holds.of_log.fits (subst (λ (b : Body). has_sender (members c (me_of r)) b ≡ true) sender.body_is sender.opens.sender)))
  where
    other : (x : WireRequest) → m ≡ messages.Request x → ⊥
    other x e =
        let marked = heard_is_marked r.orderer.endpoint.membership (me_of r) bytes _ h ∙ ap (λ (y : WireMessage). eqb (message_type (message_data y)) 0x41) e in
        false≢true (sym unmarked ∙ marked)

    no_replica : (c : Configuration) (past : List Entry) → FitsLog c (me_of r) r.orderer.log past → is_replica (signers c) (256 + k) ≡ true → ⊥
    no_replica c past f h = let l = ltb-true (256 + k) (3 * c.faults + 1) h in let few = f.is_log.few in let same = f.faults in absurd (omega (arith, l, few, same))

    no_sender : (c : Configuration) (past : List Entry) (x : WireMessage) → ((y : WireRequest) → x ≡ messages.Request y → ⊥) → FitsLog c (me_of r) r.orderer.log past
        → has_sender (members c (me_of r)) (record { sender = 256 + k; message = message_data x }) ≡ true → ⊥
    no_sender c past (messages.Request x) other f h = other x refl
    no_sender c past _ other f h = no_replica c past f h
