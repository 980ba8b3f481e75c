-- What an orderer holds as batches stays batches, whatever it takes.
use Rattle.std.proofs.Common.{◌≡◌, Bool, true, false, Option, None, Result, Ok, Err, inr, sym, ℕ, suc, zero, ◌<◌, ◌≤◌, not, ◌&&◌, cond, List, [], ◌∷◌, length, map, Some, inl, refl, ap, ◌∙◌, subst, arith, ◌==◌, nat_lt, eqb-true}
use Rattle.std.proofs.lemmas.Option.{none-some}
use Rattle.std.specs.Prelude.{◌-◌, if◌then◌else◌, is_err, replicate, slice_index_or, IfNone, IfOk, IfSome, MatchOption}
use Rattle.terms.specs.declared.parties.ReplicaId.{ReplicaId}
use Rattle.wire_format.specs.declared.messages.Checkpoint.{Checkpoint as CheckpointMessage, Checkpoint}
use Rattle.ordering.specs.declared.dropped.Dropped.{Dropped}
use Rattle.ordering.specs.Log as logs
use Rattle.ordering.specs.Log.{LogData}
use Rattle.ordering.specs.Checkpoints.{lists_checkpoint}
use Rattle.ordering.specs.Messages.{checkpoint_fault_of, LogTakesPrepare, LogTakesCommit, LogTakesCheckpoint}
use Rattle.ordering.specs.Taking.{TakesOrDrops}
use Rattle.orderer.specs.State.{OrdererData, HoldsBatches, IsOrderer}
use Rattle.orderer.specs.Checkpoints.{TakesCheckpoint as TakesOne, counting, said_entry}
use Rattle.std.specs.Bool.{then_some}
use Rattle.std.specs.List.{list_all}
use Rattle.terms.specs.declared.order.View.{View}
use Rattle.wire_format.specs.Lists.{Each}
use Rattle.wire_format.specs.Messages.{BodyData as Body, CheckpointEntryData as CheckpointEntry, ViewChangeData, new_view as NewView, pre_prepare as PrePrepare}
use Rattle.wire_format.specs.Spelling.{IsBatch, IsMessage}
use Rattle.wire_format.specs.Views.{message_data, new_view_data}
use Rattle.wire_format.specs.declared.messages.Checkpoint.{Checkpoint}
use Rattle.wire_format.specs.declared.messages.Commit.{Commit}
use Rattle.wire_format.specs.declared.messages.Prepare.{Prepare}
use Rattle.wire_format.specs.declared.messages.Message.{Message as WireMessage}
use Rattle.wire_format.specs.declared.messages.Message.TheVariants as messages
use Rattle.wire_format.specs.declared.messages.Meta.{Meta as WireMeta}
use Rattle.wire_format.specs.declared.messages.NewView.{NewView as WireNewView}
use Rattle.wire_format.specs.declared.messages.PrePrepare.{PrePrepare as WirePrePrepare}
use Rattle.authenticator.specs.Membership.{Membership}
use Rattle.signing.specs.AuthenticBody.{authentic}
use Rattle.signing.proofs.AuthenticBody.{authentic_was_opened}
use Rattle.ordering.specs.Keeping.{IsLog}
use Rattle.ordering.specs.declared.votes.Phase.{Phase}
use Rattle.ordering.specs.declared.votes.Phase.TheVariants as phases
use Rattle.ordering.specs.declared.votes.Vote.{Vote}
use Rattle.ordering.proofs.Faults.{prepare_in_marks, commit_in_marks}
use Rattle.ordering.proofs.Reading.{batches_are_logged, prepares_count, commits_count}
use Rattle.ordering.proofs.Moving.{cuts_keep}
use Rattle.ordering.proofs.Viewing.{committed_stay}
use Rattle.protocol.specs.System.Configuration.{Configuration, is_number}
use Rattle.protocol.specs.System.Trace.{Has}
use Rattle.protocol.specs.Replica.Selection.{is_batch_entry_within, is_checkpoint_within, is_within, list_of}
use Rattle.replica_histories.proofs.Cutting.{cut_same}
use Rattle.view_change.specs.declared.changes.Selection.{Selection}
use Rattle.view_change.specs.Sets.{texts_of}
use Rattle.pq_sets.specs.PqSetsView.{PqSetsData, IsAmongTexts, empty_pq_sets}
use Rattle.view_change.specs.ReceivedData.{HeldData, AreHeldFrom, IsJoined, later_view, later_views}
use Rattle.view_change.specs.ReceivedView.{ReceivedState, AreReceived, judging_configuration}
use Rattle.view_change.specs.Selecting.{AreFrom, IsAvailable}
use Rattle.orderer.specs.ViewChangeOut.{IsJoinedBy, IsJoinedByNone, IsNextView, target_view}
use Rattle.orderer.specs.EnterView.{IsSelection}
use Rattle.desk.specs.Transferring.{MayBeSent}
use Rattle.orderer.proofs.ChangingViews.{joined_by, joined_by_none, later_above}

-- the message was taken
pub taken_by : (r : Result Unit Dropped) (fault : Option Dropped) (old new after : LogData) → is_err r ≡ false → TakesOrDrops r fault old new after → (fault ≡ None) × (new ≡ after)
taken_by (Ok x) fault old new after none h = h
taken_by (Err e) fault old new after none h = cc

pub takes_checkpoint : (old new : OrdererData) (sender : ReplicaId) (m : CheckpointMessage) (test : Bool) → checkpoint_fault_of old.log sender m ≡ None → new ≡ counting old sender.0 (said_entry m)
    → test ≡ lists_checkpoint (said_entry m) (logs.checkpoints_of new.log sender.0) → TakesOne old sender m new test
takes_checkpoint old new sender m true free is test = (free, is, sym test)
takes_checkpoint old new sender m false free is test = inr (is, sym test)

-- ---- received messages

-- a body of the bytes may be sent
heard_message : (m : Membership) (me : ℕ) (bytes : List ℕ) (body : Body) → authentic m me bytes ≡ Some body → IsMessage body.message
heard_message m me bytes body h =
    let o = authentic_was_opened m me bytes body h in
    subst (λ (b : Body). IsMessage b.message) o.body_is o.opens.spelled.valid.message

pub heard_batch : (m : Membership) (me s : ℕ) (bytes : List ℕ) (message : WireMessage) (x : WirePrePrepare) → authentic m me bytes ≡ Some (record { sender = s; message = message_data message }) → message ≡ messages.PrePrepare x
    → IsBatch 1 x.batch.text.items
heard_batch m me s bytes message x h is =
    let said : IsMessage (PrePrepare x.view.0 x.number.0 x.batch.text.items) = heard_message m me bytes _ (h ∙ ap (λ (y : WireMessage). Some (record { sender = s; message = message_data y })) is) in
    said.2

pub heard_batches : (m : Membership) (me s : ℕ) (bytes : List ℕ) (message : WireMessage) (x : WireNewView) → authentic m me bytes ≡ Some (record { sender = s; message = message_data message }) → message ≡ messages.NewView x
    → Each (IsBatch 0) (new_view_data x).batches
heard_batches m me s bytes message x h is =
    let said : IsMessage (NewView (new_view_data x)) = heard_message m me bytes _ (h ∙ ap (λ (y : WireMessage). Some (record { sender = s; message = message_data y })) is) in
    said.batches

pub heard_digests : (m : Membership) (me s : ℕ) (bytes : List ℕ) (message : WireMessage) (x : WireMeta) → authentic m me bytes ≡ Some (record { sender = s; message = message_data message }) → message ≡ messages.Meta x
    → MayBeSent x
heard_digests m me s bytes message x h is = heard_message m me bytes _ (h ∙ ap (λ (y : WireMessage). Some (record { sender = s; message = message_data y })) is)

-- ---- texts

null_is_batch : IsBatch 0 (0 ∷ [])
null_is_batch = record { requests = []; whole = refl; enough = omega arith; few = omega arith; each = tt }

one_among : (P : List ℕ → Type 0) (texts : List (List ℕ)) (text : List ℕ) → Each P texts → Has (λ t. t ≡ text) texts → P text
one_among P [] text each has = absurd has
one_among P (x ∷ xs) text each (inl same) = subst P same each.0
one_among P (x ∷ xs) text each (inr has) = one_among P xs text each.1 has

all_among : (texts less : List (List ℕ)) → Each (IsBatch 0) texts → Each (IsAmongTexts texts) less → Each (IsBatch 0) less
all_among texts [] each among = tt
all_among texts (x ∷ xs) each among = (one_among (IsBatch 0) texts x each among.0, all_among texts xs each among.1)

-- a selection over batches has batches
pub selected_batches : (texts batches : List (List ℕ)) → Each (IsBatch 0) texts → AreFrom texts batches → Each (IsBatch 0) batches
selected_batches texts [] each from = tt
selected_batches texts (x ∷ xs) each from = (one from.0, selected_batches texts xs each from.1)
  where
    one : IsAvailable texts x → IsBatch 0 x
    one (inl null) = subst (IsBatch 0) null null_is_batch
    one (inr has) = one_among (IsBatch 0) texts x each has

-- ---- nothing is logged yet

no_rows : (span i : ℕ) → slice_index_or (replicate span logs.no_row) i logs.no_row ≡ logs.no_row
no_rows zero i = refl
no_rows (suc span) zero = refl
no_rows (suc span) (suc i) = no_rows span i

none_logged : (b : Bool) (row : logs.Row) → row ≡ logs.no_row → (if b then row.batch else None) ≡ None
none_logged true row is = ap (λ (r : logs.Row). r.batch) is
none_logged false row is = refl

pub new_holds : (me faults span : ℕ) (log : LogData) (pq_sets : PqSetsData) → log ≡ logs.new_log me faults span → pq_sets ≡ empty_pq_sets → HoldsBatches 0 log pq_sets.texts
new_holds me faults span log pq_sets is empty =
    subst (λ (l : LogData). HoldsBatches 0 l pq_sets.texts) (sym is) (subst (λ (x : PqSetsData). HoldsBatches 0 new x.texts) (sym empty) (record {
      logged = λ i text above h. absurd (none-some text (sym (none i) ∙ h));
      in_q = tt;
    }))
  where
    new : LogData
    new = logs.new_log me faults span

    none : (i : ℕ) → logs.logged_batch new i ≡ None
    none i = none_logged (logs.is_in_marks new i) (logs.row_of new i) (no_rows span (i - 0 - 1))

-- ---- the log

-- if nothing new is logged
less_held : (assigned : ℕ) (old new : LogData) (texts less : List (List ℕ)) → ((i : ℕ) (text : List ℕ) → logs.logged_batch new i ≡ Some text → logs.logged_batch old i ≡ Some text) → Each (IsAmongTexts texts) less
    → HoldsBatches assigned old texts → HoldsBatches assigned new less
less_held assigned old new texts less was among h = record {
  logged = λ i text above there. h.logged i text above (was i text there);
  in_q = all_among texts less h.in_q among;
}

same_held : (assigned : ℕ) (old new : LogData) (texts : List (List ℕ)) → ((i : ℕ) → logs.logged_batch new i ≡ logs.logged_batch old i) → HoldsBatches assigned old texts → HoldsBatches assigned new texts
same_held assigned old new texts same h = record { logged = λ i text above there. h.logged i text above (sym (same i) ∙ there); in_q = h.in_q }

same_logged : (phase : Phase) (number : ℕ) (vote : Vote) (log : LogData) → IsLog log → logs.is_in_marks log number ≡ true → (i : ℕ) → logs.logged_batch (logs.with_vote_in phase log number vote) i ≡ logs.logged_batch log i
same_logged phases.Prepare number vote log is within i = (prepares_count log i number 0 vote is within).0
same_logged phases.Commit number vote log is within i = (commits_count log i number 0 vote is within).0

pub cut_held : (assigned low : ℕ) (log : LogData) (texts less : List (List ℕ)) → IsLog log → Each (IsAmongTexts texts) less → HoldsBatches assigned log texts → HoldsBatches assigned (logs.cut_to log low) less
cut_held assigned low log texts less is among h = less_held assigned log (logs.cut_to log low) texts less was among h
  where
    was : (i : ℕ) (text : List ℕ) → logs.logged_batch (logs.cut_to log low) i ≡ Some text → logs.logged_batch log i ≡ Some text
    was i text there = go (logs.is_in_marks (logs.cut_to log low) i) (sym (cuts_keep log low i 0 is).0 ∙ there)
      where
        go : (b : Bool) → cond b (logs.logged_batch log i) None ≡ Some text → logs.logged_batch log i ≡ Some text
        go true e = e
        go false e = absurd cc

pub entered_held : (assigned last view : ℕ) (log : LogData) (texts : List (List ℕ)) → IsLog log → HoldsBatches assigned log texts → HoldsBatches last (logs.entered log view) texts
entered_held assigned last view log texts is h = record {
  logged = λ i text above there. absurd (let none = (committed_stay log view i 0 is).0 in cc);
  in_q = h.in_q;
}

pub batch_held : (assigned number : ℕ) (text : List ℕ) (log : LogData) (texts more : List (List ℕ)) → IsLog log → logs.is_in_marks log number ≡ true → IsBatch 0 text → (assigned < number → IsBatch 1 text)
    → Each (IsAmongTexts (text ∷ texts)) more → HoldsBatches assigned log texts → HoldsBatches assigned (logs.with_batch log number text) more
batch_held assigned number text log texts more is within batch some among h = record {
  logged = λ i other above there. go i other above (i == number) refl (sym (batches_are_logged log i number 0 text is within).0 ∙ there);
  in_q = all_among (text ∷ texts) more (batch, h.in_q) among;
}
  where
    go : (i : ℕ) (other : List ℕ) → assigned < i → (b : Bool) → (i == number) ≡ b → cond b (Some text) (logs.logged_batch log i) ≡ Some other → IsBatch 1 other
    go i other above true e there =
        let same : i ≡ number = eqb-true i number e in
        let is_it : text ≡ other = cc in
        subst (IsBatch 1) is_it (some (subst (λ (n : ℕ). assigned < n) same above))
    go i other above false e there = h.logged i other above there

-- ---- the orderer

-- if nothing that the orderer keeps changes but the log
pub with_log : (o : OrdererData) (log : LogData) → IsOrderer o → log.me ≡ o.log.me → log.faults ≡ o.log.faults → HoldsBatches o.assigned log o.pq_sets.texts → IsOrderer (record o { log = log })
with_log o log own me faults held = (me ∙ own.0, faults ∙ own.1, own.2, own.3, held)

pub vote_added : (phase : Phase) (o : OrdererData) (number : ℕ) (vote : Vote) (log : LogData) → IsOrderer o → IsLog o.log → logs.is_in_marks o.log number ≡ true → log ≡ logs.with_vote_in phase o.log number vote → IsOrderer (record o { log = log })
vote_added phase o number vote log own is within new =
    let voted : LogData = logs.with_vote_in phase o.log number vote in
    subst (λ (l : LogData). IsOrderer (record o { log = l })) (sym new)
    (with_log o voted own refl refl (same_held o.assigned o.log voted o.pq_sets.texts (same_logged phase number vote o.log is within) own.4))

pub prepare_taken : (o : OrdererData) (sender : ReplicaId) (p : Prepare) (log : LogData) (r : Result Unit Dropped) → IsOrderer o → IsLog o.log → LogTakesPrepare o.log log sender p r → IsOrderer (record o { log = log })
prepare_taken o sender p log (Ok done) own is (none, new) =
    vote_added phases.Prepare o p.number.0 (record { sender = sender; digest = p.digest }) log own is (prepare_in_marks o.log sender.0 p.view.0 p.number.0 p.digest none) new
prepare_taken o sender p log (Err e) own is (some, new) = subst (λ (l : LogData). IsOrderer (record o { log = l })) (sym new) own

pub commit_taken : (o : OrdererData) (sender : ReplicaId) (p : Commit) (log : LogData) (r : Result Unit Dropped) → IsOrderer o → IsLog o.log → LogTakesCommit o.log log sender p r → IsOrderer (record o { log = log })
commit_taken o sender p log (Ok done) own is (none, new) =
    vote_added phases.Commit o p.number.0 (record { sender = sender; digest = p.digest }) log own is (commit_in_marks o.log sender.0 p.view.0 p.number.0 p.digest none) new
commit_taken o sender p log (Err e) own is (some, new) = subst (λ (l : LogData). IsOrderer (record o { log = l })) (sym new) own

pub checkpoint_counted : (o : OrdererData) (sender : ℕ) (entry : CheckpointEntry) (log : LogData) → IsOrderer o → log ≡ logs.with_checkpoint_of o.log sender entry → IsOrderer (record o { log = log })
checkpoint_counted o sender entry log own is =
    subst (λ (l : LogData). IsOrderer (record o { log = l })) (sym is)
    (with_log o (logs.with_checkpoint_of o.log sender entry) own refl refl (same_held o.assigned o.log (logs.with_checkpoint_of o.log sender entry) o.pq_sets.texts (λ i. refl) own.4))

pub checkpoint_taken : (o : OrdererData) (sender : ReplicaId) (p : Checkpoint) (log : LogData) (r : Result Unit Dropped) → IsOrderer o → LogTakesCheckpoint o.log log sender p r → IsOrderer (record o { log = log })
checkpoint_taken o sender p log (Ok done) own (none, new) = checkpoint_counted o sender.0 (record { number = p.number.0; digest = p.root }) log own new
checkpoint_taken o sender p log (Err e) own (some, new) = subst (λ (l : LogData). IsOrderer (record o { log = l })) (sym new) own

pub view_left : (o : OrdererData) (log : LogData) → IsOrderer o → log ≡ logs.left o.log → IsOrderer (record o { log = log })
view_left o log own is =
    subst (λ (l : LogData). IsOrderer (record o { log = l })) (sym is) (with_log o (logs.left o.log) own refl refl (same_held o.assigned o.log (logs.left o.log) o.pq_sets.texts (λ i. refl) own.4))

pub log_cut : (o : OrdererData) (low : ℕ) (log : LogData) (pq_sets : PqSetsData) → IsOrderer o → IsLog o.log → log ≡ logs.cut_to o.log low → Each (IsAmongTexts o.pq_sets.texts) pq_sets.texts → IsOrderer (record o { log = log; pq_sets = pq_sets })
log_cut o low log pq_sets own is new among =
    subst (λ (l : LogData). IsOrderer (record o { log = l; pq_sets = pq_sets })) (sym new) (
      cut_same (λ (l : LogData). l.me) (λ l h rows. refl) o.log low ∙ own.0,
      cut_same (λ (l : LogData). l.faults) (λ l h rows. refl) o.log low ∙ own.1,
      own.2,
      own.3,
      cut_held o.assigned low o.log o.pq_sets.texts pq_sets.texts is among own.4,
    )

pub batch_logged : (o : OrdererData) (number : ℕ) (text : List ℕ) (log : LogData) (pq_sets : PqSetsData) → IsOrderer o → IsLog o.log → logs.is_in_marks o.log number ≡ true → IsBatch 0 text → (o.assigned < number → IsBatch 1 text)
    → log ≡ logs.with_batch o.log number text → Each (IsAmongTexts (text ∷ o.pq_sets.texts)) pq_sets.texts → IsOrderer (record o { log = log; pq_sets = pq_sets })
batch_logged o number text log pq_sets own is within batch some new among =
    subst (λ (l : LogData). IsOrderer (record o { log = l; pq_sets = pq_sets })) (sym new)
    (own.0, own.1, own.2, own.3, batch_held o.assigned number text o.log o.pq_sets.texts pq_sets.texts is within batch some among own.4)

pub view_entered : (o : OrdererData) (view last : ℕ) (log : LogData) → IsOrderer o → IsLog o.log → log ≡ logs.entered o.log view → IsOrderer (record o { log = log; used = last; assigned = last })
view_entered o view last log own is new =
    subst (λ (l : LogData). IsOrderer (record o { log = l; used = last; assigned = last })) (sym new)
    (own.0, own.1, own.2, own.3, entered_held o.assigned last view o.log o.pq_sets.texts is own.4)

-- a view change within its bounds is for a number
view_within : (c : Configuration) (vc : ViewChangeData) → is_within c vc ≡ true → is_number vc.view ≡ true
view_within c vc within =
    first (is_number vc.view) (is_number vc.low) (list_all (is_batch_entry_within c vc) vc.prepared) (list_all (is_batch_entry_within c vc) vc.pre_prepared) (list_all (is_checkpoint_within c vc) vc.checkpoints) within
  where
    first : (a b d e f : Bool) → (a && b && d && e && f) ≡ true → a ≡ true
    first true b d e f h = refl
    first false b d e f h = absurd cc

-- another replica's view change is for a number
held_number : (c : Configuration) (me target view : ℕ) (from : ℕ) (held : List (Option HeldData)) → AreHeldFrom c from held → Has (λ w. w ≡ view) (later_views me target held) → is_number view ≡ true
held_number c me target view from [] are has = absurd has
held_number c me target view from (None ∷ held) are has = held_number c me target view (suc from) held are.1 has
held_number c me target view from (Some h ∷ held) are has = go (held_number c me target view (suc from) held are.1) (not (h.sender == me) && nat_lt target h.change.view) has
  where
    go : (Has (λ w. w ≡ view) (later_views me target held) → is_number view ≡ true) → (b : Bool) → Has (λ w. w ≡ view) (list_of (then_some b h.change.view ∷ map (later_view me target) held)) → is_number view ≡ true
    go rest false has = rest has
    go rest true (inl same) = subst (λ (v : ℕ). is_number v ≡ true) same (view_within c h.change are.0.1)
    go rest true (inr has) = rest has

pub joined_is_number : (r : ReceivedState) (me target view : ℕ) → AreReceived r → Has (λ w. w ≡ view) (later_views me target r.held) → is_number view ≡ true
joined_is_number r me target view are has = held_number (judging_configuration r) me target view 0 r.held are.each has

-- the view to which others move the replica is a number
pub joins_next : (o : OrdererData) (me : ℕ) (target : View) (view : Option View) → AreReceived o.received → target.0 ≡ target_view o
    → MatchOption view (length (later_views me target.0 o.received.held) ≤ o.received.sizes.faults) (λ v. IsJoined o.received.sizes.faults (later_views me target.0 o.received.held) v.0)
    → IfSome view (λ v. IsNextView o v.0)
joins_next o me target None are aimed h = tt
joins_next o me target (Some v) are aimed h =
    (subst (λ (n : ℕ). n < v.0) aimed (later_above me target.0 v.0 o.received.held h.there), joined_is_number o.received me target.0 v.0 are h.there)

pub joins_others : (o : OrdererData) (me : ℕ) (target : View) (view : Option View) → IsOrderer o → AreReceived o.received → me ≡ o.log.me → target.0 ≡ target_view o
    → MatchOption view (length (later_views me target.0 o.received.held) ≤ o.received.sizes.faults) (λ v. IsJoined o.received.sizes.faults (later_views me target.0 o.received.held) v.0)
    → IfSome view (λ v. IsJoinedBy o v.0)
joins_others o me target None own are mine aimed h = tt
joins_others o me target (Some v) own are mine aimed h = joined_by o me target.0 v.0 own are mine aimed h

pub joins_none : (o : OrdererData) (me : ℕ) (target : View) (view : Option View) → IsOrderer o → AreReceived o.received → me ≡ o.log.me → target.0 ≡ target_view o
    → MatchOption view (length (later_views me target.0 o.received.held) ≤ o.received.sizes.faults) (λ v. IsJoined o.received.sizes.faults (later_views me target.0 o.received.held) v.0)
    → IfNone view (IsJoinedByNone o)
joins_none o me target None own are mine aimed h = joined_by_none o me target.0 own are mine aimed h
joins_none o me target (Some v) own are mine aimed h = tt

-- a selection of batches of Q has batches
pub selected_are : {E : Type 0} (o : OrdererData) (r : Result (Option Selection) E) → IsOrderer o → IfOk r (λ x. IfSome x (λ s. IsSelection o s.start.0 s.root (texts_of s.batches.items)))
    → IfOk r (λ x. IfSome x (λ s. Each (IsBatch 0) (texts_of s.batches.items)))
selected_are o (Err e) own h = h
selected_are o (Ok None) own h = tt
selected_are o (Ok (Some s)) own h = selected_batches o.pq_sets.texts (texts_of s.batches.items) own.4.in_q h.from
