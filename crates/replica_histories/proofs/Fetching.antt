-- Desk and log of a replica that fetches: its fetches, and the parts that arrive.
use Rattle.std.proofs.Common.{◌≡◌, ℕ, ◌+◌, ◌*◌, ◌≤◌, ◌<◌, inl, Bool, true, false, cond, ◌&&◌, List, [], ◌∷◌, map, refl, sym, ap, ◌∙◌, subst, arith, Option, Some, None}
use Rattle.std.specs.Prelude.{nat_le, nat_lt, option_and_then}
use Rattle.std.specs.Option.{option_map_or}
use Rattle.std.proofs.lemmas.Bool.{le-leb, ltb-true}
use Rattle.terms.specs.declared.state.Level.TheVariants as levels
use Rattle.wire_format.specs.Messages.{BodyData as Body, MessageData as Message, fetch as Fetch, meta as Meta, page as Page}
use Rattle.signing.specs.AuthenticBody.{authentic}
use Rattle.ordering.specs.Log as logs
use Rattle.ordering.specs.Log.{LogData}
use Rattle.protocol.specs.System.Configuration.{Configuration, members}
use Rattle.protocol.specs.System.Frames.{IsOutgoing}
use Rattle.protocol.specs.System.Trace.{Entry}
use Rattle.protocol.specs.System.Trace.Entry.{Got, Sent}
use Rattle.protocol.specs.Replica.Certificates.{new_view_from}
use Rattle.protocol.specs.Replica.State.{State, Call, call_in}
use Rattle.protocol.specs.Replica.RightReplica.{Point, MayFetch, kept_states, others, with_waiting}
use Rattle.state_transfer.specs.Transfer.{TransferData, with_digests}
use Rattle.protocol.proofs.Words.Outgoing.{may_send}
use Rattle.replica_histories.specs.Desk.{Desk, snapshot_of, point_of}
use Rattle.replica_histories.specs.Logs.{FitsLog}
use Rattle.replica_histories.specs.Transfers.{HasQuorum, TransferMayAsk, AsksNext, FitsStateTransfer, open_number}
use Rattle.replica_histories.specs.Events.{Start, after_outputs, BothFitWithinEvent, BothFitBetweenEvents, start_at}
use Rattle.replica_histories.specs.Inputs.{replies_again, BytesEnter, IsBesideLog}
use Rattle.replica_histories.specs.Fetching.{FetchesFit, DueFetchesFit, QuorumsMayAsk, HeldOweNoFetch, DigestsEnter, PagesEnter, AskedDigestsCount, AskedPagesCount, TransfersChange}
use Rattle.replica_histories.proofs.Taking.{takes_nothing}
use Rattle.replica_histories.proofs.Logging.{none_taken, IsPlaced, beside_placed}
use Rattle.replica_histories.proofs.Reaching.{reached_open}
use Rattle.replica_histories.proofs.Checking.{quorum_counted}
use Rattle.replica_histories.proofs.Counting.{others_drop}
use Rattle.replica_histories.proofs.SentOnce.{Pays, pays_first, pays_fetch, fetch_is_new}
use Rattle.replica_histories.proofs.Giving.{sent_goes, log_sent, reached_sent, no_proposal}
use Rattle.replica_histories.proofs.Entering.{inputs_fit}
use Rattle.replica_histories.proofs.Transfers.{digests_count, pages_count, digests_open, digests_may_ask, pages_may_ask, open_stays, quorums_open, transfers_may_fetch, transfers_ask, open_above, fetched_most}
use Rattle.replica_histories.proofs.TransfersAnswering.{IsPart}
use Rattle.replica_histories.proofs.TransfersQuorums.{no_root}

-- ---- a fetch

abbrev fetch_of : TransferData → Message
fetch_of t = Fetch t.number t.asked.level t.asked.index

-- a fetch that the transfer may send, with due messages paid
fetch_goes : (c : Configuration) (me : ℕ) (s : Start) (desk : Desk) (log : LogData) (due rest : List Message) (outputs : List Entry) (t : TransferData) (bytes : List ℕ) → TransferMayAsk c me t desk.state.number (after_outputs s outputs) → AsksNext c me t desk.state (after_outputs s outputs)
    → IsOutgoing c me (fetch_of t) (others c me) bytes → Pays me s desk.state due rest outputs bytes
    → BothFitWithinEvent c me s desk log due outputs → BothFitWithinEvent c me s (record desk { transfer = Some t }) log rest (Sent me bytes ∷ outputs)
fetch_goes c me s desk log due rest outputs t bytes m next is_outgoing pays f =
    sent_goes c me s desk log log due rest outputs bytes desk.snapshots (Some t) f
    (may_send c me past (point_of desk f.of_desk.states f.of_desk.ran) (Sent me bytes) bytes (others c me) (fetch_of t) is_outgoing refl tt may (λ signed. absurd cc) (fetch_is_new c me past (point_of desk f.of_desk.states f.of_desk.ran) t.number t.asked.level t.asked.index bytes is_outgoing.says may)) fits
    (ap (λ (h : ℕ). map snapshot_of (kept_states h f.of_desk.states)) (sym f.of_log.low) ∙ f.of_desk.kept)
    (reached_sent c me desk.state.number due rest log log past bytes (others c me) (fetch_of t) is_outgoing tt placed refl pays.paid f.low)
    (transfers_ask c me t desk.state.number past bytes is_outgoing.says m) (no_root c past bytes me (fetch_of t) desk.state.number is_outgoing.says refl)
    (none_taken c past (Sent me bytes) (ap (option_and_then (new_view_from c)) is_outgoing.says)) pays (no_proposal c me past bytes (fetch_of t) is_outgoing.says tt)
  where
    past : List Entry
    past = after_outputs s outputs

    may : MayFetch c me past (point_of desk f.of_desk.states f.of_desk.ran) t.number t.asked.level t.asked.index
    may = transfers_may_fetch c me t past (point_of desk f.of_desk.states f.of_desk.ran) m next

    placed : IsPlaced c me log (record { sender = me; message = fetch_of t })
    placed = beside_placed c me log me (fetch_of t) tt

    fits : FitsLog c me log (Sent me bytes ∷ past)
    fits = log_sent c me log log past bytes (others c me) (fetch_of t) f.of_log is_outgoing tt
        (takes_nothing c me (Some (record { sender = me; message = fetch_of t })) log f.of_log.is_log (λ i w h. refl) (λ i x w h. refl) (λ i x w h. refl) (λ x. refl)) placed

pub fetches_fit : FetchesFit
fetches_fit c me s desk log due outputs t bytes m next is_outgoing f = fetch_goes c me s desk log due due outputs t bytes m next is_outgoing (pays_fetch c me s desk log outputs (fetch_of t) bytes is_outgoing.says due refl f) f

pub due_fetches_fit : DueFetchesFit
due_fetches_fit c me s desk log rest outputs t bytes m next is_outgoing f = fetch_goes c me s desk log (fetch_of t ∷ rest) rest outputs t bytes m next is_outgoing (pays_first c me s desk log outputs (fetch_of t) bytes is_outgoing.says rest f) f

-- ---- quorums

pub quorums_may_ask : QuorumsMayAsk
quorums_may_ask c me s desk log due outputs entry pages enough over above f =
    quorums_open c me desk.transfer desk.state.number entry.number entry.digest pages desk.state (after_outputs s outputs)
    (quorum_counted c log (after_outputs s outputs) entry f.of_log.faults over f.of_log.checkpoints
    ∙ le-leb (2 * log.faults + 1) (logs.count_checkpoints log entry) enough)
    above f.of_desk.opened

pub held_owe_no_fetch : HeldOweNoFetch
held_owe_no_fetch c me desk log past entry held = go (logs.is_stable log entry) (nat_le (2 * log.faults + 1) (logs.count_checkpoints log entry)) (nat_lt (open_number desk.state.number desk.transfer) entry.number) refl refl
  where
    least : desk.state.number ≤ open_number desk.state.number desk.transfer
    least = open_above c me desk.transfer desk.state.number past held.of_desk.opened

    most : HasQuorum c past entry.number entry.digest → open_number desk.state.number desk.transfer < entry.number → ⊥
    most quorum above =
        let fetched = held.of_desk.fetches entry.number entry.digest (inl quorum) (let l = least in omega arith) in
        let newest = fetched_most c me desk.transfer desk.state.number past held.of_desk.opened in
        omega arith

    go : (a b d : Bool) → nat_le (2 * log.faults + 1) (logs.count_checkpoints log entry) ≡ b → nat_lt (open_number desk.state.number desk.transfer) entry.number ≡ d
        → ◌≡◌ {A = List Message} (cond a [] (cond (b && d) (Fetch entry.number levels.Root 0 ∷ []) [])) []
    go true b d x y = refl
    go false false d x y = refl
    go false true false x y = refl
    go false true true x y =
        let above = ltb-true (open_number desk.state.number desk.transfer) entry.number y in
        let l = least in
        let low = reached_open c me log.low desk.state.number desk.transfer past held.low held.of_desk.opened in
        absurd (most (quorum_counted c log past entry held.of_log.fits.faults (omega arith) held.of_log.fits.checkpoints ∙ x) above)

-- ---- the open transfer

pub transfers_change : TransfersChange
transfers_change c me s desk log due outputs open_one o f = record {
  of_desk = record {
    states = f.of_desk.states;
    ran = f.of_desk.ran;
    leaves = f.of_desk.leaves;
    steps = f.of_desk.steps;
    kept = f.of_desk.kept;
    frames = f.of_desk.frames;
    replies = f.of_desk.replies;
    asked = f.of_desk.asked;
    fetch_again = f.of_desk.fetch_again;
    checkpoints = f.of_desk.checkpoints;
    opened = o;
    fetches = f.of_desk.fetches;
    rightly = f.of_desk.rightly;
  };
  of_log = f.of_log;
  low = f.low;
  once = f.once;
  says = f.says;
}

-- the open transfer of a desk
open_at : (c : Configuration) (me : ℕ) (desk : Desk) (t : TransferData) (number : ℕ) (history : List Entry) → desk.transfer ≡ Some t → FitsStateTransfer c me desk.transfer number history → FitsStateTransfer c me (Some t) number history
open_at c me desk t number history is f = subst (λ (o : Option TransferData). FitsStateTransfer c me o number history) is f

-- ---- a part arrives

-- it changes nothing but the transfer
part_enters : (c : Configuration) (me : ℕ) (desk : Desk) (log : LogData) (past : List Entry) (s : ℕ) (message : Message) (bytes : List ℕ) → FitsLog c me log past → IsPart message
    → authentic (members c me) me bytes ≡ Some (record { sender = s; message = message }) → BytesEnter c me bytes desk desk log log []
part_enters c me desk log past s message bytes f is h = record {
  takes = others_drop c me log past bytes f (subst IsBesideLog (sym h) (beside message is));
  state = refl;
  snapshots = refl;
  waiting = sym (ap (λ (o : Option Body). option_map_or (with_waiting desk.state desk.waiting) (option_and_then (call_in c) o) desk.waiting) h ∙ ap (λ (o : Option Call). option_map_or (with_waiting desk.state desk.waiting) o desk.waiting) (no_call message is));
  transfer = refl;
  frames = λ frame k. inl k;
  due_is = sym (ap (replies_again desk.state) h ∙ none_asked message is);
}
  where
    beside : (m : Message) → IsPart m → IsBesideLog (Some (record { sender = s; message = m }))
    beside (Meta k level index digests) p = tt
    beside (Page k index text) p = tt
    beside _ p = absurd p

    no_call : (m : Message) → IsPart m → call_in c (record { sender = s; message = m }) ≡ None
    no_call (Meta k level index digests) p = refl
    no_call (Page k index text) p = refl
    no_call _ p = absurd p

    none_asked : (m : Message) → IsPart m → replies_again desk.state (Some (record { sender = s; message = m })) ≡ []
    none_asked (Meta k level index digests) p = refl
    none_asked (Page k index text) p = refl
    none_asked _ p = absurd p

-- so the event begins with the transfer that has the part
enters : (c : Configuration) (me : ℕ) (desk : Desk) (log : LogData) (past : List Entry) (s : ℕ) (message : Message) (bytes : List ℕ) (open_one : Option TransferData) (held : BothFitBetweenEvents c me desk log past) → IsPart message
    → authentic (members c me) me bytes ≡ Some (record { sender = s; message = message }) → FitsStateTransfer c me open_one desk.state.number (Got me bytes ∷ past)
    → BothFitWithinEvent c me (start_at c me desk log past held (Got me bytes)) (record desk { transfer = open_one }) log [] []
enters c me desk log past s message bytes open_one held is h o =
    transfers_change c me (start_at c me desk log past held (Got me bytes)) desk log [] [] open_one o
    (inputs_fit c me desk desk log log [] past bytes held (none_taken c past (Got me bytes) (ap (option_and_then (new_view_from c)) h ∙ no_view message is))
    (part_enters c me desk log past s message bytes held.of_log.fits is h))
  where
    no_view : (m : Message) → IsPart m → new_view_from c (record { sender = s; message = m }) ≡ None
    no_view (Meta k level index digests) p = refl
    no_view (Page k index text) p = refl
    no_view _ p = absurd p

pub digests_enter : DigestsEnter
digests_enter c me desk log past t s place digests bytes held is h wants =
    let opened = open_at c me desk t desk.state.number past is held.of_desk.opened in (
      enters c me desk log past s (Meta t.number place.level place.index digests) bytes (Some (with_digests t place digests)) held tt h
          (digests_open c me t desk.state.number past bytes s t.number place digests h wants opened),
      digests_may_ask c me t desk.state.number past bytes s t.number place digests h wants opened,
    )

pub pages_enter : PagesEnter
pages_enter c me desk log past t s index text bytes held is asks h long known = (
  enters c me desk log past s (Page t.number index text) bytes desk.transfer held tt h (open_stays c me desk.transfer desk.state.number past (Got me bytes) refl tt held.of_desk.opened),
  pages_may_ask c me t desk.state.number past bytes s index text h asks long known (open_at c me desk t desk.state.number past is held.of_desk.opened),
)

-- ---- which parts count

-- the open transfer at the point of a history that fits
open_there : (c : Configuration) (me : ℕ) (desk : Desk) (log : LogData) (past : List Entry) (t : TransferData) (held : BothFitBetweenEvents c me desk log past) → desk.transfer ≡ Some t → FitsStateTransfer c me (Some t) held.of_desk.point.state.number past
open_there c me desk log past t held is =
    open_at c me desk t held.of_desk.point.state.number past is
    (subst (λ (st : State). FitsStateTransfer c me desk.transfer st.number past) (sym (ap (λ (p : Point). p.state) held.of_desk.is)) held.of_desk.opened)

pub asked_digests_count : AskedDigestsCount
asked_digests_count c me desk log past t s place digests bytes held is asks wants =
    digests_count c me t past held.of_desk.point bytes s place digests asks wants (open_there c me desk log past t held is)

pub asked_pages_count : AskedPagesCount
asked_pages_count c me desk log past t s index text bytes held is asks wants =
    pages_count c me t past held.of_desk.point bytes s index text asks wants (open_there c me desk log past t held is)
