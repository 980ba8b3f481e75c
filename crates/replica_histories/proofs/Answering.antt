-- The parts of kept snapshots that others fetch, and the answers to reads, over desk and log.
use Rattle.std.proofs.Common.{◌≡◌, ℕ, Bool, true, false, List, [], ◌∷◌, refl, sym, ap, ◌∙◌, subst, Option, None, Some}
use Rattle.std.specs.Prelude.{⊤}
use Rattle.tuple_codec.specs.Operations.{Operation}
use Rattle.space.specs.Applying.{is_read_only}
use Rattle.terms.specs.declared.state.Level.{Level}
use Rattle.terms.specs.declared.state.Level.TheVariants as levels
use Rattle.wire_format.specs.Messages.{BodyData as Body, MessageData as Message, request as Request, meta as Meta, page as Page, fetch as Fetch}
use Rattle.ordering.specs.Log.{LogData}
use Rattle.protocol.specs.System.Configuration.{Configuration}
use Rattle.protocol.specs.System.Frames.{IsOutgoing}
use Rattle.protocol.specs.System.Trace.{Entry, Has, Receives}
use Rattle.protocol.specs.System.Trace.Entry.{Sent}
use Rattle.protocol.specs.Replica.Certificates.{low}
use Rattle.protocol.specs.Replica.State.{State}
use Rattle.protocol.specs.Replica.RightReplica.{Point, HistoryReaches, IsFor, MaySendMessage, kept_states}
use Rattle.protocol.specs.Replica.Owed.{SendsMessage}
use Rattle.protocol.proofs.Words.Elements.{has_map, has_weaker}
use Rattle.protocol.proofs.Words.Options.{some_injective}
use Rattle.protocol.proofs.Words.Reacting.{proceeds_leaves}
use Rattle.replica_histories.specs.Desk.{Desk, snapshot_of, point_of}
use Rattle.replica_histories.specs.TransfersAnswers.{answer_by, KeptPages}
use Rattle.replica_histories.specs.Questions.{read_from, read_reply}
use Rattle.replica_histories.specs.Events.{Start, after_outputs, BothFitWithinEvent, BothFitBetweenEvents}
use Rattle.replica_histories.specs.Answering.{PartsFit, KeptFetchesCount, PartsSuffice, OtherNumbersOweNone, ReadsFit, ReadsSuffice, OtherOperationsOweNone}
use Rattle.replica_histories.proofs.Taking.{takes_nothing}
use Rattle.replica_histories.proofs.Logging.{beside_placed}
use Rattle.replica_histories.proofs.SentOnce.{unsent, pays_none}
use Rattle.replica_histories.proofs.Giving.{sent_fits, no_proposal}
use Rattle.replica_histories.proofs.TransfersAnswering.{IsPart, hears_one, snapshots_are_kept, kept_have_snapshots, answers_may_go, answers_suffice, none_is_owed}
use Rattle.replica_histories.proofs.Questions.{fetches_owe_no_read, others_bring_no_part, reads_owe_no_part, hears_no_move, fetches_owe_nothing_again, reads_owe_nothing_again}
use Rattle.replica_histories.proofs.TransfersQuorums.{no_root}

-- ---- a part is sent

is_part : (pages : List (List ℕ)) (k : ℕ) (level : Level) (index : ℕ) → IsPart (answer_by pages k level index)
is_part pages k levels.Root index = tt
is_part pages k _ index = tt

part_goes : (c : Configuration) (me : ℕ) (s : Start) (desk : Desk) (log : LogData) (due : List Message) (outputs : List Entry) (receivers bytes : List ℕ) (message : Message) (f : BothFitWithinEvent c me s desk log due outputs) → IsPart message
    → IsOutgoing c me message receivers bytes → IsFor c me (after_outputs s outputs) message receivers → MaySendMessage c me (after_outputs s outputs) (point_of desk f.of_desk.states f.of_desk.ran) (Sent me bytes) bytes message → (SendsMessage me message outputs → ⊥)
    → BothFitWithinEvent c me s desk log due (Sent me bytes ∷ outputs)
part_goes c me s desk log due outputs receivers bytes (Meta k level index digests) f is is_outgoing for allowed none =
    sent_fits c me s desk log log due due outputs bytes receivers (Meta k level index digests) f is_outgoing for tt allowed
    tt
    (takes_nothing c me (Some (record { sender = me; message = Meta k level index digests })) log f.of_log.is_log (λ i w h. refl) (λ i x w h. refl) (λ i x w h. refl) (λ x. refl)) (beside_placed c me log me (Meta k level index digests) tt)
    refl (no_root c (after_outputs s outputs) bytes me (Meta k level index digests) desk.state.number is_outgoing.says refl) (pays_none c me s desk log outputs (Meta k level index digests) bytes is_outgoing.says due refl f)
    (unsent me s (Meta k level index digests) bytes outputs f.says.begins is_outgoing.says none) (no_proposal c me (after_outputs s outputs) bytes (Meta k level index digests) is_outgoing.says tt)
part_goes c me s desk log due outputs receivers bytes (Page k index text) f is is_outgoing for allowed none =
    sent_fits c me s desk log log due due outputs bytes receivers (Page k index text) f is_outgoing for tt allowed
    tt
    (takes_nothing c me (Some (record { sender = me; message = Page k index text })) log f.of_log.is_log (λ i w h. refl) (λ i x w h. refl) (λ i x w h. refl) (λ x. refl)) (beside_placed c me log me (Page k index text) tt)
    refl (no_root c (after_outputs s outputs) bytes me (Page k index text) desk.state.number is_outgoing.says refl) (pays_none c me s desk log outputs (Page k index text) bytes is_outgoing.says due refl f)
    (unsent me s (Page k index text) bytes outputs f.says.begins is_outgoing.says none) (no_proposal c me (after_outputs s outputs) bytes (Page k index text) is_outgoing.says tt)
part_goes c me s desk log due outputs receivers bytes _ f is is_outgoing for allowed none = absurd is

pub parts_fit : PartsFit
parts_fit c me s desk log due outputs snapshot asker index level bytes has asked none is_outgoing f =
    part_goes c me s desk log due outputs (asker ∷ []) bytes (answer_by snapshot.pages snapshot.number level index) f (is_part snapshot.pages snapshot.number level index) is_outgoing may.1 may.0 none
  where
    point : Point
    point = point_of desk f.of_desk.states f.of_desk.ran

    kept : KeptPages c me (after_outputs s outputs) point snapshot.number snapshot.pages
    kept = snapshots_are_kept c me (after_outputs s outputs) point desk.snapshots snapshot f.of_desk.kept has

    may : MaySendMessage c me (after_outputs s outputs) point (Sent me bytes) bytes (answer_by snapshot.pages snapshot.number level index) × IsFor c me (after_outputs s outputs) (answer_by snapshot.pages snapshot.number level index) (asker ∷ [])
    may = let a = answers_may_go c me (after_outputs s outputs) point (Sent me bytes) bytes asker snapshot.number index level snapshot.pages kept asked in (a.0, a.1)

-- ---- a fetch

pub kept_fetches_count : KeptFetchesCount
kept_fetches_count c me desk log past bytes asker k index level held has =
    has_weaker (λ st. st.number ≡ k) (λ st. (st.number ≡ k) × ⊤) (λ st is. (is, tt)) (kept_states (low c me past) held.of_desk.point.snapshots)
    (has_map (λ x. x.number ≡ k) snapshot_of (kept_states (low c me past) held.of_desk.point.snapshots) (subst (λ xs. Has (λ x. x.number ≡ k) xs) (sym held.of_desk.kept) has))

held_leaves : (c : Configuration) (me : ℕ) (desk : Desk) (log : LogData) (past : List Entry) (held : BothFitBetweenEvents c me desk log past) → HistoryReaches c me past held.of_desk.point
held_leaves c me desk log past held = proceeds_leaves c me past [] held.of_desk.point held.of_desk.point held.of_desk.proceeds

pub parts_suffice : PartsSuffice
parts_suffice c me desk log past input outputs snapshot asker index executed level held has receives given =
    let none = others_bring_no_part c me (record { sender = asker; message = Fetch snapshot.number level index }) past input receives outputs held.of_desk.point executed refl in (
      answers_suffice c me past input outputs held.of_desk.point asker snapshot.number index level snapshot.pages (held_leaves c me desk log past held) receives
          (snapshots_are_kept c me past held.of_desk.point desk.snapshots snapshot held.of_desk.kept has) given,
      fetches_owe_no_read c me asker snapshot.number index level past input outputs held.of_desk.point receives,
      none.0,
      none.1,
      fetches_owe_nothing_again c me asker snapshot.number index level past input outputs held.of_desk.point receives,
      hears_no_move c me (record { sender = asker; message = Fetch snapshot.number level index }) past input outputs held.of_desk.point receives refl,
    )

pub other_numbers_owe_none : OtherNumbersOweNone
other_numbers_owe_none c me desk log past input outputs asker k index executed level held receives none =
    let no_part = others_bring_no_part c me (record { sender = asker; message = Fetch k level index }) past input receives outputs held.of_desk.point executed refl in (
      none_is_owed c me past input outputs held.of_desk.point asker k index level receives (λ kept. none (kept_have_snapshots c me past held.of_desk.point desk.snapshots k held.of_desk.kept kept)),
      fetches_owe_no_read c me asker k index level past input outputs held.of_desk.point receives,
      no_part.0,
      no_part.1,
      fetches_owe_nothing_again c me asker k index level past input outputs held.of_desk.point receives,
      hears_no_move c me (record { sender = asker; message = Fetch k level index }) past input outputs held.of_desk.point receives refl,
    )

-- ---- a read

-- the reply to a body, if that is a read-only request; and whether its operation is a read
abbrev reply_from : State → Body → Option Message
reply_from st body = elim body.message [ Request t mode op ↦ Some (read_reply st body.sender t op) | _ ↦ None ]

abbrev is_read_only_of : Body → Bool
is_read_only_of body = elim body.message [ Request t mode op ↦ is_read_only op | _ ↦ false ]

pub reads_fit : ReadsFit
reads_fit c me s desk log due outputs client t op bytes heard_it is none is_outgoing f =
    sent_fits c me s desk log log due due outputs bytes (client ∷ []) reply f is_outgoing refl tt (record { op = op; is_read = is; authentic = heard_it; answer_is = refl; number_is = refl })
    tt
    (takes_nothing c me (Some (record { sender = me; message = reply })) log f.of_log.is_log (λ i w h. refl) (λ i x w h. refl) (λ i x w h. refl) (λ x. refl)) (beside_placed c me log me reply tt)
    refl (no_root c (after_outputs s outputs) bytes me reply desk.state.number is_outgoing.says refl) (pays_none c me s desk log outputs reply bytes is_outgoing.says due refl f)
    (unsent me s reply bytes outputs f.says.begins is_outgoing.says none) (no_proposal c me (after_outputs s outputs) bytes reply is_outgoing.says tt)
  where
    reply : Message
    reply = read_reply desk.state client t op

pub reads_suffice : ReadsSuffice
reads_suffice c me desk log past input outputs client t executed op held receives given =
    let none = others_bring_no_part c me (read_from client t op) past input receives outputs held.of_desk.point executed refl in
    (reads_owe_no_part c me client t op past input outputs held.of_desk.point receives, each, none.0, none.1, reads_owe_nothing_again c me client t op past input outputs held.of_desk.point receives, hears_no_move c me (read_from client t op) past input outputs held.of_desk.point receives refl)
  where
    from : State
    from = held.of_desk.point.state

    state_is : desk.state ≡ from
    state_is = sym (ap (λ (p : Point). p.state) held.of_desk.is)

    given_there : SendsMessage me (read_reply from client t op) outputs
    given_there = subst (λ (st : State). SendsMessage me (read_reply st client t op) outputs) state_is given

    -- it is the one read that the input brings
    each : (k u : ℕ) (other : Operation) → Receives c me (read_from k u other) past input → is_read_only other ≡ true → SendsMessage me (read_reply from k u other) outputs
    each k u other h is =
        let same : ◌≡◌ {A = Option Message} (reply_from from (read_from client t op)) (reply_from from (read_from k u other)) = ap (reply_from from) (hears_one c me (read_from client t op) (read_from k u other) past input receives h) in
        subst (λ (m : Message). SendsMessage me m outputs) (some_injective (read_reply from client t op) (read_reply from k u other) same) given_there

pub other_operations_owe_none : OtherOperationsOweNone
other_operations_owe_none c me desk log past input outputs client t executed op held receives not_read =
    let none = others_bring_no_part c me (read_from client t op) past input receives outputs held.of_desk.point executed refl in
    (reads_owe_no_part c me client t op past input outputs held.of_desk.point receives, each, none.0, none.1, reads_owe_nothing_again c me client t op past input outputs held.of_desk.point receives, hears_no_move c me (read_from client t op) past input outputs held.of_desk.point receives refl)
  where
    each : (k u : ℕ) (other : Operation) → Receives c me (read_from k u other) past input → is_read_only other ≡ true → SendsMessage me (read_reply held.of_desk.point.state k u other) outputs
    each k u other h is =
        let same : is_read_only_of (read_from client t op) ≡ is_read_only_of (read_from k u other) = ap is_read_only_of (hears_one c me (read_from client t op) (read_from k u other) past input receives h) in
        absurd (let bad : false ≡ true = sym not_read ∙ same ∙ is in cc)
