-- What the replica owes to a part that arrives.
use Rattle.std.proofs.Common.{◌≡◌, ℕ, ◌≤◌, ◌<◌, inl, inr, true, List, [], ◌∷◌, length, map, get_or, refl, sym, ap, ◌∙◌, subst, arith, Option, Some, None}
use Rattle.std.specs.List.{range_with_len}
use Rattle.std.specs.Option.{ForSome}
use Rattle.std.proofs.lemmas.List.{ext_get_or}
use Rattle.std.proofs.lemmas.List.FromFn.{length-map-range_with_len}
use Rattle.sha2.specs.Sha256.{sha256}
use Rattle.partition_tree.specs.Digests.{digest_of_children, root_of as root_of_pages}
use Rattle.terms.specs.declared.state.Level.{Level}
use Rattle.terms.specs.declared.state.Level.TheVariants as levels
use Rattle.wire_format.specs.Messages.{BodyData as Body, MessageData as Message, meta as Meta, page as Page}
use Rattle.signing.specs.AuthenticBody.{authentic}
use Rattle.ordering.specs.Log.{LogData}
use Rattle.protocol.specs.System.Configuration.{Configuration, members}
use Rattle.protocol.specs.System.Trace.{Entry, Has}
use Rattle.protocol.specs.System.Trace.Entry.{Got}
use Rattle.protocol.specs.Replica.State.{State, page_text, all_pages, last_time}
use Rattle.protocol.specs.Replica.RightReplica.{Point}
use Rattle.protocol.specs.Replica.Transfers.{fetch_sent, asked_last, in_place}
use Rattle.protocol.specs.Replica.Owed.{IsWanted, IsAwaitedAlone, CanInstall, TransferGoesOn}
use Rattle.protocol.proofs.Words.Options.{some_injective}
use Rattle.state_transfer.specs.declared.place.Place.{Place}
use Rattle.state_transfer.specs.Places.{page_place}
use Rattle.state_transfer.specs.Transfer.{TransferData}
use Rattle.replica_histories.specs.Desk.{Desk}
use Rattle.replica_histories.specs.Events.{BothFitBetweenEvents}
use Rattle.replica_histories.specs.Fetching.{IsOther, OtherDigestsOweNone, OtherPagesOweNone, FetchesSuffice, FetchedSuffice}
use Rattle.replica_histories.specs.Questions.{is_part, AnswersInput, OwesReadReply, AnswersWaiting, OwesViewChange}
use Rattle.replica_histories.specs.Transfers.{FitsTransfer, FitsStateTransfer, RestsOnState}
use Rattle.replica_histories.specs.TransfersAnswers.{AnswersFetches}
use Rattle.replica_histories.proofs.Questions.{parts_ask_nothing}
use Rattle.replica_histories.proofs.Transfers.{wanted_by_history}
use Rattle.replica_histories.proofs.TransfersInstalling.{page_at}
use Rattle.replica_histories.proofs.TransfersTaking.{asked_at_most, held_in_place}

-- ---- all pages

same_pages : (pages others : ℕ → List ℕ) → ((i : ℕ) → i < 1024 → pages i ≡ others i) → all_pages pages ≡ all_pages others
unfolding all_pages
same_pages pages others same =
    ext_get_or [] (map pages (range_with_len 0 1024)) (map others (range_with_len 0 1024)) (length-map-range_with_len pages 0 1024 ∙ sym (length-map-range_with_len others 0 1024))
    (λ i l. let within : i < 1024 = subst (λ (n : ℕ). i < n) (length-map-range_with_len pages 0 1024) l in page_at pages 1024 i within ∙ same i within ∙ sym (page_at others 1024 i within))

all_held : (pages : ℕ → List ℕ) (held : List (List ℕ)) → length held ≡ 1024 → ((i : ℕ) → i < 1024 → get_or held i [] ≡ pages i) → all_pages pages ≡ held
unfolding all_pages
all_held pages held long same =
    ext_get_or [] (map pages (range_with_len 0 1024)) held (length-map-range_with_len pages 0 1024 ∙ sym long)
    (λ i l. let within : i < 1024 = subst (λ (n : ℕ). i < n) (length-map-range_with_len pages 0 1024) l in page_at pages 1024 i within ∙ sym (same i within))

-- ---- a received part

module _ (c : Configuration) (me : ℕ) (past : List Entry) (bytes : List ℕ) (point : Point) (outputs : List Entry) (executed : ℕ) where
  -- the body is an awaited part
  abbrev Awaits : Body → Type 0
  Awaits body = elim body.message [
    | Meta k level index digests ↦ IsAwaitedAlone c me past point k level index (digest_of_children digests)
    | Page k index text ↦ IsAwaitedAlone c me past point k levels.Page index (sha256 text)
    | _ ↦ ⊥
  ]

  abbrev number_in : Body → ℕ
  number_in body = elim body.message [ Meta k level index digests ↦ k | Page k index text ↦ k | _ ↦ 0 ]

  abbrev GoesOnFor : ℕ → Type 0
  GoesOnFor k = TransferGoesOn c me (Got me bytes ∷ past) point outputs executed k

  answered : (body : Body) → authentic (members c me) me bytes ≡ Some body → is_part body ≡ true → (Awaits body → GoesOnFor (number_in body)) → AnswersInput c me past (Got me bytes) outputs point executed
  answered body h part goes = (
    nothing.0,
    nothing.1,
    λ s k index level digests receives awaited. on (record { sender = s; message = Meta k level index digests }) receives awaited,
    λ s k index text receives awaited. on (record { sender = s; message = Page k index text }) receives awaited,
    nothing.2,
    nothing.3,
  )
    where
      nothing : AnswersFetches c me past (Got me bytes) outputs point × OwesReadReply c me past (Got me bytes) outputs point × AnswersWaiting c me past (Got me bytes) outputs point × OwesViewChange c me past (Got me bytes) outputs point
      nothing = parts_ask_nothing c me body past (Got me bytes) h outputs point part

      on : (other : Body) → authentic (members c me) me bytes ≡ Some other → Awaits other → GoesOnFor (number_in other)
      on other receives awaited =
          let same : body ≡ other = some_injective body other (sym h ∙ receives) in
          subst (λ (b : Body). GoesOnFor (number_in b)) same (goes (subst Awaits (sym same) awaited))

  -- an awaited part was asked for
  asked_in : (body : Body) → Awaits body → (place : Level × ℕ) × (asked_last past ≡ Some (number_in body, place))
  asked_in body a = go body.message a
    where
      go : (m : Message) → Awaits (record { sender = body.sender; message = m }) → (place : Level × ℕ) × (asked_last past ≡ Some (number_in (record { sender = body.sender; message = m }), place))
      go (Meta k level index digests) h = ((level, index), h.0.0)
      go (Page k index text) h = ((levels.Page, index), h.0.0)
      go _ h = absurd h

-- ---- with the data of the desk

module _ (c : Configuration) (me : ℕ) (desk : Desk) (log : LogData) (past : List Entry) (held : BothFitBetweenEvents c me desk log past) where
  abbrev point : Point
  point = held.of_desk.point

  state_is : point.state ≡ desk.state
  state_is = ap (λ (p : Point). p.state) held.of_desk.is

  opened : (t : TransferData) → desk.transfer ≡ Some t → FitsTransfer c me t past
  opened t there = (subst (λ (o : Option TransferData). FitsStateTransfer c me o desk.state.number past) there held.of_desk.opened).0

  -- if no transfer is open, nothing above the executed number was asked for
  none_open : desk.transfer ≡ None → (n : ℕ) (place : Level × ℕ) → asked_last past ≡ Some (n, place) → point.state.number < n → ⊥
  none_open none n place asked above =
      let most = (subst (λ (o : Option TransferData). FitsStateTransfer c me o desk.state.number past) none held.of_desk.opened).0 in
      let least = asked_at_most past n place asked in
      let same = ap (λ (st : State). st.number) state_is in
      absurd (omega (arith, most, least, same, above))

  same_asked : (t : TransferData) (n : ℕ) (place : Level × ℕ) → desk.transfer ≡ Some t → asked_last past ≡ Some (n, place) → ◌≡◌ {A = ℕ × (Level × ℕ)} (t.number, (t.asked.level, t.asked.index)) (n, place)
  same_asked t n place there asked = some_injective (t.number, (t.asked.level, t.asked.index)) (n, place) (sym (opened t there).asked ∙ asked)

  not_awaited : (place : Place) (k : ℕ) (digest : List ℕ) → ForSome desk.transfer (λ t. IsOther t k place digest) → IsAwaitedAlone c me past point k place.level place.index digest → ⊥
  not_awaited place k digest other a = go desk.transfer refl
    where
      go : (o : Option TransferData) → desk.transfer ≡ o → ⊥
      go None e = none_open e k (place.level, place.index) a.0.0 a.0.1
      go (Some t) e =
          let x = other t e in
          let same = same_asked t k (place.level, place.index) e a.0.0 in
          x.2 (ap (λ (y : ℕ × (Level × ℕ)). y.0) same) (ap (λ (y : ℕ × (Level × ℕ)). let p : Place = record { level = y.1.0; index = y.1.1 } in p) same)
          (a.1 x.0 (subst (λ (y : ℕ × (Level × ℕ)). IsWanted c me past y.0 y.1.0 y.1.1 x.0) same (wanted_by_history c me t past t.asked.level t.asked.index x.0 (opened t e).aims x.1)))

  -- an awaited part is of the open transfer's number
  same_number : (t : TransferData) (body : Body) → desk.transfer ≡ Some t → Awaits c me past [] point [] 0 body → t.number ≡ number_in c me past [] point [] 0 body
  same_number t body there a =
      let asked = asked_in c me past [] point [] 0 body a in
      ap (λ (y : ℕ × (Level × ℕ)). y.0) (same_asked t (number_in c me past [] point [] 0 body) asked.0 there asked.1)

pub other_digests_owe_none : OtherDigestsOweNone
other_digests_owe_none c me desk log past s k executed place digests bytes outputs held receives other =
    answered c me past bytes held.of_desk.point outputs executed (record { sender = s; message = Meta k place.level place.index digests }) receives refl
    (λ awaited. absurd (not_awaited c me desk log past held place k (digest_of_children digests) other awaited))

pub other_pages_owe_none : OtherPagesOweNone
other_pages_owe_none c me desk log past s k index executed text bytes outputs held receives other =
    answered c me past bytes held.of_desk.point outputs executed (record { sender = s; message = Page k index text }) receives refl
    (λ awaited. absurd (not_awaited c me desk log past held (page_place index) k (sha256 text) other awaited))

pub fetches_suffice : FetchesSuffice
fetches_suffice c me desk log past t body bytes outputs executed held there receives part has =
    answered c me past bytes held.of_desk.point outputs executed body receives part
    (λ awaited. inl (subst (λ (n : ℕ). Has (λ e. fetch_sent e ≡ n) outputs) (same_number c me desk log past held t body there awaited) has))

pub fetched_suffice : FetchedSuffice
fetched_suffice c me desk log past t new body bytes outputs executed held there receives part number may rests long root reaches =
    answered c me past bytes held.of_desk.point outputs executed body receives part
    (λ awaited. subst (λ (k : ℕ). TransferGoesOn c me now held.of_desk.point outputs executed k) (number ∙ same_number c me desk log past held t body there awaited)
    (inr (new.root, (may.aims.root_wanted, ap root_of_pages in_place_held ∙ root), reached)))
  where
    now : List Entry
    now = Got me bytes ∷ past

    in_place_held : all_pages (in_place c me new.number now held.of_desk.point.state) ≡ new.held
    in_place_held = all_held (in_place c me new.number now held.of_desk.point.state) new.held long
        (held_in_place c me new now held.of_desk.point.state may.taken (subst (λ (st : State). RestsOnState new st) (sym (state_is c me desk log past held)) rests))

    reached : CanInstall c me now held.of_desk.point new.number new.root → new.number ≤ executed
    reached can =
        reaches can.0.state can.1.is_state can.1.number
        (same_pages (page_text can.0.state) (in_place c me new.number now held.of_desk.point.state) can.1.pages ∙ in_place_held)
        (λ client. subst (λ (st : State). last_time st client ≤ last_time can.0.state client) (state_is c me desk log past held) (can.2 client))
