-- A part arrives and is taken: the open transfer has it, and the event goes on.
use Rattle.std.proofs.Common.{◌≡◌, ◌≢◌, ℕ, ◌/◌, ◌%◌, slice_get, slice_index_or, inl, inr, true, false, List, [], ◌∷◌, Option, Some, None, refl, sym, ap, ◌∙◌, subst, option_map}
use Rattle.wire_format.specs.Messages.{BodyData as Body, MessageData, MessageData as Message, fetch as FetchMessage, meta as MetaMessage, page as PageMessage}
use Rattle.std.specs.Option.{option_map_or}
use Rattle.wire_format.specs.declared.messages.Meta.{Meta}
use Rattle.wire_format.specs.declared.messages.Page.{Page}
use Rattle.sha2.specs.Sha256.{sha256}
use Rattle.terms.specs.declared.state.Level.{Level}
use Rattle.terms.specs.declared.state.Level.TheVariants as levels
use Rattle.partition_tree.specs.Digests.{digest_of_children}
use Rattle.signing.specs.AuthenticBody.{authentic}
use Rattle.events.specs.declared.output.Output.{Output}
use Rattle.state_transfer.specs.declared.place.Place.{Place}
use Rattle.state_transfer.specs.Places.{page_place}
use Rattle.state_transfer.specs.Transfer.{TransferData, fitting_children, digest_of_part, pages_of_part, wanted_at, wanted, with_digests, with_page}
use Rattle.protocol.specs.System.Configuration.{Configuration, members}
use Rattle.protocol.specs.System.Trace.{Entry, Has}
use Rattle.protocol.specs.System.Trace.Entry.{Got}
use Rattle.protocol.specs.Replica.Certificates.{new_view_from}
use Rattle.protocol.specs.Replica.Transfers.{fetch_sent}
use Rattle.protocol.specs.Replica.Owed.{Counts}
use Rattle.protocol.proofs.Words.Options.{some_injective, and_then_some}
use Rattle.replica_histories.specs.Questions.{is_part, AnswersInput}
use Rattle.replica_histories.specs.Events as histories
use Rattle.replica_histories.specs.Events.{IsTaken}
use Rattle.replica_histories.specs.Fetching.{IsOther}
use Rattle.replica_histories.specs.Changes.{IsNoChange}
use Rattle.replica_histories.specs.Transfers.{FitsStateTransfer, TransferMayAsk, IsTold, RestsOnState}
use Rattle.replica_histories.proofs.Fetching.{digests_enter, pages_enter, asked_digests_count, asked_pages_count}
use Rattle.replica_histories.proofs.PartsOwed.{fetches_suffice, other_digests_owe_none, other_pages_owe_none}
use Rattle.replica_histories.proofs.Transfers.{digests_keep, digests_open}
use Rattle.replica_histories.proofs.TransfersInstalling.{digests_rest, pages_rest}
use Rattle.desk.specs.declared.transfer.Taken.{Taken}
use Rattle.replica.specs.declared.taking.DueWork.TheVariants as due_work
use Rattle.replica.specs.State.{BothPartsData, AreOne, Gives, heard}
use Rattle.desk.specs.State.{DeskData, OpenData}
use Rattle.orderer.specs.Fitting.{given, FitsEvent}
use Rattle.replica.specs.Entering.{event_of, TakesBytes}
use Rattle.replica.specs.Fetching.{FetchesNextPart, MulticastsFetch}
use Rattle.desk.specs.Fetching.{fetch_of, with_transfer, TakesDigests, TakesPage}
use Rattle.replica.specs.BothParts.{BothPartsMatchHistory, me_of}
use Rattle.orderer.specs.Multicasting.{Multicasts}
use Rattle.desk.specs.Transferring.{TakesDigestsOf, TakesPageOf, AsksPlace}
use Rattle.desk.specs.DeskOf.{desk_of, RestsAt, IsDeskOf}
use Rattle.replica.proofs.Beginning.{heard_by, rests}
use Rattle.replica.proofs.Beside.{IsBeside, changes_beside, drops_beside, takes_none}
use Rattle.replica.proofs.Fetched.{asked_number, asks_next}
use Rattle.orderer.proofs.Staying.{numbers_beside, said_on}
use Rattle.orderer.proofs.Voting.{said_in}

-- If a part below the root is wanted, the digests of the root's children are known.
told_below : (t : TransferData) (level : Level) (index : ℕ) (digest : List ℕ) → wanted_at t level index ≡ Some digest → level ≢ levels.Root → IsTold t
told_below t levels.Root index digest h below = absurd (below refl)
told_below t levels.Inner index digest h below = let w = and_then_some (λ digests. slice_get digests index) t.part_digests digest h in (w.0, w.1)
told_below t levels.Page index digest h below =
    let w = and_then_some (λ digests. slice_get digests (index % 32)) (pages_of_part t (index / 32)) digest h in
    let v = and_then_some (λ inner. fitting_children inner (slice_index_or t.page_digests (index / 32) None)) (digest_of_part t (index / 32)) w.0 w.1 in
    let u = and_then_some (λ digests. slice_get digests (index / 32)) t.part_digests v.0 v.1 in
    (u.0, u.1)

-- They are known once wanted digests are taken.
told_with : (t : TransferData) (level : Level) (index : ℕ) (digests : List (List ℕ)) (digest : List ℕ) → wanted_at t level index ≡ Some digest → IsTold (with_digests t (record { level = level; index = index }) digests)
told_with t levels.Root index digests digest h = (digests, refl)
told_with t levels.Inner index digests digest h = told_below t levels.Inner index digest h (λ same. cc)
told_with t levels.Page index digests digest h = told_below t levels.Page index digest h (λ same. cc)

-- In the event that begins with the bytes, which are a part, this transfer may ask on. It has the open one's number. Up
-- to here the event fits with that one open, and nothing else changed.
pub record Comes (c : Configuration) (r : BothPartsData) (past : List Entry) (runs : BothPartsMatchHistory c r past) (bytes : List ℕ) (n : OpenData) : Type 0 where
  pub is : IsDeskOf c (with_transfer n r.desk)
  pub open_one : Option TransferData
  pub fits : FitsEvent c (me_of r) (event_of c r past runs bytes) r.orderer (record (desk_of c r.desk) { transfer = open_one }) r.desk.waiting [] []
  pub may : TransferMayAsk c (me_of r) n.transfer r.desk.executed.state.number (Got (me_of r) bytes ∷ past)
  pub told : IsTold n.transfer
  pub taken : IsTaken c (me_of r) (event_of c r past runs bytes)
  pub was : TransferData
  pub is_open : (desk_of c r.desk).transfer ≡ Some was
  pub number : n.transfer.number ≡ was.number
  pub body : Body
  pub heard_is : authentic (members c (me_of r)) (me_of r) bytes ≡ Some body
  pub part : is_part body ≡ true

-- after the bytes it is open
abbrev pub IsOpen : (c : Configuration) (r : BothPartsData) (past : List Entry) → BothPartsMatchHistory c r past → List ℕ → OpenData → Type 0
IsOpen c r past runs bytes n = FitsStateTransfer c (me_of r) (Some n.transfer) r.desk.executed.state.number (Got (me_of r) bytes ∷ past)

module _ (r : BothPartsData) (one : AreOne r.orderer r.desk) (bytes : List ℕ) (sender : ℕ) (o n : OpenData) (there : r.desk.transfer ≡ Some o) (c : Configuration) (past : List Entry)
    (runs : BothPartsMatchHistory c r past) (known : Gives c r.orderer) where
  abbrev me : ℕ
  me = me_of r

  open_there : (desk_of c r.desk).transfer ≡ Some o.transfer
  open_there = ap (option_map (λ (x : OpenData). x.transfer)) there

  -- the event that begins with a received part, from which the transfer has this
  module _ (message : Message) (t : TransferData) (n_is : n ≡ record o { transfer = t }) (receives : heard r.orderer bytes ≡ Some (record { sender = sender; message = message })) where
    abbrev body : Body
    body = record { sender = sender; message = message }

    receives_in : authentic (members c me) me bytes ≡ Some body
    receives_in = heard_by r one c bytes body known receives

    comes : is_part body ≡ true → t.number ≡ o.transfer.number → new_view_from c body ≡ None → IsNoChange (Some body) → (RestsOnState o.transfer r.desk.executed.state → RestsOnState t r.desk.executed.state) → Counts c me past runs.holds.of_desk.point bytes sender message
        → (open_one : Option TransferData) → histories.BothFitWithinEvent c me (event_of c r past runs bytes) (record (desk_of c r.desk) { transfer = open_one }) r.orderer.log [] []
        → TransferMayAsk c me t r.desk.executed.state.number (Got me bytes ∷ past) → IsTold t → Comes c r past runs bytes n
    comes part number views changes rests counts open_one fits may told = subst (Comes c r past runs bytes) (sym n_is) (record {
      is = record {
        members_are = runs.is_desk.members_are;
        period_is = runs.is_desk.period_is;
        rests = λ x e. subst (RestsAt r.desk.executed.state) (some_injective (record o { transfer = t }) x e) (let at = runs.is_desk.rests o there in (at.0, λ same. rests (at.1 same)));
        calls = runs.is_desk.calls;
        differ = runs.is_desk.differ;
      };
      open_one = open_one;
      may = may;
      told = told;
      fits = record {
        fits = fits;
        numbers = numbers_beside c me r.desk.waiting r.orderer (desk_of c r.desk) past (Got me bytes) runs.holds.of_log.fits.faults runs.holds.of_log.fits.own
            (record { here = refl; none = takes_none r one c past runs bytes body receives_in views; sends = refl }) runs.numbers;
        said = said_on me r.orderer.last_checkpoint past (Got me bytes) runs.said;
        changes = changes_beside r one c past runs bytes body receives_in (record (desk_of c r.desk) { transfer = open_one }) [] views changes fits;
        meant = tt;
      };
      taken = (body, receives_in, counts);
      was = o.transfer;
      is_open = open_there;
      number = number;
      body = body;
      heard_is = receives_in;
      part = part;
    })

  -- digests are taken
  module _ (meta : Meta) (receives : heard r.orderer bytes ≡ Some (record { sender = sender; message = MetaMessage meta.number.0 meta.level meta.index meta.digests.items }))
      (takes : TakesDigestsOf o meta n true) where
    abbrev place : Place
    place = record { level = meta.level; index = meta.index }

    abbrev told : MessageData
    told = MetaMessage o.transfer.number meta.level meta.index meta.digests.items

    n_is_told : n ≡ record o { transfer = with_digests o.transfer place meta.digests.items }
    n_is_told = takes.3 ∙ ap (λ (p : Place). record o { transfer = with_digests o.transfer p meta.digests.items }) takes.1

    wants : wanted o.transfer place ≡ Some (digest_of_children meta.digests.items)
    wants = subst (λ (p : Place). wanted o.transfer p ≡ Some (digest_of_children meta.digests.items)) takes.1 takes.2

    heard_told : heard r.orderer bytes ≡ Some (record { sender = sender; message = told })
    heard_told = subst (λ (k : ℕ). heard r.orderer bytes ≡ Some (record { sender = sender; message = MetaMessage k meta.level meta.index meta.digests.items })) takes.0 receives

    heard_here : authentic (members c me) me bytes ≡ Some (record { sender = sender; message = told })
    heard_here = heard_by r one c bytes (record { sender = sender; message = told }) known heard_told

    pub digests_come : Comes c r past runs bytes n
    digests_come =
        let enters = digests_enter c me (desk_of c r.desk) r.orderer.log past o.transfer sender place meta.digests.items bytes runs.holds open_there heard_here wants in
        comes told (with_digests o.transfer place meta.digests.items) n_is_told heard_told refl (digests_keep o.transfer meta.level meta.index meta.digests.items).0 refl tt (digests_rest o.transfer r.desk.executed.state place meta.digests.items)
        (asked_digests_count c me (desk_of c r.desk) r.orderer.log past o.transfer sender place meta.digests.items bytes runs.holds open_there takes.1 wants)
        (Some (with_digests o.transfer place meta.digests.items)) enters.0 enters.1 (told_with o.transfer meta.level meta.index meta.digests.items (digest_of_children meta.digests.items) wants)

    pub digests_stay : IsOpen c r past runs bytes n
    digests_stay = subst (IsOpen c r past runs bytes) (sym n_is_told)
        (digests_open c me o.transfer r.desk.executed.state.number past bytes sender o.transfer.number place meta.digests.items heard_here wants
        (subst (λ (t : Option TransferData). FitsStateTransfer c me t r.desk.executed.state.number past) open_there runs.holds.of_desk.opened))

  -- a page is taken
  pub page_comes : (page : Page) (replaced : Taken) → heard r.orderer bytes ≡ Some (record { sender = sender; message = PageMessage page.number.0 page.index page.text.items })
      → TakesPageOf o page n (Some replaced) → Comes c r past runs bytes n
  page_comes page replaced receives (number, asked, wants, n_is, from, all, below) =
      let text = page.text.items in
      let heard_it = subst (λ (k : ℕ). heard r.orderer bytes ≡ Some (record { sender = sender; message = PageMessage k page.index text })) number receives in
      let message = PageMessage o.transfer.number page.index text in
      let enters = pages_enter c me (desk_of c r.desk) r.orderer.log past o.transfer sender page.index text bytes runs.holds open_there asked
      (heard_by r one c bytes (record { sender = sender; message = message }) known heard_it) all.0 all.1 in
      comes message (with_page o.transfer page.index text) n_is heard_it refl refl refl tt (pages_rest o.transfer r.desk.executed.state page.index text all.1 below)
      (asked_pages_count c me (desk_of c r.desk) r.orderer.log past o.transfer sender page.index text bytes runs.holds open_there asked wants)
      (desk_of c r.desk).transfer enters.0 enters.1 (told_below o.transfer levels.Page page.index (sha256 text) wants (λ same. cc))

-- If more is to be fetched then, the event asks for it.
module _ (r : BothPartsData) (one : AreOne r.orderer r.desk) (bytes : List ℕ) (n : OpenData)
    (comes : (c : Configuration) (past : List Entry) (runs : BothPartsMatchHistory c r past) → Gives c r.orderer → Comes c r past runs bytes n) where
  -- the fetch is sent
  fetch_given : (c : Configuration) → Gives c r.orderer → (m : OpenData) (outs : List Output) → Multicasts r.orderer (fetch_of m.transfer) [] outs → (k : ℕ) → m.transfer.number ≡ k
      → Has (λ e. fetch_sent e ≡ k) (given (me_of r) outs)
  fetch_given c known m outs says k number =
      let said = said_in c r.orderer (fetch_of m.transfer) [] outs known says in
      subst (Has (λ e. fetch_sent e ≡ k)) (sym said.is.is)
      (inl (ap (λ (x : Option Body). option_map_or (λ (b : Body). elim b.message [ FetchMessage n level index ↦ n | _ ↦ 0 ]) x 0) said.is_outgoing.says ∙ number))

  asks_for : (m : OpenData) (place : Place) (outs : List Output) → AsksPlace r.desk.executed.state n m (Some place) → Multicasts r.orderer (fetch_of m.transfer) [] outs
      → TakesBytes bytes r due_work.Nothing (record r { desk = with_transfer m r.desk }) outs
  asks_for m place outs asks says = record {
    party = record { endpoint = refl; me = refl; membership = refl };
    begins = λ c past runs known.
        let came = comes c past runs known in
        let asked = asks_next c (event_of c r past runs bytes) r.orderer (with_transfer n r.desk) r.desk.waiting n [] refl came.is came.open_one came.fits came.may came.told tt m place outs
        known asks says in (
          record {
            is = asked.0;
            fits = subst (λ (x : ℕ). FitsEvent c x (event_of c r past runs bytes) r.orderer (desk_of c (with_transfer m r.desk)) r.desk.waiting [] outs) (sym one.0) asked.1;
          },
          (
            rests c r past runs,
            runs.all,
            fetches_suffice c (me_of r) (desk_of c r.desk) r.orderer.log past came.was came.body bytes (given (me_of r) outs) r.desk.executed.state.number runs.holds came.is_open came.heard_is came.part
                (fetch_given c known m outs says came.was.number (asked_number r.desk.executed.state n m (Some place) asks ∙ came.number)),
            inr came.taken,
          ),
          runs.nothing_begins,
        );
  }

  said : (m : OpenData) (outs : List Output) → MulticastsFetch (record r { desk = with_transfer m r.desk }) [] outs → Multicasts r.orderer (fetch_of m.transfer) [] outs
  said m outs (inl (none, same)) = absurd cc
  said m outs (inr (x, is, says)) = subst (λ (y : OpenData). Multicasts r.orderer (fetch_of y.transfer) [] outs) (sym (some_injective m x is)) says

  pub asks_on : (new : BothPartsData) (outs : List Output) → FetchesNextPart (record r { desk = with_transfer n r.desk }) [] new outs true → TakesBytes bytes r due_work.Nothing new outs
  asks_on new outs (desk, (x, m, place, there, desk_is, asks), new_is, says) =
      let whole : new ≡ record r { desk = with_transfer m r.desk } = new_is ∙ ap (λ (d : DeskData). record r { desk = d }) desk_is in
      subst (λ (y : BothPartsData). TakesBytes bytes r due_work.Nothing y outs) (sym whole)
      (asks_for m place outs (subst (λ (y : OpenData). AsksPlace r.desk.executed.state y m (Some place)) (sym (some_injective n x there)) asks)
      (said m outs (subst (λ (y : BothPartsData). MulticastsFetch y [] outs) whole says)))

-- ---- what the code does

module _ (r : BothPartsData) (one : AreOne r.orderer r.desk) (bytes : List ℕ) (sender : ℕ) (desk : DeskData) (outs : List Output) where
  -- an input to which the replica owes nothing is dropped, with the same desk
  dropped : (message : Message) → heard r.orderer bytes ≡ Some (record { sender = sender; message = message }) → ((c : Configuration) → IsBeside c (record { sender = sender; message = message }))
      → ((c : Configuration) (past : List Entry) (runs : BothPartsMatchHistory c r past) → Gives c r.orderer → AnswersInput c (me_of r) past (Got (me_of r) bytes) [] runs.holds.of_desk.point r.desk.executed.state.number)
      → desk ≡ r.desk → outs ≡ [] → TakesBytes bytes r due_work.Nothing (record r { desk = desk }) outs
  dropped message receives beside answers same silent =
      subst (λ (os : List Output). TakesBytes bytes r due_work.Nothing (record r { desk = desk }) os) (sym silent)
      (subst (λ (d : DeskData). TakesBytes bytes r due_work.Nothing (record r { desk = d }) []) (sym same) (drops_beside r one bytes (record { sender = sender; message = message }) receives beside answers))

  -- the transfer that is open is the one at the desk
  of_open : (c : Configuration) (past : List Entry) (runs : BothPartsMatchHistory c r past) (P : TransferData → Type 0) → ((o : OpenData) → r.desk.transfer ≡ Some o → P o.transfer) → (t : TransferData) → (desk_of c r.desk).transfer ≡ Some t → P t
  of_open c past runs P each t there = go r.desk.transfer refl there
    where
      go : (x : Option OpenData) → r.desk.transfer ≡ x → option_map (λ (y : OpenData). y.transfer) x ≡ Some t → P t
      go None e f = absurd cc
      go (Some o) e f = subst P (some_injective o.transfer t f) (each o e)

  pub digests_dropped : (meta : Meta) → heard r.orderer bytes ≡ Some (record { sender = sender; message = MetaMessage meta.number.0 meta.level meta.index meta.digests.items })
      → TakesDigests r.desk meta desk false → outs ≡ [] → TakesBytes bytes r due_work.Nothing (record r { desk = desk }) outs
  digests_dropped meta receives (same, others) silent =
      dropped (MetaMessage meta.number.0 meta.level meta.index meta.digests.items) receives (λ c. record { log = tt; call = refl; asks = λ st. refl; views = refl; changes = tt })
      (λ c past runs known.
      other_digests_owe_none c (me_of r) (desk_of c r.desk) r.orderer.log past sender meta.number.0 r.desk.executed.state.number (record { level = meta.level; index = meta.index }) meta.digests.items bytes [] runs.holds
      (heard_by r one c bytes (record { sender = sender; message = MetaMessage meta.number.0 meta.level meta.index meta.digests.items }) known receives)
      (of_open c past runs (λ t. IsOther t meta.number.0 (record { level = meta.level; index = meta.index }) (digest_of_children meta.digests.items)) others)) same silent

  pub page_dropped : (page : Page) → heard r.orderer bytes ≡ Some (record { sender = sender; message = PageMessage page.number.0 page.index page.text.items })
      → TakesPage r.desk page desk None → outs ≡ [] → TakesBytes bytes r due_work.Nothing (record r { desk = desk }) outs
  page_dropped page receives (same, others) silent =
      dropped (PageMessage page.number.0 page.index page.text.items) receives (λ c. record { log = tt; call = refl; asks = λ st. refl; views = refl; changes = tt })
      (λ c past runs known.
      other_pages_owe_none c (me_of r) (desk_of c r.desk) r.orderer.log past sender page.number.0 page.index r.desk.executed.state.number page.text.items bytes [] runs.holds
      (heard_by r one c bytes (record { sender = sender; message = PageMessage page.number.0 page.index page.text.items }) known receives)
      (of_open c past runs (λ t. IsOther t page.number.0 (page_place page.index) (sha256 page.text.items)) others)) same silent

  module _ (before : List Output) (first : before ≡ []) (new : BothPartsData) (asks : FetchesNextPart (record r { desk = desk }) before new outs true) where
    -- the transfer takes it, and asks for more after it
    asked : (n : OpenData) → desk ≡ with_transfer n r.desk
        → ((c : Configuration) (past : List Entry) (runs : BothPartsMatchHistory c r past) → Gives c r.orderer → Comes c r past runs bytes n) → TakesBytes bytes r due_work.Nothing new outs
    asked n desk_is comes = asks_on r one bytes n comes new outs (subst (λ (d : DeskData). FetchesNextPart (record r { desk = d }) [] new outs true) desk_is (subst (λ (os : List Output). FetchesNextPart (record r { desk = desk }) os new outs true) first asks))

    pub digests_asked : (meta : Meta) → heard r.orderer bytes ≡ Some (record { sender = sender; message = MetaMessage meta.number.0 meta.level meta.index meta.digests.items })
        → TakesDigests r.desk meta desk true → TakesBytes bytes r due_work.Nothing new outs
    digests_asked meta receives (o, n, there, desk_is, takes) = asked n desk_is (λ c past runs known. digests_come r one bytes sender o n there c past runs known meta receives takes)

    pub page_asked : (page : Page) (replaced : Taken) → heard r.orderer bytes ≡ Some (record { sender = sender; message = PageMessage page.number.0 page.index page.text.items })
        → TakesPage r.desk page desk (Some replaced) → TakesBytes bytes r due_work.Nothing new outs
    page_asked page replaced receives (o, n, there, desk_is, takes) = asked n desk_is (λ c past runs known. page_comes r one bytes sender o n there c past runs known page replaced receives takes)
