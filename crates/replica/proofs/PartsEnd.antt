-- The last part of a state arrived: the replica installs the state, or it is none.
use Rattle.std.proofs.Common.{◌≡◌, ℕ, inl, inr, true, false, List, [], Option, Some, None, refl, sym, ap, ◌∙◌, subst, arith}
use Rattle.wire_format.specs.Messages.{meta as MetaMessage, page as PageMessage}
use Rattle.wire_format.specs.declared.messages.Meta.{Meta}
use Rattle.wire_format.specs.declared.messages.Page.{Page}
use Rattle.terms.specs.declared.parties.ReplicaId.{ReplicaId}
use Rattle.events.specs.declared.output.Output.{Output}
use Rattle.partition_tree.specs.Digests.{root_of as root_of_pages}
use Rattle.state_transfer.specs.declared.replaced.Replaced.{Replaced}
use Rattle.state_transfer.specs.Transfer.{TransferData, given_back, with_page}
use Rattle.protocol.specs.System.Configuration.{Configuration}
use Rattle.protocol.specs.System.Trace.{Entry}
use Rattle.protocol.specs.System.Trace.Entry.{Got}
use Rattle.protocol.specs.Replica.State.{State}
use Rattle.replica_histories.proofs.Transfers.{pages_give_back}
use Rattle.replica_histories.specs.Events.{IsTaken}
use Rattle.replica_histories.specs.Fetching.{TransferReachesState}
use Rattle.replica_histories.specs.Questions.{AnswersInput}
use Rattle.replica_histories.proofs.PartsOwed.{fetched_suffice}
use Rattle.desk.specs.declared.transfer.Taken.{Taken}
use Rattle.replica.specs.declared.taking.DueWork.TheVariants as due_work
use Rattle.replica.specs.State.{BothPartsData, AreOne, Gives, heard}
use Rattle.desk.specs.State.{DeskData, OpenData}
use Rattle.orderer.specs.Fitting.{FitsEvent}
use Rattle.replica.specs.Entering.{event_of, InputIsAnswered, TakesBytes, TakesMessage}
use Rattle.replica.specs.Fetching.{FetchesNextPart, InstallsFetchedState}
use Rattle.desk.specs.Fetching.{CannotInstall, PutsBack, TakesDigests, TakesPage, with_transfer}
use Rattle.replica.specs.BothParts.{BothPartsMatchHistory, me_of}
use Rattle.replica.specs.Going.{IsOneParty, IsSameParty}
use Rattle.desk.specs.Transferring.{AsksPlace, IsRestedAt, TakesPageOf}
use Rattle.desk.specs.DeskOf.{desk_of}
use Rattle.replica.proofs.Beginning.{rests}
use Rattle.replica.proofs.Beside.{drops_beside}
use Rattle.replica.proofs.Fetched.{asked_long, asked_number, rests_now}
use Rattle.replica.proofs.Installed.{IsFetched, installs_fetched, moved_party, number_reached, same_open}
use Rattle.replica.proofs.Choosing.{begins_nothing_same}
use Rattle.orderer.proofs.Parties.{same_orderer}
use Rattle.replica.proofs.Parties.{one_of_same, parties_twice}
use Rattle.replica.proofs.Parts.{Comes, IsOpen, digests_come, digests_stay, page_comes}

some_none : (x : OpenData) (P : Type 0) → Some x ≡ None → P
some_none x P e = absurd cc

-- the replica with this transfer
abbrev pub holding : OpenData → BothPartsData → BothPartsData
holding n r = record r { desk = with_transfer n r.desk }

same_holding : (r : BothPartsData) (n : OpenData) → IsSameParty r (holding n r)
same_holding r n = record { orderer = same_orderer r.orderer; me = refl; membership = refl }

-- After this part the transfer asks for no other: it rests on the state, and all held pages have the root.
pub record Rested (r : BothPartsData) (n m : OpenData) (a : BothPartsData) (outs : List Output) : Type 0 where
  pub asks : AsksPlace r.desk.executed.state n m None
  pub root : root_of_pages m.transfer.held ≡ m.transfer.root
  pub new_is : a ≡ holding m r
  pub outs_are : outs ≡ []

pub rested_so : (r : BothPartsData) (n : OpenData) (a : BothPartsData) (outs : List Output) → FetchesNextPart (holding n r) [] a outs false → (m : OpenData) × Rested r n m a outs
rested_so r n a outs (desk, inl (none, same), new_is, given_is) = some_none n _ none
rested_so r n a outs (desk, inr (o, m, there, desk_is, asks, root), new_is, given_is) = (
  m,
  record {
    asks = subst (λ (x : OpenData). AsksPlace r.desk.executed.state x m None) (sym (same_open n o there)) asks;
    root = root;
    new_is = new_is ∙ ap (λ (d : DeskData). let new : BothPartsData = record r { desk = d } in new) desk_is;
    outs_are = given_is;
  },
)

module _ (r : BothPartsData) (one : AreOne r.orderer r.desk) (bytes : List ℕ) (n m : OpenData)
    (comes : (c : Configuration) (past : List Entry) (runs : BothPartsMatchHistory c r past) → Gives c r.orderer → Comes c r past runs bytes n)
    (a b : BothPartsData) (mid outs : List Output) (f : Rested r n m a mid) where
  fetched : (c : Configuration) (past : List Entry) (runs : BothPartsMatchHistory c r past) → Gives c r.orderer
      → IsFetched c (event_of c r past runs bytes) (holding m r) m []
  fetched c past runs known =
      let k = comes c past runs known in
      let now = rests_now c (event_of c r past runs bytes) r.orderer (with_transfer n r.desk) r.desk.waiting n [] refl k.is k.open_one k.fits k.may k.told tt m f.asks in
      record { is_open = refl; is = now.0; open_one = k.open_one; fits = k.fits; may = now.1; rests = now.2; root = f.root }

  -- The replica owes nothing to the part, if pages of a state that can be installed imply that the number is reached.
  whole : (c : Configuration) (past : List Entry) (runs : BothPartsMatchHistory c r past) → Gives c r.orderer → (given : List Entry) (executed : ℕ) → TransferReachesState r.desk.executed.state m.transfer executed
      → AnswersInput c (me_of r) past (Got (me_of r) bytes) given runs.holds.of_desk.point executed
  whole c past runs known given executed reaches =
      let k = comes c past runs known in
      let g = fetched c past runs known in
      fetched_suffice c (me_of r) (desk_of c r.desk) r.orderer.log past k.was m.transfer k.body bytes given executed runs.holds k.is_open k.heard_is k.part (asked_number r.desk.executed.state n m None f.asks ∙ k.number) g.may
      g.rests (asked_long r.desk.executed.state n m None f.asks) f.root
      reaches

  -- no state can be installed
  pub none_owed : CannotInstall a.desk → (c : Configuration) (past : List Entry) (runs : BothPartsMatchHistory c r past) → Gives c r.orderer
      → AnswersInput c (me_of r) past (Got (me_of r) bytes) [] runs.holds.of_desk.point r.desk.executed.state.number
  none_owed cannot c past runs known =
      whole c past runs known [] r.desk.executed.state.number
      (λ st is number pages rises. absurd (subst (λ (x : BothPartsData). CannotInstall x.desk) f.new_is cannot m refl f.root st (record { state = is; number = number; pages = pages }) rises))

  -- it is a state, and the replica installs it
  pub state_comes : InstallsFetchedState a mid b outs true → TakesBytes bytes r due_work.State b outs
  state_comes installs = record {
    party = party;
    begins = λ c past runs known.
        let on = taken_on c past runs known in
        let stands = installs_fetched c (event_of c r past runs bytes) (holding m r) b m [] outs one (fetched c past runs known) (rests c r past runs).0 here in (
          stands.0,
          (stands.1, on.0, on.1),
          begins_nothing_same c r.orderer b.orderer (parties_twice r (holding m r) b (same_holding r m) (moved_party (holding m r) b m [] outs refl here)).orderer runs.nothing_begins,
        );
  }
    where
      here : InstallsFetchedState (holding m r) [] b outs true
      here = subst (λ (x : BothPartsData). InstallsFetchedState x [] b outs true) f.new_is (subst (λ (os : List Output). InstallsFetchedState a os b outs true) f.outs_are installs)

      reached : b.desk.executed.state.number ≡ m.transfer.number
      reached = number_reached (holding m r) b m [] outs refl here

      party : IsOneParty r b
      party = one_of_same r b (parties_twice r (holding m r) b (same_holding r m) (moved_party (holding m r) b m [] outs refl here))

      taken_on : (c : Configuration) (past : List Entry) (runs : BothPartsMatchHistory c r past) → Gives c r.orderer
          → IsTaken c (me_of b) (event_of c r past runs bytes) × InputIsAnswered c (me_of b) (event_of c r past runs bytes) b.desk.executed.state.number
      taken_on c past runs known =
          subst (λ (k : ℕ). IsTaken c k (event_of c r past runs bytes) × InputIsAnswered c k (event_of c r past runs bytes) b.desk.executed.state.number) (sym (ap (λ e. e.me) party.endpoint)) (
            (comes c past runs known).taken,
            λ given executed above. whole c past runs known given executed (λ st is number pages rises. let at = reached in omega (arith, at, above)),
          )

  -- it is none, and the open transfer stays
  pub none_comes : ((c : Configuration) (past : List Entry) (runs : BothPartsMatchHistory c r past) → Gives c r.orderer → IsOpen c r past runs bytes n)
      → InstallsFetchedState a mid b outs false → TakesBytes bytes r due_work.Nothing b outs
  none_comes opened (same, none, cannot) =
      subst (λ (x : BothPartsData). TakesBytes bytes r due_work.Nothing x outs) (sym (same ∙ f.new_is))
      (subst (λ (os : List Output). TakesBytes bytes r due_work.Nothing (holding m r) os) (sym (none ∙ f.outs_are)) (record {
        party = one_of_same r (holding m r) (same_holding r m);
        begins = λ c past runs known.
            let k = comes c past runs known in
            let now = rests_now c (event_of c r past runs bytes) r.orderer (with_transfer n r.desk) r.desk.waiting n [] refl k.is k.open_one k.fits k.may k.told tt m f.asks in (
              record {
                is = now.0;
                fits = subst (λ (k : ℕ). FitsEvent c k (event_of c r past runs bytes) r.orderer (desk_of c (with_transfer m r.desk)) r.desk.waiting [] []) (sym one.0) (now.3 (opened c past runs known));
              },
              (
                rests c r past runs,
                runs.all,
                none_owed cannot c past runs known,
                inl refl,
              ),
              runs.nothing_begins,
            );
      }))

-- ---- a page is given back

-- the place where the transfer rested since
given_back_rested : (t new : TransferData) (replaced : Replaced) (held : List (List ℕ)) → new ≡ record t { held = held } → given_back new replaced ≡ given_back t replaced
given_back_rested t new replaced held is = ap (λ (x : TransferData). given_back x replaced) is

rested_back : (st : State) (n m : OpenData) (replaced : Replaced) → IsRestedAt st n m → given_back m.transfer replaced ≡ given_back n.transfer replaced
rested_back st n m replaced (inl (same, at)) = ap (λ (x : OpenData). given_back x.transfer replaced) at
rested_back st n m replaced (inr (rests, at)) = given_back_rested n.transfer m.transfer replaced m.transfer.held rests.same

asked_back : (st : State) (n m : OpenData) (replaced : Replaced) → AsksPlace st n m None → given_back m.transfer replaced ≡ given_back n.transfer replaced
asked_back st n m replaced (rested, rests, next, m_is, all) = ap (λ (x : OpenData). given_back x.transfer replaced) m_is ∙ rested_back st n rested replaced rests

-- The transfer is as it was before the page came.
module _ (st : State) (o n m x : OpenData) (page : Page) (back : Taken) (takes : TakesPageOf o page n (Some back)) (asks : AsksPlace st n m None)
    (gives : x ≡ record { transfer = given_back m.transfer back.replaced; rests_at = back.rests_at.0 }) where
  transfer_back : given_back m.transfer back.replaced ≡ o.transfer
  transfer_back =
      asked_back st n m back.replaced asks
      ∙ ap (λ (y : OpenData). given_back y.transfer back.replaced) takes.3
      ∙ ap (given_back (with_page o.transfer page.index page.text.items)) takes.4.0
      ∙ pages_give_back o.transfer page.index page.text.items

  pub open_back : x ≡ o
  open_back = gives
      ∙ ap (λ (t : TransferData). let new : OpenData = record { transfer = t; rests_at = back.rests_at.0 } in new) transfer_back
      ∙ ap (λ (k : ℕ). let new : OpenData = record { transfer = o.transfer; rests_at = k } in new) takes.4.1

desk_back : (d e : DeskData) (o m : OpenData) (back : Taken) → d.transfer ≡ Some o → ((x : OpenData) → x ≡ record { transfer = given_back m.transfer back.replaced; rests_at = back.rests_at.0 } → x ≡ o)
    → PutsBack (with_transfer m d) back e → e ≡ d
desk_back d e o m back there same (inl (none, is)) = some_none m _ none
desk_back d e o m back there same (inr (k, x, is_open, e_is, gives)) =
    e_is
    ∙ ap (λ (y : OpenData). with_transfer y d) (same x (subst (λ (y : OpenData). x ≡ record { transfer = given_back y.transfer back.replaced; rests_at = back.rests_at.0 }) (sym (same_open m k is_open)) gives))
    ∙ ap (λ (t : Option OpenData). let new : DeskData = record d { transfer = t } in new) (sym there)

-- So is the replica, and it drops the page.
pub page_back : (r : BothPartsData) (one : AreOne r.orderer r.desk) (sender : ReplicaId) (page : Page) (bytes : List ℕ) (o n m : OpenData) (back : Taken) (a b : BothPartsData) (d : DeskData) (mid outs : List Output)
    → heard r.orderer bytes ≡ Some (record { sender = sender.0; message = PageMessage page.number.0 page.index page.text.items })
    → ((c : Configuration) (past : List Entry) (runs : BothPartsMatchHistory c r past) → Gives c r.orderer → AnswersInput c (me_of r) past (Got (me_of r) bytes) [] runs.holds.of_desk.point r.desk.executed.state.number)
    → r.desk.transfer ≡ Some o → TakesPageOf o page n (Some back) → Rested r n m a mid → InstallsFetchedState a mid b outs false → PutsBack b.desk back d
    → TakesBytes bytes r due_work.Nothing (record b { desk = d }) outs
page_back r one sender page bytes o n m back a b d mid outs receives answers there takes f (same, none, cannot) gives =
    subst (λ (x : BothPartsData). TakesBytes bytes r due_work.Nothing x outs) (sym r_is)
    (subst (λ (os : List Output). TakesBytes bytes r due_work.Nothing r os) (sym (none ∙ f.outs_are))
    (drops_beside r one bytes (record { sender = sender.0; message = PageMessage page.number.0 page.index page.text.items }) receives (λ c. record { log = tt; call = refl; asks = λ st. refl; views = refl; changes = tt }) answers))
  where
    b_is : b ≡ holding m r
    b_is = same ∙ f.new_is

    d_is : d ≡ r.desk
    d_is = desk_back r.desk d o m back there (λ x. open_back r.desk.executed.state o n m x page back takes f.asks)
        (subst (λ (x : BothPartsData). PutsBack x.desk back d) b_is gives)

    r_is : record b { desk = d } ≡ r
    r_is = ap (λ (x : BothPartsData). let new : BothPartsData = record x { desk = d } in new) b_is ∙ ap (λ (x : DeskData). let new : BothPartsData = record r { desk = x } in new) d_is

-- ---- digests

module _ (r : BothPartsData) (one : AreOne r.orderer r.desk) (sender : ReplicaId) (meta : Meta) (d : DeskData) (a b : BothPartsData) (mid outs : List Output) (takes : TakesDigests r.desk meta d true)
    (asks : FetchesNextPart (record r { desk = d }) [] a mid false) where
  digests_so : (bytes : List ℕ) → heard r.orderer bytes ≡ Some (record { sender = sender.0; message = MetaMessage meta.number.0 meta.level meta.index meta.digests.items })
      → (n : OpenData) × (m : OpenData) × Rested r n m a mid
      × ((c : Configuration) (past : List Entry) (runs : BothPartsMatchHistory c r past) → Gives c r.orderer → Comes c r past runs bytes n)
      × ((c : Configuration) (past : List Entry) (runs : BothPartsMatchHistory c r past) → Gives c r.orderer → IsOpen c r past runs bytes n)
  digests_so bytes receives =
      let there = takes.2 in
      let now = rested_so r takes.1 a mid (subst (λ (x : DeskData). FetchesNextPart (record r { desk = x }) [] a mid false) takes.3 asks) in (
        takes.1,
        now.0,
        now.1,
        λ c past runs known. digests_come r one bytes sender.0 takes.0 takes.1 there c past runs known meta receives takes.4,
        λ c past runs known. digests_stay r one bytes sender.0 takes.0 takes.1 there c past runs known meta receives takes.4,
      )

  pub digests_install : InstallsFetchedState a mid b outs true → TakesMessage sender (MetaMessage meta.number.0 meta.level meta.index meta.digests.items) r due_work.State b outs
  digests_install installs bytes receives = let so = digests_so bytes receives in state_comes r one bytes so.0 so.1 so.3 a b mid outs so.2 installs

  pub digests_end : InstallsFetchedState a mid b outs false → TakesMessage sender (MetaMessage meta.number.0 meta.level meta.index meta.digests.items) r due_work.Nothing b outs
  digests_end installs bytes receives = let so = digests_so bytes receives in none_comes r one bytes so.0 so.1 so.3 a b mid outs so.2 so.4 installs

-- ---- a page

module _ (r : BothPartsData) (one : AreOne r.orderer r.desk) (sender : ReplicaId) (page : Page) (back : Taken) (d : DeskData) (a b : BothPartsData) (mid outs : List Output) (takes : TakesPage r.desk page d (Some back))
    (asks : FetchesNextPart (record r { desk = d }) [] a mid false) where
  page_so : (m : OpenData) × Rested r takes.1 m a mid
  page_so = rested_so r takes.1 a mid (subst (λ (x : DeskData). FetchesNextPart (record r { desk = x }) [] a mid false) takes.3 asks)

  pub page_installs : InstallsFetchedState a mid b outs true → TakesMessage sender (PageMessage page.number.0 page.index page.text.items) r due_work.State b outs
  page_installs installs bytes receives =
      state_comes r one bytes takes.1 page_so.0 (λ c past runs known. page_comes r one bytes sender.0 takes.0 takes.1 takes.2 c past runs known page back receives takes.4) a b mid outs page_so.1 installs

  pub page_ends : (e : DeskData) → InstallsFetchedState a mid b outs false → PutsBack b.desk back e → TakesMessage sender (PageMessage page.number.0 page.index page.text.items) r due_work.Nothing (record b { desk = e }) outs
  page_ends e installs gives bytes receives =
      page_back r one sender page bytes takes.0 takes.1 page_so.0 back a b e mid outs receives
      (none_owed r one bytes takes.1 page_so.0 (λ c past runs known. page_comes r one bytes sender.0 takes.0 takes.1 takes.2 c past runs known page back receives takes.4) a b mid outs page_so.1 installs.2)
      takes.2 takes.4 page_so.1 installs gives
