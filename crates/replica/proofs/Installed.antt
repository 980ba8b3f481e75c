-- The replica installs the fetched state.
use Rattle.std.proofs.Common.{◌≡◌, ◌≢◌, ℕ, ◌<◌, ◌^◌, true, List, [], ◌∷◌, Option, Some, None, refl, sym, ap, ◌∙◌, subst, ◌≤◌, arith}
use Rattle.std.proofs.lemmas.List.Kept.{AllPairs-filter}
use Rattle.terms.specs.declared.order.Number.{Number}
use Rattle.wire_format.specs.Lists.{Each}
use Rattle.wire_format.specs.Messages.{CheckpointEntryData as CheckpointEntry}
use Rattle.events.specs.declared.output.Output.{Output}
use Rattle.events.specs.declared.output.Output.TheVariants as outputs
use Rattle.ordering.specs.Log as logs
use Rattle.ordering.specs.Log.{LogData}
use Rattle.partition_tree.specs.Digests.{root_of as root_of_pages}
use Rattle.state_transfer.specs.Transfer.{TransferData}
use Rattle.execution.specs.Installing.{HasPagesAt, NoneFalls}
use Rattle.protocol.specs.System.Configuration.{Configuration}
use Rattle.protocol.proofs.Words.Options.{some_injective}
use Rattle.protocol.specs.System.Trace.{Entry}
use Rattle.protocol.specs.System.Trace.Entry.{Installed}
use Rattle.protocol.specs.Replica.State.{State, Call}
use Rattle.replica_histories.specs.Desk.{Desk, Snapshot, snapshot_of, kept_from}
use Rattle.replica_histories.specs.Events as events
use Rattle.replica_histories.specs.Events.{Start, after_outputs}
use Rattle.replica_histories.specs.Changes.{CutsPqSets}
use Rattle.replica_histories.specs.Outputs.{installed_desk}
use Rattle.replica_histories.specs.Transfers.{TransferMayAsk, RestsOnState}
use Rattle.replica_histories.proofs.Cutting.{cut_low}
use Rattle.replica_histories.proofs.Installing.{installations_fit}
use Rattle.replica_histories.proofs.ChangesKept.{silent_keep}
use Rattle.desk.specs.declared.waiting.WaitingRequest.{WaitingRequest}
use Rattle.pq_sets.specs.PqSetsView.{PqSetsData}
use Rattle.orderer.specs.State.{OrdererData}
use Rattle.replica.specs.State.{BothPartsData, AreOne}
use Rattle.desk.specs.State.{OpenData, DeskData}
use Rattle.desk.specs.Waiting.{forgotten, frames_waiting, is_new}
use Rattle.orderer.specs.Flags.{FitsFlags}
use Rattle.replica.specs.Desks.{PartsFitEvent}
use Rattle.orderer.specs.Fitting.{given, FitsWaiting, FitsEvent}
use Rattle.desk.specs.Desking.{desk_above}
use Rattle.replica.specs.Fetching.{InstallsFetchedState}
use Rattle.desk.specs.Fetching.{InstallsHeldPages}
use Rattle.desk.specs.DeskOf.{waiting_calls, desk_of, IsDeskOf}
use Rattle.replica.specs.Going.{IsSameParty}
use Rattle.orderer.specs.Going.{IsVotedAll}
use Rattle.replica.specs.Marking.{MovesMarks}
use Rattle.replica.specs.BothParts.{me_of}
use Rattle.replica.proofs.Choosing.{cut_choice}
use Rattle.replica.proofs.Desking.{calls_behind, frames_behind, spelled_behind}
use Rattle.replica.proofs.DueCheckpoints.{same_cut, cut_voted}
use Rattle.orderer.proofs.Staying.{EmitsOne, emits_one, changes_cut, fits_behind, installed_beside, numbers_alike, numbers_beside}
use Rattle.replica_histories.proofs.Reaching.{reached_asking}
use Rattle.desk.proofs.Newest.{below_next, kept_alone}
use Rattle.orderer.proofs.Flags.{flags_forgotten}

-- All held pages have the wanted root. The transfer rests on the executed state, and may ask. Up to here the event fits
-- with this one open.
pub record IsFetched (c : Configuration) (s : Start) (a : BothPartsData) (m : OpenData) (before : List Output) : Type 0 where
  pub is_open : a.desk.transfer ≡ Some m
  pub is : IsDeskOf c a.desk
  pub open_one : Option TransferData
  pub fits : FitsEvent c (me_of a) s a.orderer (record (desk_of c a.desk) { transfer = open_one }) a.desk.waiting [] before
  pub may : TransferMayAsk c (me_of a) m.transfer a.desk.executed.state.number (after_outputs s (given (me_of a) before))
  pub rests : RestsOnState m.transfer a.desk.executed.state
  pub root : root_of_pages m.transfer.held ≡ m.transfer.root

-- the desk with the installed state, and the kept states from a low mark on
abbrev with_state : State → ℕ → DeskData → DeskData
with_state st low d = record d {
  executed = record d.executed { state = st };
  snapshots = kept_from low (snapshot_of st ∷ []);
  transfer = None;
  waiting = forgotten st d.waiting;
}

none_some : (x : OpenData) (P : Type 0) → None ≡ Some x → P
none_some x P e = absurd cc

-- ---- after an installation

-- the orderer with its log cut, and these sets P and Q
abbrev cut_orderer : ℕ → PqSetsData → OrdererData → OrdererData
cut_orderer number pq_sets o = record o { log = logs.cut_to o.log number; pq_sets = pq_sets }

record IsInstalled (a : BothPartsData) (m : OpenData) (number : Number) (root : List ℕ) (st : State) (b : BothPartsData) : Type 0 where
  has : HasPagesAt m.transfer.number m.transfer.held st
  falls : NoneFalls a.desk.executed.state st
  below : Each (λ x. x.number ≤ a.desk.executed.state.number) a.desk.snapshots
  number_is : number.0 ≡ m.transfer.number
  root_is : root ≡ m.transfer.root
  pq_sets : PqSetsData
  cuts : CutsPqSets (logs.cut_to a.orderer.log m.transfer.number).low a.orderer.pq_sets pq_sets
  new_is : b ≡ record a {
    orderer = cut_orderer m.transfer.number pq_sets a.orderer;
    desk = with_state st (logs.cut_to a.orderer.log m.transfer.number).low a.desk;
  }

module _ (c : Configuration) (s : Start) (a : BothPartsData) (m : OpenData) (before after : List Output) (st : State)
    (g : IsFetched c s a m before) (has : HasPagesAt m.transfer.number m.transfer.held st) (falls : NoneFalls a.desk.executed.state st)
    (below : Each (λ x. x.number ≤ a.desk.executed.state.number) a.desk.snapshots) (voted : IsVotedAll a.orderer.log)
    (pq_sets : PqSetsData) (cuts : CutsPqSets (logs.cut_to a.orderer.log m.transfer.number).low a.orderer.pq_sets pq_sets)
    (gives : EmitsOne c (me_of a) before after (Installed (me_of a) m.transfer.number m.transfer.root)) where
  abbrev me : ℕ
  me = a.orderer.endpoint.me

  abbrev past : List Entry
  past = after_outputs s (given me before)

  abbrev e : Entry
  e = Installed me m.transfer.number m.transfer.root

  abbrev cut : LogData
  cut = logs.cut_to a.orderer.log m.transfer.number

  abbrev open_desk : Desk
  open_desk = record (desk_of c a.desk) { transfer = g.open_one }

  abbrev installed : DeskData
  installed = with_state st cut.low a.desk

  abbrev later : Desk
  later = desk_of c installed

  small : m.transfer.number < 2 ^ 48
  small = subst (λ (n : ℕ). n < 2 ^ 48) has.number has.state.space.few

  low_is : cut.low ≡ st.number
  low_is = cut_low a.orderer.log m.transfer.number (reached_asking c me a.orderer.log.low a.desk.executed.state.number m.transfer past g.fits.fits.low g.may) ∙ sym has.number

  -- the earlier kept states are below the low mark
  all_below : Each (λ x. x.number < cut.low) a.desk.snapshots
  all_below =
      let above = g.may.ahead in let low = low_is in let number = has.number in
      below_next a.desk.executed.state.number cut.low a.desk.snapshots (omega (arith, above, low, number)) below

  installed_is : IsDeskOf c installed
  installed_is = record {
    members_are = g.is.members_are;
    period_is = g.is.period_is;
    rests = λ x there. none_some x _ there;
    calls = spelled_behind c st a.desk.waiting.requests g.is.calls;
    differ = AllPairs-filter (λ (x y : WaitingRequest). x.client.number ≢ y.client.number) (is_new st) a.desk.waiting.requests g.is.differ;
  }

  desk_is : installed_desk open_desk st (frames_waiting installed.waiting) ≡ later
  desk_is =
      ap (λ (xs : List Snapshot). record (installed_desk open_desk st (frames_waiting installed.waiting)) { snapshots = xs })
      (ap (λ (n : ℕ). kept_from n (snapshot_of st ∷ a.desk.snapshots)) (sym low_is) ∙ kept_alone cut.low (snapshot_of st) a.desk.snapshots all_below)
      ∙ ap (λ (xs : List Call). record later { waiting = xs }) (calls_behind c st a.desk.waiting.requests)

  fitting : events.BothFitWithinEvent c me s later cut [] (e ∷ given me before)
  fitting = subst (λ (desk : Desk). events.BothFitWithinEvent c me s desk cut [] (e ∷ given me before)) desk_is
      (installations_fit c me s open_desk a.orderer.log (given me before) m.transfer st (frames_waiting installed.waiting) g.may g.rests g.root has.state has.number has.pages small falls
      (λ i. (voted i).0) (λ i. (voted i).1) (frames_behind st a.desk) g.fits.fits)

  abbrev new : OrdererData
  new = cut_orderer m.transfer.number pq_sets a.orderer

  numbering : FitsWaiting c me new installed.waiting later (e ∷ past)
  numbering = numbers_alike c me installed.waiting a.orderer new later (e ∷ past) (same_cut a.orderer.log m.transfer.number) refl
      (λ own. subst (λ (xs : List Call). FitsFlags c me a.orderer.log.view a.orderer.used installed.waiting st xs (e ∷ past)) (calls_behind c st a.desk.waiting.requests)
      (flags_forgotten c me a.orderer.log.view a.orderer.used a.desk.waiting a.desk.executed.state st (waiting_calls c a.desk.waiting.requests) (e ∷ past) falls
      (numbers_beside c me a.desk.waiting a.orderer open_desk past e g.fits.fits.of_log.faults g.fits.fits.of_log.own
      (installed_beside c me m.transfer.number m.transfer.root past) g.fits.numbers own)))

  installed_fits : FitsEvent c me s new later installed.waiting [] after
  installed_fits = fits_behind c me s a.orderer new open_desk later a.desk.waiting installed.waiting [] [] before after e gives refl g.fits fitting numbering
      (changes_cut c me s a.orderer new open_desk later [] [] (given me before) e g.fits.fits fitting (silent_keep c me past e tt) (same_cut a.orderer.log m.transfer.number) cuts refl g.fits.changes)

-- ---- both parts

abbrev entry_for : Number → List ℕ → CheckpointEntry
entry_for number root = record { number = number.0; digest = root }

pub same_open : (x y : OpenData) → Some x ≡ Some y → x ≡ y
same_open x y e = some_injective x y e

installs_so : (a b : BothPartsData) (d : DeskData) (m : OpenData) (number : Number) (root : List ℕ) → a.desk.transfer ≡ Some m → InstallsHeldPages a.desk d (Some (entry_for number root)) → MovesMarks number.0 (record a { desk = d }) b
    → IsInstalled a m number root d.executed.state b
installs_so a b d m number root there (o, is_open, entry_is, has, falls, d_is, below) (x, (pq_sets, cuts, x_is), moves) = record {
  has = subst (λ (y : OpenData). HasPagesAt y.transfer.number y.transfer.held d.executed.state) same has;
  falls = falls;
  below = below;
  number_is = at;
  root_is = ap (λ (y : CheckpointEntry). y.digest) entry_is ∙ ap (λ (y : OpenData). y.transfer.root) same;
  pq_sets = pq_sets;
  cuts = subst (λ (n : ℕ). CutsPqSets (logs.cut_to a.orderer.log n).low a.orderer.pq_sets pq_sets) at cuts;
  new_is = moves
      ∙ ap (λ (k : OrdererData). let new : BothPartsData = record a { orderer = k; desk = desk_above (logs.cut_to a.orderer.log number.0).low d } in new) x_is
      ∙ ap (λ (n : ℕ). let new : BothPartsData = record a { orderer = cut_orderer n pq_sets a.orderer; desk = desk_above (logs.cut_to a.orderer.log n).low d } in new) at
      ∙ ap (λ (y : DeskData). let new : BothPartsData = record a { orderer = cut_orderer m.transfer.number pq_sets a.orderer; desk = desk_above (logs.cut_to a.orderer.log m.transfer.number).low y } in new) d_is;
}
  where
    same : o ≡ m
    same = same_open o m (sym is_open ∙ there)

    at : number.0 ≡ m.transfer.number
    at = ap (λ (x : CheckpointEntry). x.number) entry_is ∙ ap (λ (x : OpenData). x.transfer.number) same

installed_party : (a : BothPartsData) (n : ℕ) (pq_sets : PqSetsData) (st : State) (low : ℕ) → CutsPqSets (logs.cut_to a.orderer.log n).low a.orderer.pq_sets pq_sets → IsSameParty a (record a { orderer = cut_orderer n pq_sets a.orderer; desk = with_state st low a.desk })
installed_party a n pq_sets st low cuts = record {
  orderer = record { endpoint = refl; log = same_cut a.orderer.log n; target = refl; choice = λ off. cut_choice a.orderer (logs.cut_to a.orderer.log n) (logs.cut_to a.orderer.log n).low pq_sets cuts };
  me = refl;
  membership = refl;
}

-- The fetched state's number is reached.
pub number_reached : (a b : BothPartsData) (m : OpenData) (before after : List Output) → a.desk.transfer ≡ Some m → InstallsFetchedState a before b after true → b.desk.executed.state.number ≡ m.transfer.number
number_reached a b m before after there (d, number, root, installs, gives, moves) =
    let i = installs_so a b d m number root there installs moves in
    ap (λ (r : BothPartsData). r.desk.executed.state.number) i.new_is ∙ i.has.number

-- The party is the same.
pub moved_party : (a b : BothPartsData) (m : OpenData) (before after : List Output) → a.desk.transfer ≡ Some m → InstallsFetchedState a before b after true → IsSameParty a b
moved_party a b m before after there (d, number, root, installs, gives, moves) =
    let i = installs_so a b d m number root there installs moves in
    subst (λ (r : BothPartsData). IsSameParty a r) (sym i.new_is) (installed_party a m.transfer.number i.pq_sets d.executed.state (logs.cut_to a.orderer.log m.transfer.number).low i.cuts)

-- The replica installs the fetched state.
pub installs_fetched : (c : Configuration) (s : Start) (a b : BothPartsData) (m : OpenData) (before after : List Output) → AreOne a.orderer a.desk → IsFetched c s a m before → IsVotedAll a.orderer.log
    → InstallsFetchedState a before b after true → PartsFitEvent c s b.orderer b.desk [] after × IsVotedAll b.orderer.log
installs_fetched c s a b m before after one g voted (d, number, root, installs, gives, moves) =
    let i = installs_so a b d m number root g.is_open installs moves in
    let st = d.executed.state in
    let later : DeskData = with_state st (logs.cut_to a.orderer.log m.transfer.number).low a.desk in
    let is : EmitsOne c (me_of a) before after (Installed (me_of a) m.transfer.number m.transfer.root) =
    emits_one c (me_of a) before after (outputs.Installed number root) (Installed (me_of a) m.transfer.number m.transfer.root) gives
    (ap (λ (n : ℕ). Installed (me_of a) n root) i.number_is ∙ ap (λ (r : List ℕ). Installed (me_of a) m.transfer.number r) i.root_is) tt in
    subst (λ (r : BothPartsData). PartsFitEvent c s r.orderer r.desk [] after × IsVotedAll r.orderer.log) (sym i.new_is) (
      record {
        is = installed_is c s a m before after st g i.has i.falls i.below voted i.pq_sets i.cuts is;
        fits = subst (λ (k : ℕ). FitsEvent c k s (cut_orderer m.transfer.number i.pq_sets a.orderer) (desk_of c later) later.waiting [] after)
            (sym one.0) (installed_fits c s a m before after st g i.has i.falls i.below voted i.pq_sets i.cuts is);
      },
      cut_voted a.orderer.log m.transfer.number g.fits.fits.of_log.is_log voted,
    )
