-- A part arrives: the open transfer goes on with the parts that differ.
use Rattle.std.proofs.Common.{◌≡◌, inl, inr, List, [], Option, Some, None, refl, sym, ap, ◌∙◌, subst, length, arith}
use Rattle.events.specs.declared.output.Output.{Output}
use Rattle.state_transfer.specs.declared.place.Place.{Place}
use Rattle.state_transfer.specs.Transfer.{TransferData, asking}
use Rattle.protocol.specs.System.Configuration.{Configuration}
use Rattle.protocol.specs.System.Trace.{Entry}
use Rattle.protocol.specs.Replica.State.{State, pages_of}
use Rattle.protocol.specs.Replica.Transfers.{NoneAsked}
use Rattle.protocol.proofs.Words.Options.{some_injective}
use Rattle.replica_histories.specs.Events.{Start, after_outputs}
use Rattle.replica_histories.specs.Transfers.{FitsStateTransfer, TransferMayAsk, AsksNext, IsTold, RestsOnState}
use Rattle.replica_histories.proofs.Fetching.{transfers_change}
use Rattle.replica_histories.proofs.Transfers.{may_ask_any, pages_rested}
use Rattle.replica_histories.proofs.TransfersInstalling.{rested_rests}
use Rattle.replica_histories.proofs.TransfersSeeking.{nexts_are_first}
use Rattle.orderer.specs.State.{OrdererData}
use Rattle.desk.specs.State.{DeskData, OpenData}
use Rattle.desk.specs.Waiting.{WaitingData}
use Rattle.orderer.specs.Fitting.{given, FitsEvent}
use Rattle.desk.specs.Fetching.{fetch_of, with_transfer}
use Rattle.orderer.specs.Multicasting.{Multicasts}
use Rattle.desk.specs.Transferring.{IsRestedAt, AsksPlace}
use Rattle.desk.specs.DeskOf.{desk_of, RestsAt, IsDeskOf}
use Rattle.orderer.proofs.Voting.{asks}
use Rattle.replica.specs.State.{Gives}

-- ---- what stays while the next part is sought

asking_number : (place : Option Place) (t : TransferData) → (asking place t).number ≡ t.number
asking_number None t = refl
asking_number (Some place) t = refl

asking_held : (place : Option Place) (t : TransferData) → (asking place t).held ≡ t.held
asking_held None t = refl
asking_held (Some place) t = refl

rested_number : (st : State) (n m : OpenData) → IsRestedAt st n m → m.transfer.number ≡ n.transfer.number
rested_number st n m (inl (same, at)) = ap (λ (x : OpenData). x.transfer.number) at
rested_number st n m (inr (rests, at)) = ap (λ (x : TransferData). x.number) rests.same

rested_long : (st : State) (n m : OpenData) → IsRestedAt st n m → length n.transfer.held ≡ 1024 → length m.transfer.held ≡ 1024
rested_long st n m (inl (same, at)) long = ap (λ (x : OpenData). length x.transfer.held) at ∙ long
rested_long st n m (inr (rests, at)) long = rests.count

-- the number, and how many pages there are
pub asked_number : (st : State) (n m : OpenData) (place : Option Place) → AsksPlace st n m place → m.transfer.number ≡ n.transfer.number
asked_number st n m place (rested, rests, next, m_is, all) =
    ap (λ (x : OpenData). x.transfer.number) m_is ∙ asking_number place rested.transfer ∙ rested_number st n rested rests

pub asked_long : (st : State) (n m : OpenData) (place : Option Place) → AsksPlace st n m place → length m.transfer.held ≡ 1024
asked_long st n m place (rested, rests, next, m_is, all) =
    ap (λ (x : OpenData). length x.transfer.held) m_is ∙ ap length (asking_held place rested.transfer) ∙ rested_long st n rested rests all.0

-- The transfer n is at the desk, and may ask on. Up to here the event fits with this one open.
module _ (c : Configuration) (s : Start) (o : OrdererData) (d : DeskData) (w : WaitingData) (n : OpenData) (outs : List Output)
    (there : d.transfer ≡ Some n) (is : IsDeskOf c d) (open_one : Option TransferData) (f : FitsEvent c o.endpoint.me s o (record (desk_of c d) { transfer = open_one }) w [] outs)
    (may : TransferMayAsk c o.endpoint.me n.transfer d.executed.state.number (after_outputs s (given o.endpoint.me outs))) (told : IsTold n.transfer) (none : NoneAsked (after_outputs s (given o.endpoint.me outs))) where
  abbrev past : List Entry
  past = after_outputs s (given o.endpoint.me outs)

  -- rested, it may ask, and rests on the state
  rested_ask : (rested : OpenData) → IsRestedAt d.executed.state n rested → TransferMayAsk c o.endpoint.me rested.transfer d.executed.state.number past
  rested_ask rested (inl (same, at)) = subst (λ (x : OpenData). TransferMayAsk c o.endpoint.me x.transfer d.executed.state.number past) (sym at) may
  rested_ask rested (inr (rests, at)) = (pages_rested c o.endpoint.me (pages_of d.executed.state) n.transfer rested.transfer d.executed.state.number past rests).1 may

  rested_told : (rested : OpenData) → IsRestedAt d.executed.state n rested → IsTold rested.transfer
  rested_told rested (inl (same, at)) = subst (λ (x : OpenData). IsTold x.transfer) (sym at) told
  rested_told rested (inr (rests, at)) = (told.0, ap (λ (x : TransferData). x.part_digests) rests.same ∙ told.1)

  rested_open : (rested : OpenData) → IsRestedAt d.executed.state n rested → FitsStateTransfer c o.endpoint.me (Some n.transfer) d.executed.state.number past → FitsStateTransfer c o.endpoint.me (Some rested.transfer) d.executed.state.number past
  rested_open rested (inl (same, at)) fits = subst (λ (x : OpenData). FitsStateTransfer c o.endpoint.me (Some x.transfer) d.executed.state.number past) (sym at) fits
  rested_open rested (inr (rests, at)) fits = (pages_rested c o.endpoint.me (pages_of d.executed.state) n.transfer rested.transfer d.executed.state.number past rests).0 fits

  rested_on : (rested : OpenData) → IsRestedAt d.executed.state n rested → RestsOnState rested.transfer d.executed.state
  rested_on rested (inl (same, at)) = subst (λ (x : OpenData). RestsOnState x.transfer d.executed.state) (sym at) ((is.rests n there).1 same)
  rested_on rested (inr (rests, at)) = rested_rests n.transfer rested.transfer d.executed.state rests

  rested_held : (rested : OpenData) → IsRestedAt d.executed.state n rested → length n.transfer.held ≡ 1024 → length rested.transfer.held ≡ 1024
  rested_held rested (inl (same, at)) long = ap (λ (x : OpenData). length x.transfer.held) at ∙ long
  rested_held rested (inr (rests, at)) long = rests.count

  rested_at : (rested : OpenData) → IsRestedAt d.executed.state n rested → rested.rests_at ≡ d.executed.state.number
  rested_at rested (inl (same, at)) = ap (λ (x : OpenData). x.rests_at) at ∙ same
  rested_at rested (inr (rests, at)) = at

  -- the desk with a transfer that rests on its state
  desk_with : (m : OpenData) → m.rests_at ≡ d.executed.state.number → RestsOnState m.transfer d.executed.state → IsDeskOf c (with_transfer m d)
  desk_with m at rests = record {
    members_are = is.members_are;
    period_is = is.period_is;
    rests = λ x e. subst (RestsAt d.executed.state) (some_same m x e) ((let a = at in omega (arith, a)), λ same. rests);
    calls = is.calls;
    differ = is.differ;
  }
    where
      some_same : (a b : OpenData) → Some a ≡ Some b → a ≡ b
      some_same a b e = some_injective a b e

  -- the next place is asked for
  pub asks_next : (m : OpenData) (place : Place) (after : List Output) → Gives c o → AsksPlace d.executed.state n m (Some place) → Multicasts o (fetch_of m.transfer) outs after
      → IsDeskOf c (with_transfer m d) × FitsEvent c o.endpoint.me s o (desk_of c (with_transfer m d)) w [] after
  asks_next m place after known (rested, rests, next, m_is, all) says =
      let at = ap (λ (x : OpenData). x.rests_at) m_is ∙ rested_at rested rests in
      let asking_on = may_ask_any c o.endpoint.me rested.transfer (Some place) d.executed.state.number past (rested_ask rested rests) in
      let first = nexts_are_first c o.endpoint.me rested.transfer d.executed.state past place (rested_ask rested rests) (rested_on rested rests) (rested_held rested rests all.0) none (rested_told rested rests) (sym next) in (
        desk_with m at (subst (λ (x : OpenData). RestsOnState x.transfer d.executed.state) (sym m_is) (rested_on rested rests)),
        asks c s o (record (desk_of c d) { transfer = open_one }) w outs after m.transfer known says [] (subst (λ (x : OpenData). TransferMayAsk c o.endpoint.me x.transfer d.executed.state.number past) (sym m_is) asking_on) (subst (λ (x : OpenData). AsksNext c o.endpoint.me x.transfer d.executed.state past) (sym m_is) (inl first)) f,
      )

  -- nothing differs any more: it rests on the state, and may ask; and if it fitted, it fits
  pub rests_now : (m : OpenData) → AsksPlace d.executed.state n m None
      → IsDeskOf c (with_transfer m d) × TransferMayAsk c o.endpoint.me m.transfer d.executed.state.number past × RestsOnState m.transfer d.executed.state
      × (FitsStateTransfer c o.endpoint.me (Some n.transfer) d.executed.state.number past → FitsEvent c o.endpoint.me s o (desk_of c (with_transfer m d)) w [] outs)
  rests_now m (rested, rests, next, m_is, all) =
      let at = ap (λ (x : OpenData). x.rests_at) m_is ∙ rested_at rested rests in
      let on = subst (λ (x : OpenData). RestsOnState x.transfer d.executed.state) (sym m_is) (rested_on rested rests) in (
        desk_with m at on,
        subst (λ (x : OpenData). TransferMayAsk c o.endpoint.me x.transfer d.executed.state.number past) (sym m_is) (rested_ask rested rests),
        on,
        λ fits.
            let opened = subst (λ (x : OpenData). FitsStateTransfer c o.endpoint.me (Some x.transfer) d.executed.state.number past) (sym m_is) (rested_open rested rests fits) in
            record { fits = transfers_change c o.endpoint.me s (record (desk_of c d) { transfer = open_one }) o.log [] (given o.endpoint.me outs) (Some m.transfer) opened f.fits; numbers = f.numbers; said = f.said; changes = f.changes; meant = f.meant },
      )
