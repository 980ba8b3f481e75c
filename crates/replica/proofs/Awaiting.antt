-- What a replica waits for is what its history says.
use Rattle.std.proofs.Common.{◌≡◌, ℕ, ◌≤◌, ◌<◌, Bool, true, false, List, [], ◌∷◌, refl, sym, ap, ◌∙◌, subst, arith, Option, Some, None}
use Rattle.std.specs.Prelude.{nat_lt, nat_le, not, option_and_then, option_map}
use Rattle.std.specs.Bool.{then_some}
use Rattle.std.proofs.lemmas.Bool.{lt-ltb, le-ltb, leb-true, leb-false}
use Rattle.terms.specs.declared.order.Number.{Number}
use Rattle.terms.specs.declared.state.Level.{Level}
use Rattle.state_transfer.specs.declared.place.Place.{Place}
use Rattle.state_transfer.specs.Transfer.{TransferData}
use Rattle.patience.specs.declared.standing.Standing.{Standing}
use Rattle.patience.specs.Stands.{Stands, aimed_at, awaited, oldest, part_of, request_of}
use Rattle.protocol.specs.System.Configuration.{Configuration}
use Rattle.protocol.specs.System.Reads.{without_reads}
use Rattle.protocol.specs.System.Trace.{Entry}
use Rattle.protocol.specs.Replica.Certificates.{view, target}
use Rattle.protocol.specs.Replica.RightReplica.{Point}
use Rattle.protocol.specs.Replica.Transfers.{asked_last, fetching}
use Rattle.protocol.proofs.Words.Reacting.{proceeds_leaves}
use Rattle.replica_histories.specs.Transfers.{FitsStateTransfer}
use Rattle.replica_histories.proofs.TransfersTaking.{asked_at_most}
use Rattle.desk.specs.declared.waiting.WaitingRequest.{WaitingRequest}
use Rattle.desk.specs.State.{OpenData, DeskData}
use Rattle.desk.specs.DeskOf.{waiting_calls}
use Rattle.desk.specs.Fetching.{IsAskedFor}
use Rattle.desk.specs.Waiting.{oldest_of}
use Rattle.orderer.specs.State.{OrdererData}
use Rattle.replica.specs.State.{MemberData, BothPartsData, AreOne}
use Rattle.replica.specs.ReplicaView.{both_of}
use Rattle.replica.specs.BothParts.{BothPartsMatchHistory, both_parts, me_of}
use Rattle.replica.specs.Parted.{DeskMatchesHistory, OrdererMatchesHistory}
use Rattle.replica.specs.Standing.{AreStanding, TellsStanding}
use Rattle.replica.proofs.PartsJoining.{parts_join}

-- ---- the part

-- The part of the last fetch, if its state is above the executed one.
abbrev above : ℕ → Option (ℕ × (Level × ℕ)) → Option (ℕ × (Level × ℕ))
above number asked = option_and_then (λ x. then_some (nat_lt number x.0) x) asked

-- If no transfer is open, nothing above the executed state was fetched.
none_above : (number : ℕ) (history : List Entry) → fetching history ≤ number → above number (asked_last history) ≡ None
none_above number history least = go (asked_last history) refl
  where
    go : (asked : Option (ℕ × (Level × ℕ))) → asked_last history ≡ asked → above number asked ≡ None
    go None is = refl
    go (Some x) is =
        let most = asked_at_most history x.0 x.1 is in
        ap (λ (b : Bool). then_some b x) (le-ltb number x.0 (omega (arith, most, least)))

-- An open one asks for the part of the last fetch, and its state is above.
one_above : (number : ℕ) (history : List Entry) (x : ℕ × (Level × ℕ)) → asked_last history ≡ Some x → number < x.0
    → above number (asked_last history) ≡ Some x
one_above number history x is ahead = ap (above number) is ∙ ap (λ (b : Bool). then_some b x) (lt-ltb number x.0 ahead)

transfer_of : Option OpenData → Option TransferData
transfer_of transfer = option_map (λ o. o.transfer) transfer

part_is : (c : Configuration) (me number : ℕ) (d : DeskData) (history : List Entry) (part : Option (Number × Place))
    → FitsStateTransfer c me (option_map (λ o. o.transfer) d.transfer) number history → IsAskedFor d part
    → option_map part_of part ≡ above number (asked_last history)
part_is c me number d history None fits none =
    let closed : FitsStateTransfer c me None number history =
    subst (λ (t : Option OpenData). FitsStateTransfer c me (option_map (λ o. o.transfer) t) number history) none fits in
    sym (none_above number history closed.0)
part_is c me number d history (Some asked) fits one =
    let o = one.0 in
    let opened : FitsStateTransfer c me (Some o.transfer) number history =
    subst (λ (t : Option OpenData). FitsStateTransfer c me (option_map (λ o. o.transfer) t) number history) one.1 fits in
    let same : part_of asked ≡ (o.transfer.number, (o.transfer.asked.level, o.transfer.asked.index)) =
    ap (λ (n : ℕ). (n, (asked.1.level, asked.1.index))) one.2
    ∙ ap (λ (p : Place). (o.transfer.number, (p.level, p.index))) one.3 in
    ap Some same
    ∙ sym (one_above number history (o.transfer.number, (o.transfer.asked.level, o.transfer.asked.index)) opened.0.asked opened.1)

-- ---- the request

request_is : (c : Configuration) (requests : List WaitingRequest)
    → option_map request_of (oldest_of requests) ≡ oldest (waiting_calls c requests)
request_is c [] = refl
request_is c (r ∷ requests) = refl

-- ---- whether the replica is inactive

not_active : (a b : ℕ) → not (nat_le b a) ≡ nat_lt a b
not_active a b = go (nat_le b a) refl
  where
    go : (is : Bool) → nat_le b a ≡ is → not is ≡ nat_lt a b
    go true h = let most = leb-true b a h in sym (le-ltb a b most)
    go false h = let less = leb-false b a h in sym (lt-ltb a b less)

aimed : (c : Configuration) (history : List Entry) (active : Bool) (aims : ℕ) → target history ≡ aims
    → not active ≡ nat_lt (view c history) (target history) → then_some (not active) aims ≡ aimed_at c history
aimed c history active aims same left =
    ap (then_some (not active)) (sym same) ∙ ap (λ (b : Bool). then_some b (target history)) left

-- ---- both parts

both_stand : (c : Configuration) (r : BothPartsData) (history : List Entry) (standing : Standing)
    → BothPartsMatchHistory c r history → AreStanding r standing → Stands c (me_of r) history standing
both_stand c r history standing runs are =
    let held = runs.holds.of_desk in
    let log = runs.holds.of_log.fits in
    let left : not r.orderer.log.active ≡ nat_lt (view c history) (target history) =
    ap not (sym log.active ∙ ap (nat_le (target history)) (sym log.view)) ∙ not_active (view c history) (target history) in
    let aims = are.view ∙ aimed c history r.orderer.log.active r.orderer.target runs.changes.target left in
    record {
      point = held.point;
      reaches = proceeds_leaves c (me_of r) history [] held.point held.point held.proceeds;
      view = aims;
      part = part_is c (me_of r) r.desk.executed.state.number r.desk history standing.part held.opened are.part
          ∙ ap (λ (p : Point). awaited history p) (sym held.is);
      request = ap (option_map request_of) are.request ∙ request_is c r.desk.waiting.requests
          ∙ ap (λ (p : Point). oldest p.waiting) (sym held.is);
    }

-- the parts of a replica that runs
pub tells_standing : (m : MemberData) (o : OrdererData) (d : DeskData) (standing : Standing) → AreOne o d → o.endpoint.me ≡ m.me
    → AreStanding (both_parts o d) standing → TellsStanding (both_of m (Some (both_parts o d))) standing
tells_standing m o d standing one mine are c history fits =
    subst (λ (n : ℕ). Stands c n history standing) mine
    (both_stand c (both_parts o d) history standing
    (parts_join c o d history one
    (subst (λ (n : ℕ). DeskMatchesHistory c n d history) (sym mine) (fits.0.running d refl))
    (subst (λ (n : ℕ). OrdererMatchesHistory c n o (without_reads history)) (sym mine) (fits.1.running o refl)))
    are)
