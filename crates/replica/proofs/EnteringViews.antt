-- How a new view begins: the batches that are logged, and the votes that are sent.
use Rattle.std.proofs.Common.{◌≡◌, ◌≢◌, ℕ, suc, ◌+◌, inl, inr, true, false, List, length, map, Option, Some, refl, sym, ap, ◌∙◌, subst}
use Rattle.wire_format.specs.Messages.{CheckpointEntryData as CheckpointEntry}
use Rattle.std.proofs.lemmas.Simd.{map-map}
use Rattle.events.specs.declared.output.Output.{Output}
use Rattle.protocol.specs.System.Configuration.{Configuration}
use Rattle.protocol.specs.Replica.State.{Call, call_of}
use Rattle.protocol.proofs.Words.Elements.{each_mapped}
use Rattle.protocol.proofs.Words.Pairs.{pairs_of, all_pairs}
use Rattle.desk.specs.declared.waiting.AssignedCall.{AssignedCall}
use Rattle.replica_histories.specs.Desk.{desk_from}
use Rattle.replica_histories.proofs.NumbersLists.{pairs_mapped}
use Rattle.desk.specs.declared.waiting.WaitingRequest.{WaitingRequest}
use Rattle.orderer.specs.State.{OrdererData}
use Rattle.replica.specs.State.{BothPartsData}
use Rattle.desk.specs.State.{DeskData}
use Rattle.desk.specs.Waiting.{renumbered, with_view}
use Rattle.desk.specs.Desking.{desk_above}
use Rattle.replica.specs.Fetching.{MulticastsFetch}
use Rattle.desk.specs.Fetching.{SetsTarget}
use Rattle.replica.specs.Marking.{MovesMarks}
use Rattle.orderer.specs.EnterView.{entering, LogsBatches, MulticastsVotesOf}
use Rattle.replica.specs.EnteringViews.{EntersView, FetchesStart}
use Rattle.desk.specs.Assigned.{NotesAssigned}
use Rattle.desk.specs.DeskOf.{waiting_call, desk_of, IsDeskOf}

-- ---- waiting requests

abbrev Differ : WaitingRequest → WaitingRequest → Type 0
Differ r t = r.client.number ≢ t.client.number

-- the desk, if the view begins with these calls and the low mark has moved
abbrev pub entered_data : ℕ → List AssignedCall → DeskData → DeskData
entered_data low calls d = desk_above low (record d { waiting = with_view calls d.waiting })

pub assigned_is : (c : Configuration) (low : ℕ) (calls : List AssignedCall) (d : DeskData) → IsDeskOf c d → IsDeskOf c (entered_data low calls d)
assigned_is c low calls d is = record {
  members_are = is.members_are;
  period_is = is.period_is;
  rests = is.rests;
  calls = each_mapped (λ (r : WaitingRequest). call_of c r.frame.items ≡ Some (waiting_call c r)) (renumbered calls) d.waiting.requests is.calls;
  differ = all_pairs Differ (map (renumbered calls) d.waiting.requests) (pairs_mapped Differ (renumbered calls) d.waiting.requests (pairs_of Differ d.waiting.requests is.differ));
}

pub entered_desk : (c : Configuration) (low : ℕ) (calls : List AssignedCall) (d : DeskData) → desk_of c (entered_data low calls d) ≡ desk_from low (desk_of c d)
entered_desk c low calls d =
    ap (λ (xs : List Call). record (desk_of c (entered_data low calls d)) { waiting = xs }) (map-map (waiting_call c) (renumbered calls) d.waiting.requests)
    ∙ ap (λ (xs : List (List ℕ)). record (desk_from low (desk_of c d)) { frames = xs }) (map-map (λ (r : WaitingRequest). r.frame.items) (renumbered calls) d.waiting.requests)

-- ---- the fetch of the start

pub fetch_passed : (entry : CheckpointEntry) (r : BothPartsData) (d : DeskData) (outs : List Output) → SetsTarget entry r.desk d false → FetchesStart entry r outs (record r { desk = d }) outs
fetch_passed entry r d outs aims = inr (aims.0, ap (λ (x : DeskData). record r { desk = x }) aims.1, refl)

pub fetch_started : (entry : CheckpointEntry) (r new : BothPartsData) (d : DeskData) (before after : List Output) → SetsTarget entry r.desk d true → new ≡ record r { desk = d } → MulticastsFetch (record r { desk = d }) before after → FetchesStart entry r before new after
fetch_started entry r new d before after aims same says = inl (d, aims, same, subst (λ (x : BothPartsData). MulticastsFetch x before after) (sym same) says)

-- ---- all of it

pub enters_all : (view : ℕ) (start : CheckpointEntry) (texts : List (List ℕ)) (own : Option (List ℕ)) (r : BothPartsData) (d : DeskData) (o : OrdererData) (cut : BothPartsData) (logged : OrdererData) (fetched : BothPartsData) (last : OrdererData)
    (before said after : List Output)
    → NotesAssigned texts r.desk d → o ≡ entering view (start.number + length texts) own r.orderer → MovesMarks start.number (record r { orderer = o; desk = d }) cut
    → LogsBatches (suc start.number) texts cut.orderer logged → FetchesStart start (record cut { orderer = logged }) before fetched said
    → MulticastsVotesOf start.number (start.number + length texts) fetched.orderer said last after
    → EntersView view start texts own r before (record fetched { orderer = last }) after
enters_all view start texts own r d o cut logged fetched last before said after noted is moves logs fetches votes = record {
  desk = d;
  noted = noted;
  cut = cut;
  cuts = subst (λ (x : OrdererData). MovesMarks start.number (record r { orderer = x; desk = d }) cut) is moves;
  logged = logged;
  logs = logs;
  fetched = fetched;
  said = said;
  fetches = fetches;
  orderer = last;
  votes = votes;
  new_is = refl;
}
