-- The replica's own view changes.
use Rattle.std.proofs.Common.{◌≡◌, ◌≢◌, ℕ, ◌<◌, ◌+◌, ◌⊎◌, inl, inr, max, false, List, [], ◌∷◌, Option, None, Vec, refl, sym, ap, ap₂, ◌∙◌, subst, arith}
use Rattle.std.specs.declared.alloc.Global.{Global}
use Rattle.wire_format.specs.Messages.{CheckpointEntryData as CheckpointEntry, view_change as ViewChange}
use Rattle.ordering.specs.Log.{left}
use Rattle.events.specs.declared.output.Output.{Output}
use Rattle.frame_endpoint.specs.Endpoint.{says}
use Rattle.protocol.specs.System.Configuration.{Configuration, replicas}
use Rattle.protocol.specs.System.Frames.{IsOutgoing, leaf_of}
use Rattle.protocol.specs.System.Trace.{Entry}
use Rattle.protocol.specs.System.Trace.Entry.{Sent}
use Rattle.protocol.specs.Replica.Certificates.{target, view as in_view, view}
use Rattle.protocol.specs.Replica.RightReplica.{IsPreparedList, IsPrePreparedList, TimesOut, JoinsOthers, sought_view}
use Rattle.view_change.specs.ReceivedData.{with_held, later_views, IsJoined}
use Rattle.view_change.specs.ReceivedView.{judging_configuration}
use Rattle.replica_histories.specs.Desk.{Desk, point_of}
use Rattle.replica_histories.specs.Events as events
use Rattle.replica_histories.specs.Events.{Start, after_outputs}
use Rattle.replica_histories.specs.Changes.{FitsChanges, LogPassesEntry}
use Rattle.replica_histories.specs.Views.{IsChange, entries_of}
use Rattle.replica_histories.proofs.ChangesMade.{changes_are_sent}
use Rattle.replica_histories.proofs.ChangesPassing.{outputs_pass}
use Rattle.replica_histories.proofs.Changing.{view_changes_fit}
use Rattle.replica_histories.proofs.PqSets.{pq_sets_are_lists}
use Rattle.replica_histories.proofs.Ending.{steps_leave}
use Rattle.replica_histories.proofs.Leaves.{next_leaf_is_own, next_is_spent}
use Rattle.replica_histories.proofs.Reasons.{ticks_are_reasons, held_are_joined}
use Rattle.orderer.specs.State.{OrdererData, IsOrderer}
use Rattle.replica.specs.State.{BothPartsData, AreOne, Gives}
use Rattle.desk.specs.declared.waiting.WaitingRequest.{WaitingRequest}
use Rattle.desk.specs.DeskOf.{waiting_calls, desk_of}
use Rattle.orderer.specs.Fitting.{given, changes_held, FitsEvent}
use Rattle.orderer.specs.Going.{IsVotedAll}
use Rattle.orderer.specs.PqSets.{MulticastsFrame}
use Rattle.orderer.specs.ViewChangeOut.{IsNextView, SignsChange, target_view, IsUnsendable, MaySignChange, change_for}
use Rattle.replica.specs.Changing.{HasReason, LeavesView, ChangesView}
use Rattle.orderer.proofs.Staying.{emits_one, fits_behind, numbers_beside, sent_beside}
use Rattle.wire_format.specs.Words.{said}

-- ---- the replica leaves the view

module _ (view : ℕ) (old : BothPartsData) (signed : OrdererData) (frame : List ℕ) (one : AreOne old.orderer old.desk) (next : IsNextView old.orderer view)
    (own : IsOrderer old.orderer) (k : SignsChange view (entries_of old.desk.snapshots) old.orderer signed frame) where
  abbrev o : OrdererData
  o = old.orderer

  abbrev me : ℕ
  me = old.orderer.endpoint.me

  abbrev gone : OrdererData → OrdererData
  gone x = record x { log = left x.log; target = view }

  abbrev new : OrdererData
  new = gone (record old.orderer { received = record old.orderer.received { held = with_held k.own old.orderer.received.held }; spent = old.orderer.spent + 1 })

  module _ (c : Configuration) (s : Start) (before after : List Output) (known : Gives c old.orderer) (voted : IsVotedAll old.orderer.log)
      (reason : HasReason c s old view) (f : FitsEvent c me s o (desk_of c old.desk) old.desk.waiting [] before) where
    abbrev desk : Desk
    desk = desk_of c old.desk

    abbrev past : List Entry
    past = after_outputs s (given me before)

    is_outgoing : IsOutgoing c me (ViewChange k.own.change) [] frame
    is_outgoing = k.signed c (ap (λ m. m.publics) known)

    is_view : k.own.change.view ≡ view
    is_view = ap (λ x. x.view) k.change

    newer : target past < view
    newer = let is = f.changes.target in let above = next.0 in omega (arith, is, above)

    -- so many may be faulty, and the replica is in this view or has left it for a later one
    faults_are : o.endpoint.membership.faults ≡ c.faults
    faults_are = sym (ap (λ m. m.faults) known)

    sought : target_view o ≡ sought_view c past
    sought = ap₂ (λ (a b : ℕ). max a b) (sym f.fits.of_log.view) (sym f.changes.target)

    waits : old.desk.waiting.requests ≢ [] → desk.waiting ≢ []
    waits some none = some (go old.desk.waiting.requests none)
      where
        go : (rs : List WaitingRequest) → waiting_calls c rs ≡ [] → rs ≡ []
        go [] is = refl
        go (r ∷ rs) is = absurd cc

    reasons : TimesOut c me past desk.waiting view ⊎ JoinsOthers c me past view
    reasons = go reason
      where
        either : (old.desk.waiting.requests ≢ []) ⊎ (in_view c s.before < target s.before) → (desk.waiting ≢ []) ⊎ (in_view c s.before < target s.before)
        either (inl some) = inl (waits some)
        either (inr left) = inr left

        go : HasReason c s old view → TimesOut c me past desk.waiting view ⊎ JoinsOthers c me past view
        go (inl t) = inl (ticks_are_reasons c me view s desk o.log [] (given me before) t.0 (either t.1) t.2 f.fits)
        go (inr j) = inr (held_are_joined c (judging_configuration o.received) me view past o.received.held f.changes.places j.0
            (subst (λ (n : ℕ). IsJoined n (later_views me (sought_view c past) o.received.held) view) faults_are
            (subst (λ (t : ℕ). IsJoined o.endpoint.membership.faults (later_views me t o.received.held) view) sought j.1)) f.changes.received)

    change : IsChange c me desk o.log past k.own.change
    change = subst (IsChange c me desk o.log past) (sym k.change) (record {
      above = let above = next.0 in omega (arith, above);
      newer = newer;
      is_view = next.1;
      low = refl;
      checkpoints = refl;
      prepared = lists.0;
      pre_prepared = lists.1;
      reason = reasons;
    })
      where
        lists : IsPreparedList c me past o.pq_sets.prepared × IsPrePreparedList c me past o.pq_sets.logged
        lists =
            pq_sets_are_lists c me o.log past (point_of desk f.fits.of_desk.states f.fits.of_desk.ran) o.pq_sets f.fits.of_log
            (steps_leave c me s (given me before) (point_of desk f.fits.of_desk.states f.fits.of_desk.ran) f.fits.of_desk.leaves f.fits.of_desk.steps) (λ i. (voted i).1) f.changes.pq_sets

    on : events.BothFitWithinEvent c me s desk (left o.log) [] (Sent me frame ∷ given me before)
    on = view_changes_fit c me s desk o.log [] (given me before) k.own.change frame (λ i. (voted i).1) change is_outgoing
        (next_leaf_is_own frame o.spent past k.by_leaf f.changes.leaves) f.fits

    place : me < replicas c
    place = let is = f.fits.of_log.is_log.me in let own = f.fits.of_log.own in let faults = f.fits.of_log.faults in omega (arith, is, own, faults)

    held : FitsChanges c me (left o.log) (changes_held new) (Sent me frame ∷ past)
    held =
        subst (λ (v : ℕ). FitsChanges c me (left o.log) (record (changes_held new) { target = v }) (Sent me frame ∷ past)) is_view
        (subst (λ (b : List ℕ). FitsChanges c me (left o.log) (record (changes_held new) { target = k.own.change.view }) (Sent me b ∷ past)) k.frame_is
        (changes_are_sent c me (o.spent + 1) past o.log (changes_held o) k.own
        (subst (λ (b : List ℕ). LogPassesEntry c me past (Sent me b) o.log (left o.log)) (sym k.frame_is) (outputs_pass c me s desk desk o.log (left o.log) [] [] (given me before) (Sent me frame) f.fits on))
        place (k.sender ∙ f.fits.of_log.own) (subst (λ (b : List ℕ). IsOutgoing c me (ViewChange k.own.change) [] b) (sym k.frame_is) is_outgoing)
        (subst (λ (v : ℕ). target past < v) (sym is_view) newer)
        (next_is_spent me o.spent past k.own.frame (ap leaf_of k.frame_is ∙ k.by_leaf)) f.changes))

    goes : MulticastsFrame new frame before after → FitsEvent c me s new desk old.desk.waiting [] after
    goes says =
        fits_behind c me s o new desk desk old.desk.waiting old.desk.waiting [] [] before after (Sent me frame)
        (emits_one c me before after says.output (Sent me frame) says.given_is says.sends.sends (says.sends.meant c (ViewChange k.own.change) known is_outgoing)) refl f on
        (numbers_beside c me old.desk.waiting o desk past (Sent me frame) f.fits.of_log.faults f.fits.of_log.own (sent_beside c me (ViewChange k.own.change) [] frame past tt is_outgoing) f.numbers) held

  pub leaves_view : (before after : List Output) → MulticastsFrame (gone signed) frame before after → LeavesView view old before (record old { orderer = gone signed }) after
  leaves_view before after says =
      subst (λ (x : OrdererData). MulticastsFrame (gone x) frame before after → LeavesView view old before (record old { orderer = gone x }) after) (sym k.new_is) leaves says
    where
      leaves : MulticastsFrame new frame before after → LeavesView view old before (record old { orderer = new }) after
      leaves says = record {
        stands = λ c s known voted reason st. record {
          is = st.is;
          fits = subst (λ (m : ℕ). FitsEvent c m s new (desk_of c old.desk) old.desk.waiting [] after) (sym one.0)
              (goes c s before after known voted reason (subst (λ (m : ℕ). FitsEvent c m s o (desk_of c old.desk) old.desk.waiting [] before) one.0 st.fits) says);
        };
        party = record { endpoint = refl; me = refl; membership = refl };
        target = refl;
        inactive = refl;
        voted = λ i. (refl, refl);
        executed = λ h. h;
      }

pub leaves_as : (view : ℕ) (old : BothPartsData) (signed later : OrdererData) (frame said : List ℕ) (before after : List Output) → AreOne old.orderer old.desk → IsNextView old.orderer view → IsOrderer old.orderer
    → SignsChange view (entries_of old.desk.snapshots) old.orderer signed frame → later ≡ record signed { log = left signed.log; target = view } → said ≡ frame → MulticastsFrame later said before after
    → LeavesView view old before (record old { orderer = later }) after
leaves_as view old signed later frame said before after one next own k is same says =
    subst (λ (x : OrdererData). LeavesView view old before (record old { orderer = x }) after) (sym is)
    (leaves_view view old signed frame one next own k before after (subst (λ (b : List ℕ). MulticastsFrame (record signed { log = left signed.log; target = view }) b before after) same
    (subst (λ (x : OrdererData). MulticastsFrame x said before after) is says)))

-- so the view stays
pub stays_unsaid : (view : ℕ) (r : BothPartsData) (later : OrdererData) (checkpoints : List CheckpointEntry) (frame : Option (Vec ℕ Global)) (outs : List Output) → checkpoints ≡ entries_of r.desk.snapshots → frame ≡ None
    → MaySignChange view checkpoints r.orderer later frame → ChangesView view r outs (record r { orderer = later }) outs false
stays_unsaid view r later checkpoints frame outs are none may =
    let h = subst (MaySignChange view checkpoints r.orderer later) none may in
    (ap (λ (o : OrdererData). let y : BothPartsData = record r { orderer = o } in y) h.0, refl, subst (λ (cs : List CheckpointEntry). IsUnsendable r.orderer (change_for view cs r.orderer)) are h.1)
