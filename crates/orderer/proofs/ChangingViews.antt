-- The replica's own view changes, those that it can't send, and those of others.
use Rattle.std.proofs.Common.{◌≡◌, ℕ, ◌≤◌, ◌<◌, length, inl, inr, Bool, true, false, not, ◌&&◌, ◌==◌, List, [], ◌∷◌, Option, Some, None, nat_lt, map, refl, ◌∙◌, subst, sym, ap, zero, suc, ◌+◌, ◌^◌, ◌⊎◌, ◌++◌, length-append, Vec, ap₂, arith, IfNone, option_map, IfSome}
use Rattle.std.specs.Bool.{then_some}
use Rattle.std.proofs.lemmas.Bool.{and_parts, ltb-true, leb-false}
use Rattle.protocol.specs.System.Trace.{Has, Entry}
use Rattle.protocol.specs.Replica.Selection.{list_of, signed_change, is_within}
use Rattle.view_change.specs.ReceivedData.{HeldData, later_view, later_views, IsJoined, AreHeldFrom, held_of}
use Rattle.view_change.specs.ReceivedView.{AreReceived, judging_configuration, ReceivedState, held_as}
use Rattle.orderer.specs.State.{OrdererData, IsOrderer}
use Rattle.orderer.specs.ViewChangeOut.{IsJoinedBy, IsJoinedByNone, target_view, AreChanges, IsUnsendable, change_for, SignsChange}
use Rattle.wire_format.specs.Messages.{view_change as ViewChange, AuthenticatorData as Authenticator, BodyData as Body, CheckpointEntryData as CheckpointEntry, MessageData as Message, ViewChangeData, macs, signature}
use Rattle.wire_format.proofs.Saying.{reads_said, says_what_is_spelled}
use Rattle.authenticator.specs.Membership.{Membership}
use Rattle.protocol.specs.System.Configuration.{Configuration, members, replicas}
use Rattle.protocol.specs.Replica.Certificates.{target, view}
use Rattle.protocol.proofs.Words.Options.{some_injective}
use Rattle.view_change.specs.Laws.{SizesDecide, ChangesAreJudged}
use Rattle.view_change.proofs.Opening.{signed_is}
use Rattle.orderer.specs.Receiving.{JudgesAlike, ReceivesViewChange}
use Rattle.std.proofs.lemmas.Option.{none-some}
use Rattle.wire_format.specs.Words.{said}
use Rattle.wire_format.specs.Spelling.{IsAuthenticator, authenticator_is_signed, authenticator_spelling, body_spelling, frame_limit, is_signed, piece}
use Rattle.std.specs.declared.alloc.Global.{Global}
use Rattle.wire_format.specs.Views.{view_change_data}
use Rattle.frame_endpoint.specs.Endpoint.{SignedExceeds, says, IsOwnSigned}
use Rattle.protocol.specs.Replica.RightReplica.{Point, HistoryReaches, IsNewViewChange, kept_states, SentBefore}
use Rattle.view_change.specs.declared.changes.Change.{Change}
use Rattle.pq_sets.specs.PqSetsView.{PqSetsData}
use Rattle.view_change.specs.Sets.{change_pair}
use Rattle.replica_histories.specs.Changes.{FitsChanges}
use Rattle.replica_histories.specs.Desk.{Desk, snapshot_of}
use Rattle.replica_histories.specs.Logs.{FitsLog}
use Rattle.replica_histories.specs.Views.{entries_of}
use Rattle.replica_histories.proofs.OneChange.{said_valid, new_changes_are_one}
use Rattle.orderer.specs.PqSets.{MaySign, MulticastsFrame}
use Rattle.orderer.specs.Fitting.{changes_held, given, FitsEvent}
use Rattle.orderer.specs.Going.{IsVotedAll}
use Rattle.std.proofs.lemmas.List.{append-nil}
use Rattle.ordering.specs.Log.{left}
use Rattle.ordering.specs.Keeping.{IsLog}
use Rattle.events.specs.declared.output.Output.{Output}
use Rattle.protocol.specs.System.Frames.{IsOutgoing, leaf_of}
use Rattle.protocol.specs.System.Trace.Entry.{Sent}
use Rattle.replica_histories.specs.Events.{Start, after_outputs}
use Rattle.replica_histories.proofs.ChangesKept.{sent_keep, own_are_signed}
use Rattle.replica_histories.proofs.Changing.{view_changes_go_again}
use Rattle.desk.specs.Waiting.{WaitingData}
use Rattle.orderer.specs.Multicasting.{AreBelow, OutputsHaveFrame, OutputsHaveViewChange, MulticastsLastAlso}
use Rattle.orderer.proofs.Again.{frame_now, never_said}
use Rattle.orderer.proofs.Staying.{emits_one, fits_on, sent_beside}
use Rattle.orderer.proofs.Parties.{same_log}

-- a later view is above the target
pub later_above : (me target view : ℕ) (held : List (Option HeldData)) → Has (λ w. w ≡ view) (later_views me target held) → target < view
later_above me target view [] has = absurd has
later_above me target view (None ∷ held) has = later_above me target view held has
later_above me target view (Some h ∷ held) has = go (later_above me target view held) (not (h.sender == me) && nat_lt target h.change.view) refl has
  where
    go : (Has (λ w. w ≡ view) (later_views me target held) → target < view) → (b : Bool) → (not (h.sender == me) && nat_lt target h.change.view) ≡ b
        → Has (λ w. w ≡ view) (list_of (then_some b h.change.view ∷ map (later_view me target) held)) → target < view
    go rest false is has = rest has
    go rest true is (inl same) = subst (λ (v : ℕ). target < v) same (ltb-true target h.change.view (and_parts (not (h.sender == me)) (nat_lt target h.change.view) is).1)
    go rest true is (inr has) = rest has

-- the replica joins it
pub joined_by : (o : OrdererData) (me t v : ℕ) → IsOrderer o → AreReceived o.received → me ≡ o.log.me → t ≡ target_view o → IsJoined o.received.sizes.faults (later_views me t o.received.held) v → IsJoinedBy o v
joined_by o me t v own are mine aimed joined = (
  are.each,
  subst (λ (n : ℕ). IsJoined n (later_views o.endpoint.me (target_view o) o.received.held) v) own.3
      (subst (λ (n : ℕ). IsJoined o.received.sizes.faults (later_views n (target_view o) o.received.held) v) (mine ∙ own.0)
      (subst (λ (n : ℕ). IsJoined o.received.sizes.faults (later_views me n o.received.held) v) aimed joined)),
)

-- or it joins none
pub joined_by_none : (o : OrdererData) (me t : ℕ) → IsOrderer o → AreReceived o.received → me ≡ o.log.me → t ≡ target_view o → length (later_views me t o.received.held) ≤ o.received.sizes.faults → IsJoinedByNone o
joined_by_none o me t own are mine aimed few = (
  are.each,
  subst (λ (n : ℕ). length (later_views o.endpoint.me (target_view o) o.received.held) ≤ n) own.3
      (subst (λ (n : ℕ). length (later_views n (target_view o) o.received.held) ≤ o.received.sizes.faults) (mine ∙ own.0)
      (subst (λ (n : ℕ). length (later_views me n o.received.held) ≤ o.received.sizes.faults) aimed few)),
)

-- ---- which configuration judges it

pub judges_alike : (o : OrdererData) → IsOrderer o → SizesDecide → JudgesAlike o
judges_alike o own law c known period = law (judging_configuration o.received) c (record {
  publics = own.2 ∙ sym (ap (λ (m : Membership). m.publics) known);
  faults = own.3 ∙ sym (ap (λ (m : Membership). m.faults) known);
  period = sym period;
})

-- ---- view-change data

change_said : (c : Configuration) (h : HeldData) → signed_change c h.frame ≡ Some (h.sender, h.change)
    → (sender : ℕ) × (said h.frame ≡ Some (record { sender = sender; message = ViewChange h.change }))
change_said c h signed =
    let s = signed_is c h.frame (h.sender, h.change) signed in
    (s.frame.body.sender, reads_said h.frame s.frame s.spelled ∙ ap (λ m. Some (record { sender = s.frame.body.sender; message = m })) s.message)

held_said : (c : Configuration) (first : ℕ) (held : List (Option HeldData)) → AreHeldFrom c first held → AreChanges held
held_said c first [] are s h is = absurd (none-some h is)
held_said c first (None ∷ held) are zero h is = absurd (none-some h is)
held_said c first (Some k ∷ held) are zero h is = subst (λ (x : HeldData). (sender : ℕ) × (said x.frame ≡ Some (record { sender = sender; message = ViewChange x.change }))) (some_injective k h is) (change_said c k are.0.2)
held_said c first (o ∷ held) are (suc s) h is = held_said c (suc first) held are.1 s h is

pub are_changes : (r : ReceivedState) → AreReceived r → AreChanges r.held
are_changes r are = held_said (judging_configuration r) 0 r.held are.each

-- ---- no frame spells it

-- with a list that no frame counts
pub too_many : (sender : ℕ) (vc : ViewChangeData) → (2 ^ 16 ≤ length vc.prepared) ⊎ (2 ^ 16 ≤ length vc.pre_prepared) → (bytes : List ℕ) → said bytes ≡ Some (record { sender = sender; message = ViewChange vc }) → ⊥
too_many sender vc many bytes h = go many
  where
    go : (2 ^ 16 ≤ length vc.prepared) ⊎ (2 ^ 16 ≤ length vc.pre_prepared) → ⊥
    go (inl l) = let few = (said_valid bytes (record { sender = sender; message = ViewChange vc }) h).prepared_count in absurd (omega (arith, l, few))
    go (inr l) = let few = (said_valid bytes (record { sender = sender; message = ViewChange vc }) h).pre_prepared_count in absurd (omega (arith, l, few))

-- so many bytes has a signature
signed_length : (a : Authenticator) → IsAuthenticator a → authenticator_is_signed a ≡ true → length (authenticator_spelling a) ≡ 16578
signed_length (macs entries) is signed = absurd cc
signed_length (signature s) is signed = let whole = is.0 in omega (arith, whole)

-- longer than a frame may be
pub too_long : (sender : ℕ) (vc : ViewChangeData) → SignedExceeds (says sender (ViewChange vc)) → (bytes : List ℕ) → said bytes ≡ Some (record { sender = sender; message = ViewChange vc }) → ⊥
too_long sender vc exceeds bytes h =
    let body : Body = record { sender = sender; message = ViewChange vc } in
    let w = (says_what_is_spelled bytes body).0 h in
    let valid = w.1.valid in
    let signed : authenticator_is_signed w.0.authenticator ≡ true = subst (λ (b : Body). authenticator_is_signed w.0.authenticator ≡ is_signed b.message) w.2 valid.proved in
    let whole : length (authenticator_spelling w.0.authenticator) ≡ 16578 = signed_length w.0.authenticator valid.authenticator signed in
    let short : length (piece (body_spelling body) ++ authenticator_spelling w.0.authenticator) ≤ 262144 =
    subst (λ (b : Body). length (piece (body_spelling b) ++ authenticator_spelling w.0.authenticator) ≤ frame_limit b.message) w.2 valid.short in
    let parts = length-append (piece (body_spelling body)) (authenticator_spelling w.0.authenticator) in
    let over : 262144 < length (piece (body_spelling body)) + 16578 = exceeds in
    absurd (omega (arith, over, whole, short, parts))

-- ---- the replica can't send its view change

module _ (c : Configuration) (me : ℕ) (desk : Desk) (o : OrdererData) (history : List Entry) (point now : Point) (v : ℕ)
    (fits : FitsLog c me o.log history) (leaves : HistoryReaches c me history now) (voted : IsVotedAll o.log) (kept : map snapshot_of (kept_states o.log.low point.snapshots) ≡ desk.snapshots)
    (f : FitsChanges c me o.log (changes_held o) history) (own : o.log.me ≡ me) (named : o.endpoint.me ≡ me) where
  abbrev its : ViewChangeData
  its = change_for v (entries_of desk.snapshots) o

  -- it is the one view change that the replica may send
  pub is_change_for : (vc : ViewChangeData) (bytes : List ℕ) → vc.view ≡ v → IsNewViewChange c me history point vc → said bytes ≡ Some (record { sender = me; message = ViewChange vc })
      → vc ≡ change_for v (entries_of desk.snapshots) o
  is_change_for vc bytes at may says_it =
      new_changes_are_one c me desk o.log history point now o.pq_sets me vc bytes fits leaves (λ i. (voted i).1) kept f.pq_sets may says_it
      ∙ ap (λ (w : ℕ). change_for w (entries_of desk.snapshots) o) at

  -- so its keys are spent
  pub unsaid_spent : ChangesAreJudged → ((vc : ViewChangeData) → is_within c vc ≡ is_within (judging_configuration o.received) vc) → IsUnsendable o (change_for v (entries_of desk.snapshots) o)
      → (vc : ViewChangeData) (bytes : List ℕ) → vc.view ≡ v → IsNewViewChange c me history point vc → is_within c vc ≡ true → said bytes ≡ Some (record { sender = me; message = ViewChange vc })
      → o.spent ≡ 64
  unsaid_spent judge alike unsaid vc bytes at may within says_it = go unsaid
    where
      same : vc ≡ its
      same = is_change_for vc bytes at may says_it

      go : IsUnsendable o its → o.spent ≡ 64
      go (inl spent) = spent
      go (inr (inl unsaid)) =
          absurd (unsaid bytes (subst (λ (n : ℕ). said bytes ≡ Some (record { sender = n; message = ViewChange its })) (sym named)
          (subst (λ (x : ViewChangeData). said bytes ≡ Some (record { sender = me; message = ViewChange x })) same says_it)))
      go (inr (inr refused)) = absurd (refused ((judge (judging_configuration o.received) o.log.view o.received.held (o.log.me, its)).1 (above, inside, newer)))
        where
          above : o.log.view < v
          above = let l = may.above in let is = fits.view in omega (arith, l, is, at)

          inside : is_within (judging_configuration o.received) its ≡ true
          inside = subst (λ (x : ViewChangeData). is_within (judging_configuration o.received) x ≡ true) same (sym (alike vc) ∙ within)

          newer : (h : HeldData) → held_of o.received.held o.log.me ≡ Some h → h.change.view < v
          newer h there =
              let l = may.newer in
              let is = f.target in
              let most = f.own_latest h (subst (λ (n : ℕ). held_of o.received.held n ≡ Some h) own there) in
              omega (arith, l, is, most, at)

-- ---- the replica signs nothing

-- what holds if there is none
pub of_none : {A : Type 0} (P : Type 0) (o : Option A) → o ≡ None → IfNone o P → P
of_none P o is h = subst (λ x. IfNone x P) is h

made_is : (view low : ℕ) (checkpoints : List CheckpointEntry) (pq_sets : PqSetsData) (o : OrdererData) (vc : ViewChangeData)
    → vc ≡ record { view = view; low = low; checkpoints = checkpoints; prepared = pq_sets.prepared; pre_prepared = pq_sets.logged } → low ≡ o.log.low → pq_sets ≡ o.pq_sets → vc ≡ change_for view checkpoints o
made_is view low checkpoints pq_sets o vc made at same =
    made ∙ ap₂ (λ (l : ℕ) (cs : PqSetsData). let x : ViewChangeData = record { view = view; low = l; checkpoints = checkpoints; prepared = cs.prepared; pre_prepared = cs.logged } in x) at same

-- the copy of the view change isn't signed
pub not_signed : (o later : OrdererData) (view low : ℕ) (checkpoints : List CheckpointEntry) (pq_sets : PqSetsData) (said x : Change) (message : Message) (r : Option (Vec ℕ Global))
    → view_change_data x.change ≡ record { view = view; low = low; checkpoints = checkpoints; prepared = pq_sets.prepared; pre_prepared = pq_sets.logged } → low ≡ o.log.low → pq_sets ≡ o.pq_sets
    → change_pair said ≡ change_pair x → message ≡ ViewChange (view_change_data said.change) → r ≡ None → MaySign message o later r → (later ≡ o) × IsUnsendable o (change_for view checkpoints o)
not_signed o later view low checkpoints pq_sets said x message r made at same copy is none signs = let h = subst (MaySign message o later) none signs in (h.0, go h.1)
  where
    says_it : message ≡ ViewChange (change_for view checkpoints o)
    says_it = is ∙ ap (λ (p : ℕ × ViewChangeData). ViewChange p.1) copy ∙ ap (λ (y : ViewChangeData). ViewChange y) (made_is view low checkpoints pq_sets o (view_change_data x.change) made at same)

    go : (o.spent ≡ 64) ⊎ SignedExceeds (says o.endpoint.me message) → IsUnsendable o (change_for view checkpoints o)
    go (inl spent) = inl spent
    go (inr exceeds) =
        inr (inl (too_long o.endpoint.me (change_for view checkpoints o) (subst (λ (m : Message). SignedExceeds (says o.endpoint.me m)) says_it exceeds)))

-- ---- the replica signs its view change

-- the rules that judge view changes find the replica's signature on it
pub own_is_signed : (o : OrdererData) (x : Change) (frame : List ℕ) → IsOrderer o → IsLog o.log → x.sender.0 ≡ o.log.me → IsOwnSigned o.endpoint (ViewChange (view_change_data x.change)) frame
    → signed_change (judging_configuration o.received) frame ≡ Some (x.sender.0, view_change_data x.change)
own_is_signed o x frame own is sender signed =
    own_are_signed (judging_configuration o.received) o.endpoint.me (view_change_data x.change) frame known (signed (judging_configuration o.received) own.2)
    ∙ ap (λ (m : ℕ). Some (m, view_change_data x.change)) (sym (sender ∙ own.0))
  where
    known : o.endpoint.me < replicas (judging_configuration o.received)
    known = let me = own.0 in let faults = own.1 in let sizes = own.3 in let few = is.me in omega (arith, me, faults, sizes, few)

pub signs_change : (view low : ℕ) (checkpoints : List CheckpointEntry) (pq_sets : PqSetsData) (old new : OrdererData) (x : Change) (frame : List ℕ) → x.sender.0 ≡ old.log.me
    → view_change_data x.change ≡ record { view = view; low = low; checkpoints = checkpoints; prepared = pq_sets.prepared; pre_prepared = pq_sets.logged } → low ≡ old.log.low → pq_sets ≡ old.pq_sets
    → IsOwnSigned old.endpoint (ViewChange (view_change_data x.change)) frame → leaf_of frame ≡ Some old.spent → ReceivesViewChange (held_as x frame) (record old { spent = old.spent + 1 }) new true
    → SignsChange view checkpoints old new frame
signs_change view low checkpoints pq_sets old new x frame sender made at same signed by receives = record {
  by_leaf = by;
  own = held_as x frame;
  sender = sender;
  frame_is = refl;
  change = made ∙ ap₂ (λ (l : ℕ) (cs : PqSetsData). record { view = view; low = l; checkpoints = checkpoints; prepared = cs.prepared; pre_prepared = cs.logged }) at same;
  signed = signed;
  new_is = receives.1;
}

-- what holds of an existing frame
pub of_some : {A : Type 0} (P : A → Type 0) (o : Option A) (x : A) → o ≡ Some x → IfSome o P → P x
of_some P o x is h = subst (λ y. IfSome y P) is h

-- what the replica signs in an existing frame
pub signs_in : (message : Message) (o later : OrdererData) (r : Option (Vec ℕ Global)) (frame : Vec ℕ Global) → r ≡ Some frame → MaySign message o later r
    → IsOwnSigned o.endpoint message frame.items × (leaf_of frame.items ≡ Some o.spent) × (later ≡ record o { spent = o.spent + 1 })
signs_in message o later r frame is h = subst (MaySign message o later) is h

-- the signed body says what the copy does
pub signs_copy : (o : OrdererData) (said x : Change) (message : Message) (frame : List ℕ) → change_pair said ≡ change_pair x → message ≡ ViewChange (view_change_data said.change) → IsOwnSigned o.endpoint message frame
    → IsOwnSigned o.endpoint (ViewChange (view_change_data x.change)) frame
signs_copy o said x message frame copy is signed = subst (λ (m : Message). IsOwnSigned o.endpoint m frame) (is ∙ ap (λ (p : ℕ × ViewChangeData). ViewChange p.1) copy) signed

-- ---- it multicasts the view change again

pub no_change_again : (o : OrdererData) (outs : List Output) → option_map (λ h. h.frame) (held_of o.received.held o.log.me) ≡ None → MulticastsLastAlso false 0 OutputsHaveViewChange o outs o outs
no_change_again o outs none = (
  record { goes = λ inactive c s desk w known below f. f; same = refl; more = []; given_is = sym (append-nil outs) },
  λ held is. absurd (let bad : None ≡ Some held.frame = sym none ∙ ap (option_map (λ (h : HeldData). h.frame)) is in cc),
)

pub change_again : (o : OrdererData) (frame : List ℕ) (before after : List Output) → IsOrderer o → option_map (λ h. h.frame) (held_of o.received.held o.log.me) ≡ Some frame → MulticastsFrame o frame before after
    → MulticastsLastAlso false 0 OutputsHaveViewChange o before o after
change_again o frame before after own has says = (
  record {
    goes = λ inactive c s desk w known below f. goes c s desk w known below inactive f;
    same = refl;
    more = says.output ∷ [];
    given_is = says.given_is;
  },
  λ held is. subst (λ (b : List ℕ). OutputsHaveFrame o b after) (some_injective frame held.frame (sym has ∙ ap (option_map (λ (h : HeldData). h.frame)) is)) (frame_now o frame before after says),
)
  where
    goes : (c : Configuration) (s : Start) (desk : Desk) (w : WaitingData) → members c o.endpoint.me ≡ o.endpoint.membership → AreBelow o.endpoint.me 0 (given o.endpoint.me before) → o.log.active ≡ false → FitsEvent c o.endpoint.me s o desk w [] before
        → FitsEvent c o.endpoint.me s o desk w [] after
    goes c s desk w known below inactive f =
        let h = f.changes.own_change inactive in
        let me = o.endpoint.me in
        let past = after_outputs s (given me before) in
        let there : Some h.own.frame ≡ Some frame =
        ap (option_map (λ (x : HeldData). x.frame)) (sym h.held) ∙ ap (λ (m : ℕ). option_map (λ (x : HeldData). x.frame) (held_of o.received.held m)) (sym own.0) ∙ has in
        let is = some_injective h.own.frame frame there in
        let is_outgoing : IsOutgoing c me (ViewChange h.own.change) [] frame = subst (IsOutgoing c me (ViewChange h.own.change) []) is h.is_outgoing in
        let left : o.log.view < target past = leb-false (target past) o.log.view (f.fits.of_log.active ∙ inactive) in
        let last : h.own.change.view ≡ target past = h.view ∙ sym f.changes.target in
        fits_on c me s o o desk w [] [] before after (Sent me frame) (emits_one c me before after says.output (Sent me frame) says.given_is says.sends.sends (says.sends.meant c (ViewChange h.own.change) known is_outgoing))
        (sent_beside c me (ViewChange h.own.change) [] frame past tt is_outgoing) (sent_keep c me past (ViewChange h.own.change) frame is_outgoing.says (omega (arith, last)) (λ signed. subst (λ (b : List ℕ). SentBefore b past) is h.sent))
        (same_log o.log) refl refl refl refl f
        (view_changes_go_again c me s desk o.log [] (given me before) h.own.change frame left last (subst (λ (b : List ℕ). SentBefore b past) is h.sent)
        (never_said me 0 (ViewChange h.own.change) (given me before) (λ none. none) below) is_outgoing f.fits)
