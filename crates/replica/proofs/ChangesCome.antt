-- A view change arrives: the replica stores it, and may move on, or drops it.
use Rattle.std.proofs.Common.{◌≡◌, ◌≢◌, ℕ, ◌<◌, ◌⊎◌, inl, inr, max, Bool, true, false, List, [], ◌∷◌, map, Option, Some, None, refl, sym, ap, ◌∙◌, subst, ap₂, arith}
use Rattle.std.specs.Prelude.{is_some, option_and_then}
use Rattle.std.specs.Option.{option_map_or}
use Rattle.wire_format.specs.Messages.{BodyData as Body, FrameData as Frame, MessageData as Message, ViewChangeData, view_change as ViewChange}
use Rattle.wire_format.specs.Views.{view_change_data}
use Rattle.wire_format.proofs.Saying.{reads_frames}
use Rattle.signing.specs.AuthenticBody.{authentic, signed_body}
use Rattle.signing.proofs.AuthenticBody.{authentic_was_opened, authentic_was_signed}
use Rattle.events.specs.declared.output.Output.{Output}
use Rattle.authenticator.specs.Membership.{Membership}
use Rattle.frame_endpoint.specs.Endpoint.{EndpointState}
use Rattle.protocol.specs.System.Configuration.{Configuration, members, signers}
use Rattle.protocol.specs.System.Trace.{Entry}
use Rattle.protocol.specs.System.Trace.Entry.{Got}
use Rattle.protocol.specs.Replica.Certificates.{latest_change, new_view_from, taken, target, view}
use Rattle.protocol.specs.Replica.Owed.{Counts, HasToMove}
use Rattle.protocol.specs.Replica.RightReplica.{kept_states, sought_view}
use Rattle.protocol.specs.Replica.Selection.{change_in, is_within, signed_change}
use Rattle.protocol.specs.Replica.State.{State, call_in}
use Rattle.protocol.proofs.Words.Moving.{no_time}
use Rattle.protocol.proofs.Words.Options.{some_injective}
use Rattle.view_change.specs.declared.change_fault.ChangeFault.{ChangeFault}
use Rattle.view_change.specs.declared.changes.Change.{Change}
use Rattle.view_change.specs.Laws.{ChangesAreJudged, HaveOneRule, SizesDecide}
use Rattle.view_change.specs.ReceivedData.{AreHeldFrom, HeldData, IsJoined, held_of, later_views, view_change_refusal, with_held}
use Rattle.view_change.specs.ReceivedView.{IsHeldIn, judging_configuration, held_as}
use Rattle.view_change.specs.Sets.{change_pair}
use Rattle.view_change.proofs.Opening.{signed_is}
use Rattle.replica_histories.specs.Questions.{AnswersInput, OwesViewChange, brings_part, has_part}
use Rattle.replica_histories.specs.Changes.{FitsChanges, IsNoBatch, LogPassesEntry}
use Rattle.replica_histories.specs.Desk.{snapshot_of}
use Rattle.replica_histories.specs.Events as histories
use Rattle.replica_histories.specs.Events.{Start, IsTaken, after_outputs}
use Rattle.replica_histories.specs.Inputs.{IsBesideLog, replies_again}
use Rattle.replica_histories.specs.Received.{held_view}
use Rattle.replica_histories.specs.Views.{entries_of}
use Rattle.replica_histories.proofs.ChangesKept.{received_are_signed, received_keep}
use Rattle.replica_histories.proofs.ChangesMade.{changes_are_taken}
use Rattle.replica_histories.proofs.ChangesPassing.{changes_stay, pq_sets_are_above, inputs_enter}
use Rattle.replica_histories.proofs.Changing.{view_changes_count}
use Rattle.replica_histories.proofs.Counting.{others_drop}
use Rattle.replica_histories.proofs.Entering.{inputs_fit}
use Rattle.replica_histories.proofs.Received.{refused_bring_none}
use Rattle.replica_histories.proofs.Leaves.{all_are_spent}
use Rattle.replica_histories.proofs.Questions.{others_owe_no_part}
use Rattle.replica_histories.proofs.Reasons.{ahead_are_held, joined_one}
use Rattle.replica.specs.declared.taking.DueWork.{DueWork}
use Rattle.replica.specs.declared.taking.DueWork.TheVariants as due_work
use Rattle.orderer.specs.State.{OrdererData, IsOrderer}
use Rattle.replica.specs.State.{BothPartsData, AreOne, Gives, heard}
use Rattle.desk.specs.DeskOf.{desk_of}
use Rattle.replica.specs.Beginning.{BeginsView, MayBegin, HasNoView}
use Rattle.orderer.specs.ViewChangeOut.{IsJoinedBy, IsJoinedByNone, IsUnsendable, target_view, change_for}
use Rattle.replica.specs.Changing.{ChangesView}
use Rattle.orderer.specs.Fitting.{given, FitsEvent, changes_held}
use Rattle.replica.specs.Desks.{PartsFitEvent}
use Rattle.replica.specs.Entering.{event_of, event_with, TakesBytes, TakesInput}
use Rattle.replica.specs.BothParts.{BothPartsMatchHistory, me_of}
use Rattle.replica.specs.Going.{IsOneParty, NothingIsLeft}
use Rattle.replica.specs.Numbering.{IsAllNumbered}
use Rattle.orderer.specs.Receiving.{JudgesAlike, ReceivesViewChange}
use Rattle.orderer.proofs.ChangingViews.{unsaid_spent}
use Rattle.replica.proofs.Beginning.{heard_by, none_taken, rests}
use Rattle.replica.proofs.Choosing.{active_begins_none}
use Rattle.orderer.proofs.Parties.{same_log}
use Rattle.replica.proofs.Parties.{gives_on, one_self, ones_twice}
use Rattle.orderer.proofs.Staying.{numbers_alike, numbers_beside, said_on}

-- a configuration where all know this; no keys matter for signed frames
abbrev known_by_all : Membership → ℕ → Configuration
known_by_all m period =
    record { faults = m.faults; clients = m.clients; seed = []; publics = m.publics; period = period; faulty_replicas = []; faulty_clients = [] }

signed_alike : (m : Membership) (period : ℕ) (bytes : List ℕ) → signed_body m bytes ≡ signed_body (signers (known_by_all m period)) bytes
unfolding signed_body
signed_alike m period bytes = refl

-- a received view change is signed
pub heard_is_signed : SizesDecide → (o : OrdererData) (x : Change) (frame : List ℕ) → IsOrderer o → heard o frame ≡ Some (record { sender = x.sender.0; message = ViewChange (view_change_data x.change) })
    → signed_change (judging_configuration o.received) frame ≡ Some (change_pair x)
heard_is_signed decide o x frame own h =
    (decide (judging_configuration o.received) (known_by_all o.endpoint.membership o.received.sizes.period) (record { publics = own.2; faults = own.3; period = refl })).signed frame
    ∙ ap (option_and_then change_in) (sym (signed_alike o.endpoint.membership o.received.sizes.period frame) ∙ authentic_was_signed o.endpoint.membership o.endpoint.me frame _ h refl)

-- ---- what the bytes of a signed view change say

-- Nothing, or this view change alone.
abbrev IsChangeAtMost : ℕ × ViewChangeData → Option Body → Type 0
IsChangeAtMost x said = (said ≡ None) ⊎ (said ≡ Some (record { sender = x.0; message = ViewChange x.1 }))

change_at_most : (c : Configuration) (me : ℕ) (bytes : List ℕ) (x : ℕ × ViewChangeData) → signed_change c bytes ≡ Some x → IsChangeAtMost x (authentic (members c me) me bytes)
change_at_most c me bytes x signed = go (authentic (members c me) me bytes) refl
  where
    go : (o : Option Body) → authentic (members c me) me bytes ≡ o → IsChangeAtMost x o
    go None h = inl refl
    go (Some body) h =
        let is = signed_is c bytes x signed in
        let opened = authentic_was_opened (members c me) me bytes body h in
        let same : is.frame ≡ opened.frame =
        some_injective is.frame opened.frame (sym ((reads_frames bytes is.frame).1 is.spelled) ∙ (reads_frames bytes opened.frame).1 opened.opens.spelled) in
        let body_is : body ≡ is.frame.body = sym opened.body_is ∙ ap (λ (f : Frame). f.body) (sym same) in
        inr (ap Some (body_is ∙ made is.frame.body x is.sender is.message))
      where
        made : (b : Body) (y : ℕ × ViewChangeData) → b.sender ≡ y.0 → b.message ≡ ViewChange y.1 → b ≡ record { sender = y.0; message = ViewChange y.1 }
        made b y s m = ap₂ (λ (n : ℕ) (t : Message). let z : Body = record { sender = n; message = t } in z) s m

-- it is no request, no fetch and no new view, and the log takes none of it
record IsBesideAll (c : Configuration) (said : Option Body) : Type 0 where
  call : option_and_then (call_in c) said ≡ None
  asks : (st : State) → replies_again st said ≡ []
  parts : has_part said ≡ false
  views : option_and_then (new_view_from c) said ≡ None
  log : IsBesideLog said
  batch : IsNoBatch said

beside_all : (c : Configuration) (x : ℕ × ViewChangeData) (said : Option Body) → IsChangeAtMost x said → IsBesideAll c said
beside_all c x said (inl h) = subst (IsBesideAll c) (sym h) (record { call = refl; asks = λ st. refl; parts = refl; views = refl; log = tt; batch = tt })
beside_all c x said (inr h) = subst (IsBesideAll c) (sym h) (record { call = refl; asks = λ st. refl; parts = refl; views = refl; log = tt; batch = tt })

-- ---- an event begins

module _ (r : BothPartsData) (one : AreOne r.orderer r.desk) (bytes : List ℕ) where
  -- with these stored view changes
  abbrev holding : List (Option HeldData) → OrdererData
  holding held = record r.orderer { received = record r.orderer.received { held = held } }

  module _ (c : Configuration) (past : List Entry) (runs : BothPartsMatchHistory c r past) (x : ℕ × ViewChangeData) (signed : signed_change c bytes ≡ Some x) where
    abbrev me : ℕ
    me = me_of r

    abbrev e : Entry
    e = Got me bytes

    beside : IsBesideAll c (authentic (members c me) me bytes)
    beside = beside_all c x (authentic (members c me) me bytes) (change_at_most c me bytes x signed)

    free : taken c past e ≡ None
    free = none_taken c past e beside.views

    enters : histories.BothFitWithinEvent c me (event_of c r past runs bytes) (desk_of c r.desk) r.orderer.log [] []
    enters = inputs_fit c me (desk_of c r.desk) (desk_of c r.desk) r.orderer.log r.orderer.log [] past bytes runs.holds free (record {
      takes = others_drop c me r.orderer.log past bytes runs.holds.of_log.fits beside.log;
      state = refl;
      snapshots = refl;
      waiting = rw beside.call refl;
      transfer = refl;
      frames = λ frame h. inl h;
      due_is = sym (beside.asks r.desk.executed.state);
    })

    passes : LogPassesEntry c me past e r.orderer.log r.orderer.log
    passes = inputs_enter c me (desk_of c r.desk) (desk_of c r.desk) r.orderer.log r.orderer.log [] past e runs.holds enters

    stands : (held : List (Option HeldData)) → FitsChanges c me r.orderer.log (record (changes_held r.orderer) { held = held }) (e ∷ past)
        → PartsFitEvent c (event_of c r past runs bytes) (holding held) r.desk [] []
    stands held changes = record {
      is = runs.is_desk;
      fits = subst (λ (m : ℕ). FitsEvent c m (event_of c r past runs bytes) (holding held) (desk_of c r.desk) r.desk.waiting [] []) (sym one.0) (record {
        fits = enters;
        numbers = numbers_alike c me r.desk.waiting r.orderer (holding held) (desk_of c r.desk) (e ∷ past) (same_log r.orderer.log) refl
            (numbers_beside c me r.desk.waiting r.orderer (desk_of c r.desk) past e runs.holds.of_log.fits.faults runs.holds.of_log.fits.own
            (record { here = refl; none = free; sends = refl }) runs.numbers);
        said = said_on me r.orderer.last_checkpoint past e runs.said;
        changes = changes;
        meant = tt;
      });
    }

-- ---- the replica refuses it

some_fault : (o : Option ChangeFault) → o ≢ None → (fault : ChangeFault) × (o ≡ Some fault)
some_fault None h = absurd (h refl)
some_fault (Some x) h = (x, refl)

module _ (r : BothPartsData) (one : AreOne r.orderer r.desk) (rules : JudgesAlike r.orderer) (bytes : List ℕ) (x : ℕ × ViewChangeData)
    (signed : signed_change (judging_configuration r.orderer.received) bytes ≡ Some x) where
  rule : (c : Configuration) (past : List Entry) → BothPartsMatchHistory c r past → Gives c r.orderer → HaveOneRule (judging_configuration r.orderer.received) c
  rule c past runs known = rules c known (runs.is_desk.period_is ∙ sym one.1)

  signed_in : (c : Configuration) (past : List Entry) → BothPartsMatchHistory c r past → Gives c r.orderer → signed_change c bytes ≡ Some x
  signed_in c past runs known = sym ((rule c past runs known).signed bytes) ∙ signed

  -- a refused view change gives no reason to move
  refused_move : ChangesAreJudged → view_change_refusal (judging_configuration r.orderer.received) r.orderer.log.view r.orderer.received.held x ≢ None → (c : Configuration) (past : List Entry) (runs : BothPartsMatchHistory c r past) → Gives c r.orderer
      → (outputs : List Entry) → OwesViewChange c (me_of r) past (Got (me_of r) bytes) outputs runs.holds.of_desk.point
  refused_move judge faulty c past runs known outputs vc other (inl t) may within says = absurd (no_time c (me_of r) (me_of r) past bytes runs.holds.of_desk.point.waiting vc.view t)
  refused_move judge faulty c past runs known outputs vc other (inr (taken, joins)) may within says = absurd (faulty ((judge (judging_configuration r.orderer.received) r.orderer.log.view r.orderer.received.held x).1 (above, inside, newer)))
    where
      its : ◌≡◌ {A = ℕ × ViewChangeData} (taken.0, taken.1) x
      its = go (change_at_most c (me_of r) bytes x (signed_in c past runs known))
        where
          go : IsChangeAtMost x (authentic (members c (me_of r)) (me_of r) bytes) → ◌≡◌ {A = ℕ × ViewChangeData} (taken.0, taken.1) x
          go (inl none) = let bad : false ≡ true = ap is_some (sym none ∙ taken.2) in absurd cc
          go (inr is) =
              let same : ◌≡◌ {A = Body} (record { sender = taken.0; message = ViewChange taken.1 }) (record { sender = x.0; message = ViewChange x.1 }) = some_injective _ _ (sym taken.2 ∙ is) in
              some_injective (taken.0, taken.1) x (ap change_in same)

      change : taken.1 ≡ x.1
      change = ap (λ (y : ℕ × ViewChangeData). y.1) its

      above : r.orderer.log.view < x.1.view
      above = let l = taken.3.0 in let is = runs.holds.of_log.fits.view in let same = ap (λ (y : ViewChangeData). y.view) change in omega (arith, l, is, same)

      inside : is_within (judging_configuration r.orderer.received) x.1 ≡ true
      inside = (rule c past runs known).within x.1 ∙ ap (is_within c) (sym change) ∙ taken.3.1

      newer : (h : HeldData) → held_of r.orderer.received.held x.0 ≡ Some h → h.change.view < x.1.view
      newer h there =
          let sender : taken.0 ≡ x.0 = ap (λ (y : ℕ × ViewChangeData). y.0) its in
          let other : taken.0 ≢ me_of r = (received_are_signed c (me_of r) taken.0 taken.1 bytes taken.2).1 in
          let latest : latest_change c past taken.0 ≡ h.change.view =
          runs.changes.received.latest taken.0 other
          ∙ ap (λ (o : Option HeldData). option_map_or (λ (y : HeldData). y.change.view) o 0) (ap (held_of r.orderer.received.held) sender ∙ there) in
          let l = taken.3.2 in
          let same = ap (λ (y : ViewChangeData). y.view) change in
          omega (arith, l, latest, same)

  -- A signed view change that is refused changes nothing.
  refused : ChangesAreJudged → view_change_refusal (judging_configuration r.orderer.received) r.orderer.log.view r.orderer.received.held x ≢ None → TakesBytes bytes r due_work.Nothing r []
  refused judge faulty = record {
    party = one_self r;
    begins = λ c past runs known.
        let none = others_owe_no_part c (me_of r) past (Got (me_of r) bytes) [] runs.holds.of_desk.point r.desk.executed.state.number (beside r one bytes c past runs x (signed_in c past runs known)).parts in (
          stands r one bytes c past runs x (signed_in c past runs known) r.orderer.received.held (stays c past runs known),
          (
            rests c r past runs,
            runs.all,
            (none.0, none.1, none.2, none.3, none.4, refused_move judge faulty c past runs known []),
            inl refl,
          ),
          runs.nothing_begins,
        );
  }
    where
      stays : (c : Configuration) (past : List Entry) (runs : BothPartsMatchHistory c r past) → Gives c r.orderer
          → FitsChanges c (me_of r) r.orderer.log (changes_held r.orderer) (Got (me_of r) bytes ∷ past)
      stays c past runs known =
          changes_stay c (me_of r) past (Got (me_of r) bytes) r.orderer.log r.orderer.log (changes_held r.orderer) r.orderer.pq_sets (passes r one bytes c past runs x is) (record { view = refl; active = refl })
          (received_keep c (me_of r) past bytes (free r one bytes c past runs x is) (beside r one bytes c past runs x is).batch
          (λ s other. refused_bring_none c (me_of r) s bytes past r.orderer.received.held x fault.0 is at other runs.changes.received))
          (pq_sets_are_above c (me_of r) r.orderer.log past r.orderer.pq_sets runs.holds.of_log.fits runs.changes.pq_sets) runs.changes
        where
          is : signed_change c bytes ≡ Some x
          is = signed_in c past runs known

          fault : (fault : ChangeFault) × (view_change_refusal (judging_configuration r.orderer.received) r.orderer.log.view r.orderer.received.held x ≡ Some fault)
          fault = some_fault (view_change_refusal (judging_configuration r.orderer.received) r.orderer.log.view r.orderer.received.held x) faulty

          at : view_change_refusal c (view c past) r.orderer.received.held x ≡ Some fault.0
          at = ap (λ (v : ℕ). view_change_refusal c v r.orderer.received.held x) runs.holds.of_log.fits.view
              ∙ sym ((rule c past runs known).untaken r.orderer.log.view r.orderer.received.held x) ∙ fault.1

-- One that is stored in these bytes is refused: it is as late as itself.
pub change_held : (r : BothPartsData) (bytes : List ℕ) (h : HeldData) → AreOne r.orderer r.desk → JudgesAlike r.orderer → ChangesAreJudged → IsHeldIn r.orderer.received bytes h → TakesBytes bytes r due_work.Nothing r []
change_held r bytes h one rules judged is = refused r one rules bytes (h.sender, h.change) is.signed judged late
  where
    late : view_change_refusal (judging_configuration r.orderer.received) r.orderer.log.view r.orderer.received.held (h.sender, h.change) ≢ None
    late right =
        let newer = ((judged (judging_configuration r.orderer.received) r.orderer.log.view r.orderer.received.held (h.sender, h.change)).0 right).2 h is.held in
        omega (arith, newer)

-- ---- what follows an input that a rule takes

-- a rule takes the input, which asks for no part
abbrev IsTakenPartless : Configuration → ℕ → Start → Type 0
IsTakenPartless c me s = IsTaken c me s × (brings_part c me s.input ≡ false)

-- What fits the past fits the event with these outputs, and nothing is left to do.
record Comes (input : Entry) (old new : BothPartsData) (outs : List Output) : Type 0 where
  party : IsOneParty old new
  begins : (c : Configuration) (past : List Entry) (runs : BothPartsMatchHistory c old past) → Gives c old.orderer
      → PartsFitEvent c (event_with c old past runs input) new.orderer new.desk [] outs × NothingIsLeft new × IsAllNumbered new × IsTakenPartless c (me_of new) (event_with c old past runs input)

-- If the replica has to move and its target is this view, the event has what it owes.
abbrev MovesAt : Entry → BothPartsData → ℕ → Type 0
MovesAt input old to =
    (c : Configuration) (past : List Entry) (runs : BothPartsMatchHistory c old past) → Gives c old.orderer → (outputs : List Entry)
    → target (after_outputs (event_with c old past runs input) outputs) ≡ to → OwesViewChange c (me_of old) past input outputs runs.holds.of_desk.point

module _ (input : Entry) (old : BothPartsData) (alone : AreOne old.orderer old.desk) where
  -- the replica may move to a later view, to which others move it
  moves : (v : ℕ) (a b : BothPartsData) (x y : List Output) (flag : Bool) → IsJoinedBy a.orderer v → ChangesView v a x b y flag → Comes input old a x → Comes input old b y
  moves v a b x y false joined (same, still, unsaid) came =
      subst (λ (r : BothPartsData). Comes input old r y) (sym same) (subst (λ (os : List Output). Comes input old a os) (sym still) came)
  moves v a b x y true joined leaves came = record {
    party = ones_twice old a b came.party leaves.party;
    begins = λ c past runs known. let g = came.begins c past runs known in (
      leaves.stands c (event_with c old past runs input) (gives_on c old.orderer a.orderer came.party.endpoint known) g.1.0 (inr joined) g.0,
      (leaves.voted, leaves.executed g.1.1),
      λ next. absurd (let none : true ≡ false = sym next.3 ∙ leaves.inactive in cc),
      subst (λ (e : EndpointState). IsTakenPartless c e.me (event_with c old past runs input)) (sym leaves.party.endpoint) g.3,
    );
  }

  -- then the event has all that the input asks for
  answered : (a : BothPartsData) (x : List Output) → Comes input old a x → MovesAt input old a.orderer.target → (c : Configuration) (past : List Entry) (runs : BothPartsMatchHistory c old past) → Gives c old.orderer → (outputs : List Entry) (executed : ℕ)
      → target (after_outputs (event_with c old past runs input) outputs) ≡ a.orderer.target → AnswersInput c (me_of old) past input outputs runs.holds.of_desk.point executed
  answered a x came moved c past runs known outputs executed at =
      let partless = subst (λ (e : EndpointState). brings_part c e.me input ≡ false) came.party.endpoint (came.begins c past runs known).3.1 in
      let parts = others_owe_no_part c (me_of old) past input outputs runs.holds.of_desk.point executed partless in
      (parts.0, parts.1, parts.2, parts.3, parts.4, moved c past runs known outputs at)

  -- and may begin it
  begins_now : (a b : BothPartsData) (x y : List Output) → BeginsView a x b y → Comes input old a x → MovesAt input old a.orderer.target → TakesInput input old due_work.View b y
  begins_now a b x y assigned came moved = record {
    party = ones_twice old a b came.party assigned.party;
    begins = λ c past runs known. let g = came.begins c past runs known in (
      assigned.stands c (event_with c old past runs input) (gives_on c old.orderer a.orderer came.party.endpoint known) g.1 g.0,
      (
        assigned.voted g.1,
        (
          subst (λ (e : EndpointState). IsTaken c e.me (event_with c old past runs input)) (sym assigned.party.endpoint) g.3.0,
          λ outputs executed at. subst (λ (e : EndpointState). AnswersInput c e.me past input outputs runs.holds.of_desk.point executed) (sym (ones_twice old a b came.party assigned.party).endpoint)
              (answered a x came moved c past runs known outputs executed (at ∙ assigned.target)),
        ),
      ),
      active_begins_none c b.orderer assigned.active,
    );
  }

  rests_now : (a : BothPartsData) (x : List Output) → HasNoView a → Comes input old a x → MovesAt input old a.orderer.target → TakesInput input old due_work.Nothing a x
  rests_now a x none came moved = record {
    party = came.party;
    begins = λ c past runs known. let g = came.begins c past runs known in (
      g.0,
      (
        g.1,
        g.2,
        subst (λ (e : EndpointState). AnswersInput c e.me past input (given e.me x) runs.holds.of_desk.point a.desk.executed.state.number) (sym came.party.endpoint)
            (answered a x came moved c past runs known (given (me_of old) x) a.desk.executed.state.number
            (subst (λ (m : ℕ). target (after_outputs (event_with c old past runs input) (given m x)) ≡ a.orderer.target) (came.party.me ∙ alone.0) g.0.fits.changes.target)),
        inr g.3.0,
      ),
      none c (gives_on c old.orderer a.orderer came.party.endpoint known) g.0.is.period_is,
    );
  }

  may_begin : (a b : BothPartsData) (x y : List Output) (what : DueWork) → MayBegin a x what b y → Comes input old a x → MovesAt input old a.orderer.target → TakesInput input old what b y
  may_begin a b x y due_work.View assigned came moved = begins_now a b x y assigned came moved
  may_begin a b x y due_work.Nothing (same, still, none) came moved =
      subst (λ (r : BothPartsData). TakesInput input old due_work.Nothing r y) (sym same) (subst (λ (os : List Output). TakesInput input old due_work.Nothing a os) (sym still) (rests_now a x none came moved))
  may_begin a b x y _ assigned came moved = absurd assigned

-- others may move it to their view
pub record Joins (a : BothPartsData) (x : List Output) (b : BothPartsData) (y : List Output) : Type 0 where
  pub view : ℕ
  pub joined : IsJoinedBy a.orderer view
  pub flag : Bool
  pub changes : ChangesView view a x b y flag

abbrev pub MayJoin : BothPartsData → List Output → BothPartsData → List Output → Type 0
MayJoin a x b y = Joins a x b y ⊎ ((b ≡ a) × (y ≡ x) × IsJoinedByNone a.orderer)

-- ---- the replica takes it

module _ (r : BothPartsData) (x : Change) (bytes : List ℕ) (one : AreOne r.orderer r.desk) (rules : JudgesAlike r.orderer) (judge : ChangesAreJudged)
    (h : heard r.orderer bytes ≡ Some (record { sender = x.sender.0; message = ViewChange (view_change_data x.change) }))
    (signed : signed_change (judging_configuration r.orderer.received) bytes ≡ Some (change_pair x)) where
  abbrev vc : ViewChangeData
  vc = view_change_data x.change

  module _ (right : view_change_refusal (judging_configuration r.orderer.received) r.orderer.log.view r.orderer.received.held (change_pair x) ≡ None) where
    abbrev with_it : BothPartsData
    with_it = record r { orderer = holding r one bytes (with_held (held_as x bytes) r.orderer.received.held) }

    judged : (r.orderer.log.view < vc.view) × (is_within (judging_configuration r.orderer.received) vc ≡ true)
        × ((last : HeldData) → held_of r.orderer.received.held x.sender.0 ≡ Some last → last.change.view < vc.view)
    judged = (judge (judging_configuration r.orderer.received) r.orderer.log.view r.orderer.received.held (change_pair x)).0 right

    -- no view change of its sender that is as late is stored
    later : held_view r.orderer.received.held x.sender.0 < vc.view
    later = go (held_of r.orderer.received.held x.sender.0) refl
      where
        go : (o : Option HeldData) → held_of r.orderer.received.held x.sender.0 ≡ o → option_map_or (λ (last : HeldData). last.change.view) o 0 < vc.view
        go None e = let above = judged.0 in omega (arith, above)
        go (Some last) e = judged.2 last e

    module _ (c : Configuration) (past : List Entry) (runs : BothPartsMatchHistory c r past) (known : Gives c r.orderer) where
      receives : authentic (members c (me_of r)) (me_of r) bytes ≡ Some (record { sender = x.sender.0; message = ViewChange vc })
      receives = heard_by r one c bytes _ known h

      counts : Counts c (me_of r) past runs.holds.of_desk.point bytes x.sender.0 (ViewChange vc)
      counts = view_changes_count c (me_of r) r.orderer.log past runs.holds.of_desk.point x.sender.0 vc bytes runs.holds.of_log.fits judged.0
          (sym ((rule r one rules bytes (change_pair x) signed c past runs known).within vc) ∙ judged.1)
          (subst (λ (n : ℕ). n < vc.view) (sym (runs.changes.received.latest x.sender.0 (received_are_signed c (me_of r) x.sender.0 vc bytes receives).1)) later)

      holds : FitsChanges c (me_of r) r.orderer.log (record (changes_held r.orderer) { held = with_held (held_as x bytes) r.orderer.received.held }) (Got (me_of r) bytes ∷ past)
      holds = changes_are_taken c (me_of r) past r.orderer.log (changes_held r.orderer) x.sender.0 vc bytes
          (passes r one bytes c past runs (change_pair x) (signed_in r one rules bytes (change_pair x) signed c past runs known)) receives
          (sym ((rule r one rules bytes (change_pair x) signed c past runs known).untaken r.orderer.log.view r.orderer.received.held (change_pair x)) ∙ right)
          runs.changes

    comes : Comes (Got (me_of r) bytes) r with_it []
    comes = record {
      party = record { endpoint = refl; me = refl; membership = refl };
      begins = λ c past runs known. let s = signed_in r one rules bytes (change_pair x) signed c past runs known in (
        stands r one bytes c past runs (change_pair x) s (with_held (held_as x bytes) r.orderer.received.held) (holds c past runs known),
        rests c r past runs,
        runs.all,
        (
          (record { sender = x.sender.0; message = ViewChange vc }, receives c past runs known, counts c past runs known),
          (beside r one bytes c past runs (change_pair x) s).parts,
        ),
      );
    }

    -- ---- the view to which others move the replica

    module _ (c : Configuration) (past : List Entry) (runs : BothPartsMatchHistory c r past) (known : Gives c r.orderer) where
      passed : LogPassesEntry c (me_of r) past (Got (me_of r) bytes) r.orderer.log r.orderer.log
      passed = passes r one bytes c past runs (change_pair x) (signed_in r one rules bytes (change_pair x) signed c past runs known)

      faults_are : c.faults ≡ r.orderer.endpoint.membership.faults
      faults_are = ap (λ (m : Membership). m.faults) known

      sought_is : sought_view c (Got (me_of r) bytes ∷ past) ≡ target_view with_it.orderer
      sought_is = ap₂ (λ (a b : ℕ). max a b) passed.fits_behind.view (holds c past runs known).target

      -- the views ahead in the history are those of the stored view changes
      joined : AreHeldFrom (judging_configuration with_it.orderer.received) 0 with_it.orderer.received.held → (v : ℕ) → HasToMove c (me_of r) past (Got (me_of r) bytes) runs.holds.of_desk.point.waiting v
          → IsJoined r.orderer.endpoint.membership.faults (later_views (me_of r) (target_view with_it.orderer) with_it.orderer.received.held) v
      joined each v (inl t) = absurd (no_time c (me_of r) (me_of r) past bytes runs.holds.of_desk.point.waiting v t)
      joined each v (inr (taken, joins)) =
          let f = holds c past runs known in
          subst (λ (n : ℕ). IsJoined n (later_views (me_of r) (target_view with_it.orderer) with_it.orderer.received.held) v) faults_are
          (subst (λ (t : ℕ). IsJoined c.faults (later_views (me_of r) t with_it.orderer.received.held) v) sought_is
          (ahead_are_held c (judging_configuration with_it.orderer.received) (me_of r) v (Got (me_of r) bytes ∷ past) with_it.orderer.received.held f.places each joins f.received))

      -- none, if a view change for the view can't be sent
      unsaid_move : (v : ℕ) → IsJoinedBy with_it.orderer v → IsUnsendable with_it.orderer (change_for v (entries_of r.desk.snapshots) with_it.orderer) → (outputs : List Entry)
          → OwesViewChange c (me_of r) past (Got (me_of r) bytes) outputs runs.holds.of_desk.point
      unsaid_move v by unsaid outputs other_vc other reason may within says =
          inr (all_are_spent c (me_of r) r.orderer.log (changes_held r.orderer) past spent runs.changes)
        where
          at : other_vc.view ≡ v
          at = joined_one r.orderer.endpoint.membership.faults other_vc.view v (later_views (me_of r) (target_view with_it.orderer) with_it.orderer.received.held) (joined by.0 other_vc.view reason) by.1

          kept : map snapshot_of (kept_states r.orderer.log.low runs.holds.of_desk.point.snapshots) ≡ r.desk.snapshots
          kept = subst (λ (h : ℕ). map snapshot_of (kept_states h runs.holds.of_desk.point.snapshots) ≡ r.desk.snapshots) runs.holds.of_log.fits.low runs.holds.of_desk.kept

          spent : r.orderer.spent ≡ 64
          spent =
              unsaid_spent c (me_of r) (desk_of c r.desk) with_it.orderer (Got (me_of r) bytes ∷ past) runs.holds.of_desk.point passed.new v passed.fits_behind passed.goes (rests c r past runs).0 kept (holds c past runs known)
              runs.holds.of_log.fits.own refl judge (λ y. sym ((rule r one rules bytes (change_pair x) signed c past runs known).within y))
              unsaid other_vc other at may within says

    -- what the replica owes if others move it
    moved_at : (moved : BothPartsData) (said : List Output) → MayJoin with_it [] moved said → MovesAt (Got (me_of r) bytes) r moved.orderer.target
    moved_at moved said (inl j) = go j.flag j.changes
      where
        go : (flag : Bool) → ChangesView j.view with_it [] moved said flag → MovesAt (Got (me_of r) bytes) r moved.orderer.target
        go true leaves c past runs known outputs at = λ other_vc other reason may within says.
            let same = joined_one r.orderer.endpoint.membership.faults other_vc.view j.view (later_views (me_of r) (target_view with_it.orderer) with_it.orderer.received.held) (joined c past runs known j.joined.0 other_vc.view reason) j.joined.1 in
            let to = leaves.target in
            inl (omega (arith, same, to, at))
        go false (same, still, unsaid) c past runs known outputs at = unsaid_move c past runs known j.view j.joined unsaid outputs
    moved_at moved said (inr (same, still, none)) = λ c past runs known outputs at other_vc other reason may within says.
        let many = (joined c past runs known none.0 other_vc.view reason).enough in
        let few = none.1 in
        absurd (omega (arith, many, few))

  -- The replica stores it and moves on.
  pub change_taken : (received : OrdererData) (moved new : BothPartsData) (said outs : List Output) (what : DueWork) → ReceivesViewChange (held_as x bytes) r.orderer received true
      → MayJoin (record r { orderer = received }) [] moved said → MayBegin moved said what new outs → TakesBytes bytes r what new outs
  change_taken received moved new said outs what receives joins begins =
      may_begin (Got (me_of r) bytes) r one moved new said outs what begins (go joins)
      (moved_at receives.0 moved said (subst (λ (o : OrdererData). MayJoin (record r { orderer = o }) [] moved said) receives.1 joins))
    where
      came : Comes (Got (me_of r) bytes) r (record r { orderer = received }) []
      came = subst (λ (o : OrdererData). Comes (Got (me_of r) bytes) r (record r { orderer = o }) []) (sym receives.1) (comes receives.0)

      go : MayJoin (record r { orderer = received }) [] moved said → Comes (Got (me_of r) bytes) r moved said
      go (inl j) = moves (Got (me_of r) bytes) r one j.view (record r { orderer = received }) moved [] said j.flag j.joined j.changes came
      go (inr (same, still, none)) =
          subst (λ (a : BothPartsData). Comes (Got (me_of r) bytes) r a said) (sym same)
          (subst (λ (os : List Output). Comes (Got (me_of r) bytes) r (record r { orderer = received }) os) (sym still) came)

  -- Or it refuses it.
  pub change_refused : (received : OrdererData) → ReceivesViewChange (held_as x bytes) r.orderer received false → TakesBytes bytes r due_work.Nothing (record r { orderer = received }) []
  change_refused received receives =
      subst (λ (o : OrdererData). TakesBytes bytes r due_work.Nothing (record r { orderer = o }) []) (sym receives.1) (refused r one rules bytes (change_pair x) signed judge receives.0)
