-- The parts of a replica fit the histories that their joined replica fits.
use Rattle.std.proofs.Common.{◌≡◌, ℕ, ◌+◌, ◌*◌, ◌<◌, ◌≤◌, arith, inr, Bool, true, false, List, [], ◌∷◌, refl, sym, ap, ap₂, ◌∙◌, subst, Option, Some, None}
use Rattle.std.proofs.lemmas.Option.{none-some}
use Rattle.std.specs.Prelude.{is_none, IsTrue, option_map}
use Rattle.authenticator.specs.Membership.{Membership}
use Rattle.frame_endpoint.specs.Endpoint.{EndpointState}
use Rattle.events.specs.declared.output.Output.{Output}
use Rattle.events.specs.Outputs.{after_event, AreSentAsMeant}
use Rattle.protocol.specs.System.Configuration.{Configuration, members}
use Rattle.protocol.specs.System.Reads.{without_reads}
use Rattle.protocol.specs.System.Trace.{Entry}
use Rattle.protocol.specs.Replica.Owed.{IsReplica}
use Rattle.protocol.proofs.Words.Options.{some_injective}
use Rattle.replica.specs.declared.replica.Event.{Event}
use Rattle.replica.specs.declared.replica.Event.TheVariants as events
use Rattle.replica.specs.Fits.{EventLeads, SendsAsMeant}
use Rattle.orderer.specs.State.{OrdererData}
use Rattle.replica.specs.State.{MemberData, BothPartsData, OrdererPart, DeskPart, ReplicaData, IsOrdererPart, IsDeskPart, AreOne, member_of}
use Rattle.replica.specs.ReplicaView.{both_of}
use Rattle.desk.specs.State.{DeskData}
use Rattle.desk.specs.Desking.{IsNewDesk}
use Rattle.orderer.specs.Taking.{IsNewOrderer}
use Rattle.replica.specs.Inputs.{input_of}
use Rattle.replica.specs.Going.{IsOneParty}
use Rattle.replica.specs.BothParts.{BothPartsEventLead, BothPartsFitHistory}
use Rattle.replica.specs.Parted.{DeskMatchesHistory, OrdererMatchesHistory, DeskFitsHistory, OrdererFitsHistory, FitBoth, AreTogether, BothLead, BothSendAsMeant, PartsReact}
use Rattle.orderer.specs.ViewChangeOut.{AreChanges}
use Rattle.replica.specs.BothParts.{both_parts}
use Rattle.replica.proofs.Fitting.{fits_new}
use Rattle.replica.proofs.PartsJoining.{parts_join, holds_part}

-- ---- a part that holds something

abbrev pub orders : MemberData → OrdererData → OrdererPart
orders m o = record { member = m; holds = Some o }

abbrev pub answers : MemberData → DeskData → DeskPart
answers m d = record { member = m; holds = Some d }

desk_fits : (c : Configuration) (me : ℕ) (m : MemberData) (d : DeskData) (history : List Entry) → m.me ≡ me → member_of (members c me) me ≡ m → IsReplica c me history → DeskMatchesHistory c me d history
    → DeskFitsHistory c me (answers m d) history
desk_fits c me m d history mine member_is right holds = record {
  me_is = mine;
  member_is = member_is;
  right = right;
  running = λ x is. subst (λ (y : DeskData). DeskMatchesHistory c me y history) (some_injective d x is) holds;
}

orderer_fits : (c : Configuration) (me : ℕ) (m : MemberData) (o : OrdererData) (ordering : List Entry) → m.me ≡ me → member_of (members c me) me ≡ m → members c me ≡ o.endpoint.membership → OrdererMatchesHistory c me o ordering
    → OrdererFitsHistory c me (orders m o) ordering
orderer_fits c me m o ordering mine member_is known holds = record {
  me_is = mine;
  member_is = member_is;
  members_are = λ x is. subst (λ (y : OrdererData). members c me ≡ y.endpoint.membership) (some_injective o x is) known;
  running = λ x is. subst (λ (y : OrdererData). OrdererMatchesHistory c me y ordering) (some_injective o x is) holds;
}

-- both fit the histories that they fit when joined
both_fit : (c : Configuration) (m : MemberData) (o : OrdererData) (d : DeskData) (history : List Entry) → AreOne o d → AreChanges o.received.held → o.endpoint.me ≡ m.me
    → member_of (members c m.me) m.me ≡ m → BothPartsFitHistory c (both_parts o d) history → FitBoth c m.me (orders m o) (answers m d) history
both_fit c m o d history one are mine member_is fits = (
  desk_fits c m.me m d history refl member_is (subst (λ (n : ℕ). IsReplica c n history) mine fits.right) (subst (λ (n : ℕ). DeskMatchesHistory c n d history) mine parts.0),
  orderer_fits c m.me m o (without_reads history) refl member_is (subst (λ (n : ℕ). members c n ≡ o.endpoint.membership) mine fits.members_are)
      (subst (λ (n : ℕ). OrdererMatchesHistory c n o (without_reads history)) mine parts.1),
)
  where
    parts : DeskMatchesHistory c o.endpoint.me d history × OrdererMatchesHistory c o.endpoint.me o (without_reads history)
    parts = holds_part c (both_parts o d) history one are fits.runs

-- ---- a replica that begins

pub one_new : (m : Membership) (period me : ℕ) (o : OrdererData) (d : DeskData) → IsNewOrderer m period me o → IsNewDesk m period me d → AreOne o d
one_new m period me o d new_orderer new_desk = (
  ap (λ (x : DeskData). x.me) new_desk ∙ sym (ap (λ (x : OrdererData). x.endpoint.me) new_orderer.0),
  new_orderer.2 ∙ sym (ap (λ (x : DeskData). x.period) new_desk),
)

-- They are new in each configuration that gives the replica what it knows, and this period.
pub both_new : (m : Membership) (period me : ℕ) (member : MemberData) (o : OrdererData) (d : DeskData) → 1 ≤ m.faults → m.faults ≤ 3 → period ≤ 16 → me < 3 * m.faults + 1 → member ≡ member_of m me
    → IsNewOrderer m period me o → IsNewDesk m period me d → AreChanges o.received.held
    → (e : Configuration) → members e me ≡ m → e.period ≡ period → FitBoth e member.me (orders member o) (answers member d) []
both_new m period me member o d some few short within same new_orderer new_desk are e known period_is =
    both_fit e member o d [] (one_new m period me o d new_orderer new_desk) are (ap (λ (x : OrdererData). x.endpoint.me) new_orderer.0 ∙ sym at)
    (subst (λ (n : ℕ). member_of (members e n) n ≡ member) (sym at) (ap (λ (k : Membership). member_of k me) known ∙ sym same))
    (fits_new e me (omega (arith, faults, some)) (omega (arith, faults, few)) (omega (arith, period_is, short)) (omega (arith, faults, within)) (both_parts o d)
    (subst (λ (k : Membership). IsNewOrderer k e.period me o) (sym known) (subst (λ (n : ℕ). IsNewOrderer m n me o) (sym period_is) new_orderer))
    (subst (λ (k : Membership). IsNewDesk k e.period me d) (sym known) (subst (λ (n : ℕ). IsNewDesk m n me d) (sym period_is) new_desk)))
  where
    at : member.me ≡ me
    at = ap (λ (k : MemberData). k.me) same

    faults : e.faults ≡ m.faults
    faults = ap (λ (k : Membership). k.faults) known

-- ---- an event

module _ (m n : MemberData) (o later_o : OrdererData) (d later_d : DeskData) (event : Event) (outs : List Output) (same : n ≡ m) (mine : o.endpoint.me ≡ m.me)
    (one : AreOne o d) (later_one : AreOne later_o later_d) (are : AreChanges later_o.received.held) (endpoint : later_o.endpoint ≡ o.endpoint)
    (leads : BothPartsEventLead (both_parts o d) event outs (both_parts later_o later_d)) where
  -- the joined replica fits what both fit
  fits_joined : (c : Configuration) (history : List Entry) → FitBoth c m.me (orders m o) (answers m d) history → BothPartsFitHistory c (both_parts o d) history
  fits_joined c history (fits_desk, fits_orderer) = record {
    members_are = subst (λ (k : ℕ). members c k ≡ o.endpoint.membership) (sym mine) (fits_orderer.members_are o refl);
    right = subst (λ (k : ℕ). IsReplica c k history) (sym mine) fits_desk.right;
    runs = parts_join c o d history one (subst (λ (k : ℕ). DeskMatchesHistory c k d history) (sym mine) (fits_desk.running d refl))
        (subst (λ (k : ℕ). OrdererMatchesHistory c k o (without_reads history)) (sym mine) (fits_orderer.running o refl));
  }

  lead_at : (c : Configuration) (history : List Entry) → FitBoth c m.me (orders m o) (answers m d) history
      → FitBoth c m.me (orders m later_o) (answers m later_d) (after_event m.me (input_of m.me event) outs history)
  lead_at c history fits =
      both_fit c m later_o later_d (after_event m.me (input_of m.me event) outs history) later_one are (ap (λ e. e.me) endpoint ∙ mine) fits.0.member_is
      (subst (λ (k : ℕ). BothPartsFitHistory c (both_parts later_o later_d) (after_event k (input_of k event) outs history)) mine (leads c history (fits_joined c history fits)).0)

  -- both fit this as parts of one replica
  fit_at : (c : Configuration) (me : ℕ) (history : List Entry) → FitBoth c me (orders m o) (answers n d) history → FitBoth c m.me (orders m o) (answers m d) history
  fit_at c me history fits =
      subst (λ (k : ℕ). FitBoth c k (orders m o) (answers m d) history) (sym fits.1.me_is)
      (subst (λ (k : MemberData). FitBoth c me (orders m o) (answers k d) history) same fits)

  pub both_lead : BothLead (orders m o) (answers n d) event outs (orders m later_o) (answers n later_d)
  both_lead c me history fits =
      subst (λ (k : MemberData). FitBoth c me (orders m later_o) (answers k later_d) (after_event me (input_of me event) outs history)) (sym same)
      (subst (λ (k : ℕ). FitBoth c k (orders m later_o) (answers m later_d) (after_event k (input_of k event) outs history)) fits.1.me_is
      (lead_at c history (fit_at c me history fits)))

  pub both_send : BothSendAsMeant (orders m o) (answers n d) outs
  both_send c me history fits = subst (λ (k : ℕ). AreSentAsMeant c k outs) (mine ∙ fits.1.me_is) (leads c history (fits_joined c history (fit_at c me history fits))).1

-- both step together
pub steps : (o later_o : OrdererPart) (d later_d : DeskPart) (x later_x : OrdererData) (y later_y : DeskData) (event : Event) (outs : List Output) → o.holds ≡ Some x → d.holds ≡ Some y → o.member ≡ d.member
    → IsOrdererPart o → AreOne x y → PartsReact x y event outs later_x later_y → later_o ≡ orders o.member later_x → later_d ≡ answers d.member later_y → BothLead o d event outs later_o later_d
steps o later_o d later_d x later_x y later_y event outs o_is d_is same are one r now_o now_d =
    subst (λ (p : OrdererPart). BothLead p d event outs later_o later_d) (ap (λ (h : Option OrdererData). let p : OrdererPart = record { member = o.member; holds = h } in p) (sym o_is))
    (subst (λ (q : DeskPart). BothLead (orders o.member x) q event outs later_o later_d) (ap (λ (h : Option DeskData). let q : DeskPart = record { member = d.member; holds = h } in q) (sym d_is))
    (subst (λ (p : OrdererPart). BothLead (orders o.member x) (answers d.member y) event outs p later_d) (sym now_o)
    (subst (λ (q : DeskPart). BothLead (orders o.member x) (answers d.member y) event outs (orders o.member later_x) q) (sym now_d)
    (both_lead o.member d.member x later_x y later_y event outs (sym same) (ap (λ (k : MemberData). k.me) (are x o_is)) one r.one r.changes r.endpoint r.leads))))

pub steps_send : (o : OrdererPart) (d : DeskPart) (x later_x : OrdererData) (y later_y : DeskData) (event : Event) (outs : List Output) → o.holds ≡ Some x → d.holds ≡ Some y → o.member ≡ d.member
    → IsOrdererPart o → AreOne x y → PartsReact x y event outs later_x later_y → BothSendAsMeant o d outs
steps_send o d x later_x y later_y event outs o_is d_is same are one r =
    subst (λ (p : OrdererPart). BothSendAsMeant p d outs) (ap (λ (h : Option OrdererData). let p : OrdererPart = record { member = o.member; holds = h } in p) (sym o_is))
    (subst (λ (q : DeskPart). BothSendAsMeant (orders o.member x) q outs) (ap (λ (h : Option DeskData). let q : DeskPart = record { member = d.member; holds = h } in q) (sym d_is))
    (both_send o.member d.member x later_x y later_y event outs (sym same) (ap (λ (k : MemberData). k.me) (are x o_is)) one r.one r.changes r.endpoint r.leads))

-- parts that are together have the same period of checkpoints
pub one_period : (o : OrdererPart) (d : DeskPart) (x : OrdererData) (y : DeskData) → AreTogether o d → o.holds ≡ Some x → d.holds ≡ Some y → x.received.sizes.period ≡ y.period
one_period o d x y t o_is d_is =
    ap (λ (k : OrdererData). k.received.sizes.period) (some_injective x t.orderer (sym o_is ∙ t.orders)) ∙ t.period ∙ ap (λ (k : DeskData). k.period) (some_injective t.desk y (sym t.answers ∙ d_is))

-- parts that are together are of one replica
pub together_one : (o : OrdererPart) (d : DeskPart) (x : OrdererData) (y : DeskData) → AreTogether o d → IsOrdererPart o → IsDeskPart d → o.holds ≡ Some x → d.holds ≡ Some y → AreOne x y
together_one o d x y t are_o are_d o_is d_is = (
  ap (λ (m : MemberData). m.me) (are_d y d_is ∙ sym t.member ∙ sym (are_o x o_is)),
  one_period o d x y t o_is d_is,
)

-- ---- the replica of both

pub replica_leads : (r : ReplicaData) (o : OrdererPart) (d : DeskPart) (event : Event) (outs : List Output) → d.member ≡ r.desk.member → BothLead r.orderer r.desk event outs o d → EventLeads r event outs (record { orderer = o; desk = d })
replica_leads r o d event outs same leads c history fits =
    subst (λ (m : MemberData). FitBoth c m.me o d (after_event r.desk.member.me (input_of r.desk.member.me event) outs history)) (sym same) (leads c r.desk.member.me history fits)

pub replica_sends : (r : ReplicaData) (outs : List Output) → BothSendAsMeant r.orderer r.desk outs → SendsAsMeant r outs
replica_sends r outs meant c history fits = meant c r.desk.member.me history fits

-- an event of a replica that runs
pub joined_steps : (m : MemberData) (h : Option BothPartsData) (x later : BothPartsData) (event : Event) (outs : List Output) → h ≡ Some x → IsOrdererPart (both_of m h).orderer → AreOne x.orderer x.desk
    → BothPartsEventLead x event outs later → AreOne later.orderer later.desk → AreChanges later.orderer.received.held → later.orderer.endpoint ≡ x.orderer.endpoint
    → EventLeads (both_of m h) event outs (both_of m (Some later)) × SendsAsMeant (both_of m h) outs
joined_steps m h x later event outs is own one leads later_one are endpoint =
    subst (λ (k : Option BothPartsData). EventLeads (both_of m k) event outs (both_of m (Some later)) × SendsAsMeant (both_of m k) outs) (sym is) (
      replica_leads (both_of m (Some x)) (orders m later.orderer) (answers m later.desk) event outs refl
          (both_lead m m x.orderer later.orderer x.desk later.desk event outs refl mine one later_one are endpoint leads),
      replica_sends (both_of m (Some x)) outs
          (both_send m m x.orderer later.orderer x.desk later.desk event outs refl mine one later_one are endpoint leads),
    )
  where
    mine : x.orderer.endpoint.me ≡ m.me
    mine = ap (λ (k : MemberData). k.me) (own x.orderer (ap (option_map (λ (r : BothPartsData). r.orderer)) is))

-- it is the member's still
pub still_own : (m : MemberData) (h : Option BothPartsData) (x later : BothPartsData) → h ≡ Some x → IsOrdererPart (both_of m h).orderer × IsDeskPart (both_of m h).desk → IsOneParty x later
    → IsOrdererPart (both_of m (Some later)).orderer × IsDeskPart (both_of m (Some later)).desk
still_own m h x later is own party = (
  λ o e. subst (λ (k : OrdererData). member_of k.endpoint.membership k.endpoint.me ≡ m) (some_injective later.orderer o e)
      (ap (λ (k : EndpointState). member_of k.membership k.me) party.endpoint ∙ own.0 x.orderer (ap (option_map (λ (r : BothPartsData). r.orderer)) is)),
  λ d e. subst (λ (k : DeskData). member_of k.membership k.me ≡ m) (some_injective later.desk d e)
      (ap₂ (λ (k : Membership) (n : ℕ). member_of k n) party.membership party.me ∙ own.1 x.desk (ap (option_map (λ (r : BothPartsData). r.desk)) is)),
)

-- ---- parts that are not together fit nothing

pub not_so : (b : Bool) → b ≡ false → IsTrue b → ⊥
not_so true e h = absurd cc
not_so false e h = absurd cc

pub fit_none : (o : OrdererPart) (d : DeskPart) → is_none o.holds ≡ false → is_none d.holds ≡ false → (AreTogether o d → ⊥) → (c : Configuration) (me : ℕ) (history : List Entry) → FitBoth c me o d history → ⊥
fit_none o d o_runs d_runs apart c me history (fits_desk, fits_orderer) = go o.holds d.holds refl refl o_runs d_runs
  where
    go : (a : Option OrdererData) (b : Option DeskData) → o.holds ≡ a → d.holds ≡ b → is_none a ≡ false → is_none b ≡ false → ⊥
    go None b a_is b_is h k = absurd cc
    go (Some x) None a_is b_is h k = absurd cc
    go (Some x) (Some y) a_is b_is h k = apart (record {
      member = sym fits_orderer.member_is ∙ fits_desk.member_is;
      orderer = x;
      desk = y;
      orders = a_is;
      answers = b_is;
      period = sym (fits_orderer.running x a_is).period ∙ (fits_desk.running y b_is).is_desk.period_is;
    })

-- ---- parts that stopped

stopped_desk : (c : Configuration) (me : ℕ) (d stopped : DeskPart) (history other : List Entry) → stopped.member ≡ d.member → stopped.holds ≡ None → DeskFitsHistory c me d history → IsReplica c me other
    → DeskFitsHistory c me stopped other
stopped_desk c me d stopped history other same none fits right = record {
  me_is = ap (λ (m : MemberData). m.me) same ∙ fits.me_is;
  member_is = fits.member_is ∙ sym same;
  right = right;
  running = λ x is. absurd (none-some x (sym none ∙ is));
}

stopped_orderer : (c : Configuration) (me : ℕ) (o stopped : OrdererPart) (ordering other : List Entry) → stopped.member ≡ o.member → stopped.holds ≡ None → OrdererFitsHistory c me o ordering
    → OrdererFitsHistory c me stopped other
stopped_orderer c me o stopped ordering other same none fits = record {
  me_is = ap (λ (m : MemberData). m.me) same ∙ fits.me_is;
  member_is = fits.member_is ∙ sym same;
  members_are = λ x is. absurd (none-some x (sym none ∙ is));
  running = λ x is. absurd (none-some x (sym none ∙ is));
}

-- an input of the party, without an output after it
stops_right : (c : Configuration) (me : ℕ) (event : Event) (history : List Entry) → IsReplica c me history → IsReplica c me (input_of me event ∷ history)
stops_right c me (events.Got bytes) history right = inr (refl, tt, right)
stops_right c me events.Timeout history right = inr (refl, tt, right)

pub both_stop : (o stopped_o : OrdererPart) (d stopped_d : DeskPart) (event : Event) → stopped_o.member ≡ o.member → stopped_o.holds ≡ None → stopped_d.member ≡ d.member → stopped_d.holds ≡ None
    → BothLead o d event [] stopped_o stopped_d
both_stop o stopped_o d stopped_d event same_o none_o same_d none_d c me history (fits_desk, fits_orderer) = (
  stopped_desk c me d stopped_d history (input_of me event ∷ history) same_d none_d fits_desk (stops_right c me event history fits_desk.right),
  stopped_orderer c me o stopped_o (without_reads history) (without_reads (input_of me event ∷ history)) same_o none_o fits_orderer,
)

-- a replica of which both parts have stopped, after an event
pub joined_stops : (m : MemberData) (h : Option BothPartsData) (event : Event) → EventLeads (both_of m h) event [] (both_of m None)
joined_stops m h event =
    replica_leads (both_of m h) (both_of m None).orderer (both_of m None).desk event [] refl
    (both_stop (both_of m h).orderer (both_of m None).orderer (both_of m h).desk (both_of m None).desk event refl refl refl refl)
