-- A whole event: if nothing is left to do, the history after it fits.
use Rattle.std.proofs.Common.{◌≡◌, ℕ, suc, ◌+◌, ◌≤◌, ◌⊎◌, inl, inr, true, false, List, [], ◌∷◌, ◌++◌, reverse, map, refl, sym, ap, ◌∙◌, subst, append_assoc, arith, max}
use Rattle.std.proofs.lemmas.List.{reverse-append}
use Rattle.events.specs.declared.output.Output.{Output}
use Rattle.events.specs.Outputs.{entry_of, after_entries, after_event, AreSentAsMeant}
use Rattle.ordering.specs.Log as logs
use Rattle.ordering.specs.Log.{LogData}
use Rattle.protocol.specs.System.Configuration.{Configuration}
use Rattle.protocol.specs.System.Trace.{Entry, is_output}
use Rattle.protocol.specs.Replica.Certificates.{target}
use Rattle.frame_endpoint.specs.Endpoint.{EndpointState}
use Rattle.replica_histories.specs.Questions.{AnswersInput}
use Rattle.replica_histories.specs.Logs.{FitsLog}
use Rattle.protocol.specs.Replica.Owed.{IsReplica}
use Rattle.replica_histories.specs.Events as histories
use Rattle.replica_histories.specs.Desk.{point_of}
use Rattle.replica_histories.specs.Events.{Start, IsSettled, IsTaken, LeavesNoView, start_at}
use Rattle.replica_histories.specs.Changes.{FitsChanges}
use Rattle.replica_histories.specs.Numbers as numbers
use Rattle.replica_histories.proofs.Ending.{events_end, steps_leave}
use Rattle.replica_histories.proofs.Primaries.{no_views_are_left}
use Rattle.replica_histories.proofs.Starting.{held_are_replicas}
use Rattle.replica_histories.proofs.Questions.{others_owe_none}
use Rattle.terms.specs.declared.order.Number.{Number}
use Rattle.replica.specs.declared.taking.DueWork.{DueWork}
use Rattle.replica.specs.declared.taking.DueWork.TheVariants as due_work
use Rattle.replica.specs.State.{BothPartsData, AreOne, Gives}
use Rattle.replica.specs.Beginning.{CannotBegin}
use Rattle.replica.specs.Desks.{PartsFitEvent}
use Rattle.orderer.specs.Fitting.{given, FitsEvent, FitsWaiting, WasSent, changes_held}
use Rattle.desk.specs.Waiting.{count_unnumbered}
use Rattle.desk.specs.DeskOf.{waiting_calls, desk_of}
use Rattle.replica.specs.Going.{IsSameParty, IsOneParty, NothingIsLeft}
use Rattle.replica.specs.Numbering.{IsAllNumbered}
use Rattle.replica.specs.NumbersNext.{NumbersWaitingRequests}
use Rattle.replica.specs.FollowingUp.{FollowsUp, ExecutesAndNumbers}
use Rattle.replica.specs.declared.replica.Event.{Event}
use Rattle.replica.specs.declared.replica.Event.TheVariants as events
use Rattle.replica.specs.Inputs.{input_of}
use Rattle.replica.specs.BothParts.{BothPartsMatchHistory, BothPartsFitHistory, BothPartsStayRight, me_of}
use Rattle.replica.specs.Entering.{event_with, InputIsAnswered, IsTakenBeside, TakesInput}
use Rattle.replica.proofs.Choosing.{begins_nothing_same}
use Rattle.orderer.proofs.Flags.{flags_given}
use Rattle.replica.proofs.Parties.{gives_on, same_party, one_of_same, ones_twice}

-- ---- the outputs, on the history

behind_is : (es past : List Entry) → reverse es ++ past ≡ after_entries es past
behind_is [] past = refl
behind_is (e ∷ es) past = ap (λ (xs : List Entry). xs ++ past) (reverse-append (e ∷ []) es) ∙ append_assoc (reverse es) (e ∷ []) past ∙ behind_is es (e ∷ past)

-- ---- assigned numbers

-- the next number by the history is the next one by the log
next_free : (c : Configuration) (me used executed : ℕ) (log : LogData) (history : List Entry) → FitsLog c me log history → numbers.IsNextFree c me history used executed
    → (logs.is_in_marks log (suc (max log.low used)) ≡ true) × (suc (max log.low used) ≤ executed + 2)
next_free c me used executed log history fits next = rw (fits.span, sym fits.low) next

-- ---- settled

pub settled : (c : Configuration) (me : ℕ) (r : BothPartsData) (history : List Entry) → FitsLog c me r.orderer.log history
    → FitsWaiting c me r.orderer r.desk.waiting (desk_of c r.desk) history → NothingIsLeft r → IsAllNumbered r → IsSettled c me (desk_of c r.desk) r.orderer.log history
settled c me r history fits count rest all = record {
  prepares = λ i. (rest.0 i).0;
  commits = λ i. (rest.0 i).1;
  executes = rest.1;
  numbers = λ i call active own has free.
      flags_given c me r.orderer.log.view r.orderer.used r.desk.waiting r.desk.executed.state (waiting_calls c r.desk.waiting.requests) history (count own) (enough active own) i call has free;
}
  where
    enough : r.orderer.log.active ≡ true → logs.primary r.orderer.log r.orderer.log.view ≡ r.orderer.log.me → numbers.IsNextFree c me history r.orderer.used r.desk.executed.state.number
        → count_unnumbered r.desk.waiting ≡ 0
    enough active own next =
        let n = next_free c me r.orderer.used r.desk.executed.state.number r.orderer.log history fits next in
        all (own, n.0, n.1, active)

-- ---- the end of an event

module _ (old new : BothPartsData) (one : AreOne old.orderer old.desk) (party : IsOneParty old new) where
  pub ends : (c : Configuration) (past : List Entry) (input : Entry) (outs : List Output) (f : BothPartsFitHistory c old past) (runs : BothPartsMatchHistory c old past) → is_output input ≡ false
      → PartsFitEvent c (start_at c (me_of old) (desk_of c old.desk) old.orderer.log past runs.holds input) new.orderer new.desk [] outs → NothingIsLeft new → IsAllNumbered new
      → AnswersInput c (me_of old) past input (given (me_of old) outs) runs.holds.of_desk.point new.desk.executed.state.number → CannotBegin c new.orderer
      → (outs ≡ []) ⊎ IsTaken c (me_of old) (start_at c (me_of old) (desk_of c old.desk) old.orderer.log past runs.holds input)
      → BothPartsFitHistory c new (after_event (me_of old) input outs past) × AreSentAsMeant c (me_of old) outs
  ends c past input outs f runs is st rest all answered nothing_begins why = (
    subst (BothPartsFitHistory c new) (behind_is (map (entry_of (me_of old)) outs) (input ∷ past)) (record {
      members_are = gives_on c old.orderer new.orderer party.endpoint f.members_are;
      right = subst (λ (e : EndpointState). IsReplica c e.me now) (sym party.endpoint) (held_are_replicas c (me_of old) (desk_of c new.desk) new.orderer.log now held);
      runs = record {
        is_desk = st.is;
        holds = subst (λ (x : EndpointState). histories.BothFitBetweenEvents c x.me (desk_of c new.desk) new.orderer.log now) (sym party.endpoint) held;
        numbers = subst (λ (x : EndpointState). FitsWaiting c x.me new.orderer new.desk.waiting (desk_of c new.desk) now) (sym party.endpoint) event.numbers;
        said = subst (λ (x : EndpointState). WasSent x.me new.orderer.last_checkpoint now) (sym party.endpoint) event.said;
        changes = subst (λ (x : EndpointState). FitsChanges c x.me new.orderer.log (changes_held new.orderer) now) (sym party.endpoint) event.changes;
        all = all;
        nothing_begins = nothing_begins;
      };
    }),
    event.meant,
  )
    where
      s : Start
      s = start_at c (me_of old) (desk_of c old.desk) old.orderer.log past runs.holds input

      now : List Entry
      now = given (me_of old) outs ++ input ∷ past

      mine : new.desk.me ≡ me_of old
      mine = party.me ∙ one.0

      event : FitsEvent c (me_of old) s new.orderer (desk_of c new.desk) new.desk.waiting [] outs
      event = subst (λ (m : ℕ). FitsEvent c m s new.orderer (desk_of c new.desk) new.desk.waiting [] outs) mine st.fits

      taken_so : (outs ≡ []) ⊎ IsTaken c (me_of old) s → (given (me_of old) outs ≡ []) ⊎ IsTaken c (me_of old) s
      taken_so (inl e) = inl (ap (given (me_of old)) e)
      taken_so (inr t) = inr t

      -- no new view is left
      none_left : LeavesNoView c (me_of old) now
      none_left = no_views_are_left c (me_of old) new.orderer.log (changes_held new.orderer) now (point_of (desk_of c new.desk) event.fits.of_desk.states event.fits.of_desk.ran)
          (steps_leave c (me_of old) s (given (me_of old) outs) (point_of (desk_of c new.desk) event.fits.of_desk.states event.fits.of_desk.ran) event.fits.of_desk.leaves event.fits.of_desk.steps)
          event.fits.of_log event.changes nothing_begins

      held : histories.BothFitBetweenEvents c (me_of old) (desk_of c new.desk) new.orderer.log now
      held = events_end c (me_of old) (desk_of c old.desk) (desk_of c new.desk) old.orderer.log new.orderer.log past (given (me_of old) outs) input runs.holds event.fits
          (settled c (me_of old) new now event.fits.of_log event.numbers rest all)
          answered none_left is (taken_so why)

-- ---- by what the event touched

module _ (input : Entry) (old : BothPartsData) (one : AreOne old.orderer old.desk) (is_input : is_output input ≡ false) where
  known : (c : Configuration) (past : List Entry) (new : BothPartsData) → IsOneParty old new → BothPartsFitHistory c old past → Gives c new.orderer
  known c past new party f = gives_on c old.orderer new.orderer party.endpoint f.members_are

  -- a rule that takes it at the later replica takes it at the earlier one
  taken_then : (c : Configuration) (s : Start) (new : BothPartsData) → IsOneParty old new → IsTaken c (me_of new) s → IsTaken c (me_of old) s
  taken_then c s new party t = subst (λ (e : EndpointState). IsTaken c e.me s) party.endpoint t

  why : (c : Configuration) (s : Start) (new : BothPartsData) (outs : List Output) → IsOneParty old new → (outs ≡ []) ⊎ IsTaken c (me_of new) s → (outs ≡ []) ⊎ IsTaken c (me_of old) s
  why c s new outs party (inl e) = inl e
  why c s new outs party (inr t) = inr (taken_then c s new party t)

  -- an input that is no part, and asks for none, owes no part
  beside_answered : (c : Configuration) (me : ℕ) (s : Start) (number : ℕ) → IsTakenBeside c me s → IsTaken c me s × InputIsAnswered c me s number
  beside_answered c me s number t = (t.0, λ outputs executed above. others_owe_none c me s.before s.input outputs s.old executed t.1)

  -- an event that ends with numbers for waiting requests
  ends_numbered : (c : Configuration) (past : List Entry) (mid before new : BothPartsData) (x outs : List Output) (f : BothPartsFitHistory c old past) (runs : BothPartsMatchHistory c old past)
      → IsOneParty old mid → IsSameParty mid before → NumbersWaitingRequests before x new outs → mid.desk.executed.state.number ≤ before.desk.executed.state.number → NothingIsLeft before
      → PartsFitEvent c (event_with c old past runs input) before.orderer before.desk [] x → CannotBegin c mid.orderer
      → IsTaken c (me_of mid) (event_with c old past runs input) × InputIsAnswered c (me_of mid) (event_with c old past runs input) mid.desk.executed.state.number
      → BothPartsFitHistory c new (after_event (me_of old) input outs past) × AreSentAsMeant c (me_of old) outs
  ends_numbered c past mid before new x outs f runs first then n above rest st nothing_begins t =
      let party = ones_twice old mid before first (one_of_same mid before then) in
      let p = n.proceeds rest c (event_with c old past runs input) (known c past before party f) st in
      ends old new one (ones_twice old before new party (one_of_same before new n.party)) c past input outs f runs is_input p (n.rests rest) n.all
      (subst (λ (e : EndpointState). AnswersInput c e.me past input (given (me_of old) outs) runs.holds.of_desk.point new.desk.executed.state.number) first.endpoint
      (t.1 (given (me_of old) outs) new.desk.executed.state.number (let more = n.rises in omega (arith, above, more))))
      (begins_nothing_same c before.orderer new.orderer n.party.orderer (begins_nothing_same c mid.orderer before.orderer then.orderer nothing_begins)) (inr (taken_then c (event_with c old past runs input) mid first t.0))

  -- The event's own part, and then what follows by what it touched.
  leads_nothing : (new : BothPartsData) (outs : List Output) → TakesInput input old due_work.Nothing new outs → BothPartsStayRight old input outs new
  leads_nothing new outs t c past f =
      let runs = f.runs in
      let b = t.begins c past runs f.members_are in
      ends old new one t.party c past input outs f runs is_input b.0 b.1.0 b.1.1
      (subst (λ (e : EndpointState). AnswersInput c e.me past input (given e.me outs) runs.holds.of_desk.point new.desk.executed.state.number) t.party.endpoint b.1.2) b.2
      (why c (event_with c old past runs input) new outs t.party b.1.3)

  leads_waiting : (mid new : BothPartsData) (x outs : List Output) → TakesInput input old due_work.Waiting mid x → NumbersWaitingRequests mid x new outs → BothPartsStayRight old input outs new
  leads_waiting mid new x outs t n c past f =
      let runs = f.runs in
      let b = t.begins c past runs f.members_are in
      ends_numbered c past mid mid new x outs f runs t.party (same_party mid) n (omega arith) b.1.0 b.0 b.2 (b.1.1.0, λ outputs executed above. b.1.1.1 outputs executed)

  leads_row : (number : Number) (mid new : BothPartsData) (x outs : List Output) → TakesInput input old (due_work.Row number) mid x → FollowsUp (due_work.Row number) mid x new outs → BothPartsStayRight old input outs new
  leads_row number mid new x outs t (voted, y, g, n) c past f =
      let runs = f.runs in
      let b = t.begins c past runs f.members_are in
      let st = g.proceeds b.1.0 c (event_with c old past runs input) (known c past mid t.party f) b.0 in
      ends_numbered c past mid voted new y outs f runs t.party g.party n g.rises (g.rests b.1.0) st b.2
      (beside_answered c (me_of mid) (event_with c old past runs input) mid.desk.executed.state.number b.1.1)

  leads_state : (mid new : BothPartsData) (x outs : List Output) → TakesInput input old due_work.State mid x → ExecutesAndNumbers mid x new outs → BothPartsStayRight old input outs new
  leads_state mid new x outs t (run, y, g, n) c past f =
      let runs = f.runs in
      let b = t.begins c past runs f.members_are in
      let st = g.proceeds b.1.0 c (event_with c old past runs input) (known c past mid t.party f) b.0 in
      ends_numbered c past mid run new y outs f runs t.party g.party n g.rises (g.rests b.1.0) st b.2 (b.1.1, b.1.2)

  leads_view : (mid new : BothPartsData) (x outs : List Output) → TakesInput input old due_work.View mid x → ExecutesAndNumbers mid x new outs → BothPartsStayRight old input outs new
  leads_view mid new x outs t (run, y, g, n) c past f =
      let runs = f.runs in
      let b = t.begins c past runs f.members_are in
      let s = event_with c old past runs input in
      let first = ones_twice old mid run t.party (one_of_same mid run g.party) in
      let st = g.proceeds b.1.0 c s (known c past mid t.party f) b.0 in
      let whole = ones_twice old run new first (one_of_same run new n.party) in
      let p = n.proceeds (g.rests b.1.0) c s (known c past run first f) st in
      let there : target (histories.after_outputs s (given (me_of old) outs)) ≡ new.orderer.target =
      subst (λ (m : ℕ). target (histories.after_outputs s (given m outs)) ≡ new.orderer.target) (whole.me ∙ one.0) p.fits.changes.target in
      ends old new one whole c past input outs f runs is_input p (n.rests (g.rests b.1.0)) n.all
      (subst (λ (e : EndpointState). AnswersInput c e.me past input (given (me_of old) outs) runs.holds.of_desk.point new.desk.executed.state.number) t.party.endpoint
      (b.1.1.1 (given (me_of old) outs) new.desk.executed.state.number (there ∙ n.party.orderer.target ∙ g.party.orderer.target)))
      (begins_nothing_same c run.orderer new.orderer n.party.orderer (begins_nothing_same c mid.orderer run.orderer g.party.orderer b.2))
      (inr (taken_then c s mid t.party b.1.1.0))

  -- whatever it touched
  pub leads_on : (what : DueWork) (mid new : BothPartsData) (x outs : List Output) → TakesInput input old what mid x → FollowsUp what mid x new outs → BothPartsStayRight old input outs new
  leads_on due_work.Nothing mid new x outs t (same, still) =
      subst (λ (a : BothPartsData). BothPartsStayRight old input outs a) (sym same) (subst (λ (os : List Output). BothPartsStayRight old input os mid) (sym still) (leads_nothing mid x t))
  leads_on due_work.Waiting mid new x outs t n = leads_waiting mid new x outs t n
  leads_on (due_work.Row number) mid new x outs t u = leads_row number mid new x outs t u
  leads_on due_work.State mid new x outs t u = leads_state mid new x outs t u
  leads_on due_work.View mid new x outs t u = leads_view mid new x outs t u

-- An event has an input.
pub has_input : (me : ℕ) (event : Event) → is_output (input_of me event) ≡ false
has_input me (events.Got bytes) = refl
has_input me events.Timeout = refl
