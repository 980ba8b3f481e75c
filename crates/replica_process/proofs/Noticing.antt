-- What a notice makes of a process.
use Rattle.std.proofs.Common.{◌≡◌, ℕ, Bool, true, false, Result, OnOk, List, [], ◌∷◌, ◌++◌, Option, map, refl, sym, ap, subst, ◌∙◌, append_assoc, append-nil}
use Rattle.std.proofs.lemmas.Result.{on_ok_weaker}
use Rattle.protocol.specs.System.Configuration.{Configuration}
use Rattle.protocol.specs.System.Trace.{Entry, party_of, is_output}
use Rattle.protocol.specs.System.Trace.Entry.{Got, Tick}
use Rattle.protocol.specs.Replica.Owed.{IsPromptReplica}
use Rattle.events.specs.Outputs.{entry_of, after_event, AreSentAsMeant}
use Rattle.events.specs.declared.output.Output.{Output}
use Rattle.party_runs.specs.Interleavings.{IsEventOf}
use Rattle.records.specs.Records.{NoticeData, came, timer_over, linked as links_told}
use Rattle.patience.specs.Moments.{Moment, linked, Ends}
use Rattle.patience.specs.PatienceView.{Fits, PatienceData, MayBegin, MayEnd}
use Rattle.patience.specs.Stands.{Stands}
use Rattle.patience.specs.declared.patience.Timer.{Timer}
use Rattle.patience.specs.declared.standing.Standing.{Standing}
use Rattle.replica_process.specs.Serving.{Serves, takes, times_out, goes_on, notes, timer_text, frames_text, TimerEnds}
use Rattle.replica_process.specs.Texts.{Holds, MayBeginTimer, TakesNotice, outputs_text}
use Rattle.replica_process.specs.declared.process.Process.{Process}
use Rattle.replica_process.specs.declared.fault.ServeFault.{ServeFault}
use Rattle.replica_process.proofs.Outputs.{texts_are_one, are_outputs, is_event}

-- right: the law of the machine
module _ {M : Type 0} (me : M → ℕ) (fits : M → Configuration → List Entry → Type 0) (right : (machine : M) (c : Configuration) (history : List Entry) → fits machine c history → IsPromptReplica c (me machine) history) (c : Configuration) (p needed : ℕ) where
  pub is_right : (history : List Entry) (past : List Moment) (process : Process M)
      → Holds me fits c p needed history past process → IsPromptReplica c p history
  is_right history past process holds =
      subst (λ q. IsPromptReplica c q history) holds.me_is (right process.machine c history holds.held)

  -- ---- one call of the machine or of the patience

  stands_so : (history : List Entry) (past : List Moment) (standing : Standing) (process : Process M)
      → Holds me fits c p needed history past process
      → ((c : Configuration) (history : List Entry) → fits process.machine c history → Stands c (me process.machine) history standing)
      → Stands c p history standing
  stands_so history past standing process holds stands =
      subst (λ q. Stands c q history standing) holds.me_is (stands c history holds.held)

  -- The machine took an input. over: the moments of the timers then.
  stepped : (input : ℕ → Entry) (history : List Entry) (past over : List Moment) (outs : List Output) (old mid : Process M)
      → Holds me fits c p needed history past old → me mid.machine ≡ me old.machine
      → mid.patience.needed ≡ old.patience.needed → Fits mid.patience over
      → ((c : Configuration) (history : List Entry) → fits old.machine c history
      → fits mid.machine c (after_event (me old.machine) (input (me old.machine)) outs history)
      × AreSentAsMeant c (me old.machine) outs)
      → Holds me fits c p needed (after_event p (input p) outs history) over mid × AreSentAsMeant c p outs
  stepped input history past over outs old mid holds same needs patient leads =
      let led = leads c history holds.held in (
        record {
          me_is = same ∙ holds.me_is;
          needed_is = needs ∙ holds.needed_is;
          held = subst (λ q. fits mid.machine c (after_event q (input q) outs history)) holds.me_is led.0;
          patient = patient;
        },
        subst (λ q. AreSentAsMeant c q outs) holds.me_is led.1,
      )

  -- The patience took note that a timer is over.
  timer_ended : (history : List Entry) (past : List Moment) (number : ℕ) (standing : Standing) (result gives : Bool) (after : PatienceData) (process : Process M)
      → result ≡ gives → Holds me fits c p needed history past process → Stands c p history standing
      → MayEnd process.patience.needed past number standing result after
      → (over : List Moment) × TimerEnds c p needed history past number gives over × Fits after over
  timer_ended history past number standing result gives after process is holds stands ended = (
    ended.0,
    record {
      standing = standing;
      stands = stands;
      ends =
          subst (λ g. Ends needed past number standing g ended.0) is
          (subst (λ n. Ends n past number standing result ended.0) holds.needed_is ended.1);
    },
    ended.2,
  )

  -- ---- an event, and the timer behind it

  module _ (input : Entry) (mine : party_of input ≡ p) (is : is_output input ≡ false) (history : List Entry) (past : List Moment) (outs : List Output) (old mid new : Process M) (meant : AreSentAsMeant c p outs) (put : mid.text.items ≡ old.text.items ++ outputs_text outs) (begun : MayBeginTimer me fits c p needed (after_event p input outs history) past mid new) where
    event_is : IsEventOf p (input ∷ map (entry_of p) outs)
    event_is =
        is_event c p input (map (entry_of p) outs) history mine is (are_outputs p outs)
        (is_right (after_event p input outs history) begun.now new begun.holds)

    text_is : new.text.items ≡ old.text.items ++ (outputs_text outs ++ timer_text begun.timer)
    text_is =
        begun.text ∙ ap (λ l. l ++ timer_text begun.timer) put
        ∙ append_assoc old.text.items (outputs_text outs) (timer_text begun.timer)

    same_text : (written : List ℕ) → (frames_text c p (map (entry_of p) outs) ++ timer_text begun.timer) ++ written
        ≡ (outputs_text outs ++ timer_text begun.timer) ++ written
    same_text written = ap (λ l. (l ++ timer_text begun.timer) ++ written) (sym (texts_are_one c p outs meant))

  -- A frame came.
  pub frame_taken : (history : List Entry) (past : List Moment) (frame : List ℕ) (outs : List Output) (old mid new : Process M)
      → AreSentAsMeant c p outs → mid.text.items ≡ old.text.items ++ outputs_text outs
      → MayBeginTimer me fits c p needed (after_event p (Got p frame) outs history) past mid new
      → TakesNotice me fits c p needed history past (came frame) old new
  frame_taken history past frame outs old mid new meant put begun = record {
    events = (Got p frame ∷ map (entry_of p) outs) ∷ [];
    now = begun.now;
    added = outputs_text outs ++ timer_text begun.timer;
    each = (event_is (Got p frame) refl refl history past outs old mid new meant put begun, tt);
    holds = begun.holds;
    text = text_is (Got p frame) refl refl history past outs old mid new meant put begun;
    leads = λ notices later written serves.
        subst (Serves c p needed history past (came frame ∷ notices) ((Got p frame ∷ map (entry_of p) outs) ∷ later))
        (same_text (Got p frame) refl refl history past outs old mid new meant put begun written)
        (takes (are_outputs p outs) begun.asks serves);
  }

  -- A timer is over, and the replica gets a timeout.
  pub timeout_taken : (history : List Entry) (past over : List Moment) (number : ℕ) (outs : List Output) (old mid new : Process M)
      → TimerEnds c p needed history past number true over
      → AreSentAsMeant c p outs → mid.text.items ≡ old.text.items ++ outputs_text outs
      → MayBeginTimer me fits c p needed (after_event p (Tick p) outs history) over mid new
      → TakesNotice me fits c p needed history past (timer_over number) old new
  timeout_taken history past over number outs old mid new timer_ends meant put begun = record {
    events = (Tick p ∷ map (entry_of p) outs) ∷ [];
    now = begun.now;
    added = outputs_text outs ++ timer_text begun.timer;
    each = (event_is (Tick p) refl refl history over outs old mid new meant put begun, tt);
    holds = begun.holds;
    text = text_is (Tick p) refl refl history over outs old mid new meant put begun;
    leads = λ notices later written serves.
        subst (Serves c p needed history past (timer_over number ∷ notices) ((Tick p ∷ map (entry_of p) outs) ∷ later))
        (same_text (Tick p) refl refl history over outs old mid new meant put begun written)
        (times_out timer_ends (are_outputs p outs) begun.asks serves);
  }

  -- A timer is over, and the replica gets none.
  pub timer_passed : (history : List Entry) (past over : List Moment) (number : ℕ) (old mid new : Process M)
      → TimerEnds c p needed history past number false over → mid.text.items ≡ old.text.items
      → MayBeginTimer me fits c p needed history over mid new
      → TakesNotice me fits c p needed history past (timer_over number) old new
  timer_passed history past over number old mid new timer_ends same begun = record {
    events = [];
    now = begun.now;
    added = timer_text begun.timer;
    each = tt;
    holds = begun.holds;
    text = begun.text ∙ ap (λ l. l ++ timer_text begun.timer) same;
    leads = λ notices later written serves. goes_on timer_ends begun.asks serves;
  }

  -- So many others are linked.
  pub links_noted : (history : List Entry) (past : List Moment) (count : ℕ) (old new : Process M)
      → Holds me fits c p needed history (linked count ∷ past) new → new.text.items ≡ old.text.items
      → TakesNotice me fits c p needed history past (links_told count) old new
  links_noted history past count old new holds same = record {
    events = [];
    now = linked count ∷ past;
    added = [];
    each = tt;
    holds = holds;
    text = same ∙ sym (append-nil old.text.items);
    leads = λ notices later written serves. notes serves;
  }

-- ---- what the functions promise

-- The notice was taken, whatever history the process holds.
abbrev pub TakesForEach : {M : Type 0} → (M → ℕ) → (M → Configuration → List Entry → Type 0) → NoticeData → Process M → Process M → Type 0
TakesForEach me fits notice old new =
    (c : Configuration) (p needed : ℕ) (history : List Entry) (past : List Moment)
    → Holds me fits c p needed history past old → TakesNotice me fits c p needed history past notice old new

-- The timer began for which the patience asks, whatever history the process holds.
abbrev pub BeginsForEach : {M : Type 0} → (M → ℕ) → (M → Configuration → List Entry → Type 0) → Process M → Process M → Type 0
BeginsForEach me fits old new =
    (c : Configuration) (p needed : ℕ) (history : List Entry) (past : List Moment)
    → Holds me fits c p needed history past old → MayBeginTimer me fits c p needed history past old new

module _ {M : Type 0} (me : M → ℕ) (fits : M → Configuration → List Entry → Type 0) (right : (machine : M) (c : Configuration) (history : List Entry) → fits machine c history → IsPromptReplica c (me machine) history) where
  -- The timer may have begun, and its record stands behind the text.
  pub timer_begun : (standing : Standing) (timer : Option Timer) (old new : Process M)
      → ((c : Configuration) (history : List Entry) → fits old.machine c history → Stands c (me old.machine) history standing)
      → ((past : List Moment) → Fits old.patience past → MayBegin past standing timer new.patience)
      → new.patience.needed ≡ old.patience.needed → new.machine ≡ old.machine
      → new.text.items ≡ old.text.items ++ timer_text timer → BeginsForEach me fits old new
  timer_begun standing timer old new stands begins needs same text c p needed history past holds =
      let begun = begins past holds.patient in record {
        timer = timer;
        now = begun.0;
        asks = record {
          standing = standing;
          stands = stands_so me fits right c p needed history past standing old holds stands;
          begins = begun.1;
        };
        holds = record {
          me_is = ap me same ∙ holds.me_is;
          needed_is = needs ∙ holds.needed_is;
          held = subst (λ m. fits m c history) (sym same) holds.held;
          patient = begun.2;
        };
        text = text;
      }

  -- A frame came, and the timer behind it may have begun.
  pub frame_came : (frame : List ℕ) (outs : List Output) (old mid new : Process M) (result : Result (Unit {0}) ServeFault)
      → me mid.machine ≡ me old.machine → mid.patience ≡ old.patience → mid.text.items ≡ old.text.items ++ outputs_text outs
      → ((c : Configuration) (history : List Entry) → fits old.machine c history
      → fits mid.machine c (after_event (me old.machine) (Got (me old.machine) frame) outs history)
      × AreSentAsMeant c (me old.machine) outs)
      → OnOk result (BeginsForEach me fits mid new) → OnOk result (TakesForEach me fits (came frame) old new)
  frame_came frame outs old mid new result same waits put leads begins =
      on_ok_weaker result (λ (begun : BeginsForEach me fits mid new) c p needed history past holds.
      let step = stepped me fits right c p needed (λ q. Got q frame) history past past outs old mid holds same (ap (λ q. q.needed) waits)
      (subst (λ q. Fits q past) (sym waits) holds.patient) leads in
      frame_taken me fits right c p needed history past frame outs old mid new step.1 put
      (begun c p needed (after_event p (Got p frame) outs history) past step.0)) begins

  -- A timer is over, the replica got a timeout, and the timer behind it may have begun.
  pub timeout_came : (number : ℕ) (gives : Bool) (standing : Standing) (outs : List Output) (old mid new : Process M) (result : Result (Unit {0}) ServeFault)
      → gives ≡ true
      → ((c : Configuration) (history : List Entry) → fits old.machine c history → Stands c (me old.machine) history standing)
      → ((past : List Moment) → Fits old.patience past → MayEnd old.patience.needed past number standing gives mid.patience)
      → mid.patience.needed ≡ old.patience.needed
      → me mid.machine ≡ me old.machine → mid.text.items ≡ old.text.items ++ outputs_text outs
      → ((c : Configuration) (history : List Entry) → fits old.machine c history
      → fits mid.machine c (after_event (me old.machine) (Tick (me old.machine)) outs history)
      × AreSentAsMeant c (me old.machine) outs)
      → OnOk result (BeginsForEach me fits mid new) → OnOk result (TakesForEach me fits (timer_over number) old new)
  timeout_came number gives standing outs old mid new result is stands ends needs same put leads begins =
      on_ok_weaker result (λ (begun : BeginsForEach me fits mid new) c p needed history past holds.
      let over = timer_ended me fits right c p needed history past number standing gives true mid.patience old is holds
      (stands_so me fits right c p needed history past standing old holds stands) (ends past holds.patient) in
      let step = stepped me fits right c p needed (λ q. Tick q) history past over.0 outs old mid holds same needs over.2 leads in
      timeout_taken me fits right c p needed history past over.0 number outs old mid new over.1 step.1 put
      (begun c p needed (after_event p (Tick p) outs history) over.0 step.0)) begins

  -- A timer is over, the replica got none, and the next timer may have begun.
  pub timer_came : (number : ℕ) (gives : Bool) (standing : Standing) (old mid new : Process M) (result : Result (Unit {0}) ServeFault)
      → gives ≡ false
      → ((c : Configuration) (history : List Entry) → fits old.machine c history → Stands c (me old.machine) history standing)
      → ((past : List Moment) → Fits old.patience past → MayEnd old.patience.needed past number standing gives mid.patience)
      → mid.patience.needed ≡ old.patience.needed → mid.machine ≡ old.machine → mid.text.items ≡ old.text.items
      → OnOk result (BeginsForEach me fits mid new) → OnOk result (TakesForEach me fits (timer_over number) old new)
  timer_came number gives standing old mid new result is stands ends needs same text begins =
      on_ok_weaker result (λ (begun : BeginsForEach me fits mid new) c p needed history past holds.
      let over = timer_ended me fits right c p needed history past number standing gives false mid.patience old is holds
      (stands_so me fits right c p needed history past standing old holds stands) (ends past holds.patient) in
      timer_passed me fits right c p needed history past over.0 number old mid new over.1 text
      (begun c p needed history over.0 (record {
        me_is = ap me same ∙ holds.me_is;
        needed_is = needs ∙ holds.needed_is;
        held = subst (λ m. fits m c history) (sym same) holds.held;
        patient = over.2;
      }))) begins

  -- So many others are linked.
  pub links_came : (count : ℕ) (old new : Process M)
      → ((past : List Moment) → Fits old.patience past → Fits new.patience (linked count ∷ past))
      → new.patience.needed ≡ old.patience.needed → new.machine ≡ old.machine → new.text.items ≡ old.text.items
      → TakesForEach me fits (links_told count) old new
  links_came count old new links needs same text c p needed history past holds =
      links_noted me fits right c p needed history past count old new
      (record {
        me_is = ap me same ∙ holds.me_is;
        needed_is = needs ∙ holds.needed_is;
        held = subst (λ m. fits m c history) (sym same) holds.held;
        patient = links past holds.patient;
      }) text
