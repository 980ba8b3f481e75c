-- A client's steps, each of which is one of a course.
use Rattle.std.proofs.Common.{◌≡◌, ℕ, ◌+◌, true, false, List, [], ◌∷◌, ◌++◌, map, None, Some, Result, Ok, Err, OnOk, refl, sym, ap, subst, ◌∙◌, append_assoc, append-nil}
use Rattle.terms.specs.Parties.{client_number}
use Rattle.tuple_codec.specs.Operations.{Operation, Outcome}
use Rattle.tuple_text.specs.Lines.{IsSkipped}
use Rattle.tuple_text.specs.declared.faults.LineFault.{LineFault}
use Rattle.protocol.specs.System.Configuration.{Configuration}
use Rattle.protocol.specs.System.Trace.{Entry, is_output}
use Rattle.protocol.specs.System.Trace.Entry.{Invoke, Got, Tick}
use Rattle.events.specs.declared.output.Output.{Output}
use Rattle.events.specs.Outputs.{entry_of, after_event, AreSentAsMeant}
use Rattle.party_runs.specs.Interleavings.{IsEventOf}
use Rattle.records.specs.Records.{NoticeData, came, timer_over, linked}
use Rattle.one_space.specs.Run.{result_line}
use Rattle.client_process.specs.Clients.{IsPromptLife}
use Rattle.client_process.specs.Timers.{first_timer, next_timer}
use Rattle.client_process.specs.Serving.{idle, waits, Ending, Serves, skips, refuses, calls, takes, accepts, retries, is_late, notes, frames_text, timer_text, refused_line}
use Rattle.client_process.specs.Texts.{outputs_text, accepted_of, Holds, Advances, TakesNotice, BeginsCall, BeginsTimer, Refuses}
use Rattle.client_process.specs.declared.timer.Timer.{Timer}
use Rattle.client_process.specs.declared.process.Process.{Process}
use Rattle.client_process.proofs.Outputs.{texts_are_one, answers_are_one, is_event}

-- The timer that begins leaves the result lines as they were.
pub told_kept : {C E : Type 0} (result : Result (Unit {0}) E) (timer : Timer) (old new : Process C) → OnOk result (BeginsTimer timer old new)
    → OnOk result (new.told.items ≡ old.told.items)
told_kept (Ok done) timer old new begins = begins.told_is
told_kept (Err fault) timer old new begins = tt

module _ {C : Type 0} (me : C → ℕ) (fits : C → Configuration → ℕ → List Entry → Type 0) (is_right : (client : C) (c : Configuration) (start : ℕ) (history : List Entry) → fits client c start history → IsPromptLife c (me client) start history) where
  -- what a step of the client says of the histories that fit
  abbrev pub LeadsBy : C → Entry → List Output → C → Type 0
  LeadsBy old input outs new =
      (c : Configuration) (start : ℕ) (history : List Entry) → fits old c start history
      → fits new c start (after_event (me old) input outs history) × AreSentAsMeant c (me old) outs

  -- The step is an event of the client, which holds the longer history.
  module _ (c : Configuration) (start : ℕ) (history : List Entry) (old new : C) (input : Entry) (outs : List Output) (same : me new ≡ me old) (kind : is_output input ≡ false)
      (after : fits new c start (after_event (me old) input outs history)) (meant : AreSentAsMeant c (me old) outs) where
    pub step_holds : Holds me fits c start (me old) (after_event (me old) input outs history) new
    step_holds = record { me_is = same; held = after }

    pub step_is_event : IsEventOf (me old) (input ∷ map (entry_of (me old)) outs)
    step_is_event =
        is_event c (me old) start input outs history kind
        (subst (λ p. IsPromptLife c p start (after_event (me old) input outs history)) same (is_right new c start (after_event (me old) input outs history) after))

    pub step_text : (before text : List ℕ) → text ≡ before ++ outputs_text outs → text ≡ before ++ frames_text c (me old) (map (entry_of (me old)) outs)
    step_text before text e = e ∙ ap (λ l. before ++ l) (texts_are_one c (me old) outs meant)

  -- ---- frames

  -- A frame came, and no answer was accepted.
  pub frame_taken : (old new : Process C) (frame : List ℕ) (outs : List Output) → me new.client ≡ me old.client
      → LeadsBy old.client (Got (me old.client) frame) outs new.client
      → new.text.items ≡ old.text.items ++ outputs_text outs → new.told.items ≡ old.told.items → new.timer ≡ old.timer → None ≡ accepted_of outs
      → TakesNotice me fits (came frame) false old new
  frame_taken old new frame outs same leads text told timer none c start p n history holds =
      let go : Advances me fits c start (me old.client) history (waits old.timer) (waits new.timer) n n [] (came frame ∷ []) old new =
      let by = leads c start history holds.held in
      record {
        events = (Got (me old.client) frame ∷ map (entry_of (me old.client)) outs) ∷ [];
        sent = frames_text c (me old.client) (map (entry_of (me old.client)) outs);
        told = [];
        each = (step_is_event c start history old.client new.client (Got (me old.client) frame) outs same refl by.0 by.1, tt);
        holds = step_holds c start history old.client new.client (Got (me old.client) frame) outs same refl by.0 by.1;
        sends = step_text c start history old.client new.client (Got (me old.client) frame) outs same refl by.0 by.1 old.text.items new.text.items text;
        tells = told ∙ sym (append-nil old.told.items);
        leads = λ lines notices later sent_later told_later ending serves.
            takes (answers_are_one (me old.client) outs ∙ sym none)
            (subst (λ t. Serves c (me old.client) (waits t) n lines notices later sent_later told_later ending) timer serves);
      } in
      subst (λ q. Advances me fits c start q history (waits old.timer) (waits new.timer) n n [] (came frame ∷ []) old new) holds.me_is go

  -- A frame came, and this answer was accepted.
  pub frame_accepted : (old new : Process C) (frame : List ℕ) (outs : List Output) (answer : Outcome) → me new.client ≡ me old.client
      → LeadsBy old.client (Got (me old.client) frame) outs new.client
      → new.text.items ≡ old.text.items ++ outputs_text outs → new.told.items ≡ old.told.items ++ result_line answer → new.timer ≡ old.timer
      → Some answer ≡ accepted_of outs → TakesNotice me fits (came frame) true old new
  frame_accepted old new frame outs answer same leads text told timer some c start p n history holds =
      let go : Advances me fits c start (me old.client) history (waits old.timer) (idle new.timer.number) n n [] (came frame ∷ []) old new =
      let by = leads c start history holds.held in
      record {
        events = (Got (me old.client) frame ∷ map (entry_of (me old.client)) outs) ∷ [];
        sent = frames_text c (me old.client) (map (entry_of (me old.client)) outs);
        told = result_line answer;
        each = (step_is_event c start history old.client new.client (Got (me old.client) frame) outs same refl by.0 by.1, tt);
        holds = step_holds c start history old.client new.client (Got (me old.client) frame) outs same refl by.0 by.1;
        sends = step_text c start history old.client new.client (Got (me old.client) frame) outs same refl by.0 by.1 old.text.items new.text.items text;
        tells = told;
        leads = λ lines notices later sent_later told_later ending serves.
            accepts (answers_are_one (me old.client) outs ∙ sym some)
            (subst (λ t. Serves c (me old.client) (idle t) n lines notices later sent_later told_later ending) (ap (λ t. t.number) timer) serves);
      } in
      subst (λ q. Advances me fits c start q history (waits old.timer) (idle new.timer.number) n n [] (came frame ∷ []) old new) holds.me_is go

  -- ---- timers

  -- the text of a step and of the timer that begins behind it
  two_texts : (before middle after more timer : List ℕ) → middle ≡ before ++ more → after ≡ middle ++ timer → after ≡ before ++ (more ++ timer)
  two_texts before middle after more timer e f = f ∙ ap (λ l. l ++ timer) e ∙ append_assoc before more timer

  -- The call's timer is over, and the next one begins.
  pub timer_taken : (old middle new : Process C) (outs : List Output) → me middle.client ≡ me old.client
      → LeadsBy old.client (Tick (me old.client)) outs middle.client
      → middle.text.items ≡ old.text.items ++ outputs_text outs → middle.told.items ≡ old.told.items → BeginsTimer (next_timer old.timer) middle new
      → TakesNotice me fits (timer_over old.timer.number) false old new
  timer_taken old middle new outs same leads text told begins c start p n history holds =
      let client : new.client ≡ middle.client = begins.client_is in
      let same_new : me new.client ≡ me old.client = ap me client ∙ same in
      let go : Advances me fits c start (me old.client) history (waits old.timer) (waits new.timer) n n [] (timer_over old.timer.number ∷ []) old new =
      let by = leads c start history holds.held in
      let fit : fits new.client c start (after_event (me old.client) (Tick (me old.client)) outs history) =
      subst (λ x. fits x c start (after_event (me old.client) (Tick (me old.client)) outs history)) (sym client) by.0 in
      record {
        events = (Tick (me old.client) ∷ map (entry_of (me old.client)) outs) ∷ [];
        sent = frames_text c (me old.client) (map (entry_of (me old.client)) outs) ++ timer_text (next_timer old.timer);
        told = [];
        each = (step_is_event c start history old.client new.client (Tick (me old.client)) outs same_new refl fit by.1, tt);
        holds = step_holds c start history old.client new.client (Tick (me old.client)) outs same_new refl fit by.1;
        sends =
            two_texts old.text.items middle.text.items new.text.items (frames_text c (me old.client) (map (entry_of (me old.client)) outs)) (timer_text (next_timer old.timer))
            (step_text c start history old.client new.client (Tick (me old.client)) outs same_new refl fit by.1 old.text.items middle.text.items text) begins.text_is;
        tells = begins.told_is ∙ told ∙ sym (append-nil old.told.items);
        leads = λ lines notices later sent_later told_later ending serves.
            retries
            (subst (λ t. Serves c (me old.client) (waits t) n lines notices later sent_later told_later ending) begins.timer_is serves);
      } in
      subst (λ q. Advances me fits c start q history (waits old.timer) (waits new.timer) n n [] (timer_over old.timer.number ∷ []) old new) holds.me_is go

  -- It begins, unless memory ran out. timer: the one that begins.
  pub timer_taken_on : {E : Type 0} (result : Result (Unit {0}) E) (timer : Timer) (number : ℕ) (old middle new : Process C) (outs : List Output) → timer ≡ next_timer old.timer → number ≡ old.timer.number
      → me middle.client ≡ me old.client → LeadsBy old.client (Tick (me old.client)) outs middle.client
      → middle.text.items ≡ old.text.items ++ outputs_text outs → middle.told.items ≡ old.told.items → OnOk result (BeginsTimer timer middle new)
      → OnOk result (TakesNotice me fits (timer_over number) false old new)
  timer_taken_on (Ok done) timer number old middle new outs is now same leads text told begins =
      subst (λ k. TakesNotice me fits (timer_over k) false old new) (sym now)
      (timer_taken old middle new outs same leads text told (subst (λ t. BeginsTimer t middle new) is begins))
  timer_taken_on (Err fault) timer number old middle new outs is now same leads text told begins = tt

  -- nothing comes of a notice
  unmoved : (old : Process C) (notice : NoticeData)
      → ((c : Configuration) (p n : ℕ) (history : List Entry) (lines : List (List ℕ)) (notices : List NoticeData) (later : List (List Entry)) (sent_later told_later : List ℕ) (ending : Ending)
      → Serves c p (waits old.timer) n lines notices later sent_later told_later ending
      → Serves c p (waits old.timer) n lines (notice ∷ notices) later sent_later told_later ending)
      → TakesNotice me fits notice false old old
  unmoved old notice step c start p n history holds = record {
    events = [];
    sent = [];
    told = [];
    each = tt;
    holds = holds;
    sends = sym (append-nil old.text.items);
    tells = sym (append-nil old.told.items);
    leads = step c p n history;
  }

  -- Another timer is over.
  pub late_taken : (old : Process C) (number : ℕ) → (number ≡ old.timer.number → ⊥) → TakesNotice me fits (timer_over number) false old old
  late_taken old number other = unmoved old (timer_over number) (λ c p n history lines notices later sent_later told_later ending serves. is_late other serves)

  -- Links changed.
  pub links_taken : (old : Process C) (count : ℕ) → TakesNotice me fits (linked count) false old old
  links_taken old count = unmoved old (linked count) (λ c p n history lines notices later sent_later told_later ending serves. notes serves)

  -- ---- lines

  -- The call of a line's operation began.
  pub call_begun : (old middle new : Process C) (op : Operation) (outs : List Output) → me middle.client ≡ me old.client
      → ((c : Configuration) (start : ℕ) (history : List Entry) → fits old.client c start history
      → (timestamp : ℕ) × fits middle.client c start (after_event (me old.client) (Invoke (client_number (me old.client)) timestamp op) outs history)
      × AreSentAsMeant c (me old.client) outs)
      → middle.text.items ≡ old.text.items ++ outputs_text outs → middle.told.items ≡ old.told.items → BeginsTimer (first_timer old.timer.number) middle new
      → BeginsCall me fits op old new
  call_begun old middle new op outs same leads text told begins c start p n history l is_line holds =
      let client : new.client ≡ middle.client = begins.client_is in
      let same_new : me new.client ≡ me old.client = ap me client ∙ same in
      let go : Advances me fits c start (me old.client) history (idle old.timer.number) (waits new.timer) n (n + 1) (l ∷ []) [] old new =
      let by = leads c start history holds.held in
      let input : Entry = Invoke (client_number (me old.client)) by.0 op in
      let fit : fits new.client c start (after_event (me old.client) input outs history) =
      subst (λ x. fits x c start (after_event (me old.client) input outs history)) (sym client) by.1 in
      record {
        events = (input ∷ map (entry_of (me old.client)) outs) ∷ [];
        sent = frames_text c (me old.client) (map (entry_of (me old.client)) outs) ++ timer_text (first_timer old.timer.number);
        told = [];
        each = (step_is_event c start history old.client new.client input outs same_new refl fit by.2, tt);
        holds = step_holds c start history old.client new.client input outs same_new refl fit by.2;
        sends =
            two_texts old.text.items middle.text.items new.text.items (frames_text c (me old.client) (map (entry_of (me old.client)) outs)) (timer_text (first_timer old.timer.number))
            (step_text c start history old.client new.client input outs same_new refl fit by.2 old.text.items middle.text.items text) begins.text_is;
        tells = begins.told_is ∙ told ∙ sym (append-nil old.told.items);
        leads = λ lines notices later sent_later told_later ending serves.
            calls is_line
            (subst (λ t. Serves c (me old.client) (waits t) (n + 1) lines notices later sent_later told_later ending) begins.timer_is serves);
      } in
      subst (λ q. Advances me fits c start q history (idle old.timer.number) (waits new.timer) n (n + 1) (l ∷ []) [] old new) holds.me_is go

  -- It began, unless memory ran out. timer: the one that begins.
  pub call_begun_on : {E : Type 0} (result : Result (Unit {0}) E) (timer : Timer) (old middle new : Process C) (op : Operation) (outs : List Output) → timer ≡ first_timer old.timer.number
      → me middle.client ≡ me old.client
      → ((c : Configuration) (start : ℕ) (history : List Entry) → fits old.client c start history
      → (timestamp : ℕ) × fits middle.client c start (after_event (me old.client) (Invoke (client_number (me old.client)) timestamp op) outs history)
      × AreSentAsMeant c (me old.client) outs)
      → middle.text.items ≡ old.text.items ++ outputs_text outs → middle.told.items ≡ old.told.items → OnOk result (BeginsTimer timer middle new)
      → OnOk result (BeginsCall me fits op old new)
  call_begun_on (Ok done) timer old middle new op outs is same leads text told begins =
      call_begun old middle new op outs same leads text told (subst (λ t. BeginsTimer t middle new) is begins)
  call_begun_on (Err fault) timer old middle new op outs is same leads text told begins = tt

  -- A line was refused, and told as such.
  pub line_refused : (old new : Process C) (fault : LineFault) (l : List ℕ) → Refuses fault l → new.client ≡ old.client → new.timer ≡ old.timer → new.text.items ≡ old.text.items
      → (n : ℕ) → new.told.items ≡ old.told.items ++ refused_line n fault
      → (c : Configuration) (start p : ℕ) (history : List Entry) → Holds me fits c start p history old.client
      → Advances me fits c start p history (idle old.timer.number) (idle new.timer.number) n (n + 1) (l ∷ []) [] old new
  line_refused old new fault l refused client timer text n told c start p history holds = record {
    events = [];
    sent = [];
    told = refused_line n fault;
    each = tt;
    holds = subst (λ x. Holds me fits c start p history x) (sym client) holds;
    sends = text ∙ sym (append-nil old.text.items);
    tells = told;
    leads = λ lines notices later sent_later told_later ending serves.
        refuses refused.0 refused.1
        (subst (λ t. Serves c p (idle t) (n + 1) lines notices later sent_later told_later ending) (ap (λ t. t.number) timer) serves);
  }

  -- A line was skipped.
  pub line_skipped : (old new : Process C) (l : List ℕ) → IsSkipped l → new.client ≡ old.client → new.timer ≡ old.timer → new.text.items ≡ old.text.items
      → new.told.items ≡ old.told.items → (c : Configuration) (start p n : ℕ) (history : List Entry) → Holds me fits c start p history old.client
      → Advances me fits c start p history (idle old.timer.number) (idle new.timer.number) n (n + 1) (l ∷ []) [] old new
  line_skipped old new l skipped client timer text told c start p n history holds = record {
    events = [];
    sent = [];
    told = [];
    each = tt;
    holds = subst (λ x. Holds me fits c start p history x) (sym client) holds;
    sends = text ∙ sym (append-nil old.text.items);
    tells = told ∙ sym (append-nil old.told.items);
    leads = λ lines notices later sent_later told_later ending serves.
        skips skipped
        (subst (λ t. Serves c p (idle t) (n + 1) lines notices later sent_later told_later ending) (ap (λ t. t.number) timer) serves);
  }
