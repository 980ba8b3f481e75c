-- Each event keeps the fit of state and history.
use Rattle.std.proofs.Common.{inr, ◌≡◌, Bool, ℕ, suc, ◌+◌, ◌-◌, true, false, List, [], ◌∷◌, Option, Some, None, refl, sym, ap, ◌∙◌, subst, arith}
use Rattle.std.specs.Prelude.{is_some, map}
use Rattle.terms.specs.declared.order.Mode.{Mode}
use Rattle.terms.specs.declared.order.Mode.TheVariants as modes
use Rattle.tuple_codec.specs.Operations.{Operation, Outcome, IsOperation}
use Rattle.protocol.specs.System.Configuration.{Configuration}
use Rattle.protocol.specs.System.Trace.{Entry}
use Rattle.protocol.specs.System.Trace.Entry.{Invoke, Got, Tick, Sent, Accepted}
use Rattle.protocol.specs.Client.RightClient.{OpenCall, open_call, MayInput, IsRequest, IsLife, first_mode, reaction}
use Rattle.protocol.specs.Client.RightClient.Reaction.{nothing, asks, accepts}
use Rattle.events.specs.declared.output.Output.{Output}
use Rattle.events.specs.Outputs.{entry_of, after_entries}
use Rattle.client_cert.specs.State.{CallState, ClientState, me_of, called, went}
use Rattle.client_cert.specs.Fits.{FitsRunningClient, FitsLife}
use Rattle.client_cert.specs.Steps.{HistoryStaysRight, CallWeighsBytes, ChangesOnlyCall, KeepsWhetherOpen, SendsRequest}
use Rattle.client_cert.proofs.Holding.{holds_invoked, holds_sent}
use Rattle.client_cert.proofs.Fitting.{gives_request, knows_still, true_not}
use Rattle.client_cert.proofs.Stepping.{fits_moved, nothing_given, request_given, answer_given, got_unasked, tick_unasked, tick_asked, stops_got, stops_tick}

-- after one output
one_output : (c : Configuration) (start : ℕ) (new : ClientState) (es : List Entry) (e : Entry) (now : List Entry) → es ≡ e ∷ [] → FitsLife c start new (e ∷ now) → FitsLife c start new (after_entries es now)
one_output c start new es e now is f = subst (λ (xs : List Entry). FitsLife c start new (after_entries xs now)) (sym is) f

pub got_none_leads : (old new : ClientState) (bytes : List ℕ) → old.stopped ≡ false → old.call ≡ None → ChangesOnlyCall old new None → HistoryStaysRight old (Got (me_of old) bytes) [] new
got_none_leads old new bytes runs is b c start history f = got_unasked c start old new history f runs bytes is b

pub got_nothing_leads : (old new : ClientState) (call more : CallState) (bytes : List ℕ) → old.stopped ≡ false → old.call ≡ Some call
    → CallWeighsBytes old.membership (me_of old) old.calls call bytes more nothing → ChangesOnlyCall old new (Some more) → HistoryStaysRight old (Got (me_of old) bytes) [] new
got_nothing_leads old new call more bytes runs is w b c start history f = nothing_given c start old new history f runs call more bytes is w b

pub got_answer_leads : (old new : ClientState) (call more : CallState) (bytes : List ℕ) (answer : Outcome) (outs : List Output) → old.stopped ≡ false → old.call ≡ Some call
    → CallWeighsBytes old.membership (me_of old) old.calls call bytes more (accepts old.calls answer) → map (entry_of (me_of old)) outs ≡ Accepted (me_of old - 256) old.calls answer ∷ []
    → ChangesOnlyCall old new None → HistoryStaysRight old (Got (me_of old) bytes) outs new
got_answer_leads old new call more bytes answer outs runs is w given b c start history f =
    one_output c start new (map (entry_of (me_of old)) outs) (Accepted (me_of old - 256) old.calls answer) (Got (me_of old) bytes ∷ history) given
    (answer_given c start old new history f runs call more bytes is answer w b)

same_call : (x y : CallState) → Some x ≡ Some y → x ≡ y
same_call x y e = cc

pub got_asks_leads : (old mid new : ClientState) (call more : CallState) (bytes : List ℕ) (outs : List Output) → old.stopped ≡ false → old.call ≡ Some call
    → CallWeighsBytes old.membership (me_of old) old.calls call bytes more (asks modes.Ordered (record { timestamp = old.calls; op = more.op }))
    → mid ≡ record old { call = Some more } → SendsRequest mid modes.Ordered outs new → HistoryStaysRight old (Got (me_of old) bytes) outs new
got_asks_leads old mid new call more bytes outs runs is w e a c start history f = go (subst (λ m. SendsRequest m modes.Ordered outs new) e a)
  where
    go : SendsRequest (record old { call = Some more }) modes.Ordered outs new → FitsLife c start new (after_entries (map (entry_of (me_of old)) outs) (Got (me_of old) bytes ∷ history))
    go x =
        let same = same_call more x.call x.was in
        one_output c start new (map (entry_of (me_of old)) outs) (Sent (me_of old) x.text) (Got (me_of old) bytes ∷ history) x.given
        (request_given c start old new history f runs call more bytes is x.text w (rw same x.asks)
        (record { number = x.becomes.number; membership = x.becomes.membership; calls = x.becomes.calls; call_is = rw same x.becomes.call_is }))

pub retry_none_leads : (old new : ClientState) → old.stopped ≡ false → old.call ≡ None → ChangesOnlyCall old new None → HistoryStaysRight old (Tick (me_of old)) [] new
retry_none_leads old new runs is b c start history f = tick_unasked c start old new history f runs is b

pub retry_leads : (old new : ClientState) (outs : List Output) → old.stopped ≡ false → SendsRequest old modes.Ordered outs new → HistoryStaysRight old (Tick (me_of old)) outs new
retry_leads old new outs runs a c start history f =
    one_output c start new (map (entry_of (me_of old)) outs) (Sent (me_of old) a.text) (Tick (me_of old) ∷ history) a.given
    (tick_asked c start old new history f runs a.call a.text a.was a.asks a.becomes)

-- ---- calls

not_open : (o : Option OpenCall) → is_some o ≡ false → o ≡ None
not_open None e = refl
not_open (Some x) e = absurd cc

may_call : (c : Configuration) (start : ℕ) (old : ClientState) (history : List Entry) (op : Operation) → FitsLife c start old history → is_some old.call ≡ false → IsOperation op
    → MayInput start history (Invoke old.number (suc old.calls) op)
may_call c start old history op f none is = (ap suc (sym f.last_is), not_open (open_call history) (f.open_is ∙ none), is)

-- a client without an open call has not stopped
pub idle_runs : (call : Option CallState) (stopped : Bool) → (stopped ≡ true → is_some call ≡ true) → is_some call ≡ false → stopped ≡ false
idle_runs call false is_open none = refl
idle_runs call true is_open none = true_not (is_some call) (is_open refl) none (true ≡ false)

pub one_more : (n : ℕ) → n + 1 ≡ suc n
one_more n = omega arith

abbrev first_call : Operation → CallState
first_call op = record { op = op; ordered = false; ordered_ballots = []; read_ballots = [] }

pub call_leads : (old mid new : ClientState) (op : Operation) (mode : Mode) (outs : List Output) → IsOperation op → is_some old.call ≡ false → old.stopped ≡ false
    → mid ≡ called (suc old.calls) op old → mode ≡ first_mode op → SendsRequest mid mode outs new → HistoryStaysRight old (Invoke old.number (suc old.calls) op) outs new
call_leads old mid new op mode outs is none runs e kind a c start history f = go (subst (λ m. SendsRequest m mode outs new) e a)
  where
    go : SendsRequest (called (suc old.calls) op old) mode outs new → FitsLife c start new (after_entries (map (entry_of (me_of old)) outs) (Invoke old.number (suc old.calls) op ∷ history))
    go x =
        let same = same_call (first_call op) x.call x.was in
        let r = x.asks c f.members_are in
        let request : IsRequest c (me_of old) mode (record { timestamp = suc old.calls; op = op }) x.text = subst (λ (k : Operation). IsRequest c (me_of old) mode (record { timestamp = suc old.calls; op = k }) x.text) (ap (λ k. k.op) (sym same)) r in
        let h = holds_sent c (me_of old) (me_of old) (suc old.calls) x.text (Invoke old.number (suc old.calls) op ∷ history) mode op (first_call op) request.says
        (holds_invoked c (me_of old) start old.number (suc old.calls) op history) in
        let gave = gives_request c (me_of old) start (reaction c (me_of old)) (Invoke old.number (suc old.calls) op) x.text mode (record { timestamp = suc old.calls; op = op }) history
        refl refl (may_call c start old history op f none is) (ap (λ b. asks b (record { timestamp = suc old.calls; op = op })) (sym kind)) request (f.running runs).gave in
        one_output c start new (map (entry_of (me_of old)) outs) (Sent (me_of old) x.text) (Invoke old.number (suc old.calls) op ∷ history) x.given
        (fits_moved c start old.number (suc old.calls) (Some (went mode (first_call op))) new (Sent (me_of old) x.text ∷ Invoke old.number (suc old.calls) op ∷ history)
        (knows_still c old new x.becomes.number x.becomes.membership f.members_are) x.becomes.number x.becomes.calls (x.becomes.call_is ∙ ap (λ k. Some (went mode k)) (sym same)) h gave)

-- a call of a client that has stopped, or stops
pub record Ends (old new : ClientState) : Type 0 where
  pub number : new.number ≡ old.number
  pub membership : new.membership ≡ old.membership
  pub calls : new.calls ≡ suc old.calls
  pub is_open : is_some new.call ≡ true
  pub stopped : new.stopped ≡ true

call_stops : (old new : ClientState) (op : Operation) → IsOperation op → is_some old.call ≡ false → Ends old new → HistoryStaysRight old (Invoke old.number (suc old.calls) op) [] new
call_stops old new op is none e c start history f =
    record {
      members_are = knows_still c old new e.number e.membership f.members_are;
      last_is = sym e.calls;
      open_is = sym e.is_open;
      right = subst (λ n. IsLife c (256 + n) start (Invoke old.number (suc old.calls) op ∷ history)) (sym e.number) (inr (refl, may_call c start old history op f none is, f.right));
      running = λ r. true_not new.stopped e.stopped r (FitsRunningClient c (me_of new) start new (Invoke old.number (suc old.calls) op ∷ history));
    }

pub call_ends : (old new : ClientState) (op : Operation) → IsOperation op → is_some old.call ≡ false → new ≡ called (suc old.calls) op (record old { stopped = true })
    → HistoryStaysRight old (Invoke old.number (suc old.calls) op) [] new
call_ends old new op is none e =
    let P : ClientState → Type 0 = λ s. HistoryStaysRight old (Invoke old.number (suc old.calls) op) [] s in
    subst P (sym e) (call_stops old (called (suc old.calls) op (record old { stopped = true })) op is none (record { number = refl; membership = refl; calls = refl; is_open = refl; stopped = refl }))

pub call_fails : (old mid last new : ClientState) (op : Operation) → IsOperation op → is_some old.call ≡ false → mid ≡ called (suc old.calls) op old → KeepsWhetherOpen mid last → new ≡ record last { stopped = true }
    → HistoryStaysRight old (Invoke old.number (suc old.calls) op) [] new
call_fails old mid last new op is none e k f =
    let P : ClientState → Type 0 = λ s. HistoryStaysRight old (Invoke old.number (suc old.calls) op) [] s in
    let g : KeepsWhetherOpen (called (suc old.calls) op old) last = subst (λ m. KeepsWhetherOpen m last) e k in
    subst P (sym f) (call_stops old (record last { stopped = true }) op is none (record { number = g.number; membership = g.membership; calls = g.calls; is_open = g.is_open; stopped = refl }))

-- ---- events at which the client stops

pub got_fails : (old mid new : ClientState) (bytes : List ℕ) → KeepsWhetherOpen old mid → new ≡ record mid { stopped = true } → HistoryStaysRight old (Got (me_of old) bytes) [] new
got_fails old mid new bytes k e =
    stops_got old new bytes
    (record { number = ap (λ s. s.number) e ∙ k.number; membership = ap (λ s. s.membership) e ∙ k.membership; calls = ap (λ s. s.calls) e ∙ k.calls; is_open = ap (λ s. is_some s.call) e ∙ k.is_open })
    (ap (λ s. s.stopped) e)

pub tick_fails : (old mid new : ClientState) → KeepsWhetherOpen old mid → new ≡ record mid { stopped = true } → HistoryStaysRight old (Tick (me_of old)) [] new
tick_fails old mid new k e =
    stops_tick old new
    (record { number = ap (λ s. s.number) e ∙ k.number; membership = ap (λ s. s.membership) e ∙ k.membership; calls = ap (λ s. s.calls) e ∙ k.calls; is_open = ap (λ s. is_some s.call) e ∙ k.is_open })
    (ap (λ s. s.stopped) e)
