-- A whole event keeps the fit of state and history.
use Rattle.std.proofs.Common.{◌≡◌, ℕ, ◌+◌, ◌-◌, true, false, cond, ◌&&◌, ◌==◌, List, [], ◌∷◌, Option, Some, None, refl, sym, ap, ◌∙◌, subst, arith}
use Rattle.terms.specs.declared.order.Mode.{Mode}
use Rattle.terms.specs.declared.order.Mode.TheVariants as modes
use Rattle.std.specs.declared.alloc.Global.{Global}
use Rattle.tuple_codec.specs.Operations.{Outcome}
use Rattle.tuple_codec.specs.OperationView.{outcome_of}
use Rattle.tuple_codec.specs.declared.operations.Answer.{Answer}
use Rattle.std.proofs.lemmas.Bool.{eq-eqb}
use Rattle.authenticator.specs.Membership.{Membership}
use Rattle.signing.specs.AuthenticBody.{authentic}
use Rattle.protocol.specs.System.Configuration.{Configuration, members}
use Rattle.protocol.specs.System.Frames.{same_mode}
use Rattle.protocol.specs.System.Trace.{Entry}
use Rattle.protocol.specs.System.Trace.Entry.{Got, Tick, Sent, Accepted}
use Rattle.protocol.specs.Client.RightClient.{Reacts, reaction}
use Rattle.protocol.specs.Client.RightClient.Reaction.{nothing, asks, accepts}
use Rattle.client_cert.specs.declared.receiving.ReceivedReply.{ReceivedReply}
use Rattle.client_cert.specs.Receiving.{ReceivesAnswer, ReceivesVote, IsAnswerIn, reply_body}
use Rattle.client_cert.specs.State.Turn.{accepts_it}
use Rattle.client_cert.specs.State.{Ballot, CallState, ClientState, TakesReply, Turn, turn_of, ballot_of, ballots_of, held, me_of, went}
use Rattle.client_cert.specs.Fits.{FitsWithinEvents, FitsLife}
use Rattle.client_cert.specs.Asking.{AsksWith}
use Rattle.client_cert.specs.Steps.{CallWeighsBytes, ChangesOnlyCall, KeepsWhetherOpen}
use Rattle.client_cert.proofs.Holding.{holds_got, holds_noted, holds_tick, holds_closed, holds_sent, holds_accepted}
use Rattle.client_cert.proofs.Turning.{turns, reaction_is, no_reaction, no_call_reaction, tick_reaction, no_tick_reaction}
use Rattle.client_cert.proofs.Fitting.{gives_none, gives_request, gives_answer, fits_run, knows_still, Stops, fits_stop_got, fits_stop_tick}

-- ---- an open call after bytes

pub weigh_none : (m : Membership) (me t : ℕ) (call : CallState) (bytes : List ℕ) → ReceivesVote me t (authentic m me bytes) None → CallWeighsBytes m me t call bytes call nothing
weigh_none m me t call bytes receives c start history known h =
    let here : ReceivesVote me t (authentic (members c me) me bytes) None = subst (λ (x : Membership). ReceivesVote me t (authentic x me bytes) None) (sym known) receives in
    (holds_got c me me t bytes history call here h, no_reaction c me me t bytes history call here h)

-- the key of the sender's own reply
same_key : (mode : Mode) (s : ℕ) → (same_mode mode mode && (s == s)) ≡ true
same_key modes.Ordered s = eq-eqb s s refl
same_key modes.ReadOnly s = eq-eqb s s refl

taken : (call more : CallState) (mode : Mode) (sender : ℕ) (ballot : Ballot) → TakesReply call mode sender ballot more → held (ballots_of mode more) sender ≡ Some ballot
taken call more mode sender ballot takes =
    takes.at mode sender ∙ ap (λ b. cond b (Some ballot) (held (ballots_of mode call) sender)) (same_key mode sender)

pub weigh_reply : (m : Membership) (me t faults : ℕ) (call more : CallState) (bytes : List ℕ) (x : ReceivedReply) (ballot : Ballot) (turn : Turn)
    → (v : ReceivesAnswer me t (authentic m me bytes) x)
    → faults ≡ m.faults
    → ballot ≡ record { number = x.number.0; text = x.text.now }
    → TakesReply call x.mode x.sender ballot more
    → turn_of faults more x.mode x.sender ≡ turn
    → CallWeighsBytes m me t call bytes more (turns turn t more.op v.answer)
weigh_reply m me t faults call more bytes x ballot turn v size kept takes turned c start history known h =
    let here : authentic (members c me) me bytes ≡ Some (reply_body me t x v.answer) = ap (λ (k : Membership). authentic k me bytes) known ∙ v.heard_is in
    let is : ballot ≡ ballot_of (record { mode = x.mode; number = x.number.0; answer = v.answer }) =
    kept ∙ ap (λ text. let b : Ballot = record { number = x.number.0; text = text } in b) v.spelled.spelled in
    let now : FitsWithinEvents c me start (Got me bytes ∷ history) t (Some more) =
    holds_noted c me me t bytes history call more x.sender x.mode x.number.0 v.answer here (rw is at takes) h in (
      now,
      reaction_is c me me t bytes history more x.sender x.mode x.number.0 v.answer here now
          (taken call more x.mode x.sender ballot takes ∙ ap Some is)
          ∙ ap (λ z. turns z t more.op v.answer)
          (ap (λ k. turn_of k more x.mode x.sender) (ap (λ z. z.faults) known ∙ sym size)
          ∙ turned),
    )

-- the answer that its text spells is accepted
pub weigh_accepts : (m : Membership) (me t faults : ℕ) (call more : CallState) (bytes : List ℕ) (x : ReceivedReply) (ballot : Ballot)
    → (v : ReceivesAnswer me t (authentic m me bytes) x)
    → faults ≡ m.faults
    → ballot ≡ record { number = x.number.0; text = x.text.now }
    → TakesReply call x.mode x.sender ballot more
    → turn_of faults more x.mode x.sender ≡ accepts_it
    → (answer : Answer Global) → IsAnswerIn x.text.now answer
    → CallWeighsBytes m me t call bytes more (accepts t (outcome_of answer))
weigh_accepts m me t faults call more bytes x ballot v size kept takes turned answer said c start history known h =
    let w = weigh_reply m me t faults call more bytes x ballot accepts_it v size kept takes turned c start history known h in
    (w.0, w.1 ∙ ap (accepts t) (sym (said v.answer v.spelled)))

-- a history that fits the parts of the old client fits the new one
pub fits_moved : (c : Configuration) (start number t : ℕ) (call : Option CallState) (new : ClientState) (now : List Entry) → members c (me_of new) ≡ new.membership
    → new.number ≡ number → new.calls ≡ t → new.call ≡ call
    → FitsWithinEvents c (256 + number) start now t call → Reacts c (256 + number) start (reaction c (256 + number)) [] now → FitsLife c start new now
fits_moved c start number t call new now known same calls is h gave = fits_run c start new now known (rw (same, calls, is) h) (rw same gave)

module _ (c : Configuration) (start : ℕ) (old new : ClientState) (history : List Entry) (f : FitsLife c start old history) (runs : old.stopped ≡ false) where
  me : ℕ
  me = me_of old

  -- a history that fits the old client's number and timestamp fits the new one
  goes_on : (call : Option CallState) (now : List Entry) → ChangesOnlyCall old new call → FitsWithinEvents c (me_of old) start now old.calls call → Reacts c (me_of old) start (reaction c (me_of old)) [] now → FitsLife c start new now
  goes_on call now b h gave =
      fits_run c start new now (knows_still c old new b.number b.membership f.members_are)
      (rw (b.number, b.calls, b.call_is) h)
      (rw b.number gave)

  open_holds : (call : Option CallState) → old.call ≡ call → FitsWithinEvents c (me_of old) start history old.calls call
  open_holds call e = subst (λ o. FitsWithinEvents c (me_of old) start history old.calls o) e (f.running runs).holds

  module _ (call more : CallState) (bytes : List ℕ) (is : old.call ≡ Some call) where
    pub nothing_given : CallWeighsBytes old.membership (me_of old) old.calls call bytes more nothing → ChangesOnlyCall old new (Some more) → FitsLife c start new (Got (me_of old) bytes ∷ history)
    nothing_given w b =
        let x = w c start history f.members_are (open_holds (Some call) is) in
        goes_on (Some more) (Got (me_of old) bytes ∷ history) b x.0
        (gives_none c (me_of old) start (reaction c (me_of old)) (Got (me_of old) bytes) history refl refl tt x.1 (f.running runs).gave)

    pub request_given : (text : List ℕ) → CallWeighsBytes old.membership (me_of old) old.calls call bytes more (asks modes.Ordered (record { timestamp = old.calls; op = more.op }))
        → AsksWith old.membership (me_of old) modes.Ordered old.calls more.op text → ChangesOnlyCall old new (Some (went modes.Ordered more)) → FitsLife c start new (Sent (me_of old) text ∷ Got (me_of old) bytes ∷ history)
    request_given text w a b =
        let x = w c start history f.members_are (open_holds (Some call) is) in
        let r = a c f.members_are in
        goes_on (Some (went modes.Ordered more)) (Sent (me_of old) text ∷ Got (me_of old) bytes ∷ history) b
        (holds_sent c (me_of old) (me_of old) old.calls text (Got (me_of old) bytes ∷ history) modes.Ordered more.op more r.says x.0)
        (gives_request c (me_of old) start (reaction c (me_of old)) (Got (me_of old) bytes) text modes.Ordered (record { timestamp = old.calls; op = more.op }) history refl refl tt x.1 r (f.running runs).gave)

    pub answer_given : (answer : Outcome) → CallWeighsBytes old.membership (me_of old) old.calls call bytes more (accepts old.calls answer)
        → ChangesOnlyCall old new None → FitsLife c start new (Accepted (me_of old - 256) old.calls answer ∷ Got (me_of old) bytes ∷ history)
    answer_given answer w b =
        let x = w c start history f.members_are (open_holds (Some call) is) in
        goes_on None (Accepted (me_of old - 256) old.calls answer ∷ Got (me_of old) bytes ∷ history) b
        (holds_accepted c (me_of old) (me_of old - 256) old.calls answer (Got (me_of old) bytes ∷ history) (Some more) x.0)
        (gives_answer c (me_of old) start (reaction c (me_of old)) (Got (me_of old) bytes) (me_of old - 256) old.calls answer history (omega arith) refl refl tt x.1 (f.running runs).gave)

  pub got_unasked : (bytes : List ℕ) → old.call ≡ None → ChangesOnlyCall old new None → FitsLife c start new (Got (me_of old) bytes ∷ history)
  got_unasked bytes is b =
      let h = open_holds None is in
      goes_on None (Got (me_of old) bytes ∷ history) b (holds_closed c (me_of old) (me_of old) old.calls bytes history h)
      (gives_none c (me_of old) start (reaction c (me_of old)) (Got (me_of old) bytes) history refl refl tt (no_call_reaction c (me_of old) (me_of old) old.calls bytes history h) (f.running runs).gave)

  pub tick_unasked : old.call ≡ None → ChangesOnlyCall old new None → FitsLife c start new (Tick (me_of old) ∷ history)
  tick_unasked is b =
      let h = open_holds None is in
      goes_on None (Tick (me_of old) ∷ history) b (holds_tick c (me_of old) (me_of old) old.calls history None h)
      (gives_none c (me_of old) start (reaction c (me_of old)) (Tick (me_of old)) history refl refl tt (no_tick_reaction c (me_of old) (me_of old) old.calls history h) (f.running runs).gave)

  pub tick_asked : (call : CallState) (text : List ℕ) → old.call ≡ Some call → AsksWith old.membership (me_of old) modes.Ordered old.calls call.op text
      → ChangesOnlyCall old new (Some (went modes.Ordered call)) → FitsLife c start new (Sent (me_of old) text ∷ Tick (me_of old) ∷ history)
  tick_asked call text is a b =
      let h = open_holds (Some call) is in
      let r = a c f.members_are in
      goes_on (Some (went modes.Ordered call)) (Sent (me_of old) text ∷ Tick (me_of old) ∷ history) b
      (holds_sent c (me_of old) (me_of old) old.calls text (Tick (me_of old) ∷ history) modes.Ordered call.op call r.says (holds_tick c (me_of old) (me_of old) old.calls history (Some call) h))
      (gives_request c (me_of old) start (reaction c (me_of old)) (Tick (me_of old)) text modes.Ordered (record { timestamp = old.calls; op = call.op }) history refl refl tt (tick_reaction c (me_of old) (me_of old) old.calls history call h) r (f.running runs).gave)

-- an event of a client that stops, or had stopped
stops_of : (old new : ClientState) → KeepsWhetherOpen old new → new.stopped ≡ true → Stops old new
stops_of old new k s = record { number = k.number; membership = k.membership; calls = k.calls; is_open = k.is_open; stopped = s }

pub stops_got : (old new : ClientState) (bytes : List ℕ) → KeepsWhetherOpen old new → new.stopped ≡ true → (c : Configuration) (start : ℕ) (history : List Entry) → FitsLife c start old history → FitsLife c start new (Got (me_of old) bytes ∷ history)
stops_got old new bytes k s c start history f = fits_stop_got c start old new history (stops_of old new k s) (me_of old) bytes refl f

pub stops_tick : (old new : ClientState) → KeepsWhetherOpen old new → new.stopped ≡ true → (c : Configuration) (start : ℕ) (history : List Entry) → FitsLife c start old history → FitsLife c start new (Tick (me_of old) ∷ history)
stops_tick old new k s c start history f = fits_stop_tick c start old new history (stops_of old new k s) (me_of old) refl f
