-- Events keep the fit of state and history.
use Rattle.std.proofs.Common.{◌≡◌, ℕ, ◌+◌, inl, inr, Bool, true, false, List, [], ◌∷◌, Option, Some, None, refl, sym, ap, ◌∙◌, subst}
use Rattle.std.specs.Prelude.{is_some}
use Rattle.terms.specs.declared.order.Mode.{Mode}
use Rattle.tuple_codec.specs.Operations.{Outcome}
use Rattle.protocol.specs.System.Configuration.{Configuration, members}
use Rattle.protocol.specs.System.Trace.{Entry, party_of, is_output, either}
use Rattle.protocol.specs.System.Trace.Entry.{Got, Tick, Sent, Accepted}
use Rattle.protocol.specs.Client.RightClient.{OpenCall, open_call, Reaction, IsReaction, IsRequest, MayInput, Reacts, IsClientBy, IsLife, reaction}
use Rattle.protocol.specs.Client.RightClient.Reaction.{nothing, asks, accepts}
use Rattle.protocol.specs.Client.RightClient.IsClientOfLives.{lives}
use Rattle.client_cert.specs.State.{CallState, ClientState, me_of}
use Rattle.client_cert.specs.Fits.{FitsOpenCall, FitsWithinEvents, FitsRunningClient, FitsLife, LifeFollowsLives}

module _ (c : Configuration) (me start : ℕ) (react : List Entry → Reaction) where
  -- an input that gives nothing, or one output
  input_gives : (e : Entry) (outputs history : List Entry) → party_of e ≡ me → is_output e ≡ false → MayInput start history e → IsReaction c me (react (e ∷ history)) outputs
      → Reacts c me start react [] history → Reacts c me start react outputs (e ∷ history)
  input_gives e outputs history at input may is gave =
      (at, subst (λ b. either b (Reacts c me start react (e ∷ outputs) history) (MayInput start history e × IsReaction c me (react (e ∷ history)) outputs × Reacts c me start react [] history)) (sym input) (may, is, gave))

  pub gives_none : (e : Entry) (history : List Entry) → party_of e ≡ me → is_output e ≡ false → MayInput start history e → react (e ∷ history) ≡ nothing
      → Reacts c me start react [] history → Reacts c me start react [] (e ∷ history)
  gives_none e history at input may is gave = input_gives e [] history at input may (subst (λ r. IsReaction c me r []) (sym is) refl) gave

  pub gives_request : (e : Entry) (bytes : List ℕ) (mode : Mode) (call : OpenCall) (history : List Entry) → party_of e ≡ me → is_output e ≡ false → MayInput start history e
      → react (e ∷ history) ≡ asks mode call → IsRequest c me mode call bytes
      → Reacts c me start react [] history → Reacts c me start react [] (Sent me bytes ∷ e ∷ history)
  gives_request e bytes mode call history at input may is request gave =
      (refl, input_gives e (Sent me bytes ∷ []) history at input may (subst (λ r. IsReaction c me r (Sent me bytes ∷ [])) (sym is) (bytes, refl, request)) gave)

  pub gives_answer : (e : Entry) (k t : ℕ) (answer : Outcome) (history : List Entry) → 256 + k ≡ me → party_of e ≡ me → is_output e ≡ false → MayInput start history e
      → react (e ∷ history) ≡ accepts t answer → Reacts c me start react [] history → Reacts c me start react [] (Accepted k t answer ∷ e ∷ history)
  gives_answer e k t answer history own at input may is gave =
      (own, input_gives e (Accepted k t answer ∷ []) history at input may (subst (λ r. IsReaction c me r (Accepted k t answer ∷ [])) (sym is) (k, refl)) gave)

  right_of : (history : List Entry) → Reacts c me start react [] history → IsClientBy c me start react history
  right_of [] gave = tt
  right_of (e ∷ history) gave = inl gave

opened_is : (c : Configuration) (me t : ℕ) (history : List Entry) (call : Option CallState) → FitsOpenCall c me history t call → is_some (open_call history) ≡ is_some call
opened_is c me t history None h = ap is_some h
opened_is c me t history (Some call) h = ap is_some h.open_is

-- between events, of a client that hasn't stopped
pub fits_run : (c : Configuration) (start : ℕ) (client : ClientState) (history : List Entry) → members c (me_of client) ≡ client.membership
    → FitsWithinEvents c (me_of client) start history client.calls client.call → Reacts c (me_of client) start (reaction c (me_of client)) [] history → FitsLife c start client history
fits_run c start client history known h gave =
    record {
      members_are = known;
      last_is = h.last_is;
      open_is = opened_is c (me_of client) client.calls history client.call h.call_is;
      right = right_of c (me_of client) start (reaction c (me_of client)) history gave;
      running = λ e. record { holds = h; gave = gave };
    }

pub fits_new : (c : Configuration) (start : ℕ) (client : ClientState) → members c (me_of client) ≡ client.membership → client.calls ≡ start → client.call ≡ None → FitsLife c start client []
fits_new c start client known calls call =
    fits_run c start client [] known (record { last_is = sym calls; call_is = subst (λ o. FitsOpenCall c (me_of client) [] client.calls o) (sym call) refl }) refl

-- a client of the same number that knows the same
pub knows_still : (c : Configuration) (old new : ClientState) → new.number ≡ old.number → new.membership ≡ old.membership → members c (me_of old) ≡ old.membership → members c (me_of new) ≡ new.membership
knows_still c old new number same known = ap (λ (n : ℕ). members c (256 + n)) number ∙ known ∙ sym same

-- a client that stopped, after an input without outputs
pub record Stops (old new : ClientState) : Type 0 where
  pub number : new.number ≡ old.number
  pub membership : new.membership ≡ old.membership
  pub calls : new.calls ≡ old.calls
  pub is_open : is_some new.call ≡ is_some old.call
  pub stopped : new.stopped ≡ true

pub true_not : (b : Bool) → b ≡ true → b ≡ false → (X : Type 0) → X
true_not true e f X = absurd cc
true_not false e f X = absurd cc

module _ (c : Configuration) (start : ℕ) (old new : ClientState) (history : List Entry) (s : Stops old new) where
  stopped_right : (e : Entry) → party_of e ≡ me_of old → MayInput start history e → FitsLife c start old history → IsLife c (me_of new) start (e ∷ history)
  stopped_right e at may f =
      subst (λ n. IsLife c (256 + n) start (e ∷ history)) (sym s.number) (inr (at, may, f.right))

  pub fits_stop_got : (p : ℕ) (bytes : List ℕ) → p ≡ me_of old → FitsLife c start old history → FitsLife c start new (Got p bytes ∷ history)
  fits_stop_got p bytes at f =
      record {
        members_are = knows_still c old new s.number s.membership f.members_are;
        last_is = f.last_is ∙ sym s.calls;
        open_is = f.open_is ∙ sym s.is_open;
        right = stopped_right (Got p bytes) at tt f;
        running = λ e. true_not new.stopped s.stopped e (FitsRunningClient c (me_of new) start new (Got p bytes ∷ history));
      }

  pub fits_stop_tick : (p : ℕ) → p ≡ me_of old → FitsLife c start old history → FitsLife c start new (Tick p ∷ history)
  fits_stop_tick p at f =
      record {
        members_are = knows_still c old new s.number s.membership f.members_are;
        last_is = f.last_is ∙ sym s.calls;
        open_is = f.open_is ∙ sym s.is_open;
        right = stopped_right (Tick p) at tt f;
        running = λ e. true_not new.stopped s.stopped e (FitsRunningClient c (me_of new) start new (Tick p ∷ history));
      }

-- ---- lives

pub life_follows_lives : LifeFollowsLives
life_follows_lives c start client life earlier before above f = lives start life earlier before above f.right
