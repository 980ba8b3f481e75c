-- Clients and their histories, after an event.
use Rattle.std.proofs.Common.{◌≡◌, ℕ, suc, ◌+◌, ◌≤◌, ◌^◌, Bool, true, false, ◌||◌, List, [], ◌∷◌, map, refl, sym, ap, ◌∙◌, subst, arith, nat_le}
use Rattle.std.specs.Prelude.{is_some}
use Rattle.std.proofs.lemmas.Bool.{leb-true, true≢false}
use Rattle.tuple_codec.specs.Operations.{Operation}
use Rattle.protocol.specs.System.Configuration.{Configuration}
use Rattle.protocol.specs.System.Trace.{Entry}
use Rattle.protocol.specs.System.Trace.Entry.{Invoke}
use Rattle.protocol.specs.Client.RightClient.{IsClient, IsPromptClient, last_call, open_call}
use Rattle.events.specs.Outputs.{after_entries, entry_of}
use Rattle.events.specs.declared.output.Output.{Output}
use Rattle.events.specs.declared.output.Output.TheVariants as outputs
use Rattle.journal.specs.Histories.{IsRight}
use Rattle.journal.specs.Parts.{Part, longer_part}
use Rattle.client_cert.specs.State.{ClientState, IsSpent}
use Rattle.client_cert.specs.Fits.{Fits}
use Rattle.client_cert.specs.Steps.{HistoryStaysRight}
use Rattle.tuple_codec.specs.OperationView.{outcome_of}
use Rattle.space_node.specs.Calls.{AcceptNothing, CallBegins, HandleTakesTurn, IsQuiet, MakesTurn, IsTurnOf}
use Rattle.space_node.specs.declared.turn.Turn.{Turn}
use Rattle.space_node.specs.declared.turn.Turn.TheVariants as turns
use Rattle.space_node.specs.declared.input.Input.{Input}
use Rattle.space_node.specs.declared.input.Input.TheVariants as inputs
use Rattle.space_node.specs.PartyStates.{ClientLeads, IsInputOf, PartyState, HandleFitsShare, input_of}
use Rattle.space_node.proofs.Calling.{begins, ends, goes_on}
use Rattle.space_node.proofs.Events.{right_client}
use Rattle.space_node.proofs.Turning.{call_waits, event_turns}

-- ---- inputs and outputs

pub quiet_input : (p : ℕ) (input : Input) → IsQuiet (input_of p input)
quiet_input p (inputs.Got bytes from) = tt
quiet_input p inputs.Tick = tt

pub is_input : (p : ℕ) (input : Input) → IsInputOf p (input_of p input)
is_input p (inputs.Got bytes from) = (refl, refl)
is_input p inputs.Tick = (refl, refl)

last_input : (p : ℕ) (input : Input) (past : List Entry) → last_call (input_of p input ∷ past) ≡ last_call past
last_input p (inputs.Got bytes from) past = refl
last_input p inputs.Tick past = refl

last_output : (p : ℕ) (output : Output) (past : List Entry) → last_call (entry_of p output ∷ past) ≡ last_call past
last_output p (outputs.Executed number batch) past = refl
last_output p _ past = refl

last_outputs : (p : ℕ) (outs : List Output) (past : List Entry) → last_call (after_entries (map (entry_of p) outs) past) ≡ last_call past
last_outputs p [] past = refl
last_outputs p (output ∷ outs) past = last_outputs p outs (entry_of p output ∷ past) ∙ last_output p output past

-- ---- a client that stops, and its share

pub client_stops : (c : Configuration) (id calls : ℕ) (client later : ClientState) (share kept : Part) (was : Bool) → HandleFitsShare c id client calls was share → later.number ≡ client.number
    → kept ≡ share → HandleFitsShare c id later calls true kept
client_stops c id calls client later share kept was states same is =
    let state : HandleFitsShare c id later calls true share = record {
      party_is = states.party_is;
      no_replica = states.no_replica;
      calls_are = states.calls_are;
      number_is = same ∙ states.number_is;
      runs = λ off. absurd cc;
      fits = λ off. absurd cc;
      prompt = states.prompt;
    } in
    subst (HandleFitsShare c id later calls true) (sym is) state

-- ---- a client that did not stop, and its share

-- no call of the client is open if its history has none open
pub never_busy : (c : Configuration) (id calls : ℕ) (client : ClientState) (share : Part) → HandleFitsShare c id client calls false share → is_some (open_call share.history) ≡ false → is_some client.call ≡ true → ⊥
never_busy c id calls client share states none busy = true≢false (sym busy ∙ sym (states.fits refl).open_is ∙ none)

-- the client made all calls if its history has as many as there may be
pub spent_calls : (c : Configuration) (id calls : ℕ) (client : ClientState) (share : Part) → HandleFitsShare c id client calls false share → IsSpent client → 2 ^ 62 ≤ last_call share.history
spent_calls c id calls client share states spent =
    let late : nat_le (2 ^ 62) client.calls ≡ true = subst (λ (b : Bool). (b || nat_le (2 ^ 62) client.calls) ≡ true) (states.runs refl) spent.1 in
    let l = leb-true (2 ^ 62) client.calls late in
    let same = (states.fits refl).last_is in
    omega (arith, l, same)

module _ (c : Configuration) (id calls : ℕ) (client later : ClientState) (share : Part) (states : HandleFitsShare c id client calls false share) (same : later.number ≡ client.number) where
  fits : Fits c client share.history
  fits = states.fits refl

  pub client_right : (es : List Entry) → Fits c later (after_entries es share.history) → IsRight c share.party (after_entries es share.history)
  client_right es after =
      right_client c share.party (after_entries es share.history) states.no_replica
      (subst (λ (p : ℕ). IsClient c p (after_entries es share.history)) (ap (λ (k : ℕ). 256 + k) (same ∙ states.number_is) ∙ sym states.party_is) after.right)

  prompt_after : (es : List Entry) → Fits c later (after_entries es share.history) → later.stopped ≡ false → IsPromptClient c (256 + id) (after_entries es share.history)
  prompt_after es after on =
      subst (λ (p : ℕ). IsPromptClient c p (after_entries es share.history)) (ap (λ (k : ℕ). 256 + k) (same ∙ states.number_is)) (after.running on).gave

  pub client_after : (es : List Entry) (timestamp : ℕ) → last_call (after_entries es share.history) ≡ timestamp → Fits c later (after_entries es share.history) → later.stopped ≡ false → HandleFitsShare c id later timestamp false (longer_part share es)
  client_after es timestamp last after on = record {
    party_is = states.party_is;
    no_replica = states.no_replica;
    calls_are = last;
    number_is = same ∙ states.number_is;
    runs = λ _. on;
    fits = λ _. after;
    prompt = subst (λ (p : ℕ). IsPromptClient c p (after_entries es share.history)) (ap (λ (k : ℕ). 256 + k) (same ∙ states.number_is) ∙ sym states.party_is) (after.running on).gave;
  }

  -- ---- a call

  module _ (timestamp : ℕ) (op : Operation) (outs : List Output) (es : List Entry) (next : timestamp ≡ calls + 1)
      (are : es ≡ Invoke id timestamp op ∷ map (entry_of (256 + id)) outs) where
    pub fits_invoke : HistoryStaysRight client (Invoke client.number (suc client.calls) op) outs later → Fits c later (after_entries es share.history)
    fits_invoke leads =
        let when : suc client.calls ≡ timestamp = omega (arith, fits.last_is, states.calls_are, next) in
        subst (λ (xs : List Entry). Fits c later (after_entries xs share.history)) (sym are)
        (subst (λ (k : ℕ). Fits c later (after_entries (Invoke k timestamp op ∷ map (entry_of (256 + k)) outs) share.history)) states.number_is
        (subst (λ (t : ℕ). Fits c later (after_entries (Invoke client.number t op ∷ map (entry_of (256 + client.number)) outs) share.history)) when
        (leads c 0 share.history fits)))

    pub waits : Fits c later (after_entries es share.history) → later.stopped ≡ false → AcceptNothing outs
    waits after on =
        call_waits c (256 + id) id timestamp op outs share.history
        (subst (λ (xs : List Entry). IsPromptClient c (256 + id) (after_entries xs share.history)) are (prompt_after es after on))

    pub last_invoke : last_call (after_entries es share.history) ≡ timestamp
    last_invoke =
        ap (λ (xs : List Entry). last_call (after_entries xs share.history)) are ∙ last_outputs (256 + id) outs (Invoke id timestamp op ∷ share.history)

  -- ---- an input

  module _ (input : Input) (outs : List Output) (es : List Entry) (are : es ≡ input_of (256 + id) input ∷ map (entry_of (256 + id)) outs) where
    pub fits_input : ClientLeads client input outs later → Fits c later (after_entries es share.history)
    fits_input leads =
        subst (λ (xs : List Entry). Fits c later (after_entries xs share.history)) (sym are)
        (subst (λ (k : ℕ). Fits c later (after_entries (input_of (256 + k) input ∷ map (entry_of (256 + k)) outs) share.history)) states.number_is
        (leads c 0 share.history fits))

    pub turns_on : Fits c later (after_entries es share.history) → later.stopped ≡ false → MakesTurn calls outs
    turns_on after on =
        subst (λ (t : ℕ). MakesTurn t outs) (last_input (256 + id) input share.history ∙ states.calls_are)
        (event_turns c (256 + id) outs (input_of (256 + id) input) share.history (is_input (256 + id) input).1
        (subst (λ (xs : List Entry). IsPromptClient c (256 + id) (after_entries xs share.history)) are (prompt_after es after on)))

    pub last_after : last_call (after_entries es share.history) ≡ calls
    last_after =
        ap (λ (xs : List Entry). last_call (after_entries xs share.history)) are
        ∙ (last_outputs (256 + id) outs (input_of (256 + id) input ∷ share.history) ∙ (last_input (256 + id) input share.history ∙ states.calls_are))

-- ---- the consequence of an event

pub comes : (old new : PartyState) (id calls : ℕ) (input : Input) (outs : List Output) (es : List Entry) (turn : Turn) → old.party ≡ 256 + id → calls ≡ last_call old.history
    → es ≡ input_of (256 + id) input ∷ map (entry_of (256 + id)) outs → IsTurnOf calls outs turn
    → new ≡ record { party = old.party; history = after_entries es old.history; stopped = false } → HandleTakesTurn old turn new
comes old new id calls input outs es (turns.Waits given) who when are turned is =
    goes_on old new (input_of old.party input) outs es (quiet_input old.party input)
    (are ∙ ap (λ (p : ℕ). input_of p input ∷ map (entry_of p) outs) (sym who)) turned.1 is
comes old new id calls input outs es (turns.Answered answer) who when are turned is =
    ends old new (input_of old.party input) calls (outcome_of answer) es (quiet_input old.party input) when
    (are ∙ (ap (λ (p : ℕ). input_of p input ∷ map (entry_of p) outs) (sym who)
    ∙ ap (λ (os : List Output). input_of old.party input ∷ map (entry_of old.party) os) turned)) is

pub begins_with : (old new : PartyState) (id calls timestamp : ℕ) (op : Operation) (outs : List Output) (es : List Entry) → old.party ≡ 256 + id → calls ≡ last_call old.history → timestamp ≡ calls + 1
    → es ≡ Invoke id timestamp op ∷ map (entry_of (256 + id)) outs → AcceptNothing outs
    → new ≡ record { party = old.party; history = after_entries es old.history; stopped = false } → CallBegins old op new
begins_with old new id calls timestamp op outs es who when next are none is =
    begins old new id timestamp op outs es (omega (arith, who)) (omega (arith, when, next))
    (are ∙ ap (λ (p : ℕ). Invoke id timestamp op ∷ map (entry_of p) outs) (sym who)) none is
