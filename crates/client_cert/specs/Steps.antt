-- Events keep the fit of state and history.
use Rattle.std.specs.Prelude.{◌≡◌, ℕ, suc, false, List, [], ◌∷◌, map, Option, Some, is_some}
use Rattle.terms.specs.Parties.{client_party}
use Rattle.terms.specs.declared.order.Mode.{Mode}
use Rattle.terms.specs.declared.order.Mode.TheVariants as modes
use Rattle.terms.specs.declared.order.Timestamp.{Timestamp}
use Rattle.terms.specs.declared.parties.ClientId.{ClientId}
use Rattle.tuple_codec.specs.declared.operations.Op.{Op}
use Rattle.tuple_codec.specs.OperationView.{operation_of, outcome_of}
use Rattle.authenticator.specs.Membership.{Membership}
use Rattle.signing.specs.Publics.{knows}
use Rattle.protocol.specs.System.Configuration.{Configuration, members}
use Rattle.protocol.specs.System.Trace.{Entry}
use Rattle.protocol.specs.System.Trace.Entry.{Invoke, Got, Tick, Sent}
use Rattle.protocol.specs.Client.RightClient.{Reaction, reaction}
use Rattle.protocol.specs.Client.RightClient.Reaction.{nothing, asks, accepts}
use Rattle.events.specs.declared.output.Output.{Output}
use Rattle.events.specs.Outputs.{entry_of, after_event, AreSentAsMeant}
use Rattle.client_cert.specs.declared.client.Event.{Event}
use Rattle.client_cert.specs.declared.client.Event.TheVariants as events
use Rattle.client_cert.specs.declared.receiving.Turned.{Turned}
use Rattle.client_cert.specs.declared.receiving.Turned.TheVariants as turned
use Rattle.client_cert.specs.State.{CallState, ClientState, me_of, went}
use Rattle.client_cert.specs.Asking.{AsksWith}
use Rattle.client_cert.specs.Fits.{FitsWithinEvents, FitsLife}

-- the input entry of an event
abbrev pub input_of : ℕ → Event → Entry
input_of me (events.Got bytes) = Got me bytes.now
input_of me events.Retry = Tick me

-- if the history of a life fits before the event, the longer one fits after it, above whatever timestamp the life began
abbrev pub HistoryStaysRight : ClientState → Entry → List Output → ClientState → Type 0
HistoryStaysRight old input outs new =
    (c : Configuration) (start : ℕ) (history : List Entry) → FitsLife c start old history
    → FitsLife c start new (after_event (me_of old) input outs history)

-- a call leads from the old state to the new one, with these outputs
abbrev pub CallLeads : {A : Type 0} → ClientState → Op A → List Output → ClientState → Type 0
CallLeads old op outs new =
    HistoryStaysRight old (Invoke old.number (suc old.calls) (operation_of op)) outs new

-- if no call was open, a call without outputs counts as made
abbrev pub CallStops : {A : Type 0} → ClientState → Op A → ClientState → Type 0
CallStops old op new = is_some old.call ≡ false → CallLeads old op [] new

-- an event leads from the old state to the new one, with these outputs
abbrev pub EventLeads : ClientState → Event → List Output → ClientState → Type 0
EventLeads old event outs new = HistoryStaysRight old (input_of (me_of old) event) outs new

-- In each configuration where the client knows what it does, each frame that it sends goes exactly to its receivers: a
-- request to all replicas.
abbrev pub SendsAsMeant : ClientState → List Output → Type 0
SendsAsMeant client outs =
    (c : Configuration) → members c (me_of client) ≡ client.membership → AreSentAsMeant c (me_of client) outs

-- ---- for private functions

-- bytes lead from the old state to the new one, with these outputs
abbrev pub BytesLead : ClientState → List ℕ → List Output → ClientState → Type 0
BytesLead old bytes outs new = HistoryStaysRight old (Got (me_of old) bytes) outs new

-- a retry leads from the old state to the new one, with these outputs
abbrev pub RetryLeads : ClientState → List Output → ClientState → Type 0
RetryLeads old outs new = HistoryStaysRight old (Tick (me_of old)) outs new

-- the reaction of the definitions to a reply
abbrev pub reaction_of : ℕ → CallState → Turned → Reaction
reaction_of timestamp call turned.Nothing = nothing
reaction_of timestamp call turned.Ask = asks modes.Ordered (record { timestamp = timestamp; op = call.op })
reaction_of timestamp call (turned.Accept answer) = accepts timestamp (outcome_of answer)

-- the open call after these bytes, and the reaction to them
abbrev pub CallWeighsBytes : Membership → ℕ → ℕ → CallState → List ℕ → CallState → Reaction → Type 0
CallWeighsBytes m me timestamp old bytes new given =
    (c : Configuration) (start : ℕ) (history : List Entry) → members c me ≡ m
    → FitsWithinEvents c me start history timestamp (Some old)
    → FitsWithinEvents c me start (Got me bytes ∷ history) timestamp (Some new)
    × (reaction c me (Got me bytes ∷ history) ≡ given)

-- the same, of the client with this number and these keys, whichever public keys it knows, for Rust values
abbrev pub TurnsTo :
    Membership → ClientId → Timestamp → CallState → List ℕ → CallState → Turned → Type 0
TurnsTo ring client timestamp old bytes new turned =
    (publics : List (List ℕ)) → CallWeighsBytes (knows ring publics) (client_party client.number) timestamp.0 old bytes
    new (reaction_of timestamp.0 new turned)

-- the client changes only its call
pub record ChangesOnlyCall (old new : ClientState) (call : Option CallState) : Type 0 where
  pub number : new.number ≡ old.number
  pub membership : new.membership ≡ old.membership
  pub calls : new.calls ≡ old.calls
  pub call_is : new.call ≡ call

-- the client may change its call, but not whether one is open
pub record KeepsWhetherOpen (old new : ClientState) : Type 0 where
  pub number : new.number ≡ old.number
  pub membership : new.membership ≡ old.membership
  pub calls : new.calls ≡ old.calls
  pub is_open : is_some new.call ≡ is_some old.call

-- the client sends a request of its open call, and changes nothing but that it went
pub record SendsRequest (old : ClientState) (mode : Mode) (outs : List Output) (new : ClientState) : Type 0 where
  pub text : List ℕ
  pub call : CallState
  pub given : map (entry_of (me_of old)) outs ≡ Sent (me_of old) text ∷ []
  pub was : old.call ≡ Some call
  pub asks : AsksWith old.membership (me_of old) mode old.calls call.op text
  pub becomes : ChangesOnlyCall old new (Some (went mode call))
  pub meant : SendsAsMeant old outs
