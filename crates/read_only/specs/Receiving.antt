-- Read-only requests as a replica receives them (Castro and Liskov, Practical Byzantine fault tolerance and proactive
-- recovery, TOCS 2002, on read-only operations).
use Rattle.std.specs.Prelude.{◌≡◌, ◌≢◌, ℕ, List, Some}
use Rattle.terms.specs.Parties.{client_party}
use Rattle.terms.specs.declared.order.Mode.TheVariants as modes
use Rattle.tuple_codec.specs.Operations.{Operation}
use Rattle.tuple_codec.specs.Spelling.{SpellsOperation}
use Rattle.wire_format.specs.Messages.{BodyData, request}
use Rattle.authenticator.specs.Membership.{Membership}
use Rattle.signing.specs.AuthenticBody.{authentic}

-- a party's read-only request
abbrev pub read_only_request : ℕ → ℕ → Operation → BodyData
read_only_request sender timestamp op =
    record { sender = sender; message = request timestamp modes.ReadOnly op }

-- The bytes are a read-only request that is authentic to no party.
abbrev pub NobodyReceivesRead : List ℕ → Type 0
NobodyReceivesRead bytes =
    (m : Membership) (me sender timestamp : ℕ) (op : Operation)
    → authentic m me bytes ≢ Some (read_only_request sender timestamp op)

-- The replica receives the client's read-only request from the bytes, and this text spells its operation.
pub record AuthenticatesRead (m : Membership) (me : ℕ) (bytes : List ℕ) (client timestamp : ℕ)
    (text : List ℕ) : Type 0 where
  pub op : Operation
  pub receives : authentic m me bytes ≡ Some (read_only_request (client_party client) timestamp op)
  pub spelled : SpellsOperation text op
