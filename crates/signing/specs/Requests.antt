-- Requests as a replica receives them (Castro and Liskov, Practical Byzantine fault tolerance and proactive recovery,
-- TOCS 2002, on the client).
use Rattle.std.specs.Prelude.{◌≡◌, ℕ, List, Some}
use Rattle.terms.specs.Parties.{client_party}
use Rattle.tuple_codec.specs.Operations.{Operation}
use Rattle.tuple_codec.specs.Spelling.{SpellsOperation}
use Rattle.wire_format.specs.Messages.{request}
use Rattle.authenticator.specs.Membership.{Membership}
use Rattle.signing.specs.AuthenticBody.{authentic}
use Rattle.signing.specs.declared.authentic_request.AuthenticRequest.{AuthenticRequest}

-- The replica receives the client's request from the bytes, and the request's bytes spell its operation.
pub record AuthenticatesRequest (m : Membership) (me : ℕ) (bytes : List ℕ) (it : AuthenticRequest) : Type 0 where
  pub op : Operation
  pub receives : authentic m me bytes
      ≡ Some (record { sender = client_party it.client.number; message = request it.timestamp.0 it.mode op })
  pub spelled : SpellsOperation it.op.now op
