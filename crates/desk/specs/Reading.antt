-- The desk's answer to bytes with the marks of a read (Castro and Liskov, TOCS 2002, on read-only operations).
use Rattle.std.specs.Prelude.{◌≡◌, ◌⊎◌, ℕ, true, false, List, None, Some}
use Rattle.terms.specs.Parties.{client_party}
use Rattle.terms.specs.declared.parties.ClientId.{ClientId}
use Rattle.tuple_codec.specs.Operations.{Operation}
use Rattle.space.specs.Applying.{is_read_only}
use Rattle.signing.specs.AuthenticBody.{authentic}
use Rattle.events.specs.declared.output.Output.{Output}
use Rattle.replica_histories.specs.Questions.{read_from, read_reply}
use Rattle.desk.specs.State.{DeskData}
use Rattle.desk.specs.Desking.{SendsToClient}

-- The bytes are a client's authentic read, and the desk sends the answer from the executed state to the client.
pub record AnswersRead (d : DeskData) (bytes : List ℕ) (before after : List Output) : Type 0 where
  pub client : ClientId
  pub timestamp : ℕ
  pub op : Operation
  pub receives : authentic d.membership d.me bytes ≡ Some (read_from (client_party client.number) timestamp op)
  pub is_read : is_read_only op ≡ true
  pub says : SendsToClient d client (read_reply d.executed.state (client_party client.number) timestamp op) before after

-- The bytes are not authentic, or a request for something that is no read.
abbrev pub ReceivesNoRead : DeskData → List ℕ → Type 0
ReceivesNoRead d bytes =
    (authentic d.membership d.me bytes ≡ None)
    ⊎ ((client timestamp : ℕ) × (op : Operation)
    × (authentic d.membership d.me bytes ≡ Some (read_from client timestamp op)) × (is_read_only op ≡ false))

-- The desk answers a read, and drops all else.
abbrev pub AnswersBytes : DeskData → List ℕ → List Output → List Output → Type 0
AnswersBytes d bytes before after =
    AnswersRead d bytes before after ⊎ (ReceivesNoRead d bytes × (after ≡ before))
