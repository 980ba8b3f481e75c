-- The body of a reply.
use Rattle.std.specs.Prelude.{◌≡◌}
use Rattle.terms.specs.Parties.{client_party}
use Rattle.terms.specs.declared.order.Mode.{Mode}
use Rattle.terms.specs.declared.order.Number.{Number}
use Rattle.terms.specs.declared.order.Timestamp.{Timestamp}
use Rattle.terms.specs.declared.parties.ClientId.{ClientId}
use Rattle.tuple_codec.specs.Operations.{Outcome}
use Rattle.wire_format.specs.Messages.{MessageData as Message, reply}

-- the message is the reply to this client's request
abbrev pub IsReplyTo : ClientId → Timestamp → Mode → Number → Outcome → Message → Type 0
IsReplyTo client timestamp mode number outcome message =
    message ≡ reply (client_party client.number) timestamp.0 mode number.0 outcome
