-- Requests as they stand in the bytes of their frames.
use Rattle.std.specs.Prelude.{ℕ, ◌==◌, if◌then◌else◌, List}
use Rattle.terms.specs.Parties.{party_number}
use Rattle.terms.specs.declared.order.Mode.{Mode}
use Rattle.terms.specs.declared.order.Mode.TheVariants as modes
use Rattle.tuple_codec.specs.Operations.{Operation}
use Rattle.tuple_codec.specs.Spelling.{SpellsOperation}
use Rattle.wire.specs.declared.request_bytes.RequestBytes.{RequestBytes}
use Rattle.wire.specs.Headers.{HasBody}
use Rattle.wire_format.specs.Messages.{request}

-- The bytes spell a frame of the request, whose operation is spelled by the request's bytes.
pub record HoldsRequest (bytes : List ℕ) (it : RequestBytes) : Type 0 where
  pub op : Operation
  pub body : HasBody bytes
      (record { sender = party_number it.sender; message = request it.timestamp.0 it.mode op })
  pub spelled : SpellsOperation it.op.now op

-- the mode that this byte of a request or a reply stands for
abbrev pub mode_of_byte : ℕ → Mode
mode_of_byte byte = if byte == 1 then modes.ReadOnly else modes.Ordered
