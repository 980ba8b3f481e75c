-- The calls that frames spell, in the program.
use Rattle.std.specs.Prelude.{◌≡◌, ◌<◌, ℕ, List, Option, Some}
use Rattle.terms.specs.declared.parties.ClientId.{ClientId}
use Rattle.tuple_codec.specs.Operations.{Operation}
use Rattle.tuple_codec.specs.OperationView.{operation_of}
use Rattle.tuple_codec.specs.Spelling.{SpellsOperation}
use Rattle.wire.specs.declared.request_bytes.RequestBytes.{RequestBytes}
use Rattle.protocol.specs.System.Configuration.{Configuration}
use Rattle.protocol.specs.Replica.State.{Call as CallData, call_of}
use Rattle.execution.specs.declared.calls.Call.{Call}

module _ {A : Type 0} where
  abbrev pub call_data : Call A → CallData
  call_data x = record { client = x.client.number; timestamp = x.timestamp.0; op = operation_of x.op }

-- The call, or none, is that of the frame in each configuration with so many clients.
abbrev pub IsCallOfFrame : ℕ → List ℕ → Option CallData → Type 0
IsCallOfFrame clients frame call = (c : Configuration) → c.clients ≡ clients → call_of c frame ≡ call

-- The frame spells a call of this client with the request's timestamp, and the request's bytes spell its operation.
pub record HoldsCall (clients : ℕ) (frame : List ℕ) (client : ClientId) (it : RequestBytes) : Type 0 where
  pub op : Operation
  pub call : IsCallOfFrame clients frame
      (Some (record { client = client.number; timestamp = it.timestamp.0; op = op }))
  pub spelled : SpellsOperation it.op.now op
  pub known : client.number < clients
