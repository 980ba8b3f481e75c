-- The entries of the tests' parties.
use Rattle.std.specs.Prelude.{◌≡◌, ℕ, List, [], ◌∷◌}
use Rattle.terms.specs.Parties.{client_party}
use Rattle.terms.specs.declared.order.Mode.TheVariants as modes
use Rattle.tuple_tree.specs.Items.{none}
use Rattle.tuple_codec.specs.Operations.{Operation, out}
use Rattle.protocol.specs.System.Configuration.{Configuration}
use Rattle.protocol.specs.System.Trace.{Entry}
use Rattle.protocol.specs.System.Trace.Entry.{Invoke, Sent}
use Rattle.protocol.specs.Client.RightClient.{IsRequest}

-- out ()
abbrev pub first_op : Operation
first_op = out none

-- the bytes are the request of a client's first call, of out ()
abbrev pub AsksFirst : Configuration → ℕ → List ℕ → Type 0
AsksFirst c k bytes = IsRequest c (client_party k) modes.Ordered (record { timestamp = 1; op = first_op }) bytes

-- that call: its invocation, and the request that it sends
pub record IsFirstCall (c : Configuration) (k : ℕ) (entries : List Entry) : Type 0 where
  pub bytes : List ℕ
  pub asks : AsksFirst c k bytes
  pub entries_are : entries ≡ Invoke k 1 first_op ∷ Sent (client_party k) bytes ∷ []
