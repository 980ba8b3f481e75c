-- A party may stop: after any history of a correct one, it takes inputs and gives no output.
use Rattle.std.specs.Prelude.{◌≡◌, ℕ, suc, List, ◌∷◌, None}
use Rattle.terms.specs.Parties.{client_party}
use Rattle.tuple_codec.specs.Operations.{Operation, IsOperation}
use Rattle.protocol.specs.System.Configuration.{Configuration}
use Rattle.protocol.specs.System.Trace.{Entry}
use Rattle.protocol.specs.System.Trace.Entry.{Invoke, Got, Tick}
use Rattle.protocol.specs.Client.RightClient.{last_call, open_call, IsClient}
use Rattle.protocol.specs.Replica.Owed.{IsReplica}

-- the party gets a frame, or has a tick
abbrev pub TakesInputs : ℕ → (List Entry → Type 0) → List Entry → Type 0
TakesInputs me Is past = ((bytes : List ℕ) → Is (Got me bytes ∷ past)) × Is (Tick me ∷ past)

-- the client calls, if no call is open
abbrev pub TakesCalls : Configuration → ℕ → List Entry → Type 0
TakesCalls c me past =
    (k : ℕ) (op : Operation) → me ≡ client_party k → open_call past ≡ None → IsOperation op
    → IsClient c me (Invoke k (suc (last_call past)) op ∷ past)

-- A correct replica's history stays one if the replica takes an input and gives nothing: it stopped.
abbrev pub ReplicasMayStop : Type 0
ReplicasMayStop =
    (c : Configuration) (me : ℕ) (past : List Entry) → IsReplica c me past → TakesInputs me (IsReplica c me) past

-- So does a client's, at a call too.
abbrev pub ClientsMayStop : Type 0
ClientsMayStop =
    (c : Configuration) (me : ℕ) (past : List Entry)
    → IsClient c me past → TakesInputs me (IsClient c me) past × TakesCalls c me past
