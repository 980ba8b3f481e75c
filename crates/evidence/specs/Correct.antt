-- What holds of each history of a correct party.
use Rattle.std.specs.Prelude.{◌≡◌, ℕ, true, List, ◌∷◌, Some, All}
use Rattle.space.specs.Applying.{is_read_only}
use Rattle.terms.specs.declared.order.Mode.{Mode}
use Rattle.terms.specs.declared.order.Mode.TheVariants as modes
use Rattle.wire_format.specs.Messages.{FrameData as Frame, MacData, macs, request as Request}
use Rattle.authenticator.specs.Authentic.{mac_of}
use Rattle.protocol.specs.System.Configuration.{Configuration, members}
use Rattle.wire_format.specs.Words.{frame_of, said}
use Rattle.protocol.specs.System.Trace.{Entry, party_of, Always}
use Rattle.protocol.specs.System.Trace.Entry.{Sent}
use Rattle.protocol.specs.Replica.RightReplica.{SafeReplica}
use Rattle.protocol.specs.Client.RightClient.{OpenCall, open_call, IsClient, SafeClient}
use Rattle.protocol.specs.Replica.Owed.{IsReplica}

-- It has entries of its own party alone.
abbrev pub ReplicasHaveOwn : Type 0
ReplicasHaveOwn =
    (c : Configuration) (me : ℕ) (history : List Entry) → IsReplica c me history
    → Always (λ past e. party_of e ≡ me) history

abbrev pub ClientsHaveOwn : Type 0
ClientsHaveOwn =
    (c : Configuration) (me : ℕ) (history : List Entry) → IsClient c me history
    → Always (λ past e. party_of e ≡ me) history

-- Each MAC of a client's request is that of its body from the client to the receiver.
abbrev pub SealsRequests : Type 0
SealsRequests =
    (c : Configuration) (me : ℕ) (bytes : List ℕ) (frame : Frame) (entries : List MacData) (past : List Entry)
    → frame_of bytes ≡ Some frame → frame.authenticator ≡ macs entries → IsClient c me (Sent me bytes ∷ past)
    → All (λ x. x.mac ≡ mac_of (members c me).keys x.receiver frame.body) entries

-- A safe client's frame is its request for the open call, read-only for a read alone.
abbrev pub AsksItsCall : Type 0
AsksItsCall =
    (c : Configuration) (me : ℕ) (bytes : List ℕ) (past : List Entry)
    → SafeClient c me (Sent me bytes ∷ past)
    → (mode : Mode) × (call : OpenCall)
    × (said bytes ≡ Some (record { sender = me; message = Request call.timestamp mode call.op }))
    × (open_call past ≡ Some call) × (mode ≡ modes.ReadOnly → is_read_only call.op ≡ true)

-- A correct party's history is safe.
abbrev pub ReplicasAreSafe : Type 0
ReplicasAreSafe =
    (c : Configuration) (me : ℕ) (history : List Entry) → IsReplica c me history → SafeReplica c me history

abbrev pub ClientsAreSafe : Type 0
ClientsAreSafe = (c : Configuration) (me : ℕ) (history : List Entry) → IsClient c me history → SafeClient c me history
