-- Small histories in which a replica answers, and which the definitions accept, with frames left symbolic: their
-- spelling and their authenticity are given.
use Rattle.std.specs.Prelude.{◌≡◌, ℕ, true, List, [], ◌∷◌, Some}
use Rattle.terms.specs.Parties.{client_number}
use Rattle.tuple_codec.specs.Operations.{Operation}
use Rattle.space.specs.Applying.{no_tuples, outcome, is_read_only}
use Rattle.terms.specs.declared.order.Mode.TheVariants as modes
use Rattle.terms.specs.declared.state.Level.TheVariants as levels
use Rattle.wire_format.specs.Messages.{FrameData as Frame, MessageData as Message, request as Request, reply as Reply, fetch as Fetch, meta as Meta}
use Rattle.protocol.specs.System.Configuration.{Configuration, members}
use Rattle.signing.specs.AuthenticBody.{authentic}
use Rattle.wire_format.specs.Words.{frame_of, said, receivers_of}
use Rattle.protocol.specs.System.Frames.{IsSealed}
use Rattle.protocol.specs.System.Trace.Entry.{Got, Sent}
use Rattle.protocol.specs.Replica.State.{opening}
use Rattle.protocol.specs.Replica.RightReplica.{digests_at}
use Rattle.protocol.specs.Replica.Owed.{IsReplica}
use Rattle.evidence.specs.Examples.{four}

-- The bytes are the sender's message, sealed for one receiver.
pub record IsAnswer (c : Configuration) (sender receiver : ℕ) (message : Message) (bytes : List ℕ) : Type 0 where
  pub says : said bytes ≡ Some (record { sender = sender; message = message })
  pub is_sealed : (frame : Frame) → frame_of bytes ≡ Some frame
      → IsSealed c frame × (receivers_of frame.authenticator ≡ receiver ∷ [])

-- A replica that gets a read in the beginning, and answers it from the empty space with the number 0, is a right one.
abbrev pub FirstReadIsAnswered : Type 0
FirstReadIsAnswered =
    (clients : ℕ) (seed : List ℕ) (me client timestamp : ℕ) (op : Operation) (read reply : List ℕ)
    → authentic (members (four clients seed) me) me read
    ≡ Some (record { sender = client; message = Request timestamp modes.ReadOnly op }) → is_read_only op ≡ true
    → IsAnswer (four clients seed) me client
    (Reply client timestamp modes.ReadOnly 0 (outcome no_tuples (client_number client) op)) reply
    → IsReplica (four clients seed) me (Sent me reply ∷ Got me read ∷ [])

-- So is one that gets a fetch of the root of the opening state, and answers it with the digests below.
abbrev pub FirstFetchIsAnswered : Type 0
FirstFetchIsAnswered =
    (clients : ℕ) (seed : List ℕ) (me other : ℕ) (fetch digests : List ℕ) (frame : Frame)
    → authentic (members (four clients seed) me) me fetch
    ≡ Some (record { sender = other; message = Fetch 0 levels.Root 0 })
    → frame_of digests ≡ Some frame
    → IsAnswer (four clients seed) me other (Meta 0 levels.Root 0 (digests_at opening levels.Root 0)) digests
    → IsReplica (four clients seed) me (Sent me digests ∷ Got me fetch ∷ [])
