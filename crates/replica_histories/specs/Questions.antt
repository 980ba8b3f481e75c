-- What an input may ask of a replica: a part of a kept state, or a read; the messages that it sent for a waiting
-- request; to go on with a part that arrives; or to move to another view. And what the event then owes (Castro and
-- Liskov, TOCS 2002, on state transfer, on read-only operations, and on view changes).
use Rattle.std.specs.Prelude.{◌≡◌, ℕ, ◌≤◌, ◌⊎◌, Bool, true, false, List, ◌∷◌, ◌++◌, Option, Some}
use Rattle.std.specs.Option.{option_map_or}
use Rattle.terms.specs.Parties.{client_number, client_party}
use Rattle.tuple_codec.specs.Operations.{Operation}
use Rattle.space.specs.Applying.{outcome, is_read_only}
use Rattle.sha2.specs.Sha256.{sha256}
use Rattle.partition_tree.specs.Digests.{digest_of_children}
use Rattle.terms.specs.declared.state.Level.{Level}
use Rattle.terms.specs.declared.state.Level.TheVariants as levels
use Rattle.terms.specs.declared.order.Mode.TheVariants as modes
use Rattle.wire_format.specs.Messages.{BodyData as Body, MessageData as Message, request as Request, reply as Reply, fetch as Fetch, meta as Meta, page as Page, ViewChangeData, view_change as ViewChange}
use Rattle.wire_format.specs.Words.{said}
use Rattle.signing.specs.AuthenticBody.{authentic}
use Rattle.protocol.specs.System.Configuration.{Configuration, members}
use Rattle.protocol.specs.System.Trace.{Entry, Has, Receives}
use Rattle.protocol.specs.System.Trace.Entry.{Got}
use Rattle.protocol.specs.Replica.Selection.{is_within}
use Rattle.protocol.specs.Replica.Certificates.{target}
use Rattle.protocol.specs.Replica.State.{State, Call, tuples}
use Rattle.protocol.specs.Replica.RightReplica.{Point, IsNewViewChange}
use Rattle.protocol.specs.Replica.Owed.{SendsMessage, IsAwaitedAlone, TransferGoesOn, HasToMove, AreKeysSpent, WaitsAlready, SendsAgain}
use Rattle.replica_histories.specs.TransfersAnswers.{AnswersFetches}

-- the reply to a read: the outcome in a state, with that state's number
abbrev pub read_reply : State → ℕ → ℕ → Operation → Message
read_reply st client timestamp op = Reply client timestamp modes.ReadOnly st.number
    (outcome (tuples st) (client_number client) op)

-- the read-only request of a client
abbrev pub read_from : ℕ → ℕ → Operation → Body
read_from client timestamp op = record { sender = client; message = Request timestamp modes.ReadOnly op }

-- the ordered request of a client
abbrev pub ordered_from : Call → Body
ordered_from call =
    record { sender = client_party call.client; message = Request call.timestamp modes.Ordered call.op }

-- An event whose input is a read owes the reply from the executed state.
abbrev pub OwesReadReply : Configuration → ℕ → List Entry → Entry → List Entry → Point → Type 0
OwesReadReply c me before input outputs old =
    (client timestamp : ℕ) (op : Operation) → Receives c me (read_from client timestamp op) before input
    → is_read_only op ≡ true → SendsMessage me (read_reply old.state client timestamp op) outputs

-- An event whose input is digests, or a page, owes that the transfer which awaits them goes on. executed: the number of
-- the state after the event.
abbrev pub AnswersDigests : Configuration → ℕ → List Entry → Entry → List Entry → Point → ℕ → Type 0
AnswersDigests c me before input outputs old executed =
    (s k index : ℕ) (level : Level) (digests : List (List ℕ))
    → Receives c me (record { sender = s; message = Meta k level index digests }) before input
    → IsAwaitedAlone c me before old k level index (digest_of_children digests)
    → TransferGoesOn c me (input ∷ before) old outputs executed k

abbrev pub AnswersPages : Configuration → ℕ → List Entry → Entry → List Entry → Point → ℕ → Type 0
AnswersPages c me before input outputs old executed =
    (s k index : ℕ) (text : List ℕ) → Receives c me (record { sender = s; message = Page k index text }) before input
    → IsAwaitedAlone c me before old k levels.Page index (sha256 text)
    → TransferGoesOn c me (input ∷ before) old outputs executed k

-- An event whose input is a request that waits already owes that the replica sends again what it sent.
abbrev pub AnswersWaiting : Configuration → ℕ → List Entry → Entry → List Entry → Point → Type 0
AnswersWaiting c me before input outputs old =
    WaitsAlready c me before input old → SendsAgain c me before old.state.number outputs

-- An event in which the replica has to move to a view owes a view change for that view or a later one, unless its keys
-- are spent. Only a view change within its bounds that a frame can spell is owed.
abbrev pub OwesViewChange : Configuration → ℕ → List Entry → Entry → List Entry → Point → Type 0
OwesViewChange c me before input outputs old =
    (vc : ViewChangeData) (bytes : List ℕ) → HasToMove c me before input old.waiting vc.view
    → IsNewViewChange c me (input ∷ before) old vc → is_within c vc ≡ true
    → said bytes ≡ Some (record { sender = me; message = ViewChange vc })
    → (vc.view ≤ target (outputs ++ input ∷ before)) ⊎ AreKeysSpent before

-- All that an event owes to its input.
abbrev pub AnswersInput : Configuration → ℕ → List Entry → Entry → List Entry → Point → ℕ → Type 0
AnswersInput c me before input outputs old executed =
    AnswersFetches c me before input outputs old × OwesReadReply c me before input outputs old
    × AnswersDigests c me before input outputs old executed × AnswersPages c me before input outputs old executed
    × AnswersWaiting c me before input outputs old × OwesViewChange c me before input outputs old

-- a message asks for a part, is a request, or is a part
abbrev pub asks_part : Body → Bool
asks_part body = elim body.message [
  | Fetch k level index ↦ true
  | Meta k level index digests ↦ true
  | Page k index text ↦ true
  | Request t mode op ↦ true
  | _ ↦ false
]

-- or it is a view change, which may make the replica move
abbrev pub is_question : Body → Bool
is_question body = elim body.message [
  | Fetch k level index ↦ true
  | Meta k level index digests ↦ true
  | Page k index text ↦ true
  | Request t mode op ↦ true
  | ViewChange vc ↦ true
  | _ ↦ false
]

abbrev pub is_part : Body → Bool
is_part body = elim body.message [ Meta k level index digests ↦ true | Page k index text ↦ true | _ ↦ false ]

-- bytes with an authentic body of that kind, if any
abbrev pub has_part : Option Body → Bool
has_part body = option_map_or asks_part body false

abbrev pub has_question : Option Body → Bool
has_question body = option_map_or is_question body false

-- an input of that kind; an input other than bytes may make the replica move
abbrev pub brings_part : Configuration → ℕ → Entry → Bool
brings_part c me (Got p bytes) = has_part (authentic (members c me) me bytes)
brings_part c me _ = false

abbrev pub brings_question : Configuration → ℕ → Entry → Bool
brings_question c me (Got p bytes) = has_question (authentic (members c me) me bytes)
brings_question c me _ = true

-- ---- laws

-- An input that asks for no part, and is no request and no part, owes none of these.
abbrev pub OthersOweNoPart : Type 0
OthersOweNoPart =
    (c : Configuration) (me : ℕ) (before : List Entry) (input : Entry) (outputs : List Entry) (old : Point)
    (executed : ℕ) → brings_part c me input ≡ false
    → AnswersFetches c me before input outputs old × OwesReadReply c me before input outputs old
    × AnswersDigests c me before input outputs old executed × AnswersPages c me before input outputs old executed
    × AnswersWaiting c me before input outputs old

-- An input that asks nothing owes no answer.
abbrev pub OthersOweNone : Type 0
OthersOweNone =
    (c : Configuration) (me : ℕ) (before : List Entry) (input : Entry) (outputs : List Entry) (old : Point)
    (executed : ℕ) → brings_question c me input ≡ false → AnswersInput c me before input outputs old executed

-- Nor does an ordered request that doesn't wait.
abbrev pub NewRequestsOweNone : Type 0
NewRequestsOweNone =
    (c : Configuration) (me : ℕ) (before : List Entry) (input : Entry) (outputs : List Entry) (old : Point)
    (executed : ℕ) (call : Call) → Receives c me (ordered_from call) before input
    → (Has (λ x. x ≡ call) old.waiting → ⊥) → AnswersInput c me before input outputs old executed
