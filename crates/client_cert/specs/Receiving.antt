-- The replies that a client receives in frames. The contracts of private functions use these definitions.
use Rattle.std.specs.Prelude.{◌≡◌, ℕ, ◌==◌, ◌&&◌, Bool, List, length, drop, slice_index, nat_le, Option, Some, None, option_and_then}
use Rattle.std.specs.declared.alloc.Global.{Global}
use Rattle.terms.specs.Parties.{client_party}
use Rattle.byteorder.specs.Endian.{big_number}
use Rattle.terms.specs.declared.order.Number.{Number}
use Rattle.terms.specs.declared.order.Timestamp.{Timestamp}
use Rattle.terms.specs.declared.parties.ClientId.{ClientId}
use Rattle.tuple_codec.specs.Operations.{Outcome}
use Rattle.tuple_codec.specs.declared.operations.Answer.{Answer}
use Rattle.tuple_codec.specs.OperationView.{outcome_of}
use Rattle.tuple_codec.specs.Spelling.{SpellsOutcome}
use Rattle.wire_format.specs.Messages.{BodyData as Body, reply as says}
use Rattle.authenticator.specs.Membership.{Membership}
use Rattle.signing.specs.AuthenticBody.{authentic}
use Rattle.signing.specs.Publics.{knows}
use Rattle.protocol.specs.Client.RightClient.{reply_vote}
use Rattle.client_cert.specs.State.{Ballot}
use Rattle.client_cert.specs.declared.receiving.ReceivedReply.{ReceivedReply}

-- the body of a reply to the client's call of this timestamp, with this answer
abbrev pub reply_body : ℕ → ℕ → ReceivedReply → Outcome → Body
reply_body me timestamp h answer =
    record { sender = h.sender; message = says me timestamp h.mode h.number.0 answer }

-- The body is that of a reply to the call, and the text spells its answer.
pub record ReceivesAnswer (me timestamp : ℕ) (body : Option Body) (h : ReceivedReply) : Type 0 where
  pub answer : Outcome
  pub heard_is : body ≡ Some (reply_body me timestamp h answer)
  pub spelled : SpellsOutcome h.text.now answer

-- a reply to the call was received, or nothing that votes on it
abbrev pub ReceivesVote : ℕ → ℕ → Option Body → Option ReceivedReply → Type 0
ReceivesVote me timestamp body None = (s : ℕ) → option_and_then (reply_vote me timestamp s) body ≡ None
ReceivesVote me timestamp body (Some h) = ReceivesAnswer me timestamp body h

-- whether the bytes have the type of replies, and this receiver and timestamp in the places of a reply's
abbrev pub is_for : ℕ → ℕ → List ℕ → Bool
is_for me timestamp bytes =
    nat_le 17 (length bytes) && (slice_index bytes 4 == 0x48) && (big_number 2 (drop 7 bytes) == me)
    && (big_number 8 (drop 9 bytes) == timestamp)

-- The text spells an answer.
abbrev pub SpellsAnswer : List ℕ → Type 0
SpellsAnswer text = (answer : Outcome) × SpellsOutcome text answer

-- the answer that the text spells
abbrev pub IsAnswerIn : List ℕ → Answer Global → Type 0
IsAnswerIn text answer = (said : Outcome) → SpellsOutcome text said → outcome_of answer ≡ said

-- ---- of the client with this number and these keys, for Rust values

-- whichever public keys it knows, the client receives this reply to its call from the bytes, or none
abbrev pub AuthenticatesReply : Membership → ClientId → Timestamp → List ℕ → Option ReceivedReply → Type 0
AuthenticatesReply ring client timestamp bytes h =
    (publics : List (List ℕ)) → ReceivesVote (client_party client.number) timestamp.0
    (authentic (knows ring publics) (client_party client.number) bytes) h

-- the ballot that is kept of a reply
abbrev pub IsBallotOf : Number → List ℕ → Ballot → Type 0
IsBallotOf number text b = b ≡ record { number = number.0; text = text }
