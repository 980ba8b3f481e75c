-- The part of the reading of bodies that the laws use: operations and answers are within the limits, timestamps fit
-- their bytes, and a batch has at most 16 requests.
use Rattle.std.proofs.Common.{◌≡◌, ℕ, ◌^◌, ◌≤◌, ◌<◌, List, [], ◌∷◌, length, refl, subst, arith, ◌&&◌, Option, Some, None}
use Rattle.std.specs.Prelude.{nat_le, ⊤}
use Rattle.std.proofs.lemmas.Bool.{and_parts, leb-true}
use Rattle.std.specs.Bool.{then_some}
use Rattle.tuple_codec.specs.Operations.{IsOperation, IsOutcome}
use Rattle.tuple_tree.specs.Reading.{byte_at}
use Rattle.tuple_tree.proofs.Readers.{bind_some}
use Rattle.wire_format.specs.Messages.{BodyData as Body, MessageData as Message, request as Request, reply as Reply}
use Rattle.wire_format.specs.Spelling.{IsMessage}
use Rattle.wire_format.specs.Reading.{passing, more_at, anyhow, piece_at, is_request, requests_at}
use Rattle.wire_format.specs.Words.{requests_of, said}
use Rattle.wire_format.proofs.Saying.{says_what_is_spelled}
use Rattle.protocol.specs.System.Configuration.{Configuration, members}
use Rattle.signing.specs.AuthenticBody.{authentic}
use Rattle.protocol.proofs.Words.Options.{some_injective}
use Rattle.protocol.proofs.Words.Linking.{heard_said}
use Rattle.wire_format.proofs.Forms.{passed_on}
use Rattle.wire.proofs.Requesting.{more_number}

-- ---- the contents of a message

abbrev pub FitsMessage : Message → Type 0
FitsMessage (Request t mode op) = (t < 2 ^ 64) × IsOperation op
FitsMessage (Reply client t mode number answer) = IsOutcome answer
FitsMessage _ = ⊤

message_fits : (m : Message) → IsMessage m → FitsMessage m
message_fits (Request t mode op) h = h
message_fits (Reply client t mode number answer) h = h.4
message_fits _ h = tt

pub said_fits : (bytes : List ℕ) (body : Body) → said bytes ≡ Some body → FitsMessage body.message
said_fits bytes body h =
    let w = (says_what_is_spelled bytes body).0 h in
    subst (λ (b : Body). FitsMessage b.message) w.2 (message_fits w.0.body.message w.1.valid.message)

pub heard_fits : (c : Configuration) (me : ℕ) (bytes : List ℕ) (body : Body) → authentic (members c me) me bytes ≡ Some body → FitsMessage body.message
heard_fits c me bytes body h = said_fits bytes body (heard_said c me bytes body h)

-- ---- batches

passed : (n : ℕ × List ℕ) (bs : List ℕ) → passing (λ n. nat_le 0 n && nat_le n 16) byte_at bs ≡ Some n → n.0 ≤ 16
passed n bs h =
    let k = bind_some (byte_at bs) (λ x. then_some (nat_le 0 x.0 && nat_le x.0 16) x) n h in
    let g = passed_on (nat_le 0 k.0.0 && nat_le k.0.0 16) k.0 n k.2 in
    let same : k.0 ≡ n = some_injective k.0 n g.1 in
    subst (λ (m : ℕ × List ℕ). m.0 ≤ 16) same (leb-true k.0.0 16 (and_parts (nat_le 0 k.0.0) (nat_le k.0.0 16) g.0).1)

few_at : (bs rest : List ℕ) (frames : List (List ℕ)) → requests_at 0 bs ≡ Some (frames, rest) → length frames ≤ 16
unfolding requests_at
few_at bs rest frames h =
    let k = bind_some (passing (λ n. nat_le 0 n && nat_le n 16) byte_at bs) (λ n. more_at (passing is_request piece_at) anyhow n.0 [] n.1) (frames, rest) h in
    let l = more_number (passing is_request piece_at) anyhow k.0.0 [] frames k.0.1 rest k.2 in
    let m = passed k.0 bs k.1 in
    omega arith

-- a batch has at most 16 requests
pub requests_few : (batch : List ℕ) → length (requests_of batch) ≤ 16
unfolding requests_of
requests_few batch = go (requests_at 0 batch) refl
  where
    go : (o : Option (List (List ℕ) × List ℕ)) → requests_at 0 batch ≡ o → length (requests_of batch) ≤ 16
    go None is = rw is (omega arith)
    go (Some (frames, [])) is = rw is (few_at batch [] frames is)
    go (Some (frames, b ∷ rest)) is = rw is (omega arith)
