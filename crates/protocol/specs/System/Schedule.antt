-- The inputs that a schedule feeds, over the real bytes of sealed and signed frames, and the steps that are allowed. In
-- this file the entries that are still to come stand oldest first.
use Rattle.std.specs.Prelude.{◌≡◌, ℕ, suc, ◌-◌, ◌≤◌, ◌<◌, Bool, true, false, ◌&&◌, ◌||◌, not, List, [], ◌∷◌, ◌++◌, length, map, reverse, ◌==◌, if◌then◌else◌, Option, Some, None, slice_get, All, AllPairs, ⊤}
use Rattle.std.specs.List.{list_any, range_with_len}
use Rattle.std.specs.Option.{option_map_or}
use Rattle.terms.specs.Parties.{client_party}
use Rattle.tuple_codec.specs.Operations.{Operation, Outcome, IsOperation}
use Rattle.authenticator.specs.Keys.{dealt, signing_seed}
use Rattle.authenticator.specs.Sealing.{entry_for}
use Rattle.wire_format.specs.Spelling.{piece, authenticator_spelling}
use Rattle.signing.specs.Signatures.{signature_of}
use Rattle.quorum.specs.Votes.{or_else}
use Rattle.protocol.specs.System.Configuration.{Configuration, replicas, is_replica, is_client, is_correct, is_correct_client}
use Rattle.wire_format.specs.Messages.{AuthenticatorData as Authenticator, macs, signature}
use Rattle.wire_format.specs.Words.{frame_of, receivers_of}
use Rattle.protocol.specs.System.Trace.{Entry, is_output, history_of}
use Rattle.protocol.specs.System.Trace.Entry.{Invoke, Got, Tick, Sent, Accepted}
use Rattle.protocol.specs.Client.RightClient.{open_call}
use Rattle.protocol.specs.Space.Linear.{Item, points}

-- A step of a schedule: a client calls; a frame that was made, or any bytes, are delivered to a party; a faulty party
-- makes a frame, with MACs or signed; time goes by at a party; all that is left is delivered. A call names a client by
-- its client number, all else names parties.
pub data Step : Type 0 where
  calls : (client : ℕ) (op : Operation) → Step
  deliver : (frame party : ℕ) → Step
  feed : (party : ℕ) (text : List ℕ) → Step
  seal : (sender : ℕ) (receivers body : List ℕ) → Step
  sign : (replica leaf : ℕ) (receivers body : List ℕ) → Step
  ticks : (party : ℕ) → Step
  flush : Step

-- ---- frames

-- a frame that was made, and the parties that it is for
pub record Made : Type 0 where
  pub bytes : List ℕ
  pub receivers : List ℕ

-- a frame with MACs is for their receivers, a signed one for all other replicas
abbrev pub meant_for : Configuration → ℕ → Authenticator → List ℕ
meant_for c sender (macs entries) = receivers_of (macs entries)
meant_for c sender (signature s) = range_with_len 0 sender ++ range_with_len (suc sender) (replicas c - suc sender)

-- the frame that an output sends; other entries make none
abbrev pub made_by : Configuration → Entry → List Made
made_by c (Sent p bytes) = record {
  bytes = bytes;
  receivers = option_map_or (λ frame. meant_for c p frame.authenticator) (frame_of bytes) [];
} ∷ []
made_by c _ = []

-- the bytes of a frame with MACs under the keys that the seed gives its sender, for whatever receivers
abbrev pub sealed_bytes : Configuration → ℕ → List ℕ → List ℕ → List ℕ
sealed_bytes c sender receivers body =
    piece body ++ authenticator_spelling (macs (map (entry_for (dealt c.seed) sender body) receivers))

-- the bytes of a frame that is signed with a leaf of the keys that the seed gives the replica
abbrev pub signed_bytes : Configuration → ℕ → ℕ → List ℕ → List ℕ
signed_bytes c replica leaf body =
    piece body ++ authenticator_spelling (signature (signature_of (signing_seed c.seed replica) leaf body))

-- ---- the world between steps

-- the frames that were made, in order; the deliveries (frame and receiver); and the trace, the newest entry first
pub record World : Type 0 where
  pub frames : List Made
  pub delivered : List (ℕ × ℕ)
  pub past : List Entry

-- the world before the first step
abbrev pub new_world : World
new_world = record { frames = []; delivered = []; past = [] }

-- the world after an entry
abbrev pub with_entry : Configuration → World → Entry → World
with_entry c w e = record w { frames = w.frames ++ made_by c e; past = e ∷ w.past }

-- the world with one more frame, which a faulty party made
abbrev pub with_frame : World → List ℕ → List ℕ → World
with_frame w bytes receivers = record w { frames = w.frames ++ record { bytes = bytes; receivers = receivers } ∷ [] }

-- ---- flush: frames by number and receivers ascending, each frame to each of its correct receivers once

-- the frame of this number was delivered to the party
abbrev pub is_delivered : List (ℕ × ℕ) → ℕ → ℕ → Bool
is_delivered delivered frame party = list_any (λ x. (x.0 == frame) && (x.1 == party)) delivered

-- the first correct receiver that a frame was not delivered to
abbrev pub next_receiver : Configuration → List (ℕ × ℕ) → ℕ → List ℕ → Option (ℕ × ℕ)
next_receiver c delivered frame [] = None
next_receiver c delivered frame (q ∷ receivers) =
    if is_correct c q && not (is_delivered delivered frame q) then Some (frame, q) else
    next_receiver c delivered frame receivers

-- the first frame that a correct receiver didn't get, and the first such receiver; frame is the number of the first
abbrev pub next_pair : Configuration → List (ℕ × ℕ) → ℕ → List Made → Option (ℕ × ℕ)
next_pair c delivered frame [] = None
next_pair c delivered frame (made ∷ frames) =
    or_else (next_receiver c delivered frame made.receivers) (next_pair c delivered (suc frame) frames)

-- what a flush delivers next, if anything is left
abbrev pub pending : Configuration → World → Option (ℕ × ℕ)
pending c w = next_pair c w.delivered 0 w.frames

-- ---- which steps are allowed

-- the party is one of the configuration
abbrev pub is_party : Configuration → ℕ → Bool
is_party c p = is_replica c p || is_client c p

-- a frame of a faulty party may be for 1 to 10 parties, in ascending order
pub record AreReceivers (c : Configuration) (receivers : List ℕ) : Type 0 where
  pub some : 1 ≤ length receivers
  pub few : length receivers ≤ 10
  pub ascend : AllPairs (λ p q. p < q) receivers
  pub parties : All (λ p. is_party c p ≡ true) receivers

-- The step is allowed in this world. A call's timestamp is no part of the step: in a run it is the client's next one.
-- So it is for a client that stopped: its call stays open, and it makes no second one.
abbrev pub IsAllowed : Configuration → World → Step → Type 0
IsAllowed c w (calls k op) =
    (is_correct_client c (client_party k) ≡ true) × (open_call (history_of (client_party k) w.past) ≡ None)
    × IsOperation op
IsAllowed c w (deliver frame party) = (frame < length w.frames) × (is_correct c party ≡ true)
IsAllowed c w (feed party text) = is_correct c party ≡ true
IsAllowed c w (seal sender receivers body) =
    (is_party c sender ≡ true) × (is_correct c sender ≡ false) × AreReceivers c receivers
IsAllowed c w (sign replica leaf receivers body) =
    (is_replica c replica ≡ true) × (is_correct c replica ≡ false) × (leaf < 64) × AreReceivers c receivers
IsAllowed c w (ticks party) = is_correct c party ≡ true
IsAllowed c w flush = ⊤

-- ---- the trace of a schedule

-- no output comes next
abbrev pub NoOutputIsNext : List Entry → Type 0
NoOutputIsNext [] = ⊤
NoOutputIsNext (e ∷ entries) = is_output e ≡ false

-- these steps lead from one world to another, over exactly these entries: a step brings its input, and outputs may
-- follow
pub data StepsLead (c : Configuration) : World → List Step → List Entry → World → Type 0 where
  ends : {w : World} → StepsLead c w [] [] w
  gives : {w v : World} {steps : List Step} {entries : List Entry} {e : Entry}
      → is_output e ≡ true → StepsLead c (with_entry c w e) steps entries v → StepsLead c w steps (e ∷ entries) v
  called : {w v : World} {steps : List Step} {entries : List Entry} {client timestamp : ℕ} {op : Operation}
      → IsAllowed c w (calls client op) → StepsLead c (with_entry c w (Invoke client timestamp op)) steps entries v
      → StepsLead c w (calls client op ∷ steps) (Invoke client timestamp op ∷ entries) v
  delivers : {w v : World} {steps : List Step} {entries : List Entry} {frame party : ℕ} {made : Made}
      → IsAllowed c w (deliver frame party) → slice_get w.frames frame ≡ Some made
      → StepsLead c (record (with_entry c w (Got party made.bytes)) { delivered = (frame, party) ∷ w.delivered })
      steps entries v
      → StepsLead c w (deliver frame party ∷ steps) (Got party made.bytes ∷ entries) v
  gets : {w v : World} {steps : List Step} {entries : List Entry} {party : ℕ} {text : List ℕ}
      → IsAllowed c w (feed party text) → StepsLead c (with_entry c w (Got party text)) steps entries v
      → StepsLead c w (feed party text ∷ steps) (Got party text ∷ entries) v
  ticked : {w v : World} {steps : List Step} {entries : List Entry} {party : ℕ}
      → IsAllowed c w (ticks party) → StepsLead c (with_entry c w (Tick party)) steps entries v
      → StepsLead c w (ticks party ∷ steps) (Tick party ∷ entries) v
  seals : {w v : World} {steps : List Step} {entries : List Entry} {sender : ℕ} {receivers body : List ℕ}
      → IsAllowed c w (seal sender receivers body) → NoOutputIsNext entries
      → StepsLead c (with_frame w (sealed_bytes c sender receivers body) receivers) steps entries v
      → StepsLead c w (seal sender receivers body ∷ steps) entries v
  signs : {w v : World} {steps : List Step} {entries : List Entry} {replica leaf : ℕ} {receivers body : List ℕ}
      → IsAllowed c w (sign replica leaf receivers body) → NoOutputIsNext entries
      → StepsLead c (with_frame w (signed_bytes c replica leaf body) receivers) steps entries v
      → StepsLead c w (sign replica leaf receivers body ∷ steps) entries v
  flushes : {w v : World} {steps : List Step} {entries : List Entry} {frame party : ℕ}
      → pending c w ≡ Some (frame, party) → StepsLead c w (deliver frame party ∷ flush ∷ steps) entries v
      → StepsLead c w (flush ∷ steps) entries v
  flushed : {w v : World} {steps : List Step} {entries : List Entry}
      → NoOutputIsNext entries → pending c w ≡ None → StepsLead c w steps entries v
      → StepsLead c w (flush ∷ steps) entries v

-- the inputs of the trace are those that the steps feed, each of them allowed; the trace stands newest first
abbrev pub Feeds : Configuration → List Step → List Entry → Type 0
Feeds c steps trace = (w : World) × StepsLead c new_world steps (reverse trace) w

-- ---- the report

-- an acceptance with its position
pub record Acceptance : Type 0 where
  pub position : ℕ
  pub client : ℕ
  pub timestamp : ℕ
  pub answer : Outcome

-- the acceptances of a trace, the newest first
abbrev pub acceptances : List Entry → List Acceptance
acceptances [] = []
acceptances (Accepted client timestamp answer ∷ past) =
    record { position = length past; client = client; timestamp = timestamp; answer = answer } ∷ acceptances past
acceptances (_ ∷ past) = acceptances past

-- the report has the trace's acceptances in order of position, and its points
pub record IsReport (c : Configuration) (trace : List Entry) (accepted : List Acceptance)
    (items : List Item) : Type 0 where
  pub accepted_are : accepted ≡ reverse (acceptances trace)
  pub points_are : items ≡ points c trace
