-- Definitions on bytes for laws about messages. Bytes are lists of numbers here, and a list with a number over 255
-- spells nothing.
use Rattle.std.specs.Prelude.{◌≡◌, ◌↔◌, ℕ, ◌≤◌, nat_lt, if◌then◌else◌, List, [], ◌∷◌, ◌++◌, length, map, flat_map}
use Rattle.std.specs.Prelude.{Option, Some, None}
use Rattle.std.specs.List.{list_all}
use Rattle.tuple_tree.specs.Values.{AreBytes}
use Rattle.tuple_tree.specs.Reading.{◌>>=◌}
use Rattle.wire_format.specs.Lists.{Each}
use Rattle.wire_format.specs.Messages.{MessageData, pre_prepare, new_view, BodyData, AuthenticatorData, macs, signature}
use Rattle.wire_format.specs.Messages.{FrameData}
use Rattle.wire_format.specs.Spelling.{pieces_spelling, IsCarried, IsBatch, IsMessage, is_ordered_request, SpellsBody}
use Rattle.wire_format.specs.Spelling.{SpellsFrame}
use Rattle.wire_format.specs.Reading.{whole_value, requests_at, body_of, frame_read}

-- the frame that the bytes spell
unfoldable pub frame_of : List ℕ → Option FrameData
frame_of bs = if list_all (λ b. nat_lt b 256) bs then frame_read bs else None

-- the body of the frame that the bytes spell
unfoldable pub said : List ℕ → Option BodyData
said bs = frame_of bs >>= λ f. Some f.body

-- the receivers of a frame's MACs; a signature names nobody
abbrev pub receivers_of : AuthenticatorData → List ℕ
receivers_of (macs entries) = map (λ x. x.receiver) entries
receivers_of (signature s) = []

-- the request frames of a batch's text
unfoldable pub requests_of : List ℕ → List (List ℕ)
requests_of text = or_none (whole_value (requests_at 0 text))
  where
    or_none : Option (List (List ℕ)) → List (List ℕ)
    or_none None = []
    or_none (Some frames) = frames

-- the request frames of all these batches, in their order
abbrev pub requests_of_all : List (List ℕ) → List (List ℕ)
requests_of_all [] = []
requests_of_all (batch ∷ batches) = requests_of batch ++ requests_of_all batches

-- the frames that a message carries, whole
abbrev pub carried : MessageData → List (List ℕ)
carried (pre_prepare view number batch) = requests_of batch
carried (new_view n) = n.changes ++ requests_of_all n.batches
carried _ = []

-- ---- laws

-- The definition frame_of gives exactly the frame that a list spells.
abbrev pub ReadsFrames : Type 0
ReadsFrames = (bs : List ℕ) (f : FrameData) → (frame_of bs ≡ Some f) ↔ SpellsFrame bs f

abbrev pub ReadsBodies : Type 0
ReadsBodies = (bs : List ℕ) (b : BodyData) → AreBytes bs → (body_of bs ≡ Some b) ↔ SpellsBody bs b

-- `said` is exactly the body of the frame that a list spells.
abbrev pub ReadsSaid : Type 0
ReadsSaid =
    (bs : List ℕ) (b : BodyData)
    → (said bs ≡ Some b) ↔ ((f : FrameData) × SpellsFrame bs f × (f.body ≡ b))

-- The definition requests_of gives the requests that a batch's text spells.
abbrev pub ReadsRequests : Type 0
ReadsRequests =
    (requests : List (List ℕ)) → length requests ≤ 16
    → Each (IsCarried is_ordered_request) requests
    → requests_of (pieces_spelling requests) ≡ requests

-- The definition requests_of gives requests of batches alone.
abbrev pub ReadsBatches : Type 0
ReadsBatches = (text : List ℕ) → AreBytes text → 1 ≤ length (requests_of text) → IsBatch 1 text

-- A message carries frames.
abbrev pub CarriesFrames : Type 0
CarriesFrames =
    (m : MessageData) → IsMessage m → Each (λ bs. (f : FrameData) × SpellsFrame bs f) (carried m)

-- These are the frames that the message carries, in its order.
abbrev pub Carries : MessageData → List (List ℕ) → Type 0
Carries (pre_prepare view number batch) frames = batch ≡ pieces_spelling frames
Carries (new_view n) frames =
    (lists : List (List (List ℕ))) × (n.batches ≡ map pieces_spelling lists)
    × (frames ≡ n.changes ++ flat_map (λ requests. requests) lists)
Carries _ frames = frames ≡ []

abbrev pub CarriesAll : Type 0
CarriesAll = (m : MessageData) → IsMessage m → Carries m (carried m)

-- If two frames stand at the front of the same bytes, they are the same.
abbrev pub HasOneFrame : Type 0
HasOneFrame =
    (a b x y : List ℕ) (f g : FrameData) → SpellsFrame a f → SpellsFrame b g → a ++ x ≡ b ++ y
    → (a ≡ b) × (f ≡ g)

-- Bytes spell at most one body.
abbrev pub HasOneBody : Type 0
HasOneBody = (bs : List ℕ) (b c : BodyData) → SpellsBody bs b → SpellsBody bs c → b ≡ c
