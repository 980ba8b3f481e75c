-- Traces and histories. Both are lists of entries, the newest first: what follows an entry in the list is its past, and
-- the past's length is the entry's position.
use Rattle.std.specs.Prelude.{◌≡◌, ℕ, ◌⊎◌, Bool, true, false, List, [], ◌∷◌, filter, ◌==◌, Some, ⊤}
use Rattle.std.specs.Option.{option_map_or}
use Rattle.terms.specs.Parties.{client_party}
use Rattle.tuple_codec.specs.Operations.{Operation, Outcome}
use Rattle.protocol.specs.System.Configuration.{Configuration, is_correct, members, signers}
use Rattle.wire_format.specs.Messages.{BodyData as Body}
use Rattle.wire_format.specs.Words.{carried, said}
use Rattle.signing.specs.AuthenticBody.{authentic, signed_body}
use Rattle.wire_format.specs.Lists.{Each}

-- An input or output of a correct party. A field client has the client's number k, which is 256 + k as a party.
pub data Entry : Type 0 where
  Invoke : (client timestamp : ℕ) (op : Operation) → Entry
  Got : (party : ℕ) (bytes : List ℕ) → Entry
  Tick : (party : ℕ) → Entry
  Executed : (replica number : ℕ) (batch : List ℕ) → Entry
  Installed : (replica number : ℕ) (root : List ℕ) → Entry
  Sent : (party : ℕ) (bytes : List ℕ) → Entry
  Accepted : (client timestamp : ℕ) (answer : Outcome) → Entry

-- the party to which the entry belongs
abbrev pub party_of : Entry → ℕ
party_of (Invoke client timestamp op) = client_party client
party_of (Got party bytes) = party
party_of (Tick party) = party
party_of (Executed replica number batch) = replica
party_of (Installed replica number root) = replica
party_of (Sent party bytes) = party
party_of (Accepted client timestamp answer) = client_party client

-- an input begins an event, and outputs follow it
abbrev pub is_output : Entry → Bool
is_output e = elim e [ Invoke client t op ↦ false | Got p bytes ↦ false | Tick p ↦ false | _ ↦ true ]

-- the history of one party: its entries of the trace
abbrev pub history_of : ℕ → List Entry → List Entry
history_of p trace = filter (λ e. party_of e == p) trace

-- P holds at some entry, with its past
abbrev pub Once : (List Entry → Entry → Type 0) → List Entry → Type 0
Once P [] = ⊥
Once P (e ∷ past) = P past e ⊎ Once P past

-- P holds at each entry, with its past
abbrev pub Always : (List Entry → Entry → Type 0) → List Entry → Type 0
Always P [] = ⊤
Always P (e ∷ past) = P past e × Always P past

-- P holds of some element of the list
abbrev pub Has : {A : Type 0} → (A → Type 0) → List A → Type 0
Has P [] = ⊥
Has P (x ∷ xs) = P x ⊎ Has P xs

-- there is no input among the entries
abbrev pub AreOutputs : List Entry → Type 0
AreOutputs entries = Each (λ e. is_output e ≡ true) entries

-- the one if the condition is true, else the other
abbrev pub either : Bool → Type 0 → Type 0 → Type 0
either true one other = one
either false one other = other

-- ---- frames

-- the frames that a frame carries, which carry none themselves
abbrev pub carried_by : List ℕ → List (List ℕ)
carried_by bytes = option_map_or (λ body. carried body.message) (said bytes) []

-- a frame, with those that it carries
abbrev pub frames_in : List ℕ → List (List ℕ)
frames_in bytes = bytes ∷ carried_by bytes

-- in this entry the body's sender sends a frame of this body
abbrev pub SendsBody : Body → List Entry → Entry → Type 0
SendsBody body past (Sent party bytes) = (party ≡ body.sender) × (said bytes ≡ Some body)
SendsBody body past _ = ⊥

-- in this entry the party receives a frame of this body that is authentic to it
abbrev pub Receives : Configuration → ℕ → Body → List Entry → Entry → Type 0
Receives c me body past (Got p bytes) = authentic (members c me) me bytes ≡ Some body
Receives c me body past _ = ⊥

-- ---- no message of a correct party is forged

-- If the frame is authentic to party me as a correct sender's, or has a correct sender's signature, that sender sent a
-- frame of its body before. A body has one spelling, over which MACs and signatures are made.
pub record IsFromSender (c : Configuration) (me : ℕ) (past : List Entry) (bytes : List ℕ) : Type 0 where
  pub receives : (body : Body) → authentic (members c me) me bytes ≡ Some body → is_correct c body.sender ≡ true
      → Once (SendsBody body) past
  pub signed : (body : Body) → signed_body (signers c) bytes ≡ Some body → is_correct c body.sender ≡ true
      → Once (SendsBody body) past

-- each frame that a correct party receives in this entry, alone or carried, is from its sender
abbrev pub IsUnforgedAt : Configuration → List Entry → Entry → Type 0
IsUnforgedAt c past (Got me bytes) = is_correct c me ≡ true → Each (IsFromSender c me past) (frames_in bytes)
IsUnforgedAt c past _ = ⊤

-- The premise on MACs and signatures: if a correct party takes a frame that it receives, alone or carried, as a correct
-- sender's, that sender sent its body before (Castro and Liskov, TOCS 2002, on the system model).
abbrev pub Unforged : Configuration → List Entry → Type 0
Unforged c trace = Always (IsUnforgedAt c) trace
