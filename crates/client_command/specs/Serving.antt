-- What the process of a client writes, by its keys, its script and the records that it reads.
use Rattle.std.specs.Prelude.{◌≡◌, ℕ, ◌+◌, ◌<◌, ◌≤◌, ◌^◌, List, [], Option, IfSome, Result, Ok, Err, ⊤}
use Rattle.terms.specs.declared.parties.TheConstants.{FIRST_CLIENT}
use Rattle.protocol.specs.System.Configuration.{Configuration}
use Rattle.party_keys.specs.Dealing.{keys_of}
use Rattle.party_keys.specs.PartyData.{PartyData}
use Rattle.client_cert.specs.State.{ClientState, me_of}
use Rattle.client_process.specs.Clients.{FitsRunning}
use Rattle.client_process.specs.Endings.{Scene, EndsConversing}
use Rattle.client_process.specs.declared.fault.ConverseFault.{ConverseFault}
use Rattle.client_command.specs.declared.fault.ClientFault.{ClientFault}
use Rattle.client_command.specs.declared.fault.ClientFault.TheVariants.{Replica, Spent, NoMemory, Converse}

-- The configuration gives its party these keys. They don't tell who is faulty there.
abbrev pub Gives : Configuration → PartyData → Type 0
Gives c k = k ≡ keys_of c k.party

-- ---- the client

-- The keys are a client's, and this is the client before its first call: it has their number, and fits the empty history
-- of a life above this timestamp, in each configuration that gives it these keys.
pub record BeginsAs (k : PartyData) (above : ℕ) (client : ClientState) : Type 0 where
  pub is_client : FIRST_CLIENT ≤ k.party
  pub me_is : me_of client ≡ k.party
  pub fits : (c : Configuration) → Gives c k → FitsRunning c above client []

-- The keys are a replica's.
abbrev pub RefusesReplica : PartyData → ℕ → ℕ → Type 0
RefusesReplica k number last = (k.party < FIRST_CLIENT) × (number ≡ k.party) × (last ≡ 255 + k.clients)

-- These keys begin a client above this timestamp, or they are a replica's, or no timestamp is left, or memory ran out.
abbrev pub BeginsByKeys : PartyData → ℕ → Result ClientState ClientFault → Type 0
BeginsByKeys k above (Ok client) = BeginsAs k above client
BeginsByKeys k above (Err (Replica number last)) = RefusesReplica k number last
BeginsByKeys k above (Err (Spent spent)) = (2 ^ 62 ≤ above) × (spent ≡ above)
BeginsByKeys k above (Err NoMemory) = ⊤
BeginsByKeys k above (Err _) = ⊥

-- ---- its process

-- In each configuration that gives the party these keys, its process ended so for the script and the records that the
-- readers have, if they are known. Its history is one life of its client, above this timestamp.
abbrev pub ConversesAs : PartyData → ℕ → Result (Unit {0}) ConverseFault → Option (List ℕ) → Option (List ℕ) → Scene
    → Scene → Type 0
ConversesAs k above result script records old new =
    (c : Configuration) → Gives c k → IfSome script (λ text. IfSome records (λ bytes.
    EndsConversing c k.party above result text bytes old new))

-- It ended so, and by no other fault.
abbrev pub EndsAs : PartyData → ℕ → Result (Unit {0}) ClientFault → Option (List ℕ) → Option (List ℕ) → Scene → Scene
    → Type 0
EndsAs k above (Ok done) script records old new = ConversesAs k above (Ok done) script records old new
EndsAs k above (Err (Converse fault)) script records old new = ConversesAs k above (Err fault) script records old new
EndsAs k above (Err _) script records old new = ⊥
