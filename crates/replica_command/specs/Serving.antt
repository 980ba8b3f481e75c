-- What the process of a replica writes, by the file of its keys and the bytes that it reads.
use Rattle.std.specs.Prelude.{◌≡◌, ℕ, ◌*◌, ◌<◌, ◌≤◌, false, List, [], Option, IfSome, Result, Ok, Err}
use Rattle.terms.specs.declared.parties.TheConstants.{FIRST_CLIENT}
use Rattle.protocol.specs.System.Configuration.{Configuration}
use Rattle.party_keys.specs.Dealing.{keys_of}
use Rattle.party_keys.specs.PartyData.{PartyData}
use Rattle.party_keys.specs.Reading.{SaysFile}
use Rattle.keys_file.specs.Reading.{RefusesText}
use Rattle.replica.specs.Fits.{Fits, me_of}
use Rattle.replica.specs.State.{ReplicaData, has_stopped}
use Rattle.replica_process.specs.Endings.{EndsServing}
use Rattle.replica_process.specs.declared.fault.ServeFault.{ServeFault}
use Rattle.replica_command.specs.declared.fault.ReplicaFault.{ReplicaFault}
use Rattle.replica_command.specs.declared.fault.ReplicaFault.TheVariants.{Keys, Client, NoMemory, Serve}

-- The configuration gives its party these keys. They don't tell who is faulty there.
abbrev pub Gives : Configuration → PartyData → Type 0
Gives c k = k ≡ keys_of c k.party

-- The keys are a replica's. In each configuration that gives its party these keys, its process ended so for the bytes that
-- the reader has, if they are known. It gets timeouts only while it is linked to 2 f others.
abbrev pub ServesAs : PartyData → Result (Unit {0}) ServeFault → Option (List ℕ) → Option (List ℕ) → Option (List ℕ) → Type 0
ServesAs k result known old new =
    (k.party < FIRST_CLIENT)
    × ((c : Configuration) → Gives c k → IfSome known (λ bytes. EndsServing c k.party (2 * k.faults) result bytes old new))

-- The keys are a client's, and nothing was written.
abbrev pub RefusesClient : PartyData → ℕ → Option (List ℕ) → Option (List ℕ) → Type 0
RefusesClient k number old new = (FIRST_CLIENT ≤ k.party) × (number ≡ k.party) × (new ≡ old)

-- A replica's process ended, or these keys began none, and nothing was written.
abbrev pub EndsByKeys : PartyData → Result (Unit {0}) ReplicaFault → Option (List ℕ) → Option (List ℕ) → Option (List ℕ) → Type 0
EndsByKeys k (Ok done) known old new = ServesAs k (Ok done) known old new
EndsByKeys k (Err (Serve fault)) known old new = ServesAs k (Err fault) known old new
EndsByKeys k (Err (Client number last)) known old new = RefusesClient k number old new
EndsByKeys k (Err NoMemory) known old new = new ≡ old
EndsByKeys k (Err _) known old new = ⊥

-- The same by the keys that a file's text says, or no party's keys were read from it, and nothing was written.
abbrev pub EndsByFile : List ℕ → Result (Unit {0}) ReplicaFault → Option (List ℕ) → Option (List ℕ) → Option (List ℕ) → Type 0
EndsByFile text (Ok done) known old new = (k : PartyData) × SaysFile text k × ServesAs k (Ok done) known old new
EndsByFile text (Err (Serve fault)) known old new = (k : PartyData) × SaysFile text k × ServesAs k (Err fault) known old new
EndsByFile text (Err (Client number last)) known old new = (k : PartyData) × SaysFile text k × RefusesClient k number old new
EndsByFile text (Err (Keys fault)) known old new = RefusesText text fault × (new ≡ old)
EndsByFile text (Err NoMemory) known old new = new ≡ old
EndsByFile text (Err _) known old new = ⊥

-- ---- for the private functions

-- The replica has its number and runs, and fits the empty history of each configuration that gives it these keys.
pub record BeginsAs (k : PartyData) (r : ReplicaData) : Type 0 where
  pub me_is : me_of r ≡ k.party
  pub runs : has_stopped r ≡ false
  pub fits : (c : Configuration) → Gives c k → Fits c r []
