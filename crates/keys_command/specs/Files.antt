-- The files of a configuration's parties.
use Rattle.std.specs.Prelude.{◌≡◌, ℕ, List, ◌++◌, codes, map, Contains, All, Option, IfSome, Result, MatchResult, ⊤}
use Rattle.terms.specs.Parties.{party_number}
use Rattle.trace_text.specs.Frames.{party_text}
use Rattle.authenticator.specs.Dealing.{all_clients, all_replicas}
use Rattle.protocol.specs.System.Configuration.{Configuration}
use Rattle.party_keys.specs.Dealing.{keys_of}
use Rattle.party_keys.specs.Text.{file_text}
use Rattle.keys_command.specs.Folders.{File, HasFile, Puts}
use Rattle.keys_command.specs.declared.fault.KeysFault.{KeysFault}
use Rattle.keys_command.specs.declared.fault.KeysFault.TheVariants as faults

-- as `r0.toml` of replica 0, and `c0.toml` of client 0
abbrev pub file_name : ℕ → List ℕ
file_name p = party_text p ++ codes ".toml"

-- the file of a party: its name, and the text of the keys that the configuration gives it
abbrev pub file_of : Configuration → ℕ → File
file_of c p = (file_name p, file_text (keys_of c p))

-- the parties of a configuration
abbrev pub parties : Configuration → List ℕ
parties c = all_replicas c.faults ++ all_clients c.clients

-- None of these parties has a file there, if the files are known.
abbrev pub NoneHasFile : Option (List File) → List ℕ → Type 0
NoneHasFile known ps = IfSome known (λ files. All (λ p. HasFile files (file_name p) → ⊥) ps)

-- One of these parties has a file there.
abbrev pub HasFileOf : Option (List File) → List ℕ → ℕ → Type 0
HasFileOf known ps p = Contains ps p × IfSome known (λ files. HasFile files (file_name p))

-- If a file was there, nothing was put.
abbrev pub LeavesFiles : Configuration → KeysFault → Option (List File) → Option (List File) → Type 0
LeavesFiles c (faults.Exists name) old new = HasFileOf old (parties c) (party_number name.0) × (new ≡ old)
LeavesFiles c _ old new = ⊤

-- The file of each party was put, in their order, and none of them was there before.
abbrev pub DealsFiles : Configuration → Result (Unit {0}) KeysFault → Option (List File) → Option (List File) → Type 0
DealsFiles c result old new =
    MatchResult result (λ _. NoneHasFile old (parties c) × Puts old new (map (file_of c) (parties c)))
    (λ fault. LeavesFiles c fault old new)

-- ---- for the private functions

-- None of these parties has a file there, or that of one is told.
abbrev pub RefusesBy : Option (List File) → List ℕ → KeysFault → Type 0
RefusesBy known ps (faults.Exists name) = HasFileOf known ps (party_number name.0)
RefusesBy known ps _ = ⊤

abbrev pub RefusesAny : Option (List File) → List ℕ → Result (Unit {0}) KeysFault → Type 0
RefusesAny known ps result = MatchResult result (λ _. NoneHasFile known ps) (RefusesBy known ps)

-- no file was found
abbrev pub IsOutputFault : KeysFault → Type 0
IsOutputFault (faults.Exists name) = ⊥
IsOutputFault _ = ⊤

-- The files of these parties were put, or another fault came than a file that was there.
abbrev pub PutsAll : Configuration → List ℕ → Result (Unit {0}) KeysFault → Option (List File) → Option (List File) → Type 0
PutsAll c ps result old new = MatchResult result (λ _. Puts old new (map (file_of c) ps)) IsOutputFault
