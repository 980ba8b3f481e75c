-- The keys that are read from a party's file.
use Rattle.std.specs.Prelude.{◌≡◌, ℕ, ◌+◌, List, take, Option, IfSome, Result, MatchResult, Vec, ⊤}
use Rattle.std.specs.declared.alloc.Global.{Global}
use Rattle.party_keys.specs.PartyData.{PartyData}
use Rattle.party_keys.specs.Reading.{SaysFile}
use Rattle.party_keys.specs.declared.fault.FileFault.{FileFault}
use Rattle.party_keys.specs.declared.fault.FileFault.TheVariants as file
use Rattle.party_keys.specs.declared.reading.TheConstants.{MAX_FILE}
use Rattle.keys_file.specs.declared.fault.KeysFault.{KeysFault}
use Rattle.keys_file.specs.declared.fault.KeysFault.TheVariants.{File, NoMemory, Read}

-- The text is the file of no party.
abbrev pub IsNoFile : List ℕ → Type 0
IsNoFile text = (k : PartyData) → SaysFile text k → ⊥

-- The text is the file of no party, or it was not read whole, or memory ran out.
abbrev pub RefusesText : List ℕ → KeysFault → Type 0
RefusesText text (File fault) = IsNoFile text
RefusesText text NoMemory = ⊤
RefusesText text (Read error) = ⊤

-- The given keys are those that the text says, and a refused text says none.
abbrev pub TellsKeys : List ℕ → Result PartyData KeysFault → Type 0
TellsKeys text result = MatchResult result (SaysFile text) (RefusesText text)

-- The file was not read, or memory ran out.
abbrev pub IsReadFault : KeysFault → Type 0
IsReadFault (File fault) = ⊥
IsReadFault NoMemory = ⊤
IsReadFault (Read error) = ⊤

-- ---- for the private functions

-- the fault of a text that is the file of no party
abbrev pub IsFileFault : FileFault → KeysFault → Type 0
IsFileFault file.NoMemory fault = fault ≡ NoMemory
IsFileFault why fault = fault ≡ File why

-- If the reader's bytes are known, the text has all of them, or one more than a file may have. A fault is one of reading.
abbrev pub ReadsFront : Option (List ℕ) → Result (Vec ℕ Global) KeysFault → Type 0
ReadsFront known result =
    IfSome known (λ bytes. MatchResult result (λ text. text.items ≡ take (MAX_FILE + 1) bytes) (RefusesText bytes))
