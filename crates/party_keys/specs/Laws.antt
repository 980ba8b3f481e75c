-- The laws of files.
use Rattle.std.specs.Prelude.{◌≡◌, ℕ, List}
use Rattle.party_keys.specs.PartyData.{PartyData, IsPartyData}
use Rattle.party_keys.specs.Reading.{SaysFile}
use Rattle.party_keys.specs.Text.{file_text}

-- The text that is written of a party's keys says these keys.
abbrev pub FilesAreRead : Type 0
FilesAreRead = (k : PartyData) → IsPartyData k → SaysFile (file_text k) k

-- A text says the keys of one party at most.
abbrev pub TextsSayOne : Type 0
TextsSayOne = (text : List ℕ) (j k : PartyData) → SaysFile text j → SaysFile text k → j ≡ k
