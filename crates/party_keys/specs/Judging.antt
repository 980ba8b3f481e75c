-- The results of reading a text: the keys that it says, or a refusal if it says none. The contracts of private functions
-- use the parts.
use Rattle.std.specs.Prelude.{◌≡◌, ℕ, ◌≤◌, Bool, true, false, IsTrue, List, Option, MatchOption, All, length, Result, MatchResult, Vec}
use Rattle.std.specs.declared.alloc.Global.{Global}
use Rattle.std.specs.List.{list_any}
use Rattle.std.specs.Str.{bytes_eq}
use Rattle.toml.specs.Data.{Members}
use Rattle.terms.specs.Parties.{party_number}
use Rattle.terms.specs.declared.parties.Party.{Party}
use Rattle.party_keys.specs.declared.fault.FileFault.{FileFault}
use Rattle.party_keys.specs.declared.fault.FileFault.TheVariants.{NoMemory}
use Rattle.party_keys.specs.PartyData.{PartyData, IsPartyData, AreKeys, HasOwnSeed, IsKey, takes_part}
use Rattle.party_keys.specs.Reading.{known_keys, SaysAll, SaysFile}

-- whether the file of a party may have this key
unfoldable pub is_known : List ℕ → Bool
is_known key = list_any (bytes_eq key) known_keys

-- a refusal says why, unless memory ran out
abbrev pub Because : FileFault → Type 0 → Type 0
Because NoMemory why = Unit {0}
Because _ why = why

-- The given keys are those that the text says, and a refused text says none.
abbrev pub JudgesFile : List ℕ → Result PartyData FileFault → Type 0
JudgesFile text result =
    MatchResult result (λ k. SaysFile text k) (λ fault. Because fault ((k : PartyData) → SaysFile text k → ⊥))

abbrev pub JudgesTable : Members → Result PartyData FileFault → Type 0
JudgesTable table result =
    MatchResult result (λ k. SaysAll table k) (λ fault. Because fault ((k : PartyData) → SaysAll table k → ⊥))

-- the number is one of 1 to the most
abbrev pub IsUpTo : ℕ → ℕ → Type 0
IsUpTo most n = (1 ≤ n) × (n ≤ most)

-- a number up to the most with the property Has, or none has it
abbrev pub JudgesNumber : (ℕ → Type 0) → ℕ → Result ℕ FileFault → Type 0
JudgesNumber Has most result =
    MatchResult result (λ n. Has n × IsUpTo most n) (λ fault. Because fault ((n : ℕ) → Has n → IsUpTo most n → ⊥))

-- a party of so many replicas and clients whose number has the property Has, or none has it
abbrev pub JudgesParty : (ℕ → Type 0) → ℕ → ℕ → Result Party FileFault → Type 0
JudgesParty Has faults clients result =
    MatchResult result (λ p. Has (party_number p) × IsTrue (takes_part faults clients (party_number p)))
    (λ fault. Because fault ((n : ℕ) → Has n → IsTrue (takes_part faults clients n) → ⊥))

-- a key with the property Has, or none has it
abbrev pub JudgesKey : (List ℕ → Type 0) → Result (List ℕ) FileFault → Type 0
JudgesKey Has result =
    MatchResult result (λ key. Has key × IsKey key) (λ fault. Because fault ((key : List ℕ) → Has key → ⊥))

-- so many keys with the property Have, or none have it
abbrev pub JudgesKeys : (List (List ℕ) → Type 0) → ℕ → Result (Vec (List ℕ) Global) FileFault → Type 0
JudgesKeys Have count result =
    MatchResult result (λ v. Have v.items × AreKeys count v.items)
    (λ fault. Because fault ((keys : List (List ℕ)) → Have keys → AreKeys count keys → ⊥))

-- the party's own seed with the property Has, or none has it
abbrev pub JudgesSeed : (Option (List ℕ) → Type 0) → List (List ℕ) → ℕ → Result (Option (List ℕ)) FileFault → Type 0
JudgesSeed Has publics party result =
    MatchResult result (λ seed. Has seed × HasOwnSeed publics party seed)
    (λ fault. Because fault ((seed : Option (List ℕ)) → Has seed → HasOwnSeed publics party seed → ⊥))
