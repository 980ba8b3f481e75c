-- The results of reading a text: the settings that it says, or a refusal if it says none. The contracts of private
-- functions use the parts.
use Rattle.std.specs.Prelude.{◌≡◌, ◌≢◌, ℕ, ◌<◌, ◌≤◌, Bool, List, All, AllPairs, Result, MatchResult, Vec}
use Rattle.std.specs.declared.alloc.Global.{Global}
use Rattle.std.specs.List.{list_any}
use Rattle.std.specs.Str.{bytes_eq}
use Rattle.toml.specs.Data.{Members}
use Rattle.protocol.specs.System.Configuration.{Configuration, IsConfiguration}
use Rattle.config_text.specs.declared.fault.ConfigFault.{ConfigFault}
use Rattle.config_text.specs.declared.fault.ConfigFault.TheVariants.{NoMemory}
use Rattle.config_text.specs.declared.settings.Settings.{Settings}
use Rattle.config_text.specs.Reading.{known_keys, SaysParties, SaysAll, SaysSettings}

-- whether a configuration may have this key
unfoldable pub is_known : List ℕ → Bool
is_known key = list_any (bytes_eq key) known_keys

-- a refusal says why, unless memory ran out
abbrev pub Because : ConfigFault → Type 0 → Type 0
Because NoMemory why = Unit {0}
Because _ why = why

-- The given settings are those that the text says, and a refused text says no configuration.
abbrev pub JudgesSettings : List ℕ → Result Settings ConfigFault → Type 0
JudgesSettings text result =
    MatchResult result (λ s. SaysSettings text s.config s.journal)
    (λ fault. Because fault ((c : Configuration) (journal : ℕ) → SaysSettings text c journal → ⊥))

abbrev pub JudgesTable : Members → Result Settings ConfigFault → Type 0
JudgesTable table result =
    MatchResult result (λ s. SaysAll table s.config s.journal)
    (λ fault. Because fault ((c : Configuration) (journal : ℕ) → SaysAll table c journal → ⊥))

abbrev pub JudgesParties : Members → Result Configuration ConfigFault → Type 0
JudgesParties table result =
    MatchResult result (λ c. SaysParties table c × IsConfiguration c)
    (λ fault. Because fault ((c : Configuration) → SaysParties table c → IsConfiguration c → ⊥))

-- the number is one of 1 to the most
abbrev pub IsUpTo : ℕ → ℕ → Type 0
IsUpTo most n = (1 ≤ n) × (n ≤ most)

-- a number up to the most with the property Has, or none has it
abbrev pub JudgesNumber : (ℕ → Type 0) → ℕ → Result ℕ ConfigFault → Type 0
JudgesNumber Has most result =
    MatchResult result (λ n. Has n × IsUpTo most n) (λ fault. Because fault ((n : ℕ) → Has n → IsUpTo most n → ⊥))

-- the number of one of so many parties with the property Has, or none has it
abbrev pub JudgesParty : (ℕ → Type 0) → ℕ → Result ℕ ConfigFault → Type 0
JudgesParty Has parties result =
    MatchResult result (λ n. Has n × (n < parties)) (λ fault. Because fault ((n : ℕ) → Has n → n < parties → ⊥))

-- The numbers are those of different parties.
abbrev pub AreParties : ℕ → List ℕ → Type 0
AreParties parties ns = All (λ n. n < parties) ns × AllPairs (λ n m. n ≢ m) ns

-- numbers of different parties with the property Have, or none have it
abbrev pub JudgesNumbers : (List ℕ → Type 0) → ℕ → Result (Vec ℕ Global) ConfigFault → Type 0
JudgesNumbers Have parties result =
    MatchResult result (λ v. Have v.items × AreParties parties v.items)
    (λ fault. Because fault ((ns : List ℕ) → Have ns → AreParties parties ns → ⊥))

abbrev pub JudgesSeed : (List ℕ → Type 0) → Result (List ℕ) ConfigFault → Type 0
JudgesSeed Has result =
    MatchResult result Has (λ fault. Because fault ((seed : List ℕ) → Has seed → ⊥))
