-- The configuration whose keys are written.
use Rattle.std.specs.Prelude.{◌≡◌, ℕ, ◌+◌, ◌≤◌, List, ◌++◌, codes, length, take, Option, IfSome, Result, IfOk, MatchResult, Vec, ⊤}
use Rattle.std.specs.declared.alloc.Global.{Global}
use Rattle.hex.specs.Hex.{encode_lower}
use Rattle.config_text.specs.Reading.{SaysSettings}
use Rattle.config_text.specs.declared.fault.ConfigFault.{ConfigFault}
use Rattle.config_text.specs.declared.fault.ConfigFault.TheVariants as config
use Rattle.config_text.specs.declared.reading.TheConstants.{MAX_CONFIG}
use Rattle.protocol.specs.System.Configuration.{Configuration}
use Rattle.keys_command.specs.declared.configuring.Given.{Given}
use Rattle.keys_command.specs.declared.configuring.Given.TheVariants as given
use Rattle.keys_command.specs.declared.fault.KeysFault.{KeysFault}
use Rattle.keys_command.specs.declared.fault.KeysFault.TheVariants as faults

-- The text is that of the configuration.
abbrev pub SaysConfig : List ℕ → Configuration → Type 0
SaysConfig text c = (journal : ℕ) × SaysSettings text c journal

-- The text says no configuration, or memory ran out.
abbrev pub RefusesConfig : List ℕ → KeysFault → Type 0
RefusesConfig text (faults.Configuration fault) = (c : Configuration) → SaysConfig text c → ⊥
RefusesConfig text faults.NoMemory = ⊤
RefusesConfig text _ = ⊥

-- the fault of a text that gave no configuration
abbrev pub IsConfigFault : ConfigFault → KeysFault → Type 0
IsConfigFault config.NoMemory fault = fault ≡ faults.NoMemory
IsConfigFault why fault = fault ≡ faults.Configuration why

-- the line of a seed, behind a text
abbrev pub seed_line : List ℕ → List ℕ
seed_line seed = codes "\nseed = \"" ++ (encode_lower seed ++ codes "\"\n")

-- The given configuration is the one that the text says, and a refused text says none.
abbrev pub TellsConfig : List ℕ → Result Configuration KeysFault → Type 0
TellsConfig text result = MatchResult result (SaysConfig text) (RefusesConfig text)

-- The same, or the text says none, since it has no seed.
abbrev pub IsGiven : List ℕ → Given → Type 0
IsGiven text (given.Whole c) = SaysConfig text c
IsGiven text (given.Seedless front) = (front.items ≡ text) × ((c : Configuration) → SaysConfig text c → ⊥)

abbrev pub TellsGiven : List ℕ → Result Given KeysFault → Type 0
TellsGiven text result = MatchResult result (IsGiven text) (RefusesConfig text)

-- If the reader's bytes are known, the text has all of them, or one more than a configuration may have.
abbrev pub ReadsText : {E : Type 0} → Option (List ℕ) → Result (Vec ℕ Global) E → Type 0
ReadsText known result = IfSome known (λ bytes. IfOk result (λ text. text.items ≡ take (MAX_CONFIG + 1) bytes))
