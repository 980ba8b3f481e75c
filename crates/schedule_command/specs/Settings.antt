-- The configuration that a command reads.
use Rattle.std.specs.Prelude.{◌≡◌, ℕ, List, Result, MatchResult}
use Rattle.config_text.specs.Reading.{SaysSettings}
use Rattle.config_text.specs.declared.fault.ConfigFault.{ConfigFault}
use Rattle.config_text.specs.declared.fault.ConfigFault.TheVariants as config
use Rattle.config_text.specs.declared.settings.Settings.{Settings}
use Rattle.protocol.specs.System.Configuration.{Configuration}
use Rattle.schedule_command.specs.Faults.{IsReadFault}
use Rattle.schedule_command.specs.declared.fault.ScheduleFault.{ScheduleFault}
use Rattle.schedule_command.specs.declared.fault.ScheduleFault.TheVariants as faults

-- the fault of a text that gave no configuration
abbrev pub IsConfigFault : ConfigFault → ScheduleFault → Type 0
IsConfigFault config.NoMemory fault = fault ≡ faults.NoMemory
IsConfigFault why fault = fault ≡ faults.Configuration why

-- The text says no configuration, or the fault is another.
abbrev pub RefusesSettings : List ℕ → ScheduleFault → Type 0
RefusesSettings text (faults.Configuration fault) = (c : Configuration) (journal : ℕ) → SaysSettings text c journal → ⊥
RefusesSettings text fault = IsReadFault fault

-- The given settings are those that the text says, and a refused text says no configuration.
abbrev pub TellsSettings : List ℕ → Result Settings ScheduleFault → Type 0
TellsSettings text result =
    MatchResult result (λ s. SaysSettings text s.config s.journal) (λ fault. RefusesSettings text fault)
