-- Why a text is no configuration.
use Rattle.std.proofs.Common.{◌≡◌, ℕ, List, length, take, Option, None, Some, IfSome, sym, ap, subst}
use Rattle.std.specs.Option.{option_map}
use Rattle.config_text.specs.Judging.{Because}
use Rattle.config_text.specs.Reading.{SaysSettings}
use Rattle.config_text.specs.declared.fault.ConfigFault.{ConfigFault}
use Rattle.config_text.specs.declared.fault.ConfigFault.TheVariants as config
use Rattle.protocol.specs.System.Configuration.{Configuration}
use Rattle.keys_command.specs.Configuring.{IsConfigFault, RefusesConfig}
use Rattle.keys_command.specs.declared.fault.KeysFault.{KeysFault}

-- the front of the known bytes was read
pub front_read : (known : Option (List ℕ)) (n : ℕ) (front : List ℕ) → IfSome (option_map (take n) known) (λ xs. front ≡ xs) → IfSome known (λ text. front ≡ take n text)
front_read None n front h = tt
front_read (Some text) n front h = h

pub refuses : (text : List ℕ) (why : ConfigFault) (fault : KeysFault) → IsConfigFault why fault → Because why ((c : Configuration) (journal : ℕ) → SaysSettings text c journal → ⊥) → RefusesConfig text fault
refuses text config.NoMemory fault told h = subst (RefusesConfig text) (sym told) tt
refuses text why fault told h = subst (RefusesConfig text) (sym told) (λ c says. h c says.0 says.1)
