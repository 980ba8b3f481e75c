-- From the front of a text that was read to the text. The front has one byte more than a configuration may have.
use Rattle.std.proofs.Common.{◌≡◌, inl, inr, ℕ, ◌≤◌, List, length, take, Option, None, Some, IfSome, sym, ap, subst, ◌∙◌, arith}
use Rattle.std.proofs.lemmas.Bool.{cases_lt}
use Rattle.std.proofs.lemmas.List.{length-take-le, take_all}
use Rattle.std.specs.Option.{option_map}
use Rattle.config_text.specs.Reading.{SaysSettings}
use Rattle.config_text.specs.Judging.{Because}
use Rattle.config_text.specs.declared.fault.ConfigFault.{ConfigFault}
use Rattle.config_text.specs.declared.fault.ConfigFault.TheVariants as config
use Rattle.protocol.specs.System.Configuration.{Configuration}
use Rattle.schedule_command.specs.Settings.{IsConfigFault, RefusesSettings}
use Rattle.schedule_command.specs.declared.fault.ScheduleFault.{ScheduleFault}

-- the front of the known bytes was read
pub front_read : (known : Option (List ℕ)) (n : ℕ) (front : List ℕ) → IfSome (option_map (take n) known) (λ xs. front ≡ xs) → IfSome known (λ text. front ≡ take n text)
front_read None n front h = tt
front_read (Some text) n front h = h

whole_front : (front text : List ℕ) → front ≡ take 65537 text → length front ≤ 65536 → front ≡ text
whole_front front text e few = elim (cases_lt 65536 (length text)) [
  | inl long ↦ absurd (omega (arith, few, ap length e, length-take-le 65537 text (omega (arith, long)), long))
  | inr short ↦ e ∙ take_all 65537 text (omega (arith, short))
]

pub says_all : (known : Option (List ℕ)) (front : List ℕ) (c : Configuration) (journal : ℕ) → IfSome known (λ text. front ≡ take 65537 text) → SaysSettings front c journal
    → IfSome known (λ text. SaysSettings text c journal)
says_all None front c journal e h = tt
says_all (Some text) front c journal e h = subst (λ t. SaysSettings t c journal) (whole_front front text e h.size) h

-- the fault tells of what the text isn't
refused_in : (front text : List ℕ) (why : ConfigFault) (fault : ScheduleFault) → front ≡ take 65537 text → IsConfigFault why fault
    → Because why ((c : Configuration) (journal : ℕ) → SaysSettings front c journal → ⊥) → RefusesSettings text fault
refused_in front text config.NoMemory fault e told h = subst (RefusesSettings text) (sym told) tt
refused_in front text why fault e told h =
    subst (RefusesSettings text) (sym told) (λ c journal s. h c journal (subst (λ t. SaysSettings t c journal) (sym (e ∙ take_all 65537 text (omega (arith, s.size)))) s))

pub tells_refused : (known : Option (List ℕ)) (front : List ℕ) (why : ConfigFault) (fault : ScheduleFault) → IfSome known (λ text. front ≡ take 65537 text)
    → IsConfigFault why fault → Because why ((c : Configuration) (journal : ℕ) → SaysSettings front c journal → ⊥) → IfSome known (λ text. RefusesSettings text fault)
tells_refused None front why fault e told h = tt
tells_refused (Some text) front why fault e told h = refused_in front text why fault e told h
