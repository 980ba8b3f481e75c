-- The request of a subcommand, by the arguments and options that were found.
use Rattle.std.specs.Prelude.{◌≡◌, ◌↔◌, ◌⊎◌, ◌^◌, ◌-◌, ℕ, Bool, true, false, List, [], Option, Some, None, MatchOption, codes, option_map, unwrap_or, ⊤}
use Rattle.clap.specs.Matches.{found_of, first_value, matched_of, one_text, raw_values}
use Rattle.clap.specs.declared.parser.matches.ArgMatches.{ArgMatches}
use Rattle.command_line.specs.Drills.{AreDrills}
use Rattle.command_line.specs.declared.NoRequest.{NoRequest}
use Rattle.command_line.specs.declared.NoRequest.TheVariants as reasons
use Rattle.command_line.specs.declared.Positions.{Positions}
use Rattle.command_line.specs.declared.Printed.{Printed}
use Rattle.command_line.specs.declared.Printed.TheVariants.{Report, Trace, Picture}
use Rattle.command_line.specs.declared.Request.{Request}
use Rattle.command_line.specs.declared.Request.TheVariants.{Local, Show, Run, Schedule, Keys, Replica, Client}
use Rattle.command_line.specs.declared.SpaceVersion.{SpaceVersion}
use Rattle.command_line.specs.declared.SpaceVersion.TheVariants.{Two}
use Rattle.std.specs.Str.Parse.{digits_value, without_leading_plus}

-- The version is 2 exactly if the option `--space` has the value 2.
abbrev pub AsksFor : ArgMatches → SpaceVersion → Type 0
AsksFor given version = (version ≡ Two) ↔ (first_value (found_of given) (codes "space") ≡ Some (codes "2"))

-- The argument of this name has this value.
abbrev pub HasValue : ArgMatches → List ℕ → List ℕ → Type 0
HasValue given name value = first_value (found_of given) name ≡ Some value

-- ---- flags

-- The words have the flag of this name, or don't have it.
abbrev pub IsSet : ArgMatches → List ℕ → Type 0
IsSet given name = one_text (found_of given) name ≡ Some (codes "true")

abbrev pub IsUnset : ArgMatches → List ℕ → Type 0
IsUnset given name = one_text (found_of given) name ≡ Some (codes "false")

pub record IsFlag (given : ArgMatches) (name : List ℕ) (flag : Bool) : Type 0 where
  pub set : IsSet given name → flag ≡ true
  pub unset : IsUnset given name → flag ≡ false

-- ---- what is printed

-- The position has the value of the option of this name, or the default. `clap` lets only numbers through.
abbrev pub IsPosition : ArgMatches → List ℕ → ℕ → ℕ → Type 0
IsPosition given name default position =
    MatchOption (one_text (found_of given) name) (position ≡ default)
    (λ text. (position ≡ digits_value 10 (without_leading_plus text)) ⊎ (position ≡ default))

-- All entries, if the words don't say which.
abbrev pub ArePositions : ArgMatches → Positions → Type 0
ArePositions given positions = IsPosition given (codes "from") 0 positions.from
    × IsPosition given (codes "to") (2 ^ 64 - 1) positions.to

abbrev pub IsPrinted : ArgMatches → Printed → Type 0
IsPrinted given (Picture positions) = (IsUnset given (codes "picture") → ⊥) × ArePositions given positions
IsPrinted given Trace = (IsSet given (codes "picture") → ⊥) × (IsUnset given (codes "trace") → ⊥)
IsPrinted given Report = (IsSet given (codes "picture") → ⊥) × (IsSet given (codes "trace") → ⊥)

-- ---- where a client's life begins

-- The number has the value of the option `--above`, or there is none. `clap` lets only numbers through.
abbrev pub IsAbove : ArgMatches → Option ℕ → Type 0
IsAbove given above =
    MatchOption (one_text (found_of given) (codes "above")) (above ≡ None)
    (λ text. (above ≡ Some (digits_value 10 (without_leading_plus text))) ⊎ (above ≡ None))

-- ---- requests

-- the values of the option `--drill`
abbrev pub drill_values : ArgMatches → List (List ℕ)
drill_values given = unwrap_or (option_map raw_values (matched_of (found_of given) (codes "drill"))) []

-- The request of the subcommand of this name: each text has the value of its own argument, and what else it has is of
-- the option of that name.
abbrev pub IsRequest : List ℕ → ArgMatches → Request → Type 0
IsRequest name given (Local script space keeps_going) = (name ≡ codes "local")
    × HasValue given (codes "SCRIPT") script.now × AsksFor given space × IsFlag given (codes "keep-going") keeps_going
IsRequest name given (Show digits) = (name ≡ codes "show") × HasValue given (codes "HEX") digits.now
IsRequest name given (Run config script drills has_summary) = (name ≡ codes "run")
    × HasValue given (codes "CONFIG") config.now × HasValue given (codes "SCRIPT") script.now
    × AreDrills (drill_values given) drills × IsFlag given (codes "summary") has_summary
IsRequest name given (Schedule config file printed) = (name ≡ codes "schedule")
    × HasValue given (codes "CONFIG") config.now × HasValue given (codes "FILE") file.now × IsPrinted given printed
IsRequest name given (Keys config folder) = (name ≡ codes "keys")
    × HasValue given (codes "CONFIG") config.now × HasValue given (codes "FOLDER") folder.now
IsRequest name given (Replica keys) = (name ≡ codes "replica") × HasValue given (codes "KEYS") keys.now
IsRequest name given (Client keys records_in records_out above) = (name ≡ codes "client")
    × HasValue given (codes "KEYS") keys.now × HasValue given (codes "IN") records_in.now
    × HasValue given (codes "OUT") records_out.now × IsAbove given above

-- ---- no request

-- The help or the version is asked for.
abbrev pub IsShown : NoRequest → Type 0
IsShown reasons.Shown = ⊤
IsShown (reasons.Unprinted error) = ⊤
IsShown reasons.Wrong = ⊥
IsShown reasons.NoMemory = ⊥
