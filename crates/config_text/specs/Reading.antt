-- The settings that the table of a configuration's text says, each under its key.
use Rattle.std.specs.Prelude.{◌≡◌, ◌≤◌, ℕ, length, pos, List, [], ◌∷◌, codes, Option, Some, None, option_and_then, Ok, All, Contains}
use Rattle.std.specs.Str.{IsUtf8}
use Rattle.hex.specs.Hex.{decode_sized}
use Rattle.toml.specs.Data.{Data, Items, no_items, item, Members, no_members, member, get_member, as_integer, as_str, as_array}
use Rattle.toml.specs.Parse.{parse_document}
use Rattle.protocol.specs.System.Configuration.{Configuration, IsConfiguration}
use Rattle.config_text.specs.declared.reading.TheConstants.{MAX_CONFIG}

-- The number stands under the key.
abbrev pub KeyHasNumber : Members → List ℕ → ℕ → Type 0
KeyHasNumber table key n = option_and_then as_integer (get_member key table) ≡ Some (pos n)

abbrev pub IsFoundOr : ℕ → ℕ → Option Data → Type 0
IsFoundOr default n None = n ≡ default
IsFoundOr default n (Some d) = as_integer d ≡ Some (pos n)

-- The number stands under the key, or the key is missing and the number is the default.
abbrev pub HasNumberOr : Members → List ℕ → ℕ → ℕ → Type 0
HasNumberOr table key default n = IsFoundOr default n (get_member key table)

-- The digits of the seed stand under its key, two for each of its 32 bytes.
abbrev pub HasSeed : Members → List ℕ → Type 0
HasSeed table seed =
    (digits : List ℕ) × (option_and_then as_str (get_member (codes "seed") table) ≡ Some digits)
    × (decode_sized digits 32 ≡ Ok seed)

-- the numbers of an array, in order
abbrev pub AreNumbers : Items → List ℕ → Type 0
AreNumbers no_items ns = ns ≡ []
AreNumbers (item d ds) [] = ⊥
AreNumbers (item d ds) (n ∷ ns) = (as_integer d ≡ Some (pos n)) × AreNumbers ds ns

abbrev pub AreFound : List ℕ → Option Data → Type 0
AreFound ns None = ns ≡ []
AreFound ns (Some d) = (items : Items) × (as_array d ≡ Some items) × AreNumbers items ns

-- An array of the numbers stands under the key, or the key is missing and there are no numbers.
abbrev pub HasNumbers : Members → List ℕ → List ℕ → Type 0
HasNumbers table key ns = AreFound ns (get_member key table)

-- the keys that a configuration may have
abbrev pub known_keys : List (List ℕ)
known_keys =
    codes "f" ∷ codes "clients" ∷ codes "seed" ∷ codes "checkpoint" ∷ codes "faulty_replicas"
    ∷ codes "faulty_clients" ∷ codes "journal" ∷ []

-- the keys that a table has
abbrev pub keys_of : Members → List (List ℕ)
keys_of no_members = []
keys_of (member key d others) = key ∷ keys_of others

-- The table has no other keys.
abbrev pub HasKnownKeys : Members → Type 0
HasKnownKeys table = All (Contains known_keys) (keys_of table)

-- the values of a configuration, each under its key
pub record SaysParties (table : Members) (c : Configuration) : Type 0 where
  pub faults : KeyHasNumber table (codes "f") c.faults
  pub clients : KeyHasNumber table (codes "clients") c.clients
  pub seed : HasSeed table c.seed
  pub period : HasNumberOr table (codes "checkpoint") 16 c.period
  pub replicas : HasNumbers table (codes "faulty_replicas") c.faulty_replicas
  pub clients_named : HasNumbers table (codes "faulty_clients") c.faulty_clients

-- A journal has room for 1 to 65,536 entries.
abbrev pub IsJournal : ℕ → Type 0
IsJournal n = (1 ≤ n) × (n ≤ 65536)

-- The table is that of a valid configuration and of a journal.
pub record SaysAll (table : Members) (c : Configuration) (journal : ℕ) : Type 0 where
  pub known : HasKnownKeys table
  pub parties : SaysParties table c
  pub valid : IsConfiguration c
  pub journal_is : HasNumberOr table (codes "journal") 65536 journal
  pub range : IsJournal journal

-- The text is TOML and not too long, and its table is that of the configuration and the journal.
pub record SaysSettings (text : List ℕ) (c : Configuration) (journal : ℕ) : Type 0 where
  pub table : Members
  pub size : length text ≤ MAX_CONFIG
  pub utf8 : IsUtf8 text
  pub parsed : parse_document text ≡ Some table
  pub all : SaysAll table c journal
