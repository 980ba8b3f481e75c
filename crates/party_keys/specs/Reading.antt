-- What the table of a party's file says, each under its key.
use Rattle.std.specs.Prelude.{◌≡◌, ◌≤◌, ℕ, length, pos, List, [], ◌∷◌, codes, Option, Some, None, option_and_then, Ok, All, Contains}
use Rattle.std.specs.Str.{IsUtf8}
use Rattle.hex.specs.Hex.{decode_sized}
use Rattle.toml.specs.Data.{Data, Items, no_items, item, Members, no_members, member, get_member, as_integer, as_str, as_array}
use Rattle.toml.specs.Parse.{parse_document}
use Rattle.party_keys.specs.PartyData.{PartyData, IsPartyData}
use Rattle.party_keys.specs.declared.reading.TheConstants.{MAX_FILE}

-- The number stands under the key.
abbrev pub KeyHasNumber : Members → List ℕ → ℕ → Type 0
KeyHasNumber table name n = option_and_then as_integer (get_member name table) ≡ Some (pos n)

-- The value is a text of 64 hexadecimal digits, two for each byte.
abbrev pub IsKeyText : Data → List ℕ → Type 0
IsKeyText d key = (digits : List ℕ) × (as_str d ≡ Some digits) × (decode_sized digits 32 ≡ Ok key)

-- the keys of an array, in order
abbrev pub AreKeyTexts : Items → List (List ℕ) → Type 0
AreKeyTexts no_items keys = keys ≡ []
AreKeyTexts (item d ds) [] = ⊥
AreKeyTexts (item d ds) (key ∷ keys) = IsKeyText d key × AreKeyTexts ds keys

-- An array of the keys stands under this one.
abbrev pub HasKeys : Members → List ℕ → List (List ℕ) → Type 0
HasKeys table name keys =
    (items : Items) × (option_and_then as_array (get_member name table) ≡ Some items) × AreKeyTexts items keys

-- The seed stands there, or nothing does and there is none.
abbrev pub IsFoundSeed : Option (List ℕ) → Option Data → Type 0
IsFoundSeed seed None = seed ≡ None
IsFoundSeed seed (Some d) = (key : List ℕ) × (seed ≡ Some key) × IsKeyText d key

abbrev pub HasSeed : Members → Option (List ℕ) → Type 0
HasSeed table seed = IsFoundSeed seed (get_member (codes "signing_seed") table)

-- the keys that the file of a party may have
abbrev pub known_keys : List (List ℕ)
known_keys =
    codes "checkpoint" ∷ codes "clients" ∷ codes "f" ∷ codes "from" ∷ codes "party" ∷ codes "public"
    ∷ codes "signing_seed" ∷ codes "to" ∷ []

-- the keys that a table has
abbrev pub names_in : Members → List (List ℕ)
names_in no_members = []
names_in (member name d others) = name ∷ names_in others

-- The table has no other keys.
abbrev pub HasKnownKeys : Members → Type 0
HasKnownKeys table = All (Contains known_keys) (names_in table)

-- what a party may know, each under its key
pub record SaysParty (table : Members) (k : PartyData) : Type 0 where
  pub party : KeyHasNumber table (codes "party") k.party
  pub faults : KeyHasNumber table (codes "f") k.faults
  pub clients : KeyHasNumber table (codes "clients") k.clients
  pub period : KeyHasNumber table (codes "checkpoint") k.period
  pub from : HasKeys table (codes "from") k.from
  pub to : HasKeys table (codes "to") k.to
  pub publics : HasKeys table (codes "public") k.publics
  pub seed : HasSeed table k.seed

-- The table is that of a party's file.
pub record SaysAll (table : Members) (k : PartyData) : Type 0 where
  pub known : HasKnownKeys table
  pub party : SaysParty table k
  pub valid : IsPartyData k

-- The text is TOML and not too long, and its table is that of a party's file.
pub record SaysFile (text : List ℕ) (k : PartyData) : Type 0 where
  pub table : Members
  pub size : length text ≤ MAX_FILE
  pub utf8 : IsUtf8 text
  pub parsed : parse_document text ≡ Some table
  pub all : SaysAll table k
