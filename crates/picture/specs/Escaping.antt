-- Text within XML 1.0 (Bray and others, W3C Recommendation, fifth edition, on characters and on predefined entities),
-- as lists of characters.
use Rattle.std.specs.Prelude.{◌≡◌, ℕ, Bool, ◌==◌, ◌||◌, ◌&&◌, not, nat_le, nat_lt, if◌then◌else◌, List, [], ◌∷◌, ◌++◌, codes, flat_map}
use Rattle.std.specs.List.{Contains}

-- The production Char: the tab, the line feed, the carriage return, and all from the blank on except the surrogates,
-- U+FFFE and U+FFFF.
abbrev pub is_allowed : ℕ → Bool
is_allowed c =
    c == 9 || c == 10 || c == 13 || (nat_le 32 c && nat_lt c 0xd800) || (nat_le 0xe000 c && nat_le c 0xfffd)
    || (nat_le 0x10000 c && nat_le c 0x10ffff)

-- The replacement character stands for one that XML does not allow.
abbrev pub allowed : ℕ → ℕ
allowed c = if is_allowed c then c else 0xfffd

-- the text of a character
abbrev pub escaped_character : ℕ → List ℕ
escaped_character c =
    if c == 38 then codes "&amp;"
    else (if c == 60 then codes "&lt;"
    else (if c == 62 then codes "&gt;"
    else (if c == 34 then codes "&quot;"
    else (if c == 39 then codes "&apos;" else allowed c ∷ []))))

abbrev pub escaped_text : List ℕ → List ℕ
escaped_text cs = flat_map escaped_character cs

-- ---- properties of escaped texts

-- a character of XML that begins no tag, ends none, and ends no attribute
abbrev pub is_plain_character : ℕ → Bool
is_plain_character c = is_allowed c && not (c == 60 || c == 62 || c == 34 || c == 39)

abbrev pub entities : List (List ℕ)
entities = codes "&amp;" ∷ codes "&lt;" ∷ codes "&gt;" ∷ codes "&quot;" ∷ codes "&apos;" ∷ []

abbrev pub BeginsEntity : List ℕ → Type 0
BeginsEntity cs = (entity rest : List ℕ) × Contains entities entity × (cs ≡ entity ++ rest)

-- Each `&` of the text begins an entity.
abbrev pub EntitiesBegin : List ℕ → Type 0
EntitiesBegin [] = Unit {0}
EntitiesBegin (c ∷ cs) = (c ≡ 38 → BeginsEntity (c ∷ cs)) × EntitiesBegin cs
