-- The text of a party's file.
use Rattle.std.specs.Prelude.{ℕ, List, [], ◌∷◌, ◌++◌, codes, flat_map, Option, Some, None}
use Rattle.std.specs.Fmt.{decimal}
use Rattle.hex.specs.Hex.{encode_lower}
use Rattle.party_keys.specs.PartyData.{PartyData}

-- the line of a number
unfoldable pub number_line : List ℕ → ℕ → List ℕ
number_line name n = name ++ (codes " = " ++ (decimal n ++ 10 ∷ []))

-- a key in an array, on a line of its own
abbrev pub key_text : List ℕ → List ℕ
key_text key = codes "\n    \"" ++ (encode_lower key ++ codes "\",")

-- the lines of an array of keys
unfoldable pub keys_lines : List ℕ → List (List ℕ) → List ℕ
keys_lines name keys = name ++ (codes " = [" ++ (flat_map key_text keys ++ codes "\n]\n"))

-- the line of a signing seed, if there is one
unfoldable pub seed_line : Option (List ℕ) → List ℕ
seed_line None = []
seed_line (Some seed) = codes "signing_seed = \"" ++ (encode_lower seed ++ codes "\"\n")

-- the file of a party
abbrev pub file_text : PartyData → List ℕ
file_text k =
    number_line (codes "checkpoint") k.period
    ++ (number_line (codes "clients") k.clients
    ++ (number_line (codes "f") k.faults
    ++ (keys_lines (codes "from") k.from
    ++ (number_line (codes "party") k.party
    ++ (keys_lines (codes "public") k.publics
    ++ (seed_line k.seed
    ++ keys_lines (codes "to") k.to))))))
