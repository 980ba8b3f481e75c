-- The end of a padded text (FIPS 180-4, section 5.1.1).
use Rattle.std.specs.Prelude.{ℕ, ◌+◌, ◌-◌, ◌%◌, List, ◌∷◌, ◌++◌, length, replicate}
use Rattle.std.specs.Int.{w64, to_be_bytes}

-- what follows the whole blocks of a text of so many bits, of which these bytes are left
abbrev pub padded_tail : List ℕ → ℕ → List ℕ
padded_tail rest bits = rest ++ (0x80 ∷ (replicate ((119 - length rest) % 64) 0 ++ to_be_bytes w64 bits))

-- its length, where so many bytes are left: 64 or 128
abbrev pub tail_length : ℕ → ℕ
tail_length rest = rest + 9 + (119 - rest) % 64
