-- What the private functions that look at the values of a tuple or template in their bytes speak of.
use Rattle.std.specs.Prelude.{List, ℕ, Option, Some, option_map}
use Rattle.tuple_tree.specs.Values.{Datum}
use Rattle.tuple_tree.specs.Reading.{◌>>=◌, byte_at}
use Rattle.tuple_tree.specs.Loose.{loose_at}
use Rattle.tuple_tree.specs.Spelling.{datum_spelling}

-- the value at the front of bytes, unless a list, a formal or nothing stands there
unfoldable pub front_at : List ℕ → Option Datum
front_at bs = byte_at bs >>= λ b. loose_at b.0 b.1 >>= λ x. Some x.0

-- its spelling
abbrev pub front_spelling : List ℕ → Option (List ℕ)
front_spelling bs = option_map (λ x. datum_spelling x) (front_at bs)
