-- Readers of bytes that are known to spell a tuple or template: a text is read without a look at its characters.
use Rattle.std.specs.Prelude.{ℕ, List, [], ◌∷◌}
use Rattle.tuple_tree.specs.Values.{Datum, text, bytes, truth, Slot, actual}
use Rattle.tuple_tree.specs.Reading.{Reader, TaggedReader, read_as, by_tag, unknown, signed_at, wide_at, string_at}
use Rattle.tuple_tree.specs.Reading.{flag_at, formal_rows}

abbrev pub loose_rows : List (TaggedReader Datum)
loose_rows =
    (1, signed_at)
    ∷ (2, read_as text string_at)
    ∷ (3, read_as bytes string_at)
    ∷ (4, read_as truth flag_at)
    ∷ (6, wide_at)
    ∷ []

-- the value after a tag
unfoldable pub loose_at : ℕ → Reader Datum
loose_at tag bs = by_tag loose_rows unknown tag bs

-- the field after a tag
unfoldable pub loose_slot_at : ℕ → Reader Slot
loose_slot_at tag bs = by_tag formal_rows (λ tag. read_as actual (loose_at tag)) tag bs
