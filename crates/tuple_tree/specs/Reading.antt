-- Readers of the tree at the front of bytes. They give it with the bytes after it, or None if none stands there.
-- Models and the contracts of private functions use these; those of public functions use Spelling alone.
use Rattle.std.specs.Prelude.{ℕ, zero, suc, Bool, true, false, ◌==◌, nat_lt, if◌then◌else◌, List, [], ◌∷◌, ◌++◌, length}
use Rattle.std.specs.Prelude.{take, drop, Option, Some, None}
use Rattle.std.specs.Int.{w64, w128, cast_signed}
use Rattle.std.specs.Str.{is_utf8}
use Rattle.byteorder.specs.Endian.{big_number}
use Rattle.tuple_tree.specs.Items.{TreeItem, leaf, inner, Items, none, with_last}
use Rattle.tuple_tree.specs.Values.{Datum, number, text, bytes, truth, wide, Slot, actual, any, formal, TupleTree}
use Rattle.tuple_tree.specs.Values.{TemplateTree}
use Rattle.tuple_tree.specs.declared.atoms.Kind.TheVariants as kinds

infixl 10 ◌>>=◌
-- The next step goes on from what the first gave; if that is None, it ends with None.
abbrev pub ◌>>=◌ : {A B : Type 0} → Option A → (A → Option B) → Option B
None >>= f = None
(Some x) >>= f = f x

-- a reader of a value at the front of bytes, which gives it with the bytes after it, or None
abbrev pub Reader : Type 0 → Type 0
Reader A = List ℕ → Option (A × List ℕ)

-- the reader of A, with f applied to the value
abbrev pub read_as : {A B : Type 0} → (A → B) → Reader A → Reader B
read_as f at bs = at bs >>= λ x. Some (f x.0, x.1)

-- a value that takes no bytes
abbrev pub alone : {A : Type 0} → A → Reader A
alone x bs = Some (x, bs)

-- A tag, and the reader of the bytes after it.
abbrev pub TaggedReader : Type 0 → Type 0
TaggedReader A = ℕ × Reader A

-- the reader of the first row that has the tag, or the other reader
abbrev pub by_tag : {A : Type 0} → List (TaggedReader A) → (ℕ → Reader A) → ℕ → Reader A
by_tag [] other tag bs = other tag bs
by_tag (row ∷ rows) other tag bs = if tag == row.0 then row.1 bs else by_tag rows other tag bs

-- for a tag that no row has
abbrev pub unknown : {A : Type 0} → ℕ → Reader A
unknown tag bs = None

-- the bytes after the value
abbrev pub rest_of : {A : Type 0} → Option (A × List ℕ) → Option (List ℕ)
rest_of None = None
rest_of (Some x) = Some x.1

-- n more values; grow adds each to the state
abbrev pub more : {X S : Type 0} → Reader X → (S → X → S) → ℕ → S → Reader S
more at grow zero s bs = Some (s, bs)
more at grow (suc n) s bs = at bs >>= λ x. more at grow n (grow s x.0) x.1

-- one byte
abbrev pub byte_at : Reader ℕ
byte_at [] = None
byte_at (b ∷ bs) = Some (b, bs)

-- n bytes
unfoldable pub bytes_at : ℕ → Reader (List ℕ)
bytes_at n bs = if nat_lt (length bs) n then None else Some (take n bs, drop n bs)

-- a number of n bytes
unfoldable pub number_of : ℕ → Reader ℕ
number_of n bs = if nat_lt (length bs) n then None else Some (big_number n bs, drop n bs)

-- two bytes of length, and that many bytes
unfoldable pub string_at : Reader (List ℕ)
string_at bs = number_of 2 bs >>= λ n. bytes_at n.0 n.1

-- two bytes of length, and that many bytes of UTF-8
unfoldable pub text_at : Reader (List ℕ)
text_at bs = string_at bs >>= λ s. if is_utf8 s.0 then Some s else None

-- the truth value that a byte spells, with the bytes after it: 00 false, 01 true
abbrev pub flag_of : ℕ → List ℕ → Option (Bool × List ℕ)
flag_of b rest = if b == 0 then Some (false, rest) else (if b == 1 then Some (true, rest) else None)

-- a truth value of one byte
unfoldable pub flag_at : Reader Bool
flag_at bs = byte_at bs >>= λ b. flag_of b.0 b.1

-- a signed number of 64 bits
abbrev pub signed_at : Reader Datum
signed_at = read_as (λ n. number (cast_signed w64 n)) (number_of 8)

-- a signed number of 128 bits
abbrev pub wide_at : Reader Datum
wide_at = read_as (λ n. wide (cast_signed w128 n)) (number_of 16)

-- the readers of plain values, by their tags 01 to 04 and 06
abbrev pub datum_rows : List (TaggedReader Datum)
datum_rows =
    (1, signed_at)
    ∷ (2, read_as text text_at)
    ∷ (3, read_as bytes string_at)
    ∷ (4, read_as truth flag_at)
    ∷ (6, wide_at)
    ∷ []

-- the value after a tag
unfoldable pub datum_at : ℕ → Reader Datum
datum_at tag bs = by_tag datum_rows unknown tag bs

-- the readers of any value and of formals, by their tags 10 to 16
abbrev pub formal_rows : List (TaggedReader Slot)
formal_rows =
    (0x10, alone any)
    ∷ (0x11, alone (formal kinds.Number))
    ∷ (0x12, alone (formal kinds.Text))
    ∷ (0x13, alone (formal kinds.Bytes))
    ∷ (0x14, alone (formal kinds.Truth))
    ∷ (0x15, alone (formal kinds.Tuple))
    ∷ (0x16, alone (formal kinds.Wide))
    ∷ []

-- the field after a tag: that of a formal, or else the actual field of a value
unfoldable pub slot_at : ℕ → Reader Slot
slot_at tag bs = by_tag formal_rows (λ tag. read_as actual (datum_at tag)) tag bs

-- the actual field after a tag
abbrev pub actual_at : ℕ → Reader (TreeItem Slot)
actual_at tag = read_as leaf (read_as actual (datum_at tag))

module _ {L : Type 0} (leaf_at : ℕ → Reader L) where
  -- an item, in which inner_at reads the bytes after a tag 5
  unfoldable pub item_with : Reader (TreeItem L) → Reader (TreeItem L)
  item_with inner_at bs = byte_at bs >>= λ x. if x.0 == 5 then inner_at x.1 else read_as leaf (leaf_at x.0) x.1

-- a count and so many items
unfoldable pub items_with : {L : Type 0} → Reader (TreeItem L) → Reader (Items L)
items_with item_at bs = byte_at bs >>= λ n. if nat_lt 32 n.0 then None else more item_at with_last n.0 none n.1

-- no item, as below the last level that is allowed
unfoldable pub nothing : {L : Type 0} → Reader (TreeItem L)
nothing bs = None

module _ {L : Type 0} (leaf_at : ℕ → Reader L) where
  -- the bytes after a tag 5, with at most so many levels
  unfoldable pub inner_at : ℕ → Reader (TreeItem L)
  inner_at zero = nothing
  inner_at (suc levels) = read_as inner (items_with (item_with leaf_at (inner_at levels)))

  -- an item with at most so many levels in it
  abbrev pub item_at : ℕ → Reader (TreeItem L)
  item_at levels = item_with leaf_at (inner_at levels)

  -- items with at most so many levels in them
  abbrev pub items_at : ℕ → Reader (Items L)
  items_at levels = items_with (item_at levels)

-- a value within the first limit bytes
unfoldable pub framed : {A : Type 0} → ℕ → Reader A → Reader A
framed limit at bs = at (take limit bs) >>= λ x. Some (x.0, x.1 ++ drop limit bs)

-- a tuple within the limits
abbrev pub tuple_at : Reader TupleTree
tuple_at = framed 1024 (items_at datum_at 7)

-- a template within the limits
abbrev pub template_at : Reader TemplateTree
template_at = framed 1024 (items_at slot_at 7)
