-- The bytes of tuples and templates. Each value has one spelling: that of a list is a count and then its items,
-- each after its tag. Numbers are big-endian.
use Rattle.std.specs.Prelude.{ℕ, ℤ, Bool, true, false, List, [], ◌∷◌, ◌++◌, length}
use Rattle.std.specs.Int.{w16, w64, w128, to_be_bytes, cast_unsigned}
use Rattle.tuple_tree.specs.Items.{TreeItem, leaf, inner, Items, none, item, how_many}
use Rattle.tuple_tree.specs.Values.{Datum, number, text, bytes, truth, wide, Slot, actual, any, formal, TupleTree}
use Rattle.tuple_tree.specs.Values.{TemplateTree}
use Rattle.tuple_tree.specs.declared.atoms.Kind.{Kind}
use Rattle.tuple_tree.specs.declared.atoms.Kind.TheVariants as kinds

-- two bytes of length, and that many bytes
abbrev pub string : List ℕ → List ℕ
string s = to_be_bytes w16 (length s) ++ s

-- the byte of a truth value: 00 false, 01 true
abbrev pub flag : Bool → ℕ
flag false = 0
flag true = 1

-- 16 bytes, two's complement
unfoldable pub wide_bytes : ℤ → List ℕ
wide_bytes n = to_be_bytes w128 (cast_unsigned w128 n)

-- tags 01 to 04, and 06
abbrev pub datum_spelling : Datum → List ℕ
datum_spelling (number n) = 1 ∷ to_be_bytes w64 (cast_unsigned w64 n)
datum_spelling (text s) = 2 ∷ string s
datum_spelling (bytes s) = 3 ∷ string s
datum_spelling (truth b) = 4 ∷ flag b ∷ []
datum_spelling (wide n) = 6 ∷ wide_bytes n

-- the tag of the formal of a kind: 11 to 16
abbrev pub formal_tag : Kind → ℕ
formal_tag kinds.Number = 0x11
formal_tag kinds.Text = 0x12
formal_tag kinds.Bytes = 0x13
formal_tag kinds.Truth = 0x14
formal_tag kinds.Tuple = 0x15
formal_tag kinds.Wide = 0x16

-- tags 10 to 16 beside those of values
abbrev pub slot_spelling : Slot → List ℕ
slot_spelling (actual x) = datum_spelling x
slot_spelling any = 0x10 ∷ []
slot_spelling (formal k) = formal_tag k ∷ []

-- A nested list has tag 05.
module _ {L : Type 0} (leaf_spelling : L → List ℕ) where
  abbrev mutual
    pub item_spelling : TreeItem L → List ℕ
    item_spelling (leaf x) = leaf_spelling x
    item_spelling (inner xs) = 5 ∷ how_many xs ∷ items_spelling xs

    -- the items one after another, without their count
    pub items_spelling : Items L → List ℕ
    items_spelling none = []
    items_spelling (item x xs) = item_spelling x ++ items_spelling xs

  -- a count byte, and the items
  abbrev pub whole_spelling : Items L → List ℕ
  whole_spelling xs = how_many xs ∷ items_spelling xs

-- a value of a tuple, and a field of a template
abbrev pub value_spelling : TreeItem Datum → List ℕ
value_spelling v = item_spelling datum_spelling v

abbrev pub field_spelling : TreeItem Slot → List ℕ
field_spelling f = item_spelling slot_spelling f

-- a count byte, and the values of the tuple
abbrev pub tuple_spelling : TupleTree → List ℕ
tuple_spelling t = whole_spelling datum_spelling t

-- a count byte, and the fields of the template
abbrev pub template_spelling : TemplateTree → List ℕ
template_spelling p = whole_spelling slot_spelling p
