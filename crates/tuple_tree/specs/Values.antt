-- Tuples and templates, apart from where they lie in memory (Gelernter, Generative communication in Linda, TOPLAS
-- 1985, section 2: tuples of values, templates of actuals and formals). The six kinds and nesting are our own.
use Rattle.std.specs.Prelude.{ℕ, ◌+◌, ℤ, ◌<◌, Bool, true, false, List, length, slice_index}
use Rattle.std.specs.Int.{w64, w128}
use Rattle.std.specs.Int.RustNames.{FitsSigned}
use Rattle.std.specs.Str.{IsUtf8}
use Rattle.tuple_tree.specs.Items.{TreeItem, leaf, inner, Items}
use Rattle.tuple_tree.specs.Limits.{IsWithin}
use Rattle.tuple_tree.specs.declared.atoms.Kind.{Kind}
use Rattle.tuple_tree.specs.declared.atoms.Kind.TheVariants as kinds

-- a value that is no tuple
pub data Datum : Type 0 where
  number : ℤ → Datum
  text : List ℕ → Datum
  bytes : List ℕ → Datum
  truth : Bool → Datum
  wide : ℤ → Datum

-- a field that is no template: an actual value, any value, or any value of a kind
pub data Slot : Type 0 where
  actual : Datum → Slot
  any : Slot
  formal : Kind → Slot

-- a finite list of values
abbrev pub TupleTree : Type 0
TupleTree = Items Datum

-- a finite list of fields
abbrev pub TemplateTree : Type 0
TemplateTree = Items Slot

abbrev pub datum_kind : Datum → Kind
datum_kind (number n) = kinds.Number
datum_kind (text s) = kinds.Text
datum_kind (bytes s) = kinds.Bytes
datum_kind (truth b) = kinds.Truth
datum_kind (wide n) = kinds.Wide

-- the kind of a value
abbrev pub kind_of : TreeItem Datum → Kind
kind_of (leaf x) = datum_kind x
kind_of (inner t) = kinds.Tuple

-- the length of the encoding of a plain value
abbrev pub datum_length : Datum → ℕ
datum_length (number n) = 9
datum_length (text s) = 3 + length s
datum_length (bytes s) = 3 + length s
datum_length (truth b) = 2
datum_length (wide n) = 17

-- the length of the encoding of a field that is no template
abbrev pub slot_length : Slot → ℕ
slot_length (actual x) = datum_length x
slot_length any = 1
slot_length (formal k) = 1

-- Each of the numbers is below 256.
abbrev pub AreBytes : List ℕ → Type 0
AreBytes s = (i : ℕ) → slice_index s i < 256

-- Numbers have 64 bits, wide ones 128, texts are UTF-8, byte strings are bytes.
abbrev pub IsDatum : Datum → Type 0
IsDatum (number n) = FitsSigned w64 n
IsDatum (text s) = IsUtf8 s
IsDatum (bytes s) = AreBytes s
IsDatum (truth b) = Unit {0}
IsDatum (wide n) = FitsSigned w128 n

-- A text is UTF-8. All else of IsDatum holds by the program's types.
abbrev pub IsUtf8IfText : Datum → Type 0
IsUtf8IfText (text s) = IsUtf8 s
IsUtf8IfText _ = Unit {0}

-- An actual has a right value of its kind; any and a formal have none.
abbrev pub IsSlot : Slot → Type 0
IsSlot (actual x) = IsDatum x
IsSlot any = Unit {0}
IsSlot (formal k) = Unit {0}

-- whether a value is a wide number
abbrev pub is_wide : Datum → Bool
is_wide (wide n) = true
is_wide _ = false

-- whether a field is a wide number, or the formal of that kind
abbrev pub is_wide_slot : Slot → Bool
is_wide_slot (actual x) = is_wide x
is_wide_slot (formal kinds.Wide) = true
is_wide_slot _ = false

-- a tuple within the limits, as the space may hold it
abbrev pub IsTuple : TupleTree → Type 0
IsTuple t = IsWithin IsDatum datum_length t

-- a template within the limits, as an operation may ask for it
abbrev pub IsTemplate : TemplateTree → Type 0
IsTemplate p = IsWithin IsSlot slot_length p
