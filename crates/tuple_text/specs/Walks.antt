-- What the private functions that go along the bytes of fields and write their text speak of.
use Rattle.std.specs.Prelude.{ℕ, List, [], Option, Some, None, IsTrue, is_some}
use Rattle.tuple_tree.specs.Items.{TreeItem, none, with_last}
use Rattle.tuple_tree.specs.Values.{Slot, TemplateTree}
use Rattle.tuple_tree.specs.Reading.{Reader, item_at, more}
use Rattle.tuple_tree.specs.Loose.{loose_slot_at}
use Rattle.tuple_text.specs.Texts.{slot_text}
use Rattle.tuple_text.specs.Written.{item_written, items_written, more_written}

-- a field with at most so many levels in it, at the front of bytes that spell fields
unfoldable pub spelled_field_at : ℕ → Reader (TreeItem Slot)
spelled_field_at levels bs = item_at loose_slot_at levels bs

-- so many fields
unfoldable pub spelled_fields_at : ℕ → ℕ → Reader TemplateTree
spelled_fields_at levels count bs = more (item_at loose_slot_at levels) with_last count none bs

-- the texts of a field, of fields without their parentheses, and of fields with a blank before each
abbrev pub field_written : TreeItem Slot → List ℕ
field_written x = item_written slot_text x

abbrev pub fields_written : TemplateTree → List ℕ
fields_written p = items_written slot_text p

abbrev pub others_written : TemplateTree → List ℕ
others_written p = more_written slot_text p

-- Something is read.
abbrev pub IsThere : {X : Type 0} → Option X → Type 0
IsThere read = IsTrue (is_some read)

-- the text of the value that is read, and none if none is
abbrev pub text_of : {X : Type 0} → (X → List ℕ) → Option (X × List ℕ) → List ℕ
text_of text None = []
text_of text (Some x) = text x.0
