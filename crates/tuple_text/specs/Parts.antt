-- Definitions for the private methods of the reader: the parts of a tuple, and those of a template.
use Rattle.std.specs.Prelude.{◌≡◌, ℕ, Bool, codes, Result, Ok, Err, Option, option_map}
use Rattle.tuple_tree.specs.Items.{TreeItem, inner, Items}
use Rattle.tuple_tree.specs.Seen.{seen_datum}
use Rattle.tuple_tree.specs.Values.{Datum, text, bytes, Slot, TupleTree, TemplateTree, datum_length, slot_length}
use Rattle.tuple_text.specs.Reading.{◌>>=◌, got, stop, Reading, named, datum, slot, actual_slot, begins_datum}
use Rattle.tuple_text.specs.Reading.{begins_slot, full, further, no_room, kept_with, leaf_item, item_at, items_at}
use Rattle.tuple_text.specs.Reading.{close, ReadingReturns}
use Rattle.tuple_text.specs.declared.literals.Literal.{Literal}
use Rattle.tuple_text.specs.declared.literals.Literal.TheVariants.{Scalar, Text, Bytes}
use Rattle.tuple_text.specs.declared.reader.Reader.{Reader}
use Rattle.tuple_text.specs.declared.reader.Stop.{Stop}
use Rattle.tuple_text.specs.declared.reader.Stop.TheVariants.{NoMemory}

-- The method reads as the definition does, unless memory ran out. After it the reader has the bytes that are left.
abbrev pub MethodReads : {X V : Type 0} → (X → V) → Result X Stop → Reading V → Reader → Reader → Type 0
MethodReads view result reading old new = ReadingReturns view result (reading old.rest.now) new.rest.now

-- the value that was read
abbrev pub datum_read : {A : Type 0} → Literal A → Datum
datum_read (Scalar x) = seen_datum x
datum_read (Text v) = text v.items
datum_read (Bytes v) = bytes v.items

-- an item that is no list
abbrev pub plain_value : Reading (Option (TreeItem Datum))
plain_value = leaf_item datum_length begins_datum datum

abbrev pub plain_slot : Reading (Option (TreeItem Slot))
plain_slot = leaf_item slot_length begins_slot slot

-- an item with so many levels below it
abbrev pub value_at : ℕ → Reading (Option (TreeItem Datum))
value_at levels = item_at datum_length begins_datum datum levels

abbrev pub field_at : ℕ → Reading (Option (TreeItem Slot))
field_at levels = item_at slot_length begins_slot slot levels

-- the items up to the closing parenthesis
abbrev pub values_at : ℕ → Reading (Option TupleTree)
values_at levels = items_at datum_length begins_datum datum levels

abbrev pub fields_at : ℕ → Reading (Option TemplateTree)
fields_at levels = items_at slot_length begins_slot slot levels

-- whether an item follows so many others
abbrev pub value_follows : ℕ → ℕ → Bool → Reading Bool
value_follows levels count free = further (no_room begins_datum levels) count free

abbrev pub field_follows : ℕ → ℕ → Bool → Reading Bool
field_follows levels count free = further (no_room begins_slot levels) count free

-- the closing parenthesis of a nested list, which is then an item
abbrev pub closed : {L : Type 0} → Option (Items L) → Reading (Option (TreeItem L))
closed t = named (codes ")") (option_map inner t)

-- the closing parenthesis of the outermost list
abbrev pub close_tuple : Option TupleTree → Reading TupleTree
close_tuple t = close datum_length begins_datum datum t

abbrev pub close_template : Option TemplateTree → Reading TemplateTree
close_template p = close slot_length begins_slot slot p

-- a list and an item at its end, either of which may be too long
abbrev pub tuple_with : Option TupleTree → Option (TreeItem Datum) → Option TupleTree
tuple_with t v = kept_with datum_length t v

abbrev pub template_with : Option TemplateTree → Option (TreeItem Slot) → Option TemplateTree
template_with p f = kept_with slot_length p f

-- a list with the next item at its end
abbrev pub adding : {T X : Type 0} → (T → X → T) → Reading X → T → Reading T
adding add one t bs = one bs >>= λ x rest. got (add t x) rest

abbrev pub adding_atom : Option TupleTree → Reading (Option TupleTree)
adding_atom t = adding tuple_with plain_value t

abbrev pub adding_slot : Option TemplateTree → Reading (Option TemplateTree)
adding_slot p = adding template_with plain_slot p

abbrev pub adding_actual : Option TemplateTree → Reading (Option TemplateTree)
adding_actual p = adding template_with (leaf_item slot_length begins_slot actual_slot) p

abbrev pub adding_tuple : Option TupleTree → Option TupleTree → Reading (Option TupleTree)
adding_tuple nested t = adding tuple_with (closed nested) t

abbrev pub adding_template : Option TemplateTree → Option TemplateTree → Reading (Option TemplateTree)
adding_template nested p = adding template_with (closed nested) p

abbrev pub adding_value : ℕ → Option TupleTree → Reading (Option TupleTree)
adding_value levels t = adding tuple_with (value_at levels) t

abbrev pub adding_field : ℕ → Option TemplateTree → Reading (Option TemplateTree)
adding_field levels p = adding template_with (field_at levels) p

-- The list is this one now, unless memory ran out.
abbrev pub ListBecomes : {T : Type 0} → Result (Unit {0}) Stop → T → T → Type 0
ListBecomes (Ok _) whole new = new ≡ whole
ListBecomes (Err s) whole new = s ≡ NoMemory

-- No further item has room here, for this reason.
abbrev pub HasNoValueRoom : ℕ → Reader → Stop → Type 0
HasNoValueRoom levels reader why =
    full {V = Option TupleTree} (no_room begins_datum levels) reader.rest.now ≡ stop why reader.rest.now

abbrev pub HasNoFieldRoom : ℕ → Reader → Stop → Type 0
HasNoFieldRoom levels reader why =
    full {V = Option TemplateTree} (no_room begins_slot levels) reader.rest.now ≡ stop why reader.rest.now
