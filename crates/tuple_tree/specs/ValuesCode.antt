-- Codes of tuples and templates. A proof tells them apart by these.
use Rattle.std.specs.Prelude.{◌≡◌, ◌⊎◌, ℕ, zero, suc, ℤ, Bool, List, refl}
use Rattle.std.specs.Coded.{Coded, code_by, coded_list, coded⊎, coded_ℤ, coded_ℕ, coded_bool}
use Rattle.std.proofs.Common.{inl, inr}
use Rattle.tuple_tree.specs.ItemsCode.{coded_items}
use Rattle.tuple_tree.specs.Values.{Datum, number, text, bytes, truth, wide, Slot, actual, any, formal, TupleTree}
use Rattle.tuple_tree.specs.Values.{TemplateTree}
use Rattle.tuple_tree.specs.declared.atoms.Kind.{Kind}
use Rattle.tuple_tree.specs.declared.atoms.Kind.TheVariants as kinds

abbrev pub DatumParts : Type 0
DatumParts = ℤ ⊎ (List ℕ ⊎ (List ℕ ⊎ (Bool ⊎ ℤ)))

abbrev pub datum_parts : Datum → DatumParts
datum_parts (number n) = inl n
datum_parts (text s) = inr (inl s)
datum_parts (bytes s) = inr (inr (inl s))
datum_parts (truth b) = inr (inr (inr (inl b)))
datum_parts (wide n) = inr (inr (inr (inr n)))

abbrev pub datum_from : DatumParts → Datum
datum_from (inl n) = number n
datum_from (inr (inl s)) = text s
datum_from (inr (inr (inl s))) = bytes s
datum_from (inr (inr (inr (inl b)))) = truth b
datum_from (inr (inr (inr (inr n)))) = wide n

pub datum_from-parts : (x : Datum) → datum_from (datum_parts x) ≡ x
datum_from-parts (number n) = refl
datum_from-parts (text s) = refl
datum_from-parts (bytes s) = refl
datum_from-parts (truth b) = refl
datum_from-parts (wide n) = refl

abbrev pub datum_code : Coded Datum
datum_code =
    code_by DatumParts
    (coded⊎ coded_ℤ (coded⊎ (coded_list coded_ℕ) (coded⊎ (coded_list coded_ℕ) (coded⊎ coded_bool coded_ℤ))))
    datum_parts datum_from datum_from-parts

abbrev pub kind_number : Kind → ℕ
kind_number kinds.Number = 0
kind_number kinds.Text = 1
kind_number kinds.Bytes = 2
kind_number kinds.Truth = 3
kind_number kinds.Tuple = 4
kind_number kinds.Wide = 5

abbrev pub kind_from : ℕ → Kind
kind_from zero = kinds.Number
kind_from (suc zero) = kinds.Text
kind_from (suc (suc zero)) = kinds.Bytes
kind_from (suc (suc (suc zero))) = kinds.Truth
kind_from (suc (suc (suc (suc zero)))) = kinds.Tuple
kind_from (suc (suc (suc (suc (suc n))))) = kinds.Wide

pub kind_from-number : (k : Kind) → kind_from (kind_number k) ≡ k
kind_from-number kinds.Number = refl
kind_from-number kinds.Text = refl
kind_from-number kinds.Bytes = refl
kind_from-number kinds.Truth = refl
kind_from-number kinds.Tuple = refl
kind_from-number kinds.Wide = refl

abbrev pub kind_code : Coded Kind
kind_code = code_by ℕ coded_ℕ kind_number kind_from kind_from-number

abbrev pub SlotParts : Type 0
SlotParts = Datum ⊎ (Kind ⊎ Bool)

abbrev pub slot_parts : Slot → SlotParts
slot_parts (actual x) = inl x
slot_parts (formal k) = inr (inl k)
slot_parts any = inr (inr Bool.true)

abbrev pub slot_from : SlotParts → Slot
slot_from (inl x) = actual x
slot_from (inr (inl k)) = formal k
slot_from (inr (inr b)) = any

pub slot_from-parts : (s : Slot) → slot_from (slot_parts s) ≡ s
slot_from-parts (actual x) = refl
slot_from-parts (formal k) = refl
slot_from-parts any = refl

abbrev pub slot_code : Coded Slot
slot_code = code_by SlotParts (coded⊎ datum_code (coded⊎ kind_code coded_bool)) slot_parts slot_from slot_from-parts

abbrev pub tuple_code : Coded TupleTree
tuple_code = coded_items datum_code

abbrev pub template_code : Coded TemplateTree
template_code = coded_items slot_code
