-- The leaves of tuples and templates at the front of bytes.
use Rattle.std.proofs.Common.{◌≡◌, ℕ, suc, ℤ, Bool, ◌+◌, ◌^◌, ◌<◌, ◌≤◌, List, [], ◌∷◌, ◌++◌, length, Some, ap, refl}
use Rattle.std.proofs.Common.{◌∙◌, arith, length-append}
use Rattle.std.proofs.lemmas.Int.{to_z-of_z, of_z-to_z}
use Rattle.std.specs.Int.{w16, w64, w128, to_be_bytes, cast_unsigned, cast_signed}
use Rattle.std.specs.Str.{IsUtf8}
use borrow.Author.Gap.{read_sfits}
use mir.ValLaws.{of_z_fits}
use Rattle.byteorder.specs.Numbers.{length-bytes_high_first}
use Rattle.tuple_tree.specs.Items.{TreeItem, leaf}
use Rattle.tuple_tree.specs.Values.{Datum, number, text, bytes, truth, wide, Slot, actual, any, formal, datum_length}
use Rattle.tuple_tree.specs.Values.{slot_length, IsDatum, IsSlot, AreBytes}
use Rattle.tuple_tree.specs.declared.atoms.Kind.TheVariants as kinds
use Rattle.tuple_tree.specs.Reading.{Reader, read_as, unknown, number_of, string_at, text_at, flag_at, datum_rows}
use Rattle.tuple_tree.specs.Reading.{datum_at, formal_rows, slot_at, item_with}
use Rattle.tuple_tree.specs.Spelling.{string, flag, wide_bytes, datum_spelling, slot_spelling}
use Rattle.tuple_tree.proofs.Readers.{FoundBehind, bind_some, parts, moved, as_found, as_again, tag_found, RowsFound}
use Rattle.tuple_tree.proofs.Readers.{◌⨾◌, found_by_table, unknown_found}
use Rattle.tuple_tree.proofs.Numbers.{number_found, number_again, string_found, string_again, text_found, text_again}
use Rattle.tuple_tree.proofs.Numbers.{flag_found, flag_again}

-- The laws of a reader of leaves, each of which has a tag in front.
pub record ReadsLeaves {L : Type 0} (IsLeaf : L → Type 0) (length_of : L → ℕ) (spelling : L → List ℕ) (leaf_at : ℕ → Reader L) : Type 0 where
  pub found : (tag : ℕ) → FoundBehind tag IsLeaf spelling (leaf_at tag)
  pub again : (x : L) (rest : List ℕ) → IsLeaf x → length_of x ≤ 1024 → (inner_at : Reader (TreeItem L)) → item_with leaf_at inner_at (spelling x ++ rest) ≡ Some (leaf x, rest)
  pub lengths : (x : L) → length (spelling x) ≡ length_of x

length_string : (s : List ℕ) → length (string s) ≡ 2 + length s
length_string s = omega (arith, length-append (to_be_bytes w16 (length s)) s)

datum_lengths : (x : Datum) → length (datum_spelling x) ≡ datum_length x
unfolding wide_bytes
datum_lengths (number n) = omega arith
datum_lengths (text s) = omega (arith, length_string s)
datum_lengths (bytes s) = omega (arith, length_string s)
datum_lengths (truth b) = omega arith
datum_lengths (wide n) = ap suc (length-bytes_high_first 16 (cast_unsigned w128 n))

slot_lengths : (x : Slot) → length (slot_spelling x) ≡ slot_length x
slot_lengths (actual x) = datum_lengths x
slot_lengths any = omega arith
slot_lengths (formal k) = omega arith

number_law : (n : ℕ) → n < 256 ^ 8 → (datum_spelling (number (cast_signed w64 n)) ≡ 1 ∷ to_be_bytes w64 n) × IsDatum (number (cast_signed w64 n))
number_law n p = (ap (λ m. 1 ∷ to_be_bytes w64 m) (of_z-to_z w64 n (omega arith)), read_sfits w64 n)

wide_law : (n : ℕ) → n < 256 ^ 16 → (datum_spelling (wide (cast_signed w128 n)) ≡ 6 ∷ to_be_bytes w128 n) × IsDatum (wide (cast_signed w128 n))
unfolding wide_bytes
wide_law n p = (ap (λ m. 6 ∷ to_be_bytes w128 m) (of_z-to_z w128 n (omega arith)), read_sfits w128 n)

datum_rows_found : RowsFound IsDatum datum_spelling datum_rows
datum_rows_found =
    as_found (λ n. n < 256 ^ 8) IsDatum (to_be_bytes w64) datum_spelling 1 (λ n. number (cast_signed w64 n)) (number_of 8) (number_found 8) number_law
    ⨾ as_found IsUtf8 IsDatum string datum_spelling 2 text text_at text_found (λ s u. (refl, u))
    ⨾ as_found AreBytes IsDatum string datum_spelling 3 bytes string_at string_found (λ s u. (refl, u))
    ⨾ as_found (λ b. Unit {0}) IsDatum (λ b. flag b ∷ []) datum_spelling 4 truth flag_at flag_found (λ b u. (refl, tt))
    ⨾ as_found (λ n. n < 256 ^ 16) IsDatum (to_be_bytes w128) datum_spelling 6 (λ n. wide (cast_signed w128 n)) (number_of 16) (number_found 16) wide_law
    ⨾ tt

pub datum_found : (tag : ℕ) → FoundBehind tag IsDatum datum_spelling (datum_at tag)
unfolding datum_at
datum_found = found_by_table IsDatum datum_spelling datum_rows unknown datum_rows_found (unknown_found IsDatum datum_spelling)

actual_found : (tag : ℕ) → FoundBehind tag IsSlot slot_spelling (read_as actual (datum_at tag))
actual_found tag bs rest v h e =
    let k = bind_some (datum_at tag bs) (λ x. Some (actual x.0, x.1)) (v, rest) e in
    let a = datum_found tag bs k.0.1 k.0.0 h k.1 in
    let p = parts k.2 in
    moved IsSlot slot_spelling (tag ∷ bs) a p.0 p.1

formal_rows_found : RowsFound IsSlot slot_spelling formal_rows
formal_rows_found =
    tag_found IsSlot slot_spelling 0x10 any refl tt
    ⨾ tag_found IsSlot slot_spelling 0x11 (formal kinds.Number) refl tt
    ⨾ tag_found IsSlot slot_spelling 0x12 (formal kinds.Text) refl tt
    ⨾ tag_found IsSlot slot_spelling 0x13 (formal kinds.Bytes) refl tt
    ⨾ tag_found IsSlot slot_spelling 0x14 (formal kinds.Truth) refl tt
    ⨾ tag_found IsSlot slot_spelling 0x15 (formal kinds.Tuple) refl tt
    ⨾ tag_found IsSlot slot_spelling 0x16 (formal kinds.Wide) refl tt
    ⨾ tt

pub slot_found : (tag : ℕ) → FoundBehind tag IsSlot slot_spelling (slot_at tag)
unfolding slot_at
slot_found = found_by_table IsSlot slot_spelling formal_rows (λ tag. read_as actual (datum_at tag)) formal_rows_found actual_found

number_behind : (n : ℤ) (rest : List ℕ) → IsDatum (number n) → datum_at 1 (to_be_bytes w64 (cast_unsigned w64 n) ++ rest) ≡ Some (number n, rest)
unfolding datum_at
number_behind n rest d =
    as_again (λ n. number (cast_signed w64 n)) (number_of 8) _ rest (cast_unsigned w64 n) (number_again 8 (cast_unsigned w64 n) rest (omega (arith, of_z_fits w64 n d)))
    ∙ ap (λ m. Some (number m, rest)) (to_z-of_z w64 n d)

text_behind : (s rest : List ℕ) → IsUtf8 s → length s ≤ 1021 → datum_at 2 (string s ++ rest) ≡ Some (text s, rest)
unfolding datum_at
text_behind s rest u p = as_again text text_at _ rest s (text_again s rest u p)

bytes_behind : (s rest : List ℕ) → length s ≤ 1021 → datum_at 3 (string s ++ rest) ≡ Some (bytes s, rest)
unfolding datum_at
bytes_behind s rest p = as_again bytes string_at _ rest s (string_again s rest p)

truth_behind : (b : Bool) (rest : List ℕ) → datum_at 4 (flag b ∷ rest) ≡ Some (truth b, rest)
unfolding datum_at
truth_behind b rest = as_again truth flag_at _ rest b (flag_again b rest)

wide_behind : (n : ℤ) (rest : List ℕ) → IsDatum (wide n) → datum_at 6 (wide_bytes n ++ rest) ≡ Some (wide n, rest)
unfolding datum_at wide_bytes
wide_behind n rest d =
    as_again (λ n. wide (cast_signed w128 n)) (number_of 16) _ rest (cast_unsigned w128 n) (number_again 16 (cast_unsigned w128 n) rest (omega (arith, of_z_fits w128 n d)))
    ∙ ap (λ m. Some (wide m, rest)) (to_z-of_z w128 n d)

datum_again : (x : Datum) (rest : List ℕ) → IsDatum x → datum_length x ≤ 1024 → (inner_at : Reader (TreeItem Datum)) → item_with datum_at inner_at (datum_spelling x ++ rest) ≡ Some (leaf x, rest)
unfolding item_with
datum_again (number n) rest d p inner_at = as_again leaf (datum_at 1) _ rest (number n) (number_behind n rest d)
datum_again (text s) rest d p inner_at = as_again leaf (datum_at 2) _ rest (text s) (text_behind s rest d (omega arith))
datum_again (bytes s) rest d p inner_at = as_again leaf (datum_at 3) _ rest (bytes s) (bytes_behind s rest (omega arith))
datum_again (truth b) rest d p inner_at = as_again leaf (datum_at 4) _ rest (truth b) (truth_behind b rest)
datum_again (wide n) rest d p inner_at = as_again leaf (datum_at 6) _ rest (wide n) (wide_behind n rest d)

actual_again : (x : Datum) (tag : ℕ) (bs rest : List ℕ) → datum_at tag bs ≡ Some (x, rest) → read_as leaf (read_as actual (datum_at tag)) bs ≡ Some (leaf (actual x), rest)
actual_again x tag bs rest e = as_again leaf (read_as actual (datum_at tag)) bs rest (actual x) (as_again actual (datum_at tag) bs rest x e)

slot_again : (x : Slot) (rest : List ℕ) → IsSlot x → slot_length x ≤ 1024 → (inner_at : Reader (TreeItem Slot)) → item_with slot_at inner_at (slot_spelling x ++ rest) ≡ Some (leaf x, rest)
unfolding item_with slot_at
slot_again (actual (number n)) rest d p inner_at = actual_again (number n) 1 _ rest (number_behind n rest d)
slot_again (actual (text s)) rest d p inner_at = actual_again (text s) 2 _ rest (text_behind s rest d (omega arith))
slot_again (actual (bytes s)) rest d p inner_at = actual_again (bytes s) 3 _ rest (bytes_behind s rest (omega arith))
slot_again (actual (truth b)) rest d p inner_at = actual_again (truth b) 4 _ rest (truth_behind b rest)
slot_again (actual (wide n)) rest d p inner_at = actual_again (wide n) 6 _ rest (wide_behind n rest d)
slot_again any rest d p inner_at = refl
slot_again (formal kinds.Number) rest d p inner_at = refl
slot_again (formal kinds.Text) rest d p inner_at = refl
slot_again (formal kinds.Bytes) rest d p inner_at = refl
slot_again (formal kinds.Truth) rest d p inner_at = refl
slot_again (formal kinds.Tuple) rest d p inner_at = refl
slot_again (formal kinds.Wide) rest d p inner_at = refl

pub datum_leaves : ReadsLeaves IsDatum datum_length datum_spelling datum_at
datum_leaves = record { found = datum_found; again = datum_again; lengths = datum_lengths }

pub slot_leaves : ReadsLeaves IsSlot slot_length slot_spelling slot_at
slot_leaves = record { found = slot_found; again = slot_again; lengths = slot_lengths }
