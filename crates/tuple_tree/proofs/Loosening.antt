-- Readers that look at no text's characters read each spelled value and field.
use Rattle.std.proofs.Common.{◌≡◌, ℕ, ◌≤◌, List, [], ◌∷◌, ◌++◌, Option, Some, None, ap, refl, ◌∙◌, arith}
use Rattle.std.specs.Int.{w64, w128}
use Rattle.std.specs.Int.RustNames.{FitsSigned}
use Rattle.tuple_tree.specs.Items.{TreeItem, leaf, inner, Items, none, item}
use Rattle.tuple_tree.specs.Limits.{IsItem, AreItems}
use Rattle.tuple_tree.specs.Values.{Datum, number, text, bytes, truth, wide, Slot, actual, any, formal, AreBytes}
use Rattle.tuple_tree.specs.Values.{IsDatum, IsSlot, datum_length, slot_length}
use Rattle.tuple_tree.specs.declared.atoms.Kind.TheVariants as kinds
use Rattle.tuple_tree.specs.Reading.{◌>>=◌, Reader, read_as, unknown, signed_at, wide_at, string_at, flag_at, datum_at}
use Rattle.tuple_tree.specs.Reading.{formal_rows, nothing, item_with}
use Rattle.tuple_tree.specs.Spelling.{string, flag, datum_spelling, slot_spelling}
use Rattle.tuple_tree.specs.Loose.{loose_rows, loose_at, loose_slot_at}
use Rattle.tuple_tree.proofs.Readers.{FoundBehind, bind_some, parts, moved, tag_found, as_found, as_again}
use Rattle.tuple_tree.proofs.Readers.{found_by_table, unknown_found, ◌⨾◌}
use Rattle.tuple_tree.proofs.Numbers.{string_found, string_again, flag_found}
use Rattle.tuple_tree.proofs.Leaves.{ReadsLeaves, datum_leaves, slot_leaves}

-- Items whose leaves pass a test pass each looser one.
module _ {L : Type 0} {Is IsLoose : L → Type 0} (loosen : (x : L) → Is x → IsLoose x) where
  mutual
    pub loosen_item : (v : TreeItem L) → IsItem Is v → IsItem IsLoose v
    loosen_item (leaf x) d = loosen x d
    loosen_item (inner t) d = (d.0, loosen_items t d.1)

    pub loosen_items : (t : Items L) → AreItems Is t → AreItems IsLoose t
    loosen_items none d = tt
    loosen_items (item v t) d = (loosen_item v d.0, loosen_items t d.1)

-- a value, but for the characters of a text
abbrev pub IsLoose : Datum → Type 0
IsLoose (number n) = FitsSigned w64 n
IsLoose (text s) = Unit {0}
IsLoose (bytes s) = AreBytes s
IsLoose (truth b) = Unit {0}
IsLoose (wide n) = FitsSigned w128 n

pub loosen : (x : Datum) → IsDatum x → IsLoose x
loosen (number n) d = d
loosen (text s) d = tt
loosen (bytes s) d = d
loosen (truth b) d = d
loosen (wide n) d = d

number_found : FoundBehind 1 IsLoose datum_spelling signed_at
unfolding datum_at
number_found bs rest v h e = let a = datum_leaves.found 1 bs rest v h e in (a.0, loosen v a.1)

wide_found : FoundBehind 6 IsLoose datum_spelling wide_at
unfolding datum_at
wide_found bs rest v h e = let a = datum_leaves.found 6 bs rest v h e in (a.0, loosen v a.1)

loose_found : (tag : ℕ) → FoundBehind tag IsLoose datum_spelling (loose_at tag)
unfolding loose_at
loose_found =
    found_by_table IsLoose datum_spelling loose_rows unknown
    (number_found
    ⨾ as_found AreBytes IsLoose string datum_spelling 2 text string_at string_found (λ s u. (refl, tt))
    ⨾ as_found AreBytes IsLoose string datum_spelling 3 bytes string_at string_found (λ s u. (refl, u))
    ⨾ as_found (λ b. Unit {0}) IsLoose (λ b. flag b ∷ []) datum_spelling 4 truth flag_at flag_found (λ b u. (refl, tt))
    ⨾ wide_found
    ⨾ tt)
    (unknown_found IsLoose datum_spelling)

loose_again : (x : Datum) (rest : List ℕ) → IsLoose x → datum_length x ≤ 1024 → (inner_at : Reader (TreeItem Datum)) → item_with loose_at inner_at (datum_spelling x ++ rest) ≡ Some (leaf x, rest)
unfolding item_with loose_at datum_at
loose_again (number n) rest d p inner_at = datum_leaves.again (number n) rest d p inner_at
loose_again (text s) rest d p inner_at = as_again leaf (loose_at 2) _ rest (text s) (as_again text string_at _ rest s (string_again s rest (omega arith)))
loose_again (bytes s) rest d p inner_at = datum_leaves.again (bytes s) rest d p inner_at
loose_again (truth b) rest d p inner_at = datum_leaves.again (truth b) rest d p inner_at
loose_again (wide n) rest d p inner_at = datum_leaves.again (wide n) rest d p inner_at

pub loose_leaves : ReadsLeaves IsLoose datum_length datum_spelling loose_at
loose_leaves = record { found = loose_found; again = loose_again; lengths = datum_leaves.lengths }

-- ---- fields

abbrev pub IsLooseSlot : Slot → Type 0
IsLooseSlot (actual x) = IsLoose x
IsLooseSlot any = Unit {0}
IsLooseSlot (formal k) = Unit {0}

pub loosen_slot : (s : Slot) → IsSlot s → IsLooseSlot s
loosen_slot (actual x) d = loosen x d
loosen_slot any d = tt
loosen_slot (formal k) d = tt

actual_found : (tag : ℕ) → FoundBehind tag IsLooseSlot slot_spelling (read_as actual (loose_at tag))
actual_found tag bs rest v h e =
    let k = bind_some (loose_at tag bs) (λ x. Some (actual x.0, x.1)) (v, rest) e in
    let a = loose_found tag bs k.0.1 k.0.0 h k.1 in
    let p = parts k.2 in
    moved IsLooseSlot slot_spelling (tag ∷ bs) a p.0 p.1

slot_found : (tag : ℕ) → FoundBehind tag IsLooseSlot slot_spelling (loose_slot_at tag)
unfolding loose_slot_at
slot_found =
    found_by_table IsLooseSlot slot_spelling formal_rows (λ tag. read_as actual (loose_at tag))
    (tag_found IsLooseSlot slot_spelling 0x10 any refl tt
    ⨾ tag_found IsLooseSlot slot_spelling 0x11 (formal kinds.Number) refl tt
    ⨾ tag_found IsLooseSlot slot_spelling 0x12 (formal kinds.Text) refl tt
    ⨾ tag_found IsLooseSlot slot_spelling 0x13 (formal kinds.Bytes) refl tt
    ⨾ tag_found IsLooseSlot slot_spelling 0x14 (formal kinds.Truth) refl tt
    ⨾ tag_found IsLooseSlot slot_spelling 0x15 (formal kinds.Tuple) refl tt
    ⨾ tag_found IsLooseSlot slot_spelling 0x16 (formal kinds.Wide) refl tt
    ⨾ tt)
    actual_found

abbrev as_leaf : {L : Type 0} → L × List ℕ → Option (TreeItem L × List ℕ)
as_leaf x = Some (leaf x.0, x.1)

abbrev as_actual : Datum × List ℕ → Option (Slot × List ℕ)
as_actual x = Some (actual x.0, x.1)

-- a value that is read is read as an actual field
actual_read : (o : Option (Datum × List ℕ)) (x : Datum) (rest : List ℕ) → (o >>= as_leaf) ≡ Some (leaf x, rest) → ((o >>= as_actual) >>= as_leaf) ≡ Some (leaf (actual x), rest)
actual_read None x rest e = absurd (let g : ⊥ = cc in g)
actual_read (Some y) x rest e =
    let p = parts e in
    let q : y.0 ≡ x = let f : leaf y.0 ≡ leaf x = p.0 in cc in
    ap (λ z. Some (leaf (actual z), y.1)) q ∙ ap (λ r. Some (leaf (actual x), r)) p.1

slot_again : (s : Slot) (rest : List ℕ) → IsLooseSlot s → slot_length s ≤ 1024 → (inner_at : Reader (TreeItem Slot)) → item_with loose_slot_at inner_at (slot_spelling s ++ rest) ≡ Some (leaf s, rest)
unfolding item_with loose_slot_at
slot_again (actual (number n)) rest d p inner_at = actual_read (loose_at 1 _) (number n) rest (loose_again (number n) rest d p nothing)
slot_again (actual (text s)) rest d p inner_at = actual_read (loose_at 2 _) (text s) rest (loose_again (text s) rest d p nothing)
slot_again (actual (bytes s)) rest d p inner_at = actual_read (loose_at 3 _) (bytes s) rest (loose_again (bytes s) rest d p nothing)
slot_again (actual (truth b)) rest d p inner_at = actual_read (loose_at 4 _) (truth b) rest (loose_again (truth b) rest d p nothing)
slot_again (actual (wide n)) rest d p inner_at = actual_read (loose_at 6 _) (wide n) rest (loose_again (wide n) rest d p nothing)
slot_again any rest d p inner_at = refl
slot_again (formal kinds.Number) rest d p inner_at = refl
slot_again (formal kinds.Text) rest d p inner_at = refl
slot_again (formal kinds.Bytes) rest d p inner_at = refl
slot_again (formal kinds.Truth) rest d p inner_at = refl
slot_again (formal kinds.Tuple) rest d p inner_at = refl
slot_again (formal kinds.Wide) rest d p inner_at = refl

pub loose_slot_leaves : ReadsLeaves IsLooseSlot slot_length slot_spelling loose_slot_at
loose_slot_leaves = record { found = slot_found; again = slot_again; lengths = slot_leaves.lengths }
