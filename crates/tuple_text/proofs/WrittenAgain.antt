-- A written text fits into a line, and is the argument of one.
use Rattle.std.proofs.Common.{◌≡◌, ℕ, suc, ◌+◌, ◌*◌, ◌^◌, ◌<◌, ◌≤◌, ◌==◌, nat_lt, Bool, true, false, cond, List, []}
use Rattle.std.proofs.Common.{◌∷◌, ◌++◌, length, codes, pos, negsuc, FitsSigned, w64, refl, ap, sym, append-nil, arith}
use Rattle.std.proofs.Common.{length-append}
use Rattle.std.specs.Int.{w128}
use Rattle.std.proofs.lemmas.Int.{ints}
use Rattle.std.proofs.lemmas.Fmt.{length-decimal-le, length-decimal-le_wide}
use Rattle.std.specs.Fmt.{decimal}
use Rattle.std.specs.List.{flat_map}
use Rattle.tuple_tree.specs.Items.{TreeItem, leaf, inner, Items, none, item, item_length, length_in}
use Rattle.tuple_tree.specs.Limits.{IsItem, AreItems, IsWithin}
use Rattle.tuple_tree.specs.Values.{Datum, number, text, bytes, truth, wide, Slot, actual, any, formal, datum_length}
use Rattle.tuple_tree.specs.Values.{slot_length, IsDatum, IsSlot, IsTuple, IsTemplate, TupleTree, TemplateTree}
use Rattle.tuple_tree.specs.declared.atoms.Kind.TheVariants as kinds
use Rattle.tuple_codec.specs.Operations.{Operation, out, rdp}
use Rattle.tuple_text.specs.Texts.{datum_text, slot_text, escaped, hex_pair}
use Rattle.tuple_text.specs.Written.{item_written, items_written, more_written, tuple_written, template_written}
use Rattle.tuple_text.specs.Lines.{EachLeaf, LeafIn, IsLine}
use Rattle.tuple_text.proofs.Writing.{item_is_text}
use Rattle.tuple_text.proofs.Judging.{line_reads_only, line_is_read}

module _ {L : Type 0} (P : L → Type 0) where
  mutual
    pub are_leaves : (xs : Items L) → AreItems P xs → EachLeaf P xs
    are_leaves none h = tt
    are_leaves (item x xs) h = (is_leaf x h.0, are_leaves xs h.1)

    is_leaf : (x : TreeItem L) → IsItem P x → LeafIn P x
    is_leaf (leaf x) h = h
    is_leaf (inner xs) h = are_leaves xs h.1

-- A text is at most eight times as long as the encoding, with a blank for each item.
module _ {L : Type 0} (leaf_text : L → List ℕ) (IsLeaf : L → Type 0) (length_of : L → ℕ) (short : (x : L) → IsLeaf x → length (leaf_text x) + 1 ≤ 8 * length_of x) where
  mutual
    item_short : (x : TreeItem L) → IsItem IsLeaf x → length (item_written leaf_text x) + 1 ≤ 8 * item_length length_of x
    item_short (leaf x) h = short x h
    item_short (inner xs) h = let k = items_short xs h.1 in omega (arith, k, length-append (items_written leaf_text xs) (41 ∷ []))

    items_short : (xs : Items L) → AreItems IsLeaf xs → length (items_written leaf_text xs) ≤ 8 * length_in length_of xs
    items_short none h = omega arith
    items_short (item x xs) h =
        let k = item_short x h.0 in
        let l = more_short xs h.1 in
        omega (arith, k, l, length-append (item_written leaf_text x) (more_written leaf_text xs))

    more_short : (xs : Items L) → AreItems IsLeaf xs → length (more_written leaf_text xs) ≤ 8 * length_in length_of xs
    more_short none h = omega arith
    more_short (item x xs) h =
        let k = item_short x h.0 in
        let l = more_short xs h.1 in
        omega (arith, k, l, length-append (item_written leaf_text x) (more_written leaf_text xs))

  pub whole_short : (t : Items L) → IsWithin IsLeaf length_of t → length (item_written leaf_text (inner t)) ≤ 8200
  whole_short t w =
      let k = item_short (inner t) (w.fields, w.each) in
      let l = w.length in
      omega (arith, k, l)

escaped_case : (b : ℕ) (s t r q : Bool) → length (cond s (92 ∷ 34 ∷ []) (cond t (92 ∷ 92 ∷ []) (cond r (92 ∷ 110 ∷ []) (cond q (92 ∷ 120 ∷ hex_pair b) (b ∷ []))))) ≤ 4
escaped_case b true t r q = omega arith
escaped_case b false true r q = omega arith
escaped_case b false false true q = omega arith
escaped_case b false false false true = omega arith
escaped_case b false false false false = omega arith

escaped_short : (b : ℕ) → length (escaped b) ≤ 4
escaped_short b = escaped_case b (b == 34) (b == 92) (b == 10) (nat_lt b 32)

flat_short : (f : ℕ → List ℕ) → ((b : ℕ) → length (f b) ≤ 4) → (s : List ℕ) → length (flat_map f s) ≤ 4 * length s
flat_short f k [] = omega arith
flat_short f k (b ∷ s) =
    let p = k b in
    let q = flat_short f k s in
    omega (arith, p, q, length-append (f b) (flat_map f s))

decimal_short : (n : ℕ) → n < 2 ^ 64 → length (decimal n) ≤ 20
decimal_short n h = length-decimal-le 20 n (omega arith) (omega arith) h

fits_below : (n : ℕ) → FitsSigned w64 (pos n) → n < 2 ^ 64
fits_below n h = omega (arith, ints)

negative_below : (n : ℕ) → FitsSigned w64 (negsuc n) → suc n < 2 ^ 64
negative_below n h = omega (arith, ints)

wide_short : (n : ℕ) → n < 10 ^ 39 → length (decimal n) ≤ 39
wide_short n h = length-decimal-le_wide 39 n (omega arith) h (omega arith)

wide_below : (n : ℕ) → FitsSigned w128 (pos n) → n < 10 ^ 39
wide_below n h = omega (arith, ints)

wide_negative_below : (n : ℕ) → FitsSigned w128 (negsuc n) → suc n < 10 ^ 39
wide_negative_below n h = omega (arith, ints)

datum_short : (x : Datum) → IsDatum x → length (datum_text x) + 1 ≤ 8 * datum_length x
datum_short (number (pos n)) h = let k = decimal_short n (fits_below n h) in omega (arith, k)
datum_short (number (negsuc n)) h = let k = decimal_short (suc n) (negative_below n h) in omega (arith, k)
datum_short (text s) h = let k = flat_short escaped escaped_short s in omega (arith, k, length-append (flat_map escaped s) (34 ∷ []))
datum_short (bytes s) h = let k = flat_short hex_pair (λ b. omega arith) s in omega (arith, k)
datum_short (truth true) h = omega arith
datum_short (truth false) h = omega arith
datum_short (wide (pos n)) h = let k = wide_short n (wide_below n h) in omega (arith, k)
datum_short (wide (negsuc n)) h = let k = wide_short (suc n) (wide_negative_below n h) in omega (arith, k)

slot_short : (x : Slot) → IsSlot x → length (slot_text x) + 1 ≤ 8 * slot_length x
slot_short (actual x) h = datum_short x h
slot_short any h = omega arith
slot_short (formal kinds.Number) h = omega arith
slot_short (formal kinds.Text) h = omega arith
slot_short (formal kinds.Bytes) h = omega arith
slot_short (formal kinds.Truth) h = omega arith
slot_short (formal kinds.Tuple) h = omega arith
slot_short (formal kinds.Wide) h = omega arith

-- The written text of a tuple is the argument of an out, that of a template the argument of an rdp.
pub tuple_line : (t : TupleTree) → IsTuple t → IsLine (out t) (codes "out " ++ tuple_written t)
tuple_line t w =
    let k = whole_short datum_text IsDatum datum_length datum_short t w in
    record {
      text = ([], 32 ∷ tuple_written t, refl, tt, (32 ∷ [], tuple_written t, [], ap (λ s. 32 ∷ s) (sym (append-nil (tuple_written t))), (omega arith, (refl, tt)), (item_is_text datum_text (inner t), are_leaves IsDatum t w.each), tt));
      within = w;
      size = omega (arith, k);
    }

pub template_line : (p : TemplateTree) → IsTemplate p → IsLine (rdp p) (codes "rdp " ++ template_written p)
template_line p w =
    let k = whole_short slot_text IsSlot slot_length slot_short p w in
    record {
      text = ([], 32 ∷ template_written p, refl, tt, (32 ∷ [], template_written p, [], ap (λ s. 32 ∷ s) (sym (append-nil (template_written p))), (omega arith, (refl, tt)), (item_is_text slot_text (inner p), are_leaves IsSlot p w.each), tt));
      within = w;
      size = omega (arith, k);
    }

-- A line is that of one operation.
pub one_operation : (o p : Operation) (bs : List ℕ) → IsLine o bs → IsLine p bs → o ≡ p
one_operation o p bs h k = sym (line_reads_only bs o p [] h (line_is_read bs p k))
