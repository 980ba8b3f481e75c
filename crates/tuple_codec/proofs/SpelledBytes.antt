-- Each spelling is a list of bytes.
use Rattle.std.proofs.Common.{◌≡◌, ℕ, ◌+◌, ◌/◌, ◌<◌, ◌≤◌, Bool, true, false, cond, List, [], ◌∷◌, ◌++◌, length, refl}
use Rattle.std.proofs.Common.{subst, arith}
use Rattle.std.proofs.lemmas.Bool.{and_parts, ltb-true}
use Rattle.std.specs.Prelude.{nat_lt}
use Rattle.std.specs.Int.{w16, w32, w64, w128, to_be_bytes, cast_unsigned}
use Rattle.std.specs.Str.{IsUtf8}
use Rattle.std.proofs.Math.Utf8.{scalar, scalars, encode, encodes, next, scalar_cases}
use Rattle.tuple_tree.specs.Items.{TreeItem, leaf, inner, Items, none, item, how_many}
use Rattle.tuple_tree.specs.Limits.{IsItem, AreItems}
use Rattle.tuple_tree.specs.Values.{Datum, number, text, bytes, truth, wide, Slot, actual, any, formal, AreBytes}
use Rattle.tuple_tree.specs.Values.{IsDatum, IsSlot, TupleTree, TemplateTree, IsTuple, IsTemplate}
use Rattle.tuple_tree.specs.declared.atoms.Kind.{Kind}
use Rattle.tuple_tree.specs.declared.atoms.Kind.TheVariants as kinds
use Rattle.tuple_codec.specs.Operations.{Operation, out, rdp, inp, cas, rd_all, in_all, upgrade, IsOperation, AreTuples}
use Rattle.tuple_codec.specs.Operations.{Outcome, done, found, absent, swapped, all, full, refused, IsOutcome}
use Rattle.tuple_tree.specs.Spelling.{string, flag, wide_bytes, datum_spelling, formal_tag, slot_spelling}
use Rattle.tuple_tree.specs.Spelling.{item_spelling, items_spelling, whole_spelling, tuple_spelling, template_spelling}
use Rattle.tuple_codec.specs.Spelling.{operation_spelling, tuples_spelling, outcome_spelling}
use Rattle.tuple_tree.proofs.Readers.{bytes_append}
use Rattle.tuple_tree.proofs.NumberBytes.{no_bytes, bytes_more, high_bytes}

pub bytes_2 : (n : ℕ) → AreBytes (to_be_bytes w16 n)
bytes_2 n = high_bytes 2 n

pub bytes_4 : (n : ℕ) → AreBytes (to_be_bytes w32 n)
bytes_4 n = high_bytes 4 n

pub bytes_8 : (n : ℕ) → AreBytes (to_be_bytes w64 n)
bytes_8 n = high_bytes 8 n

-- ---- texts

next_bytes : (n : ℕ) (bs : List ℕ) → AreBytes bs → AreBytes (next n ∷ bs)
next_bytes n bs h = bytes_more (next n) bs (omega arith) h

abbrev in_two : ℕ → List ℕ
in_two c = (192 + c / 64) ∷ next c ∷ []

abbrev in_three : ℕ → List ℕ
in_three c = (224 + c / 4096) ∷ next (c / 64) ∷ next c ∷ []

abbrev in_four : ℕ → List ℕ
in_four c = (240 + c / 262144) ∷ next (c / 4096) ∷ next (c / 64) ∷ next c ∷ []

encode_bytes : (c : ℕ) → c < 1114112 → AreBytes (encode c)
unfolding encode
encode_bytes c small = one (nat_lt c 128) refl
  where
    three : (b : Bool) → nat_lt c 65536 ≡ b → AreBytes (cond b (in_three c) (in_four c))
    three true h =
        let l : c < 65536 = ltb-true c 65536 h in
        bytes_more (224 + c / 4096) (next (c / 64) ∷ next c ∷ []) (omega arith) (next_bytes (c / 64) (next c ∷ []) (next_bytes c [] no_bytes))
    three false h =
        bytes_more (240 + c / 262144) (next (c / 4096) ∷ next (c / 64) ∷ next c ∷ []) (omega arith)
        (next_bytes (c / 4096) (next (c / 64) ∷ next c ∷ []) (next_bytes (c / 64) (next c ∷ []) (next_bytes c [] no_bytes)))

    two : (b : Bool) → nat_lt c 2048 ≡ b → AreBytes (cond b (in_two c) (cond (nat_lt c 65536) (in_three c) (in_four c)))
    two true h = let l : c < 2048 = ltb-true c 2048 h in bytes_more (192 + c / 64) (next c ∷ []) (omega arith) (next_bytes c [] no_bytes)
    two false h = three (nat_lt c 65536) refl

    one : (b : Bool) → nat_lt c 128 ≡ b → AreBytes (cond b (c ∷ []) (cond (nat_lt c 2048) (in_two c) (cond (nat_lt c 65536) (in_three c) (in_four c))))
    one true h = let l : c < 128 = ltb-true c 128 h in bytes_more c [] (omega arith) no_bytes
    one false h = two (nat_lt c 2048) refl

scalar_small : (c : ℕ) → scalar c ≡ true → c < 1114112
scalar_small c h = let k = scalar_cases c h in omega arith

encodes_bytes : (cs : List ℕ) → scalars cs ≡ true → AreBytes (encodes cs)
encodes_bytes [] h = no_bytes
encodes_bytes (c ∷ cs) h =
    let p = and_parts (scalar c) (scalars cs) h in
    bytes_append (encode c) (encodes cs) (encode_bytes c (scalar_small c p.0)) (encodes_bytes cs p.1)

text_bytes : (s : List ℕ) → IsUtf8 s → AreBytes s
text_bytes s (cs, h) = subst AreBytes h.1 (encodes_bytes cs h.0)

string_bytes : (s : List ℕ) → AreBytes s → AreBytes (string s)
string_bytes s h = bytes_append (to_be_bytes w16 (length s)) s (bytes_2 (length s)) h

-- ---- tuples and templates

flag_below : (b : Bool) → flag b < 256
flag_below true = omega arith
flag_below false = omega arith

datum_bytes : (x : Datum) → IsDatum x → AreBytes (datum_spelling x)
unfolding wide_bytes
datum_bytes (number n) h = bytes_more 1 (to_be_bytes w64 (cast_unsigned w64 n)) (omega arith) (bytes_8 (cast_unsigned w64 n))
datum_bytes (text s) h = bytes_more 2 (string s) (omega arith) (string_bytes s (text_bytes s h))
datum_bytes (bytes s) h = bytes_more 3 (string s) (omega arith) (string_bytes s h)
datum_bytes (truth b) h = bytes_more 4 (flag b ∷ []) (omega arith) (bytes_more (flag b) [] (flag_below b) no_bytes)
datum_bytes (wide n) h = bytes_more 6 (to_be_bytes w128 (cast_unsigned w128 n)) (omega arith) (high_bytes 16 (cast_unsigned w128 n))

formal_below : (k : Kind) → formal_tag k < 256
formal_below kinds.Number = omega arith
formal_below kinds.Text = omega arith
formal_below kinds.Bytes = omega arith
formal_below kinds.Truth = omega arith
formal_below kinds.Tuple = omega arith
formal_below kinds.Wide = omega arith

slot_bytes : (x : Slot) → IsSlot x → AreBytes (slot_spelling x)
slot_bytes (actual x) h = datum_bytes x h
slot_bytes any h = bytes_more 0x10 [] (omega arith) no_bytes
slot_bytes (formal k) h = bytes_more (formal_tag k) [] (formal_below k) no_bytes

module _ {L : Type 0} (IsLeaf : L → Type 0) (spelling : L → List ℕ) (leaf_bytes : (x : L) → IsLeaf x → AreBytes (spelling x)) where
  mutual
    item_bytes : (x : TreeItem L) → IsItem IsLeaf x → AreBytes (item_spelling spelling x)
    item_bytes (leaf x) h = leaf_bytes x h
    item_bytes (inner t) h =
        bytes_more 5 (how_many t ∷ items_spelling spelling t) (omega arith) (bytes_more (how_many t) (items_spelling spelling t) (omega (arith, h.0)) (items_bytes t h.1))

    items_bytes : (t : Items L) → AreItems IsLeaf t → AreBytes (items_spelling spelling t)
    items_bytes none h = no_bytes
    items_bytes (item x t) h = bytes_append (item_spelling spelling x) (items_spelling spelling t) (item_bytes x h.0) (items_bytes t h.1)

  whole_bytes : (t : Items L) → how_many t ≤ 32 → AreItems IsLeaf t → AreBytes (whole_spelling spelling t)
  whole_bytes t few each = bytes_more (how_many t) (items_spelling spelling t) (omega (arith, few)) (items_bytes t each)

tuple_bytes : (t : TupleTree) → IsTuple t → AreBytes (tuple_spelling t)
tuple_bytes t h = whole_bytes IsDatum datum_spelling datum_bytes t h.fields h.each

template_bytes : (p : TemplateTree) → IsTemplate p → AreBytes (template_spelling p)
template_bytes p h = whole_bytes IsSlot slot_spelling slot_bytes p h.fields h.each

-- ---- operations and outcomes

pub operation_bytes : (o : Operation) → IsOperation o → AreBytes (operation_spelling o)
operation_bytes (out t) h = bytes_more 0x21 (tuple_spelling t) (omega arith) (tuple_bytes t h)
operation_bytes (rdp p) h = bytes_more 0x22 (template_spelling p) (omega arith) (template_bytes p h)
operation_bytes (inp p) h = bytes_more 0x23 (template_spelling p) (omega arith) (template_bytes p h)
operation_bytes (cas p t) h =
    bytes_more 0x24 (template_spelling p ++ tuple_spelling t) (omega arith) (bytes_append (template_spelling p) (tuple_spelling t) (template_bytes p h.0) (tuple_bytes t h.1))
operation_bytes (rd_all n p) h = bytes_more 0x25 (n ∷ template_spelling p) (omega arith) (bytes_more n (template_spelling p) (omega (arith, h.1)) (template_bytes p h.2))
operation_bytes (in_all n p) h = bytes_more 0x26 (n ∷ template_spelling p) (omega arith) (bytes_more n (template_spelling p) (omega (arith, h.1)) (template_bytes p h.2))
operation_bytes upgrade h = bytes_more 0x27 [] (omega arith) no_bytes

tuples_bytes : (ts : List TupleTree) → AreTuples ts → AreBytes (tuples_spelling ts)
tuples_bytes [] h = no_bytes
tuples_bytes (t ∷ ts) h = bytes_append (tuple_spelling t) (tuples_spelling ts) (tuple_bytes t h.0) (tuples_bytes ts h.1)

pub outcome_bytes : (r : Outcome) → IsOutcome r → AreBytes (outcome_spelling r)
outcome_bytes done h = bytes_more 0x31 [] (omega arith) no_bytes
outcome_bytes (found t) h = bytes_more 0x32 (tuple_spelling t) (omega arith) (tuple_bytes t h)
outcome_bytes absent h = bytes_more 0x33 [] (omega arith) no_bytes
outcome_bytes (swapped b) h = bytes_more 0x34 (flag b ∷ []) (omega arith) (bytes_more (flag b) [] (flag_below b) no_bytes)
outcome_bytes (all ts) h = bytes_more 0x35 (length ts ∷ tuples_spelling ts) (omega arith) (bytes_more (length ts) (tuples_spelling ts) (omega (arith, h.0)) (tuples_bytes ts h.1))
outcome_bytes full h = bytes_more 0x36 [] (omega arith) no_bytes
outcome_bytes refused h = bytes_more 0x37 [] (omega arith) no_bytes
