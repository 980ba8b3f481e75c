-- A walk along the bytes of a tuple decides whether a template matches it.
use Rattle.std.proofs.Common.{◌≡◌, ℕ, suc, ◌≤◌, Bool, true, false, ◌&&◌, cond, List, [], ◌∷◌, ◌++◌, Some, None, ap, sym}
use Rattle.std.proofs.Common.{refl, ◌∙◌, arith, append_assoc, append-nil}
use Rattle.std.specs.Bool.{Decides}
use Rattle.std.proofs.lemmas.Bool.{and_parts, eqb-true, eq-eqb}
use lib.Dec.{eqb}
use Rattle.tuple_tree.specs.Items.{TreeItem, leaf, inner, none, item, how_many, item_levels, levels_in, item_length}
use Rattle.tuple_tree.specs.Items.{length_in}
use Rattle.tuple_tree.specs.Limits.{IsItem, AreItems}
use Rattle.tuple_tree.specs.Values.{Datum, number, text, bytes, truth, wide, Slot, actual, any, formal, kind_of}
use Rattle.tuple_tree.specs.Values.{datum_length, slot_length, IsDatum, IsSlot, TupleTree, TemplateTree, IsTuple}
use Rattle.tuple_tree.specs.Values.{IsTemplate}
use Rattle.tuple_tree.specs.ValuesCode.{kind_number, kind_from, kind_from-number}
use Rattle.tuple_tree.specs.declared.atoms.Kind.{Kind}
use Rattle.tuple_tree.specs.declared.atoms.Kind.TheVariants as kinds
use Rattle.tuple_tree.specs.Reading.{◌>>=◌, rest_of, datum_at, item_at}
use Rattle.tuple_tree.specs.Loose.{loose_at}
use Rattle.tuple_tree.specs.Spelling.{datum_spelling, items_spelling, value_spelling}
use Rattle.tuple_tree.proofs.Readers.{parts}
use Rattle.tuple_tree.proofs.Leaves.{datum_leaves}
use Rattle.tuple_tree.proofs.Trees.{item_again}
use Rattle.template_match.specs.Tests.{is_datum, is_of_kind, is_field_match, is_match}
use Rattle.template_match.proofs.Deciding.{datum_decides, kind_decides}
use Rattle.template_match.specs.Walks.{strip, value_tag, behind_value, behind_kind, behind_field, behind_fields}
use Rattle.template_match.proofs.Stripping.{none_unless, strip_whole, strip_found}
use Rattle.tuple_tree.proofs.Loosening.{IsLoose, loosen, loosen_item, loose_leaves}

-- the bytes after a spelled value
behind_spelled : (v : TreeItem Datum) (rest : List ℕ) → IsItem IsDatum v → item_levels v ≤ 7 → item_length datum_length v ≤ 1024 → behind_value (value_spelling v ++ rest) ≡ Some rest
unfolding behind_value
behind_spelled v rest d p q = ap rest_of (item_again IsLoose datum_length datum_spelling loose_at loose_leaves v 7 rest (loosen_item loosen v d) p q)

is_datum_decides : (x : Datum) (v : TreeItem Datum) → Decides (is_datum x v) (v ≡ leaf x)
is_datum_decides x (leaf y) = let d = datum_decides x y in (λ h. ap leaf (sym (d.0 h)), λ e. d.1 (let f : leaf y ≡ leaf x = e in cc))
is_datum_decides x (inner t) = (λ h. cc, λ e. cc)

-- An actual field's spelling begins no other value's.
actual_walk : (x : Datum) (v : TreeItem Datum) (rest : List ℕ) → IsDatum x → datum_length x ≤ 1024 → IsItem IsDatum v → item_levels v ≤ 7 → item_length datum_length v ≤ 1024
    → strip (datum_spelling x) (value_spelling v ++ rest) ≡ cond (is_datum x v) (Some rest) None
actual_walk x v rest dx px dv lv pv =
    let d = is_datum_decides x v in
    let cases : (b : Bool) → is_datum x v ≡ b → strip (datum_spelling x) (value_spelling v ++ rest) ≡ cond b (Some rest) None = elim [
      | true ↦ λ q. ap (λ w. strip (datum_spelling x) (value_spelling w ++ rest)) (d.0 q) ∙ strip_whole (datum_spelling x) rest
      | false ↦ λ q. none_unless (strip (datum_spelling x) (value_spelling v ++ rest)) (λ r e.
          let a = item_again IsDatum datum_length datum_spelling datum_at datum_leaves v 7 rest dv lv pv in
          let b = item_again IsDatum datum_length datum_spelling datum_at datum_leaves (leaf x) 7 r dx (omega arith) px in
          let h = parts (sym a ∙ ap (item_at datum_at 7) (strip_found (datum_spelling x) (value_spelling v ++ rest) r e) ∙ b) in
          let f : is_datum x v ≡ true = d.1 h.0 in
          let g : ⊥ = cc in g)
    ] in
    cases (is_datum x v) refl

tag_number : (k : Kind) → value_tag k ≡ suc (kind_number k)
tag_number kinds.Number = refl
tag_number kinds.Text = refl
tag_number kinds.Bytes = refl
tag_number kinds.Truth = refl
tag_number kinds.Tuple = refl
tag_number kinds.Wide = refl

same_tag : (k l : Kind) → value_tag k ≡ value_tag l → k ≡ l
same_tag k l e = sym (kind_from-number k) ∙ ap kind_from (omega (arith, e, tag_number k, tag_number l)) ∙ kind_from-number l

-- each value begins with the tag of its kind
tagged : (v : TreeItem Datum) (rest : List ℕ) → (tail : List ℕ) × (value_spelling v ++ rest ≡ value_tag (kind_of v) ∷ tail)
tagged (leaf (number n)) rest = (_, refl)
tagged (leaf (text s)) rest = (_, refl)
tagged (leaf (bytes s)) rest = (_, refl)
tagged (leaf (truth b)) rest = (_, refl)
tagged (leaf (wide n)) rest = (_, refl)
tagged (inner t) rest = (_, refl)

formal_walk : (k : Kind) (v : TreeItem Datum) (rest : List ℕ) → IsItem IsDatum v → item_levels v ≤ 7 → item_length datum_length v ≤ 1024
    → behind_kind k (value_spelling v ++ rest) ≡ cond (is_of_kind k v) (Some rest) None
unfolding behind_kind
formal_walk k v rest dv lv pv =
    let d = kind_decides k v in
    let front = tagged v rest in
    let whole = behind_spelled v rest dv lv pv in
    let cases : (b : Bool) → is_of_kind k v ≡ b → (strip (value_tag k ∷ []) (value_spelling v ++ rest) >>= λ after. behind_value (value_spelling v ++ rest)) ≡ cond b (Some rest) None = elim [
      | true ↦ λ q.
          let t = eq-eqb (value_tag k) (value_tag (kind_of v)) (sym (ap value_tag (d.0 q))) in
          ap (λ bs. strip (value_tag k ∷ []) bs >>= λ after. behind_value (value_spelling v ++ rest)) front.1
          ∙ ap (λ c. cond c (Some front.0) None >>= λ after. behind_value (value_spelling v ++ rest)) t ∙ whole
      | false ↦ λ q.
          ap (λ o. o >>= λ after. behind_value (value_spelling v ++ rest)) (none_unless (strip (value_tag k ∷ []) (value_spelling v ++ rest)) (λ r e.
          let h : value_tag (kind_of v) ∷ front.0 ≡ value_tag k ∷ r = sym front.1 ∙ strip_found (value_tag k ∷ []) (value_spelling v ++ rest) r e in
          let f : is_of_kind k v ≡ true = d.1 (same_tag (kind_of v) k cc) in
          let g : ⊥ = cc in g))
    ] in
    cases (is_of_kind k v) refl

same_count : (p : TemplateTree) (t : TupleTree) → is_match p t ≡ true → how_many p ≡ how_many t
same_count none none h = refl
same_count none (item v t) h = absurd (let g : ⊥ = cc in g)
same_count (item f p) none h = absurd (let g : ⊥ = cc in g)
same_count (item f p) (item v t) h = let e = same_count p t (and_parts (is_field_match f v) (is_match p t) h).1 in omega arith

not_counted : (p : TemplateTree) (t : TupleTree) → eqb (how_many p) (how_many t) ≡ false → is_match p t ≡ false
not_counted p t q =
    let cases : (b : Bool) → is_match p t ≡ b → is_match p t ≡ false = elim [
      | true ↦ λ h. let e = eq-eqb (how_many p) (how_many t) (same_count p t h) in absurd (let g : ⊥ = cc in g)
      | false ↦ λ h. h
    ] in
    cases (is_match p t) refl

mutual
  field_walk : (f : TreeItem Slot) (v : TreeItem Datum) (rest : List ℕ) → IsItem IsSlot f → item_length slot_length f ≤ 1024 → IsItem IsDatum v → item_levels v ≤ 7 → item_length datum_length v ≤ 1024
      → behind_field f (value_spelling v ++ rest) ≡ cond (is_field_match f v) (Some rest) None
  field_walk (leaf (actual x)) v rest df pf dv lv pv = actual_walk x v rest df pf dv lv pv
  field_walk (leaf any) v rest df pf dv lv pv = behind_spelled v rest dv lv pv
  field_walk (leaf (formal k)) v rest df pf dv lv pv = formal_walk k v rest dv lv pv
  field_walk (inner p) (leaf (number n)) rest df pf dv lv pv = refl
  field_walk (inner p) (leaf (text s)) rest df pf dv lv pv = refl
  field_walk (inner p) (leaf (bytes s)) rest df pf dv lv pv = refl
  field_walk (inner p) (leaf (truth b)) rest df pf dv lv pv = refl
  field_walk (inner p) (leaf (wide n)) rest df pf dv lv pv = refl
  field_walk (inner p) (inner t) rest df pf dv lv pv =
      let cases : (b : Bool) → eqb (how_many p) (how_many t) ≡ b
      → (cond b (Some (items_spelling datum_spelling t ++ rest)) None >>= λ after. behind_fields p after) ≡ cond (is_match p t) (Some rest) None = elim [
        | true ↦ λ q. fields_walk p t rest (eqb-true (how_many p) (how_many t) q) df.1 (omega arith) dv.1 (omega arith) (omega arith)
        | false ↦ λ q. ap (λ b. cond b (Some rest) None) (sym (not_counted p t q))
      ] in
      cases (eqb (how_many p) (how_many t)) refl

  fields_walk : (p : TemplateTree) (t : TupleTree) (rest : List ℕ) → how_many p ≡ how_many t → AreItems IsSlot p → length_in slot_length p ≤ 1024 → AreItems IsDatum t → levels_in t ≤ 7 → length_in datum_length t ≤ 1024
      → behind_fields p (items_spelling datum_spelling t ++ rest) ≡ cond (is_match p t) (Some rest) None
  fields_walk none none rest n dp pp dt lt pt = refl
  fields_walk none (item v t) rest n dp pp dt lt pt = absurd (omega arith)
  fields_walk (item f p) none rest n dp pp dt lt pt = absurd (omega arith)
  fields_walk (item f p) (item v t) rest n dp pp dt lt pt =
      let after : List ℕ = items_spelling datum_spelling t ++ rest in
      let first = field_walk f v after dp.0 (omega arith) dt.0 (omega arith) (omega arith) in
      let cases : (b : Bool) → (cond b (Some after) None >>= λ bs. behind_fields p bs) ≡ cond (b && is_match p t) (Some rest) None = elim [
        | true ↦ fields_walk p t rest (omega arith) dp.1 (omega arith) dt.1 (omega arith) (omega arith)
        | false ↦ refl
      ] in
      ap (λ bs. behind_field f bs >>= λ bs. behind_fields p bs) (append_assoc (value_spelling v) (items_spelling datum_spelling t) rest)
      ∙ ap (λ o. o >>= λ bs. behind_fields p bs) first ∙ cases (is_field_match f v)

-- the walk along the whole of a tuple's bytes
pub walk : (p q : TemplateTree) (t : TupleTree) (bs : List ℕ) → q ≡ p → bs ≡ items_spelling datum_spelling t → IsTemplate p → IsTuple t → how_many p ≡ how_many t
    → behind_fields q bs ≡ cond (is_match p t) (Some []) None
walk p q t bs e f hp ht n =
    rw (e, f) (ap (behind_fields p) (sym (append-nil (items_spelling datum_spelling t)))
    ∙ fields_walk p t [] n hp.each (omega (arith, hp.length)) ht.each (omega (arith, ht.levels)) (omega (arith, ht.length)))

pub other_count : (p : TemplateTree) (t : TupleTree) → (how_many p ≡ how_many t → ⊥) → is_match p t ≡ false
other_count p t ne =
    let cases : (b : Bool) → is_match p t ≡ b → is_match p t ≡ false = elim [ true ↦ λ h. absurd (ne (same_count p t h)) | false ↦ λ h. h ] in
    cases (is_match p t) refl
