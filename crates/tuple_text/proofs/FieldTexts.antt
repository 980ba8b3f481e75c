-- The texts of the fields that bytes spell.
use Rattle.std.proofs.Common.{◌≡◌, ℕ, zero, suc, ◌+◌, ◌-◌, ◌<◌, true, false, cond, List, [], ◌∷◌, ◌++◌, length, Option}
use Rattle.std.proofs.Common.{Some, None, ap, sym, subst, refl, ◌∙◌, arith, append-nil}
use lib.Dec.{ltb}
use Rattle.tuple_tree.specs.Items.{TreeItem, leaf, inner, none, item, with_last, how_many, item_levels, levels_in}
use Rattle.tuple_tree.specs.Items.{item_length, length_in}
use Rattle.tuple_tree.specs.Limits.{IsItem, AreItems}
use Rattle.tuple_tree.specs.Values.{Datum, Slot, actual, TupleTree, TemplateTree, IsDatum, IsSlot, IsTuple, IsTemplate}
use Rattle.tuple_tree.specs.Values.{datum_length, slot_length}
use Rattle.tuple_tree.specs.Reading.{◌>>=◌, Reader, rest_of, more, byte_at, inner_at, item_at, items_at, items_with}
use Rattle.tuple_tree.specs.Reading.{item_with}
use Rattle.tuple_tree.specs.Loose.{loose_slot_at}
use Rattle.tuple_tree.specs.Spelling.{datum_spelling, slot_spelling, item_spelling, items_spelling}
use Rattle.tuple_tree.proofs.Loosening.{IsLooseSlot, loosen_slot, loosen_items, loose_slot_leaves}
use Rattle.tuple_tree.proofs.Seeing.{joined, more_from}
use Rattle.tuple_tree.proofs.Skipping.{rest_some}
use Rattle.tuple_tree.proofs.Steps.{at_leaf, at_five, inner_below, no_levels}
use Rattle.tuple_tree.proofs.Trees.{onto_again}
use Rattle.tuple_text.specs.Texts.{datum_text, slot_text}
use Rattle.tuple_text.specs.Written.{item_written, items_written, more_written, tuple_written, template_written}
use Rattle.tuple_text.specs.Walks.{spelled_field_at, spelled_fields_at, field_written, fields_written, others_written}
use Rattle.tuple_text.specs.Walks.{IsThere, text_of}

-- ---- one field, and those after it

-- The texts and the rest of n fields, by the first one and the m after it.
pub record OneMore (levels n m : ℕ) (bs after : List ℕ) : Type 0 where
  pub there : IsThere (spelled_fields_at levels m after)
  pub rest : rest_of (spelled_fields_at levels n bs) ≡ rest_of (spelled_fields_at levels m after)
  pub fields : text_of fields_written (spelled_fields_at levels n bs) ≡ text_of field_written (spelled_field_at levels bs) ++ text_of others_written (spelled_fields_at levels m after)
  pub others : text_of others_written (spelled_fields_at levels n bs) ≡ 32 ∷ text_of field_written (spelled_field_at levels bs) ++ text_of others_written (spelled_fields_at levels m after)

one_more : (levels n : ℕ) (bs after : List ℕ) → IsThere (spelled_fields_at levels (suc n) bs) → rest_of (spelled_field_at levels bs) ≡ Some after → OneMore levels (suc n) n bs after
unfolding spelled_field_at spelled_fields_at
one_more levels n bs after h r =
    let at : Reader (TreeItem Slot) = item_at loose_slot_at levels in
    let x = rest_some (at bs) after r in
    let read : more at with_last (suc n) none bs ≡ joined (item x.0 none) (more at with_last n none after) =
    ap (λ o. o >>= λ y. more at with_last n (with_last none y.0) y.1) x.1 ∙ more_from at n (item x.0 none) after in
    let cases : (o : Option (TemplateTree × List ℕ)) → IsThere (joined (item x.0 none) o)
    → IsThere o × (rest_of (joined (item x.0 none) o) ≡ rest_of o) × (text_of fields_written (joined (item x.0 none) o) ≡ field_written x.0 ++ text_of others_written o)
    × (text_of others_written (joined (item x.0 none) o) ≡ 32 ∷ field_written x.0 ++ text_of others_written o) = elim [
      | None ↦ λ k. absurd (let g : ⊥ = cc in g)
      | Some y ↦ λ k. (refl, refl, refl, refl)
    ] in
    let k = cases (more at with_last n none after) (subst IsThere read h) in
    let one : text_of field_written (at bs) ≡ field_written x.0 = ap (text_of field_written) x.1 in
    let behind = text_of others_written (more at with_last n none after) in
    record {
      there = k.0;
      rest = ap rest_of read ∙ k.1;
      fields = ap (text_of fields_written) read ∙ k.2 ∙ ap (λ t. t ++ behind) (sym one);
      others = ap (text_of others_written) read ∙ k.3 ∙ ap (λ t. 32 ∷ t ++ behind) (sym one);
    }

pub first_there : (levels n : ℕ) (bs : List ℕ) → 0 < n → IsThere (spelled_fields_at levels n bs) → IsThere (spelled_field_at levels bs)
unfolding spelled_field_at spelled_fields_at
first_there levels zero bs p h = absurd (omega arith)
first_there levels (suc n) bs p h =
    let cases : (o : Option (TreeItem Slot × List ℕ)) → IsThere (o >>= λ x. more (item_at loose_slot_at levels) with_last n (with_last none x.0) x.1) → IsThere o = elim [
      | None ↦ λ k. k
      | Some x ↦ λ k. refl
    ] in
    cases (item_at loose_slot_at levels bs) h

pub further : (levels n m : ℕ) (bs after : List ℕ) → n ≡ m + 1 → IsThere (spelled_fields_at levels n bs) → rest_of (spelled_field_at levels bs) ≡ Some after → OneMore levels n m bs after
further levels n m bs after p h r =
    let k : n ≡ suc m = omega arith in
    subst (λ j. OneMore levels j m bs after) (sym k) (one_more levels m bs after (subst (λ j. IsThere (spelled_fields_at levels j bs)) k h) r)

pub none_left : (levels n : ℕ) (bs : List ℕ) → n ≡ 0 → spelled_fields_at levels n bs ≡ Some (none, bs)
unfolding spelled_fields_at
none_left levels n bs e = rw e refl

-- ---- a field by what stands after its tag

-- another reading with the same text and the same rest
pub record IsRead {X Y : Type 0} (text : X → List ℕ) (text_there : Y → List ℕ) (read : Option (X × List ℕ)) (read_there : Option (Y × List ℕ)) : Type 0 where
  pub there : IsThere read_there
  pub rest : rest_of read ≡ rest_of read_there
  pub same : text_of text read ≡ text_of text_there read_there

read_by : {X Y : Type 0} (text : X → List ℕ) (f : Y → X) (o : Option (Y × List ℕ)) (read : Option (X × List ℕ)) → read ≡ (o >>= λ y. Some (f y.0, y.1)) → IsThere read → IsRead text (λ y. text (f y)) read o
read_by text f None read e h = absurd (let g = subst IsThere e h in let k : ⊥ = cc in k)
read_by text f (Some y) read e h = record { there = refl; rest = ap rest_of e; same = ap (text_of text) e }

pub field_length : (levels : ℕ) (bs : List ℕ) → IsThere (spelled_field_at levels bs) → 0 < length bs
unfolding spelled_field_at item_with
field_length levels [] h = absurd (let g : ⊥ = cc in g)
field_length levels (b ∷ bs) h = omega arith

pub slot_read : (levels tag : ℕ) (bs front : List ℕ) → IsThere (spelled_field_at levels bs) → byte_at bs ≡ Some (tag, front) → (tag ≡ 5 → ⊥) → IsRead field_written slot_text (spelled_field_at levels bs) (loose_slot_at tag front)
unfolding spelled_field_at
slot_read levels tag bs front h e ne = read_by field_written leaf (loose_slot_at tag front) (spelled_field_at levels bs) (at_leaf loose_slot_at levels tag bs front e ne) h

-- a template in a template
pub record IsNested (levels : ℕ) (bs front : List ℕ) : Type 0 where
  pub deep : 0 < levels
  pub some : 0 < length front
  pub list : (count : ℕ) (fields : List ℕ) → byte_at front ≡ Some (count, fields) → IsRead field_written template_written (spelled_field_at levels bs) (spelled_fields_at (levels - 1) count fields)

some_levels : (levels : ℕ) (front : List ℕ) → IsThere (inner_at loose_slot_at levels front) → 0 < levels
some_levels zero front h = absurd (let g = subst IsThere (no_levels loose_slot_at front) h in let k : ⊥ = cc in k)
some_levels (suc n) front h = omega arith

some_front : (levels : ℕ) (front : List ℕ) → IsThere (items_at loose_slot_at levels front) → 0 < length front
unfolding items_with
some_front levels [] h = absurd (let g : ⊥ = cc in g)
some_front levels (b ∷ bs) h = omega arith

counted : (levels count : ℕ) (front fields : List ℕ) → IsThere (items_at loose_slot_at levels front) → byte_at front ≡ Some (count, fields) → items_at loose_slot_at levels front ≡ spelled_fields_at levels count fields
unfolding items_with spelled_fields_at
counted levels count front fields h e =
    let read : Option (TemplateTree × List ℕ) = more (item_at loose_slot_at levels) with_last count none fields in
    let f : items_at loose_slot_at levels front ≡ cond (ltb 32 count) None read = rw e refl in
    let cases : (b : _) → IsThere (cond b None read) → cond b None read ≡ read = elim [
      | true ↦ λ k. absurd (let g : ⊥ = cc in g)
      | false ↦ λ k. refl
    ] in
    f ∙ cases (ltb 32 count) (subst IsThere f h)

pub nested_read : (levels tag : ℕ) (bs front : List ℕ) → IsThere (spelled_field_at levels bs) → byte_at bs ≡ Some (tag, front) → tag ≡ 5 → IsNested levels bs front
unfolding spelled_field_at
nested_read levels tag bs front h e f =
    let five : item_at loose_slot_at levels bs ≡ inner_at loose_slot_at levels front = at_five loose_slot_at levels tag bs front e f in
    let l = some_levels levels front (subst IsThere five h) in
    let read = five ∙ inner_below loose_slot_at levels front l in
    let r = read_by field_written inner (items_at loose_slot_at (levels - 1) front) (spelled_field_at levels bs) read h in
    record {
      deep = l;
      some = some_front (levels - 1) front r.there;
      list = λ count fields c. let k = counted (levels - 1) count front fields r.there c in record { there = subst IsThere k r.there; rest = r.rest ∙ ap rest_of k; same = r.same ∙ ap (text_of template_written) k };
    }

-- ---- a whole tuple or template

-- the template of these values alone
abbrev mutual
  pub actual_field : TreeItem Datum → TreeItem Slot
  actual_field (leaf x) = leaf (actual x)
  actual_field (inner t) = inner (actuals t)

  pub actuals : TupleTree → TemplateTree
  actuals none = none
  actuals (item x t) = item (actual_field x) (actuals t)

mutual
  field_spelled : (x : TreeItem Datum) → item_spelling slot_spelling (actual_field x) ≡ item_spelling datum_spelling x
  field_spelled (leaf x) = refl
  field_spelled (inner t) = rw (actuals_many t, actuals_spelled t) refl

  actuals_spelled : (t : TupleTree) → items_spelling slot_spelling (actuals t) ≡ items_spelling datum_spelling t
  actuals_spelled none = refl
  actuals_spelled (item x t) = rw (field_spelled x, actuals_spelled t) refl

  actuals_many : (t : TupleTree) → how_many (actuals t) ≡ how_many t
  actuals_many none = refl
  actuals_many (item x t) = ap (λ n. 1 + n) (actuals_many t)

mutual
  field_levels : (x : TreeItem Datum) → item_levels (actual_field x) ≡ item_levels x
  field_levels (leaf x) = refl
  field_levels (inner t) = ap (λ n. 1 + n) (actuals_levels t)

  actuals_levels : (t : TupleTree) → levels_in (actuals t) ≡ levels_in t
  actuals_levels none = refl
  actuals_levels (item x t) = rw (field_levels x, actuals_levels t) refl

mutual
  field_lengths : (x : TreeItem Datum) → item_length slot_length (actual_field x) ≡ item_length datum_length x
  field_lengths (leaf x) = refl
  field_lengths (inner t) = ap (λ n. 2 + n) (actuals_length t)

  actuals_length : (t : TupleTree) → length_in slot_length (actuals t) ≡ length_in datum_length t
  actuals_length none = refl
  actuals_length (item x t) = rw (field_lengths x, actuals_length t) refl

mutual
  field_valid : (x : TreeItem Datum) → IsItem IsDatum x → IsItem IsSlot (actual_field x)
  field_valid (leaf x) h = h
  field_valid (inner t) h = (omega (arith, h.0, actuals_many t), actuals_valid t h.1)

  actuals_valid : (t : TupleTree) → AreItems IsDatum t → AreItems IsSlot (actuals t)
  actuals_valid none h = tt
  actuals_valid (item x t) h = (field_valid x h.0, actuals_valid t h.1)

mutual
  field_text : (x : TreeItem Datum) → item_written slot_text (actual_field x) ≡ item_written datum_text x
  field_text (leaf x) = refl
  field_text (inner t) = ap (λ bs. 40 ∷ bs ++ 41 ∷ []) (actuals_text t)

  actuals_text : (t : TupleTree) → items_written slot_text (actuals t) ≡ items_written datum_text t
  actuals_text none = refl
  actuals_text (item x t) = rw (field_text x, actuals_more t) refl

  actuals_more : (t : TupleTree) → more_written slot_text (actuals t) ≡ more_written datum_text t
  actuals_more none = refl
  actuals_more (item x t) = rw (field_text x, actuals_more t) refl

actuals_within : (t : TupleTree) → IsTuple t → IsTemplate (actuals t)
actuals_within t h =
    record {
      fields = omega (arith, h.fields, actuals_many t);
      levels = omega (arith, h.levels, actuals_levels t);
      length = omega (arith, h.length, actuals_length t);
      each = actuals_valid t h.each;
    }

-- the bytes of a template, read whole
pub record IsWhole (count : ℕ) (bs text : List ℕ) : Type 0 where
  pub there : IsThere (spelled_fields_at 7 count bs)
  pub is : text_of template_written (spelled_fields_at 7 count bs) ≡ text

pub template_read : (p : TemplateTree) (count : ℕ) (bs : List ℕ) → IsTemplate p → count ≡ how_many p → bs ≡ items_spelling slot_spelling p → IsWhole count bs (template_written p)
unfolding spelled_fields_at
template_read p count bs h n e =
    let read : spelled_fields_at 7 count bs ≡ Some (p, []) =
    ap (λ m. more (item_at loose_slot_at 7) with_last m none bs) n ∙ ap (more (item_at loose_slot_at 7) with_last (how_many p) none) (e ∙ sym (append-nil (items_spelling slot_spelling p)))
    ∙ onto_again IsLooseSlot slot_length slot_spelling loose_slot_at loose_slot_leaves p none 7 [] (loosen_items loosen_slot p h.each) (omega (arith, h.levels)) (omega (arith, h.length)) in
    record { there = subst IsThere (sym read) refl; is = ap (text_of template_written) read }

pub tuple_read : (t : TupleTree) (count : ℕ) (bs : List ℕ) → IsTuple t → count ≡ how_many t → bs ≡ items_spelling datum_spelling t → IsWhole count bs (tuple_written t)
tuple_read t count bs h n e =
    let w = template_read (actuals t) count bs (actuals_within t h) (n ∙ sym (actuals_many t)) (e ∙ sym (actuals_spelled t)) in
    record { there = w.there; is = w.is ∙ ap (λ xs. 40 ∷ xs ++ 41 ∷ []) (actuals_text t) }
