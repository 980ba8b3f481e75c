-- The first values of tuples and templates, read in their bytes.
use Rattle.std.proofs.Common.{◌≡◌, ℕ, suc, ◌+◌, ◌-◌, ◌≤◌, Bool, true, false, cond, List, [], ◌∷◌, ◌++◌, length, take}
use Rattle.std.proofs.Common.{Option, Some, None, ap, sym, subst, refl, ◌∙◌, arith, length-append}
use Rattle.std.specs.Prelude.{option_map, slice_get, IfSome}
use Rattle.std.proofs.lemmas.List.{take_at}
use lib.Dec.{eqb}
use Rattle.tuple_tree.specs.Items.{TreeItem, leaf, inner, none, item, how_many, length_in, as_list}
use Rattle.tuple_tree.specs.Limits.{AreItems}
use Rattle.tuple_tree.specs.Values.{Datum, bytes, actual, any, formal, datum_length, slot_length, datum_kind, IsDatum}
use Rattle.tuple_tree.specs.Values.{IsSlot, TupleTree, TemplateTree, AreBytes, IsTuple, IsTemplate}
use Rattle.tuple_tree.specs.declared.atoms.Kind.{Kind}
use Rattle.tuple_tree.specs.declared.atoms.Kind.TheVariants as kinds
use Rattle.tuple_tree.specs.declared.values.AtomRef.{AtomRef}
use Rattle.tuple_tree.specs.Reading.{◌>>=◌, rest_of, byte_at, nothing, item_with, item_at}
use Rattle.tuple_tree.specs.Loose.{loose_at, loose_slot_at}
use Rattle.tuple_tree.specs.Seen.{seen_datum}
use Rattle.tuple_tree.specs.Spelling.{formal_tag, datum_spelling, slot_spelling, items_spelling}
use Rattle.tuple_tree.proofs.Loosening.{IsLoose, IsLooseSlot, loosen, loosen_slot, loosen_item, loose_leaves}
use Rattle.tuple_tree.proofs.Loosening.{loose_slot_leaves}
use Rattle.tuple_tree.proofs.Readers.{parts}
use Rattle.tuple_tree.proofs.Skipping.{rest_some}
use Rattle.tuple_tree.proofs.Steps.{at_leaf}
use Rattle.tuple_tree.proofs.Telling.{byte_whole}
use Rattle.tuple_tree.proofs.Trees.{item_again}
use Rattle.space.specs.Firsts.{front_at, front_spelling}
use Rattle.space.specs.Keys.{key_of, tuple_key, template_key}
use Rattle.space.specs.Prints.{front_print, tuple_print, first_kind}

-- ---- the value at the front of bytes

pub no_front : (bs : List ℕ) → byte_at bs ≡ None → front_at bs ≡ None
unfolding front_at
no_front bs e = rw e refl

pub not_front : (tag : ℕ) (bs after : List ℕ) → byte_at bs ≡ Some (tag, after) → loose_at tag after ≡ None → front_at bs ≡ None
unfolding front_at
not_front tag bs after e f = rw (e, f) refl

pub front : (tag : ℕ) (bs after rest : List ℕ) (x : Datum) → byte_at bs ≡ Some (tag, after) → loose_at tag after ≡ Some (x, rest) → front_at bs ≡ Some x
unfolding front_at
front tag bs after rest x e f = rw (e, f) refl

-- its spelling
pub front_spelled : (tag : ℕ) (bs after rest value : List ℕ) → byte_at bs ≡ Some (tag, after) → rest_of (loose_at tag after) ≡ Some rest → AreBytes bs
    → (length rest ≤ length bs) × (value ≡ take (length bs - length rest) bs → Some value ≡ front_spelling bs)
front_spelled tag bs after rest value e r d =
    let x = rest_some (loose_at tag after) rest r in
    let is : bs ≡ tag ∷ after = byte_whole bs after tag e in
    let whole : bs ≡ datum_spelling x.0 ++ rest = is ∙ (loose_leaves.found tag after rest x.0 (λ i. subst AreBytes is d (suc i)) x.1).0.whole in
    let long : length bs ≡ length (datum_spelling x.0) + length rest = ap length whole ∙ length-append (datum_spelling x.0) rest in
    let k = length bs - length rest in (
      omega (arith, long),
      λ v.
          let same : value ≡ datum_spelling x.0 = v ∙ ap (take k) whole ∙ take_at (datum_spelling x.0) rest k (omega (arith, long)) in
          ap Some same ∙ ap (option_map (λ y. datum_spelling y)) (sym (front tag bs after rest x.0 e x.1)),
    )

-- ---- the first value of a tuple or template

abbrev pub first_datum : TupleTree → Option Datum
first_datum none = None
first_datum (item (leaf x) t) = Some x
first_datum (item (inner u) t) = None

abbrev pub first_actual : TemplateTree → Option Datum
first_actual none = None
first_actual (item (leaf (actual x)) p) = Some x
first_actual (item (leaf any) p) = None
first_actual (item (leaf (formal k)) p) = None
first_actual (item (inner q) p) = None

abbrev as_leaf : Datum × List ℕ → Option (TreeItem Datum × List ℕ)
as_leaf y = Some (leaf y.0, y.1)

abbrev alone : Datum × List ℕ → Option Datum
alone y = Some y.0

leaf_alone : (o : Option (Datum × List ℕ)) (x : Datum) (rest : List ℕ) → (o >>= as_leaf) ≡ Some (leaf x, rest) → (o >>= alone) ≡ Some x
leaf_alone None x rest e = absurd (let g : ⊥ = cc in g)
leaf_alone (Some y) x rest e = let f : leaf y.0 ≡ leaf x = (parts e).0 in let same : y.0 ≡ x = cc in ap Some same

read_front : (bs rest : List ℕ) (x : Datum) → item_with loose_at nothing bs ≡ Some (leaf x, rest) → front_at bs ≡ Some x
unfolding item_with nothing front_at
read_front [] rest x e = absurd (let g : ⊥ = cc in g)
read_front (tag ∷ bs) rest x e =
    let cases : (b : Bool) → cond b None (loose_at tag bs >>= as_leaf) ≡ Some (leaf x, rest) → (loose_at tag bs >>= alone) ≡ Some x = elim [
      | true ↦ λ h. absurd (let g : ⊥ = cc in g)
      | false ↦ leaf_alone (loose_at tag bs) x rest
    ] in
    cases (eqb tag 5) e

datum_front : (x : Datum) (rest : List ℕ) → IsDatum x → datum_length x ≤ 1024 → front_at (datum_spelling x ++ rest) ≡ Some x
datum_front x rest d l = read_front (datum_spelling x ++ rest) rest x (loose_leaves.again x rest (loosen x d) l nothing)

pub tuple_front : (t : TupleTree) → AreItems IsDatum t → length_in datum_length t ≤ 1024 → front_at (items_spelling datum_spelling t) ≡ first_datum t
unfolding front_at loose_at
tuple_front none d l = refl
tuple_front (item (leaf x) t) d l = datum_front x (items_spelling datum_spelling t) d.0 (omega (arith, l))
tuple_front (item (inner u) t) d l = refl

pub template_front : (p : TemplateTree) → AreItems IsSlot p → length_in slot_length p ≤ 1024 → front_at (items_spelling slot_spelling p) ≡ first_actual p
unfolding front_at loose_at
template_front none d l = refl
template_front (item (leaf (actual x)) p) d l = datum_front x (items_spelling slot_spelling p) d.0 (omega (arith, l))
template_front (item (leaf any) p) d l = refl
template_front (item (leaf (formal kinds.Number)) p) d l = refl
template_front (item (leaf (formal kinds.Text)) p) d l = refl
template_front (item (leaf (formal kinds.Bytes)) p) d l = refl
template_front (item (leaf (formal kinds.Truth)) p) d l = refl
template_front (item (leaf (formal kinds.Tuple)) p) d l = refl
template_front (item (leaf (formal kinds.Wide)) p) d l = refl
template_front (item (inner q) p) d l = refl

-- ---- keys

-- a key by the spelling that was found at the front
pub record Keyed (count key : ℕ) (found : Option (List ℕ)) : Type 0 where
  pub some : (value : List ℕ) → Some value ≡ found → key_of count value ≡ key
  pub none : None ≡ found → 0 ≡ key

pub tuple_keyed : (t : TupleTree) (count : ℕ) (bs : List ℕ) → IsTuple t → count ≡ how_many t → bs ≡ items_spelling datum_spelling t → Keyed count (tuple_key t) (front_spelling bs)
tuple_keyed t count bs h n e =
    let found : front_spelling bs ≡ option_map (λ x. datum_spelling x) (first_datum t) =
    ap (λ xs. front_spelling xs) e ∙ ap (option_map (λ x. datum_spelling x)) (tuple_front t h.each (omega (arith, h.length))) in
    subst (Keyed count (tuple_key t)) (sym found) (go t n)
  where
    go : (t : TupleTree) → count ≡ how_many t → Keyed count (tuple_key t) (option_map (λ x. datum_spelling x) (first_datum t))
    go none n = record { some = λ value f. absurd (let g : ⊥ = cc in g); none = λ f. refl }
    go (item (leaf x) t) n = record {
      some = λ value f. let same : value ≡ datum_spelling x = cc in ap (key_of count) same ∙ ap (λ m. key_of m (datum_spelling x)) n;
      none = λ f. absurd (let g : ⊥ = cc in g);
    }
    go (item (inner u) t) n = record { some = λ value f. absurd (let g : ⊥ = cc in g); none = λ f. refl }

-- the same of a template's first field
pub record TemplateKeyed (count : ℕ) (key : Option ℕ) (found : Option (List ℕ)) : Type 0 where
  pub some : (value : List ℕ) → Some value ≡ found → Some (key_of count value) ≡ key
  pub none : None ≡ found → None ≡ key

pub template_keyed : (p : TemplateTree) (count : ℕ) (bs : List ℕ) → IsTemplate p → count ≡ how_many p → bs ≡ items_spelling slot_spelling p → TemplateKeyed count (template_key p) (front_spelling bs)
template_keyed p count bs h n e =
    let found : front_spelling bs ≡ option_map (λ x. datum_spelling x) (first_actual p) =
    ap (λ xs. front_spelling xs) e ∙ ap (option_map (λ x. datum_spelling x)) (template_front p h.each (omega (arith, h.length))) in
    subst (TemplateKeyed count (template_key p)) (sym found) (go p n)
  where
    go : (p : TemplateTree) → count ≡ how_many p → TemplateKeyed count (template_key p) (option_map (λ x. datum_spelling x) (first_actual p))
    go none n = record { some = λ value f. absurd (let g : ⊥ = cc in g); none = λ f. refl }
    go (item (leaf (actual x)) p) n = record {
      some = λ value f. let same : value ≡ datum_spelling x = cc in ap (λ s. Some (key_of count s)) same ∙ ap (λ m. Some (key_of m (datum_spelling x))) n;
      none = λ f. absurd (let g : ⊥ = cc in g);
    }
    go (item (leaf any) p) n = record { some = λ value f. absurd (let g : ⊥ = cc in g); none = λ f. refl }
    go (item (leaf (formal k)) p) n = record { some = λ value f. absurd (let g : ⊥ = cc in g); none = λ f. refl }
    go (item (inner q) p) n = record { some = λ value f. absurd (let g : ⊥ = cc in g); none = λ f. refl }

-- ---- the second value, and the kind of the first

-- what a walk past the first value finds
pub record Passed (t : TupleTree) (read : Option (List ℕ)) : Type 0 where
  pub some : (rest : List ℕ) → read ≡ Some rest → tuple_print t ≡ front_print (front_at rest)
  pub none : read ≡ None → tuple_print t ≡ 0

pub tuple_passed : (t : TupleTree) (bs : List ℕ) → IsTuple t → bs ≡ items_spelling datum_spelling t → Passed t (rest_of (item_at loose_at 7 bs))
unfolding item_with
tuple_passed none bs h e = subst (λ xs. Passed none (rest_of (item_at loose_at 7 xs))) (sym e) (record { some = λ rest r. absurd (let g : ⊥ = cc in g); none = λ r. refl })
tuple_passed (item v t) bs h e =
    let read : item_at loose_at 7 bs ≡ Some (v, items_spelling datum_spelling t) =
    ap (item_at loose_at 7) e ∙ item_again IsLoose datum_length datum_spelling loose_at loose_leaves v 7 (items_spelling datum_spelling t) (loosen_item loosen v h.each.0) (omega (arith, h.levels)) (omega (arith, h.length)) in
    subst (Passed (item v t)) (sym (ap rest_of read)) (record {
      some = λ rest r.
          let same : items_spelling datum_spelling t ≡ rest = cc in
          second t ∙ ap front_print (sym (tuple_front t h.each.1 (omega (arith, h.length)))) ∙ ap (λ xs. front_print (front_at xs)) same;
      none = λ r. absurd (let g : ⊥ = cc in g);
    })
  where
    second : (u : TupleTree) → tuple_print (item v u) ≡ front_print (first_datum u)
    second none = refl
    second (item (leaf x) u) = refl
    second (item (inner w) u) = refl

template_passed : (p : TemplateTree) (bs rest : List ℕ) (x : Datum) → IsTemplate p → bs ≡ items_spelling slot_spelling p → rest_of (item_at loose_slot_at 7 bs) ≡ Some rest → front_at rest ≡ Some x
    → slice_get (as_list p) 1 ≡ Some (leaf (actual x))
unfolding item_with
template_passed none bs rest x h e r f = absurd (let none_there = ap (λ xs. rest_of (item_at loose_slot_at 7 xs)) (sym e) ∙ r in let g : ⊥ = cc in g)
template_passed (item v p) bs rest x h e r f =
    let read : item_at loose_slot_at 7 bs ≡ Some (v, items_spelling slot_spelling p) =
    ap (item_at loose_slot_at 7) e ∙ item_again IsLooseSlot slot_length slot_spelling loose_slot_at loose_slot_leaves v 7 (items_spelling slot_spelling p) (loosen_item loosen_slot v h.each.0) (omega (arith, h.levels)) (omega (arith, h.length)) in
    let found : Some (items_spelling slot_spelling p) ≡ Some rest = sym (ap rest_of read) ∙ r in
    let same : items_spelling slot_spelling p ≡ rest = cc in
    second p (sym (template_front p h.each.1 (omega (arith, h.length))) ∙ ap front_at same ∙ f)
  where
    second : (q : TemplateTree) → first_actual q ≡ Some x → slice_get (as_list (item v q)) 1 ≡ Some (leaf (actual x))
    second none a = absurd (let g : ⊥ = cc in g)
    second (item (leaf (actual y)) q) a = let is : y ≡ x = cc in ap (λ z. Some (leaf (actual z))) is
    second (item (leaf any) q) a = absurd (let g : ⊥ = cc in g)
    second (item (leaf (formal k)) q) a = absurd (let g : ⊥ = cc in g)
    second (item (inner w) q) a = absurd (let g : ⊥ = cc in g)

pub actual_seen : (o : Option AtomRef) (p : TemplateTree) (bs rest : List ℕ) → IsTemplate p → bs ≡ items_spelling slot_spelling p → rest_of (item_at loose_slot_at 7 bs) ≡ Some rest
    → option_map (λ atom. seen_datum atom) o ≡ front_at rest → IfSome o (λ atom. slice_get (as_list p) 1 ≡ Some (leaf (actual (seen_datum atom))))
actual_seen None p bs rest h e r f = tt
actual_seen (Some atom) p bs rest h e r f = template_passed p bs rest (seen_datum atom) h e r (sym f)

formal_read : (k : Kind) (bs : List ℕ) → loose_slot_at (formal_tag k) bs ≡ Some (formal k, bs)
unfolding loose_slot_at
formal_read kinds.Number bs = refl
formal_read kinds.Text bs = refl
formal_read kinds.Bytes bs = refl
formal_read kinds.Truth bs = refl
formal_read kinds.Tuple bs = refl
formal_read kinds.Wide bs = refl

not_five : (k : Kind) → formal_tag k ≡ 5 → ⊥
not_five kinds.Number e = omega (arith, e)
not_five kinds.Text e = omega (arith, e)
not_five kinds.Bytes e = omega (arith, e)
not_five kinds.Truth e = omega (arith, e)
not_five kinds.Tuple e = omega (arith, e)
not_five kinds.Wide e = omega (arith, e)

formal_first : (p : TemplateTree) (bs after : List ℕ) (tag : ℕ) (k : Kind) → IsTemplate p → bs ≡ items_spelling slot_spelling p → byte_at bs ≡ Some (tag, after) → tag ≡ formal_tag k → slice_get (as_list p) 0 ≡ Some (leaf (formal k))
formal_first none bs after tag k h e b f = absurd (let none_there = ap byte_at (sym e) ∙ b in let g : ⊥ = cc in g)
formal_first (item v p) bs after tag k h e b f =
    let read : item_at loose_slot_at 7 bs ≡ Some (v, items_spelling slot_spelling p) =
    ap (item_at loose_slot_at 7) e ∙ item_again IsLooseSlot slot_length slot_spelling loose_slot_at loose_slot_leaves v 7 (items_spelling slot_spelling p) (loosen_item loosen_slot v h.each.0) (omega (arith, h.levels)) (omega (arith, h.length)) in
    let there : item_at loose_slot_at 7 bs ≡ Some (leaf (formal k), after) =
    at_leaf loose_slot_at 7 tag bs after b (λ five. not_five k (sym f ∙ five)) ∙ ap (λ o. o >>= λ x. Some (leaf x.0, x.1)) (ap (λ n. loose_slot_at n after) f ∙ formal_read k after) in
    ap Some (parts (sym read ∙ there)).0

pub formal_seen : (o : Option Kind) (p : TemplateTree) (bs after : List ℕ) (tag : ℕ) → IsTemplate p → bs ≡ items_spelling slot_spelling p → byte_at bs ≡ Some (tag, after) → IfSome o (λ kind. tag ≡ formal_tag kind)
    → IfSome o (λ kind. slice_get (as_list p) 0 ≡ Some (leaf (formal kind)))
formal_seen None p bs after tag h e b f = tt
formal_seen (Some k) p bs after tag h e b f = formal_first p bs after tag k h e b f

pub record IsFirst (t : TupleTree) (read : Option Datum) : Type 0 where
  pub some : (x : Datum) → Some x ≡ read → first_kind t ≡ datum_kind x
  pub none : None ≡ read → first_kind t ≡ kinds.Tuple

pub tuple_first : (t : TupleTree) (bs : List ℕ) → IsTuple t → bs ≡ items_spelling datum_spelling t → IsFirst t (front_at bs)
tuple_first t bs h e = subst (IsFirst t) (sym (ap front_at e ∙ tuple_front t h.each (omega (arith, h.length)))) (go t)
  where
    go : (t : TupleTree) → IsFirst t (first_datum t)
    go none = record { some = λ x f. absurd (let g : ⊥ = cc in g); none = λ f. refl }
    go (item (leaf y) t) = record { some = λ x f. let same : y ≡ x = cc in ap datum_kind same; none = λ f. absurd (let g : ⊥ = cc in g) }
    go (item (inner u) t) = record { some = λ x f. absurd (let g : ⊥ = cc in g); none = λ f. refl }
