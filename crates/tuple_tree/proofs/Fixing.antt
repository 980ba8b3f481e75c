-- The front of a template's spelling, before its first open field.
use Rattle.std.proofs.Common.{◌≡◌, ℕ, ◌+◌, ◌-◌, ◌<◌, ◌≤◌, Bool, true, false, ◌||◌, cond, List, [], ◌∷◌, ◌++◌, length}
use Rattle.std.proofs.Common.{take, Some, ◌↔◌, ap, sym, subst, refl, ◌∙◌, arith, append-nil, append_assoc}
use Rattle.std.proofs.Common.{length-append}
use lib.Dec.{eqb}
use Rattle.std.proofs.lemmas.List.{take_at}
use Rattle.std.proofs.lemmas.Bool.{eq-eqb}
use Rattle.tuple_tree.specs.Items.{TreeItem, leaf, inner, none, item, how_many, with_last, item_length, length_in}
use Rattle.tuple_tree.specs.Items.{whole_length, item_has, has_leaf}
use Rattle.tuple_tree.specs.Values.{Slot, actual, any, formal, slot_length, is_wide_slot, IsSlot, AreBytes}
use Rattle.tuple_tree.specs.Values.{TemplateTree}
use Rattle.tuple_tree.specs.Reading.{byte_at, slot_at, items_at}
use Rattle.tuple_tree.specs.Judging.{judged}
use Rattle.tuple_tree.specs.Loose.{loose_slot_at}
use Rattle.tuple_tree.specs.Spelling.{slot_spelling, item_spelling, items_spelling}
use Rattle.tuple_tree.specs.Flat.{items_in, HasItems, IsFlat, IsFlatTemplate}
use Rattle.tuple_tree.specs.declared.limits.Extent.{Extent}
use Rattle.tuple_tree.specs.Fronts.{is_open, field_front, front_of}
use Rattle.tuple_tree.proofs.Leaves.{slot_leaves}
use Rattle.tuple_tree.proofs.Trees.{item_spelling_length, items_spelling_length}
use Rattle.tuple_tree.proofs.Steps.{not_equal}
use Rattle.tuple_tree.proofs.Flat.{items_are}
use Rattle.tuple_tree.proofs.Loosening.{loosen_slot, loose_slot_leaves}
use Rattle.tuple_tree.proofs.Seeing.{flat_seen}
use Rattle.tuple_tree.proofs.Telling.{found}

pub none_open : (a b : Bool) → (a || b) ≡ false → (a ≡ false) × (b ≡ false)
none_open true b e = absurd (let g : ⊥ = cc in g)
none_open false b e = (refl, e)

-- whether a field is open, and the front with further fields behind it
abbrev pub joined : Bool → List ℕ → List ℕ → List ℕ
joined b xs ys = cond b xs (xs ++ ys)

-- If no field is open, the front is all.
mutual
  pub shut_field : (f : TreeItem Slot) → item_has is_open f ≡ false → field_front f ≡ item_spelling slot_spelling f
  shut_field (leaf (actual x)) e = refl
  shut_field (leaf any) e = absurd (let g : ⊥ = cc in g)
  shut_field (leaf (formal k)) e = absurd (let g : ⊥ = cc in g)
  shut_field (inner p) e = ap (λ xs. 5 ∷ how_many p ∷ xs) (shut p e)

  pub shut : (p : TemplateTree) → has_leaf is_open p ≡ false → front_of p ≡ items_spelling slot_spelling p
  shut none e = refl
  shut (item f p) e =
      let h = none_open (item_has is_open f) (has_leaf is_open p) e in
      ap (λ b. joined b (field_front f) (front_of p)) h.0 ∙ ap (λ xs. xs ++ front_of p) (shut_field f h.0)
      ∙ ap (λ xs. item_spelling slot_spelling f ++ xs) (shut p h.1)

-- The front stands at the front of the spelling.
mutual
  field_begins : (f : TreeItem Slot) → (rest : List ℕ) × (item_spelling slot_spelling f ≡ field_front f ++ rest)
  field_begins (leaf (actual x)) = ([], sym (append-nil (slot_spelling (actual x))))
  field_begins (leaf any) = (_, refl)
  field_begins (leaf (formal k)) = (_, refl)
  field_begins (inner p) = let r = begins p in (r.0, ap (λ xs. 5 ∷ how_many p ∷ xs) r.1)

  pub begins : (p : TemplateTree) → (rest : List ℕ) × (items_spelling slot_spelling p ≡ front_of p ++ rest)
  begins none = ([], refl)
  begins (item f p) =
      let spelled : List ℕ = items_spelling slot_spelling p in
      let cases : (b : Bool) → item_has is_open f ≡ b → (rest : List ℕ) × (item_spelling slot_spelling f ++ spelled ≡ joined b (field_front f) (front_of p) ++ rest) = elim [
        | true ↦ λ e. let r = field_begins f in (r.0 ++ spelled, ap (λ xs. xs ++ spelled) r.1 ∙ append_assoc (field_front f) r.0 spelled)
        | false ↦ λ e.
            let r = begins p in
            (r.0, ap (λ xs. xs ++ spelled) (sym (shut_field f e)) ∙ ap (λ xs. field_front f ++ xs) r.1 ∙ sym (append_assoc (field_front f) (front_of p) r.0))
      ] in
      cases (item_has is_open f) refl

pub field_short : (f : TreeItem Slot) → length (field_front f) ≤ item_length slot_length f
field_short f =
    let r = field_begins f in
    omega (arith, ap length r.1, length-append (field_front f) r.0, item_spelling_length IsSlot slot_length slot_spelling slot_at slot_leaves f)

-- An open field's spelling is longer than its front.
mutual
  open_field : (f : TreeItem Slot) → item_has is_open f ≡ true → length (field_front f) < item_length slot_length f
  open_field (leaf (actual x)) e = absurd (let g : ⊥ = cc in g)
  open_field (leaf any) e = omega arith
  open_field (leaf (formal k)) e = omega arith
  open_field (inner p) e = omega (arith, open_fields p e)

  open_fields : (p : TemplateTree) → has_leaf is_open p ≡ true → length (front_of p) < length_in slot_length p
  open_fields none e = absurd (let g : ⊥ = cc in g)
  open_fields (item f p) e =
      let cases : (b : Bool) → item_has is_open f ≡ b → length (joined b (field_front f) (front_of p)) < item_length slot_length f + length_in slot_length p = elim [
        | true ↦ λ h. omega (arith, open_field f h)
        | false ↦ λ h. omega (arith, length-append (field_front f) (front_of p), field_short f, open_fields p (ap (λ b. b || has_leaf is_open p) (sym h) ∙ e))
      ] in
      cases (item_has is_open f) refl

-- With one more field an open template keeps its front, and another has that of the field too.
front_last_open : (p : TemplateTree) (f : TreeItem Slot) → has_leaf is_open p ≡ true → front_of (with_last p f) ≡ front_of p
front_last_open none f e = absurd (let g : ⊥ = cc in g)
front_last_open (item g p) f e =
    let cases : (b : Bool) → item_has is_open g ≡ b → joined b (field_front g) (front_of (with_last p f)) ≡ joined b (field_front g) (front_of p) = elim [
      | true ↦ λ h. refl
      | false ↦ λ h. ap (λ xs. field_front g ++ xs) (front_last_open p f (ap (λ b. b || has_leaf is_open p) (sym h) ∙ e))
    ] in
    cases (item_has is_open g) refl

front_last_shut : (p : TemplateTree) (f : TreeItem Slot) → has_leaf is_open p ≡ false → front_of (with_last p f) ≡ front_of p ++ field_front f
front_last_shut none f e =
    let cases : (b : Bool) → joined b (field_front f) [] ≡ field_front f = elim [ true ↦ refl | false ↦ append-nil (field_front f) ] in
    cases (item_has is_open f)
front_last_shut (item g p) f e =
    let h = none_open (item_has is_open g) (has_leaf is_open p) e in
    ap (λ b. joined b (field_front g) (front_of (with_last p f))) h.0 ∙ ap (λ xs. field_front g ++ xs) (front_last_shut p f h.1)
    ∙ sym (append_assoc (field_front g) (front_of p) (field_front f)) ∙ ap (λ b. joined b (field_front g) (front_of p) ++ field_front f) (sym h.0)

-- Whether a field is open shows in the two lengths.
pub whole_front : (p : TemplateTree) → has_leaf is_open p ≡ false → whole_length slot_length p ≡ 1 + length (front_of p)
whole_front p e = omega (arith, ap length (shut p e), items_spelling_length IsSlot slot_length slot_spelling slot_at slot_leaves p)

pub no_whole_front : (p : TemplateTree) → has_leaf is_open p ≡ true → 1 + length (front_of p) < whole_length slot_length p
no_whole_front p e = omega (arith, open_fields p e)

-- the length of the front with one more field, by the numbers that the program has
pub front_grown : (p : TemplateTree) (f : TreeItem Slot) (fixed len more longer : ℕ) → fixed ≡ length (front_of p) → len ≡ whole_length slot_length p → more ≡ length (field_front f)
    → longer ≡ cond (eqb len (1 + fixed)) (fixed + more) fixed → longer ≡ length (front_of (with_last p f))
front_grown p f fixed len more longer a b m e =
    let cases : (o : Bool) → has_leaf is_open p ≡ o → longer ≡ length (front_of (with_last p f)) = elim [
      | true ↦ λ o.
          let n : eqb len (1 + fixed) ≡ false = not_equal len (1 + fixed) (λ q. absurd (omega (arith, no_whole_front p o, a, b, q))) in
          e ∙ ap (λ t. cond t (fixed + more) fixed) n ∙ a ∙ ap length (sym (front_last_open p f o))
      | false ↦ λ o.
          let y : eqb len (1 + fixed) ≡ true = eq-eqb len (1 + fixed) (omega (arith, whole_front p o, a, b)) in
          let s : fixed + more ≡ length (front_of p) + length (field_front f) = omega (arith, a, m) in
          e ∙ ap (λ t. cond t (fixed + more) fixed) y ∙ s ∙ sym (ap length (front_last_shut p f o) ∙ length-append (front_of p) (field_front f))
    ] in
    cases (has_leaf is_open p) refl

-- An open field lengthens no front.
pub front_kept : (p : TemplateTree) (f : TreeItem Slot) (fixed : ℕ) → fixed ≡ length (front_of p) → field_front f ≡ [] → fixed ≡ length (front_of (with_last p f))
front_kept p f fixed a o =
    let cases : (b : Bool) → has_leaf is_open p ≡ b → fixed ≡ length (front_of (with_last p f)) = elim [
      | true ↦ λ b. a ∙ ap length (sym (front_last_open p f b))
      | false ↦ λ b. omega (arith, a, ap length (front_last_shut p f b), length-append (front_of p) (field_front f), ap length o)
    ] in
    cases (has_leaf is_open p) refl

-- what a template keeps is that of the template which is read of its bytes
pub closed_template : {count : ℕ} {bs : List ℕ} {extent : Extent} {fixed : ℕ} {p : TemplateTree} → IsFlatTemplate count bs extent fixed p → IsFlatTemplate count bs extent fixed (items_in slot_at 7 count bs)
closed_template {count} {bs} {extent} {fixed} h = subst (IsFlatTemplate count bs extent fixed) (sym (items_are slot_leaves h.0)) h

pub fixed_of : {count : ℕ} {bs : List ℕ} {extent : Extent} {fixed : ℕ} {p q : TemplateTree} → IsFlatTemplate count bs extent fixed p → p ≡ q → fixed ≡ length (front_of q)
fixed_of h e = h.1 ∙ ap (λ p. length (front_of p)) e

-- the bytes up to the first open field are the front
pub front_taken : {count : ℕ} {bs : List ℕ} {extent : Extent} {fixed : ℕ} {p : TemplateTree} → IsFlatTemplate count bs extent fixed p → (fixed ≤ length bs) × (take fixed bs ≡ front_of p)
front_taken {count} {bs} {extent} {fixed} {p} h =
    let r = begins p in
    let e : bs ≡ front_of p ++ r.0 = h.0.spelled ∙ r.1 in
    (omega (arith, h.1, ap length e, length-append (front_of p) r.0), ap (take fixed) e ∙ take_at (front_of p) r.0 fixed (sym h.1))

pub fixed_whole : {count : ℕ} {bs : List ℕ} {extent : Extent} {fixed : ℕ} {p q : TemplateTree} (len : ℕ) → IsFlatTemplate count bs extent fixed p → p ≡ q → len ≡ whole_length slot_length q
    → (len ≡ 1 + fixed) ↔ (has_leaf is_open q ≡ false)
fixed_whole {fixed = fixed} {q = q} len h e l =
    let f = fixed_of h e in
    let cases : (o : Bool) → has_leaf is_open q ≡ o → len ≡ 1 + fixed → o ≡ false = elim [
      | true ↦ λ o m. absurd (omega (arith, no_whole_front q o, f, l, m))
      | false ↦ λ o m. refl
    ] in
    (cases (has_leaf is_open q) refl, λ o. omega (arith, whole_front q o, f, l))

-- the fields of a template, as the cursor reads them
pub fields_seen : {count : ℕ} {bs : List ℕ} {extent : Extent} {p : TemplateTree} → IsFlat IsSlot slot_length is_wide_slot slot_spelling count bs extent p
    → HasItems loose_slot_at 7 count bs × (items_in loose_slot_at 7 count bs ≡ p) × (length_in slot_length p ≤ 1024)
fields_seen {count} {bs} {extent} {p} h =
    let s = flat_seen loosen_slot loose_slot_leaves count bs extent p h in
    (s.0, s.1, omega (arith, h.measured.0.length))

-- the template that bytes were judged to be
pub template_read : (count below : ℕ) (wide : Bool) (bs front rest spelled : List ℕ) → byte_at bs ≡ Some (count, front) → AreBytes bs → length bs ≤ 1024
    → judged is_wide_slot (items_at slot_at 7 bs) ≡ Some (below, wide, rest) → spelled ≡ take (length front - length rest) front → length spelled ≡ length front - length rest
    → (p : TemplateTree) × (items_at slot_at 7 bs ≡ Some (p, rest))
    × IsFlat IsSlot slot_length is_wide_slot slot_spelling count spelled (record { depth = 1 + below; encoded_len = 1 + length spelled; has_wide = wide }) p
template_read count below wide bs front rest spelled e d n h s l =
    let f = found is_wide_slot slot_at slot_leaves count below wide bs front rest e d n h in
    (f.0, f.1, f.3 spelled (record { depth = 1 + below; encoded_len = 1 + length spelled; has_wide = wide }) s refl (ap (λ m. 1 + m) l) refl)
