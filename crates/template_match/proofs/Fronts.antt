-- What a template matches begins with the template's front, and is the front if no field is open.
use Rattle.std.proofs.Common.{◌≡◌, ℕ, Bool, true, false, cond, List, [], ◌∷◌, Option, Some, None, ap, sym, refl, ◌∙◌}
use Rattle.tuple_tree.specs.Items.{TreeItem, leaf, inner, none, item, how_many, item_has, has_leaf}
use Rattle.tuple_tree.specs.Values.{Slot, actual, any, formal, TemplateTree, TupleTree, IsTemplate, IsTuple}
use Rattle.tuple_tree.specs.Reading.{◌>>=◌}
use Rattle.tuple_tree.specs.Spelling.{datum_spelling, slot_spelling, items_spelling, field_spelling}
use Rattle.tuple_tree.specs.Fronts.{is_open, field_front, front_of}
use Rattle.tuple_tree.proofs.Fixing.{none_open, joined, shut_field, shut}
use Rattle.template_match.specs.Tests.{is_match}
use Rattle.template_match.specs.Walks.{strip, behind_field, behind_fields}
use Rattle.template_match.proofs.Stripping.{strip_append}
use Rattle.template_match.proofs.Walking.{walk}

bound : (q : Option (List ℕ)) (f g : List ℕ → Option (List ℕ)) → ((rest : List ℕ) → f rest ≡ g rest) → (q >>= f) ≡ (q >>= g)
bound None f g h = refl
bound (Some r) f g h = h r

-- The walk by fields of which none is open strips their spelling.
mutual
  shut_field_walk : (f : TreeItem Slot) (bs : List ℕ) → item_has is_open f ≡ false → behind_field f bs ≡ strip (field_spelling f) bs
  shut_field_walk (leaf (actual x)) bs e = refl
  shut_field_walk (leaf any) bs e = absurd (let g : ⊥ = cc in g)
  shut_field_walk (leaf (formal k)) bs e = absurd (let g : ⊥ = cc in g)
  shut_field_walk (inner p) bs e =
      bound (strip (5 ∷ how_many p ∷ []) bs) (λ rest. behind_fields p rest) (λ rest. strip (items_spelling slot_spelling p) rest) (λ rest. shut_walk p rest e)
      ∙ sym (strip_append (5 ∷ how_many p ∷ []) (items_spelling slot_spelling p) bs)

  shut_walk : (p : TemplateTree) (bs : List ℕ) → has_leaf is_open p ≡ false → behind_fields p bs ≡ strip (items_spelling slot_spelling p) bs
  shut_walk none bs e = refl
  shut_walk (item f p) bs e =
      let h = none_open (item_has is_open f) (has_leaf is_open p) e in
      ap (λ o. o >>= λ rest. behind_fields p rest) (shut_field_walk f bs h.0)
      ∙ bound (strip (field_spelling f) bs) (λ rest. behind_fields p rest) (λ rest. strip (items_spelling slot_spelling p) rest) (λ rest. shut_walk p rest h.1)
      ∙ sym (strip_append (field_spelling f) (items_spelling slot_spelling p) bs)

then_none : (q : Option (List ℕ)) (f g : List ℕ → Option (List ℕ)) → ((rest : List ℕ) → f rest ≡ None → g rest ≡ None) → (q >>= f) ≡ None → (q >>= g) ≡ None
then_none None f g h e = refl
then_none (Some r) f g h e = h r e

-- Bytes that don't begin with the front are walked by no field.
mutual
  no_field : (f : TreeItem Slot) (bs : List ℕ) → strip (field_front f) bs ≡ None → behind_field f bs ≡ None
  no_field (leaf (actual x)) bs e = e
  no_field (leaf any) bs e = absurd (let g : ⊥ = cc in g)
  no_field (leaf (formal k)) bs e = absurd (let g : ⊥ = cc in g)
  no_field (inner p) bs e =
      then_none (strip (5 ∷ how_many p ∷ []) bs) (λ rest. strip (front_of p) rest) (λ rest. behind_fields p rest) (λ rest. no_fields p rest)
      (sym (strip_append (5 ∷ how_many p ∷ []) (front_of p) bs) ∙ e)

  no_fields : (p : TemplateTree) (bs : List ℕ) → strip (front_of p) bs ≡ None → behind_fields p bs ≡ None
  no_fields none bs e = absurd (let g : ⊥ = cc in g)
  no_fields (item f p) bs e =
      let cases : (b : Bool) → item_has is_open f ≡ b → strip (joined b (field_front f) (front_of p)) bs ≡ None → (behind_field f bs >>= λ rest. behind_fields p rest) ≡ None = elim [
        | true ↦ λ o h. ap (λ o. o >>= λ rest. behind_fields p rest) (no_field f bs h)
        | false ↦ λ o h.
            ap (λ o. o >>= λ rest. behind_fields p rest) (shut_field_walk f bs o ∙ ap (λ xs. strip xs bs) (sym (shut_field f o)))
            ∙ then_none (strip (field_front f) bs) (λ rest. strip (front_of p) rest) (λ rest. behind_fields p rest) (λ rest. no_fields p rest)
            (sym (strip_append (field_front f) (front_of p) bs) ∙ h)
      ] in
      cases (item_has is_open f) refl e

some_match : (b : Bool) (r s : List ℕ) → cond b (Some r) None ≡ Some s → b ≡ true
some_match true r s e = refl
some_match false r s e = absurd (let g : ⊥ = cc in g)

no_match : (b : Bool) (r : List ℕ) → cond b (Some r) None ≡ None → b ≡ false
no_match true r e = absurd (let g : ⊥ = cc in g)
no_match false r e = refl

-- A tuple that doesn't begin with the front is no match.
pub other_front : (p : TemplateTree) (t : TupleTree) (xs bs : List ℕ) → IsTemplate p → IsTuple t → how_many p ≡ how_many t → xs ≡ front_of p → bs ≡ items_spelling datum_spelling t
    → strip xs bs ≡ None → is_match p t ≡ false
other_front p t xs bs hp ht n x f e = no_match (is_match p t) [] (sym (walk p p t bs refl f hp ht n) ∙ no_fields p bs (ap (λ ys. strip ys bs) (sym x) ∙ e))

-- One that does is a match, if no field is open.
pub same_front : (p : TemplateTree) (t : TupleTree) (xs bs rest : List ℕ) → IsTemplate p → IsTuple t → how_many p ≡ how_many t → xs ≡ front_of p → bs ≡ items_spelling datum_spelling t
    → has_leaf is_open p ≡ false → strip xs bs ≡ Some rest → is_match p t ≡ true
same_front p t xs bs rest hp ht n x f o e =
    some_match (is_match p t) [] rest
    (sym (walk p p t bs refl f hp ht n) ∙ shut_walk p bs o ∙ ap (λ ys. strip ys bs) (sym (x ∙ shut p o)) ∙ e)
