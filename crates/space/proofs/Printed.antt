-- Labels of stored tuples.
use Rattle.std.proofs.Common.{◌≡◌, ℕ, zero, suc, ◌-◌, ◌<◌, Bool, true, false, cond, List, [], ◌∷◌, ◌++◌, length, take}
use Rattle.std.proofs.Common.{set, get_or, map, Option, Some, None, refl, sym, ap, subst, ◌∙◌, arith}
use Rattle.std.specs.Prelude.{◌==◌, slice_get, find, option_to_list}
use Rattle.std.specs.List.{swap_remove}
use Rattle.std.specs.Ordering.{nat_cmp}
use Rattle.std.specs.Map.{lookup}
use Rattle.std.specs.BTreeMap.{is_at}
use Rattle.std.proofs.lemmas.List.{map-set, map-append, length-map, get_or_default}
use Rattle.std.proofs.Math.ListN.{get_or-map}
use Rattle.tuple_tree.specs.Items.{TreeItem, leaf, none, item, as_list}
use Rattle.tuple_tree.specs.Values.{Datum, Slot, actual, formal, TupleTree, TemplateTree}
use Rattle.tuple_tree.specs.declared.atoms.Kind.{Kind}
use Rattle.template_match.specs.Matches.{Matches, FieldMatches}
use Rattle.template_match.specs.Tests.{is_match}
use Rattle.template_match.proofs.Deciding.{is_match-decides}
use Rattle.space.specs.Births.{BornTuple}
use Rattle.space.specs.Found.{entry_of_birth, oldest_in}
use Rattle.space.specs.Prints.{datum_print, value_print, tuple_print, first_kind, entry_label, IsUnlike, HasOtherLabel}
use Rattle.space.specs.Stored.{in_order, AreApart, AreLabelled}
use Rattle.space.specs.declared.prints.Label.{Label}
use Rattle.space.specs.declared.prints.Wanted.{Wanted}
use Rattle.space.proofs.InOrder.{lookup-in_order}
use Rattle.space.proofs.Places.{found_there}

-- ---- a template and the tuples that it matches

matched_print : (g : TreeItem Slot) (w : TreeItem Datum) (x : Datum) → g ≡ leaf (actual x) → FieldMatches g w → value_print (Some w) ≡ datum_print x
matched_print g w x e m = let is : w ≡ leaf x = subst (λ f. FieldMatches f w) e m in ap (λ v. value_print (Some v)) is

pub print_matches : (p : TemplateTree) (t : TupleTree) (x : Datum) → slice_get (as_list p) 1 ≡ Some (leaf (actual x)) → is_match p t ≡ true → tuple_print t ≡ datum_print x
print_matches p t x e h = go p t e ((is_match-decides p t).0 h)
  where
    go : (p : TemplateTree) (t : TupleTree) → slice_get (as_list p) 1 ≡ Some (leaf (actual x)) → Matches p t → tuple_print t ≡ datum_print x
    go none t d m = absurd (let g : ⊥ = cc in g)
    go (item f none) t d m = absurd (let g : ⊥ = cc in g)
    go (item f (item g p)) none d m = absurd m
    go (item f (item g p)) (item v none) d m = absurd m.1
    go (item f (item g p)) (item v (item w u)) d m = let same : g ≡ leaf (actual x) = cc in matched_print g w x same m.1.0

pub kind_matches : (p : TemplateTree) (t : TupleTree) (k : Kind) → slice_get (as_list p) 0 ≡ Some (leaf (formal k)) → is_match p t ≡ true → first_kind t ≡ k
kind_matches p t k e h = go p t e ((is_match-decides p t).0 h)
  where
    go : (p : TemplateTree) (t : TupleTree) → slice_get (as_list p) 0 ≡ Some (leaf (formal k)) → Matches p t → first_kind t ≡ k
    go none t d m = absurd (let g : ⊥ = cc in g)
    go (item f p) none d m = absurd m
    go (item f p) (item v t) d m = let same : f ≡ leaf (formal k) = cc in subst (λ g. FieldMatches g v) same m.0

-- the only tuple of a birth doesn't match if its label tells something else
pub none_like : (p : TemplateTree) (es : List BornTuple) (b : ℕ) (wanted : Wanted)
    → ((e : BornTuple) → is_match p e.1 ≡ true → IsUnlike wanted (entry_label e) → ⊥)
    → ((t : TupleTree) → lookup (is_at (nat_cmp b)) es ≡ Some t → IsUnlike wanted (entry_label (b, t)))
    → ◌≡◌ {A = Option BornTuple} None (oldest_in p (entry_of_birth es b))
none_like p es b wanted tells unlike = searched (lookup (is_at (nat_cmp b)) es) (λ t e m. tells (b, t) m (unlike t e))
  where
    searched : (o : Option TupleTree) → ((t : TupleTree) → o ≡ Some t → is_match p t ≡ true → ⊥) → ◌≡◌ {A = Option BornTuple} None (find (λ e. is_match p e.1) (map (λ t. (b, t)) (option_to_list o)))
    searched None h = refl
    searched (Some t) h = pick (is_match p t) (h t refl)
      where
        pick : (a : Bool) → (a ≡ true → ⊥) → ◌≡◌ {A = Option BornTuple} None (cond a (Some (b, t)) None)
        pick true k = absurd (k refl)
        pick false k = refl

-- ---- the labels of entries

pub labels_more : (es : List BornTuple) (labels : List Label) (e : BornTuple) → labels ≡ map entry_label es → labels ++ entry_label e ∷ [] ≡ map entry_label (es ++ e ∷ [])
labels_more es labels e h = ap (λ ls. ls ++ entry_label e ∷ []) h ∙ sym (map-append entry_label es (e ∷ []))

pub as_many : (es : List BornTuple) (labels : List Label) → labels ≡ map entry_label es → length labels ≡ length es
as_many es labels h = ap length h ∙ length-map es entry_label

pub labels_left : (es : List BornTuple) (labels : List Label) (i : ℕ) (e : BornTuple) (d : Label) → labels ≡ map entry_label es → i < length es
    → swap_remove labels i d ≡ map entry_label (swap_remove es i e)
labels_left es labels i e d h l =
    let n = length es - 1 in
    let far : n < length (map entry_label es) = omega (arith, length-map es entry_label) in
    ap (λ ls. swap_remove ls i d) h
    ∙ ap (λ (m : ℕ). take (m - 1) (set (map entry_label es) i (get_or (map entry_label es) (m - 1) d))) (length-map es entry_label)
    ∙ ap (λ x. take n (set (map entry_label es) i x)) (get_or_default (map entry_label es) n d (entry_label e) far ∙ get_or-map entry_label es n e)
    ∙ ap (take n) (sym (map-set entry_label es i (get_or es n e)))
    ∙ sym (taken n (set es i (get_or es n e)))
  where
    taken : (n : ℕ) (xs : List BornTuple) → map entry_label (take n xs) ≡ take n (map entry_label xs)
    taken zero xs = refl
    taken (suc n) [] = refl
    taken (suc n) (x ∷ xs) = ap (λ ys. entry_label x ∷ ys) (taken n xs)

-- the label at a place leads to the entry of its birth
pub unlike_there : (es : List BornTuple) (labels : List Label) (place b : ℕ) (wanted : Wanted) (label : Label) → AreApart es → labels ≡ map entry_label es → place < length labels
    → label ≡ get_or labels place label → label.birth ≡ b → IsUnlike wanted label → HasOtherLabel wanted b (in_order es)
unlike_there es labels place b wanted label apart kept low at is unlike t h =
    let e : BornTuple = get_or es place (b, none) in
    let within : place < length es = omega (arith, as_many es labels kept) in
    let far : place < length (map entry_label es) = omega (arith, length-map es entry_label) in
    let told : label ≡ entry_label e =
    at ∙ ap (λ ls. get_or ls place label) kept ∙ get_or_default (map entry_label es) place label (entry_label (b, none)) far ∙ get_or-map entry_label es place (b, none) in
    let born : e.0 ≡ b = sym (ap (λ (l : Label). l.birth) told) ∙ is in
    let found : lookup (λ k. b == k) es ≡ Some e.1 = found_there es place b e apart (record { within = within; birth_there = born }) (get_or_default es place (b, none) e within) in
    let both : Some e.1 ≡ Some t = sym found ∙ sym (lookup-in_order es b) ∙ h in
    let same : e.1 ≡ t = cc in
    subst (IsUnlike wanted) (told ∙ ap (λ (n : ℕ). entry_label (n, e.1)) born ∙ ap (λ (u : TupleTree). entry_label (b, u)) same) unlike

pub labelled_same : (es fs : List BornTuple) (ps qs : List Label) → fs ≡ es → qs ≡ ps → AreLabelled es ps → AreLabelled fs qs
labelled_same es fs ps qs d e h = record {
  apart = subst AreApart (sym d) h.apart;
  kept = e ∙ h.kept ∙ ap (map entry_label) (sym d);
}
