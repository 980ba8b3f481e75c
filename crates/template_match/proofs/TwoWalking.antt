-- A walk along the bytes of a template and of values is the walk by the template that is read.
use Rattle.std.proofs.Common.{◌≡◌, ℕ, zero, suc, ◌+◌, ◌-◌, ◌<◌, ◌≤◌, true, false, List, [], ◌∷◌, length, take, Option}
use Rattle.std.proofs.Common.{Some, None, ap, sym, refl, ◌∙◌, arith, length-append}
use Rattle.std.proofs.lemmas.List.{take_at}
use Rattle.std.proofs.lemmas.Bool.{le-ltb, lt-ltb}
use lib.Dec.{ltb}
use Rattle.tuple_tree.specs.Items.{TreeItem, inner, Items, none, item, with_last, how_many}
use Rattle.tuple_tree.specs.Values.{Slot, TemplateTree, AreBytes}
use Rattle.tuple_tree.proofs.Growing.{how_many-with_last}
use Rattle.tuple_tree.specs.Reading.{◌>>=◌, Reader, rest_of, more, byte_at, items_with, inner_at, item_at, items_at}
use Rattle.tuple_tree.specs.Spelling.{datum_spelling}
use Rattle.tuple_tree.proofs.Readers.{parts}
use Rattle.tuple_tree.proofs.Skipping.{rest_some}
use Rattle.tuple_tree.proofs.Steps.{inner_below, no_levels}
use Rattle.tuple_tree.specs.Loose.{loose_at, loose_slot_at}
use Rattle.tuple_tree.proofs.Telling.{byte_whole}
use Rattle.template_match.specs.Walks.{strip, behind_field, behind_fields, behind_both, behind_one, behind_atom}
use Rattle.template_match.specs.Walks.{behind_nested}
use Rattle.tuple_tree.proofs.Loosening.{loose_leaves}
use Rattle.tuple_tree.proofs.Seeing.{joined, more_from}

abbrev Read : Type 0
Read = Option (TemplateTree × List ℕ)

abbrev pair_with : List ℕ → List ℕ → Option (List ℕ × List ℕ)
pair_with fs rest = Some (fs, rest)

abbrev as_inner : TemplateTree × List ℕ → Option (TreeItem Slot × List ℕ)
as_inner t = Some (inner t.0, t.1)

-- the bytes after a field that was read, and after what it matches
abbrev after_one : List ℕ → TreeItem Slot × List ℕ → Option (List ℕ × List ℕ)
after_one bs f = behind_field f.0 bs >>= pair_with f.1

-- the bytes after a template that was read, and after what it matches
abbrev after_both : List ℕ → TemplateTree × List ℕ → Option (List ℕ × List ℕ)
after_both bs p = behind_fields p.0 bs >>= λ rest. Some (p.1, rest)

led : (f : TreeItem Slot) (bs : List ℕ) (o : Read) (q : Option (List ℕ)) → behind_field f bs ≡ q
    → (joined (item f none) o >>= after_both bs) ≡ (q >>= λ rest. o >>= after_both rest)
led f bs None None e = refl
led f bs None (Some r) e = refl
led f bs (Some y) None e = ap (λ q. (q >>= λ rest. behind_fields y.0 rest) >>= λ rest. Some (y.1, rest)) e
led f bs (Some y) (Some r) e = ap (λ q. (q >>= λ rest. behind_fields y.0 rest) >>= λ rest. Some (y.1, rest)) e

paired : (fs : List ℕ) (q : Option (List ℕ)) (h : List ℕ → List ℕ → Option (List ℕ × List ℕ)) → (q >>= λ rest. h fs rest) ≡ ((q >>= pair_with fs) >>= λ x. h x.0 x.1)
paired fs None h = refl
paired fs (Some r) h = refl

both_suc : (levels n : ℕ) (fs bs : List ℕ) → behind_both levels (suc n) fs bs ≡ (behind_one levels fs bs >>= λ x. behind_both levels n x.0 x.1)
unfolding behind_both behind_one
both_suc levels n fs bs =
    let at : Reader (TreeItem Slot) = item_at loose_slot_at levels in
    let cases : (o : Option (TreeItem Slot × List ℕ)) → ((o >>= λ f. more at with_last n (with_last none f.0) f.1) >>= after_both bs)
    ≡ ((o >>= after_one bs) >>= λ x. more at with_last n none x.0 >>= after_both x.1) = elim [
      | None ↦ refl
      | Some f ↦
          ap (λ o. o >>= after_both bs) (more_from at n (item f.0 none) f.1)
          ∙ led f.0 bs (more at with_last n none f.1) (behind_field f.0 bs) refl
          ∙ paired f.1 (behind_field f.0 bs) (λ gs rest. more at with_last n none gs >>= after_both rest)
    ] in
    cases (at fs)

pub both_goes_on : (levels n i : ℕ) (fs bs after behind : List ℕ) → i < n → behind_one levels fs bs ≡ Some (after, behind)
    → behind_both levels (n - (i + 1)) after behind ≡ behind_both levels (n - i) fs bs
both_goes_on levels n i fs bs after behind p e =
    let m : n - i ≡ suc (n - (i + 1)) = omega arith in
    sym (ap (λ m. behind_both levels m fs bs) m ∙ both_suc levels (n - (i + 1)) fs bs ∙ ap (λ o. o >>= λ x. behind_both levels (n - (i + 1)) x.0 x.1) e)

pub both_fails : (levels n i : ℕ) (fs bs : List ℕ) → i < n → behind_one levels fs bs ≡ None → behind_both levels (n - i) fs bs ≡ None
both_fails levels n i fs bs p e =
    let m : n - i ≡ suc (n - (i + 1)) = omega arith in
    ap (λ m. behind_both levels m fs bs) m ∙ both_suc levels (n - (i + 1)) fs bs ∙ ap (λ o. o >>= λ x. behind_both levels (n - (i + 1)) x.0 x.1) e

pub both_ends : (levels n i : ℕ) (fs bs : List ℕ) → n ≤ i → behind_both levels (n - i) fs bs ≡ Some (fs, bs)
unfolding behind_both
both_ends levels n i fs bs p = let m : n - i ≡ 0 = omega arith in rw m refl

more_count : {L : Type 0} (at : Reader (TreeItem L)) (n : ℕ) (s u : Items L) (bs rest : List ℕ) → more at with_last n s bs ≡ Some (u, rest) → how_many u ≡ how_many s + n
more_count at zero s u bs rest e = let h = ap how_many (parts e).0 in omega (arith, h)
more_count at (suc n) s u bs rest e =
    let cases : (o : Option (TreeItem _ × List ℕ)) → (o >>= λ x. more at with_last n (with_last s x.0) x.1) ≡ Some (u, rest) → how_many u ≡ how_many s + suc n = elim [
      | None ↦ λ h. absurd (let g : ⊥ = cc in g)
      | Some x ↦ λ h. omega (arith, more_count at n (with_last s x.0) u x.1 rest h, how_many-with_last s x.0)
    ] in
    cases (at bs) e

-- a template in a template
entered : (count : ℕ) (bs : List ℕ) (o : Read) (q : Option (List ℕ)) → ((t : TemplateTree) (rest : List ℕ) → o ≡ Some (t, rest) → how_many t ≡ count) → strip (5 ∷ count ∷ []) bs ≡ q
    → ((o >>= as_inner) >>= after_one bs) ≡ (q >>= λ rest. o >>= after_both rest)
entered count bs None None h e = refl
entered count bs None (Some r) h e = refl
entered count bs (Some t) None h e =
    ap (λ n. (strip (5 ∷ n ∷ []) bs >>= λ rest. behind_fields t.0 rest) >>= pair_with t.1) (h t.0 t.1 refl)
    ∙ ap (λ q. (q >>= λ rest. behind_fields t.0 rest) >>= pair_with t.1) e
entered count bs (Some t) (Some r) h e =
    ap (λ n. (strip (5 ∷ n ∷ []) bs >>= λ rest. behind_fields t.0 rest) >>= pair_with t.1) (h t.0 t.1 refl)
    ∙ ap (λ q. (q >>= λ rest. behind_fields t.0 rest) >>= pair_with t.1) e

pub nested_is : (levels count : ℕ) (fs front bs : List ℕ) (q : Option (List ℕ)) → 0 < levels → byte_at fs ≡ Some (count, front) → count ≤ 32 → strip (5 ∷ count ∷ []) bs ≡ q
    → behind_nested levels fs bs ≡ (q >>= λ rest. behind_both (levels - 1) count front rest)
unfolding behind_nested behind_both items_with
nested_is levels count fs front bs q p e l s =
    let b : ltb 32 count ≡ false = le-ltb 32 count l in
    let read : Read = more (item_at loose_slot_at (levels - 1)) with_last count none front in
    let f : items_at loose_slot_at (levels - 1) fs ≡ read = rw (e, b) refl in
    let g = inner_below loose_slot_at levels fs p ∙ ap (λ o. o >>= as_inner) f in
    ap (λ o. o >>= after_one bs) g
    ∙ entered count bs read q (λ t rest h. omega (arith, more_count (item_at loose_slot_at (levels - 1)) count none t front rest h)) s

pub no_nested : (levels : ℕ) (fs bs : List ℕ) → inner_at loose_slot_at levels fs ≡ None → behind_nested levels fs bs ≡ None
unfolding behind_nested
no_nested levels fs bs e = rw e refl

pub without_levels : (levels : ℕ) (fs : List ℕ) → levels ≡ 0 → inner_at loose_slot_at levels fs ≡ None
without_levels levels fs e = ap (λ n. inner_at loose_slot_at n fs) e ∙ no_levels loose_slot_at fs

pub without_count : (levels : ℕ) (fs : List ℕ) → 0 < levels → byte_at fs ≡ None → inner_at loose_slot_at levels fs ≡ None
unfolding items_with
without_count levels fs p e = inner_below loose_slot_at levels fs p ∙ rw e refl

pub over_count : (levels count : ℕ) (fs front : List ℕ) → 0 < levels → byte_at fs ≡ Some (count, front) → 32 < count → inner_at loose_slot_at levels fs ≡ None
unfolding items_with
over_count levels count fs front p e l = let b : ltb 32 count ≡ true = lt-ltb 32 count l in inner_below loose_slot_at levels fs p ∙ rw (e, b) refl

-- a value after its tag
pub atom_is : (tag : ℕ) (fs after rest bs token : List ℕ) (q : Option (List ℕ)) → byte_at fs ≡ Some (tag, after) → rest_of (loose_at tag after) ≡ Some rest → AreBytes after
    → token ≡ take (length fs - length rest) fs → strip token bs ≡ q → (length rest ≤ length fs) × (behind_atom tag after bs ≡ (q >>= λ behind. Some (rest, behind)))
unfolding behind_atom
atom_is tag fs after rest bs token q e r d t s =
    let x = rest_some (loose_at tag after) rest r in
    let w = byte_whole fs after tag e ∙ (loose_leaves.found tag after rest x.0 d x.1).0.whole in
    let n : length (datum_spelling x.0) ≡ length fs - length rest = omega (arith, ap length w, length-append (datum_spelling x.0) rest) in
    let k : token ≡ datum_spelling x.0 = t ∙ ap (take (length fs - length rest)) w ∙ take_at (datum_spelling x.0) rest (length fs - length rest) n in (
      omega (arith, ap length w, length-append (datum_spelling x.0) rest),
      ap (λ o. o >>= λ y. strip (datum_spelling y.0) bs >>= λ behind. Some (y.1, behind)) x.1
          ∙ ap (λ xs. strip xs bs >>= λ behind. Some (rest, behind)) (sym k) ∙ ap (λ o. o >>= λ behind. Some (rest, behind)) s,
    )
