-- The items at the front of bytes, one after another.
use Rattle.std.proofs.Common.{◌≡◌, ℕ, zero, suc, ◌-◌, ◌<◌, Bool, true, false, cond, List, [], Option, Some, None}
use Rattle.std.proofs.Common.{is_some, IsTrue, ap, sym, subst, refl, ◌∙◌, arith, append-nil}
use lib.Dec.{ltb}
use Rattle.tuple_tree.specs.Items.{TreeItem, Items, none, item, with_last, how_many}
use Rattle.tuple_tree.specs.Reading.{◌>>=◌, Reader, rest_of, more, byte_at, item_at, items_at, items_with}
use Rattle.tuple_tree.specs.Spelling.{items_spelling}
use Rattle.tuple_tree.specs.Flat.{read_or_none, items_in, HasItems, IsFlat}
use Rattle.tuple_tree.specs.declared.limits.Extent.{Extent}
use Rattle.tuple_tree.proofs.Leaves.{ReadsLeaves}
use Rattle.tuple_tree.proofs.Loosening.{loosen_items}
use Rattle.tuple_tree.proofs.Skipping.{rest_some}
use Rattle.tuple_tree.proofs.Trees.{onto_again}

module _ {L : Type 0} where
  abbrev pub join : Items L → Items L → Items L
  join none u = u
  join (item x t) u = item x (join t u)

  join_none : (t : Items L) → join t none ≡ t
  join_none none = refl
  join_none (item x t) = ap (item x) (join_none t)

  join_last : (t u : Items L) (x : TreeItem L) → join (with_last t x) u ≡ join t (item x u)
  join_last none u x = refl
  join_last (item y t) u x = ap (item y) (join_last t u x)

  abbrev pub joined : Items L → Option (Items L × List ℕ) → Option (Items L × List ℕ)
  joined before o = o >>= λ y. Some (join before y.0, y.1)

  joined_last : (before : Items L) (x : TreeItem L) (o : Option (Items L × List ℕ)) → joined (with_last before x) o ≡ joined before (joined (item x none) o)
  joined_last before x None = refl
  joined_last before x (Some y) = ap (λ t. Some (t, y.1)) (join_last before y.0 x)

  -- Items that are read behind others are those that are read alone.
  pub more_from : (at : Reader (TreeItem L)) (n : ℕ) (before : Items L) (bs : List ℕ) → more at with_last n before bs ≡ joined before (more at with_last n none bs)
  more_from at zero before bs = ap (λ t. Some (t, bs)) (sym (join_none before))
  more_from at (suc n) before bs =
      let cases : (o : Option (TreeItem L × List ℕ)) → (o >>= λ x. more at with_last n (with_last before x.0) x.1) ≡ joined before (o >>= λ x. more at with_last n (with_last none x.0) x.1) = elim [
        | None ↦ refl
        | Some x ↦
            more_from at n (with_last before x.0) x.1 ∙ joined_last before x.0 (more at with_last n none x.1)
            ∙ ap (joined before) (sym (more_from at n (with_last none x.0) x.1))
      ] in
      cases (at bs)

  -- one item, and those behind it
  step : (o : Option (Items L × List ℕ)) (x : TreeItem L) → IsTrue (is_some (joined (item x none) o)) → IsTrue (is_some o) × (read_or_none (joined (item x none) o) ≡ item x (read_or_none o))
  step None x h = absurd (let g : ⊥ = cc in g)
  step (Some y) x h = (refl, refl)

module _ {L : Type 0} (leaf_at : ℕ → Reader L) where
  pub next_item : (levels count : ℕ) (bs after : List ℕ) (x : TreeItem L) → 0 < count → HasItems leaf_at levels count bs → item_at leaf_at levels bs ≡ Some (x, after)
      → HasItems leaf_at levels (count - 1) after × (items_in leaf_at levels count bs ≡ item x (items_in leaf_at levels (count - 1) after))
  unfolding HasItems items_in
  next_item levels zero bs after x p h e = absurd (omega arith)
  next_item levels (suc n) bs after x p h e =
      let m : suc n - 1 ≡ n = omega arith in
      let at : Reader (TreeItem L) = item_at leaf_at levels in
      let f : more at with_last (suc n) none bs ≡ joined (item x none) (more at with_last n none after) = ap (λ o. o >>= λ x. more at with_last n (with_last none x.0) x.1) e ∙ more_from at n (item x none) after in
      let s = step (more at with_last n none after) x (subst (λ o. IsTrue (is_some o)) f h) in
      rw m (s.0, ap read_or_none f ∙ s.1)

  pub one_left : (levels count : ℕ) (bs : List ℕ) → 0 < count → HasItems leaf_at levels count bs → item_at leaf_at levels bs ≡ None → ⊥
  unfolding HasItems
  one_left levels zero bs p h e = absurd (omega arith)
  one_left levels (suc n) bs p h e =
      let f = ap (λ o. o >>= λ x. more (item_at leaf_at levels) with_last n (with_last none x.0) x.1) e in
      let g = subst (λ o. IsTrue (is_some o)) f h in
      cc

  pub none_left : (levels count : ℕ) (bs : List ℕ) → count ≡ 0 → items_in leaf_at levels count bs ≡ none
  unfolding items_in
  none_left levels count bs e = rw e refl

  -- the items of a list within a list
  pub nested_items : (levels count : ℕ) (bs front after : List ℕ) → byte_at bs ≡ Some (count, front) → rest_of (items_at leaf_at levels bs) ≡ Some after
      → HasItems leaf_at levels count front × (items_at leaf_at levels bs ≡ Some (items_in leaf_at levels count front, after))
  unfolding items_with HasItems items_in
  nested_items levels count bs front after e r =
      let read : Option (Items L × List ℕ) = more (item_at leaf_at levels) with_last count none front in
      let f : items_at leaf_at levels bs ≡ cond (ltb 32 count) None read = rw e refl in
      let cases : (b : Bool) → rest_of (cond b None read) ≡ Some after → IsTrue (is_some read) × (cond b None read ≡ Some (read_or_none read, after)) = elim [
        | true ↦ λ h. absurd (let g : ⊥ = cc in g)
        | false ↦ λ h. let s = rest_some read after h in (subst (λ o. IsTrue (is_some o)) (sym s.1) refl, s.1 ∙ ap (λ t. Some (t, after)) (sym (ap read_or_none s.1)))
      ] in
      let k = cases (ltb 32 count) (ap rest_of (sym f) ∙ r) in
      (k.0, f ∙ k.1)

-- the items of a whole tuple or template, by a looser reader
module _ {L : Type 0} {Is IsLoose : L → Type 0} {length_of : L → ℕ} {is_wide : L → Bool} {spelling : L → List ℕ} {loose_at : ℕ → Reader L} (loosen : (x : L) → Is x → IsLoose x) (reads : ReadsLeaves IsLoose length_of spelling loose_at) where
  pub flat_read : (count : ℕ) (bs : List ℕ) (extent : Extent) (t : Items L) → IsFlat Is length_of is_wide spelling count bs extent t → more (item_at loose_at 7) with_last count none bs ≡ Some (t, [])
  flat_read count bs extent t h =
      let within = h.measured.0 in
      ap (λ n. more (item_at loose_at 7) with_last n none bs) h.counted ∙ ap (more (item_at loose_at 7) with_last (how_many t) none) (h.spelled ∙ sym (append-nil (items_spelling spelling t)))
      ∙ onto_again IsLoose length_of spelling loose_at reads t none 7 [] (loosen_items loosen t within.each) (omega (arith, within.levels)) (omega (arith, within.length))

  pub flat_seen : (count : ℕ) (bs : List ℕ) (extent : Extent) (t : Items L) → IsFlat Is length_of is_wide spelling count bs extent t → HasItems loose_at 7 count bs × (items_in loose_at 7 count bs ≡ t)
  unfolding HasItems items_in
  flat_seen count bs extent t h =
      let e = flat_read count bs extent t h in
      (subst (λ o. IsTrue (is_some o)) (sym e) refl, ap read_or_none e)
