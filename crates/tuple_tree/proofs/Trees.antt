-- Tuples and templates at the front of bytes, by the law of their leaves.
use Rattle.std.proofs.Common.{◌≡◌, inl, inr, ℕ, zero, suc, ◌+◌, ◌-◌, ◌<◌, ◌≤◌, false, cond, List, ◌∷◌, ◌++◌, length}
use Rattle.std.proofs.Common.{Some, None, ap, sym, refl, ◌∙◌, arith, append_assoc, append-nil, length-append}
use Rattle.std.proofs.lemmas.Bool.{ltb-false, le-ltb}
use lib.Dec.{eqb, ltb}
use Rattle.tuple_tree.specs.Items.{TreeItem, leaf, inner, Items, none, item, how_many, with_last, item_levels}
use Rattle.tuple_tree.specs.Items.{levels_in, item_length, length_in, whole_length}
use Rattle.tuple_tree.specs.Limits.{IsItem, AreItems, IsWithin}
use Rattle.tuple_tree.proofs.Growing.{how_many-with_last, levels_in-with_last, AreItems-with_last}
use Rattle.tuple_tree.specs.Reading.{◌>>=◌, Reader, read_as, more, byte_at, item_with, items_with, nothing, inner_at}
use Rattle.tuple_tree.specs.Reading.{item_at, items_at, framed}
use Rattle.tuple_tree.specs.Spelling.{item_spelling, items_spelling, whole_spelling}
use Rattle.tuple_tree.proofs.Readers.{Found, FoundBehind, Again, bind_some, parts, guard_fails, choice, moved, as_found}
use Rattle.tuple_tree.proofs.Readers.{behind_found, byte_found, at_tag, Grows, more_found, framed_found, framed_again}
use Rattle.tuple_tree.proofs.Leaves.{ReadsLeaves}

module _ {L : Type 0} (IsLeaf : L → Type 0) (length_of : L → ℕ) (spelling : L → List ℕ) (leaf_at : ℕ → Reader L) (reads : ReadsLeaves IsLeaf length_of spelling leaf_at) where
  mutual
    pub item_spelling_length : (x : TreeItem L) → length (item_spelling spelling x) ≡ item_length length_of x
    item_spelling_length (leaf x) = reads.lengths x
    item_spelling_length (inner t) = omega (arith, items_spelling_length t)

    pub items_spelling_length : (t : Items L) → length (items_spelling spelling t) ≡ length_in length_of t
    items_spelling_length none = refl
    items_spelling_length (item x t) = omega (arith, length-append (item_spelling spelling x) (items_spelling spelling t), item_spelling_length x, items_spelling_length t)

  pub whole_spelling_length : (t : Items L) → length (whole_spelling spelling t) ≡ whole_length length_of t
  whole_spelling_length t = omega (arith, items_spelling_length t)

  pub items_spelling_last : (t : Items L) (x : TreeItem L) → items_spelling spelling (with_last t x) ≡ items_spelling spelling t ++ item_spelling spelling x
  items_spelling_last none x = append-nil (item_spelling spelling x)
  items_spelling_last (item y t) x =
      ap (λ xs. item_spelling spelling y ++ xs) (items_spelling_last t x) ∙ sym (append_assoc (item_spelling spelling y) (items_spelling spelling t) (item_spelling spelling x))

  -- an item with at most so many levels in it
  abbrev pub IsItemOf : ℕ → TreeItem L → Type 0
  IsItemOf levels x = IsItem IsLeaf x × (item_levels x ≤ levels)

  abbrev pub AreItemsOf : ℕ → Items L → Type 0
  AreItemsOf levels t = AreItems IsLeaf t × (levels_in t ≤ levels)

  abbrev pub IsListOf : ℕ → Items L → Type 0
  IsListOf levels t = (how_many t ≤ 32) × AreItems IsLeaf t × (levels_in t ≤ levels)

  grows : (levels : ℕ) → Grows (IsItemOf levels) (item_spelling spelling) with_last (AreItemsOf levels) (items_spelling spelling) how_many
  grows levels = record {
    spelled = items_spelling_last;
    counted = how_many-with_last;
    valid = λ s x h p. (AreItems-with_last IsLeaf s x h.0 p.0, omega (arith, h.1, p.1, levels_in-with_last s x));
  }

  pub items_with_found : (levels : ℕ) (at : Reader (TreeItem L)) → Found (IsItemOf levels) (item_spelling spelling) at → Found (IsListOf levels) (whole_spelling spelling) (items_with at)
  unfolding items_with
  items_with_found levels at item_found bs rest t h e =
      let k = bind_some (byte_at bs) (λ n. cond (ltb 32 n.0) None (more at with_last n.0 none n.1)) (t, rest) e in
      let a = byte_found bs k.0.1 k.0.0 h k.1 in
      let g = guard_fails (ltb 32 k.0.0) (more at with_last k.0.0 none k.0.1) (t, rest) k.2 in
      let r = more_found (IsItemOf levels) (item_spelling spelling) with_last (AreItemsOf levels) (items_spelling spelling) how_many at (grows levels) item_found k.0.0 none t k.0.1 rest a.0.bytes (tt, omega arith) g.1 in
      let l : k.0.0 ≤ 32 = ltb-false _ _ g.0 in
      let n : k.0.0 ≡ how_many t = omega (arith, r.number) in (
        record { whole = a.0.whole ∙ ap (λ xs. k.0.0 ∷ xs) r.whole ∙ ap (λ m. m ∷ items_spelling spelling t ++ rest) n; bytes = r.bytes },
        (omega arith, r.valid.0, r.valid.1),
      )

  -- the reader of the bytes after a tag 5 gives spelled values
  abbrev pub FoundInner : ℕ → Reader (TreeItem L) → Type 0
  FoundInner levels at = FoundBehind 5 (IsItemOf levels) (item_spelling spelling) at

  leaf_found : (levels tag : ℕ) → FoundBehind tag (IsItemOf levels) (item_spelling spelling) (read_as leaf (leaf_at tag))
  leaf_found levels tag bs rest v h e =
      let k = bind_some (leaf_at tag bs) (λ x. Some (leaf x.0, x.1)) (v, rest) e in
      let a = reads.found tag bs k.0.1 k.0.0 h k.1 in
      let p = parts k.2 in
      moved (IsItemOf levels) (item_spelling spelling) (tag ∷ bs) (a.0, (a.1, omega arith)) p.0 p.1

  pub item_with_found : (levels : ℕ) (at : Reader (TreeItem L)) → FoundInner levels at → Found (IsItemOf levels) (item_spelling spelling) (item_with leaf_at at)
  unfolding item_with
  item_with_found levels at inner_found =
      behind_found (IsItemOf levels) (item_spelling spelling) (λ tag bs. cond (eqb tag 5) (at bs) (read_as leaf (leaf_at tag) bs))
      (λ tag bs rest v h e. elim (choice tag 5 (at bs) (read_as leaf (leaf_at tag) bs) (v, rest) e) [
        | inl k ↦ at_tag (IsItemOf levels) (item_spelling spelling) tag 5 bs rest v k.0 (inner_found bs rest v h k.1)
        | inr f ↦ leaf_found levels tag bs rest v h f
      ])

  pub inner_at_found : (levels : ℕ) → FoundInner levels (inner_at leaf_at levels)
  unfolding inner_at nothing
  inner_at_found zero bs rest v h e = absurd (let g : ⊥ = cc in g)
  inner_at_found (suc levels) bs rest v h e =
      as_found (IsListOf levels) (IsItemOf (suc levels)) (whole_spelling spelling) (item_spelling spelling) 5 inner (items_with (item_at leaf_at levels))
      (items_with_found levels (item_at leaf_at levels) (item_with_found levels (inner_at leaf_at levels) (inner_at_found levels)))
      (λ t p. (refl, ((p.0, p.1), omega (arith, p.2)))) bs rest v h e

  pub item_found : (levels : ℕ) → Found (IsItemOf levels) (item_spelling spelling) (item_at leaf_at levels)
  item_found levels = item_with_found levels (inner_at leaf_at levels) (inner_at_found levels)

  pub items_found : (levels : ℕ) → Found (IsListOf levels) (whole_spelling spelling) (items_at leaf_at levels)
  items_found levels = items_with_found levels (item_at leaf_at levels) (item_found levels)

  abbrev join : Items L → Items L → Items L
  join none u = u
  join (item x t) u = item x (join t u)

  join_none : (t : Items L) → join t none ≡ t
  join_none none = refl
  join_none (item x t) = ap (item x) (join_none t)

  join_last : (t u : Items L) (x : TreeItem L) → join (with_last t x) u ≡ join t (item x u)
  join_last none u x = refl
  join_last (item y t) u x = ap (item y) (join_last t u x)

  five_again : (at : Reader (TreeItem L)) (bs : List ℕ) → item_with leaf_at at (5 ∷ bs) ≡ at bs
  unfolding item_with
  five_again at bs = refl

  items_front : (at : Reader (TreeItem L)) (n : ℕ) (bs : List ℕ) → n ≤ 32 → items_with at (n ∷ bs) ≡ more at with_last n none bs
  unfolding items_with
  items_front at n bs p = let l : ltb 32 n ≡ false = le-ltb 32 n p in rw l refl

  inner_below : (levels : ℕ) (bs rest : List ℕ) (t : Items L) → 0 < levels → items_at leaf_at (levels - 1) bs ≡ Some (t, rest) → inner_at leaf_at levels bs ≡ Some (inner t, rest)
  unfolding inner_at
  inner_below zero bs rest t p e = absurd (omega arith)
  inner_below (suc levels) bs rest t p e =
      let n : suc levels - 1 ≡ levels = omega arith in
      ap (λ o. o >>= λ x. Some (inner x.0, x.1)) (rw n at e)

  mutual
    pub item_again : (x : TreeItem L) (levels : ℕ) (rest : List ℕ) → IsItem IsLeaf x → item_levels x ≤ levels → item_length length_of x ≤ 1024 → item_at leaf_at levels (item_spelling spelling x ++ rest) ≡ Some (x, rest)
    item_again (leaf x) levels rest d p q = reads.again x rest d q (inner_at leaf_at levels)
    item_again (inner t) levels rest d p q =
        let h = onto_again t none (levels - 1) rest d.1 (omega arith) (omega arith) in
        five_again (inner_at leaf_at levels) (how_many t ∷ items_spelling spelling t ++ rest)
        ∙ inner_below levels (how_many t ∷ items_spelling spelling t ++ rest) rest t (omega arith) (items_front (item_at leaf_at (levels - 1)) (how_many t) (items_spelling spelling t ++ rest) d.0 ∙ h)

    pub onto_again : (t before : Items L) (levels : ℕ) (rest : List ℕ) → AreItems IsLeaf t → levels_in t ≤ levels → length_in length_of t ≤ 1024
        → more (item_at leaf_at levels) with_last (how_many t) before (items_spelling spelling t ++ rest) ≡ Some (join before t, rest)
    onto_again none before levels rest d p q = ap (λ t. Some (t, rest)) (sym (join_none before))
    onto_again (item x t) before levels rest d p q =
        let n : 1 + how_many t ≡ suc (how_many t) = omega arith in
        let a = item_again x levels (items_spelling spelling t ++ rest) d.0 (omega arith) (omega arith) in
        let b = onto_again t (with_last before x) levels rest d.1 (omega arith) (omega arith) in
        ap (λ m. more (item_at leaf_at levels) with_last m before ((item_spelling spelling x ++ items_spelling spelling t) ++ rest)) n
        ∙ ap (λ bs. more (item_at leaf_at levels) with_last (suc (how_many t)) before bs) (append_assoc (item_spelling spelling x) (items_spelling spelling t) rest)
        ∙ ap (λ o. o >>= λ y. more (item_at leaf_at levels) with_last (how_many t) (with_last before y.0) y.1) a ∙ b ∙ ap (λ u. Some (u, rest)) (join_last before t x)

  items_again : (t : Items L) (rest : List ℕ) → IsWithin IsLeaf length_of t → items_at leaf_at 7 (whole_spelling spelling t ++ rest) ≡ Some (t, rest)
  items_again t rest h =
      items_front (item_at leaf_at 7) (how_many t) (items_spelling spelling t ++ rest) h.fields ∙ onto_again t none 7 rest h.each (omega (arith, h.levels)) (omega (arith, h.length))

  pub tree_found : Found (IsWithin IsLeaf length_of) (whole_spelling spelling) (framed 1024 (items_at leaf_at 7))
  tree_found bs rest t h e =
      let a = framed_found (IsListOf 7) (whole_spelling spelling) 1024 (items_at leaf_at 7) (items_found 7) bs rest t h e in
      (a.0, record { fields = a.1.0.0; levels = omega (arith, a.1.0.2); length = omega (arith, a.1.1, whole_spelling_length t); each = a.1.0.1 })

  pub tree_again : Again (IsWithin IsLeaf length_of) (whole_spelling spelling) (framed 1024 (items_at leaf_at 7))
  tree_again t rest h =
      framed_again (whole_spelling spelling t) t 1024 (items_at leaf_at 7) rest (omega (arith, h.length, whole_spelling_length t)) (λ after. items_again t after h)
