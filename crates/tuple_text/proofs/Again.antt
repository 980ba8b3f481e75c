-- The text of a value, with bytes after it that can't continue it, is read as that value, or passes a limit.
use Rattle.std.proofs.Common.{◌≡◌, ℕ, zero, suc, ◌<◌, ◌≤◌, ◌==◌, Bool, true, false, cond, List, [], ◌∷◌, ◌++◌, length}
use Rattle.std.proofs.Common.{codes, refl, ap, sym, subst, ◌∙◌, append_assoc, arith, ◌⊎◌, inl, inr, if◌then◌else◌}
use Rattle.std.proofs.Common.{length-append}
use Rattle.tuple_tree.specs.Items.{TreeItem, leaf, inner, Items, none, item, with_last, item_levels}
use Rattle.tuple_text.specs.Texts.{AreBlanks, ItemText, WholeText}
use Rattle.tuple_text.specs.Lines.{EachLeaf, LeafIn}
use Rattle.tuple_text.specs.Reading.{Read, got, stop, Reading, ◌>>=◌, look, word, turn, follows, full, items, no_room}
use Rattle.tuple_text.specs.Reading.{deeper}
use Rattle.tuple_text.specs.declared.reader.Stop.{Stop}
use Rattle.tuple_text.specs.declared.reader.Stop.TheVariants.{BadByte, TooDeep, TooManyFields}
use Rattle.tuple_text.proofs.Blanks.{Frees, freed, blanks_again}
use Rattle.tuple_text.proofs.Endings.{join, join_none, join_last, Ends, ends_from_items}
use Rattle.tuple_text.proofs.Levels.{ItemExceeds, Exceed, first_exceeds, rest_exceeds, inner_exceeds}
use Rattle.tuple_text.proofs.Leaves.{EndsItem, look_other, apart}
use Rattle.tuple_text.proofs.Plain.{plain_leaf, plain_list, plain_item}

-- v is read with u left, or a reading stops before, for a limit that is passed
abbrev pub AgainAs : {V : Type 0} → (Stop → Type 0) → V → List ℕ → Read V → Type 0
AgainAs Exceeds v u (got w rest) = (w ≡ v) × (rest ≡ u)
AgainAs Exceeds v u (stop s rest) = Exceeds s × (length u < length rest)

pub again_got : {V : Type 0} → (E : Stop → Type 0) (v : V) (u : List ℕ) (x : Read V) → x ≡ got v u → AgainAs E v u x
again_got E v u x e = subst (AgainAs E v u) (sym e) (refl, refl)

pub again_stop : {V : Type 0} → (E : Stop → Type 0) (v : V) (u : List ℕ) (x : Read V) (s : Stop) (rest : List ℕ) → x ≡ stop s rest → E s → length u < length rest → AgainAs E v u x
again_stop E v u x s rest e h k = subst (AgainAs E v u) (sym e) (h, k)

pub then_again : {V W : Type 0} → (D E : Stop → Type 0) (v : V) (t : List ℕ) (w : W) (u : List ℕ) (x : Read V) (f : V → Reading W) → ((s : Stop) → D s → E s) → length u ≤ length t → AgainAs D v t x → AgainAs E w u (f v t) → AgainAs E w u (x >>= f)
then_again D E v t w u (got a rest) f k l h m = subst (λ r. AgainAs E w u (f a r)) (sym h.1) (subst (λ b. AgainAs E w u (f b t)) (sym h.0) m)
then_again D E v t w u (stop s rest) f k l h m = (k s h.0, let p = h.1 in omega arith)

-- P holds if it holds of reading after v, and if a limit is passed before
pub then_into : {V W : Type 0} → (P : Read W → Type 0) (D : Stop → Type 0) (v : V) (t : List ℕ) (x : Read V) (f : V → Reading W) → ((s : Stop) (rest : List ℕ) → D s → length t < length rest → P (stop s rest)) → AgainAs D v t x → P (f v t) → P (x >>= f)
then_into P D v t (got a rest) f k h m = subst (λ r. P (f a r)) (sym h.1) (subst (λ b. P (f b t)) (sym h.0) m)
then_into P D v t (stop s rest) f k h m = k s rest h.0 h.1

pub step_again : {V W : Type 0} → (E : Stop → Type 0) (v : V) (t : List ℕ) (w : W) (u : List ℕ) (x : Read V) (f : V → Reading W) → x ≡ got v t → AgainAs E w u (f v t) → AgainAs E w u (x >>= f)
step_again E v t w u x f e h = subst (λ y. AgainAs E w u (y >>= f)) (sym e) h

pub longer : (w u : List ℕ) → length u ≤ length (w ++ u)
longer w u = omega (arith, length-append w u)

turn_closes : (free : Bool) (lead u : List ℕ) → AreBlanks lead → turn free (lead ++ 41 ∷ u) ≡ got false (41 ∷ u)
unfolding turn follows
turn_closes free lead u h = ap (λ y. y >>= follows) (blanks_again free lead (41 ∷ u) h refl)

freed_is : (free : Bool) (lead : List ℕ) → Frees free lead → freed free lead ≡ true
freed_is free [] (inl e) = e
freed_is free [] (inr h) = absurd (omega arith)
freed_is free (b ∷ lead) h = refl

turn_goes : (free : Bool) (lead : List ℕ) (b : ℕ) (u : List ℕ) → AreBlanks lead → Frees free lead → (b == 32) ≡ false → (b == 41) ≡ false → turn free (lead ++ b ∷ u) ≡ got true (b ∷ u)
unfolding turn follows
turn_goes free lead b u h k p q =
    ap (λ y. y >>= follows) (blanks_again free lead (b ∷ u) h p ∙ ap (λ v. got v (b ∷ u)) (freed_is free lead k))
    ∙ ap (λ s. cond s (got false (b ∷ u)) (got true (b ∷ u))) q

full_stops : {V : Type 0} → (why : ℕ → Stop) (b : ℕ) (u : List ℕ) → full {V = V} why (b ∷ u) ≡ stop (why b) (b ∷ u)
unfolding full
full_stops why b u = refl

module _ {L : Type 0} (leaf_text : L → List ℕ) where
  gap_ends : (lead t : List ℕ) → AreBlanks lead → Frees false lead → EndsItem (lead ++ t)
  gap_ends lead t h (inl e) = absurd (let g : ⊥ = cc in g)
  gap_ends [] t h (inr p) = absurd (omega arith)
  gap_ends (b ∷ lead) t h (inr p) = inl h.0

  last_ends : (w u : List ℕ) → AreBlanks w → EndsItem (w ++ 41 ∷ u)
  last_ends [] u h = inr refl
  last_ends (b ∷ w) u h = inl h.0

  -- The rest of a list ends the item before it.
  pub rest_ends : (xs : Items L) (w u : List ℕ) → Ends leaf_text false xs w → EndsItem (w ++ 41 ∷ u)
  rest_ends none w u h = last_ends w u h
  rest_ends (item x xs) w u h = subst EndsItem (sym (ap (λ t. t ++ 41 ∷ u) h.3 ∙ append_assoc h.0 (h.1 ++ h.2) (41 ∷ u))) (gap_ends h.0 ((h.1 ++ h.2) ++ 41 ∷ u) h.4 h.5)

  -- why an item has no room
  abbrev pub NoRoomFor : ℕ → TreeItem L → Stop → Type 0
  NoRoomFor n x s = (s ≡ TooManyFields) ⊎ ((s ≡ TooDeep) × (n < item_levels x))

  module _ (IsLeaf : L → Type 0) (n : ℕ) (why : ℕ → Stop) (one : Reading (TreeItem L))
      (head : (x : TreeItem L) (w : List ℕ) → LeafIn IsLeaf x → ItemText leaf_text x w → (b : ℕ) × (t : List ℕ) × (w ≡ b ∷ t) × ((b == 32) ≡ false) × ((b == 41) ≡ false) × NoRoomFor n x (why b))
      (one_again : (x : TreeItem L) (w u : List ℕ) → LeafIn IsLeaf x → ItemText leaf_text x w → EndsItem u → AgainAs (ItemExceeds n x) x u (one (w ++ u)))
    where
      weaken : (D E : Stop → Type 0) (v : Items L) (u : List ℕ) (x : Read (Items L)) → ((s : Stop) → D s → E s) → AgainAs D v u x → AgainAs E v u x
      weaken D E v u (got w rest) k h = h
      weaken D E v u (stop s rest) k h = (k s h.0, h.1)

      closes : (room : ℕ) (free : Bool) (t : Items L) (lead u : List ℕ) → AreBlanks lead → items why with_last one room free t (lead ++ 41 ∷ u) ≡ got t (41 ∷ u)
      closes zero free t lead u h = ap (λ y. y >>= λ on rest. if on then full why rest else got t rest) (turn_closes free lead u h)
      closes (suc room) free t lead u h =
          ap (λ y. y >>= λ on rest. if on then (one rest >>= λ x after. items why with_last one room false (with_last t x) after) else got t rest) (turn_closes free lead u h)

      full_again : (free : Bool) (t : Items L) (lead : List ℕ) (b : ℕ) (u : List ℕ) → AreBlanks lead → Frees free lead → (b == 32) ≡ false → (b == 41) ≡ false
          → items why with_last one zero free t (lead ++ b ∷ u) ≡ stop (why b) (b ∷ u)
      full_again free t lead b u h k p q =
          ap (λ y. y >>= λ on rest. if on then full why rest else got t rest) (turn_goes free lead b u h k p q) ∙ full_stops why b u

      none_fits : (x : TreeItem L) (xs : Items L) (s : Stop) → NoRoomFor n x s → Exceed n zero (item x xs) s
      none_fits x xs s (inl e) = subst (Exceed n zero (item x xs)) (sym e) (λ p q. omega (arith, p))
      none_fits x xs s (inr e) = subst (Exceed n zero (item x xs)) (sym e.0) (let p = e.1 in omega (arith, p))

      four : (lead front rest u : List ℕ) → (lead ++ (front ++ rest)) ++ u ≡ lead ++ (front ++ (rest ++ u))
      four lead front rest u = append_assoc lead (front ++ rest) u ∙ ap (λ t. lead ++ t) (append_assoc front rest u)

      pub items_again : (room : ℕ) (free : Bool) (t xs : Items L) (w u : List ℕ) → EachLeaf IsLeaf xs → Ends leaf_text free xs w → AgainAs (Exceed n room xs) (join t xs) (41 ∷ u) (items why with_last one room free t (w ++ 41 ∷ u))
      items_again room free t none w u p h =
          again_got (Exceed {L = L} n room none) (join t none) (41 ∷ u) (items why with_last one room free t (w ++ 41 ∷ u))
          (closes room free t w u h ∙ ap (λ v. got v (41 ∷ u)) (sym (join_none t)))
      items_again zero free t (item x xs) w u p h =
          let k = head x h.1 p.0 h.6 in
          let e = ap (λ s. s ++ 41 ∷ u) h.3 ∙ four h.0 h.1 h.2 (41 ∷ u) ∙ ap (λ s. h.0 ++ (s ++ (h.2 ++ 41 ∷ u))) k.2 in
          again_stop (Exceed n zero (item x xs)) (join t (item x xs)) (41 ∷ u) (items why with_last one zero free t (w ++ 41 ∷ u)) (why k.0) (k.0 ∷ k.1 ++ (h.2 ++ 41 ∷ u))
          (ap (items why with_last one zero free t) e ∙ full_again free t h.0 k.0 (k.1 ++ (h.2 ++ 41 ∷ u)) h.4 h.5 k.3 k.4)
          (none_fits x xs (why k.0) k.5) (omega (arith, length-append k.1 (h.2 ++ 41 ∷ u), length-append h.2 (41 ∷ u)))
      items_again (suc room) free t (item x xs) w u p h =
          let k = head x h.1 p.0 h.6 in
          let e = ap (λ s. s ++ 41 ∷ u) h.3 ∙ four h.0 h.1 h.2 (41 ∷ u) ∙ ap (λ s. h.0 ++ (s ++ (h.2 ++ 41 ∷ u))) k.2 in
          let back = ap (λ s. s ++ (h.2 ++ 41 ∷ u)) (sym k.2) in
          let on = ap (turn free) e ∙ turn_goes free h.0 k.0 (k.1 ++ (h.2 ++ 41 ∷ u)) h.4 h.5 k.3 k.4 ∙ ap (λ s. got true s) back in
          let rest = items_again room false (with_last t x) xs h.2 u p.1 h.7 in
          step_again (Exceed n (suc room) (item x xs)) true (h.1 ++ (h.2 ++ 41 ∷ u)) (join t (item x xs)) (41 ∷ u) (turn free (w ++ 41 ∷ u)) (λ on rest. if on then (one rest >>= λ x after. items why with_last one room false (with_last t x) after) else got t rest) on
          (then_again (ItemExceeds n x) (Exceed n (suc room) (item x xs)) x (h.2 ++ 41 ∷ u) (join t (item x xs)) (41 ∷ u) (one (h.1 ++ (h.2 ++ 41 ∷ u))) (λ x after. items why with_last one room false (with_last t x) after)
          (first_exceeds n room x xs) (longer h.2 (41 ∷ u))
          (one_again x h.1 (h.2 ++ 41 ∷ u) p.0 h.6 (rest_ends xs h.2 u h.7))
          (subst (λ v. AgainAs (Exceed n (suc room) (item x xs)) v (41 ∷ u) (items why with_last one room false (with_last t x) (h.2 ++ 41 ∷ u))) (join_last t x xs)
          (weaken (Exceed n room xs) (Exceed n (suc room) (item x xs)) (join (with_last t x) xs) (41 ∷ u) (items why with_last one room false (with_last t x) (h.2 ++ 41 ∷ u)) (rest_exceeds n room x xs) rest)))

      -- a whole list, if P holds of reading after its items
      pub list_into : {V : Type 0} → (P : Read V → Type 0) (xs : Items L) (w u : List ℕ) (f : Items L → Reading V) → ((s : Stop) (rest : List ℕ) → Exceed n 32 xs s → length (41 ∷ u) < length rest → P (stop s rest)) → EachLeaf IsLeaf xs → WholeText leaf_text xs w
          → P (f xs (41 ∷ u)) → P (word (codes "(") (w ++ u) >>= λ _ rest. items why with_last one 32 true none rest >>= f)
      list_into P xs w u f k p h m =
          let e = ap (λ s. s ++ u) h.1 ∙ ap (λ s. 40 ∷ s) (append_assoc h.0 (41 ∷ []) u) in
          subst (λ y. P (y >>= λ _ rest. items why with_last one 32 true none rest >>= f)) (sym (ap (word (codes "(")) e))
          (then_into P (Exceed n 32 xs) xs (41 ∷ u) (items why with_last one 32 true none (h.0 ++ 41 ∷ u)) f k
          (items_again 32 true none xs h.0 u p (ends_from_items leaf_text xs h.0 h.2)) m)

      pub list_again : {V : Type 0} → (E : Stop → Type 0) (v : V) (xs : Items L) (w u : List ℕ) (f : Items L → Reading V) → ((s : Stop) → Exceed n 32 xs s → E s) → EachLeaf IsLeaf xs → WholeText leaf_text xs w
          → AgainAs E v u (f xs (41 ∷ u)) → AgainAs E v u (word (codes "(") (w ++ u) >>= λ _ rest. items why with_last one 32 true none rest >>= f)
      list_again E v xs w u f k p h m = list_into (AgainAs E v u) xs w u f (λ s rest e l. (k s e, omega (arith, l))) p h m

module _ {L : Type 0} (leaf_text : L → List ℕ) (IsLeaf : L → Type 0) (begins : ℕ → Bool) (leaf_at : Reading L)
    (leaf_head : (x : L) → IsLeaf x → (b : ℕ) × (t : List ℕ) × (leaf_text x ≡ b ∷ t) × (begins b ≡ true))
    (leaf_again : (x : L) (u : List ℕ) → IsLeaf x → EndsItem u → leaf_at (leaf_text x ++ u) ≡ got x u)
    (no_blank : begins 32 ≡ false) (no_open : begins 40 ≡ false) (no_close : begins 41 ≡ false) where
  refused : (n b : ℕ) → (b == 40) ≡ false → begins b ≡ true → no_room begins n b ≡ TooManyFields
  refused n b p q = ap (λ s. cond s (deeper n) (cond (begins b) TooManyFields BadByte)) p ∙ ap (λ s. cond s TooManyFields BadByte) q

  opens : (n : ℕ) (xs : Items L) → NoRoomFor leaf_text n (inner xs) (no_room begins n 40)
  opens zero xs = inr (refl, omega arith)
  opens (suc n) xs = inl refl

  pub item_head : (n : ℕ) (x : TreeItem L) (w : List ℕ) → LeafIn IsLeaf x → ItemText leaf_text x w → (b : ℕ) × (t : List ℕ) × (w ≡ b ∷ t) × ((b == 32) ≡ false) × ((b == 41) ≡ false) × NoRoomFor leaf_text n x (no_room begins n b)
  item_head n (leaf x) w h t =
      let k = leaf_head x h in
      (k.0, k.1, t ∙ k.2, apart begins 32 k.0 k.3 no_blank, apart begins 41 k.0 k.3 no_close, inl (refused n k.0 (apart begins 40 k.0 k.3 no_open) k.3))
  item_head n (inner xs) w h t = (40, t.0 ++ 41 ∷ [], t.1, refl, refl, opens n xs)

  at_leaf : (b : ℕ) (u : List ℕ) (f : Reading (TreeItem L)) → begins b ≡ true → look 40 f (plain_leaf begins leaf_at) (b ∷ u) ≡ (leaf_at (b ∷ u) >>= λ x rest. got (leaf x) rest)
  at_leaf b u f e = look_other 40 b u f (plain_leaf begins leaf_at) (apart begins 40 b e no_open)

  leaf_reads : (x : L) (w u : List ℕ) (f : Reading (TreeItem L)) → IsLeaf x → w ≡ leaf_text x → EndsItem u → look 40 f (plain_leaf begins leaf_at) (w ++ u) ≡ got (leaf x) u
  leaf_reads x w u f h t k =
      let d = leaf_head x h in
      let e = ap (λ s. s ++ u) d.2 in
      ap (λ s. look 40 f (plain_leaf begins leaf_at) (s ++ u)) t ∙ ap (look 40 f (plain_leaf begins leaf_at)) e ∙ at_leaf d.0 (d.1 ++ u) f d.3
      ∙ ap (λ s. leaf_at s >>= λ x rest. got (leaf x) rest) (sym e) ∙ ap (λ y. y >>= λ x rest. got (leaf x) rest) (leaf_again x u h k)

  pub item_again : (n : ℕ) (x : TreeItem L) (w u : List ℕ) → LeafIn IsLeaf x → ItemText leaf_text x w → EndsItem u → AgainAs (ItemExceeds n x) x u (plain_item begins leaf_at n (w ++ u))
  unfolding plain_item
  item_again zero (leaf x) w u h t k = again_got (ItemExceeds zero (leaf x)) (leaf x) u (look 40 (λ u. stop TooDeep u) (plain_leaf begins leaf_at) (w ++ u)) (leaf_reads x w u (λ u. stop TooDeep u) h t k)
  item_again (suc n) (leaf x) w u h t k =
      again_got (ItemExceeds (suc n) (leaf x)) (leaf x) u (plain_item begins leaf_at (suc n) (w ++ u))
      (leaf_reads x w u (λ u. plain_list begins leaf_at (no_room begins n) (plain_item begins leaf_at n) u >>= λ t rest. got (inner t) rest) h t k)
  item_again zero (inner xs) w u h t k =
      again_stop (ItemExceeds zero (inner xs)) (inner xs) u (plain_item begins leaf_at zero (w ++ u)) TooDeep ((40 ∷ t.0 ++ 41 ∷ []) ++ u)
      (ap (λ s. plain_item begins leaf_at zero (s ++ u)) t.1) (omega arith) (omega (arith, length-append (t.0 ++ 41 ∷ []) u))
  item_again (suc n) (inner xs) w u h t k =
      let m = list_again leaf_text IsLeaf n (no_room begins n) (plain_item begins leaf_at n) (item_head n) (item_again n) (Exceed n 32 xs) xs xs w u (λ t at. word (codes ")") at >>= λ _ after. got t after) (λ s e. e) h t (refl, refl) in
      subst (AgainAs (ItemExceeds (suc n) (inner xs)) (inner xs) u) (sym (ap (plain_item begins leaf_at (suc n)) (ap (λ s. s ++ u) t.1) ∙ ap (λ s. plain_list begins leaf_at (no_room begins n) (plain_item begins leaf_at n) s >>= λ t rest. got (inner t) rest) (ap (λ s. s ++ u) (sym t.1))))
      (then_again (Exceed n 32 xs) (ItemExceeds (suc n) (inner xs)) xs u (inner xs) u (plain_list begins leaf_at (no_room begins n) (plain_item begins leaf_at n) (w ++ u)) (λ t rest. got (inner t) rest) (inner_exceeds n xs) (omega arith) m (refl, refl))
