-- Lists read without a limit of bytes, and the part of them that is kept.
use Rattle.std.proofs.Common.{◌≡◌, ℕ, zero, suc, ◌<◌, ◌≤◌, ◌==◌, nat_le, Bool, true, false, cond, List, [], ◌∷◌, codes}
use Rattle.std.proofs.Common.{Option, None, Some, option_map, refl, ap, sym, ◌∙◌, arith, if◌then◌else◌}
use Rattle.std.proofs.lemmas.Bool.{le-leb, lt-leb, leb-false}
use Rattle.tuple_tree.specs.Items.{TreeItem, leaf, inner, Items, none, with_last, whole_length}
use Rattle.tuple_tree.proofs.Growing.{length_in-with_last}
use Rattle.tuple_text.specs.Reading.{Read, got, stop, Reading, ◌>>=◌, look, word, turn, full, items, no_room, kept}
use Rattle.tuple_text.specs.Reading.{kept_with, leaf_item, list, item_at, items_at, close, whole}
use Rattle.tuple_text.specs.declared.reader.Stop.{Stop}
use Rattle.tuple_text.specs.declared.reader.Stop.TheVariants.{TooDeep}

-- Two readers of different values: the second gives the values of the first, mapped by h and k.
module _ {T X U Y : Type 0} (why : ℕ → Stop) (add : T → X → T) (put : U → Y → U) (one : Reading X) (other : Reading Y) (h : T → U) (k : X → Y)
    (law : (t : T) (x : X) → put (h t) (k x) ≡ h (add t x)) (same : (bs : List ℕ) → other bs ≡ (one bs >>= λ x rest. got (k x) rest)) where
  full_seen : (bs : List ℕ) → full {V = U} why bs ≡ (full {V = T} why bs >>= λ t rest. got (h t) rest)
  unfolding full
  full_seen [] = refl
  full_seen (b ∷ bs) = refl

  last_seen : (t : T) (x : Read Bool) → (x >>= λ on rest. if on then full why rest else got (h t) rest) ≡ (x >>= λ on rest. if on then full why rest else got t rest) >>= λ v rest. got (h v) rest
  last_seen t (stop s rest) = refl
  last_seen t (got true rest) = full_seen rest
  last_seen t (got false rest) = refl

  one_seen : (room : ℕ) (t : T) (x : Read X) → ((v : T) (bs : List ℕ) → items why put other room false (h v) bs ≡ (items why add one room false v bs >>= λ v rest. got (h v) rest))
      → ((x >>= λ x rest. got (k x) rest) >>= λ y after. items why put other room false (put (h t) y) after) ≡ ((x >>= λ x after. items why add one room false (add t x) after) >>= λ v rest. got (h v) rest)
  one_seen room t (stop s rest) more = refl
  one_seen room t (got x rest) more = ap (λ u. items why put other room false u rest) (law t x) ∙ more (add t x) rest

  next_seen : (room : ℕ) (t : T) (x : Read Bool) → ((v : T) (bs : List ℕ) → items why put other room false (h v) bs ≡ (items why add one room false v bs >>= λ v rest. got (h v) rest))
      → (x >>= λ on rest. if on then (other rest >>= λ y after. items why put other room false (put (h t) y) after) else got (h t) rest)
      ≡ (x >>= λ on rest. if on then (one rest >>= λ x after. items why add one room false (add t x) after) else got t rest) >>= λ v rest. got (h v) rest
  next_seen room t (stop s rest) more = refl
  next_seen room t (got true rest) more = ap (λ y. y >>= λ y after. items why put other room false (put (h t) y) after) (same rest) ∙ one_seen room t (one rest) more
  next_seen room t (got false rest) more = refl

  pub items_seen : (room : ℕ) (free : Bool) (t : T) (bs : List ℕ) → items why put other room free (h t) bs ≡ (items why add one room free t bs >>= λ v rest. got (h v) rest)
  items_seen zero free t bs = last_seen t (turn free bs)
  items_seen (suc room) free t bs = next_seen room t (turn free bs) (λ v bs. items_seen room false v bs)

module _ {L : Type 0} (begins : ℕ → Bool) (leaf_at : Reading L) where
  abbrev pub plain_leaf : Reading (TreeItem L)
  plain_leaf bs = leaf_at bs >>= λ x rest. got (leaf x) rest

  abbrev pub plain_items : (ℕ → Stop) → Reading (TreeItem L) → Reading (Items L)
  plain_items why one bs = items why with_last one 32 true none bs

  abbrev pub plain_list : (ℕ → Stop) → Reading (TreeItem L) → Reading (Items L)
  plain_list why one bs = word (codes "(") bs >>= λ _ rest. plain_items why one rest >>= λ t at. word (codes ")") at >>= λ _ after. got t after

  unfoldable pub plain_item : ℕ → Reading (TreeItem L)
  plain_item zero bs = look 40 (λ u. stop TooDeep u) plain_leaf bs
  plain_item (suc levels) bs = look 40 (λ u. plain_list (no_room begins levels) (plain_item levels) u >>= λ t rest. got (inner t) rest) plain_leaf bs

module _ {L : Type 0} (length_of : L → ℕ) where
  -- the item if it is kept
  abbrev pub kept_item : TreeItem L → Option (TreeItem L)
  kept_item (leaf x) = Some (leaf x)
  kept_item (inner t) = option_map inner (kept length_of t)

  pub fits : (t : Items L) → whole_length length_of t ≤ 1024 → kept length_of t ≡ Some t
  fits t h = ap (λ s. cond s (Some t) None) (le-leb _ _ h)

  pub fits_not : (t : Items L) → 1024 < whole_length length_of t → kept length_of t ≡ None
  fits_not t h = ap (λ s. cond s (Some t) None) (lt-leb _ _ h)

  inner_with : (t u : Items L) (s : Bool) → nat_le (whole_length length_of u) 1024 ≡ s → kept_with length_of (Some t) (option_map inner (cond s (Some u) None)) ≡ kept length_of (with_last t (inner u))
  inner_with t u true e = refl
  inner_with t u false e = sym (fits_not (with_last t (inner u)) (let p : 1024 < whole_length length_of u = leb-false _ _ e in omega (arith, p, length_in-with_last length_of t (inner u))))

  none_with : (t : Items L) (x : TreeItem L) (s : Bool) → nat_le (whole_length length_of t) 1024 ≡ s → kept_with length_of (cond s (Some t) None) (kept_item x) ≡ kept length_of (with_last t x)
  none_with t x false e = sym (fits_not (with_last t x) (let p : 1024 < whole_length length_of t = leb-false _ _ e in omega (arith, p, length_in-with_last length_of t x)))
  none_with t (leaf x) true e = refl
  none_with t (inner u) true e = inner_with t u (nat_le (whole_length length_of u) 1024) refl

  pub kept_law : (t : Items L) (x : TreeItem L) → kept_with length_of (kept length_of t) (kept_item x) ≡ kept length_of (with_last t x)
  kept_law t x = none_with t x (nat_le (whole_length length_of t) 1024) refl

  module _ (begins : ℕ → Bool) (leaf_at : Reading L) where
    abbrev pub plain_whole : Reading (Items L)
    plain_whole bs = word (codes "(") bs >>= λ _ rest. plain_items begins leaf_at (no_room begins 7) (plain_item begins leaf_at 7) rest >>= λ t at. close length_of begins leaf_at (kept length_of t) at

    look_case : {V W : Type 0} → (k : V → W) (s : Bool) (f g : Read W) (p q : Read V) → f ≡ (p >>= λ x rest. got (k x) rest) → g ≡ (q >>= λ x rest. got (k x) rest) → cond s f g ≡ (cond s p q >>= λ x rest. got (k x) rest)
    look_case k true f g p q h m = h
    look_case k false f g p q h m = m

    close_items : (x : Read (Items L)) → ((x >>= λ t rest. got (kept length_of t) rest) >>= λ t at. close length_of begins leaf_at t at) ≡ (x >>= λ t at. close length_of begins leaf_at (kept length_of t) at)
    close_items (got t rest) = refl
    close_items (stop s rest) = refl

    look_seen : {V W : Type 0} → (k : V → W) (c : ℕ) (f g : Reading W) (p q : Reading V) → ((bs : List ℕ) → f bs ≡ (p bs >>= λ x rest. got (k x) rest)) → ((bs : List ℕ) → g bs ≡ (q bs >>= λ x rest. got (k x) rest))
        → (bs : List ℕ) → look c f g bs ≡ (look c p q bs >>= λ x rest. got (k x) rest)
    look_seen k c f g p q h m [] = refl
    look_seen k c f g p q h m (b ∷ bs) = look_case k (b == c) (f (b ∷ bs)) (g (b ∷ bs)) (p (b ∷ bs)) (q (b ∷ bs)) (h (b ∷ bs)) (m (b ∷ bs))

    leaf_seen : (x : Read L) → (x >>= λ x rest. got (Some (leaf x)) rest) ≡ ((x >>= λ x rest. got (leaf x) rest) >>= λ x rest. got (kept_item x) rest)
    leaf_seen (got x rest) = refl
    leaf_seen (stop s rest) = refl

    -- the last steps of a nested list
    close_seen : (t : Items L) (x : Read Bool) → ((x >>= λ _ after. got (kept length_of t) after) >>= λ t rest. got (option_map inner t) rest) ≡ (((x >>= λ _ after. got t after) >>= λ t rest. got (inner t) rest) >>= λ x rest. got (kept_item x) rest)
    close_seen t (got on rest) = refl
    close_seen t (stop s rest) = refl

    body_seen : (x : Read (Items L)) → (((x >>= λ t rest. got (kept length_of t) rest) >>= λ t at. word (codes ")") at >>= λ _ after. got t after) >>= λ t rest. got (option_map inner t) rest)
        ≡ (((x >>= λ t at. word (codes ")") at >>= λ _ after. got t after) >>= λ t rest. got (inner t) rest) >>= λ x rest. got (kept_item x) rest)
    body_seen (got t rest) = close_seen t (word (codes ")") rest)
    body_seen (stop s rest) = refl

    items_kept : (levels : ℕ) → ((bs : List ℕ) → item_at length_of begins leaf_at levels bs ≡ (plain_item begins leaf_at levels bs >>= λ x rest. got (kept_item x) rest))
        → (bs : List ℕ) → items (no_room begins levels) (kept_with length_of) (item_at length_of begins leaf_at levels) 32 true (Some none) bs ≡ (plain_items begins leaf_at (no_room begins levels) (plain_item begins leaf_at levels) bs >>= λ t rest. got (kept length_of t) rest)
    items_kept levels h bs =
        ap (λ t. items (no_room begins levels) (kept_with length_of) (item_at length_of begins leaf_at levels) 32 true t bs) (sym (fits none (omega arith)))
        ∙ items_seen (no_room begins levels) with_last (kept_with length_of) (plain_item begins leaf_at levels) (item_at length_of begins leaf_at levels) (kept length_of) kept_item kept_law h 32 true none bs

    list_seen : (levels : ℕ) → ((bs : List ℕ) → item_at length_of begins leaf_at levels bs ≡ (plain_item begins leaf_at levels bs >>= λ x rest. got (kept_item x) rest)) → (x : Read Bool)
        → ((x >>= λ _ rest. items (no_room begins levels) (kept_with length_of) (item_at length_of begins leaf_at levels) 32 true (Some none) rest >>= λ t at. word (codes ")") at >>= λ _ after. got t after) >>= λ t rest. got (option_map inner t) rest)
        ≡ (((x >>= λ _ rest. plain_items begins leaf_at (no_room begins levels) (plain_item begins leaf_at levels) rest >>= λ t at. word (codes ")") at >>= λ _ after. got t after) >>= λ t rest. got (inner t) rest) >>= λ x rest. got (kept_item x) rest)
    list_seen levels h (got on rest) =
        ap (λ y. (y >>= λ t at. word (codes ")") at >>= λ _ after. got t after) >>= λ t rest. got (option_map inner t) rest) (items_kept levels h rest)
        ∙ body_seen (plain_items begins leaf_at (no_room begins levels) (plain_item begins leaf_at levels) rest)
    list_seen levels h (stop s rest) = refl

    pub item_seen : (levels : ℕ) (bs : List ℕ) → item_at length_of begins leaf_at levels bs ≡ (plain_item begins leaf_at levels bs >>= λ x rest. got (kept_item x) rest)
    unfolding item_at plain_item
    item_seen zero bs = look_seen kept_item 40 (λ u. stop TooDeep u) (leaf_item length_of begins leaf_at) (λ u. stop TooDeep u) (plain_leaf begins leaf_at) (λ u. refl) (λ u. leaf_seen (leaf_at u)) bs
    item_seen (suc levels) bs =
        look_seen kept_item 40 (λ u. list length_of begins leaf_at (no_room begins levels) (item_at length_of begins leaf_at levels) u >>= λ t rest. got (option_map inner t) rest) (leaf_item length_of begins leaf_at)
        (λ u. plain_list begins leaf_at (no_room begins levels) (plain_item begins leaf_at levels) u >>= λ t rest. got (inner t) rest) (plain_leaf begins leaf_at)
        (λ u. list_seen levels (item_seen levels) (word (codes "(") u)) (λ u. leaf_seen (leaf_at u)) bs

    whole_case : (x : Read Bool) → (x >>= λ _ rest. items_at length_of begins leaf_at 7 rest >>= λ t at. close length_of begins leaf_at t at)
        ≡ (x >>= λ _ rest. plain_items begins leaf_at (no_room begins 7) (plain_item begins leaf_at 7) rest >>= λ t at. close length_of begins leaf_at (kept length_of t) at)
    unfolding items_at
    whole_case (stop s rest) = refl
    whole_case (got on rest) =
        ap (λ y. y >>= λ t at. close length_of begins leaf_at t at) (items_kept 7 (item_seen 7) rest)
        ∙ close_items (plain_items begins leaf_at (no_room begins 7) (plain_item begins leaf_at 7) rest)

    pub whole_seen : (bs : List ℕ) → whole length_of begins leaf_at bs ≡ plain_whole bs
    unfolding whole
    whole_seen bs = whole_case (word (codes "(") bs)
