-- The order of keys is that of points.
use Rattle.std.proofs.Common.{◌≡◌, ℕ, ◌<◌, ◌⊎◌, inl, inr, Bool, true, false, cond, ◌&&◌, ◌||◌, List, [], ◌∷◌, refl, sym, ap, ap₂, ◌∙◌, subst, arith, eq-eqb, le-ltb}
use Rattle.std.specs.Prelude.{◌==◌, nat_lt, nat_le}
use Rattle.std.specs.Ordering.{nat_cmp, ordering_then, match_ordering}
use Rattle.std.specs.declared.cmp.Ordering.{Ordering}
use Rattle.std.specs.declared.cmp.Ordering.TheVariants.{Less, Equal, Greater}
use Rattle.std.specs.BTreeMap.{insert_entry}
use Rattle.std.proofs.lemmas.Bool.{cases_order, lt-ltb, le-leb, ne_eqb, lt-leb}
use Rattle.space.proofs.Trees.{less, greater}
use Rattle.terms.specs.declared.order.Mode.{Mode}
use Rattle.terms.specs.declared.order.Mode.TheVariants as modes
use Rattle.protocol.specs.System.Frames.{same_mode}
use Rattle.protocol.specs.Space.Linear.{Placing, comes_before, insert_point}
use Rattle.points.specs.declared.point.Placed.{Placed}
use Rattle.points.specs.declared.sorting.Key.{Key}
use Rattle.points.specs.PointView.{placing_of}
use Rattle.points.specs.Sorting.{sorting_key, key_by, AreRankedAbove, IsRankedAbove, sorted_of}

-- keys by the fields in their order
abbrev pub key_cmp : Key → Key → Ordering
key_cmp a b =
    ordering_then (nat_cmp a.position b.position) (ordering_then (nat_cmp a.number b.number)
    (ordering_then (nat_cmp a.turn b.turn) (ordering_then (nat_cmp a.client b.client)
    (ordering_then (nat_cmp a.timestamp b.timestamp) (nat_cmp a.rank b.rank)))))

-- a test of an order
abbrev order_by : Bool → Ordering
order_by b = cond b Less Greater

pub equal : (a b : ℕ) → a ≡ b → nat_cmp a b ≡ Equal
equal a b e =
    ap (λ t. cond t Less (cond (a == b) Equal Greater)) (le-ltb a b (omega arith))
    ∙ ap (λ t. cond t Equal Greater) (eq-eqb a b e)

-- one number first, and then the rest
step : (a b : ℕ) (rest : Bool) (o : Ordering) → o ≡ order_by rest → ordering_then (nat_cmp a b) o ≡ order_by (nat_lt a b || ((a == b) && rest))
step a b rest o h = go (cases_order a b)
  where
    go : (a ≡ b) ⊎ ((a < b) ⊎ (b < a)) → ordering_then (nat_cmp a b) o ≡ order_by (nat_lt a b || ((a == b) && rest))
    go (inl e) =
        ap (λ x. ordering_then x o) (equal a b e) ∙ h
        ∙ sym (ap₂ (λ s t. order_by (s || (t && rest))) (le-ltb a b (omega arith)) (eq-eqb a b e))
    go (inr (inl l)) = ap (λ x. ordering_then x o) (less a b l) ∙ sym (ap (λ s. order_by (s || ((a == b) && rest))) (lt-ltb a b l))
    go (inr (inr l)) =
        ap (λ x. ordering_then x o) (greater a b l)
        ∙ sym (ap₂ (λ s t. order_by (s || (t && rest))) (le-ltb a b (omega arith)) (ne_eqb a b (λ e. omega arith)))

-- last a number that may be the same, and the lower rank
last : (a b r s : ℕ) → r < s → ordering_then (nat_cmp a b) (nat_cmp r s) ≡ order_by (nat_le a b)
last a b r s l = go (cases_order a b)
  where
    go : (a ≡ b) ⊎ ((a < b) ⊎ (b < a)) → ordering_then (nat_cmp a b) (nat_cmp r s) ≡ order_by (nat_le a b)
    go (inl e) = ap (λ x. ordering_then x (nat_cmp r s)) (equal a b e) ∙ less r s l ∙ sym (ap order_by (le-leb a b (omega arith)))
    go (inr (inl m)) = ap (λ x. ordering_then x (nat_cmp r s)) (less a b m) ∙ sym (ap order_by (le-leb a b (omega arith)))
    go (inr (inr m)) = ap (λ x. ordering_then x (nat_cmp r s)) (greater a b m) ∙ sym (ap order_by (lt-leb a b m))

-- the same from the kind on
abbrev turn_cmp : Key → Key → Ordering
turn_cmp a b =
    ordering_then (nat_cmp a.turn b.turn) (ordering_then (nat_cmp a.client b.client)
    (ordering_then (nat_cmp a.timestamp b.timestamp) (nat_cmp a.rank b.rank)))

abbrev turn_before : Placing → Placing → Bool
turn_before x y =
    same_mode x.mode modes.Ordered || (same_mode y.mode modes.ReadOnly
    && (nat_lt x.item.client y.item.client || ((x.item.client == y.item.client)
    && nat_le x.item.timestamp y.item.timestamp)))

turns : (x y : Placing) (r s : ℕ) → r < s → (m n : Mode) → x.mode ≡ m → y.mode ≡ n
    → turn_cmp (key_by m r x) (key_by n s y) ≡ order_by (same_mode m modes.Ordered || (same_mode n modes.ReadOnly && (nat_lt x.item.client y.item.client || ((x.item.client == y.item.client) && nat_le x.item.timestamp y.item.timestamp))))
turns x y r s l modes.Ordered modes.Ordered e f = less r s l
turns x y r s l modes.Ordered modes.ReadOnly e f = refl
turns x y r s l modes.ReadOnly modes.Ordered e f = refl
turns x y r s l modes.ReadOnly modes.ReadOnly e f =
    step x.item.client y.item.client (nat_le x.item.timestamp y.item.timestamp) (ordering_then (nat_cmp x.item.timestamp y.item.timestamp) (nat_cmp r s))
    (last x.item.timestamp y.item.timestamp r s l)

position_of_key : (m : Mode) (r : ℕ) (x : Placing) → (key_by m r x).position ≡ x.item.position
position_of_key modes.Ordered r x = refl
position_of_key modes.ReadOnly r x = refl

number_of_key : (m : Mode) (r : ℕ) (x : Placing) → (key_by m r x).number ≡ x.number
number_of_key modes.Ordered r x = refl
number_of_key modes.ReadOnly r x = refl

-- the keys of two points, of which the first has the lower rank
pub keys_order : (x y : Placing) (r s : ℕ) → r < s → key_cmp (sorting_key r x) (sorting_key s y) ≡ order_by (comes_before x y)
keys_order x y r s l =
    ap₂ (λ (a b : ℕ). ordering_then (nat_cmp a b) (ordering_then (nat_cmp (sorting_key r x).number (sorting_key s y).number) (turn_cmp (sorting_key r x) (sorting_key s y)))) (position_of_key x.mode r x) (position_of_key y.mode s y)
    ∙ ap₂ (λ (a b : ℕ). ordering_then (nat_cmp x.item.position y.item.position) (ordering_then (nat_cmp a b) (turn_cmp (sorting_key r x) (sorting_key s y)))) (number_of_key x.mode r x) (number_of_key y.mode s y)
    ∙ step x.item.position y.item.position (nat_lt x.number y.number || ((x.number == y.number) && turn_before x y)) (ordering_then (nat_cmp x.number y.number) (turn_cmp (sorting_key r x) (sorting_key s y)))
    (step x.number y.number (turn_before x y) (turn_cmp (sorting_key r x) (sorting_key s y)) (turns x y r s l x.mode y.mode refl refl))

-- ---- entries

pub inserts : (rank : ℕ) (p : Placed) (es : List (Key × Placed)) → AreRankedAbove rank es
    → sorted_of (insert_entry key_cmp es (sorting_key rank (placing_of p)) p) ≡ insert_point (placing_of p) (sorted_of es)
inserts rank p [] a = refl
inserts rank p (e ∷ es) a = go (comes_before (placing_of p) (placing_of e.1)) refl (inserts rank p es a.1)
  where
    cmp_is : key_cmp (sorting_key rank (placing_of p)) e.0 ≡ order_by (comes_before (placing_of p) (placing_of e.1))
    cmp_is = ap (key_cmp (sorting_key rank (placing_of p))) a.0.2 ∙ keys_order (placing_of p) (placing_of e.1) rank a.0.0 a.0.1

    placed_by : Ordering → List (Key × Placed)
    placed_by o = match_ordering o ((sorting_key rank (placing_of p), p) ∷ e ∷ es) ((e.0, p) ∷ es) (e ∷ insert_entry key_cmp es (sorting_key rank (placing_of p)) p)

    go : (b : Bool) → comes_before (placing_of p) (placing_of e.1) ≡ b
        → sorted_of (insert_entry key_cmp es (sorting_key rank (placing_of p)) p) ≡ insert_point (placing_of p) (sorted_of es)
        → sorted_of (insert_entry key_cmp (e ∷ es) (sorting_key rank (placing_of p)) p) ≡ insert_point (placing_of p) (placing_of e.1 ∷ sorted_of es)
    go true f below = ap (λ o. sorted_of (placed_by o)) (cmp_is ∙ ap order_by f) ∙ sym (ap (λ b. cond b (placing_of p ∷ placing_of e.1 ∷ sorted_of es) (placing_of e.1 ∷ insert_point (placing_of p) (sorted_of es))) f)
    go false f below =
        ap (λ o. sorted_of (placed_by o)) (cmp_is ∙ ap order_by f) ∙ ap (λ ys. placing_of e.1 ∷ ys) below
        ∙ sym (ap (λ b. cond b (placing_of p ∷ placing_of e.1 ∷ sorted_of es) (placing_of e.1 ∷ insert_point (placing_of p) (sorted_of es))) f)

lower_one : (r rank : ℕ) (e : Key × Placed) → r < rank → IsRankedAbove rank e → IsRankedAbove r e
lower_one r rank e l h = let m = h.1 in (h.0, omega arith, h.2)

pub lower : (r rank : ℕ) (es : List (Key × Placed)) → r < rank → AreRankedAbove rank es → AreRankedAbove r es
lower r rank [] l a = tt
lower r rank (e ∷ es) l a = (lower_one r rank e l a.0, lower r rank es l a.1)

pub ranked_on : (r rank : ℕ) (p : Placed) (es : List (Key × Placed)) → r < rank → AreRankedAbove rank es
    → AreRankedAbove r (insert_entry key_cmp es (sorting_key rank (placing_of p)) p)
ranked_on r rank p [] l a = ((rank, l, refl), tt)
ranked_on r rank p (e ∷ es) l a = go (comes_before (placing_of p) (placing_of e.1)) refl (ranked_on r rank p es l a.1)
  where
    cmp_is : key_cmp (sorting_key rank (placing_of p)) e.0 ≡ order_by (comes_before (placing_of p) (placing_of e.1))
    cmp_is = ap (key_cmp (sorting_key rank (placing_of p))) a.0.2 ∙ keys_order (placing_of p) (placing_of e.1) rank a.0.0 a.0.1

    placed_by : Ordering → List (Key × Placed)
    placed_by o = match_ordering o ((sorting_key rank (placing_of p), p) ∷ e ∷ es) ((e.0, p) ∷ es) (e ∷ insert_entry key_cmp es (sorting_key rank (placing_of p)) p)

    go : (b : Bool) → comes_before (placing_of p) (placing_of e.1) ≡ b → AreRankedAbove r (insert_entry key_cmp es (sorting_key rank (placing_of p)) p)
        → AreRankedAbove r (placed_by (key_cmp (sorting_key rank (placing_of p)) e.0))
    go true f below = subst (λ o. AreRankedAbove r (placed_by o)) (sym (cmp_is ∙ ap order_by f)) ((rank, l, refl), (lower_one r rank e l a.0, lower r rank es l a.1))
    go false f below = subst (λ o. AreRankedAbove r (placed_by o)) (sym (cmp_is ∙ ap order_by f)) (lower_one r rank e l a.0, below)
