-- Reading lists within lists keeps to the grammar.
use Rattle.std.proofs.Common.{◌≡◌, ℕ, zero, suc, ◌==◌, nat_le, Bool, true, false, cond, List, [], ◌∷◌, ◌++◌, codes}
use Rattle.std.proofs.Common.{None, Some, refl, ap, arith}
use Rattle.std.proofs.lemmas.Bool.{eqb-true, leb-true, leb-false}
use Rattle.tuple_tree.specs.Items.{TreeItem, leaf, inner, Items, none, whole_length}
use Rattle.tuple_text.specs.Reading.{got, stop, Reading, ◌>>=◌, named, deeper, no_room, kept, fitting, close}
use Rattle.tuple_text.specs.declared.reader.Stop.TheVariants.{BadByte, TooDeep, TooManyFields}
use Rattle.tuple_text.proofs.Right.{Limits, both, levels, no_limits, DecidesAt, RightTo, RightAs, Never, right_to}
use Rattle.tuple_text.proofs.Right.{nothing_passed, look_at}
use Rattle.tuple_text.proofs.Blanks.{BeginsWord}
use Rattle.tuple_text.proofs.Leaves.{IsText, BeginsText, mapped_right, named_right}
use Rattle.tuple_text.proofs.Plain.{plain_leaf, plain_list, plain_item, plain_whole}
use Rattle.tuple_text.proofs.Levels.{Within, OneIs, Fits, Overflows, weaker, each_weaker, each_leaf, each_levels}
use Rattle.tuple_text.proofs.Levels.{each_counted}
use Rattle.tuple_text.proofs.Lists.{IsOne, BeginsOne, IsList, BeginsList, IsKept, IsLong, list_right}

module _ {L : Type 0} (leaf_text : L → List ℕ) (IsLeaf : L → Type 0) (begins : ℕ → Bool) (leaf_at : Reading L) (leaf_right : (bs : List ℕ) → RightAs (IsText leaf_text IsLeaf) (BeginsText leaf_text IsLeaf) bs (leaf_at bs))
    (leaf_starts : (c : Limits) (b : ℕ) → begins b ≡ true → BeginsText leaf_text IsLeaf c (b ∷ [])) (some : BeginsText leaf_text IsLeaf both []) where
  abbrev IsOneAt : ℕ → TreeItem L → List ℕ → Type 0
  IsOneAt n = IsOne leaf_text (OneIs IsLeaf n)

  abbrev BeginsOneAt : ℕ → Limits → List ℕ → Type 0
  BeginsOneAt n = BeginsOne leaf_text (OneIs IsLeaf n)

  leaf_within : (n : ℕ) (c : Limits) (x : L) → Within n c (leaf x)
  leaf_within n both x = (omega arith, tt)
  leaf_within n levels x = omega arith
  leaf_within n no_limits x = tt

  leaf_begins : (n : ℕ) (c : Limits) (w : List ℕ) → BeginsText leaf_text IsLeaf c w → BeginsOneAt n c w
  leaf_begins n c w h = (leaf h.0, h.1, h.2.0, (h.2.1, leaf_within n c h.0))

  some_item : (n : ℕ) → BeginsOneAt n both []
  some_item n = leaf_begins n both [] some

  plain_leaf_right : (n : ℕ) (bs : List ℕ) → RightAs (IsOneAt n) (BeginsOneAt n) bs (plain_leaf begins leaf_at bs)
  plain_leaf_right n bs =
      mapped_right (IsText leaf_text IsLeaf) (BeginsText leaf_text IsLeaf) (IsOneAt n) (BeginsOneAt n) leaf bs (leaf_at bs) (leaf_begins n) (λ x w h. (h.0, (h.1, leaf_within n both x))) (leaf_right bs)

  -- Why an item has no room.
  opening : (n b : ℕ) (bs : List ℕ) → b ≡ 40 → DecidesAt (BeginsOneAt n) Never (deeper n) [] (b ∷ bs)
  opening zero b bs e = (b, bs, refl, (inner none, 41 ∷ [], ([], ap (λ x. x ∷ 41 ∷ []) e, tt), (tt, tt)))
  opening (suc n) b bs e = (b, bs, refl, (inner none, 41 ∷ [], ([], ap (λ x. x ∷ 41 ∷ []) e, tt), (tt, omega arith)))

  refuses_case : (n b : ℕ) (bs : List ℕ) (s t : Bool) → (b == 40) ≡ s → begins b ≡ t → DecidesAt (BeginsOneAt n) Never (cond s (deeper n) (cond t TooManyFields BadByte)) [] (b ∷ bs)
  refuses_case n b bs true t e f = opening n b bs (eqb-true b 40 e)
  refuses_case n b bs false true e f = (b, bs, refl, leaf_begins n levels (b ∷ []) (leaf_starts levels b f))
  refuses_case n b bs false false e f = tt

  refuses : (n b : ℕ) (bs : List ℕ) → DecidesAt (BeginsOneAt n) Never (no_room begins n b) [] (b ∷ bs)
  refuses n b bs = refuses_case n b bs (b == 40) (begins b) refl refl

  -- the property of a nested list, as an item of the list around it
  pub inner_is : (n : ℕ) (c : Limits) (t : Items L) (w : List ℕ) → IsList leaf_text (OneIs IsLeaf n) c t w → OneIs IsLeaf (suc n) c (inner t)
  inner_is n both t w h = (each_leaf IsLeaf n both t h.each, (omega (arith, each_levels IsLeaf n t (each_weaker IsLeaf n levels t h.each)), (h.count, each_counted IsLeaf n t h.each)))
  inner_is n levels t w h = (each_leaf IsLeaf n levels t h.each, omega (arith, each_levels IsLeaf n t h.each))
  inner_is n no_limits t w h = (each_leaf IsLeaf n no_limits t h.each, tt)

  abbrev Any : Items L → Type 0
  Any t = Unit {0}

  abbrev None_of : Items L → Type 0
  None_of t = ⊥

  closed_right : (n : ℕ) (t : Items L) (bs : List ℕ) → RightTo (λ v w. (v ≡ t) × (w ≡ 41 ∷ []) × Any v) (BeginsWord (codes ")")) (λ w. (w ≡ 41 ∷ []) × None_of t) bs (named (codes ")") t bs)
  closed_right n t bs =
      right_to (λ v w. (v ≡ t) × (w ≡ 41 ∷ []) × Any v) (BeginsWord (codes ")")) Never (λ v w. (v ≡ t) × (w ≡ 41 ∷ []) × Any v) (BeginsWord (codes ")")) (λ w. (w ≡ 41 ∷ []) × None_of t) [] bs (named (codes ")") t bs)
      (λ v w h. h) (λ c w h. h) (λ w d. absurd d)
      (named_right (λ v w. (v ≡ t) × (w ≡ 41 ∷ []) × Any v) (BeginsWord (codes ")")) (codes ")") t (refl, refl, tt) (λ c w u e. (u, e)) bs)

  nested_right : (n : ℕ) → ((bs : List ℕ) → RightAs (IsOneAt n) (BeginsOneAt n) bs (plain_item begins leaf_at n bs)) → (bs : List ℕ)
      → RightAs (IsOneAt (suc n)) (BeginsOneAt (suc n)) bs (plain_list begins leaf_at (no_room begins n) (plain_item begins leaf_at n) bs >>= λ t rest. got (inner t) rest)
  nested_right n h bs =
      mapped_right (λ t w. IsList leaf_text (OneIs IsLeaf n) both t w) (BeginsList leaf_text (OneIs IsLeaf n)) (IsOneAt (suc n)) (BeginsOneAt (suc n)) inner bs (plain_list begins leaf_at (no_room begins n) (plain_item begins leaf_at n) bs)
      (λ c w k. (inner k.0, k.1, k.2.text, inner_is n c k.0 (w ++ k.1) k.2)) (λ t w k. (k.text, inner_is n both t w k))
      (right_to (IsKept leaf_text (OneIs IsLeaf n) Any) (BeginsList leaf_text (OneIs IsLeaf n)) (IsLong leaf_text (OneIs IsLeaf n) None_of) (λ t w. IsList leaf_text (OneIs IsLeaf n) both t w) (BeginsList leaf_text (OneIs IsLeaf n)) Never [] bs
      (plain_list begins leaf_at (no_room begins n) (plain_item begins leaf_at n) bs) (λ t w k. k.0) (λ c w k. k) (λ w d. d.2)
      (list_right leaf_text (OneIs IsLeaf n) (no_room begins n) (plain_item begins leaf_at n) h (weaker IsLeaf n) (refuses n) Any None_of (λ t at. named (codes ")") t at) (closed_right n) bs))

  pub item_right : (n : ℕ) (bs : List ℕ) → RightAs (IsOne leaf_text (OneIs IsLeaf n)) (BeginsOne leaf_text (OneIs IsLeaf n)) bs (plain_item begins leaf_at n bs)
  unfolding plain_item
  item_right zero bs =
      look_at (IsOneAt zero) (BeginsOneAt zero) Never 40 (λ u. stop TooDeep u) (plain_leaf begins leaf_at) (some_item zero)
      (λ u. record { passed = []; whole = refl; begins = some_item zero; decides = opening zero 40 u refl }) (plain_leaf_right zero) bs
  item_right (suc n) bs =
      look_at (IsOneAt (suc n)) (BeginsOneAt (suc n)) Never 40 (λ u. plain_list begins leaf_at (no_room begins n) (plain_item begins leaf_at n) u >>= λ t rest. got (inner t) rest) (plain_leaf begins leaf_at) (some_item (suc n))
      (λ u. nested_right n (item_right n) (40 ∷ u)) (plain_leaf_right (suc n)) bs

  module _ (length_of : L → ℕ) where
    close_case : (t : Items L) (b : ℕ) (bs : List ℕ) (s r : Bool) → (b == 41) ≡ s → nat_le (whole_length length_of t) 1024 ≡ r
        → RightTo (λ v w. (v ≡ t) × (w ≡ 41 ∷ []) × Fits length_of v) (BeginsWord (codes ")")) (λ w. (w ≡ 41 ∷ []) × Overflows length_of t) (b ∷ bs) (cond s (fitting length_of begins leaf_at (cond r (Some t) None) b bs) (stop BadByte (b ∷ bs)))
    close_case t b bs true true e f = record { passed = b ∷ []; whole = refl; is = (refl, ap (λ x. x ∷ []) (eqb-true b 41 e), leb-true _ _ f) }
    close_case t b bs true false e f =
        let k : b ∷ [] ≡ 41 ∷ [] = ap (λ x. x ∷ []) (eqb-true b 41 e) in
        record { passed = []; whole = refl; begins = (codes ")", refl); decides = (b, bs, refl, ([], k), (k, leb-false _ _ f)) }
    close_case t b bs false r e f = nothing_passed (BeginsWord (codes ")")) (λ w. (w ≡ 41 ∷ []) × Overflows length_of t) (b ∷ bs) (codes ")", refl)

    close_right : (t : Items L) (bs : List ℕ) → RightTo (λ v w. (v ≡ t) × (w ≡ 41 ∷ []) × Fits length_of v) (BeginsWord (codes ")")) (λ w. (w ≡ 41 ∷ []) × Overflows length_of t) bs (close length_of begins leaf_at (kept length_of t) bs)
    unfolding close
    close_right t [] = nothing_passed (BeginsWord (codes ")")) (λ w. (w ≡ 41 ∷ []) × Overflows length_of t) [] (codes ")", refl)
    close_right t (b ∷ bs) = close_case t b bs (b == 41) (nat_le (whole_length length_of t) 1024) refl refl

    pub whole_right : (bs : List ℕ) → RightTo (IsKept leaf_text (OneIs IsLeaf 7) (Fits length_of)) (BeginsList leaf_text (OneIs IsLeaf 7)) (IsLong leaf_text (OneIs IsLeaf 7) (Overflows length_of)) bs (plain_whole length_of begins leaf_at bs)
    whole_right bs =
        list_right leaf_text (OneIs IsLeaf 7) (no_room begins 7) (plain_item begins leaf_at 7) (item_right 7) (weaker IsLeaf 7) (refuses 7) (Fits length_of) (Overflows length_of) (λ t at. close length_of begins leaf_at (kept length_of t) at) close_right bs
