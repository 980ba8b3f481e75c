-- Items with one more at their end, and how they keep the limits.
use Rattle.std.proofs.Common.{◌≡◌, ℕ, ◌+◌, ◌≤◌, ◌<◌, max, Bool, true, false, ◌||◌, refl, ap, ◌∙◌, arith}
use Rattle.tuple_tree.specs.Items.{TreeItem, Items, none, item, how_many, with_last, item_levels, levels_in, levels_of}
use Rattle.tuple_tree.specs.Items.{item_length, length_in, whole_length, item_has, has_leaf}
use Rattle.tuple_tree.specs.Limits.{IsItem, AreItems, IsWithin, RefusesItems, RefusesSize}
use Rattle.tuple_tree.specs.declared.limits.Refusal.{Refusal}
use Rattle.tuple_tree.specs.declared.limits.Refusal.TheVariants.{TooManyFields, TooDeep, TooLong, NoMemory}

module _ {L : Type 0} where
  pub how_many-with_last : (t : Items L) (x : TreeItem L) → how_many (with_last t x) ≡ how_many t + 1
  how_many-with_last none x = omega arith
  how_many-with_last (item y t) x = omega (arith, how_many-with_last t x)

  pub levels_in-with_last : (t : Items L) (x : TreeItem L) → levels_in (with_last t x) ≡ max (levels_in t) (item_levels x)
  levels_in-with_last none x = omega arith
  levels_in-with_last (item y t) x = omega (arith, levels_in-with_last t x)

module _ {L : Type 0} (length_of : L → ℕ) where
  pub length_in-with_last : (t : Items L) (x : TreeItem L) → length_in length_of (with_last t x) ≡ length_in length_of t + item_length length_of x
  length_in-with_last none x = omega arith
  length_in-with_last (item y t) x = omega (arith, length_in-with_last t x)

or_one : (b : Bool) → (b || false) ≡ (false || b)
or_one true = refl
or_one false = refl

or_more : (a b c : Bool) → (a || (b || c)) ≡ ((a || b) || c)
or_more true b c = refl
or_more false b c = refl

module _ {L : Type 0} (test : L → Bool) where
  pub has_leaf-with_last : (t : Items L) (x : TreeItem L) → has_leaf test (with_last t x) ≡ (has_leaf test t || item_has test x)
  has_leaf-with_last none x = or_one (item_has test x)
  has_leaf-with_last (item y t) x = ap (λ b. item_has test y || b) (has_leaf-with_last t x) ∙ or_more (item_has test y) (has_leaf test t) (item_has test x)

module _ {L : Type 0} (IsLeaf : L → Type 0) where
  pub AreItems-with_last : (t : Items L) (x : TreeItem L) → AreItems IsLeaf t → IsItem IsLeaf x → AreItems IsLeaf (with_last t x)
  AreItems-with_last none x h p = (p, tt)
  AreItems-with_last (item y t) x h p = (h.0, AreItems-with_last t x h.1 p)

-- The tuple or template t is within the limits, and has n items, d levels and e bytes.
pub record Holds {L : Type 0} (IsLeaf : L → Type 0) (length_of : L → ℕ) (t : Items L) (n d e : ℕ) : Type 0 where
  pub within : IsWithin IsLeaf length_of t
  pub items : n ≡ how_many t
  pub levels : d ≡ levels_of t
  pub bytes : e ≡ whole_length length_of t

module _ {L : Type 0} {IsLeaf : L → Type 0} {length_of : L → ℕ} where
  -- the size of the items with one more
  pub size-with_last : (t : Items L) (x : TreeItem L) (n d e : ℕ) → Holds IsLeaf length_of t n d e
      → (how_many (with_last t x) ≡ n + 1) × (levels_of (with_last t x) ≡ max d (1 + item_levels x)) × (whole_length length_of (with_last t x) ≡ e + item_length length_of x)
  size-with_last t x n d e h = (
    omega (arith, h.items, how_many-with_last t x),
    omega (arith, h.levels, levels_in-with_last t x),
    omega (arith, h.bytes, length_in-with_last length_of t x),
  )

  pub within-with_last : (t : Items L) (x : TreeItem L) (n d e : ℕ) → Holds IsLeaf length_of t n d e → IsItem IsLeaf x → n < 32 → max d (1 + item_levels x) ≤ 8 → e + item_length length_of x ≤ 1024
      → IsWithin IsLeaf length_of (with_last t x)
  within-with_last t x n d e h valid p q r =
      let s = size-with_last t x n d e h in
      record { fields = omega arith; levels = omega arith; length = omega arith; each = AreItems-with_last IsLeaf t x h.within.each valid }

  -- and why it is refused, by the numbers m, l and b that the program has for it
  pub refuses-with_last : (refusal : Refusal) (t : Items L) (x : TreeItem L) (n d e m l b : ℕ) → Holds IsLeaf length_of t n d e → m ≡ n → l ≡ item_levels x → b ≡ item_length length_of x
      → RefusesSize refusal (m + 1) (max d (1 + l)) (e + b) → RefusesItems length_of refusal (with_last t x)
  refuses-with_last TooManyFields t x n d e m l b h p q r f = let s = size-with_last t x n d e h in omega arith
  refuses-with_last TooDeep t x n d e m l b h p q r f = let s = size-with_last t x n d e h in (omega arith, omega arith)
  refuses-with_last TooLong t x n d e m l b h p q r f = let s = size-with_last t x n d e h in (omega arith, omega arith, omega arith)
  refuses-with_last NoMemory t x n d e m l b h p q r f = let s = size-with_last t x n d e h in (omega arith, omega arith, omega arith)
