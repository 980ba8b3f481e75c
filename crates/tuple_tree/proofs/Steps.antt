-- Steps of reading.
use Rattle.std.proofs.Common.{◌≡◌, ℕ, zero, suc, ◌+◌, ◌-◌, ◌<◌, ◌≤◌, List, Option, Some, None, Bool, true, false, ap}
use Rattle.std.proofs.Common.{refl, sym, ◌∙◌, arith}
use Rattle.std.proofs.lemmas.Bool.{le-ltb, eqb-true}
use Rattle.std.proofs.lemmas.Str.{is_utf8-from_IsUtf8, IsUtf8-from_is_utf8}
use Rattle.std.specs.Str.{IsUtf8, is_utf8}
use lib.Dec.{ltb, eqb}
use Rattle.tuple_tree.specs.Items.{TreeItem, leaf, inner, Items, none, with_last}
use Rattle.tuple_tree.specs.Reading.{◌>>=◌, Reader, read_as, more, byte_at, string_at, text_at, item_with, items_with}
use Rattle.tuple_tree.specs.Reading.{nothing, inner_at, item_at, items_at}

pub text_there : (bs s rest : List ℕ) → string_at bs ≡ Some (s, rest) → IsUtf8 s → text_at bs ≡ Some (s, rest)
unfolding text_at
text_there bs s rest e u = rw (e, is_utf8-from_IsUtf8 s u) refl

is_not_utf8 : (s : List ℕ) → ¬ (IsUtf8 s) → is_utf8 s ≡ false
is_not_utf8 s refutes =
    let cases : (b : Bool) → is_utf8 s ≡ b → is_utf8 s ≡ false = elim [ true ↦ λ e. absurd (refutes (IsUtf8-from_is_utf8 s e)) | false ↦ λ e. e ] in
    cases (is_utf8 s) refl

pub text_not_there : (bs s rest : List ℕ) → string_at bs ≡ Some (s, rest) → ¬ (IsUtf8 s) → text_at bs ≡ None
unfolding text_at
text_not_there bs s rest e u = rw (e, is_not_utf8 s u) refl

-- Readers of several values in a loop, at each step of the loop.
module _ {X S : Type 0} (at : Reader X) (grow : S → X → S) where
  pub step : (n i : ℕ) (s : S) (bs : List ℕ) → i < n → more at grow (n - i) s bs ≡ (at bs >>= λ x. more at grow (n - (i + 1)) (grow s x.0) x.1)
  step n i s bs p = let e : n - i ≡ suc (n - (i + 1)) = omega arith in rw e refl

  pub starts : (n : ℕ) (s t : S) (bs : List ℕ) → s ≡ t → more at grow (n - 0) s bs ≡ more at grow n t bs
  starts n s t bs e = let z : n - 0 ≡ n = omega arith in ap (λ m. more at grow m s bs) z ∙ ap (λ u. more at grow n u bs) e

  -- the loop's end
  pub ends : (n i : ℕ) (s : S) (bs : List ℕ) (o : Option (S × List ℕ)) → n ≤ i → more at grow (n - i) s bs ≡ o → o ≡ Some (s, bs)
  ends n i s bs o p e = let z : n - i ≡ 0 = omega arith in sym e ∙ ap (λ m. more at grow m s bs) z

  pub goes_on : (n i : ℕ) (s u : S) (x : X) (bs after : List ℕ) → i < n → at bs ≡ Some (x, after) → u ≡ grow s x → more at grow (n - (i + 1)) u after ≡ more at grow (n - i) s bs
  goes_on n i s u x bs after p e f = sym (step n i s bs p ∙ rw (e, f) refl)

-- the whole list, from the turn that the loop has reached
pub whole : {L : Type 0} (at : Reader (TreeItem L)) (bs front rest : List ℕ) (n i : ℕ) (t : Items L) → byte_at bs ≡ Some (n, front) → n ≤ 32 → more at with_last (n - i) t rest ≡ more at with_last n none front
    → more at with_last (n - i) t rest ≡ items_with at bs
unfolding items_with
whole at bs front rest n i t e p h = let l : ltb 32 n ≡ false = le-ltb 32 n p in h ∙ sym (rw (e, l) refl)

pub not_equal : (a b : ℕ) → (a ≡ b → ⊥) → eqb a b ≡ false
not_equal a b ne =
    let cases : (c : Bool) → eqb a b ≡ c → eqb a b ≡ false = elim [ true ↦ λ e. absurd (ne (eqb-true a b e)) | false ↦ λ e. e ] in
    cases (eqb a b) refl

-- The reader of an item after a tag that is no 5, and after a 5.
module _ {L : Type 0} (leaf_at : ℕ → Reader L) where
  pub at_leaf : (levels tag : ℕ) (bs front : List ℕ) → byte_at bs ≡ Some (tag, front) → (tag ≡ 5 → ⊥) → item_at leaf_at levels bs ≡ read_as leaf (leaf_at tag) front
  unfolding item_with
  at_leaf levels tag bs front e ne = let n : eqb tag 5 ≡ false = not_equal tag 5 ne in rw (e, n) refl

  pub at_five : (levels tag : ℕ) (bs front : List ℕ) → byte_at bs ≡ Some (tag, front) → tag ≡ 5 → item_at leaf_at levels bs ≡ inner_at leaf_at levels front
  unfolding item_with
  at_five levels tag bs front e f = rw (e, f) refl

  pub no_levels : (bs : List ℕ) → inner_at leaf_at 0 bs ≡ None
  unfolding inner_at nothing
  no_levels bs = refl

  pub inner_below : (levels : ℕ) (bs : List ℕ) → 0 < levels → inner_at leaf_at levels bs ≡ read_as inner (items_at leaf_at (levels - 1)) bs
  unfolding inner_at
  inner_below zero bs p = absurd (omega arith)
  inner_below (suc levels) bs p = let e : suc levels - 1 ≡ levels = omega arith in rw e refl

  pub inner_there : (levels : ℕ) (bs rest : List ℕ) (t : Items L) → 0 < levels → items_at leaf_at (levels - 1) bs ≡ Some (t, rest) → inner_at leaf_at levels bs ≡ Some (inner t, rest)
  inner_there levels bs rest t p e = inner_below levels bs p ∙ ap (λ o. o >>= λ x. Some (inner x.0, x.1)) e
