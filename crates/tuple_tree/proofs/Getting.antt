-- The item at a place, where those before it are passed one after another.
use Rattle.std.proofs.Common.{◌≡◌, ℕ, zero, suc, ◌+◌, ◌-◌, ◌<◌, Option, Some, None, slice_get, ap, sym, ◌∙◌, arith}
use Rattle.tuple_tree.specs.Items.{TreeItem, Items, none, item, as_list}

module _ {L : Type 0} (before : Items L) (i k : ℕ) (found : Option (TreeItem L)) where
  -- one more is passed
  pub passed : (after : Items L) (x : TreeItem L) → k < i → before ≡ item x after → slice_get (as_list before) (i - k) ≡ found → slice_get (as_list after) (i - (k + 1)) ≡ found
  passed after x l e h =
      let n : i - k ≡ suc (i - (k + 1)) = omega arith in
      sym (ap (slice_get (as_list (item x after))) n) ∙ ap (λ (t : Items L). slice_get (as_list t) (i - k)) (sym e) ∙ h

  -- none is left
  pub none_left : before ≡ none → slice_get (as_list before) (i - k) ≡ found → found ≡ None
  none_left e h = sym h ∙ ap (λ (t : Items L). slice_get (as_list t) (i - k)) e

  -- all before it are passed
  pub next_is : (after : Items L) (x : TreeItem L) → i - k ≡ zero → before ≡ item x after → slice_get (as_list before) (i - k) ≡ found → found ≡ Some x
  next_is after x n e h = sym h ∙ ap (λ (t : Items L). slice_get (as_list t) (i - k)) e ∙ ap (slice_get (as_list (item x after))) n
