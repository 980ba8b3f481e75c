-- The oldest match, and the tuples without it.
use Rattle.std.proofs.Common.{◌≡◌, ◌≢◌, ℕ, Bool, true, false, cond, List, [], ◌∷◌, get_or, Option, Some, None, Result}
use Rattle.std.proofs.Common.{Ok, Err, option_map, refl, sym, ap, ◌∙◌}
use Rattle.std.specs.Prelude.{filter, find, position, is_some, OnErr}
use Rattle.std.specs.Ordering.{nat_cmp}
use Rattle.std.specs.Map.{lookup, remove_entry}
use Rattle.std.specs.BTreeMap.{is_at}
use Rattle.tuple_tree.specs.Items.{none}
use Rattle.tuple_tree.specs.Values.{TupleTree, TemplateTree}
use Rattle.template_match.specs.Tests.{is_match}
use Rattle.space.specs.Applying.{first_match, without_first}
use Rattle.space.specs.Births.{BornTuple, SpaceState, IsState, tuples_of, without_match}
use Rattle.space.proofs.Listing.{find-map, found_at, removed_none}
use Rattle.space.proofs.Storing.{oldest_taken}

pub none_passes : (test : BornTuple → Bool) (es : List BornTuple) → find test es ≡ None → without_first test es ≡ es
none_passes test es e = go (position test es) refl
  where
    go : (o : Option ℕ) → position test es ≡ o → without_first test es ≡ es
    go None p = removed_none test es p
    go (Some i) p = absurd (let g : Some (get_or es i (i, none)) ≡ None = sym (found_at test es i (i, none) p) ∙ e in let bad : ⊥ = cc in bad)

-- what holds is said of each refusal
pub on_err : {T E P : Type 0} (r : Result T E) → P → OnErr r P
on_err (Ok x) p = tt
on_err (Err e) p = p

-- there is a first match among matches
pub some_matched : (p : TemplateTree) (ts : List TupleTree) → filter (is_match p) ts ≢ [] → is_some (find (is_match p) ts) ≡ true
some_matched p [] h = absurd (h refl)
some_matched p (t ∷ ts) h = go (is_match p t) h (some_matched p ts)
  where
    go : (b : Bool) → cond b (t ∷ filter (is_match p) ts) (filter (is_match p) ts) ≢ [] → (filter (is_match p) ts ≢ [] → is_some (find (is_match p) ts) ≡ true)
        → is_some (cond b (Some t) (find (is_match p) ts)) ≡ true
    go true h below = refl
    go false h below = below h

module _ (s : SpaceState) (p : TemplateTree) where
  pub first_of : (o : Option BornTuple) → o ≡ find (λ e. is_match p e.1) s.entries → first_match p (tuples_of s) ≡ option_map (λ e. e.1) o
  first_of o e = find-map (λ e. e.1) (is_match p) s.entries ∙ ap (option_map (λ (x : BornTuple). x.1)) (sym e)

  pub some_first : (o : Option BornTuple) → o ≡ find (λ e. is_match p e.1) s.entries → is_some o ≡ is_some (first_match p (tuples_of s))
  some_first o e = go o ∙ sym (ap is_some (first_of o e))
    where
      go : (o : Option BornTuple) → is_some o ≡ is_some (option_map (λ (x : BornTuple). x.1) o)
      go None = refl
      go (Some x) = refl

  pub some_seen : {B : Type 0} (f : B → BornTuple) (r : Option B) → option_map f r ≡ find (λ e. is_match p e.1) s.entries → is_some r ≡ is_some (first_match p (tuples_of s))
  some_seen {B = B} f r e = go r ∙ some_first (option_map f r) e
    where
      go : (r : Option B) → is_some r ≡ is_some (option_map f r)
      go None = refl
      go (Some x) = refl

  pub none_taken : None ≡ find (λ e. is_match p e.1) s.entries → without_match s p ≡ s
  none_taken e = ap (λ es. record s { entries = es }) (none_passes (λ (x : BornTuple). is_match p x.1) s.entries (sym e))

  module _ (h : IsState s) (b : ℕ) (t : TupleTree) (e : Some (b, t) ≡ find (λ e. is_match p e.1) s.entries) where
    pub one_taken : record s { entries = remove_entry (is_at (nat_cmp b)) s.entries } ≡ without_match s p
    one_taken = ap (λ es. record s { entries = es }) (oldest_taken (λ (x : BornTuple). is_match p x.1) s.entries b t h.rising (sym e)).left

    pub one_stored : lookup (is_at (nat_cmp b)) s.entries ≡ Some t
    one_stored = (oldest_taken (λ (x : BornTuple). is_match p x.1) s.entries b t h.rising (sym e)).stored
