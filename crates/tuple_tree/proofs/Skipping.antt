-- The bytes after a value, without the value itself.
use Rattle.std.proofs.Common.{◌≡◌, ℕ, zero, suc, ◌+◌, ◌-◌, ◌<◌, List, Option, Some, None, ap, sym, refl, ◌∙◌}
use Rattle.tuple_tree.specs.Items.{inner}
use Rattle.tuple_tree.specs.Reading.{◌>>=◌, Reader, rest_of, more, byte_at, item_at, items_at}
use Rattle.tuple_tree.proofs.Steps.{step, at_five, inner_below}

pub rest_some : {A : Type 0} (o : Option (A × List ℕ)) (rest : List ℕ) → rest_of o ≡ Some rest → (x : A) × (o ≡ Some (x, rest))
rest_some None rest e = absurd (let g : ⊥ = cc in g)
rest_some (Some x) rest e = let h : x.1 ≡ rest = cc in (x.0, ap (λ r. Some (x.0, r)) h)

pub rest_none : {A : Type 0} (o : Option (A × List ℕ)) → rest_of o ≡ None → o ≡ None
rest_none None e = refl
rest_none (Some x) e = absurd (let g : ⊥ = cc in g)

-- the rest is the same if f is applied to the value
pub rest_as : {A B : Type 0} (f : A → B) (o : Option (A × List ℕ)) → rest_of (o >>= λ x. Some (f x.0, x.1)) ≡ rest_of o
rest_as f None = refl
rest_as f (Some x) = refl

rest_bind : {X S : Type 0} (o : Option (X × List ℕ)) (f g : X × List ℕ → Option (S × List ℕ)) → ((x : X × List ℕ) → rest_of (f x) ≡ rest_of (g x)) → rest_of (o >>= f) ≡ rest_of (o >>= g)
rest_bind None f g h = refl
rest_bind (Some x) f g h = h x

module _ {X S : Type 0} (at : Reader X) (grow : S → X → S) where
  -- The values collected before don't matter.
  rest_more : (n : ℕ) (s u : S) (bs : List ℕ) → rest_of (more at grow n s bs) ≡ rest_of (more at grow n u bs)
  rest_more zero s u bs = refl
  rest_more (suc n) s u bs = rest_bind (at bs) (λ x. more at grow n (grow s x.0) x.1) (λ x. more at grow n (grow u x.0) x.1) (λ x. rest_more n (grow s x.0) (grow u x.0) x.1)

  pub skip_goes_on : (n i : ℕ) (s : S) (bs after : List ℕ) → i < n → rest_of (at bs) ≡ Some after → rest_of (more at grow (n - (i + 1)) s after) ≡ rest_of (more at grow (n - i) s bs)
  skip_goes_on n i s bs after p e =
      let x = rest_some (at bs) after e in
      let l : more at grow (n - i) s bs ≡ more at grow (n - (i + 1)) (grow s x.0) after = step at grow n i s bs p ∙ ap (λ o. o >>= λ x. more at grow (n - (i + 1)) (grow s x.0) x.1) x.1 in
      rest_more (n - (i + 1)) s (grow s x.0) after ∙ sym (ap rest_of l)

module _ {L : Type 0} (leaf_at : ℕ → Reader L) where
  pub skip_five : (levels tag : ℕ) (bs front : List ℕ) → byte_at bs ≡ Some (tag, front) → tag ≡ 5 → 0 < levels → rest_of (item_at leaf_at levels bs) ≡ rest_of (items_at leaf_at (levels - 1) front)
  skip_five levels tag bs front e f p = ap rest_of (at_five leaf_at levels tag bs front e f ∙ inner_below leaf_at levels front p) ∙ rest_as inner (items_at leaf_at (levels - 1) front)
