-- The bytes after a value, without the value itself.
use Rattle.std.proofs.Common.{◌≡◌, ◌↔◌, ℕ, ◌-◌, ◌≤◌, List, [], ◌∷◌, ◌++◌, length, take, drop, Some, None, IsTrue, Bool}
use Rattle.std.proofs.Common.{true, false, ap, sym, refl, ◌∙◌, arith}
use Rattle.std.proofs.lemmas.Bool.{eqb-true}
use lib.Dec.{eqb}
use Rattle.tuple_tree.specs.Values.{AreBytes}
use Rattle.tuple_codec.specs.Operations.{cas}
use Rattle.tuple_tree.specs.Reading.{◌>>=◌, Reader, read_as, rest_of, framed, tuple_at, template_at}
use Rattle.tuple_codec.specs.Reading.{cas_at}
use Rattle.tuple_codec.specs.Spelling.{Spells, FrontSpells}
use Rattle.tuple_codec.specs.declared.bad.Bad.TheVariants as bad
use Rattle.tuple_tree.proofs.Readers.{Found}
use Rattle.tuple_codec.proofs.Steps.{frame_read}
use Rattle.tuple_codec.proofs.Grammar.{Reads, front, only_err, all_spelled, all_read}
use Rattle.tuple_tree.proofs.Skipping.{rest_some, rest_none, rest_as}

-- Within the first bytes.
pub frame_skip : {V : Type 0} (IsValue : V → Type 0) (spelling : V → List ℕ) (limit : ℕ) (at : Reader V) (bs front rest : List ℕ) → Found IsValue spelling at → AreBytes bs → front ≡ take limit bs → rest_of (at front) ≡ Some rest
    → (length rest ≤ length front) × (length front - length rest ≤ length bs) × (rest_of (framed limit at bs) ≡ Some (drop (length front - length rest) bs))
frame_skip IsValue spelling limit at bs front rest reads h f e =
    let x = rest_some (at front) rest e in
    let r = frame_read IsValue spelling limit at bs front rest x.0 reads h f x.1 in
    (r.0, r.1, ap rest_of r.2)

pub frame_skip_fails : {V : Type 0} (limit : ℕ) (at : Reader V) (bs front : List ℕ) → front ≡ take limit bs → rest_of (at front) ≡ None → rest_of (framed limit at bs) ≡ None
unfolding framed
frame_skip_fails limit at bs front f e = ap (λ o. rest_of (o >>= λ x. Some (x.0, x.1 ++ drop limit bs))) (ap at (sym f) ∙ rest_none (at front) e)

-- a template, and then a tuple
pub skip_both : (bs after : List ℕ) → rest_of (template_at bs) ≡ Some after → rest_of (cas_at bs) ≡ rest_of (tuple_at after)
unfolding cas_at
skip_both bs after e =
    let x = rest_some (template_at bs) after e in
    ap (λ o. rest_of (o >>= λ p. read_as (cas p.0) tuple_at p.1)) x.1 ∙ rest_as (cas x.0) (tuple_at after)

pub skip_both_fails : (bs : List ℕ) → rest_of (template_at bs) ≡ None → rest_of (cas_at bs) ≡ None
unfolding cas_at
skip_both_fails bs e = ap (λ o. rest_of (o >>= λ p. read_as (cas p.0) tuple_at p.1)) (rest_none (template_at bs) e)

-- If bytes are skipped, they spell a value at the front; if none can be skipped, no front spells a value.
module _ {V : Type 0} (IsValue : V → Type 0) (spelling : V → List ℕ) (at : Reader V) (reads : Reads IsValue spelling at) where
  pub front_there : (bs rest : List ℕ) → AreBytes bs → rest_of (at bs) ≡ Some rest → FrontSpells IsValue spelling bs
  front_there bs rest h e = let x = rest_some (at bs) rest e in front IsValue spelling at reads bs rest x.0 h x.1

  pub front_none : (bs : List ℕ) (v : V) (k : ℕ) → rest_of (at bs) ≡ None → Spells IsValue spelling (take k bs) v → bad.Malformed ≡ bad.NoMemory
  front_none bs v k h s = only_err IsValue spelling at reads bs bad.Malformed v k (rest_none (at bs) h) s

nil : (xs : List ℕ) → length xs ≡ 0 → xs ≡ []
nil [] e = refl
nil (x ∷ xs) e = absurd (omega arith)

-- The whole of the bytes.
module _ {V : Type 0} (IsValue : V → Type 0) (spelling : V → List ℕ) (at : Reader V) (reads : Reads IsValue spelling at) where
  pub whole_some : (bs rest : List ℕ) → AreBytes bs → rest_of (at bs) ≡ Some rest → (rest ≡ []) ↔ ((v : V) × Spells IsValue spelling bs v)
  whole_some bs rest h e =
      let x = rest_some (at bs) rest e in (
        λ n. (x.0, all_spelled IsValue spelling at reads bs x.0 h (x.1 ∙ ap (λ r. Some (x.0, r)) n)),
        λ s. let f : Some rest ≡ Some [] = sym e ∙ ap rest_of (all_read IsValue spelling at reads bs s.0 s.1) in cc,
      )

  pub whole_none : (bs : List ℕ) → rest_of (at bs) ≡ None → IsTrue false ↔ ((v : V) × Spells IsValue spelling bs v)
  whole_none bs e =
      (λ f. absurd (let g : ⊥ = cc in g), λ s. absurd (let f : None ≡ Some [] = sym e ∙ ap rest_of (all_read IsValue spelling at reads bs s.0 s.1) in let g : ⊥ = cc in g))

  -- by the test that nothing is left
  pub whole_empty : (b : Bool) (bs rest : List ℕ) → AreBytes bs → rest_of (at bs) ≡ Some rest → b ≡ eqb (length rest) 0 → IsTrue b ↔ ((v : V) × Spells IsValue spelling bs v)
  whole_empty b bs rest h e f =
      let w = whole_some bs rest h e in (
        λ t. let g : b ≡ true = cc in w.0 (nil rest (eqb-true (length rest) 0 (sym f ∙ g))),
        λ s. let n = w.1 s in let g : b ≡ true = f ∙ ap (λ r. eqb (length r) 0) n in cc,
      )
