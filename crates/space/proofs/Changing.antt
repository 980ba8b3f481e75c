-- Which pages an operation changes.
use Rattle.std.proofs.Common.{◌≡◌, ◌≢◌, ◌⊎◌, inl, inr, ℕ, zero, suc, ◌+◌, ◌%◌, ◌<◌, ◌≤◌, Bool, true, false, cond, List}
use Rattle.std.proofs.Common.{[], ◌∷◌, ◌++◌, length, get_or, set, Some, refl, sym, ap, ◌∙◌, arith, append-nil}
use Rattle.std.specs.Prelude.{◌==◌, All, Contains, find, map, remove, is_some}
use Rattle.std.specs.List.{range_with_len}
use Rattle.std.proofs.lemmas.Bool.{cases_eq, ne_eqb}
use Rattle.std.proofs.lemmas.List.{get_or-set_same, get_or-set_other, length-set}
use Rattle.std.proofs.lemmas.List.Elements.{All-nil, All-cons}
use Rattle.std.proofs.lemmas.List.FromFn.{length-range_with_len, get_or-range_with_len}
use Rattle.tuple_tree.specs.Values.{TupleTree, TemplateTree}
use Rattle.template_match.specs.Tests.{is_match}
use Rattle.space.specs.Applying.{has_room, first_match}
use Rattle.space.specs.Births.{BornTuple, SpaceState, tuples_of, birth_of, with_birth, with_tuple, without_match}
use Rattle.space.specs.Births.{served_state}
use Rattle.space.specs.Pages.{on_page}
use Rattle.space.specs.Marking.{with_pages}
use Rattle.space.proofs.Texts.{on_page-append}
use Rattle.space.proofs.Trees.{first_taken}
use Rattle.tuple_codec.specs.Operations.{cas}

elsewhere : (page : ℕ) (e : BornTuple) → e.0 % 256 ≢ page → on_page page (e ∷ []) ≡ []
unfolding on_page
elsewhere page e other = ap (λ (b : Bool). cond b (e ∷ []) []) (ne_eqb (e.0 % 256) page other)

module _ (s : SpaceState) (page : ℕ) (other : birth_of s % 256 ≢ page) where
  added : (t : TupleTree) → on_page page (with_birth s t).entries ≡ on_page page s.entries
  added t =
      on_page-append page s.entries ((birth_of s, t) ∷ []) ∙ ap (λ (xs : List BornTuple). on_page page s.entries ++ xs) (elsewhere page (birth_of s, t) other)
      ∙ append-nil (on_page page s.entries)

  pub page_with_tuple : (t : TupleTree) → on_page page (with_tuple s t).entries ≡ on_page page s.entries
  page_with_tuple t = go (has_room (tuples_of s))
    where
      go : (b : Bool) → on_page page (cond b (with_birth s t) s).entries ≡ on_page page s.entries
      go true = added t
      go false = refl

  pub page_swapped : (p : TemplateTree) (t : TupleTree) → on_page page (served_state s (cas p t)).entries ≡ on_page page s.entries
  page_swapped p t = go (is_some (first_match p (tuples_of s)))
    where
      go : (b : Bool) → on_page page (cond b s (with_tuple s t)).entries ≡ on_page page s.entries
      go true = refl
      go false = page_with_tuple t

on_page-remove : (page : ℕ) (es : List BornTuple) (i : ℕ) (d : BornTuple) → i < length es → (get_or es i d).0 % 256 ≢ page → on_page page (remove es i) ≡ on_page page es
unfolding on_page
on_page-remove page [] i d l other = absurd (omega arith)
on_page-remove page (x ∷ xs) zero d l other = sym (ap (λ (b : Bool). cond b (x ∷ on_page page xs) (on_page page xs)) (ne_eqb (x.0 % 256) page other))
on_page-remove page (x ∷ xs) (suc i) d l other = ap (λ (ys : List BornTuple). cond (x.0 % 256 == page) (x ∷ ys) ys) (on_page-remove page xs i d (omega arith) other)

pub page_taken : (s : SpaceState) (p : TemplateTree) (e : BornTuple) (page : ℕ) → Some e ≡ find (λ e. is_match p e.1) s.entries → e.0 % 256 ≢ page → on_page page (without_match s p).entries ≡ on_page page s.entries
page_taken s p e page h other =
    let k = first_taken (λ (x : BornTuple). is_match p x.1) s.entries e (sym h) in
    ap (on_page page) k.1.left
    ∙ on_page-remove page s.entries k.0 e k.1.within (λ q. other (ap (λ (x : BornTuple). x.0 % 256) k.1.here ∙ q))

-- ---- sets of pages

-- A page that isn't there afterwards wasn't before, and none of the births lies on it.
pub unmarked : (births : List ℕ) (old : List Bool) (page : ℕ) → length old ≡ 256 → page < 256 → get_or (with_pages old births) page false ≡ false
    → (get_or old page false ≡ false) × All (λ b. b % 256 ≢ page) births
unmarked [] old page long within none = (none, All-nil _)
unmarked (b ∷ bs) old page long within none =
    let at : ℕ = b % 256 in
    let rest = unmarked bs (set old at true) page (omega (arith, length-set old at true)) within none in
    let other : at ≢ page = λ same.
    let marked : get_or (set old at true) page false ≡ true = ap (λ (i : ℕ). get_or (set old at true) i false) (sym same) ∙ get_or-set_same old at true false (omega arith) in
    absurd (let e : true ≡ false = sym marked ∙ rest.0 in cc) in
    (sym (get_or-set_other old at page true false (λ q. other (sym q))) ∙ rest.0, All-cons (λ b. b % 256 ≢ page) b bs other rest.1)

-- a set of pages with all from this one on
pub with_pages_next : (pages : List Bool) (page n : ℕ) → page < 256 → with_pages pages (range_with_len page (suc n)) ≡ with_pages (set pages page true) (range_with_len (page + 1) n)
with_pages_next pages page n l = let e : page % 256 ≡ page = omega arith in ap (λ (i : ℕ). with_pages (set pages i true) (range_with_len (page + 1) n)) e

-- No page is none of the first n numbers.
pub one_of_all : (page n : ℕ) → page < n → n ≤ 256 → All (λ b. b % 256 ≢ page) (range_with_len 0 n) → ⊥
one_of_all page n l m h =
    let first : 0 + page ≡ page = omega arith in
    let is : get_or (range_with_len 0 n) page 0 ≡ page = get_or-range_with_len 0 n page 0 l ∙ first in
    let e : page % 256 ≡ page = omega arith in
    h page 0 (omega (arith, l, length-range_with_len 0 n)) (ap (λ (i : ℕ). i % 256) is ∙ e)

-- A page is one of those of the births, or none of them lies on it.
pub on_or_off : (births : List ℕ) (page : ℕ) → Contains (map (λ b. b % 256) births) page ⊎ All (λ b. b % 256 ≢ page) births
on_or_off [] page = inr (All-nil _)
on_or_off (b ∷ bs) page = go (cases_eq page (b % 256)) (on_or_off bs page)
  where
    go : (page ≡ b % 256) ⊎ (page ≢ b % 256) → Contains (map (λ b. b % 256) bs) page ⊎ All (λ b. b % 256 ≢ page) bs
        → Contains (map (λ b. b % 256) (b ∷ bs)) page ⊎ All (λ b. b % 256 ≢ page) (b ∷ bs)
    go (inl same) rest = inl (0, omega arith, sym same)
    go (inr other) (inl rest) = let l = rest.1 in inl (suc rest.0, omega arith, rest.2)
    go (inr other) (inr rest) = inr (All-cons (λ b. b % 256 ≢ page) b bs (λ same. other (sym same)) rest)

-- One of the births lies on a page that is there afterwards and wasn't before.
pub marked : (births : List ℕ) (old : List Bool) (page : ℕ) → get_or (with_pages old births) page false ≡ true → get_or old page false ≡ false → Contains (map (λ b. b % 256) births) page
marked [] old page now before = absurd (let e : true ≡ false = sym now ∙ before in cc)
marked (b ∷ bs) old page now before = go (cases_eq page (b % 256)) (marked bs (set old (b % 256) true) page now)
  where
    go : (page ≡ b % 256) ⊎ (page ≢ b % 256) → (get_or (set old (b % 256) true) page false ≡ false → Contains (map (λ b. b % 256) bs) page)
        → Contains (map (λ b. b % 256) (b ∷ bs)) page
    go (inl same) below = (0, omega arith, sym same)
    go (inr other) below =
        let rest = below (get_or-set_other old (b % 256) page true false other ∙ before) in
        let l = rest.1 in
        (suc rest.0, omega arith, rest.2)
