-- Entries in a map that is ordered by births.
use Rattle.std.proofs.Common.{◌≡◌, ◌≢◌, ℕ, zero, suc, ◌%◌, ◌≤◌, ◌<◌, Bool, cond, List, [], ◌∷◌, ◌++◌, length, take}
use Rattle.std.proofs.Common.{get_or, Option, Some, None, refl, sym, ap, subst, ◌∙◌, arith, inl, inr}
use Rattle.std.specs.Prelude.{◌==◌, All, AllPairs, find, position, remove, insert}
use Rattle.std.specs.Ordering.{nat_cmp, match_ordering}
use Rattle.std.specs.declared.cmp.Ordering.TheVariants.{Less, Equal, Greater}
use Rattle.std.specs.Map.{remove_entry}
use Rattle.std.specs.BTreeMap.{is_at, insert_entry}
use Rattle.std.proofs.lemmas.Bool.{cases_lt, cases_eq, ne_eqb, le-ltb, lt-ltb}
use Rattle.std.proofs.lemmas.List.Elements.{All-head, All-tail, All-cons}
use Rattle.tuple_tree.specs.Values.{TupleTree}
use Rattle.space.specs.Applying.{without_first}
use Rattle.space.specs.Births.{BornTuple}
use Rattle.space.specs.Reading.{IsPlaceOfBirth, TupleIsAdded}
use Rattle.space.proofs.Filing.{at_same, at_other}
use Rattle.space.proofs.Listing.{found_at, found_none, removed_at, position-first}
use Rattle.space.proofs.Placing.{IsAdded-insert}

pub greater : (a b : ℕ) → b < a → nat_cmp a b ≡ Greater
greater a b l =
    ap (λ t. cond t Less (cond (a == b) Equal Greater)) (le-ltb a b (omega arith))
    ∙ ap (λ t. cond t Equal Greater) (ne_eqb a b (λ e. omega arith))

pub less : (a b : ℕ) → a < b → nat_cmp a b ≡ Less
less a b l = ap (λ t. cond t Less (cond (a == b) Equal Greater)) (lt-ltb a b l)

-- the newest birth goes to the end
pub inserted_last : (es : List BornTuple) (b : ℕ) (t : TupleTree) → All (λ e. e.0 < b) es → insert_entry nat_cmp es b t ≡ es ++ (b, t) ∷ []
inserted_last [] b t h = refl
inserted_last (x ∷ xs) b t h =
    ap (λ o. match_ordering o ((b, t) ∷ x ∷ xs) ((x.0, t) ∷ xs) (x ∷ insert_entry nat_cmp xs b t)) (greater b x.0 (All-head (λ e. e.0 < b) x xs h))
    ∙ ap (λ ys. x ∷ ys) (inserted_last xs b t (All-tail (λ e. e.0 < b) x xs h))

-- a birth is taken by its place
pub removed_by_place : (es : List BornTuple) (i b : ℕ) (d : BornTuple) → AllPairs (λ e f. e.0 < f.0) es → i < length es → (get_or es i d).0 ≡ b → remove_entry (is_at (nat_cmp b)) es ≡ remove es i
removed_by_place [] i b d h l is = absurd (omega arith)
removed_by_place (x ∷ xs) zero b d h l is =
    let here : x.0 ≡ b = is in
    ap (λ k. cond (is_at (nat_cmp b) k) xs (x ∷ remove_entry (is_at (nat_cmp b)) xs)) here
    ∙ ap (λ t. cond t xs (x ∷ remove_entry (is_at (nat_cmp b)) xs)) (at_same b)
removed_by_place (x ∷ xs) (suc i) b d h l is =
    let before : x.0 < (get_or xs i d).0 = h 0 (suc i) d (omega arith) (omega arith) in
    let here : (get_or xs i d).0 ≡ b = is in
    ap (λ t. cond t xs (x ∷ remove_entry (is_at (nat_cmp b)) xs)) (at_other b x.0 (λ e. omega arith))
    ∙ ap (λ ys. x ∷ ys) (removed_by_place xs i b d (λ j k e m n. h (suc j) (suc k) e (omega arith) (omega arith)) (omega arith) here)

-- a new birth goes to its place
pub placed : (es : List BornTuple) (b : ℕ) (t : TupleTree) → AllPairs (λ e f. e.0 < f.0) es → All (λ e. e.0 ≢ b) es
    → (place : ℕ) × ((insert_entry nat_cmp es b t ≡ insert es place (b, t)) × IsPlaceOfBirth es b place)
placed [] b t h other = (0, (refl, record { bound = omega arith; before = λ k d l. absurd (omega arith); behind = λ k d l. absurd (omega arith) }))
placed (x ∷ xs) b t h other =
    elim (cases_lt b x.0) [
      | inl before ↦ (
        0,
        (
          ap (λ o. match_ordering o ((b, t) ∷ x ∷ xs) ((x.0, t) ∷ xs) (x ∷ insert_entry nat_cmp xs b t)) (less b x.0 before),
          record {
            bound = omega arith;
            before = λ k d l. absurd (omega arith);
            behind = All-cons (λ e. b ≤ e.0) x xs (omega arith) (λ k d l. let m : x.0 < (get_or xs k d).0 = h 0 (suc k) d (omega arith) (omega arith) in omega arith);
          },
        ),
      )
      | inr after ↦
          let apart = All-head (λ e. e.0 ≢ b) x xs other in
          let above : x.0 < b = elim (cases_eq x.0 b) [ inl same ↦ absurd (apart same) | inr differs ↦ omega arith ] in
          let rest = placed xs b t (λ j k e m n. h (suc j) (suc k) e (omega arith) (omega arith)) (All-tail (λ e. e.0 ≢ b) x xs other) in
          let place : ℕ = rest.0 in
          let bound = rest.1.1.bound in (
            suc place,
            (
              ap (λ o. match_ordering o ((b, t) ∷ x ∷ xs) ((x.0, t) ∷ xs) (x ∷ insert_entry nat_cmp xs b t)) (greater b x.0 above) ∙ ap (λ ys. x ∷ ys) rest.1.0,
              record {
                bound = omega arith;
                before = All-cons (λ e. e.0 < b) x (take place xs) above rest.1.1.before;
                behind = rest.1.1.behind;
              },
            ),
          )
    ]

pub IsAdded-inserted : (es : List BornTuple) (e : BornTuple) → AllPairs (λ e f. e.0 < f.0) es → All (λ x. x.0 % 256 ≡ e.0 % 256 → x.0 < e.0) es → TupleIsAdded es (insert_entry nat_cmp es e.0 e.1) e
IsAdded-inserted es e h latest =
    let other : All (λ x. x.0 ≢ e.0) es = λ k d l same. let m = latest k d l (ap (λ n. n % 256) same) in omega arith in
    let p = placed es e.0 e.1 h other in
    subst (λ xs. TupleIsAdded es xs e) (sym p.1.0) (IsAdded-insert es e p.0 h latest p.1.1)

-- the first entry that passes has a place, and is taken there
pub record IsTaken (es rest : List BornTuple) (e : BornTuple) (i : ℕ) : Type 0 where
  pub within : i < length es
  pub here : e ≡ get_or es i e
  pub left : rest ≡ remove es i

pub first_taken : (test : BornTuple → Bool) (es : List BornTuple) (e : BornTuple) → find test es ≡ Some e → (i : ℕ) × IsTaken es (without_first test es) e i
first_taken test es e h = go (position test es) refl
  where
    go : (o : Option ℕ) → position test es ≡ o → (i : ℕ) × IsTaken es (without_first test es) e i
    go None p = absurd (let g : Some e ≡ None = sym h ∙ found_none test es p in cc)
    go (Some i) p = (
      i,
      record {
        within = (position-first test es i p).1;
        here = let g : Some e ≡ Some (get_or es i e) = sym h ∙ found_at test es i e p in cc;
        left = removed_at test es i p;
      },
    )
