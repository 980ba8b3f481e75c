-- A birth is put in its place.
use Rattle.std.proofs.Common.{◌≡◌, ◌≢◌, ℕ, zero, suc, ◌%◌, ◌≤◌, ◌<◌, true, false, cond, List, [], ◌∷◌, ◌++◌, take, drop}
use Rattle.std.proofs.Common.{get_or, refl, sym, ap, subst, ◌∙◌, arith, inl, inr, eq-eqb}
use Rattle.std.specs.Prelude.{◌==◌, All, AllPairs, filter, insert}
use Rattle.std.proofs.lemmas.Bool.{cases_eq, ne_eqb}
use Rattle.std.proofs.lemmas.List.{take-append-drop, append-nil}
use Rattle.std.proofs.lemmas.List.Elements.{All-head, All-tail, All-drop, All-get_or, All-weaker, filter-append}
use Rattle.space.specs.Births.{BornTuple}
use Rattle.space.specs.Pages.{on_page}
use Rattle.space.specs.Reading.{IsPlaceOfBirth, TupleIsAdded}
use Rattle.space.proofs.Determining.{Rises, Rises-from_pairs, all_from}

pub pairs_from_Rises : (from : ℕ) (es : List BornTuple) → Rises from es → AllPairs (λ e f. e.0 < f.0) es
pairs_from_Rises from [] h i j d l m = absurd (omega arith)
pairs_from_Rises from (e ∷ es) h zero zero d l m = absurd (omega arith)
pairs_from_Rises from (e ∷ es) h zero (suc j) d l m = let a = All-get_or (λ x. suc e.0 ≤ x.0) es j d (omega arith) (all_from (suc e.0) es h.1) in omega arith
pairs_from_Rises from (e ∷ es) h (suc i) zero d l m = absurd (omega arith)
pairs_from_Rises from (e ∷ es) h (suc i) (suc j) d l m = pairs_from_Rises (suc e.0) es h.1 i j d (omega arith) (omega arith)

Rises-above : (from least : ℕ) (es : List BornTuple) → Rises from es → All (λ x. least ≤ x.0) es → Rises least es
Rises-above from least [] h a = tt
Rises-above from least (e ∷ es) h a = (All-head (λ x. least ≤ x.0) e es a, h.1)

Rises-insert : (from : ℕ) (es : List BornTuple) (place : ℕ) (e : BornTuple) → Rises from es → from ≤ e.0 → All (λ x. x.0 < e.0) (take place es) → All (λ x. e.0 < x.0) (drop place es) → Rises from (take place es ++ e ∷ drop place es)
Rises-insert from es zero e h l before behind = (l, Rises-above from (suc e.0) es h (All-weaker (λ x. e.0 < x.0) (λ x. suc e.0 ≤ x.0) (λ x p. omega arith) es behind))
Rises-insert from [] (suc place) e h l before behind = (l, tt)
Rises-insert from (x ∷ xs) (suc place) e h l before behind =
    let first = All-head (λ y. y.0 < e.0) x (take place xs) before in
    (h.0, Rises-insert (suc x.0) xs place e h.1 (omega arith) (All-tail (λ y. y.0 < e.0) x (take place xs) before) behind)

filter_none : (page : ℕ) (es : List BornTuple) → All (λ x. x.0 % 256 ≢ page) es → filter (λ (x : BornTuple). x.0 % 256 == page) es ≡ []
filter_none page [] h = refl
filter_none page (e ∷ es) h =
    let t : (e.0 % 256 == page) ≡ false = ne_eqb (e.0 % 256) page (All-head (λ x. x.0 % 256 ≢ page) e es h) in
    ap (λ b. cond b (e ∷ filter (λ (x : BornTuple). x.0 % 256 == page) es) (filter (λ (x : BornTuple). x.0 % 256 == page) es)) t ∙ filter_none page es (All-tail (λ x. x.0 % 256 ≢ page) e es h)

module _ (es : List BornTuple) (e : BornTuple) (place : ℕ) (rises : AllPairs (λ x y. x.0 < y.0) es) (latest : All (λ x. x.0 % 256 ≡ e.0 % 256 → x.0 < e.0) es) (at : IsPlaceOfBirth es e.0 place) where
  -- what stands behind the place is on other pages
  elsewhere : All (λ x. x.0 % 256 ≢ e.0 % 256) (drop place es)
  elsewhere k d l same =
      let a = at.behind k d l in
      let b = All-drop (λ x. x.0 % 256 ≡ e.0 % 256 → x.0 < e.0) place es latest k d l same in
      absurd (omega arith)

  behind : All (λ x. e.0 < x.0) (drop place es)
  behind k d l =
      let a = at.behind k d l in
      elim (cases_eq (get_or (drop place es) k d).0 e.0) [
        | inl same ↦ absurd (elsewhere k d l (ap (λ n. n % 256) same))
        | inr other ↦ omega arith
      ]

  page_added : (page : ℕ) → on_page page (take place es ++ e ∷ drop place es) ≡ on_page page es ++ on_page page (e ∷ [])
  unfolding on_page
  page_added page = elim (cases_eq (e.0 % 256) page) [
    | inl same ↦
        let none : filter (λ (x : BornTuple). x.0 % 256 == page) (drop place es) ≡ [] = filter_none page (drop place es) (subst (λ p. All (λ x. x.0 % 256 ≢ p) (drop place es)) same elsewhere) in
        let one : (e.0 % 256 == page) ≡ true = eq-eqb (e.0 % 256) page same in
        let whole : filter (λ (x : BornTuple). x.0 % 256 == page) es ≡ filter (λ (x : BornTuple). x.0 % 256 == page) (take place es) =
        ap (filter (λ (x : BornTuple). x.0 % 256 == page)) (sym (take-append-drop place es)) ∙ filter-append (λ (x : BornTuple). x.0 % 256 == page) (take place es) (drop place es)
        ∙ ap (λ xs. filter (λ (x : BornTuple). x.0 % 256 == page) (take place es) ++ xs) none ∙ append-nil _ in
        filter-append (λ (x : BornTuple). x.0 % 256 == page) (take place es) (e ∷ drop place es)
        ∙ rw (one, none, whole) refl
    | inr other ↦
        let zero : (e.0 % 256 == page) ≡ false = ne_eqb (e.0 % 256) page other in
        let whole : filter (λ (x : BornTuple). x.0 % 256 == page) es ≡ filter (λ (x : BornTuple). x.0 % 256 == page) (take place es) ++ filter (λ (x : BornTuple). x.0 % 256 == page) (drop place es) =
        ap (filter (λ (x : BornTuple). x.0 % 256 == page)) (sym (take-append-drop place es)) ∙ filter-append (λ (x : BornTuple). x.0 % 256 == page) (take place es) (drop place es) in
        filter-append (λ (x : BornTuple). x.0 % 256 == page) (take place es) (e ∷ drop place es)
        ∙ rw zero (sym (append-nil (filter (λ (x : BornTuple). x.0 % 256 == page) es) ∙ whole))
  ]

  pub IsAdded-insert : TupleIsAdded es (insert es place e) e
  IsAdded-insert = record {
    rising = pairs_from_Rises 0 (take place es ++ e ∷ drop place es) (Rises-insert 0 es place e (Rises-from_pairs 0 es rises (λ k d l. omega arith)) (omega arith) at.before behind);
    pages = page_added;
  }
