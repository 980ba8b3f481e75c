-- The oldest matches, and the tuples without them.
use Rattle.std.proofs.Common.{◌≡◌, ◌≢◌, ℕ, zero, suc, ◌%◌, Bool, true, false, cond, List, [], ◌∷◌, take, map, Option}
use Rattle.std.proofs.Common.{Some, None, refl, sym, ap, subst, ◌∙◌}
use Rattle.std.specs.Prelude.{All, filter, find}
use Rattle.std.proofs.lemmas.List.Elements.{All-head, All-tail}
use Rattle.tuple_tree.specs.Values.{TemplateTree}
use Rattle.template_match.specs.Tests.{is_match}
use Rattle.space.specs.Applying.{without_first, without_firsts}
use Rattle.space.specs.Births.{BornTuple, SpaceState, IsState, without_match, without_matches, oldest_births}
use Rattle.space.specs.Found.{without_births}
use Rattle.space.specs.Pages.{on_page}
use Rattle.space.proofs.Changing.{page_taken}
use Rattle.space.proofs.Finding.{none_passes, one_taken}
use Rattle.space.proofs.Keeping.{IsState-without_match}

module _ (test : BornTuple → Bool) where
  -- The others are left without the first that passes.
  passing_left : (es : List BornTuple) (e : BornTuple) → find test es ≡ Some e → filter test es ≡ e ∷ filter test (without_first test es)
  passing_left [] e h = absurd (let g : ⊥ = cc in g)
  passing_left (x ∷ xs) e h = go (test x) refl h (passing_left xs e)
    where
      go : (b : Bool) → test x ≡ b → cond b (Some x) (find test xs) ≡ Some e → (find test xs ≡ Some e → filter test xs ≡ e ∷ filter test (without_first test xs))
          → cond b (x ∷ filter test xs) (filter test xs) ≡ e ∷ filter test (cond b xs (x ∷ without_first test xs))
      go true t k below = let same : x ≡ e = cc in ap (λ y. y ∷ filter test xs) same
      go false t k below = below k ∙ ap (λ ys. e ∷ ys) (sym (ap (λ b. cond b (x ∷ filter test (without_first test xs)) (filter test (without_first test xs))) t))

  none_left : (es : List BornTuple) → find test es ≡ None → filter test es ≡ []
  none_left [] h = refl
  none_left (x ∷ xs) h = go (test x) h (none_left xs)
    where
      go : (b : Bool) → cond b (Some x) (find test xs) ≡ None → (find test xs ≡ None → filter test xs ≡ []) → cond b (x ∷ filter test xs) (filter test xs) ≡ []
      go true k below = absurd (let g : ⊥ = cc in g)
      go false k below = below k

  -- Where none passes, all stay.
  none_taken : (n : ℕ) (es : List BornTuple) → find test es ≡ None → without_firsts n test es ≡ es
  none_taken zero es h = refl
  none_taken (suc n) es h = ap (without_firsts n test) (none_passes test es h) ∙ none_taken n es h

module _ (p : TemplateTree) where
  abbrev births_in : List BornTuple → List ℕ
  births_in es = map (λ e. e.0) (filter (λ e. is_match p e.1) es)

  -- Without the births of the oldest matches, these are gone.
  pub all_taken : (n : ℕ) (s : SpaceState) → IsState s → without_births s (oldest_births n p s.entries) ≡ without_matches s n p
  all_taken zero s h = refl
  all_taken (suc n) s h = go (find (λ e. is_match p e.1) s.entries) refl (all_taken n (without_match s p) (IsState-without_match s p h))
    where
      go : (o : Option BornTuple) → find (λ e. is_match p e.1) s.entries ≡ o
          → without_births (without_match s p) (oldest_births n p (without_match s p).entries) ≡ without_matches (without_match s p) n p
          → without_births s (oldest_births (suc n) p s.entries) ≡ without_matches s (suc n) p
      go None e below =
          ap (λ (es : List BornTuple). without_births s (take (suc n) (map (λ e. e.0) es))) (none_left (λ (x : BornTuple). is_match p x.1) s.entries e)
          ∙ sym (ap (λ (es : List BornTuple). record s { entries = es }) (none_taken (λ (x : BornTuple). is_match p x.1) (suc n) s.entries e))
      go (Some x) e below =
          ap (λ (es : List BornTuple). without_births s (take (suc n) (map (λ e. e.0) es))) (passing_left (λ (x : BornTuple). is_match p x.1) s.entries x e)
          ∙ ap (λ (t : SpaceState). without_births t (oldest_births n p (without_first (λ (x : BornTuple). is_match p x.1) s.entries))) (one_taken s p h x.0 x.1 (sym e))
          ∙ below

  -- A page keeps its tuples on which none of them is born.
  pub page_kept : (page n : ℕ) (s : SpaceState) → All (λ b. b % 256 ≢ page) (oldest_births n p s.entries) → on_page page (without_matches s n p).entries ≡ on_page page s.entries
  page_kept page zero s h = refl
  page_kept page (suc n) s h = go (find (λ e. is_match p e.1) s.entries) refl (page_kept page n (without_match s p))
    where
      go : (o : Option BornTuple) → find (λ e. is_match p e.1) s.entries ≡ o
          → (All (λ b. b % 256 ≢ page) (oldest_births n p (without_match s p).entries) → on_page page (without_matches (without_match s p) n p).entries ≡ on_page page (without_match s p).entries)
          → on_page page (without_matches s (suc n) p).entries ≡ on_page page s.entries
      go None e below = ap (on_page page) (none_taken (λ (x : BornTuple). is_match p x.1) (suc n) s.entries e)
      go (Some x) e below =
          let rest : List ℕ = oldest_births n p (without_match s p).entries in
          let all : All (λ b. b % 256 ≢ page) (x.0 ∷ rest) =
          subst (λ (es : List BornTuple). All (λ b. b % 256 ≢ page) (take (suc n) (map (λ e. e.0) es))) (passing_left (λ (x : BornTuple). is_match p x.1) s.entries x e) h in
          below (All-tail (λ b. b % 256 ≢ page) x.0 rest all)
          ∙ page_taken s p x page (sym e) (All-head (λ b. b % 256 ≢ page) x.0 rest all)

  -- the oldest one alone
  pub one_oldest : (es : List BornTuple) (e : BornTuple) → Some e ≡ find (λ e. is_match p e.1) es → oldest_births 1 p es ≡ e.0 ∷ []
  one_oldest es e h = ap (λ (xs : List BornTuple). take 1 (map (λ e. e.0) xs)) (passing_left (λ (x : BornTuple). is_match p x.1) es e (sym h))

  pub none_oldest : (es : List BornTuple) → None ≡ find (λ e. is_match p e.1) es → oldest_births 1 p es ≡ []
  none_oldest es h = ap (λ (xs : List BornTuple). take 1 (map (λ e. e.0) xs)) (none_left (λ (x : BornTuple). is_match p x.1) es (sym h))
