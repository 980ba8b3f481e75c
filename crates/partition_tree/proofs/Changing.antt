-- The pages after several are set, at each place.
use Rattle.std.proofs.Common.{◌≡◌, ◌≢◌, ℕ, ◌<◌, List, [], ◌∷◌, inl, inr, length, set, get_or, get_or-set_same, get_or-set_other, refl, ◌∙◌, sym, subst}
use Rattle.std.proofs.lemmas.Bool.{cases_eq}
use Rattle.std.proofs.lemmas.List.{length-set}
use Rattle.std.proofs.lemmas.List.Elements.{All-head, All-tail, All-cons, All-nil}
use Rattle.std.specs.List.{All}
use Rattle.partition_tree.specs.Changes.{pages_with}
use Rattle.partition_tree.specs.declared.page.Page.{Page}

pub length-pages_with : (changes : List Page) (pages : List (List ℕ)) → length (pages_with changes pages) ≡ length pages
length-pages_with [] pages = refl
length-pages_with (c ∷ cs) pages =
    length-pages_with cs (set pages c.index c.text.items) ∙ length-set pages c.index c.text.items

-- If P holds of each text that is set, and of each page that isn't set, it holds of all pages afterwards.
pub pages_with-each : (P : ℕ → List ℕ → Type 0) (changes : List Page) (pages : List (List ℕ))
    → All (λ (c : Page). P c.index c.text.items) changes
    → ((i : ℕ) → i < length pages → All (λ (c : Page). c.index ≢ i) changes → P i (get_or pages i []))
    → (i : ℕ) → i < length pages → P i (get_or (pages_with changes pages) i [])
pages_with-each P [] pages texts others i h = others i h (All-nil (λ (c : Page). c.index ≢ i))
pages_with-each P (c ∷ cs) pages texts others i h =
    let Q = λ (e : Page). P e.index e.text.items in
    let text = c.text.items in
    let more = set pages c.index text in
    let count = length-set pages c.index text in
    pages_with-each P cs more (All-tail Q c cs texts)
    (λ k p left.
    elim (cases_eq k c.index) [
      | inl here ↦
          subst (λ (m : ℕ). P m (get_or more m [])) (sym here)
          (subst (P c.index) (sym (get_or-set_same pages c.index text [] (subst (λ (m : ℕ). m < length pages) here (subst (λ (n : ℕ). k < n) count p)))) (All-head Q c cs texts))
      | inr other ↦
          subst (P k) (sym (get_or-set_other pages c.index k text [] other))
          (others k (subst (λ (n : ℕ). k < n) count p) (All-cons (λ (e : Page). e.index ≢ k) c cs (λ e. other (sym e)) left))
    ])
    i (subst (λ (n : ℕ). i < n) (sym count) h)
