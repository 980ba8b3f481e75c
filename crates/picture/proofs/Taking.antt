-- Numbers of parties that are added one after another.
use Rattle.std.proofs.Common.{◌≡◌, ℕ, zero, suc, ◌<◌, ◌⊎◌, inl, inr, List, [], ◌∷◌, ◌++◌, length, slice_index_or, Some, sym, ap, subst, ◌∙◌, append_assoc, append-nil, arith}
use Rattle.std.specs.List.{All}
use Rattle.std.specs.List.Sorted.{IsPermutation}
use Rattle.std.proofs.lemmas.List.Elements.{All-append}
use Rattle.std.proofs.lemmas.List.Sorted.{All-permutation}
use Rattle.std.proofs.lemmas.List.{get_or_default}
use Rattle.picture.specs.declared.arrows.Arrow.{Arrow}
use Rattle.picture.specs.Lanes.{AddsOnly, HasArrow, party_at}

pub all_none : (P : ℕ → Type 0) → All P []
all_none P k d l = absurd (omega arith)

all_one : (P : ℕ → Type 0) (n : ℕ) → P n → All P (n ∷ [])
all_one P n p zero d l = p
all_one P n p (suc k) d l = absurd (omega arith)

pub all_more : (P : ℕ → Type 0) (old new : List ℕ) (n : ℕ) → All P old → P n → new ≡ old ++ n ∷ [] → All P new
all_more P old new n h p e = subst (All P) (sym e) (All-append P old (n ∷ []) h (all_one P n p))

pub none_added : (P : ℕ → Type 0) (old : List ℕ) → AddsOnly P old old
none_added P old = ([], sym (append-nil old), all_none P)

pub one_added : (P : ℕ → Type 0) (old mid new : List ℕ) (n : ℕ) → AddsOnly P old mid → P n → new ≡ mid ++ n ∷ [] → AddsOnly P old new
one_added P old mid new n h p e =
    (h.0 ++ n ∷ [], e ∙ ap (λ t. t ++ n ∷ []) h.1 ∙ append_assoc old h.0 (n ∷ []), All-append P h.0 (n ∷ []) h.2 (all_one P n p))

-- All has what the old ones and the new ones have.
added : (P Q : ℕ → Type 0) (old new : List ℕ) → ((n : ℕ) → P n → Q n) → All Q old → AddsOnly P old new → All Q new
added P Q old new f h a = subst (All Q) (sym a.1) (All-append Q old a.0 h (λ k d l. f _ (a.2 k d l)))

-- Of the numbers that three calls add to none, and that are sorted then, each has one of the properties.
pub all_added : (P Q R : ℕ → Type 0) (none xs ys zs sorted : List ℕ) → none ≡ [] → AddsOnly P none xs → AddsOnly Q xs ys → AddsOnly R ys zs → IsPermutation zs sorted → All (λ n. P n ⊎ (Q n ⊎ R n)) sorted
all_added P Q R none xs ys zs sorted e p q r permutes =
    let A : ℕ → Type 0 = λ n. P n ⊎ (Q n ⊎ R n) in
    let first : All A xs = added P A none xs (λ n h. inl h) (subst (All A) (sym e) (all_none A)) p in
    let second : All A ys = added Q A xs ys (λ n h. inr (inl h)) first q in
    All-permutation A zs sorted permutes (added R A ys zs (λ n h. inr (inr h)) second r)

pub begins_at : (arrows : List Arrow) (place : ℕ) (d : Arrow) (party : ℕ) → place < length arrows → party_at (slice_index_or arrows place d).origin ≡ Some party → HasArrow arrows party
begins_at arrows place d party l e =
    let arrow : Arrow = slice_index_or arrows place d in (arrow, (place, l, get_or_default arrows place arrow d l), e)
