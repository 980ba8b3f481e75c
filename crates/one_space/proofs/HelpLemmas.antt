-- Lines that ask for help.
use Rattle.std.proofs.Common.{◌≡◌, ◌≢◌, ◌⊎◌, inl, inr, ℕ, zero, suc, ◌+◌, ◌-◌, ◌<◌, ◌≤◌, ◌==◌, nat_eq, Bool, true}
use Rattle.std.proofs.Common.{false, true≢false, List, [], ◌∷◌, ◌++◌, length, take, drop, get_or, refl, sym, ap, subst}
use Rattle.std.proofs.Common.{◌∙◌, arith, below_more}
use Rattle.std.proofs.lemmas.List.{take-append-drop, length-append}
use Rattle.std.proofs.lemmas.Bool.{cases_order}
use Rattle.std.specs.Str.{bytes_eq}
use Rattle.std.proofs.lemmas.Slice.Eq.{bytes_eq-Decides}
use lib.Seq.{get_or-append_seam}
use Rattle.tuple_text.specs.Texts.{AreBlanks}
use Rattle.one_space.specs.Run.{IsHelp}

abbrev help : List ℕ
help = 104 ∷ 101 ∷ 108 ∷ 112 ∷ []

blanks_front : (l : List ℕ) (n : ℕ) → n ≤ length l → ((k : ℕ) → k < n → get_or l k 0 ≡ 32) → AreBlanks (take n l)
blanks_front l zero below all = tt
blanks_front [] (suc n) below all = absurd (omega arith)
blanks_front (x ∷ l) (suc n) below all = (all 0 (omega arith), blanks_front l n (omega (arith, below)) (λ k h. all (suc k) (omega (arith, h))))

-- blanks are 32
blank_at : (lead rest : List ℕ) (k : ℕ) → AreBlanks lead → k < length lead → get_or (lead ++ rest) k 0 ≡ 32
blank_at [] rest k blank below = absurd (omega arith)
blank_at (x ∷ lead) rest zero blank below = blank.0
blank_at (x ∷ lead) rest (suc k) blank below = blank_at lead rest k blank.1 (omega (arith, below))

behind : (lead rest : List ℕ) → drop (length lead) (lead ++ rest) ≡ rest
behind [] rest = refl
behind (x ∷ lead) rest = behind lead rest

-- The word begins behind the blanks.
module _ (l : List ℕ) (n : ℕ) (within : n ≤ length l) (before : (k : ℕ) → k < n → get_or l k 0 ≡ 32) (found : n < length l → get_or l n 0 ≡ 32 → ⊥) where
  pub asks : (rest : List ℕ) → drop n l ≡ 104 ∷ 101 ∷ 108 ∷ 112 ∷ rest → AreBlanks rest → length l ≤ 65536 → IsHelp l
  asks rest e blank short = record {
    lead = take n l;
    trail = rest;
    whole = sym (take-append-drop n l) ∙ ap (λ w. take n l ++ w) e;
    blanks = (blanks_front l n within before, blank);
    short = short;
  }

  pub begins_there : (h : IsHelp l) → drop n l ≡ 104 ∷ 101 ∷ 108 ∷ 112 ∷ h.trail
  begins_there h =
      let m = length h.lead in
      let word : List ℕ = 104 ∷ 101 ∷ 108 ∷ 112 ∷ h.trail in
      let letter : get_or l m 0 ≡ 104 = ap (λ w. get_or w m 0) h.whole ∙ get_or-append_seam h.lead 104 (101 ∷ 108 ∷ 112 ∷ h.trail) 0 in
      let long : m < length l = omega (arith, ap length h.whole, length-append h.lead word) in
      let place : n ≡ m = elim (cases_order n m) [
        | inl e ↦ e
        | inr (inl low) ↦ absurd (found (omega (arith, low, long)) (ap (λ w. get_or w n 0) h.whole ∙ blank_at h.lead word n h.blanks.0 low))
        | inr (inr high) ↦ absurd (omega (arith, before m high, letter))
      ] in
      ap (λ k. drop k l) place ∙ ap (drop m) h.whole ∙ behind h.lead word

  pub is_no_help : bytes_eq (take 4 (drop n l)) help ≡ false → IsHelp l → ⊥
  is_no_help e h = true≢false (sym ((bytes_eq-Decides (take 4 (drop n l)) help).1 (ap (take 4) (begins_there h))) ∙ e)

  pub ends_blank : (rest : List ℕ) → rest ≡ drop 4 (drop n l) → (h : IsHelp l) → AreBlanks rest
  ends_blank rest e h = subst AreBlanks (sym (e ∙ ap (drop 4) (begins_there h))) h.blanks.1

-- a list that begins with the word
pub word_there : (w : List ℕ) → bytes_eq (take 4 w) help ≡ true → w ≡ 104 ∷ 101 ∷ 108 ∷ 112 ∷ drop 4 w
word_there w e = sym (take-append-drop 4 w) ∙ ap (λ v. v ++ drop 4 w) ((bytes_eq-Decides (take 4 w) help).0 e)
