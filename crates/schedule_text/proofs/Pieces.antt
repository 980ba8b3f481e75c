-- A text up to the first byte of a kind, and from it on.
use Rattle.std.proofs.Common.{◌≡◌, ◌≢◌, ℕ, zero, suc, ◌<◌, ◌≤◌, ◌==◌, Bool, true, false, cond, List, [], ◌∷◌, length, take, drop, refl, ap, sym, ◌∙◌, arith, subst}
use Rattle.std.specs.Prelude.{slice_index}
use Rattle.std.proofs.lemmas.Bool.{eq-eqb, ne_eqb}
use Rattle.schedule_text.specs.Words.{trimmed, before_blank, from_blank, first_word}
use Rattle.schedule_text.specs.Reading.{IsFirstWord}

abbrev pub NoneBefore : ℕ → List ℕ → ℕ → Type 0
NoneBefore byte xs n = (k : ℕ) → k < n → slice_index xs k ≢ byte

-- n parts the text at its first blank
abbrev Parts : List ℕ → ℕ → Type 0
Parts xs n = (take n xs ≡ before_blank xs) × (drop n xs ≡ from_blank xs)

none_behind : (byte x : ℕ) (xs : List ℕ) (n : ℕ) → NoneBefore byte (x ∷ xs) (suc n) → NoneBefore byte xs n
none_behind byte x xs n h k p = h (suc k) (omega arith)

parts_at : (b : ℕ) (bs : List ℕ) → b ≡ 32 → Parts (b ∷ bs) 0
parts_at b bs e = (sym (ap (λ s. cond s [] (b ∷ before_blank bs)) (eq-eqb b 32 e)), sym (ap (λ s. cond s (b ∷ bs) (from_blank bs)) (eq-eqb b 32 e)))

parts_behind : (b : ℕ) (bs : List ℕ) (n : ℕ) → b ≢ 32 → Parts bs n → Parts (b ∷ bs) (suc n)
parts_behind b bs n e h = (
  ap (λ t. b ∷ t) h.0 ∙ sym (ap (λ s. cond s [] (b ∷ before_blank bs)) (ne_eqb b 32 e)),
  h.1 ∙ sym (ap (λ s. cond s (b ∷ bs) (from_blank bs)) (ne_eqb b 32 e)),
)

pub parts : (xs : List ℕ) (n : ℕ) → n ≤ length xs → NoneBefore 32 xs n → (n < length xs → slice_index xs n ≡ 32) → Parts xs n
parts [] zero within before found = (refl, refl)
parts [] (suc n) within before found = absurd (omega arith)
parts (b ∷ bs) zero within before found = parts_at b bs (found (omega arith))
parts (b ∷ bs) (suc n) within before found =
    parts_behind b bs n (before 0 (omega arith)) (parts bs n (omega arith) (none_behind 32 b bs n before) (λ p. found (omega arith)))

-- The rest after blanks begins with no blank.
abbrev Starts : List ℕ → Type 0
Starts [] = Unit {0}
Starts (b ∷ bs) = (b == 32) ≡ false

starts_case : (b : ℕ) (bs : List ℕ) (s : Bool) → (b == 32) ≡ s → Starts (trimmed bs) → Starts (cond s (trimmed bs) (b ∷ bs))
starts_case b bs true e h = h
starts_case b bs false e h = e

starts : (xs : List ℕ) → Starts (trimmed xs)
starts [] = tt
starts (b ∷ bs) = starts_case b bs (b == 32) refl (starts bs)

trimmed_of : (xs : List ℕ) → Starts xs → trimmed xs ≡ xs
trimmed_of [] h = refl
trimmed_of (b ∷ bs) h = ap (λ s. cond s (trimmed bs) (b ∷ bs)) h

pub trimmed_twice : (xs : List ℕ) → trimmed (trimmed xs) ≡ trimmed xs
trimmed_twice xs = trimmed_of (trimmed xs) (starts xs)

-- the first word is that of the line without the blanks in front
pub first_of_trimmed : (line word rest : List ℕ) → IsFirstWord (trimmed line) word rest → IsFirstWord line word rest
first_of_trimmed line word rest h = record {
  some = h.some;
  first = ap before_blank (sym (trimmed_twice line)) ∙ h.first;
  behind = h.behind ∙ ap (λ t. trimmed (from_blank t)) (trimmed_twice line);
}

some_before : (xs : List ℕ) → Starts xs → xs ≢ [] → before_blank xs ≢ []
some_before [] h k e = k refl
some_before (b ∷ bs) h k e = let g : b ∷ before_blank bs ≡ [] = sym (ap (λ s. cond s [] (b ∷ before_blank bs)) h) ∙ e in cc

pub next_word : (line left word behind rest : List ℕ) (n : ℕ)
    → left ≡ trimmed line → left ≢ []
    → n ≤ length left → NoneBefore 32 left n → (n < length left → slice_index left n ≡ 32)
    → word ≡ take n left → behind ≡ drop n left → rest ≡ trimmed behind
    → IsFirstWord line word rest
next_word line left word behind rest n e some within before found w b r =
    let p : Parts left n = parts left n within before found in
    let first : first_word line ≡ word = ap before_blank (sym e) ∙ sym p.0 ∙ sym w in
    record {
      some = λ none. some_before left (subst Starts (sym e) (starts line)) some (sym p.0 ∙ sym w ∙ none);
      first = first;
      behind = r ∙ ap trimmed (b ∙ p.1 ∙ ap from_blank e);
    }
