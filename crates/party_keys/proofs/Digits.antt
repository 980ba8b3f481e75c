-- The digits of a key, which no text in quotes escapes.
use Rattle.std.proofs.Common.{◌≡◌, ℕ, ◌+◌, ◌*◌, ◌/◌, ◌%◌, ◌<◌, ◌≤◌, suc, ◌==◌, ◌&&◌, ◌||◌, Bool, true, false, List, [], ◌∷◌, ◌++◌, length, get_or, arith, refl, ap, sym, ◌∙◌, append_assoc}
use Rattle.std.specs.Prelude.{All, nat_le, codes}
use Rattle.std.specs.List.{list_all, list_any}
use Rattle.std.proofs.lemmas.Bool.{and_parts}
use Rattle.std.proofs.lemmas.Bool.Decides.{nat_tests}
use Rattle.std.proofs.lemmas.List.Sums.{AllPass-from_list_all}
use Rattle.hex.specs.Hex.{IsBytes, encode_lower, encode_with, lower_digits}
use Rattle.toml_writer.specs.Text.{basic, encoded, encoding_of, escaped, has, is_control, needs_escape, quotes_after, string_text}

-- a digit, or one of the letters a to f
abbrev pub is_digit : ℕ → Bool
is_digit c = (nat_le 48 c && nat_le c 57) || (nat_le 97 c && nat_le c 102)

digit_at : (i : ℕ) → i < 16 → is_digit (get_or lower_digits i 0) ≡ true
digit_at i p = AllPass-from_list_all is_digit lower_digits refl i 0 p

pub all_digits : (xs : List ℕ) → IsBytes xs → list_all is_digit (encode_lower xs) ≡ true
unfolding encode_with
all_digits [] h = refl
all_digits (b ∷ rest) h =
    let fits : b < 256 = h 0 in
    let high : b / 16 < 16 = omega arith in
    let low : b % 16 < 16 = omega arith in
    rw (digit_at (b / 16) high, digit_at (b % 16) low) (all_digits rest (λ i. h (suc i)))

none_among : (p : ℕ → Bool) → ((c : ℕ) → is_digit c ≡ true → p c ≡ false) → (s : List ℕ) → list_all is_digit s ≡ true → list_any p s ≡ false
none_among p never [] h = refl
none_among p never (c ∷ cs) h = let both = and_parts (is_digit c) (list_all is_digit cs) h in rw (never c both.0) (none_among p never cs both.1)

no_control : (c : ℕ) → is_digit c ≡ true → is_control c ≡ false
no_control c h = grind (arith, nat_tests)

no_backslash : (c : ℕ) → is_digit c ≡ true → (c == 92) ≡ false
no_backslash c h = grind (arith, nat_tests)

no_quote : (c : ℕ) → is_digit c ≡ true → (c == 34) ≡ false
no_quote c h = grind (arith, nat_tests)

no_line_feed : (c : ℕ) → is_digit c ≡ true → (c == 10) ≡ false
no_line_feed c h = grind (arith, nat_tests)

no_escape : (c : ℕ) → is_digit c ≡ true → needs_escape false 0 c ≡ false
unfolding needs_escape
no_escape c h = grind (arith, nat_tests)

no_quotes : (c : ℕ) → is_digit c ≡ true → quotes_after false 0 c ≡ 0
unfolding quotes_after
no_quotes c h = rw (no_quote c h) refl

is_basic : (s : List ℕ) → list_all is_digit s ≡ true → encoding_of s ≡ basic
unfolding encoding_of
is_basic s h =
    rw (none_among is_control no_control s h, none_among (λ c. c == 92) no_backslash s h, none_among (λ c. c == 34) no_quote s h, none_among (λ c. c == 10) no_line_feed s h) refl

stays : (s : List ℕ) → list_all is_digit s ≡ true → escaped false 0 s ≡ s
unfolding escaped
stays [] h = refl
stays (c ∷ cs) h =
    let both = and_parts (is_digit c) (list_all is_digit cs) h in
    rw (no_escape c both.0, no_quotes c both.0) (ap (λ t. c ∷ t) (stays cs both.1))

-- digits stand between quotes as they are
pub in_quotes : (s : List ℕ) → list_all is_digit s ≡ true → string_text s ≡ 34 ∷ (s ++ 34 ∷ [])
unfolding string_text
in_quotes s h = rw (is_basic s h, stays s h) refl
