-- The characters of several bytes (RFC 3629, section 4), and hexadecimal digits.
use Rattle.std.proofs.Common.{◌≡◌, ℕ, ◌+◌, ◌-◌, ◌*◌, ◌/◌, ◌%◌, ◌<◌, ◌≤◌, nat_le, nat_lt, true, false, List, [], ◌∷◌}
use Rattle.std.proofs.Common.{◌++◌, refl, ap, sym, subst, ◌∙◌, arith, ◌⊎◌, inl, inr}
use Rattle.std.proofs.lemmas.Bool.{le-leb, lt-leb, leb-true, lt-ltb, le-ltb, ltb-true, and_from, and_parts, and_right}
use Rattle.std.proofs.lemmas.Bool.{or_cases, or_left, or_right, ne_eqb, cases_lt, cases_eq}
use Rattle.std.proofs.lemmas.Str.{encode_ascii}
use Rattle.std.proofs.Math.Utf8.{low_scalar}
use Rattle.std.specs.Char.{encode_utf8, IsScalar}
use Rattle.std.specs.List.{flat_map}
use Rattle.tuple_text.specs.Texts.{escaped, hex_digit, hex_pair}
use Rattle.tuple_text.specs.Literals.{is_hex, hex_value, is_between}

-- the codes of the characters of so many bytes
encode_two : (c : ℕ) → 128 ≤ c → c < 2048 → encode_utf8 c ≡ (192 + c / 64) ∷ (128 + c % 64) ∷ []
unfolding encode_utf8
encode_two c p q = rw (le-ltb c 128 p, lt-ltb c 2048 q) refl

encode_three : (c : ℕ) → 2048 ≤ c → c < 65536 → encode_utf8 c ≡ (224 + c / 4096) ∷ (128 + c / 64 % 64) ∷ (128 + c % 64) ∷ []
unfolding encode_utf8
encode_three c p q = rw (le-ltb c 128 (omega arith), le-ltb c 2048 p, lt-ltb c 65536 q) refl

encode_four : (c : ℕ) → 65536 ≤ c → encode_utf8 c ≡ (240 + c / 262144) ∷ (128 + c / 4096 % 64) ∷ (128 + c / 64 % 64) ∷ (128 + c % 64) ∷ []
unfolding encode_utf8
encode_four c p = rw (le-ltb c 128 (omega arith), le-ltb c 2048 (omega arith), le-ltb c 65536 p) refl

high_scalar : (c : ℕ) → 57344 ≤ c → c < 1114112 → IsScalar c
high_scalar c p q = rw (le-ltb c 55296 (omega arith), le-leb 57344 c p, lt-ltb c 1114112 q) refl

-- the character that has these bytes
abbrev pub IsEncoded : List ℕ → Type 0
IsEncoded t = (c : ℕ) × IsScalar c × (encode_utf8 c ≡ t)

pub encoded_one : (a : ℕ) → a < 128 → IsEncoded (a ∷ [])
encoded_one a p = (a, low_scalar a (omega arith), encode_ascii a p)

pub encoded_two : (a b : ℕ) → 194 ≤ a → a ≤ 223 → 128 ≤ b → b ≤ 191 → IsEncoded (a ∷ b ∷ [])
encoded_two a b p q r s =
    let c = (a - 192) * 64 + (b - 128) in
    let x : 192 + c / 64 ≡ a = omega arith in
    let y : 128 + c % 64 ≡ b = omega arith in
    (c, low_scalar c (omega arith), encode_two c (omega arith) (omega arith) ∙ ap (λ z. z ∷ (128 + c % 64) ∷ []) x ∙ ap (λ z. a ∷ z ∷ []) y)

pub encoded_three : (a b d : ℕ) → 224 ≤ a → a ≤ 239 → 128 ≤ b → b ≤ 191 → 128 ≤ d → d ≤ 191 → (a ≡ 224 → 160 ≤ b) → (a ≡ 237 → b ≤ 159) → IsEncoded (a ∷ b ∷ d ∷ [])
encoded_three a b d p q r s t u low high =
    let c = (a - 224) * 4096 + (b - 128) * 64 + (d - 128) in
    let x : 224 + c / 4096 ≡ a = omega (p, q, r, s, t, u, arith) in
    let y : 128 + c / 64 % 64 ≡ b = omega (p, q, r, s, t, u, arith) in
    let z : 128 + c % 64 ≡ d = omega (p, q, r, s, t, u, arith) in
    let m : 2048 ≤ c = elim (cases_eq a 224) [ inl h ↦ let k = low h in omega arith | inr h ↦ omega arith ] in
    let n : IsScalar c = elim (cases_lt c 55296) [
      | inl h ↦ low_scalar c h
      | inr h ↦ let k : 57344 ≤ c = elim (cases_eq a 237) [ inl e ↦ let k = high e in omega arith | inr e ↦ omega arith ] in high_scalar c k (omega arith)
    ] in
    (c, n, encode_three c m (omega arith) ∙ ap (λ v. v ∷ (128 + c / 64 % 64) ∷ (128 + c % 64) ∷ []) x ∙ ap (λ v. a ∷ v ∷ (128 + c % 64) ∷ []) y ∙ ap (λ v. a ∷ b ∷ v ∷ []) z)

pub encoded_four : (a b d e : ℕ) → 240 ≤ a → a ≤ 244 → 128 ≤ b → b ≤ 191 → 128 ≤ d → d ≤ 191 → 128 ≤ e → e ≤ 191 → (a ≡ 240 → 144 ≤ b) → (a ≡ 244 → b ≤ 143) → IsEncoded (a ∷ b ∷ d ∷ e ∷ [])
encoded_four a b d e p q r s t u v w low high =
    let c = (a - 240) * 262144 + (b - 128) * 4096 + (d - 128) * 64 + (e - 128) in
    let x : 240 + c / 262144 ≡ a = omega arith in
    let y : 128 + c / 4096 % 64 ≡ b = omega arith in
    let m : c / 64 ≡ (a - 240) * 4096 + (b - 128) * 64 + (d - 128) = omega arith in
    let z : 128 + c / 64 % 64 ≡ d = subst (λ n. 128 + n % 64 ≡ d) (sym m) (omega arith) in
    let k : 128 + c % 64 ≡ e = omega arith in
    let l : 65536 ≤ c = elim (cases_eq a 240) [ inl h ↦ let i = low h in omega arith | inr h ↦ omega arith ] in
    let n : c < 1114112 = elim (cases_eq a 244) [ inl h ↦ let i = high h in omega arith | inr h ↦ omega arith ] in (
      c,
      high_scalar c (omega arith) n,
      encode_four c l ∙ ap (λ v. v ∷ (128 + c / 4096 % 64) ∷ (128 + c / 64 % 64) ∷ (128 + c % 64) ∷ []) x
          ∙ ap (λ v. a ∷ v ∷ (128 + c / 64 % 64) ∷ (128 + c % 64) ∷ []) y ∙ ap (λ v. a ∷ b ∷ v ∷ (128 + c % 64) ∷ []) z ∙ ap (λ v. a ∷ b ∷ d ∷ v ∷ []) k,
    )

-- The bytes of each character are of one of these forms.
pub data Encoding (c : ℕ) : Type 0 where
  of_one : c < 128 → encode_utf8 c ≡ c ∷ [] → Encoding c
  of_two : (a b : ℕ) → 194 ≤ a → a ≤ 223 → 128 ≤ b → b ≤ 191 → encode_utf8 c ≡ a ∷ b ∷ [] → Encoding c
  of_three : (a b d : ℕ) → 224 ≤ a → a ≤ 239 → 128 ≤ b → b ≤ 191 → 128 ≤ d → d ≤ 191 → (a ≡ 224 → 160 ≤ b) → (a ≡ 237 → b ≤ 159) → encode_utf8 c ≡ a ∷ b ∷ d ∷ [] → Encoding c
  of_four : (a b d e : ℕ) → 240 ≤ a → a ≤ 244 → 128 ≤ b → b ≤ 191 → 128 ≤ d → d ≤ 191 → 128 ≤ e → e ≤ 191 → (a ≡ 240 → 144 ≤ b) → (a ≡ 244 → b ≤ 143) → encode_utf8 c ≡ a ∷ b ∷ d ∷ e ∷ [] → Encoding c

scalar_range : (c : ℕ) → IsScalar c → (c < 55296) ⊎ ((57344 ≤ c) × (c < 1114112))
scalar_range c h = elim (cases_lt c 55296) [
  | inl p ↦ inl p
  | inr p ↦ let k = and_parts (nat_le 57344 c) (nat_lt c 1114112) (rw (le-ltb c 55296 p) at h) in inr (leb-true 57344 c k.0, ltb-true c 1114112 k.1)
]

three_of : (c : ℕ) → 2048 ≤ c → c < 65536 → (c < 55296) ⊎ ((57344 ≤ c) × (c < 1114112)) → Encoding c
three_of c p q (inl r) = of_three (224 + c / 4096) (128 + c / 64 % 64) (128 + c % 64) (omega arith) (omega arith) (omega arith) (omega arith) (omega arith) (omega arith) (λ e. omega arith) (λ e. omega arith) (encode_three c p q)
three_of c p q (inr r) = of_three (224 + c / 4096) (128 + c / 64 % 64) (128 + c % 64) (omega arith) (omega arith) (omega arith) (omega arith) (omega arith) (omega arith) (λ e. omega arith) (λ e. omega (arith, r.0)) (encode_three c p q)

four_of : (c : ℕ) → 65536 ≤ c → c < 1114112 → Encoding c
four_of c p q =
    of_four (240 + c / 262144) (128 + c / 4096 % 64) (128 + c / 64 % 64) (128 + c % 64) (omega arith) (omega arith) (omega arith) (omega arith) (omega arith) (omega arith) (omega arith) (omega arith) (λ e. omega arith) (λ e. omega arith) (encode_four c p)

scalar_top : (c : ℕ) → (c < 55296) ⊎ ((57344 ≤ c) × (c < 1114112)) → c < 1114112
scalar_top c (inl p) = omega arith
scalar_top c (inr p) = p.1

pub encoding : (c : ℕ) → IsScalar c → Encoding c
encoding c h = elim (cases_lt c 128) [
  | inl p ↦ of_one p (encode_ascii c p)
  | inr p ↦ elim (cases_lt c 2048) [
    | inl q ↦ of_two (192 + c / 64) (128 + c % 64) (omega arith) (omega arith) (omega arith) (omega arith) (encode_two c p q)
    | inr q ↦ elim (cases_lt c 65536) [
      | inl r ↦ three_of c q r (scalar_range c h)
      | inr r ↦ four_of c r (scalar_top c (scalar_range c h))
    ]
  ]
]

-- ranges
pub between_is : (low high b : ℕ) → low ≤ b → b ≤ high → is_between low high b ≡ true
between_is low high b p q = and_from _ _ (le-leb low b p) (le-leb b high q)

pub between_parts : (low high b : ℕ) → is_between low high b ≡ true → (low ≤ b) × (b ≤ high)
between_parts low high b e = let p = and_parts (nat_le low b) (nat_le b high) e in (leb-true low b p.0, leb-true b high p.1)

pub above_between : (low high b : ℕ) → high < b → is_between low high b ≡ false
above_between low high b p = and_right (nat_le low b) (nat_le b high) (lt-leb b high p)

-- hexadecimal digits
pub hex_is : (b : ℕ) → is_hex b ≡ true → (hex_value b < 16) × (hex_digit (hex_value b) ≡ b)
hex_is b e = elim (or_cases (is_between 48 57 b) (is_between 97 102 b) e) [
  | inl h ↦
      let r = between_parts 48 57 b h in
      let v : hex_value b ≡ b - 48 = rw (lt-ltb b 58 (omega (arith, r.1))) refl in
      let d : 48 + (b - 48) ≡ b = omega (arith, r.0) in
      (omega (arith, v, r.1), ap hex_digit v ∙ (rw (lt-ltb (b - 48) 10 (omega (arith, r.0, r.1))) d))
  | inr h ↦
      let r = between_parts 97 102 b h in
      let v : hex_value b ≡ b - 87 = rw (le-ltb b 58 (omega (arith, r.0))) refl in
      let d : 87 + (b - 87) ≡ b = omega (arith, r.0) in
      (omega (arith, v, r.1), ap hex_digit v ∙ (rw (le-ltb (b - 87) 10 (omega (arith, r.0))) d))
]

pub digit_hex : (n : ℕ) → n < 16 → (is_hex (hex_digit n) ≡ true) × (hex_value (hex_digit n) ≡ n)
digit_hex n p = elim (cases_lt n 10) [
  | inl h ↦
      let d : hex_digit n ≡ 48 + n = rw (lt-ltb n 10 h) refl in
      let m : 48 + n - 48 ≡ n = omega arith in
      (ap is_hex d ∙ or_left (is_between 48 57 (48 + n)) (is_between 97 102 (48 + n)) (between_is 48 57 (48 + n) (omega arith) (omega arith)), ap hex_value d ∙ (rw (lt-ltb (48 + n) 58 (omega arith)) m))
  | inr h ↦
      let d : hex_digit n ≡ 87 + n = rw (le-ltb n 10 h) refl in
      let m : 87 + n - 87 ≡ n = omega arith in
      (ap is_hex d ∙ or_right (is_between 48 57 (87 + n)) (is_between 97 102 (87 + n)) (between_is 97 102 (87 + n) (omega arith) (omega arith)), ap hex_value d ∙ (rw (le-ltb (87 + n) 58 (omega arith)) m))
]

pub pair_of : (h l : ℕ) → l < 16 → hex_pair (h * 16 + l) ≡ hex_digit h ∷ hex_digit l ∷ []
pair_of h l p =
    let x : (h * 16 + l) / 16 ≡ h = omega arith in
    let y : (h * 16 + l) % 16 ≡ l = omega arith in
    ap (λ n. hex_digit n ∷ hex_digit ((h * 16 + l) % 16) ∷ []) x ∙ ap (λ n. hex_digit h ∷ hex_digit n ∷ []) y

-- escapes
pub escaped_plain : (b : ℕ) → 32 ≤ b → (b ≡ 34 → ⊥) → (b ≡ 92 → ⊥) → escaped b ≡ b ∷ []
escaped_plain b p q r = rw (ne_eqb b 34 q, ne_eqb b 92 r, ne_eqb b 10 (λ e. omega arith), le-ltb b 32 p) refl

pub escaped_number : (b : ℕ) → b < 32 → (b ≡ 10 → ⊥) → escaped b ≡ 92 ∷ 120 ∷ hex_pair b
escaped_number b p q = rw (ne_eqb b 34 (λ e. omega arith), ne_eqb b 92 (λ e. omega arith), ne_eqb b 10 q, lt-ltb b 32 p) refl

-- bytes of characters of several, which stand for themselves
abbrev pub AreHigh : List ℕ → Type 0
AreHigh [] = Unit {0}
AreHigh (b ∷ t) = (128 ≤ b) × AreHigh t

pub high_escaped : (t : List ℕ) → AreHigh t → flat_map escaped t ≡ t
high_escaped [] h = refl
high_escaped (b ∷ t) h = let n = h.0 in ap (λ w. w ++ flat_map escaped t) (escaped_plain b (omega arith) (λ e. omega arith) (λ e. omega arith)) ∙ ap (λ w. b ∷ w) (high_escaped t h.1)
