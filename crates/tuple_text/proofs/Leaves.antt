-- Reading the values and fields that are no lists.
use Rattle.std.proofs.Common.{◌≡◌, ℕ, ℤ, ◌+◌, ◌-◌, ◌≤◌, ◌==◌, Bool, true, false, cond, ◌||◌, List, [], ◌∷◌, ◌++◌, codes}
use Rattle.std.proofs.Common.{pos, negsuc, refl, ap, sym, subst, ◌∙◌, append_assoc, arith, ◌⊎◌, inl, inr, FitsSigned}
use Rattle.std.proofs.Common.{w64}
use Rattle.std.specs.Int.{w128}
use Rattle.std.proofs.lemmas.Bool.{eqb-true, ne_eqb, eq-eqb, or_cases, or_left, or_right}
use Rattle.std.proofs.lemmas.Fmt.{decimal_digit}
use Rattle.std.specs.Fmt.{decimal, signed_decimal}
use Rattle.tuple_tree.specs.Values.{Datum, number, text, bytes, truth, wide, Slot, actual, any, formal, IsDatum}
use Rattle.tuple_tree.specs.Values.{IsUtf8IfText, IsSlot, AreBytes}
use Rattle.tuple_tree.specs.declared.atoms.Kind.{Kind}
use Rattle.tuple_tree.specs.declared.atoms.Kind.TheVariants as kinds
use Rattle.std.proofs.lemmas.Str.{IsUtf8-nil}
use Rattle.std.specs.Str.{IsUtf8}
use Rattle.std.specs.List.{flat_map}
use Rattle.tuple_text.specs.Texts.{datum_text, slot_text, formal_text, escaped, hex_pair}
use Rattle.tuple_text.specs.Literals.{text_literal, bytes_literal, is_hex, NoHex}
use Rattle.tuple_text.proofs.LiteralTexts.{IsTextLiteral, BeginsTextLiteral, text_right, text_again}
use Rattle.tuple_text.proofs.LiteralBytes.{IsByteString, BeginsByteString, bytes_right, bytes_again}
use Rattle.tuple_text.specs.Reading.{Read, got, Reading, ◌>>=◌, look, nothing, named, word, MOST, MOST_WIDE, signed}
use Rattle.tuple_text.specs.Reading.{numeral, wide_numeral, quoted, byte_string, truth_or_number, datum, kind_b, kind_t}
use Rattle.tuple_text.specs.Reading.{kind, formal_slot, actual_slot, slot, begins_datum, begins_slot}
use Rattle.tuple_text.proofs.Right.{Limits, both, RightAs, Never, Found, then_right, look_right, nothing_right}
use Rattle.tuple_text.proofs.Numbers.{IsSigned, BeginsSigned, most_64, most_128, signed_right, signed_again}
use Rattle.tuple_text.proofs.Numbers.{signed_head, NoDigit, is_digit, digit_range, digit_is, ends_there}
use Rattle.tuple_text.proofs.Blanks.{IsWord, BeginsWord, word_right}

-- the bytes after an item of a list begin with a blank or a closing parenthesis
abbrev pub EndsItem : List ℕ → Type 0
EndsItem [] = ⊥
EndsItem (b ∷ bs) = (b ≡ 32) ⊎ (b ≡ 41)

module _ {L : Type 0} (leaf_text : L → List ℕ) (IsLeaf : L → Type 0) where
  abbrev pub IsText : L → List ℕ → Type 0
  IsText x w = (w ≡ leaf_text x) × IsLeaf x

  abbrev pub BeginsText : Limits → List ℕ → Type 0
  BeginsText c w = (x : L) × (u : List ℕ) × IsText x (w ++ u)

abbrev Gives : {V : Type 0} → V → V → List ℕ → Type 0
Gives x v w = (v ≡ x) × (w ≡ [])

given : {V : Type 0} → (x : V) (rest : List ℕ) → Found (Gives x) x rest rest
given x rest = record { passed = []; whole = refl; is = (refl, refl) }

-- a reading of F, whose value g then maps
pub mapped_right : {V W : Type 0} → (FirstFound : V → List ℕ → Type 0) (FirstBegins : Limits → List ℕ → Type 0) (F : W → List ℕ → Type 0) (B : Limits → List ℕ → Type 0) (g : V → W) (bs : List ℕ) (x : Read V)
    → ((c : Limits) (w : List ℕ) → FirstBegins c w → B c w) → ((v : V) (w : List ℕ) → FirstFound v w → F (g v) w) → RightAs FirstFound FirstBegins bs x → RightAs F B bs (x >>= λ v rest. got (g v) rest)
mapped_right FirstFound FirstBegins F B g bs x k f h =
    then_right FirstFound FirstBegins (λ v. Gives (g v)) (λ v c w. ⊥) F B bs x (λ v rest. got (g v) rest) k
    (λ v front i w t e. ends_there F (g v) w front t e.0 e.1 (f v front i))
    (λ v front i c t e. absurd e)
    h (λ v rest. given (g v) rest)

pub named_right : {V : Type 0} → (F : V → List ℕ → Type 0) (B : Limits → List ℕ → Type 0) (cs : List ℕ) (v : V) → F v cs → ((c : Limits) (w u : List ℕ) → w ++ u ≡ cs → B c w) → (bs : List ℕ) → RightAs F B bs (named cs v bs)
named_right F B cs v f b bs =
    mapped_right (IsWord cs) (BeginsWord cs) F B (λ _. v) bs (word cs bs) (λ c w h. b c w h.0 h.1) (λ _ w e. subst (F v) (sym e) f) (word_right cs bs)

-- A byte that passes the test is none that doesn't.
pub apart : (P : ℕ → Bool) (k b : ℕ) → P b ≡ true → P k ≡ false → (b == k) ≡ false
apart P k b h n = ne_eqb b k (λ e. let f : true ≡ false = sym h ∙ ap P e ∙ n in let g : ⊥ = cc in g)

pub look_other : {V : Type 0} → (c b : ℕ) (u : List ℕ) (f g : Reading V) → (b == c) ≡ false → look c f g (b ∷ u) ≡ g (b ∷ u)
look_other c b u f g e = ap (λ s. cond s (f (b ∷ u)) (g (b ∷ u))) e

abbrev IsDatumText : Datum → List ℕ → Type 0
IsDatumText = IsText datum_text IsDatum

abbrev BeginsDatum : Limits → List ℕ → Type 0
BeginsDatum = BeginsText datum_text IsDatum

numeral_right : (bs : List ℕ) → RightAs IsDatumText BeginsDatum bs (numeral bs)
unfolding numeral
numeral_right bs =
    mapped_right (IsSigned w64) (BeginsSigned w64) IsDatumText BeginsDatum number bs (signed MOST bs) (λ c w h. (number h.0, h.1, (h.2.0, h.2.1))) (λ n w h. h) (signed_right w64 MOST most_64 bs)

wide_right : (bs : List ℕ) → RightAs IsDatumText BeginsDatum bs (wide_numeral bs)
unfolding wide_numeral
wide_right bs =
    then_right (IsWord (codes "w")) (BeginsWord (codes "w")) (λ _ x w. IsDatumText x (119 ∷ w)) (λ _ c w. BeginsDatum c (119 ∷ w)) IsDatumText BeginsDatum bs (word (codes "w") bs) (λ _ rest. signed MOST_WIDE rest >>= λ n after. got (wide n) after)
    (λ c w h. (wide (pos 0), h.0 ++ decimal 0, (sym (append_assoc w h.0 (decimal 0)) ∙ ap (λ t. t ++ decimal 0) h.1, most_128.positive_fits 0 (omega arith))))
    (λ _ front e x w h. subst (λ t. IsDatumText x (t ++ w)) (sym e) h)
    (λ _ front e c w h. subst (λ t. BeginsDatum c (t ++ w)) (sym e) h)
    (word_right (codes "w") bs)
    (λ _ rest. mapped_right (IsSigned w128) (BeginsSigned w128) (λ x w. IsDatumText x (119 ∷ w)) (λ c w. BeginsDatum c (119 ∷ w)) wide rest (signed MOST_WIDE rest) (λ c w h. (wide h.0, h.1, (ap (λ t. 119 ∷ t) h.2.0, h.2.1))) (λ n w h. (ap (λ t. 119 ∷ t) h.0, h.1)) (signed_right w128 MOST_WIDE most_128 rest))

truth_right : (b : Bool) (bs : List ℕ) → RightAs IsDatumText BeginsDatum bs (named (datum_text (truth b)) (truth b) bs)
truth_right b bs = named_right IsDatumText BeginsDatum (datum_text (truth b)) (truth b) (refl, tt) (λ c w u e. (truth b, u, (e, tt))) bs

pub some_datum : BeginsDatum both []
some_datum = (truth true, codes "true", (refl, tt))

quoted_right : (bs : List ℕ) → RightAs IsDatumText BeginsDatum bs (quoted bs)
unfolding quoted
quoted_right bs = mapped_right IsTextLiteral BeginsTextLiteral IsDatumText BeginsDatum text bs (text_literal bs) (λ c w h. (text h.0, h.1, (h.2.0, h.2.1))) (λ s w h. h) (text_right bs)

byte_string_right : (bs : List ℕ) → RightAs IsDatumText BeginsDatum bs (byte_string bs)
unfolding byte_string
byte_string_right bs = mapped_right IsByteString BeginsByteString IsDatumText BeginsDatum bytes bs (bytes_literal bs) (λ c w h. (bytes h.0, h.1, (h.2.0, h.2.1))) (λ s w h. h) (bytes_right bs)

pub datum_right : (bs : List ℕ) → RightAs (IsText datum_text IsDatum) (BeginsText datum_text IsDatum) bs (datum bs)
unfolding datum
datum_right bs =
    look_right IsDatumText BeginsDatum Never 34 quoted (look 120 byte_string (look 119 wide_numeral truth_or_number)) some_datum quoted_right
    (look_right IsDatumText BeginsDatum Never 120 byte_string (look 119 wide_numeral truth_or_number) some_datum byte_string_right
    (look_right IsDatumText BeginsDatum Never 119 wide_numeral truth_or_number some_datum wide_right
    (look_right IsDatumText BeginsDatum Never 116 (named (codes "true") (truth true)) (look 102 (named (codes "false") (truth false)) numeral) some_datum (truth_right true)
    (look_right IsDatumText BeginsDatum Never 102 (named (codes "false") (truth false)) numeral some_datum (truth_right false) numeral_right)))) bs

utf8_if_text : (x : Datum) → IsDatum x → IsUtf8IfText x
utf8_if_text (text s) h = h
utf8_if_text x h = tt

-- A text that was read is UTF-8.
pub read_utf8_if_text : (bs : List ℕ) (x : Datum) (rest : List ℕ) → datum bs ≡ got x rest → IsUtf8IfText x
read_utf8_if_text bs x rest e =
    let f = subst (RightAs IsDatumText BeginsDatum bs) e (datum_right bs) in
    utf8_if_text x f.is.1

signed_starts : (c : Limits) (b : ℕ) → (b == 45 || is_digit b) ≡ true → BeginsSigned w64 c (b ∷ [])
signed_starts c b e = elim (or_cases (b == 45) (is_digit b) e) [
  | inl p ↦ (negsuc 0, decimal 1, (ap (λ d. d ∷ decimal 1) (eqb-true b 45 p), most_64.negative_fits 0 (omega arith)))
  | inr p ↦ let r = digit_range b p in
      (pos (b - 48), [], (sym (decimal_digit (b - 48) (omega (arith, r.0, r.1)) ∙ ap (λ d. d ∷ []) (let g : 48 + (b - 48) ≡ b = omega (arith, r.0) in g)), most_64.positive_fits (b - 48) (omega (arith, r.0, r.1))))
]

abbrev plain_begins : ℕ → Bool
plain_begins b = b == 116 || (b == 102 || (b == 45 || is_digit b))

pub datum_starts : (c : Limits) (b : ℕ) → begins_datum b ≡ true → BeginsText datum_text IsDatum c (b ∷ [])
datum_starts c b e = elim (or_cases (b == 34) (b == 120 || (b == 119 || plain_begins b)) e) [
  | inl p ↦ (text [], 34 ∷ [], (ap (λ d. d ∷ 34 ∷ []) (eqb-true b 34 p), IsUtf8-nil))
  | inr q ↦ elim (or_cases (b == 120) (b == 119 || plain_begins b) q) [
    | inl p ↦ (bytes [], [], (ap (λ d. d ∷ []) (eqb-true b 120 p), (λ i. omega arith)))
    | inr s ↦ elim (or_cases (b == 119) (plain_begins b) s) [
      | inl p ↦ (wide (pos 0), decimal 0, (ap (λ d. d ∷ decimal 0) (eqb-true b 119 p), most_128.positive_fits 0 (omega arith)))
      | inr r ↦ elim (or_cases (b == 116) (b == 102 || (b == 45 || is_digit b)) r) [
        | inl p ↦ (truth true, codes "rue", (ap (λ d. d ∷ codes "rue") (eqb-true b 116 p), tt))
        | inr q ↦ elim (or_cases (b == 102) (b == 45 || is_digit b) q) [
          | inl p ↦ (truth false, codes "alse", (ap (λ d. d ∷ codes "alse") (eqb-true b 102 p), tt))
          | inr p ↦ let h = signed_starts c b p in (number h.0, h.1, (h.2.0, h.2.1))
        ]
      ]
    ]
  ]
]

number_begins : (b : ℕ) → (b ≡ 45) ⊎ ((48 ≤ b) × (b ≤ 57)) → (b == 45 || is_digit b) ≡ true
number_begins b (inl e) = or_left (b == 45) (is_digit b) (eq-eqb b 45 e)
number_begins b (inr r) = or_right (b == 45) (is_digit b) (digit_is b r.0 r.1)

datum_begins : (b : ℕ) → (b == 45 || is_digit b) ≡ true → begins_datum b ≡ true
datum_begins b e =
    or_right (b == 34) (b == 120 || (b == 119 || plain_begins b)) (or_right (b == 120) (b == 119 || plain_begins b) (or_right (b == 119) (plain_begins b) (or_right (b == 116) (b == 102 || (b == 45 || is_digit b)) (or_right (b == 102) (b == 45 || is_digit b) e))))

-- the first byte of a text
pub datum_head : (x : Datum) → IsDatum x → (b : ℕ) × (t : List ℕ) × (datum_text x ≡ b ∷ t) × (begins_datum b ≡ true)
datum_head (number n) h = let k = signed_head w64 MOST most_64 n h in (k.0, k.1, k.2, datum_begins k.0 (number_begins k.0 k.3))
datum_head (text s) h = (34, flat_map escaped s ++ 34 ∷ [], refl, refl)
datum_head (bytes s) h = (120, flat_map hex_pair s, refl, refl)
datum_head (truth true) h = (116, codes "rue", refl, refl)
datum_head (truth false) h = (102, codes "alse", refl, refl)
datum_head (wide n) h = (119, signed_decimal n, refl, refl)

ends_no_digit : (u : List ℕ) → EndsItem u → NoDigit u
ends_no_digit [] h = tt
ends_no_digit (b ∷ u) (inl e) = ap is_digit e
ends_no_digit (b ∷ u) (inr e) = ap is_digit e

ends_no_hex : (u : List ℕ) → EndsItem u → NoHex u
ends_no_hex [] h = tt
ends_no_hex (b ∷ u) (inl e) = ap is_hex e
ends_no_hex (b ∷ u) (inr e) = ap is_hex e

at_number : (b : ℕ) (u : List ℕ) → (b == 45 || is_digit b) ≡ true → datum (b ∷ u) ≡ numeral (b ∷ u)
unfolding datum
at_number b u e =
    look_other 34 b u quoted (look 120 byte_string (look 119 wide_numeral truth_or_number)) (apart (λ b. b == 45 || is_digit b) 34 b e refl)
    ∙ look_other 120 b u byte_string (look 119 wide_numeral truth_or_number) (apart (λ b. b == 45 || is_digit b) 120 b e refl)
    ∙ look_other 119 b u wide_numeral truth_or_number (apart (λ b. b == 45 || is_digit b) 119 b e refl)
    ∙ look_other 116 b u (named (codes "true") (truth true)) (look 102 (named (codes "false") (truth false)) numeral) (apart (λ b. b == 45 || is_digit b) 116 b e refl)
    ∙ look_other 102 b u (named (codes "false") (truth false)) numeral (apart (λ b. b == 45 || is_digit b) 102 b e refl)

quoted_again : (s u : List ℕ) → IsUtf8 s → datum (datum_text (text s) ++ u) ≡ got (text s) u
unfolding datum quoted
quoted_again s u h = ap (λ y. y >>= λ s rest. got (text s) rest) (text_again s u h)

byte_string_again : (s u : List ℕ) → AreBytes s → NoHex u → datum (datum_text (bytes s) ++ u) ≡ got (bytes s) u
unfolding datum byte_string
byte_string_again s u h k = ap (λ y. y >>= λ s rest. got (bytes s) rest) (bytes_again s u h k)

true_again : (u : List ℕ) → datum (codes "true" ++ u) ≡ got (truth true) u
unfolding datum
true_again u = refl

false_again : (u : List ℕ) → datum (codes "false" ++ u) ≡ got (truth false) u
unfolding datum
false_again u = refl

wide_again : (n : ℤ) (u : List ℕ) → FitsSigned w128 n → NoDigit u → datum (datum_text (wide n) ++ u) ≡ got (wide n) u
unfolding datum wide_numeral
wide_again n u h k = ap (λ y. y >>= λ n rest. got (wide n) rest) (signed_again w128 MOST_WIDE most_128 n u h k)

numeral_reads : (t u : List ℕ) → numeral (t ++ u) ≡ (signed MOST (t ++ u) >>= λ n rest. got (number n) rest)
unfolding numeral
numeral_reads t u = refl

pub datum_again : (x : Datum) (u : List ℕ) → IsDatum x → EndsItem u → datum (datum_text x ++ u) ≡ got x u
datum_again (number n) u h k =
    let d = signed_head w64 MOST most_64 n h in
    let e = ap (λ s. s ++ u) d.2 in
    ap datum e ∙ at_number d.0 (d.1 ++ u) (number_begins d.0 d.3) ∙ ap numeral (sym e) ∙ numeral_reads (datum_text (number n)) u
    ∙ ap (λ y. y >>= λ n rest. got (number n) rest) (signed_again w64 MOST most_64 n u h (ends_no_digit u k))
datum_again (text s) u h k = quoted_again s u h
datum_again (bytes s) u h k = byte_string_again s u h (ends_no_hex u k)
datum_again (truth true) u h k = true_again u
datum_again (truth false) u h k = false_again u
datum_again (wide n) u h k = wide_again n u h (ends_no_digit u k)

-- The names of the kinds; pre are the bytes passed before.
abbrev KindIs : List ℕ → Kind → List ℕ → Type 0
KindIs pre k w = pre ++ w ≡ formal_text k

abbrev BeginsKind : List ℕ → Limits → List ℕ → Type 0
BeginsKind pre c w = (k : Kind) × (u : List ℕ) × (pre ++ (w ++ u) ≡ formal_text k)

kind_named : (pre cs : List ℕ) (k : Kind) → pre ++ cs ≡ formal_text k → (bs : List ℕ) → RightAs (KindIs pre) (BeginsKind pre) bs (named cs k bs)
kind_named pre cs k e bs = named_right (KindIs pre) (BeginsKind pre) cs k e (λ c w u h. (k, u, ap (λ t. pre ++ t) h ∙ e)) bs

kind_behind : (pre cs : List ℕ) (f : Reading Kind) (k : Kind) (v : List ℕ) → (pre ++ cs) ++ v ≡ formal_text k → ((bs : List ℕ) → RightAs (KindIs (pre ++ cs)) (BeginsKind (pre ++ cs)) bs (f bs))
    → (bs : List ℕ) → RightAs (KindIs pre) (BeginsKind pre) bs (word cs bs >>= λ _ rest. f rest)
kind_behind pre cs f k v some h bs =
    then_right (IsWord cs) (BeginsWord cs) (λ _. KindIs (pre ++ cs)) (λ _. BeginsKind (pre ++ cs)) (KindIs pre) (BeginsKind pre) bs (word cs bs) (λ _ rest. f rest)
    (λ c w m. (k, m.0 ++ v, ap (λ t. pre ++ t) (sym (append_assoc w m.0 v) ∙ ap (λ t. t ++ v) m.1) ∙ sym (append_assoc pre cs v) ∙ some))
    (λ _ front e x w m. ap (λ t. pre ++ (t ++ w)) e ∙ sym (append_assoc pre cs w) ∙ m)
    (λ _ front e c w m. (m.0, m.1, ap (λ t. pre ++ t) (append_assoc front w m.1 ∙ ap (λ t. t ++ (w ++ m.1)) e) ∙ sym (append_assoc pre cs (w ++ m.1)) ∙ m.2))
    (word_right cs bs) (λ _ rest. h rest)

kind_b_right : (bs : List ℕ) → RightAs (KindIs (codes "?")) (BeginsKind (codes "?")) bs (kind_b bs)
unfolding kind_b
kind_b_right bs =
    kind_behind (codes "?") (codes "b") (look 121 (named (codes "ytes") kinds.Bytes) (named (codes "ool") kinds.Truth)) kinds.Bytes (codes "ytes") refl
    (look_right (KindIs (codes "?b")) (BeginsKind (codes "?b")) Never 121 (named (codes "ytes") kinds.Bytes) (named (codes "ool") kinds.Truth) (kinds.Bytes, codes "ytes", refl)
    (kind_named (codes "?b") (codes "ytes") kinds.Bytes refl) (kind_named (codes "?b") (codes "ool") kinds.Truth refl)) bs

kind_t_right : (bs : List ℕ) → RightAs (KindIs (codes "?")) (BeginsKind (codes "?")) bs (kind_t bs)
unfolding kind_t
kind_t_right bs =
    kind_behind (codes "?") (codes "t") (look 101 (named (codes "ext") kinds.Text) (named (codes "uple") kinds.Tuple)) kinds.Text (codes "ext") refl
    (look_right (KindIs (codes "?t")) (BeginsKind (codes "?t")) Never 101 (named (codes "ext") kinds.Text) (named (codes "uple") kinds.Tuple) (kinds.Text, codes "ext", refl)
    (kind_named (codes "?t") (codes "ext") kinds.Text refl) (kind_named (codes "?t") (codes "uple") kinds.Tuple refl)) bs

some_kind : BeginsKind (codes "?") both []
some_kind = (kinds.Number, codes "int", refl)

abbrev kind_w : Reading Kind
kind_w = look 119 (named (codes "wide") kinds.Wide) nothing

kind_right : (bs : List ℕ) → RightAs (KindIs (codes "?")) (BeginsKind (codes "?")) bs (kind bs)
unfolding kind
kind_right bs =
    look_right (KindIs (codes "?")) (BeginsKind (codes "?")) Never 105 (named (codes "int") kinds.Number) (look 98 kind_b (look 116 kind_t kind_w)) some_kind (kind_named (codes "?") (codes "int") kinds.Number refl)
    (look_right (KindIs (codes "?")) (BeginsKind (codes "?")) Never 98 kind_b (look 116 kind_t kind_w) some_kind kind_b_right
    (look_right (KindIs (codes "?")) (BeginsKind (codes "?")) Never 116 kind_t kind_w some_kind kind_t_right
    (look_right (KindIs (codes "?")) (BeginsKind (codes "?")) Never 119 (named (codes "wide") kinds.Wide) nothing some_kind (kind_named (codes "?") (codes "wide") kinds.Wide refl)
    (nothing_right (KindIs (codes "?")) (BeginsKind (codes "?")) Never some_kind)))) bs

abbrev IsSlotText : Slot → List ℕ → Type 0
IsSlotText = IsText slot_text IsSlot

abbrev BeginsSlot : Limits → List ℕ → Type 0
BeginsSlot = BeginsText slot_text IsSlot

formal_right : (bs : List ℕ) → RightAs IsSlotText BeginsSlot bs (formal_slot bs)
unfolding formal_slot
formal_right bs =
    then_right (IsWord (codes "?")) (BeginsWord (codes "?")) (λ _ x w. IsSlotText x (63 ∷ w)) (λ _ c w. BeginsSlot c (63 ∷ w)) IsSlotText BeginsSlot bs (word (codes "?") bs) (λ _ rest. kind rest >>= λ k after. got (formal k) after)
    (λ c w h. (formal kinds.Number, h.0 ++ codes "int", (sym (append_assoc w h.0 (codes "int")) ∙ ap (λ t. t ++ codes "int") h.1, tt)))
    (λ _ front e x w h. subst (λ t. IsSlotText x (t ++ w)) (sym e) h)
    (λ _ front e c w h. subst (λ t. BeginsSlot c (t ++ w)) (sym e) h)
    (word_right (codes "?") bs)
    (λ _ rest. mapped_right (KindIs (codes "?")) (BeginsKind (codes "?")) (λ x w. IsSlotText x (63 ∷ w)) (λ c w. BeginsSlot c (63 ∷ w)) formal rest (kind rest) (λ c w h. (formal h.0, h.1, (h.2, tt))) (λ k w h. (h, tt)) (kind_right rest))

actual_right : (bs : List ℕ) → RightAs IsSlotText BeginsSlot bs (actual_slot bs)
unfolding actual_slot
actual_right bs = mapped_right IsDatumText BeginsDatum IsSlotText BeginsSlot actual bs (datum bs) (λ c w h. (actual h.0, h.1, h.2)) (λ x w h. h) (datum_right bs)

pub some_slot : BeginsSlot both []
some_slot = (any, codes "*", (refl, tt))

pub slot_right : (bs : List ℕ) → RightAs (IsText slot_text IsSlot) (BeginsText slot_text IsSlot) bs (slot bs)
unfolding slot
slot_right bs =
    look_right IsSlotText BeginsSlot Never 42 (named (codes "*") any) (look 63 formal_slot actual_slot) some_slot
    (named_right IsSlotText BeginsSlot (codes "*") any (refl, tt) (λ c w u e. (any, u, (e, tt))))
    (look_right IsSlotText BeginsSlot Never 63 formal_slot actual_slot some_slot formal_right actual_right) bs

pub slot_starts : (c : Limits) (b : ℕ) → begins_slot b ≡ true → BeginsText slot_text IsSlot c (b ∷ [])
slot_starts c b e = elim (or_cases (b == 42) (b == 63 || begins_datum b) e) [
  | inl p ↦ (any, [], (ap (λ d. d ∷ []) (eqb-true b 42 p), tt))
  | inr q ↦ elim (or_cases (b == 63) (begins_datum b) q) [
    | inl p ↦ (formal kinds.Number, codes "int", (ap (λ d. d ∷ codes "int") (eqb-true b 63 p), tt))
    | inr p ↦ let h = datum_starts c b p in (actual h.0, h.1, h.2)
  ]
]

slot_begins : (b : ℕ) → begins_datum b ≡ true → begins_slot b ≡ true
slot_begins b e = or_right (b == 42) (b == 63 || begins_datum b) (or_right (b == 63) (begins_datum b) e)

pub slot_head : (x : Slot) → IsSlot x → (b : ℕ) × (t : List ℕ) × (slot_text x ≡ b ∷ t) × (begins_slot b ≡ true)
slot_head (actual x) h = let k = datum_head x h in (k.0, k.1, k.2, slot_begins k.0 k.3)
slot_head any h = (42, [], refl, refl)
slot_head (formal kinds.Number) h = (63, codes "int", refl, refl)
slot_head (formal kinds.Text) h = (63, codes "text", refl, refl)
slot_head (formal kinds.Bytes) h = (63, codes "bytes", refl, refl)
slot_head (formal kinds.Truth) h = (63, codes "bool", refl, refl)
slot_head (formal kinds.Tuple) h = (63, codes "tuple", refl, refl)
slot_head (formal kinds.Wide) h = (63, codes "wide", refl, refl)

any_again : (u : List ℕ) → slot (codes "*" ++ u) ≡ got any u
unfolding slot
any_again u = refl

formal_again : (k : Kind) (u : List ℕ) → slot (formal_text k ++ u) ≡ got (formal k) u
unfolding slot formal_slot kind kind_b kind_t
formal_again kinds.Number u = refl
formal_again kinds.Text u = refl
formal_again kinds.Bytes u = refl
formal_again kinds.Truth u = refl
formal_again kinds.Tuple u = refl
formal_again kinds.Wide u = refl

at_datum : (b : ℕ) (u : List ℕ) → begins_datum b ≡ true → slot (b ∷ u) ≡ (datum (b ∷ u) >>= λ x rest. got (actual x) rest)
unfolding slot actual_slot
at_datum b u e =
    look_other 42 b u (named (codes "*") any) (look 63 formal_slot actual_slot) (apart begins_datum 42 b e refl)
    ∙ look_other 63 b u formal_slot actual_slot (apart begins_datum 63 b e refl)

pub slot_again : (x : Slot) (u : List ℕ) → IsSlot x → EndsItem u → slot (slot_text x ++ u) ≡ got x u
slot_again (actual x) u h k =
    let d = datum_head x h in
    let e = ap (λ s. s ++ u) d.2 in
    ap slot e ∙ at_datum d.0 (d.1 ++ u) d.3 ∙ ap (λ s. datum s >>= λ x rest. got (actual x) rest) (sym e) ∙ ap (λ y. y >>= λ x rest. got (actual x) rest) (datum_again x u h k)
slot_again any u h k = any_again u
slot_again (formal k) u h m = formal_again k u
