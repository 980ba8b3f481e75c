-- Readers of the literals of texts and byte strings at the front of bytes.
use Rattle.std.specs.Prelude.{ℕ, ◌+◌, ◌-◌, ◌*◌, ◌<◌, ◌==◌, nat_le, nat_lt, ◌≡◌, Bool, true, false, not, ◌&&◌, ◌||◌}
use Rattle.std.specs.Prelude.{if◌then◌else◌, List, [], ◌∷◌, ◌++◌, length, slice_index, Option, None, Some}
use Rattle.tuple_text.specs.Read.{got, stop, Reading}
use Rattle.tuple_text.specs.declared.reader.Stop.TheVariants.{BadByte}
use Rattle.tuple_text.specs.declared.literals.Expected.{Expected}
use Rattle.tuple_text.specs.declared.literals.Expected.TheVariants.{Character, Escape, FirstDigit, DigitBehindZero}
use Rattle.tuple_text.specs.declared.literals.Expected.TheVariants.{DigitBehindOne, OneByte, TwoBytes, ThreeBytes}
use Rattle.tuple_text.specs.declared.literals.Expected.TheVariants.{BytesBehindE0, BytesBehindEd, BytesBehindF0}
use Rattle.tuple_text.specs.declared.literals.Expected.TheVariants.{BytesBehindF4}
use Rattle.tuple_text.specs.declared.literals.Step.{Step}
use Rattle.tuple_text.specs.declared.literals.Step.TheVariants.{Refused, Ends, Passes, Adds}

-- a lower case hexadecimal digit, and its value
abbrev pub is_hex : ℕ → Bool
is_hex b = (nat_le 48 b && nat_le b 57) || (nat_le 97 b && nat_le b 102)

abbrev pub hex_value : ℕ → ℕ
hex_value b = if nat_lt b 58 then b - 48 else b - 87

abbrev pub is_between : ℕ → ℕ → ℕ → Bool
is_between low high b = nat_le low b && nat_le b high

-- a byte of a character in this range
abbrev pub continued : ℕ → ℕ → Expected → ℕ → Step
continued low high e b = if is_between low high b then Adds b e else Refused

-- the first byte of a character of several (RFC 3629, section 4)
abbrev pub led : ℕ → Step
led b =
    if is_between 194 223 b then Adds b OneByte
    else (if b == 224 then Adds b BytesBehindE0
    else (if b == 237 then Adds b BytesBehindEd
    else (if is_between 225 239 b then Adds b TwoBytes
    else (if b == 240 then Adds b BytesBehindF0
    else (if is_between 241 243 b then Adds b ThreeBytes
    else (if b == 244 then Adds b BytesBehindF4 else Refused))))))

-- the effect of a byte if this is expected
abbrev pub step : Expected → ℕ → Step
step Character b =
    if b == 34 then Ends
    else (if b == 92 then Passes Escape
    else (if is_between 32 127 b then Adds b Character else led b))
step Escape b =
    if b == 34 then Adds 34 Character
    else (if b == 92 then Adds 92 Character
    else (if b == 110 then Adds 10 Character
    else (if b == 120 then Passes FirstDigit else Refused)))
step FirstDigit b = if b == 48 then Passes DigitBehindZero else (if b == 49 then Passes DigitBehindOne else Refused)
step DigitBehindZero b = if b == 97 then Refused else (if is_hex b then Adds (hex_value b) Character else Refused)
step DigitBehindOne b = if is_hex b then Adds (16 + hex_value b) Character else Refused
step OneByte b = continued 128 191 Character b
step TwoBytes b = continued 128 191 OneByte b
step ThreeBytes b = continued 128 191 TwoBytes b
step BytesBehindE0 b = continued 160 191 OneByte b
step BytesBehindEd b = continued 128 159 OneByte b
step BytesBehindF0 b = continued 144 191 TwoBytes b
step BytesBehindF4 b = continued 128 143 TwoBytes b

-- the result of reading after a step; s are the bytes read before
abbrev pub stepped : {V : Type 0} → Step → List ℕ → V → V → (Expected → List ℕ → V) → V
stepped Refused s refused ended on = refused
stepped Ends s refused ended on = ended
stepped (Passes e) s refused ended on = on e s
stepped (Adds v e) s refused ended on = on e (s ++ v ∷ [])

-- the rest of a text; s are the bytes read before
abbrev pub text_from : Expected → List ℕ → Reading (List ℕ)
text_from e s [] = stop BadByte []
text_from e s (b ∷ bs) = stepped (step e b) s (stop BadByte (b ∷ bs)) (got s bs) (λ f t. text_from f t bs)

-- the rest of a text after its first quote
abbrev pub text_rest : Reading (List ℕ)
text_rest bs = text_from Character [] bs

-- whether a byte stands for itself in a text
abbrev pub is_plain : ℕ → Bool
is_plain b = is_between 32 127 b && not (b == 34 || b == 92)

-- The bytes are passed as the front of a text.
abbrev pub PassesPlain : List ℕ → List ℕ → List ℕ → Type 0
PassesPlain s old new = text_from Character s new ≡ text_from Character [] old

unfoldable pub text_literal : Reading (List ℕ)
text_literal [] = stop BadByte []
text_literal (b ∷ bs) = if b == 34 then text_rest bs else stop BadByte (b ∷ bs)

-- Each is a hexadecimal digit.
abbrev pub AreHex : List ℕ → Type 0
AreHex bs = (k : ℕ) → k < length bs → is_hex (slice_index bs k) ≡ true

-- No hexadecimal digit stands at the front.
abbrev pub NoHex : List ℕ → Type 0
NoHex [] = Unit {0}
NoHex (b ∷ bs) = is_hex b ≡ false

-- the rest of a byte string; s are the bytes read before, and high perhaps the first digit of a pair
abbrev pub digit_pairs : List ℕ → Option ℕ → Reading (List ℕ)
digit_pairs s None [] = got s []
digit_pairs s None (b ∷ bs) = if is_hex b then digit_pairs s (Some (hex_value b)) bs else got s (b ∷ bs)
digit_pairs s (Some high) [] = stop BadByte []
digit_pairs s (Some high) (b ∷ bs) =
    if is_hex b then digit_pairs (s ++ (high * 16 + hex_value b) ∷ []) None bs
    else stop BadByte (b ∷ bs)

-- The digits are passed as the front of a byte string, and spell these bytes.
abbrev pub PassesPairs : List ℕ → List ℕ → Type 0
PassesPairs s digits = (rest : List ℕ) → digit_pairs [] None (digits ++ rest) ≡ digit_pairs s None rest

unfoldable pub bytes_literal : Reading (List ℕ)
bytes_literal [] = stop BadByte []
bytes_literal (b ∷ bs) = if b == 120 then digit_pairs [] None bs else stop BadByte (b ∷ bs)
