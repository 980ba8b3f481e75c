-- Reading text literals.
use Rattle.std.proofs.Common.{◌≡◌, ℕ, ◌+◌, ◌*◌, ◌/◌, ◌%◌, ◌<◌, ◌≤◌, ◌==◌, nat_lt, Bool, true, false, cond, List, []}
use Rattle.std.proofs.Common.{◌∷◌, ◌++◌, refl, ap, sym, subst, ◌∙◌, append_assoc, append-nil, arith, ◌⊎◌, inl, inr}
use Rattle.std.proofs.lemmas.Bool.{eqb-true, eqb-false, ne_eqb, and_from, and_parts, cond_both, cases_lt, ltb-true}
use Rattle.std.proofs.lemmas.Bool.{ltb-false, cases_eq}
use Rattle.std.proofs.lemmas.Grind.{flat_map-append}
use Rattle.std.specs.Char.{encode_utf8}
use Rattle.std.specs.Str.{IsUtf8, all_scalars, encode_utf8_all}
use Rattle.std.specs.List.{flat_map}
use Rattle.tuple_tree.specs.Values.{text}
use Rattle.tuple_text.specs.Texts.{escaped, hex_digit, hex_pair, datum_text}
use Rattle.tuple_text.specs.Read.{got, stop}
use Rattle.tuple_text.specs.Literals.{is_hex, hex_value, is_between, continued, led, step, stepped, text_from}
use Rattle.tuple_text.specs.Literals.{text_literal}
use Rattle.tuple_text.specs.declared.reader.Stop.TheVariants.{BadByte}
use Rattle.tuple_text.specs.declared.literals.Expected.{Expected}
use Rattle.tuple_text.specs.declared.literals.Expected.TheVariants.{Character, Escape, FirstDigit, DigitBehindZero}
use Rattle.tuple_text.specs.declared.literals.Expected.TheVariants.{DigitBehindOne, OneByte, TwoBytes, ThreeBytes}
use Rattle.tuple_text.specs.declared.literals.Expected.TheVariants.{BytesBehindE0, BytesBehindEd, BytesBehindF0}
use Rattle.tuple_text.specs.declared.literals.Expected.TheVariants.{BytesBehindF4}
use Rattle.tuple_text.specs.declared.literals.Step.{Step}
use Rattle.tuple_text.specs.declared.literals.Step.TheVariants.{Refused, Ends, Passes, Adds}
use Rattle.tuple_text.proofs.Right.{Limits, both, RightAs, Stuck, right_on}
use Rattle.tuple_text.proofs.Local.{LocalAs, IsLocal, local_got, local_stop, local_look, local_pass, local_empty}
use Rattle.tuple_text.proofs.Local.{local_test}
use Rattle.tuple_text.proofs.LiteralCharacters.{IsEncoded, encoded_one, encoded_two, encoded_three, encoded_four}
use Rattle.tuple_text.proofs.LiteralCharacters.{Encoding, of_one, of_two, of_three, of_four, encoding, between_is}
use Rattle.tuple_text.proofs.LiteralCharacters.{between_parts, above_between, hex_is, digit_hex, pair_of, escaped_plain}
use Rattle.tuple_text.proofs.LiteralCharacters.{escaped_number, AreHigh, high_escaped}

-- nothing is passed
pub stuck_first : (B : Limits → List ℕ → Type 0) (bs : List ℕ) → B both [] → Stuck B BadByte bs bs
stuck_first B bs h = record { passed = []; whole = refl; begins = h; decides = tt }

-- a character's bytes, and how a text spells it
abbrev IsSpelled : List ℕ → List ℕ → Type 0
IsSpelled t w = IsEncoded t × (w ≡ flat_map escaped t)

low_spelled : (b : ℕ) (t w : List ℕ) → b < 128 → t ≡ b ∷ [] → w ≡ escaped b → IsSpelled t w
low_spelled b t w p e f = (subst IsEncoded (sym e) (encoded_one b p), f ∙ sym (ap (flat_map escaped) e ∙ append-nil (escaped b)))

high_spelled : (t w : List ℕ) → IsEncoded t → AreHigh t → w ≡ t → IsSpelled t w
high_spelled t w c h e = (c, e ∙ sym (high_escaped t h))

-- the first byte lies in this range, and P holds of the others
abbrev InRange : ℕ → ℕ → (List ℕ → Type 0) → List ℕ → Type 0
InRange low high P [] = ⊥
InRange low high P (b ∷ t) = (low ≤ b) × (b ≤ high) × P t

abbrev Nothing : List ℕ → Type 0
Nothing [] = Unit {0}
Nothing (b ∷ t) = ⊥

abbrev One : ℕ → ℕ → List ℕ → Type 0
One low high = InRange low high Nothing

abbrev Two : ℕ → ℕ → List ℕ → Type 0
Two low high = InRange low high (One 128 191)

abbrev Three : ℕ → ℕ → List ℕ → Type 0
Three low high = InRange low high (Two 128 191)

-- The rest of an escaped character, after front.
abbrev LeftOfEscape : List ℕ → List ℕ → List ℕ → Type 0
LeftOfEscape front t w = (b : ℕ) × (b < 128) × (t ≡ b ∷ []) × (escaped b ≡ front ++ w)

-- The possible rests of a character if this is expected: bytes of the text, and their spelling.
abbrev LeftOf : Expected → List ℕ → List ℕ → Type 0
LeftOf Character t w = (t ≡ []) × (w ≡ [])
LeftOf Escape t w = LeftOfEscape (92 ∷ []) t w
LeftOf FirstDigit t w = LeftOfEscape (92 ∷ 120 ∷ []) t w
LeftOf DigitBehindZero t w = LeftOfEscape (92 ∷ 120 ∷ 48 ∷ []) t w
LeftOf DigitBehindOne t w = LeftOfEscape (92 ∷ 120 ∷ 49 ∷ []) t w
LeftOf OneByte t w = (w ≡ t) × One 128 191 t
LeftOf TwoBytes t w = (w ≡ t) × Two 128 191 t
LeftOf ThreeBytes t w = (w ≡ t) × Three 128 191 t
LeftOf BytesBehindE0 t w = (w ≡ t) × Two 160 191 t
LeftOf BytesBehindEd t w = (w ≡ t) × Two 128 159 t
LeftOf BytesBehindF0 t w = (w ≡ t) × Three 144 191 t
LeftOf BytesBehindF4 t w = (w ≡ t) × Three 128 143 t

-- the same, but a whole character if one is expected
abbrev More : Expected → List ℕ → List ℕ → Type 0
More Character t w = IsSpelled t w
More e t w = LeftOf e t w

abbrev Closes : Expected → ℕ → Type 0
Closes Character b = b ≡ 34
Closes e b = ⊥

-- the meaning of a step
abbrev Means : Expected → ℕ → Step → Type 0
Means e b Refused = Unit {0}
Means e b Ends = Closes e b
Means e b (Passes f) = (t w : List ℕ) → LeftOf f t w → More e t (b ∷ w)
Means e b (Adds v f) = (t w : List ℕ) → LeftOf f t w → More e (v ∷ t) (b ∷ w)

led_two : (b : ℕ) (t w : List ℕ) → 194 ≤ b → b ≤ 223 → w ≡ t → One 128 191 t → IsSpelled (b ∷ t) (b ∷ w)
led_two b [] w p q e h = absurd h
led_two b (x ∷ []) w p q e h =
    high_spelled (b ∷ x ∷ []) (b ∷ w) (encoded_two b x p q h.0 h.1) (omega arith, (h.0, tt)) (ap (λ s. b ∷ s) e)
led_two b (x ∷ y ∷ t) w p q e h = absurd h.2

led_three : (low high b : ℕ) (t w : List ℕ) → 224 ≤ b → b ≤ 239 → 128 ≤ low → high ≤ 191 → (b ≡ 224 → 160 ≤ low) → (b ≡ 237 → high ≤ 159) → w ≡ t → Two low high t → IsSpelled (b ∷ t) (b ∷ w)
led_three low high b [] w p q l u k m e h = absurd h
led_three low high b (x ∷ []) w p q l u k m e h = absurd h.2
led_three low high b (x ∷ y ∷ []) w p q l u k m e h =
    let g = h.2 in
    let r = h.0 in
    let s = h.1 in
    high_spelled (b ∷ x ∷ y ∷ []) (b ∷ w)
    (encoded_three b x y p q (omega arith) (omega arith) g.0 g.1 (λ i. let j = k i in omega arith) (λ i. let j = m i in omega arith))
    (omega arith, (omega arith, (g.0, tt))) (ap (λ s. b ∷ s) e)
led_three low high b (x ∷ y ∷ z ∷ t) w p q l u k m e h = absurd h.2.2

led_four : (low high b : ℕ) (t w : List ℕ) → 240 ≤ b → b ≤ 244 → 128 ≤ low → high ≤ 191 → (b ≡ 240 → 144 ≤ low) → (b ≡ 244 → high ≤ 143) → w ≡ t → Three low high t → IsSpelled (b ∷ t) (b ∷ w)
led_four low high b [] w p q l u k m e h = absurd h
led_four low high b (x ∷ []) w p q l u k m e h = absurd h.2
led_four low high b (x ∷ y ∷ []) w p q l u k m e h = absurd h.2.2
led_four low high b (x ∷ y ∷ z ∷ []) w p q l u k m e h =
    let g = h.2 in
    let i = g.2 in
    let r = h.0 in
    let s = h.1 in
    high_spelled (b ∷ x ∷ y ∷ z ∷ []) (b ∷ w)
    (encoded_four b x y z p q (omega arith) (omega arith) g.0 g.1 i.0 i.1 (λ n. let j = k n in omega arith) (λ n. let j = m n in omega arith))
    (omega arith, (omega arith, (g.0, (i.0, tt)))) (ap (λ s. b ∷ s) e)
led_four low high b (x ∷ y ∷ z ∷ a ∷ t) w p q l u k m e h = absurd h.2.2.2

led_means : (b : ℕ) → Means Character b (led b)
led_means b =
    cond_both (is_between 194 223 b) _ _ (Means Character b) (λ h t w l. let r = between_parts 194 223 b h in led_two b t w r.0 r.1 l.0 l.1) (λ _.
    cond_both (b == 224) _ _ (Means Character b) (λ h t w l. let r = eqb-true b 224 h in led_three 160 191 b t w (omega arith) (omega arith) (omega arith) (omega arith) (λ i. omega arith) (λ i. omega arith) l.0 l.1) (λ h1.
    cond_both (b == 237) _ _ (Means Character b) (λ h t w l. let r = eqb-true b 237 h in led_three 128 159 b t w (omega arith) (omega arith) (omega arith) (omega arith) (λ i. omega arith) (λ i. omega arith) l.0 l.1) (λ h2.
    cond_both (is_between 225 239 b) _ _ (Means Character b) (λ h t w l. let r = between_parts 225 239 b h in led_three 128 191 b t w (omega (arith, r.0)) r.1 (omega arith) (omega arith) (λ i. absurd (eqb-false b 224 h1 i)) (λ i. absurd (eqb-false b 237 h2 i)) l.0 l.1) (λ _.
    cond_both (b == 240) _ _ (Means Character b) (λ h t w l. let r = eqb-true b 240 h in led_four 144 191 b t w (omega arith) (omega arith) (omega arith) (omega arith) (λ i. omega arith) (λ i. omega arith) l.0 l.1) (λ h3.
    cond_both (is_between 241 243 b) _ _ (Means Character b) (λ h t w l. let r = between_parts 241 243 b h in led_four 128 191 b t w (omega (arith, r.0)) (omega (arith, r.1)) (omega arith) (omega arith) (λ i. absurd (eqb-false b 240 h3 i)) (λ i. omega (arith, r.1, i)) l.0 l.1) (λ _.
    cond_both (b == 244) _ _ (Means Character b) (λ h t w l. let r = eqb-true b 244 h in led_four 128 143 b t w (omega arith) (omega arith) (omega arith) (omega arith) (λ i. omega arith) (λ i. omega arith) l.0 l.1) (λ _. tt)))))))

nothing_of : (t : List ℕ) → t ≡ [] → Nothing t
nothing_of t e = subst Nothing (sym e) tt

-- the last byte of an escape
escape_ends : (v b : ℕ) (front t w : List ℕ) → v < 128 → t ≡ [] → w ≡ [] → escaped v ≡ front ++ b ∷ [] → LeftOfEscape front (v ∷ t) (b ∷ w)
escape_ends v b front t w p e f h = (v, p, ap (λ s. v ∷ s) e, h ∙ ap (λ s. front ++ b ∷ s) (sym f))

by_number : (d v b : ℕ) → v < 32 → (v ≡ 10 → ⊥) → (l : ℕ) → l < 16 → v ≡ d * 16 + l → hex_digit l ≡ b → escaped v ≡ 92 ∷ 120 ∷ hex_digit d ∷ b ∷ []
by_number d v b p n l q e f = escaped_number v p n ∙ ap (λ y. 92 ∷ 120 ∷ hex_pair y) e ∙ ap (λ y. 92 ∷ 120 ∷ y) (pair_of d l q) ∙ ap (λ y. 92 ∷ 120 ∷ hex_digit d ∷ y ∷ []) f

step_means : (e : Expected) (b : ℕ) → Means e b (step e b)
step_means Character b =
    cond_both (b == 34) _ _ (Means Character b) (λ h. eqb-true b 34 h) (λ h1.
    cond_both (b == 92) _ _ (Means Character b) (λ h t w l. low_spelled l.0 t (b ∷ w) l.1 l.2 (ap (λ y. y ∷ w) (eqb-true b 92 h) ∙ sym l.3)) (λ h2.
    cond_both (is_between 32 127 b) _ _ (Means Character b)
    (λ h t w l. let r = between_parts 32 127 b h in low_spelled b (b ∷ t) (b ∷ w) (omega (arith, r.1)) (ap (λ y. b ∷ y) l.0) (ap (λ y. b ∷ y) l.1 ∙ sym (escaped_plain b r.0 (eqb-false b 34 h1) (eqb-false b 92 h2))))
    (λ _. led_means b)))
step_means Escape b =
    cond_both (b == 34) _ _ (Means Escape b) (λ h t w l. escape_ends 34 b (92 ∷ []) t w (omega arith) l.0 l.1 (ap (λ y. 92 ∷ y ∷ []) (sym (eqb-true b 34 h)))) (λ _.
    cond_both (b == 92) _ _ (Means Escape b) (λ h t w l. escape_ends 92 b (92 ∷ []) t w (omega arith) l.0 l.1 (ap (λ y. 92 ∷ y ∷ []) (sym (eqb-true b 92 h)))) (λ _.
    cond_both (b == 110) _ _ (Means Escape b) (λ h t w l. escape_ends 10 b (92 ∷ []) t w (omega arith) l.0 l.1 (ap (λ y. 92 ∷ y ∷ []) (sym (eqb-true b 110 h)))) (λ _.
    cond_both (b == 120) _ _ (Means Escape b) (λ h t w l. (l.0, l.1, l.2, l.3 ∙ ap (λ y. 92 ∷ y ∷ w) (sym (eqb-true b 120 h)))) (λ _. tt))))
step_means FirstDigit b =
    cond_both (b == 48) _ _ (Means FirstDigit b) (λ h t w l. (l.0, l.1, l.2, l.3 ∙ ap (λ y. 92 ∷ 120 ∷ y ∷ w) (sym (eqb-true b 48 h)))) (λ _.
    cond_both (b == 49) _ _ (Means FirstDigit b) (λ h t w l. (l.0, l.1, l.2, l.3 ∙ ap (λ y. 92 ∷ 120 ∷ y ∷ w) (sym (eqb-true b 49 h)))) (λ _. tt))
step_means DigitBehindZero b =
    cond_both (b == 97) _ _ (Means DigitBehindZero b) (λ _. tt) (λ h1.
    cond_both (is_hex b) _ _ (Means DigitBehindZero b)
    (λ h t w l.
    let r = hex_is b h in
    let p = r.0 in
    let n : hex_value b ≡ 10 → ⊥ = λ i. eqb-false b 97 h1 (sym r.1 ∙ ap hex_digit i) in
    escape_ends (hex_value b) b (92 ∷ 120 ∷ 48 ∷ []) t w (omega arith) l.0 l.1 (by_number 0 (hex_value b) b (omega arith) n (hex_value b) p (omega arith) r.1))
    (λ _. tt))
step_means DigitBehindOne b =
    cond_both (is_hex b) _ _ (Means DigitBehindOne b)
    (λ h t w l.
    let r = hex_is b h in
    let p = r.0 in
    escape_ends (16 + hex_value b) b (92 ∷ 120 ∷ 49 ∷ []) t w (omega arith) l.0 l.1 (by_number 1 (16 + hex_value b) b (omega arith) (λ i. omega arith) (hex_value b) p (omega arith) r.1))
    (λ _. tt)
step_means OneByte b =
    cond_both (is_between 128 191 b) _ _ (Means OneByte b) (λ h t w l. let r = between_parts 128 191 b h in (ap (λ y. b ∷ y) (l.1 ∙ sym l.0), (r.0, r.1, nothing_of t l.0))) (λ _. tt)
step_means TwoBytes b =
    cond_both (is_between 128 191 b) _ _ (Means TwoBytes b) (λ h t w l. let r = between_parts 128 191 b h in (ap (λ y. b ∷ y) l.0, (r.0, r.1, l.1))) (λ _. tt)
step_means ThreeBytes b =
    cond_both (is_between 128 191 b) _ _ (Means ThreeBytes b) (λ h t w l. let r = between_parts 128 191 b h in (ap (λ y. b ∷ y) l.0, (r.0, r.1, l.1))) (λ _. tt)
step_means BytesBehindE0 b =
    cond_both (is_between 160 191 b) _ _ (Means BytesBehindE0 b) (λ h t w l. let r = between_parts 160 191 b h in (ap (λ y. b ∷ y) l.0, (r.0, r.1, l.1))) (λ _. tt)
step_means BytesBehindEd b =
    cond_both (is_between 128 159 b) _ _ (Means BytesBehindEd b) (λ h t w l. let r = between_parts 128 159 b h in (ap (λ y. b ∷ y) l.0, (r.0, r.1, l.1))) (λ _. tt)
step_means BytesBehindF0 b =
    cond_both (is_between 144 191 b) _ _ (Means BytesBehindF0 b) (λ h t w l. let r = between_parts 144 191 b h in (ap (λ y. b ∷ y) l.0, (r.0, r.1, l.1))) (λ _. tt)
step_means BytesBehindF4 b =
    cond_both (is_between 128 143 b) _ _ (Means BytesBehindF4 b) (λ h t w l. let r = between_parts 128 143 b h in (ap (λ y. b ∷ y) l.0, (r.0, r.1, l.1))) (λ _. tt)

-- The rest of a text up to its quote: its characters, and their spelling.
abbrev Body : List ℕ → List ℕ → Type 0
Body cs w = (all_scalars cs ≡ true) × (w ≡ flat_map escaped (encode_utf8_all cs) ++ 34 ∷ [])

abbrev Left : Expected → List ℕ → List ℕ → Type 0
Left e v w = (t front cs rest : List ℕ) × LeftOf e t front × Body cs rest × (v ≡ t ++ encode_utf8_all cs) × (w ≡ front ++ rest)

spelled_on : (cs t front rest : List ℕ) → IsSpelled t front → Body cs rest → (ds : List ℕ) × Body ds (front ++ rest) × (encode_utf8_all ds ≡ t ++ encode_utf8_all cs)
spelled_on cs t front rest h k =
    let c = h.0.0 in
    let e : encode_utf8 c ≡ t = h.0.2 in
    let f : encode_utf8_all (c ∷ cs) ≡ t ++ encode_utf8_all cs = ap (λ s. s ++ encode_utf8_all cs) e in (
      c ∷ cs,
      (
        and_from _ _ h.0.1 k.0,
        ap (λ s. s ++ rest) h.1 ∙ ap (λ s. flat_map escaped t ++ s) k.1 ∙ sym (append_assoc (flat_map escaped t) (flat_map escaped (encode_utf8_all cs)) (34 ∷ []))
            ∙ ap (λ s. s ++ 34 ∷ []) (sym (flat_map-append escaped t (encode_utf8_all cs)) ∙ ap (flat_map escaped) (sym f)),
      ),
      f,
    )

more_left : (e : Expected) (t front cs rest : List ℕ) → More e t front → Body cs rest → Left e (t ++ encode_utf8_all cs) (front ++ rest)
more_left Character t front cs rest h k = let s = spelled_on cs t front rest h k in ([], [], s.0, front ++ rest, (refl, refl), s.1, sym s.2, refl)
more_left e t front cs rest h k = (t, front, cs, rest, h, k, refl, refl)

closed : (e : Expected) (b : ℕ) → Closes e b → Left e [] (b ∷ [])
closed Character b h = ([], [], [], b ∷ [], (refl, refl), (refl, ap (λ y. y ∷ []) h), refl, refl)
closed e b h = absurd h

-- Some bytes satisfy each expectation.
some_left : (e : Expected) → (t front : List ℕ) × LeftOf e t front
some_left Character = ([], [], (refl, refl))
some_left Escape = (34 ∷ [], 34 ∷ [], (34, omega arith, refl, refl))
some_left FirstDigit = (0 ∷ [], 48 ∷ 48 ∷ [], (0, omega arith, refl, refl))
some_left DigitBehindZero = (0 ∷ [], 48 ∷ [], (0, omega arith, refl, refl))
some_left DigitBehindOne = (16 ∷ [], 48 ∷ [], (16, omega arith, refl, refl))
some_left OneByte = (128 ∷ [], 128 ∷ [], (refl, (omega arith, omega arith, tt)))
some_left TwoBytes = (128 ∷ 128 ∷ [], 128 ∷ 128 ∷ [], (refl, (omega arith, omega arith, (omega arith, omega arith, tt))))
some_left ThreeBytes = (128 ∷ 128 ∷ 128 ∷ [], 128 ∷ 128 ∷ 128 ∷ [], (refl, (omega arith, omega arith, (omega arith, omega arith, (omega arith, omega arith, tt)))))
some_left BytesBehindE0 = (160 ∷ 128 ∷ [], 160 ∷ 128 ∷ [], (refl, (omega arith, omega arith, (omega arith, omega arith, tt))))
some_left BytesBehindEd = (128 ∷ 128 ∷ [], 128 ∷ 128 ∷ [], (refl, (omega arith, omega arith, (omega arith, omega arith, tt))))
some_left BytesBehindF0 = (144 ∷ 128 ∷ 128 ∷ [], 144 ∷ 128 ∷ 128 ∷ [], (refl, (omega arith, omega arith, (omega arith, omega arith, (omega arith, omega arith, tt)))))
some_left BytesBehindF4 = (128 ∷ 128 ∷ 128 ∷ [], 128 ∷ 128 ∷ 128 ∷ [], (refl, (omega arith, omega arith, (omega arith, omega arith, (omega arith, omega arith, tt)))))

-- the text read from a place within it; s are the bytes read before
abbrev IsFrom : Expected → List ℕ → List ℕ → List ℕ → Type 0
IsFrom e s v w = (r : List ℕ) × (v ≡ s ++ r) × Left e r w

abbrev BeginsFrom : Expected → Limits → List ℕ → Type 0
BeginsFrom e c w = (r u : List ℕ) × Left e r (w ++ u)

begins_some : (e : Expected) (c : Limits) → BeginsFrom e c []
begins_some e c = let s = some_left e in (s.0, s.1 ++ 34 ∷ [], (s.0, s.1, [], 34 ∷ [], s.2, (refl, refl), sym (append-nil s.0), refl))

passed_left : (e f : Expected) (b : ℕ) (r w : List ℕ) → Means e b (Passes f) → Left f r w → Left e r (b ∷ w)
passed_left e f b r w m h =
    let k = more_left e h.0 (b ∷ h.1) h.2 h.3 (m h.0 h.1 h.4) h.5 in
    (k.0, k.1, k.2, k.3, k.4, k.5, h.6 ∙ k.6, ap (λ y. b ∷ y) h.7 ∙ k.7)

added_left : (e f : Expected) (b v : ℕ) (r w : List ℕ) → Means e b (Adds v f) → Left f r w → Left e (v ∷ r) (b ∷ w)
added_left e f b v r w m h =
    let k = more_left e (v ∷ h.0) (b ∷ h.1) h.2 h.3 (m h.0 h.1 h.4) h.5 in
    (k.0, k.1, k.2, k.3, k.4, k.5, ap (λ y. v ∷ y) h.6 ∙ k.6, ap (λ y. b ∷ y) h.7 ∙ k.7)

stepped_right : (e : Expected) (b : ℕ) (s bs : List ℕ) (x : Step) → Means e b x → ((f : Expected) (t : List ℕ) → RightAs (IsFrom f t) (BeginsFrom f) bs (text_from f t bs))
    → RightAs (IsFrom e s) (BeginsFrom e) (b ∷ bs) (stepped x s (stop BadByte (b ∷ bs)) (got s bs) (λ f t. text_from f t bs))
stepped_right e b s bs Refused m h = stuck_first (BeginsFrom e) (b ∷ bs) (begins_some e both)
stepped_right e b s bs Ends m h = record { passed = b ∷ []; whole = refl; is = ([], sym (append-nil s), closed e b m) }
stepped_right e b s bs (Passes f) m h =
    right_on (IsFrom f s) (BeginsFrom f) (IsFrom e s) (BeginsFrom e) (b ∷ []) bs (text_from f s bs)
    (λ v w k. (k.0, k.1, passed_left e f b k.0 w m k.2))
    (λ c w k. (k.0, k.1, passed_left e f b k.0 (w ++ k.1) m k.2))
    (h f s)
stepped_right e b s bs (Adds x f) m h =
    right_on (IsFrom f (s ++ x ∷ [])) (BeginsFrom f) (IsFrom e s) (BeginsFrom e) (b ∷ []) bs (text_from f (s ++ x ∷ []) bs)
    (λ v w k. (x ∷ k.0, k.1 ∙ append_assoc s (x ∷ []) k.0, added_left e f b x k.0 w m k.2))
    (λ c w k. (x ∷ k.0, k.1, added_left e f b x k.0 (w ++ k.1) m k.2))
    (h f (s ++ x ∷ []))

text_from_right : (bs : List ℕ) (e : Expected) (s : List ℕ) → RightAs (IsFrom e s) (BeginsFrom e) bs (text_from e s bs)
text_from_right [] e s = stuck_first (BeginsFrom e) [] (begins_some e both)
text_from_right (b ∷ bs) e s = stepped_right e b s bs (step e b) (step_means e b) (text_from_right bs)

-- A text literal.
abbrev pub IsTextLiteral : List ℕ → List ℕ → Type 0
IsTextLiteral s w = (w ≡ datum_text (text s)) × IsUtf8 s

abbrev pub BeginsTextLiteral : Limits → List ℕ → Type 0
BeginsTextLiteral c w = (s : List ℕ) × (u : List ℕ) × IsTextLiteral s (w ++ u)

whole_text : (v w : List ℕ) → Left Character v w → IsTextLiteral v (34 ∷ w)
whole_text v w h =
    let e : v ≡ encode_utf8_all h.2 = h.6 ∙ ap (λ y. y ++ encode_utf8_all h.2) h.4.0 in
    (ap (λ y. 34 ∷ y) (h.7 ∙ ap (λ y. y ++ h.3) h.4.1 ∙ h.5.1 ∙ ap (λ y. flat_map escaped y ++ 34 ∷ []) (sym e)), (h.2, (h.5.0, sym e)))

quoted : (b : ℕ) (bs : List ℕ) (t : Bool) → (b == 34) ≡ t → RightAs IsTextLiteral BeginsTextLiteral (b ∷ bs) (cond t (text_from Character [] bs) (stop BadByte (b ∷ bs)))
quoted b bs true e =
    subst (λ c. RightAs IsTextLiteral BeginsTextLiteral (c ∷ bs) (text_from Character [] bs)) (sym (eqb-true b 34 e))
    (right_on (IsFrom Character []) (BeginsFrom Character) IsTextLiteral BeginsTextLiteral (34 ∷ []) bs (text_from Character [] bs)
    (λ v w k. subst (λ y. IsTextLiteral y (34 ∷ w)) (sym k.1) (whole_text k.0 w k.2)) (λ c w k. (k.0, k.1, whole_text k.0 (w ++ k.1) k.2)) (text_from_right bs Character []))
quoted b bs false e = stuck_first BeginsTextLiteral (b ∷ bs) ([], 34 ∷ 34 ∷ [], (refl, ([], (refl, refl))))

pub text_right : (bs : List ℕ) → RightAs IsTextLiteral BeginsTextLiteral bs (text_literal bs)
unfolding text_literal
text_right [] = stuck_first BeginsTextLiteral [] ([], 34 ∷ 34 ∷ [], (refl, ([], (refl, refl))))
text_right (b ∷ bs) = quoted b bs (b == 34) refl

-- Wherever a character is expected, the bytes w are read as t.
abbrev Reads : List ℕ → List ℕ → Type 0
Reads w t = (s u : List ℕ) → text_from Character s (w ++ u) ≡ text_from Character (s ++ t) u

adds : (e f : Expected) (x b : ℕ) (s u : List ℕ) → step e b ≡ Adds x f → text_from e s (b ∷ u) ≡ text_from f (s ++ x ∷ []) u
adds e f x b s u h = ap (λ y. stepped y s (stop BadByte (b ∷ u)) (got s u) (λ g t. text_from g t u)) h

plain_step : (b : ℕ) → 32 ≤ b → b ≤ 127 → (b ≡ 34 → ⊥) → (b ≡ 92 → ⊥) → step Character b ≡ Adds b Character
plain_step b p q n m = rw (ne_eqb b 34 n, ne_eqb b 92 m, between_is 32 127 b p q) refl

led_step : (b : ℕ) → 128 ≤ b → step Character b ≡ led b
led_step b p = rw (ne_eqb b 34 (λ e. omega arith), ne_eqb b 92 (λ e. omega arith), above_between 32 127 b (omega arith)) refl

continues : (low high b : ℕ) (f : Expected) → low ≤ b → b ≤ high → continued low high f b ≡ Adds b f
continues low high b f p q = rw (between_is low high b p q) refl

number_reads : (d l v : ℕ) → l < 16 → v ≡ d * 16 + l → (d ≡ 0) ⊎ (d ≡ 1) → (v ≡ 10 → ⊥) → Reads (92 ∷ 120 ∷ hex_digit d ∷ hex_digit l ∷ []) (v ∷ [])
number_reads d l v p e (inl z) n s u =
    let h = digit_hex l p in
    let m : (hex_digit l == 97) ≡ false = ne_eqb (hex_digit l) 97 (λ i. n (omega (arith, e, z, sym h.1 ∙ ap hex_value i))) in
    let k : step DigitBehindZero (hex_digit l) ≡ Adds v Character = rw (m, h.0) (ap (λ y. Adds y Character) (h.1 ∙ (let g : l ≡ v = omega arith in g))) in
    ap (λ y. text_from FirstDigit s (hex_digit y ∷ hex_digit l ∷ u)) z ∙ adds DigitBehindZero Character v (hex_digit l) s u k
number_reads d l v p e (inr z) n s u =
    let h = digit_hex l p in
    let k : step DigitBehindOne (hex_digit l) ≡ Adds v Character = rw (h.0) (ap (λ y. Adds y Character) (ap (λ y. 16 + y) h.1 ∙ (let g : 16 + l ≡ v = omega arith in g))) in
    ap (λ y. text_from FirstDigit s (hex_digit y ∷ hex_digit l ∷ u)) z ∙ adds DigitBehindOne Character v (hex_digit l) s u k

small_reads : (b : ℕ) → b < 32 → (b ≡ 10 → ⊥) → Reads (92 ∷ 120 ∷ hex_pair b) (b ∷ [])
small_reads b p n =
    let d : (b / 16 ≡ 0) ⊎ (b / 16 ≡ 1) = elim (cases_lt b 16) [ inl h ↦ inl (omega arith) | inr h ↦ inr (omega arith) ] in
    number_reads (b / 16) (b % 16) b (omega arith) (omega arith) d n

low_reads : (b : ℕ) → b < 128 → Reads (escaped b) (b ∷ [])
low_reads b p =
    cond_both (b == 34) _ _ (λ w. Reads w (b ∷ [])) (λ h. subst (λ y. Reads (92 ∷ 34 ∷ []) (y ∷ [])) (sym (eqb-true b 34 h)) (λ s u. refl)) (λ h1.
    cond_both (b == 92) _ _ (λ w. Reads w (b ∷ [])) (λ h. subst (λ y. Reads (92 ∷ 92 ∷ []) (y ∷ [])) (sym (eqb-true b 92 h)) (λ s u. refl)) (λ h2.
    cond_both (b == 10) _ _ (λ w. Reads w (b ∷ [])) (λ h. subst (λ y. Reads (92 ∷ 110 ∷ []) (y ∷ [])) (sym (eqb-true b 10 h)) (λ s u. refl)) (λ h3.
    cond_both (nat_lt b 32) _ _ (λ w. Reads w (b ∷ [])) (λ h. small_reads b (ltb-true b 32 h) (eqb-false b 10 h3)) (λ h s u.
    adds Character Character b b s u (plain_step b (ltb-false b 32 h) (omega arith) (eqb-false b 34 h1) (eqb-false b 92 h2))))))

-- two steps, and the added bytes as one list
then_reads : (e f : Expected) (x b : ℕ) (t v : List ℕ) (s u : List ℕ) → step e b ≡ Adds x f → ((r : List ℕ) → text_from f r v ≡ text_from Character (r ++ t) u) → text_from e s (b ∷ v) ≡ text_from Character (s ++ x ∷ t) u
then_reads e f x b t v s u h k = adds e f x b s v h ∙ k (s ++ x ∷ []) ∙ ap (λ y. text_from Character y u) (append_assoc s (x ∷ []) t)

one_reads : (b : ℕ) (u : List ℕ) → 128 ≤ b → b ≤ 191 → (r : List ℕ) → text_from OneByte r (b ∷ u) ≡ text_from Character (r ++ b ∷ []) u
one_reads b u p q r = adds OneByte Character b b r u (continues 128 191 b Character p q)

two_reads : (b d : ℕ) (u : List ℕ) → 128 ≤ b → b ≤ 191 → 128 ≤ d → d ≤ 191 → (r : List ℕ) → text_from TwoBytes r (b ∷ d ∷ u) ≡ text_from Character (r ++ b ∷ d ∷ []) u
two_reads b d u p q l h r = then_reads TwoBytes OneByte b b (d ∷ []) (d ∷ u) r u (continues 128 191 b OneByte p q) (one_reads d u l h)

of_two_reads : (a b : ℕ) → 194 ≤ a → a ≤ 223 → 128 ≤ b → b ≤ 191 → Reads (a ∷ b ∷ []) (a ∷ b ∷ [])
of_two_reads a b p q r t s u =
    let k : led a ≡ Adds a OneByte = rw (between_is 194 223 a p q) refl in
    then_reads Character OneByte a a (b ∷ []) (b ∷ u) s u (led_step a (omega arith) ∙ k) (one_reads b u r t)

-- the bytes expected after the first byte of a character of three
abbrev Behind3 : ℕ → Type 0
Behind3 a = (f : Expected) × (low high : ℕ) × (led a ≡ Adds a f) × ((b : ℕ) → step f b ≡ continued low high OneByte b) × ((b : ℕ) → 128 ≤ b → b ≤ 191 → (a ≡ 224 → 160 ≤ b) → (a ≡ 237 → b ≤ 159) → (low ≤ b) × (b ≤ high))

behind3 : (a : ℕ) → 224 ≤ a → a ≤ 239 → Behind3 a
behind3 a p q = elim (cases_eq a 224) [
  | inl e ↦ (BytesBehindE0, 160, 191, ap led e ∙ ap (λ y. Adds y BytesBehindE0) (sym e), (λ b. refl), λ b r s l h. (l e, s))
  | inr n ↦ elim (cases_eq a 237) [
    | inl e ↦ (BytesBehindEd, 128, 159, ap led e ∙ ap (λ y. Adds y BytesBehindEd) (sym e), (λ b. refl), λ b r s l h. (r, h e))
    | inr m ↦ (TwoBytes, 128, 191, rw (above_between 194 223 a (omega arith), ne_eqb a 224 n, ne_eqb a 237 m, between_is 225 239 a (omega arith) q) refl, (λ b. refl), λ b r s l h. (r, s))
  ]
]

of_three_reads : (a b d : ℕ) → 224 ≤ a → a ≤ 239 → 128 ≤ b → b ≤ 191 → 128 ≤ d → d ≤ 191 → (a ≡ 224 → 160 ≤ b) → (a ≡ 237 → b ≤ 159) → Reads (a ∷ b ∷ d ∷ []) (a ∷ b ∷ d ∷ [])
of_three_reads a b d p q r t v w low high s u =
    let k = behind3 a p q in
    let g = k.5 b r t low high in
    then_reads Character k.0 a a (b ∷ d ∷ []) (b ∷ d ∷ u) s u (led_step a (omega arith) ∙ k.3)
    (λ y. then_reads k.0 OneByte b b (d ∷ []) (d ∷ u) y u (k.4 b ∙ continues k.1 k.2 b OneByte g.0 g.1) (one_reads d u v w))

abbrev Behind4 : ℕ → Type 0
Behind4 a = (f : Expected) × (low high : ℕ) × (led a ≡ Adds a f) × ((b : ℕ) → step f b ≡ continued low high TwoBytes b) × ((b : ℕ) → 128 ≤ b → b ≤ 191 → (a ≡ 240 → 144 ≤ b) → (a ≡ 244 → b ≤ 143) → (low ≤ b) × (b ≤ high))

behind4 : (a : ℕ) → 240 ≤ a → a ≤ 244 → Behind4 a
behind4 a p q = elim (cases_eq a 240) [
  | inl e ↦ (BytesBehindF0, 144, 191, ap led e ∙ ap (λ y. Adds y BytesBehindF0) (sym e), (λ b. refl), λ b r s l h. (l e, s))
  | inr n ↦ elim (cases_eq a 244) [
    | inl e ↦ (BytesBehindF4, 128, 143, ap led e ∙ ap (λ y. Adds y BytesBehindF4) (sym e), (λ b. refl), λ b r s l h. (r, h e))
    | inr m ↦ (
      ThreeBytes,
      128,
      191,
      rw (above_between 194 223 a (omega arith), ne_eqb a 224 (λ e. omega arith), ne_eqb a 237 (λ e. omega arith), above_between 225 239 a (omega arith), ne_eqb a 240 n, between_is 241 243 a (omega arith) (omega arith)) refl,
      (λ b. refl),
      λ b r s l h. (r, s),
    )
  ]
]

of_four_reads : (a b d e : ℕ) → 240 ≤ a → a ≤ 244 → 128 ≤ b → b ≤ 191 → 128 ≤ d → d ≤ 191 → 128 ≤ e → e ≤ 191 → (a ≡ 240 → 144 ≤ b) → (a ≡ 244 → b ≤ 143) → Reads (a ∷ b ∷ d ∷ e ∷ []) (a ∷ b ∷ d ∷ e ∷ [])
of_four_reads a b d e p q r t v w x z low high s u =
    let k = behind4 a p q in
    let g = k.5 b r t low high in
    then_reads Character k.0 a a (b ∷ d ∷ e ∷ []) (b ∷ d ∷ e ∷ u) s u (led_step a (omega arith) ∙ k.3)
    (λ y. then_reads k.0 TwoBytes b b (d ∷ e ∷ []) (d ∷ e ∷ u) y u (k.4 b ∙ continues k.1 k.2 b TwoBytes g.0 g.1) (two_reads d e u v w x z))

-- a character that stands for itself in a text
high_reads : (c : ℕ) (t : List ℕ) → encode_utf8 c ≡ t → AreHigh t → Reads t t → Reads (flat_map escaped (encode_utf8 c)) (encode_utf8 c)
high_reads c t e h r = subst (λ y. Reads (flat_map escaped y) y) (sym e) (subst (λ y. Reads y t) (sym (high_escaped t h)) r)

char_reads : (c : ℕ) → Encoding c → Reads (flat_map escaped (encode_utf8 c)) (encode_utf8 c)
char_reads c (of_one p e) = subst (λ y. Reads (flat_map escaped y) y) (sym e) (subst (λ y. Reads y (c ∷ [])) (sym (append-nil (escaped c))) (low_reads c p))
char_reads c (of_two a b p q r t e) = high_reads c (a ∷ b ∷ []) e (omega arith, (r, tt)) (of_two_reads a b p q r t)
char_reads c (of_three a b d p q r t v w l h e) = high_reads c (a ∷ b ∷ d ∷ []) e (omega arith, (r, (v, tt))) (of_three_reads a b d p q r t v w l h)
char_reads c (of_four a b d g p q r t v w x y l h e) = high_reads c (a ∷ b ∷ d ∷ g ∷ []) e (omega arith, (r, (v, (x, tt)))) (of_four_reads a b d g p q r t v w x y l h)

body_again : (cs s u : List ℕ) → all_scalars cs ≡ true → text_from Character s ((flat_map escaped (encode_utf8_all cs) ++ 34 ∷ []) ++ u) ≡ got (s ++ encode_utf8_all cs) u
body_again [] s u h = ap (λ y. got y u) (sym (append-nil s))
body_again (c ∷ cs) s u h =
    let p = and_parts _ _ h in
    let more = flat_map escaped (encode_utf8_all cs) ++ 34 ∷ [] in
    let e : (flat_map escaped (encode_utf8_all (c ∷ cs)) ++ 34 ∷ []) ++ u ≡ flat_map escaped (encode_utf8 c) ++ (more ++ u) =
    ap (λ y. (y ++ 34 ∷ []) ++ u) (flat_map-append escaped (encode_utf8 c) (encode_utf8_all cs))
    ∙ ap (λ y. y ++ u) (append_assoc (flat_map escaped (encode_utf8 c)) (flat_map escaped (encode_utf8_all cs)) (34 ∷ []))
    ∙ append_assoc (flat_map escaped (encode_utf8 c)) more u in
    ap (text_from Character s) e ∙ char_reads c (encoding c p.0) s (more ++ u) ∙ body_again cs (s ++ encode_utf8 c) u p.1 ∙ ap (λ y. got y u) (append_assoc s (encode_utf8 c) (encode_utf8_all cs))

pub text_again : (s u : List ℕ) → IsUtf8 s → text_literal (datum_text (text s) ++ u) ≡ got s u
unfolding text_literal
text_again s u h =
    let e : encode_utf8_all h.0 ≡ s = h.1.1 in
    ap (λ y. text_from Character [] ((flat_map escaped y ++ 34 ∷ []) ++ u)) (sym e) ∙ body_again h.0 [] u h.1.0 ∙ ap (λ y. got y u) e

-- The result depends on the bytes that are passed and on the byte that stops the reader, and on no others.
stepped_local : (e : Expected) (b : ℕ) (s bs : List ℕ) (x : Step) → step e b ≡ x → ((f : Expected) (t : List ℕ) → LocalAs (text_from f t) bs (text_from f t bs)) → LocalAs (text_from e s) (b ∷ bs) (text_from e s (b ∷ bs))
stepped_local e b s bs Refused h k =
    local_look (text_from e s) (λ u. stop BadByte u) b (λ u. ap (λ y. stepped y s (stop BadByte (b ∷ u)) (got s u) (λ f t. text_from f t u)) h) (local_stop BadByte) bs
stepped_local e b s bs Ends h k =
    local_pass (text_from e s) (λ u. got s u) b (λ u. ap (λ y. stepped y s (stop BadByte (b ∷ u)) (got s u) (λ f t. text_from f t u)) h) bs (local_got s bs)
stepped_local e b s bs (Passes f) h k =
    local_pass (text_from e s) (text_from f s) b (λ u. ap (λ y. stepped y s (stop BadByte (b ∷ u)) (got s u) (λ g t. text_from g t u)) h) bs (k f s)
stepped_local e b s bs (Adds x f) h k =
    local_pass (text_from e s) (text_from f (s ++ x ∷ [])) b (λ u. ap (λ y. stepped y s (stop BadByte (b ∷ u)) (got s u) (λ g t. text_from g t u)) h) bs (k f (s ++ x ∷ []))

text_from_local : (bs : List ℕ) (e : Expected) (s : List ℕ) → LocalAs (text_from e s) bs (text_from e s bs)
text_from_local [] e s = local_empty (text_from e s) refl
text_from_local (b ∷ bs) e s = stepped_local e b s bs (step e b) refl (text_from_local bs)

pub text_local : IsLocal text_literal
unfolding text_literal
text_local [] = local_empty text_literal refl
text_local (b ∷ bs) = local_test (b == 34) text_literal (text_from Character []) (λ u. stop BadByte u) b (λ u. refl) bs (text_from_local bs Character []) (local_stop BadByte)
