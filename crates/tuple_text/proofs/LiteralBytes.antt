-- Reading byte string literals.
use Rattle.std.proofs.Common.{◌≡◌, ℕ, zero, suc, ◌+◌, ◌-◌, ◌*◌, ◌/◌, ◌%◌, ◌<◌, ◌≤◌, ◌==◌, Bool, true, false, cond, List}
use Rattle.std.proofs.Common.{[], ◌∷◌, ◌++◌, length, take, drop, get_or, Option, None, Some, refl, ap, sym, subst, ◌∙◌}
use Rattle.std.proofs.Common.{append_assoc, append-nil, arith}
use Rattle.std.proofs.lemmas.Bool.{eqb-true}
use Rattle.std.proofs.lemmas.List.{take_all}
use Rattle.std.specs.List.{flat_map}
use Rattle.tuple_tree.specs.Values.{bytes, AreBytes}
use Rattle.tuple_text.specs.Texts.{hex_digit, hex_pair, datum_text}
use Rattle.tuple_text.specs.Read.{got, stop}
use Rattle.tuple_text.specs.Literals.{is_hex, hex_value, AreHex, NoHex, digit_pairs, bytes_literal}
use Rattle.tuple_text.specs.declared.reader.Stop.TheVariants.{BadByte}
use Rattle.tuple_text.proofs.Right.{Limits, both, RightAs, right_on}
use Rattle.tuple_text.proofs.Local.{LocalAs, IsLocal, local_got, local_stop, local_empty, local_test}
use Rattle.tuple_text.proofs.LiteralTexts.{stuck_first}
use Rattle.tuple_text.proofs.LiteralCharacters.{hex_is, digit_hex, pair_of}

no_bytes : AreBytes []
no_bytes i = omega arith

byte_more : (b : ℕ) (s : List ℕ) → b < 256 → AreBytes s → AreBytes (b ∷ s)
byte_more b s p h zero = p
byte_more b s p h (suc i) = h i

first_byte : (b : ℕ) (s : List ℕ) → AreBytes (b ∷ s) → b < 256
first_byte b s h = h 0

other_bytes : (b : ℕ) (s : List ℕ) → AreBytes (b ∷ s) → AreBytes s
other_bytes b s h i = h (suc i)

-- The rest of a byte string: its bytes, and how they are spelled.
abbrev Left : Option ℕ → List ℕ → List ℕ → Type 0
Left None r w = AreBytes r × (w ≡ flat_map hex_pair r)
Left (Some high) r w = (low : ℕ) × (t : List ℕ) × (low < 16) × AreBytes t × (r ≡ (high * 16 + low) ∷ t) × (w ≡ hex_digit low ∷ flat_map hex_pair t)

abbrev IsFrom : List ℕ → Option ℕ → List ℕ → List ℕ → Type 0
IsFrom s high v w = (r : List ℕ) × (v ≡ s ++ r) × Left high r w

abbrev BeginsFrom : Option ℕ → Limits → List ℕ → Type 0
BeginsFrom high c w = (r u : List ℕ) × Left high r (w ++ u)

begins_some : (high : Option ℕ) (c : Limits) → BeginsFrom high c []
begins_some None c = ([], [], (no_bytes, refl))
begins_some (Some high) c = ((high * 16 + 0) ∷ [], 48 ∷ [], (0, [], omega arith, no_bytes, refl, refl))

first_left : (b : ℕ) (r w : List ℕ) → is_hex b ≡ true → Left (Some (hex_value b)) r w → Left None r (b ∷ w)
first_left b r w e h =
    let d = hex_is b e in
    let p = d.0 in
    let q = h.2 in
    let v = hex_value b * 16 + h.0 in (
      subst AreBytes (sym h.4) (byte_more v h.1 (omega arith) h.3),
      ap (λ y. b ∷ y) h.5 ∙ ap (λ y. y ∷ hex_digit h.0 ∷ flat_map hex_pair h.1) (sym d.1) ∙ ap (λ y. y ++ flat_map hex_pair h.1) (sym (pair_of (hex_value b) h.0 h.2)) ∙ ap (flat_map hex_pair) (sym h.4),
    )

second_left : (high b : ℕ) (r w : List ℕ) → is_hex b ≡ true → Left None r w → Left (Some high) ((high * 16 + hex_value b) ∷ r) (b ∷ w)
second_left high b r w e h = let d = hex_is b e in (hex_value b, r, d.0, h.0, refl, ap (λ y. b ∷ y) h.1 ∙ ap (λ y. y ∷ flat_map hex_pair r) (sym d.1))

first_case : (s : List ℕ) (b : ℕ) (bs : List ℕ) (t : Bool) → is_hex b ≡ t → RightAs (IsFrom s (Some (hex_value b))) (BeginsFrom (Some (hex_value b))) bs (digit_pairs s (Some (hex_value b)) bs)
    → RightAs (IsFrom s None) (BeginsFrom None) (b ∷ bs) (cond t (digit_pairs s (Some (hex_value b)) bs) (got s (b ∷ bs)))
first_case s b bs true e h =
    right_on (IsFrom s (Some (hex_value b))) (BeginsFrom (Some (hex_value b))) (IsFrom s None) (BeginsFrom None) (b ∷ []) bs (digit_pairs s (Some (hex_value b)) bs)
    (λ v w k. (k.0, k.1, first_left b k.0 w e k.2)) (λ c w k. (k.0, k.1, first_left b k.0 (w ++ k.1) e k.2)) h
first_case s b bs false e h = record { passed = []; whole = refl; is = ([], sym (append-nil s), (no_bytes, refl)) }

second_case : (s : List ℕ) (high b : ℕ) (bs : List ℕ) (t : Bool) → is_hex b ≡ t → ((r : List ℕ) → RightAs (IsFrom r None) (BeginsFrom None) bs (digit_pairs r None bs))
    → RightAs (IsFrom s (Some high)) (BeginsFrom (Some high)) (b ∷ bs) (cond t (digit_pairs (s ++ (high * 16 + hex_value b) ∷ []) None bs) (stop BadByte (b ∷ bs)))
second_case s high b bs true e h =
    let x = high * 16 + hex_value b in
    right_on (IsFrom (s ++ x ∷ []) None) (BeginsFrom None) (IsFrom s (Some high)) (BeginsFrom (Some high)) (b ∷ []) bs (digit_pairs (s ++ x ∷ []) None bs)
    (λ v w k. (x ∷ k.0, k.1 ∙ append_assoc s (x ∷ []) k.0, second_left high b k.0 w e k.2)) (λ c w k. (x ∷ k.0, k.1, second_left high b k.0 (w ++ k.1) e k.2)) (h (s ++ x ∷ []))
second_case s high b bs false e h = stuck_first (BeginsFrom (Some high)) (b ∷ bs) (begins_some (Some high) both)

pairs_right : (bs s : List ℕ) (high : Option ℕ) → RightAs (IsFrom s high) (BeginsFrom high) bs (digit_pairs s high bs)
pairs_right [] s None = record { passed = []; whole = refl; is = ([], sym (append-nil s), (no_bytes, refl)) }
pairs_right (b ∷ bs) s None = first_case s b bs (is_hex b) refl (pairs_right bs s (Some (hex_value b)))
pairs_right [] s (Some high) = stuck_first (BeginsFrom (Some high)) [] (begins_some (Some high) both)
pairs_right (b ∷ bs) s (Some high) = second_case s high b bs (is_hex b) refl (λ r. pairs_right bs r None)

-- A byte string literal.
abbrev pub IsByteString : List ℕ → List ℕ → Type 0
IsByteString s w = (w ≡ datum_text (bytes s)) × AreBytes s

abbrev pub BeginsByteString : Limits → List ℕ → Type 0
BeginsByteString c w = (s : List ℕ) × (u : List ℕ) × IsByteString s (w ++ u)

whole_bytes : (s w : List ℕ) → Left None s w → IsByteString s (120 ∷ w)
whole_bytes s w h = (ap (λ y. 120 ∷ y) h.1, h.0)

letter_case : (b : ℕ) (bs : List ℕ) (t : Bool) → (b == 120) ≡ t → RightAs IsByteString BeginsByteString (b ∷ bs) (cond t (digit_pairs [] None bs) (stop BadByte (b ∷ bs)))
letter_case b bs true e =
    subst (λ c. RightAs IsByteString BeginsByteString (c ∷ bs) (digit_pairs [] None bs)) (sym (eqb-true b 120 e))
    (right_on (IsFrom [] None) (BeginsFrom None) IsByteString BeginsByteString (120 ∷ []) bs (digit_pairs [] None bs)
    (λ v w k. subst (λ y. IsByteString y (120 ∷ w)) (sym k.1) (whole_bytes k.0 w k.2)) (λ c w k. (k.0, k.1, whole_bytes k.0 (w ++ k.1) k.2)) (pairs_right bs [] None))
letter_case b bs false e = stuck_first BeginsByteString (b ∷ bs) ([], 120 ∷ [], (refl, no_bytes))

pub bytes_right : (bs : List ℕ) → RightAs IsByteString BeginsByteString bs (bytes_literal bs)
unfolding bytes_literal
bytes_right [] = stuck_first BeginsByteString [] ([], 120 ∷ [], (refl, no_bytes))
bytes_right (b ∷ bs) = letter_case b bs (b == 120) refl

-- Again: the text of a byte string, and something that doesn't go on with a hexadecimal digit.
pub pairs_end : (s u : List ℕ) → NoHex u → digit_pairs s None u ≡ got s u
pairs_end s [] h = refl
pairs_end s (b ∷ u) h = ap (λ t. cond t (digit_pairs s (Some (hex_value b)) u) (got s (b ∷ u))) h

-- two digits of a byte string
pub pair_passed : (s : List ℕ) (a b : ℕ) (u : List ℕ) → is_hex a ≡ true → is_hex b ≡ true → digit_pairs s None (a ∷ b ∷ u) ≡ digit_pairs (s ++ (hex_value a * 16 + hex_value b) ∷ []) None u
pair_passed s a b u p q = rw (p, q) refl

-- Two digits more are passed. The rest is taken at its whole length.
pub pairs_more : (digits s t left : List ℕ) (n v : ℕ) → 2 ≤ length left → n ≡ length left - 2 → AreHex left → length left % 2 ≡ 0 → ((rest : List ℕ) → digit_pairs [] None (digits ++ rest) ≡ digit_pairs s None (left ++ rest))
    → v ≡ hex_value (get_or left 0 0) * 16 + hex_value (get_or left 1 0) → t ≡ s ++ v ∷ []
    → AreHex (take n (drop 2 left)) × (length (take n (drop 2 left)) % 2 ≡ 0) × ((rest : List ℕ) → digit_pairs [] None (digits ++ rest) ≡ digit_pairs t None (take n (drop 2 left) ++ rest)) × (length (take n (drop 2 left)) ≡ n)
pairs_more digits s t [] n v l m h e p q r = absurd (omega arith)
pairs_more digits s t (a ∷ []) n v l m h e p q r = absurd (omega arith)
pairs_more digits s t (a ∷ b ∷ left) n v l m h e p q r =
    let k : take n left ≡ left = take_all n left (omega (arith, m)) in
    let f : length left % 2 ≡ 0 = omega (arith, e) in
    let w : length left ≡ n = omega (arith, m) in (
      subst AreHex (sym k) (λ i j. h (suc (suc i)) (omega arith)),
      ap (λ xs. length xs % 2) k ∙ f,
      λ rest. p rest ∙ pair_passed s a b (left ++ rest) (h 0 (omega arith)) (h 1 (omega arith)) ∙ ap (λ x. digit_pairs (s ++ x ∷ []) None (left ++ rest)) (sym q) ∙ ap (λ y. digit_pairs y None (left ++ rest)) (sym r)
          ∙ ap (λ xs. digit_pairs t None (xs ++ rest)) (sym k),
      ap length k ∙ w,
    )

-- a digit too many
pub pairs_odd : (digits s rest : List ℕ) → AreHex digits → length digits % 2 ≡ 1 → NoHex rest → digit_pairs s None (digits ++ rest) ≡ stop BadByte rest
pairs_odd [] s rest h o e = absurd (omega arith)
pairs_odd (a ∷ []) s [] h o e = rw (h 0 (omega arith)) refl
pairs_odd (a ∷ []) s (b ∷ rest) h o e = rw (h 0 (omega arith), e) refl
pairs_odd (a ∷ b ∷ digits) s rest h o e =
    pair_passed s a b (digits ++ rest) (h 0 (omega arith)) (h 1 (omega arith))
    ∙ pairs_odd digits (s ++ (hex_value a * 16 + hex_value b) ∷ []) rest (λ k l. h (suc (suc k)) (omega arith)) (omega arith) e

pub front_hex : (bs : List ℕ) (n : ℕ) → n ≤ length bs → ((k : ℕ) → k < n → is_hex (get_or bs k 0) ≡ true) → AreHex (take n bs)
front_hex bs zero h p k l = absurd (omega arith)
front_hex [] (suc n) h p k l = absurd (omega arith)
front_hex (b ∷ bs) (suc n) h p zero l = p 0 (omega arith)
front_hex (b ∷ bs) (suc n) h p (suc k) l = front_hex bs n (omega arith) (λ j q. p (suc j) (omega arith)) k (omega arith)

pub rest_no_hex : (bs : List ℕ) (n : ℕ) → n ≤ length bs → (n < length bs → is_hex (get_or bs n 0) ≡ false) → NoHex (drop n bs)
rest_no_hex [] zero h p = tt
rest_no_hex (b ∷ bs) zero h p = p (omega arith)
rest_no_hex [] (suc n) h p = absurd (omega arith)
rest_no_hex (b ∷ bs) (suc n) h p = rest_no_hex bs n (omega arith) (λ l. p (omega arith))

first_again : (s : List ℕ) (d : ℕ) (u : List ℕ) → d < 16 → digit_pairs s None (hex_digit d ∷ u) ≡ digit_pairs s (Some d) u
first_again s d u p =
    let h = digit_hex d p in
    ap (λ t. cond t (digit_pairs s (Some (hex_value (hex_digit d))) u) (got s (hex_digit d ∷ u))) h.0 ∙ ap (λ n. digit_pairs s (Some n) u) h.1

second_again : (s : List ℕ) (high d : ℕ) (u : List ℕ) → d < 16 → digit_pairs s (Some high) (hex_digit d ∷ u) ≡ digit_pairs (s ++ (high * 16 + d) ∷ []) None u
second_again s high d u p =
    let h = digit_hex d p in
    ap (λ t. cond t (digit_pairs (s ++ (high * 16 + hex_value (hex_digit d)) ∷ []) None u) (stop BadByte (hex_digit d ∷ u))) h.0 ∙ ap (λ n. digit_pairs (s ++ (high * 16 + n) ∷ []) None u) h.1

pairs_again : (r s u : List ℕ) → AreBytes r → NoHex u → digit_pairs s None (flat_map hex_pair r ++ u) ≡ got (s ++ r) u
pairs_again [] s u h k = pairs_end s u k ∙ ap (λ y. got y u) (sym (append-nil s))
pairs_again (b ∷ r) s u h k =
    let p = first_byte b r h in
    let v : b / 16 * 16 + b % 16 ≡ b = omega arith in
    first_again s (b / 16) (hex_digit (b % 16) ∷ flat_map hex_pair r ++ u) (omega arith) ∙ second_again s (b / 16) (b % 16) (flat_map hex_pair r ++ u) (omega arith)
    ∙ ap (λ n. digit_pairs (s ++ n ∷ []) None (flat_map hex_pair r ++ u)) v ∙ pairs_again r (s ++ b ∷ []) u (other_bytes b r h) k ∙ ap (λ y. got y u) (append_assoc s (b ∷ []) r)

pub bytes_again : (s u : List ℕ) → AreBytes s → NoHex u → bytes_literal (datum_text (bytes s) ++ u) ≡ got s u
unfolding bytes_literal
bytes_again s u h k = pairs_again s [] u h k

-- The result depends on the bytes that are passed and on the byte that stops the reader, and on no others.
pairs_local : (bs s : List ℕ) (high : Option ℕ) → LocalAs (digit_pairs s high) bs (digit_pairs s high bs)
pairs_local [] s None = local_empty (digit_pairs s None) refl
pairs_local (b ∷ bs) s None = local_test (is_hex b) (digit_pairs s None) (digit_pairs s (Some (hex_value b))) (λ u. got s u) b (λ u. refl) bs (pairs_local bs s (Some (hex_value b))) (local_got s)
pairs_local [] s (Some high) = local_empty (digit_pairs s (Some high)) refl
pairs_local (b ∷ bs) s (Some high) =
    local_test (is_hex b) (digit_pairs s (Some high)) (digit_pairs (s ++ (high * 16 + hex_value b) ∷ []) None) (λ u. stop BadByte u) b (λ u. refl) bs (pairs_local bs (s ++ (high * 16 + hex_value b) ∷ []) None) (local_stop BadByte)

pub bytes_local : IsLocal bytes_literal
unfolding bytes_literal
bytes_local [] = local_empty bytes_literal refl
bytes_local (b ∷ bs) = local_test (b == 120) bytes_literal (digit_pairs [] None) (λ u. stop BadByte u) b (λ u. refl) bs (pairs_local bs [] None) (local_stop BadByte)
