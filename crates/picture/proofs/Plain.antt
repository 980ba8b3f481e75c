-- The properties of escaped texts.
use Rattle.std.proofs.Common.{◌≡◌, ℕ, List, [], ◌∷◌, ◌++◌, Bool, true, false, refl, ap, sym, ◌∙◌, arith}
use Rattle.std.specs.Prelude.{◌==◌, ◌||◌, ◌&&◌, not, if◌then◌else◌, codes}
use Rattle.std.specs.List.{list_all}
use Rattle.std.proofs.lemmas.Bool.{false≢true}
use Rattle.std.proofs.lemmas.List.Folds.{list_all-append}
use Rattle.picture.specs.Escaping.{is_allowed, allowed, escaped_character, escaped_text, is_plain_character, BeginsEntity, EntitiesBegin}

-- the texts of characters that are none of the first four, none of the first three, and so on
abbrev but_quote : ℕ → List ℕ
but_quote c = if c == 39 then codes "&apos;" else allowed c ∷ []

abbrev but_greater : ℕ → List ℕ
but_greater c = if c == 34 then codes "&quot;" else but_quote c

abbrev but_less : ℕ → List ℕ
but_less c = if c == 62 then codes "&gt;" else but_greater c

abbrev but_amp : ℕ → List ℕ
but_amp c = if c == 60 then codes "&lt;" else but_less c

-- ---- its characters

plain_bits : (a x y z w : Bool) → a ≡ true → x ≡ false → y ≡ false → z ≡ false → w ≡ false → (a && not (x || y || z || w)) ≡ true
plain_bits a x y z w ea ex ey ez ew = rw (ea, ex, ey, ez, ew) refl

plain_allowed : (c : ℕ) → (c == 60) ≡ false → (c == 62) ≡ false → (c == 34) ≡ false → (c == 39) ≡ false → is_plain_character (allowed c) ≡ true
plain_allowed c less greater quote apostrophe = by (is_allowed c) refl
  where
    by : (b : Bool) → is_allowed c ≡ b → is_plain_character (if b then c else 0xfffd) ≡ true
    by true e = plain_bits (is_allowed c) (c == 60) (c == 62) (c == 34) (c == 39) e less greater quote apostrophe
    by false e = refl

plain_one : (c : ℕ) → is_plain_character c ≡ true → list_all is_plain_character (c ∷ []) ≡ true
plain_one c e = ap (λ b. b && true) e

plain_if : (b : Bool) (xs ys : List ℕ) → list_all is_plain_character xs ≡ true → (b ≡ false → list_all is_plain_character ys ≡ true) → list_all is_plain_character (if b then xs else ys) ≡ true
plain_if true xs ys h k = h
plain_if false xs ys h k = k refl

plain_character : (c : ℕ) → list_all is_plain_character (escaped_character c) ≡ true
plain_character c =
    plain_if (c == 38) (codes "&amp;") (but_amp c) refl (λ amp.
    plain_if (c == 60) (codes "&lt;") (but_less c) refl (λ less.
    plain_if (c == 62) (codes "&gt;") (but_greater c) refl (λ greater.
    plain_if (c == 34) (codes "&quot;") (but_quote c) refl (λ quote.
    plain_if (c == 39) (codes "&apos;") (allowed c ∷ []) refl (λ apostrophe.
    plain_one (allowed c) (plain_allowed c less greater quote apostrophe))))))

pub plain_text : (cs : List ℕ) → list_all is_plain_character (escaped_text cs) ≡ true
plain_text [] = refl
plain_text (c ∷ cs) =
    list_all-append is_plain_character (escaped_character c) (escaped_text cs) ∙ ap (λ b. b && list_all is_plain_character (escaped_text cs)) (plain_character c)
    ∙ plain_text cs

-- ---- its entities

no_amp : (c : ℕ) (cs : List ℕ) → (c == 38) ≡ false → c ≡ 38 → BeginsEntity (c ∷ cs)
no_amp c cs e same = absurd (false≢true (sym e ∙ ap (λ x. x == 38) same))

amp_begins : (rest : List ℕ) → EntitiesBegin rest → EntitiesBegin (codes "&amp;" ++ rest)
amp_begins rest h =
    ((λ _. (codes "&amp;", rest, (0, omega arith, refl), refl)), (no_amp 97 _ refl, (no_amp 109 _ refl, (no_amp 112 _ refl, (no_amp 59 _ refl, h)))))

less_begins : (rest : List ℕ) → EntitiesBegin rest → EntitiesBegin (codes "&lt;" ++ rest)
less_begins rest h =
    ((λ _. (codes "&lt;", rest, (1, omega arith, refl), refl)), (no_amp 108 _ refl, (no_amp 116 _ refl, (no_amp 59 _ refl, h))))

greater_begins : (rest : List ℕ) → EntitiesBegin rest → EntitiesBegin (codes "&gt;" ++ rest)
greater_begins rest h =
    ((λ _. (codes "&gt;", rest, (2, omega arith, refl), refl)), (no_amp 103 _ refl, (no_amp 116 _ refl, (no_amp 59 _ refl, h))))

quote_begins : (rest : List ℕ) → EntitiesBegin rest → EntitiesBegin (codes "&quot;" ++ rest)
quote_begins rest h =
    ((λ _. (codes "&quot;", rest, (3, omega arith, refl), refl)), (no_amp 113 _ refl, (no_amp 117 _ refl, (no_amp 111 _ refl, (no_amp 116 _ refl, (no_amp 59 _ refl, h))))))

apostrophe_begins : (rest : List ℕ) → EntitiesBegin rest → EntitiesBegin (codes "&apos;" ++ rest)
apostrophe_begins rest h =
    ((λ _. (codes "&apos;", rest, (4, omega arith, refl), refl)), (no_amp 97 _ refl, (no_amp 112 _ refl, (no_amp 111 _ refl, (no_amp 115 _ refl, (no_amp 59 _ refl, h))))))

allowed_no_amp : (c : ℕ) → (c == 38) ≡ false → (allowed c == 38) ≡ false
allowed_no_amp c e = by (is_allowed c)
  where
    by : (b : Bool) → ((if b then c else 0xfffd) == 38) ≡ false
    by true = e
    by false = refl

entity_if : (b : Bool) (xs ys rest : List ℕ) → EntitiesBegin (xs ++ rest) → (b ≡ false → EntitiesBegin (ys ++ rest)) → EntitiesBegin ((if b then xs else ys) ++ rest)
entity_if true xs ys rest h k = h
entity_if false xs ys rest h k = k refl

entity_character : (c : ℕ) (rest : List ℕ) → EntitiesBegin rest → EntitiesBegin (escaped_character c ++ rest)
entity_character c rest h =
    entity_if (c == 38) (codes "&amp;") (but_amp c) rest (amp_begins rest h) (λ amp.
    entity_if (c == 60) (codes "&lt;") (but_less c) rest (less_begins rest h) (λ less.
    entity_if (c == 62) (codes "&gt;") (but_greater c) rest (greater_begins rest h) (λ greater.
    entity_if (c == 34) (codes "&quot;") (but_quote c) rest (quote_begins rest h) (λ quote.
    entity_if (c == 39) (codes "&apos;") (allowed c ∷ []) rest (apostrophe_begins rest h) (λ apostrophe.
    (no_amp (allowed c) rest (allowed_no_amp c amp), h))))))

pub entities_begin : (cs : List ℕ) → EntitiesBegin (escaped_text cs)
entities_begin [] = tt
entities_begin (c ∷ cs) = entity_character c (escaped_text cs) (entities_begin cs)
