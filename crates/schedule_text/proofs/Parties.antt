-- The texts of parties, and of several with commas between them.
use Rattle.std.proofs.Common.{◌≡◌, ◌≢◌, ℕ, zero, suc, ◌+◌, ◌-◌, ◌%◌, ◌<◌, ◌≤◌, ◌^◌, Bool, true, false, cond, List, [], ◌∷◌, ◌++◌, length, take, drop, refl, ap, sym, ◌∙◌, arith, subst, append_assoc, append-nil, length-append}
use Rattle.std.specs.Prelude.{slice_index, nat_lt, All}
use Rattle.std.specs.Fmt.{decimal}
use Rattle.std.proofs.lemmas.Bool.{ltb-true, ltb-false, le-ltb}
use Rattle.std.proofs.lemmas.List.{take_rest, take-append-drop}
use Rattle.std.proofs.lemmas.List.Elements.{All-nil, All-cons, All-head, All-tail}
use Rattle.std.proofs.lemmas.Fmt.{decimal_by_steps}
use Rattle.schedule_text.specs.Steps.{party_text, more_parties_text, parties_text, IsPartyNumber}
use Rattle.schedule_text.specs.Reading.{PartyText, ClientText, PartiesText}
use Rattle.schedule_text.proofs.Numbers.{differ}
use Rattle.schedule_text.proofs.Pieces.{NoneBefore}

-- the number of a replica follows an r, that of a client a c
replica_case : (p : ℕ) (digits : List ℕ) (s : Bool) → nat_lt p 256 ≡ s → 114 ∷ digits ≡ cond s (114 ∷ decimal p) (99 ∷ decimal (p - 256)) → (p < 256) × (digits ≡ decimal p)
replica_case p digits true e h = (ltb-true p 256 e, cc)
replica_case p digits false e h = absurd (differ 114 99 digits (decimal (p - 256)) refl h)

pub replica_behind : (p : ℕ) (digits : List ℕ) → PartyText p (114 ∷ digits) → (p < 256) × (digits ≡ decimal p)
replica_behind p digits h = replica_case p digits (nat_lt p 256) refl h.0

client_case : (p : ℕ) (digits : List ℕ) (s : Bool) → nat_lt p 256 ≡ s → 99 ∷ digits ≡ cond s (114 ∷ decimal p) (99 ∷ decimal (p - 256)) → (256 ≤ p) × (digits ≡ decimal (p - 256))
client_case p digits true e h = absurd (differ 99 114 digits (decimal p) refl h)
client_case p digits false e h = (ltb-false p 256 e, cc)

pub client_behind : (p : ℕ) (digits : List ℕ) → PartyText p (99 ∷ digits) → ClientText (p - 256) digits
client_behind p digits h =
    let k : (256 ≤ p) × (digits ≡ decimal (p - 256)) = client_case p digits (nat_lt p 256) refl h.0 in
    let b : p < 65536 = h.1 in
    let a : 256 ≤ p = k.0 in
    (k.1, omega arith)

pub client_text : (n : ℕ) (digits : List ℕ) → digits ≡ decimal n → 99 ∷ digits ≡ party_text (256 + n)
client_text n digits h =
    let above : nat_lt (256 + n) 256 ≡ false = le-ltb (256 + n) 256 (omega arith) in
    let same : n ≡ 256 + n - 256 = omega arith in
    ap (λ ds. 99 ∷ ds) (h ∙ ap decimal same) ∙ sym (ap (λ s. cond s (114 ∷ decimal (256 + n)) (99 ∷ decimal (256 + n - 256))) above)

-- a text of a first byte and others
pub led : (b : ℕ) (word : List ℕ) → 1 ≤ length word → slice_index word 0 ≡ b → word ≡ b ∷ take (length word - 1) (drop 1 word)
led b [] some first = absurd (omega arith)
led b (x ∷ xs) some first = ap (λ y. y ∷ xs) first ∙ ap (λ ys. b ∷ ys) (sym (take_rest (x ∷ xs) 1))

-- ---- no comma stands in the text of a party

abbrev pub NoComma : List ℕ → Type 0
NoComma [] = Unit {0}
NoComma (b ∷ bs) = (b ≢ 44) × NoComma bs

-- nothing, or a comma first
abbrev pub Commas : List ℕ → Type 0
Commas [] = Unit {0}
Commas (b ∷ bs) = b ≡ 44

no_comma_append : (xs ys : List ℕ) → NoComma xs → NoComma ys → NoComma (xs ++ ys)
no_comma_append [] ys h k = k
no_comma_append (x ∷ xs) ys h k = (h.0, no_comma_append xs ys h.1 k)

no_comma_decimal : (n : ℕ) → n < 2 ^ 64 → NoComma (decimal n)
no_comma_decimal n h =
    decimal_by_steps (λ _ ds. NoComma ds)
    (λ m p. (λ e. omega arith, tt))
    (λ m ds p k. no_comma_append ds ((48 + m % 10) ∷ []) k (λ e. omega arith, tt))
    n h

no_comma_case : (p : ℕ) (s : Bool) → p < 2 ^ 16 → NoComma (cond s (114 ∷ decimal p) (99 ∷ decimal (p - 256)))
no_comma_case p true h = (λ e. omega arith, no_comma_decimal p (omega arith))
no_comma_case p false h = (λ e. omega arith, no_comma_decimal (p - 256) (omega arith))

no_comma_party : (p : ℕ) → IsPartyNumber p → NoComma (party_text p)
no_comma_party p h = no_comma_case p (nat_lt p 256) h

commas_more : (ps : List ℕ) → Commas (more_parties_text ps)
commas_more [] = tt
commas_more (p ∷ ps) = refl

-- ---- a text that is parted at its first comma

parts_once : (xs ys us vs : List ℕ) → NoComma xs → NoComma ys → Commas us → Commas vs → xs ++ us ≡ ys ++ vs → (xs ≡ ys) × (us ≡ vs)
parts_once [] [] us vs h k c d e = (refl, e)
parts_once [] (y ∷ ys) [] vs h k c d e = absurd (let g : ⊥ = cc in g)
parts_once [] (y ∷ ys) (u ∷ us) vs h k c d e = let g : y ≡ 44 = cc in absurd (k.0 g)
parts_once (x ∷ xs) [] us [] h k c d e = absurd (let g : ⊥ = cc in g)
parts_once (x ∷ xs) [] us (v ∷ vs) h k c d e = let g : x ≡ 44 = cc in absurd (h.0 g)
parts_once (x ∷ xs) (y ∷ ys) us vs h k c d e =
    let first : x ≡ y = cc in
    let others : xs ++ us ≡ ys ++ vs = cc in
    let r = parts_once xs ys us vs h.1 k.1 c d others in
    (ap (λ t. t ∷ xs) first ∙ ap (λ t. y ∷ t) r.0, r.1)

none_in : (xs : List ℕ) (n : ℕ) → n ≤ length xs → NoneBefore 44 xs n → NoComma (take n xs)
none_in [] zero within before = tt
none_in [] (suc n) within before = absurd (omega arith)
none_in (b ∷ bs) zero within before = tt
none_in (b ∷ bs) (suc n) within before = (before 0 (omega arith), none_in bs n (omega arith) (λ k p. before (suc k) (omega arith)))

commas_in : (xs : List ℕ) (n : ℕ) → n ≤ length xs → (n < length xs → slice_index xs n ≡ 44) → Commas (drop n xs)
commas_in [] zero within found = tt
commas_in [] (suc n) within found = absurd (omega arith)
commas_in (b ∷ bs) zero within found = found (omega arith)
commas_in (b ∷ bs) (suc n) within found = commas_in bs n (omega arith) (λ p. found (omega arith))

-- A list of parties whose text is parted at a comma: the first party stands before the comma, the others after it.
abbrev Parted : List ℕ → List ℕ → ℕ → List ℕ → Type 0
Parted front behind q qs = PartyText q front × (behind ≡ more_parties_text qs) × All IsPartyNumber qs

parted : (front behind : List ℕ) → NoComma front → Commas behind → (q : ℕ) (qs : List ℕ) → PartiesText (q ∷ qs) (front ++ behind) → Parted front behind q qs
parted front behind none comma q qs h =
    let one : IsPartyNumber q = All-head IsPartyNumber q qs h.2 in
    let r = parts_once front (party_text q) behind (more_parties_text qs) none (no_comma_party q one) comma (commas_more qs) h.1 in
    ((r.0, one), r.1, All-tail IsPartyNumber q qs h.2)

-- the first of a list of parties, whose text this is
first_party : (front behind : List ℕ) → NoComma front → Commas behind → (qs : List ℕ) → PartiesText qs (front ++ behind) → (q : ℕ) × PartyText q front
first_party front behind none comma [] h = absurd (h.0 refl)
first_party front behind none comma (q ∷ qs) h = (q, (parted front behind none comma q qs h).0)

-- Of the word the parties done are read, and the rest is left.
pub record Leaves (done rest word : List ℕ) : Type 0 where
  pub forth : (qs : List ℕ) → PartiesText qs rest → PartiesText (done ++ qs) word
  pub back : (ps : List ℕ) → PartiesText ps word → (qs : List ℕ) × PartiesText qs rest

pub leaves_all : (word : List ℕ) → Leaves [] word word
leaves_all word = record { forth = λ qs h. h; back = λ ps h. (ps, h) }

with_first : (p : ℕ) (front more qs : List ℕ) → PartyText p front → PartiesText qs more → PartiesText (p ∷ qs) (front ++ 44 ∷ more)
with_first p front more [] h k = absurd (k.0 refl)
with_first p front more (q ∷ qs) h k = (
  (λ e. let g : ⊥ = cc in g),
  ap (λ t. t ++ 44 ∷ more) h.0 ∙ ap (λ t. party_text p ++ 44 ∷ t) k.1,
  All-cons IsPartyNumber p (q ∷ qs) h.1 k.2,
)

others : (more qs : List ℕ) → 44 ∷ more ≡ more_parties_text qs → All IsPartyNumber qs → PartiesText qs more
others more [] e h = absurd (let g : ⊥ = cc in g)
others more (q ∷ qs) e h = ((λ n. let g : ⊥ = cc in g), (let g : more ≡ parties_text (q ∷ qs) = cc in g), h)

behind_first : (front more : List ℕ) → NoComma front → (qs : List ℕ) → PartiesText qs (front ++ 44 ∷ more) → (rs : List ℕ) × PartiesText rs more
behind_first front more none [] h = absurd (h.0 refl)
behind_first front more none (q ∷ qs) h =
    let r = parted front (44 ∷ more) none refl q qs h in
    (qs, others more qs r.1 r.2)

-- one party more is read, up to a comma
leaves_more : (done rest word front more : List ℕ) (p : ℕ) → Leaves done rest word → NoComma front → rest ≡ front ++ 44 ∷ more → PartyText p front → Leaves (done ++ p ∷ []) more word
leaves_more done rest word front more p l none e h = record {
  forth = λ qs k.
      subst (λ ds. PartiesText ds word) (sym (append_assoc done (p ∷ []) qs))
      (l.forth (p ∷ qs) (subst (PartiesText (p ∷ qs)) (sym e) (with_first p front more qs h k)));
  back = λ ps k.
      let g = l.back ps k in
      behind_first front more none g.0 (subst (PartiesText g.0) e g.1);
}

-- the last party is read
leaves_none : (done word front : List ℕ) (p : ℕ) → Leaves done front word → PartyText p front → PartiesText (done ++ p ∷ []) word
leaves_none done word front p l h =
    l.forth (p ∷ []) ((λ e. let g : ⊥ = cc in g), h.0 ∙ sym (append-nil (party_text p)), All-cons IsPartyNumber p [] h.1 (All-nil IsPartyNumber))

-- ---- the turns of the loop

-- The text is parted at its first comma.
pub record At (rest front behind : List ℕ) : Type 0 where
  pub whole : rest ≡ front ++ behind
  pub none : NoComma front
  pub comma : Commas behind

pub at_comma : (rest front behind : List ℕ) (n : ℕ) → n ≤ length rest → NoneBefore 44 rest n → (n < length rest → slice_index rest n ≡ 44)
    → front ≡ take n rest → behind ≡ drop n rest → At rest front behind
at_comma rest front behind n within before found f b = record {
  whole = sym (take-append-drop n rest) ∙ ap (λ t. t ++ drop n rest) (sym f) ∙ ap (λ t. front ++ t) (sym b);
  none = subst NoComma (sym f) (none_in rest n within before);
  comma = subst Commas (sym b) (commas_in rest n within found);
}

-- the bytes before the comma are no party's text, and so the word is no list's text
pub no_parties : (done rest word front behind : List ℕ) → Leaves done rest word → At rest front behind
    → ((p : ℕ) → PartyText p front → ⊥) → (ps : List ℕ) → PartiesText ps word → ⊥
no_parties done rest word front behind l a none ps h =
    let g = l.back ps h in
    let q = first_party front behind a.none a.comma g.0 (subst (PartiesText g.0) a.whole g.1) in
    none q.0 q.1

pub last_party : (done rest word front behind : List ℕ) (p : ℕ) → Leaves done rest word → At rest front behind
    → length behind < 1 → PartyText p front → PartiesText (done ++ p ∷ []) word
last_party done rest word front [] p l a few h =
    leaves_none done word front p (subst (λ t. Leaves done t word) (a.whole ∙ append-nil front) l) h
last_party done rest word front (b ∷ bs) p l a few h = absurd (omega arith)

-- the rest after the comma
abbrev pub behind_comma : List ℕ → List ℕ
behind_comma behind = take (length behind - 1) (drop 1 behind)

pub next_party : (done rest word front behind : List ℕ) (p : ℕ) → Leaves done rest word → At rest front behind
    → 1 ≤ length behind → PartyText p front → Leaves (done ++ p ∷ []) (behind_comma behind) word
next_party done rest word front [] p l a some h = absurd (omega arith)
next_party done rest word front (b ∷ bs) p l a some h =
    let left : bs ≡ behind_comma (b ∷ bs) = sym (take_rest (b ∷ bs) 1) in
    let comma : b ∷ bs ≡ 44 ∷ bs = ap (λ c. c ∷ bs) a.comma in
    subst (λ t. Leaves (done ++ p ∷ []) t word) left
    (leaves_more done rest word front bs p l a.none (a.whole ∙ ap (λ t. front ++ t) comma) h)

pub fewer : (rest front behind : List ℕ) → At rest front behind → 1 ≤ length behind → length (behind_comma behind) < length rest
fewer rest front [] a some = absurd (omega arith)
fewer rest front (b ∷ bs) a some =
    let left : behind_comma (b ∷ bs) ≡ bs = take_rest (b ∷ bs) 1 in
    let here : length (behind_comma (b ∷ bs)) ≡ length bs = ap length left in
    let all : length rest ≡ length front + length (b ∷ bs) = ap length a.whole ∙ length-append front (b ∷ bs) in
    omega arith
