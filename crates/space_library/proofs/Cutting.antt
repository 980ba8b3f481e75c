-- Texts that are cut from bytes, one behind another.
use Rattle.std.proofs.Common.{◌≡◌, ◌≢◌, ℕ, ◌+◌, ◌<◌, ◌≤◌, List, [], ◌∷◌, ◌++◌, length, take, drop, get_or, Result, Err, ap, sym, ◌∙◌, subst}
use Rattle.std.proofs.Common.{arith, append_assoc, append-nil}
use Rattle.std.proofs.lemmas.List.{at_drop_more, at_drop_all, map-append}
use Rattle.std.specs.Borrow.{Bor}
use Rattle.tuple_codec.specs.declared.bad.Bad.{Bad}
use Rattle.tuple_codec.specs.declared.bad.Bad.TheVariants.{Malformed, NoMemory}
use Rattle.space.specs.Births.{SpaceState}
use Rattle.space.specs.Pages.{ArePagesOfTuples, ReadsEachState, texts_of}
use Rattle.space_library.specs.Paged.{ArePagesCut, ArePagesOfNone, cut, total}

-- One text more: what is cut, and what is left to be cut, is all.
pub one_cut : (ns : List ℕ) (i n : ℕ) (pages more : List (Bor (List ℕ))) (page : Bor (List ℕ)) (rest after : List ℕ) (whole : List (List ℕ))
    → i < length ns → n ≡ get_or ns i 0 → more ≡ pages ++ page ∷ [] → page.now ≡ take n rest → after ≡ drop n rest
    → texts_of pages ++ cut (drop i ns) rest ≡ whole → texts_of more ++ cut (drop (i + 1) ns) after ≡ whole
one_cut ns i n pages more page rest after whole p is pushed first behind so_far =
    let left : List (List ℕ) = cut (drop (i + 1) ns) after in
    let next : cut (drop i ns) rest ≡ take n rest ∷ cut (drop (i + 1) ns) (drop n rest) =
    at_drop_more (λ ms. cut ms rest) ns i 0 p ∙ ap (λ m. cut (m ∷ drop (i + 1) ns) rest) (sym is) in
    let here : page.now ∷ left ≡ cut (drop i ns) rest =
    ap (λ t. t ∷ left) first ∙ ap (λ bs. take n rest ∷ cut (drop (i + 1) ns) bs) behind ∙ sym next in
    ap (λ ps. texts_of ps ++ left) pushed ∙ ap (λ ts. ts ++ left) (map-append (λ b. b.now) pages (page ∷ []))
    ∙ append_assoc (texts_of pages) (page.now ∷ []) left ∙ ap (λ ts. texts_of pages ++ ts) here ∙ so_far

next_total : (ns : List ℕ) (i n : ℕ) → i < length ns → n ≡ get_or ns i 0 → total (drop i ns) ≡ n + total (drop (i + 1) ns)
next_total ns i n p is = at_drop_more total ns i 0 p ∙ ap (λ m. m + total (drop (i + 1) ns)) (sym is)

-- So many bytes are cut, and so many are left.
pub one_counted : (ns : List ℕ) (i n rest after texts : ℕ) → i < length ns → n ≡ get_or ns i 0 → n ≤ rest → after + n ≡ rest
    → total ns + rest ≡ total (drop i ns) + texts → total ns + after ≡ total (drop (i + 1) ns) + texts
one_counted ns i n rest after texts p is low behind so_far =
    let next = next_total ns i n p is in
    omega (arith, next, low, behind, so_far)

pub too_long : (ns : List ℕ) (i n rest texts : ℕ) → i < length ns → n ≡ get_or ns i 0 → rest < n
    → total ns + rest ≡ total (drop i ns) + texts → total ns ≢ texts
too_long ns i n rest texts p is more so_far all =
    let next = next_total ns i n p is in
    omega (arith, next, more, so_far, all)

last_total : (ns : List ℕ) (i : ℕ) → length ns ≤ i → total (drop i ns) ≡ 0
last_total ns i past = at_drop_all total ns i past

pub too_short : (ns : List ℕ) (i rest texts : ℕ) → length ns ≤ i → 0 < rest → total ns + rest ≡ total (drop i ns) + texts → total ns ≢ texts
too_short ns i rest texts past some so_far all =
    let none = last_total ns i past in
    omega (arith, none, some, so_far, all)

pub all_counted : (ns : List ℕ) (i rest texts : ℕ) → length ns ≤ i → rest ≡ 0 → total ns + rest ≡ total (drop i ns) + texts → total ns ≡ texts
all_counted ns i rest texts past none so_far =
    let last = last_total ns i past in
    omega (arith, last, none, so_far)

pub all_cut : (ns : List ℕ) (i : ℕ) (pages : List (Bor (List ℕ))) (rest : List ℕ) (whole : List (List ℕ)) → length ns ≤ i
    → texts_of pages ++ cut (drop i ns) rest ≡ whole → texts_of pages ≡ whole
all_cut ns i pages rest whole past so_far =
    sym (append-nil (texts_of pages)) ∙ sym (at_drop_all (λ ms. texts_of pages ++ cut ms rest) ns i past) ∙ so_far

-- ---- What is read of texts that were cut.

pub none_by_total : (ns texts header : List ℕ) → total ns ≢ length texts → ArePagesOfNone ns texts header
none_by_total ns texts header other s number are = other are.all

abbrev IsMalformed : Bad → Type 0
IsMalformed Malformed = Unit {0}
IsMalformed NoMemory = ⊥

pub none_by_pages : (ns texts header : List ℕ) (pages : List (List ℕ)) (result : Result (SpaceState × ℕ) Bad) → pages ≡ cut ns texts
    → ReadsEachState pages header result → result ≡ Err Malformed → ArePagesOfNone ns texts header
none_by_pages ns texts header pages result e reads refused s number are =
    let told : ReadsEachState pages header (Err Malformed) = subst (λ r. ReadsEachState pages header r) refused reads in
    subst IsMalformed (told s number (subst (λ ts. ArePagesOfTuples ts header s number) (sym e) are.pages)) tt

pub pages_cut : (ns texts header : List ℕ) (pages : List (List ℕ)) (s : SpaceState) (number : ℕ) → pages ≡ cut ns texts → total ns ≡ length texts
    → ArePagesOfTuples pages header s number → ArePagesCut ns texts header s number
pages_cut ns texts header pages s number e all are = record { all = all; pages = subst (λ ts. ArePagesOfTuples ts header s number) e are }
