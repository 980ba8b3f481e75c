-- Parts of a line, one after the other.
use Rattle.std.proofs.Common.{◌≡◌, ℕ, ◌+◌, ◌<◌, ◌≤◌, ◌==◌, Bool, true, false, List, [], ◌∷◌, ◌++◌, Option, None, Some}
use Rattle.std.proofs.Common.{IfSome, OnSome, Result, Ok, if◌then◌else◌, nat_lt, length, take, drop, get_or, refl, sym}
use Rattle.std.proofs.Common.{ap, subst, ◌∙◌, arith, append_assoc, append-nil, length-take-le, ne_eqb, take-take}
use Rattle.std.proofs.Common.{ltb-true, ltb-false, add-zero}
use Rattle.std.proofs.lemmas.List.Elements.{All-nil, All-append}
use Rattle.std.proofs.lemmas.List.{take_more, take-append-drop, take-append-le, get_or-take, get_or_default}
use Rattle.std.specs.Io.KnownBytes.{Consumes, IsAtEnd, prepend_known}
use Rattle.std.specs.Io.BufRead.{DropsConsumable}
use Rattle.std.specs.Int.{from_bool}
pub use Rattle.one_space.specs.Pieces.{NoLineFeed}
use Rattle.one_space.specs.Pieces.{TakesPiece, end_bytes, piece_end_of}
use Rattle.one_space.specs.declared.pieces.PieceEnd.{PieceEnd}
use Rattle.one_space.specs.declared.pieces.PieceEnd.TheVariants.{Full, LineFeed}

-- nothing is taken
pub takes_nothing : (limit : ℕ) (xs before : List ℕ) (left : Option (List ℕ)) → left ≡ Some xs → TakesPiece None limit xs left before before
takes_nothing limit xs before left e = record {
  part = [];
  rest = xs;
  kept = sym (append-nil before);
  one_line = All-nil (λ b. (b == 10) ≡ false);
  taken = refl;
  left_is = e;
  ending = tt;
}

-- one part after another
pub takes_more : (step : Option PieceEnd) (limit : ℕ) (xs before mid after : List ℕ) (known left : Option (List ℕ))
    → TakesPiece None limit xs known before mid → IfSome known (λ ys. TakesPiece step limit ys left mid after) → TakesPiece step limit xs left before after
takes_more step limit xs before mid after known left first second =
    let next = subst (λ o. IfSome o (λ ys. TakesPiece step limit ys left mid after)) first.left_is second in record {
      part = first.part ++ next.part;
      rest = next.rest;
      kept = next.kept ∙ ap (λ l. l ++ next.part) first.kept ∙ append_assoc before first.part next.part;
      one_line = All-append (λ b. (b == 10) ≡ false) first.part next.part first.one_line next.one_line;
      taken = first.taken ∙ ap (λ l. first.part ++ l) next.taken ∙ sym (append_assoc first.part next.part (end_bytes step ++ next.rest));
      left_is = next.left_is;
      ending = next.ending;
    }

pub takes_more_known : (start : Option (List ℕ)) (step : Option PieceEnd) (limit : ℕ) (before mid after : List ℕ) (known left : Option (List ℕ))
    → IfSome start (λ xs. TakesPiece None limit xs known before mid) → IfSome known (λ ys. TakesPiece step limit ys left mid after)
    → IfSome start (λ xs. TakesPiece step limit xs left before after)
takes_more_known None step limit before mid after known left first second = tt
takes_more_known (Some xs) step limit before mid after known left first second = takes_more step limit xs before mid after known left first second

pub takes_nothing_known : (start : Option (List ℕ)) (limit : ℕ) (before : List ℕ) → IfSome start (λ xs. TakesPiece None limit xs start before before)
takes_nothing_known None limit before = tt
takes_nothing_known (Some xs) limit before = takes_nothing limit xs before (Some xs) refl

-- a front with no line feed before its end
pub no_line_feed_before : (xs : List ℕ) (n : ℕ) → n ≤ length xs → ((k : ℕ) → k < n → get_or xs k 0 ≡ 10 → ⊥) → NoLineFeed (take n xs)
no_line_feed_before xs n within before k d below =
    let inside : k < n = omega (arith, length-take-le n xs within) in
    let whole : k < length xs = omega arith in
    ap (λ x. x == 10) (get_or-take n xs k d inside ∙ get_or_default xs k d 0 whole) ∙ ne_eqb (get_or xs k 0) 10 (before k inside)

module _ (limit most count taken : ℕ) (shown before after : List ℕ) where
  abbrev pub shown_part : List ℕ
  shown_part = take most shown

  pub takes_some : (xs : List ℕ) (left : Option (List ℕ)) (is_ended is_at_end is_full : Bool) → most ≤ length shown → after ≡ before ++ take count shown_part → count ≤ length shown_part
      → ((k : ℕ) → k < count → get_or shown_part k 0 ≡ 10 → ⊥) → (count < length shown_part → get_or shown_part count 0 ≡ 10)
      → (is_ended ≡ true → (count < length shown_part) × (taken ≡ count + 1)) → (is_ended ≡ false → (length shown_part ≤ count) × (taken ≡ count))
      → (is_at_end ≡ true → length shown ≡ 0) → (is_full ≡ true → limit ≤ length after)
      → Consumes (Some xs) left (take taken shown) → (length shown ≡ 0 → IsAtEnd left)
      → TakesPiece (piece_end_of is_ended is_at_end is_full) limit xs left before after
  takes_some xs None is_ended is_at_end is_full fits appended within none_before found ended goes_on at_end full consumed end = absurd consumed
  takes_some xs (Some ys) is_ended is_at_end is_full fits appended within none_before found ended goes_on at_end full consumed end =
      let clean = no_line_feed_before shown_part count within none_before in
      let long : length shown_part ≡ most = length-take-le most shown (omega arith) in
      let shorter : take count shown_part ≡ take count shown = take-take count most shown (omega arith) in
      by is_ended is_at_end is_full clean shorter long ended goes_on at_end full
    where
      by : (is_ended is_at_end is_full : Bool) → NoLineFeed (take count shown_part) → take count shown_part ≡ take count shown → length shown_part ≡ most
          → (is_ended ≡ true → (count < length shown_part) × (taken ≡ count + 1)) → (is_ended ≡ false → (length shown_part ≤ count) × (taken ≡ count))
          → (is_at_end ≡ true → length shown ≡ 0) → (is_full ≡ true → limit ≤ length after)
          → TakesPiece (piece_end_of is_ended is_at_end is_full) limit xs (Some ys) before after
      by true is_at_end is_full clean shorter long ended goes_on at_end full =
          let e = ended refl in
          let inside : count < length shown = omega (arith, e.0) in
          let more : take (count + 1) shown ≡ take count shown_part ++ 10 ∷ [] =
          take_more shown count 0 inside ∙ ap (λ l. l ++ get_or shown count 0 ∷ []) (sym shorter)
          ∙ ap (λ x. take count shown_part ++ x ∷ []) (sym (get_or-take most shown count 0 (omega (arith, e.0))) ∙ found e.0) in
          record {
            part = take count shown_part;
            rest = ys;
            kept = appended;
            one_line = clean;
            taken = consumed ∙ ap (λ n. take n shown ++ ys) e.1 ∙ ap (λ l. l ++ ys) more ∙ append_assoc (take count shown_part) (10 ∷ []) ys;
            left_is = refl;
            ending = tt;
          }
      by false true is_full clean shorter long ended goes_on at_end full =
          let e = goes_on refl in record {
            part = take count shown_part;
            rest = ys;
            kept = appended;
            one_line = clean;
            taken = consumed ∙ ap (λ n. take n shown ++ ys) e.1 ∙ ap (λ l. l ++ ys) (sym shorter);
            left_is = refl;
            ending = end (at_end refl);
          }
      by false false true clean shorter long ended goes_on at_end full =
          let e = goes_on refl in record {
            part = take count shown_part;
            rest = ys;
            kept = appended;
            one_line = clean;
            taken = consumed ∙ ap (λ n. take n shown ++ ys) e.1 ∙ ap (λ l. l ++ ys) (sym shorter);
            left_is = refl;
            ending = full refl;
          }
      by false false false clean shorter long ended goes_on at_end full =
          let e = goes_on refl in record {
            part = take count shown_part;
            rest = ys;
            kept = appended;
            one_line = clean;
            taken = consumed ∙ ap (λ n. take n shown ++ ys) e.1 ∙ ap (λ l. l ++ ys) (sym shorter);
            left_is = refl;
            ending = tt;
          }

  pub takes_some_known : (start left : Option (List ℕ)) (is_ended is_at_end is_full : Bool) → most ≤ length shown → after ≡ before ++ take count shown_part → count ≤ length shown_part
      → ((k : ℕ) → k < count → get_or shown_part k 0 ≡ 10 → ⊥) → (count < length shown_part → get_or shown_part count 0 ≡ 10)
      → (is_ended ≡ true → (count < length shown_part) × (taken ≡ count + 1)) → (is_ended ≡ false → (length shown_part ≤ count) × (taken ≡ count))
      → (is_at_end ≡ true → length shown ≡ 0) → (is_full ≡ true → limit ≤ length after)
      → Consumes start left (take taken shown) × (length shown ≡ 0 → OnSome start (IsAtEnd left))
      → IfSome start (λ ys. TakesPiece (piece_end_of is_ended is_at_end is_full) limit ys left before after)
  takes_some_known None left is_ended is_at_end is_full fits appended within none_before found ended goes_on at_end full moved = tt
  takes_some_known (Some ys) left is_ended is_at_end is_full fits appended within none_before found ended goes_on at_end full moved =
      takes_some ys left is_ended is_at_end is_full fits appended within none_before found ended goes_on at_end full moved.0 moved.1

-- a count and whether there is more, as a number
pub ended_cases : (count len more : ℕ) → more ≡ from_bool (nat_lt count len)
    → (nat_lt count len ≡ true → (count < len) × (count + more ≡ count + 1)) × (nat_lt count len ≡ false → (len ≤ count) × (count + more ≡ count))
ended_cases count len more e = (
  λ h. (ltb-true count len h, ap (λ n. count + n) (rw h at e)),
  λ h. (ltb-false count len h, ap (λ n. count + n) (rw h at e) ∙ add-zero count),
)

pub taken_within : (count len more most : ℕ) → count ≤ len → len ≤ most → more ≡ from_bool (nat_lt count len) → count + more ≤ most
taken_within count len more most within fits e = at (nat_lt count len) refl
  where
    at : (b : Bool) → nat_lt count len ≡ b → count + more ≤ most
    at true h = let cases = (ended_cases count len more e).0 h in omega (arith, cases.0, cases.1)
    at false h = let cases = (ended_cases count len more e).1 h in omega (arith, cases.1)

pub Ok-injective : {V E : Type 0} {x y : V} → ◌≡◌ {A = Result V E} (Ok x) (Ok y) → x ≡ y
Ok-injective e = cc

pub full_of : (is_ended is_at_end is_full : Bool) → piece_end_of is_ended is_at_end is_full ≡ Some Full → is_full ≡ true
full_of true a f e = cc
full_of false true f e = cc
full_of false false true e = refl
full_of false false false e = cc

-- The line up to the first line feed of the bytes that are read ahead, which is passed.
pub at_hand : (no_room : Bool) (buffer : List ℕ) (inner left : Option (List ℕ)) (limit place : ℕ) → place < length buffer → ((k : ℕ) → k < place → get_or buffer k 0 ≡ 10 → ⊥) → get_or buffer place 0 ≡ 10
    → DropsConsumable (if no_room then None else prepend_known buffer inner) left (Some (length buffer)) (place + 1)
    → IfSome (if no_room then None else prepend_known buffer inner) (λ xs. TakesPiece (Some LineFeed) limit xs left [] (take place buffer))
at_hand true buffer inner left limit place within before found drops = tt
at_hand false buffer None left limit place within before found drops = tt
at_hand false buffer (Some ys) left limit place within before found drops =
    let front : take (place + 1) (buffer ++ ys) ≡ take place buffer ++ 10 ∷ [] =
    take-append-le (place + 1) buffer ys (omega arith) ∙ take_more buffer place 0 within ∙ ap (λ x. take place buffer ++ x ∷ []) found in
    record {
      part = take place buffer;
      rest = drop (place + 1) (buffer ++ ys);
      kept = refl;
      one_line = no_line_feed_before buffer place (omega arith) before;
      taken =
          sym (take-append-drop (place + 1) (buffer ++ ys)) ∙ ap (λ l. l ++ drop (place + 1) (buffer ++ ys)) front
          ∙ append_assoc (take place buffer) (10 ∷ []) (drop (place + 1) (buffer ++ ys));
      left_is = drops (omega arith);
      ending = tt;
    }
