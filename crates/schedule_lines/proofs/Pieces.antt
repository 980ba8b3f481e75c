-- From pieces to lines.
use Rattle.std.proofs.Common.{◌≡◌, inl, inr, ℕ, zero, suc, ◌+◌, ◌-◌, ◌<◌, ◌≤◌, ◌==◌, min, false, List, [], ◌∷◌, ◌++◌, Option, None, Some, IfSome, Result, Ok, Err, length, take, get_or, refl, sym, ap, subst, ◌∙◌, arith, append_assoc, append-nil, length-append}
use Rattle.std.proofs.lemmas.Bool.{cases_lt}
use Rattle.std.proofs.lemmas.List.Elements.{All-nil, All-append}
use Rattle.std.proofs.Math.Nat.{min-eq_left, min-eq_right, le_of_lt}
use Rattle.std.specs.Str.Lines.{lines, strip_carriage_return}
use Rattle.std.specs.Io.BufRead.{drop_through, DropsThrough}
use Rattle.tuple_text.specs.Texts.{AreBlanks}
use Rattle.tuple_text.specs.Lines.{IsComment}
use Rattle.one_space.specs.Pieces.{NoLineFeed, TakesPiece}
use Rattle.one_space.specs.NextLines.{IsNextLine}
use Rattle.one_space.specs.declared.pieces.PieceEnd.TheVariants.{Full, LineFeed, InputEnd}
use Rattle.one_space.specs.declared.pieces.ReadFault.{ReadFault}
use Rattle.one_space.specs.declared.pieces.ReadFault.TheVariants as read
use Rattle.one_space.proofs.LineLemmas.{lines-at, lines-last, long_line_of}
use Rattle.schedule_text.specs.declared.fault.Reason.{Reason}
use Rattle.schedule_text.specs.declared.lines.TheConstants.{MAX_STEP}
use Rattle.schedule_text.specs.Words.{trimmed}
use Rattle.schedule_lines.specs.Reading.{IsJudged, IsRefused, JudgesLine, ReturnsLine, NextLineFails, ReadsLine, ReadsNext, ReadsOn, no_line_of}
use Rattle.schedule_lines.specs.declared.lines.NextLine.{NextLine}
use Rattle.schedule_lines.specs.declared.lines.NextLine.TheVariants as next
use Rattle.schedule_lines.specs.declared.lines.NoLine.{NoLine}
use Rattle.schedule_lines.specs.declared.lines.NoLine.TheVariants as no
use Rattle.schedule_lines.proofs.Trimmed.{trimmed_before, trimmed_front, none_long, not_comment}

-- the judgement of the first line is that of the bytes
module _ (l xs : List ℕ) (left : Option (List ℕ)) where
  given_of : (given : NextLine) → IsNextLine l xs left → IsJudged given l → ReturnsLine given xs left
  given_of next.End first judged = absurd judged
  given_of next.Skipped first judged = (l, first, judged)
  given_of (next.Step step) first judged = (l, first, judged)

  failed_of : (failed : NoLine) → IsNextLine l xs left → IsRefused failed l → NextLineFails failed xs
  failed_of (no.Refused byte reason) first refused = record { first = l; others = lines first.rest; split = first.split; holds = refused }
  failed_of no.NoMemory first refused = tt
  failed_of (no.Read error) first refused = absurd refused

  pub judged_of : (r : Result NextLine NoLine) → IsNextLine l xs left → JudgesLine r l → ReadsLine r xs left
  judged_of (Ok given) first judged = given_of given first judged
  judged_of (Err failed) first judged = failed_of failed first judged

-- a piece behind these bytes
module _ (before after ys : List ℕ) (left : Option (List ℕ)) (limit : ℕ) (clean : NoLineFeed before) where
  pub pure : (part : List ℕ) → after ≡ before ++ part → NoLineFeed part → NoLineFeed after
  pure part kept one_line = subst NoLineFeed (sym kept) (All-append (λ b. (b == 10) ≡ false) before part clean one_line)

  -- the bytes before and after it
  pub joined : (part rest : List ℕ) → after ≡ before ++ part → ys ≡ part ++ rest → before ++ ys ≡ after ++ rest
  joined part rest kept taken = ap (λ l. before ++ l) taken ∙ sym (append_assoc before part rest) ∙ ap (λ l. l ++ rest) (sym kept)

  pub ends_at : TakesPiece (Some LineFeed) limit ys left before after → IsNextLine (strip_carriage_return after) (before ++ ys) left
  ends_at t = record {
    rest = t.rest;
    split = ap lines (joined t.part (10 ∷ t.rest) t.kept t.taken) ∙ lines-at after t.rest (pure t.part t.kept t.one_line);
    left_is = t.left_is;
  }

  pub ends_last : TakesPiece (Some InputEnd) limit ys left before after → 0 < length after → IsNextLine after (before ++ ys) left
  ends_last t some = record {
    rest = t.rest;
    split = ap lines (joined t.part t.rest t.kept t.taken ∙ ap (λ l. after ++ l) t.ending ∙ append-nil after)
        ∙ lines-last after (pure t.part t.kept t.one_line) some ∙ ap (λ l. after ∷ lines l) (sym t.ending);
    left_is = t.left_is;
  }

pub at_feed : (start left : Option (List ℕ)) (limit : ℕ) (before after : List ℕ) (r : Result NextLine NoLine)
    → IfSome start (λ ys. TakesPiece (Some LineFeed) limit ys left before after) → JudgesLine r (strip_carriage_return after) → ReadsOn r before start left
at_feed None left limit before after r taken judged = tt
at_feed (Some ys) left limit before after r taken judged = λ clean.
    judged_of (strip_carriage_return after) (before ++ ys) left r (ends_at before after ys left limit clean taken) judged

pub at_end : (start left : Option (List ℕ)) (limit : ℕ) (before after : List ℕ) (r : Result NextLine NoLine)
    → 0 < length after → IfSome start (λ ys. TakesPiece (Some InputEnd) limit ys left before after) → JudgesLine r after → ReadsOn r before start left
at_end None left limit before after r some taken judged = tt
at_end (Some ys) left limit before after r some taken judged = λ clean.
    judged_of after (before ++ ys) left r (ends_last before after ys left limit clean taken some) judged

-- the same, where the bytes before are some
pub at_end_behind : (start left : Option (List ℕ)) (limit : ℕ) (before after : List ℕ) (r : Result NextLine NoLine)
    → 0 < length before → IfSome start (λ ys. TakesPiece (Some InputEnd) limit ys left before after) → JudgesLine r after → ReadsOn r before start left
at_end_behind None left limit before after r some taken judged = tt
at_end_behind (Some ys) left limit before after r some taken judged =
    at_end (Some ys) left limit before after r (omega (arith, some, ap length taken.kept, length-append before taken.part)) taken judged

-- the line goes on behind a full piece
pub on_piece : (start known left : Option (List ℕ)) (limit : ℕ) (before after : List ℕ) (r : Result NextLine NoLine)
    → IfSome start (λ ys. TakesPiece (Some Full) limit ys known before after) → ReadsOn r after known left → ReadsOn r before start left
on_piece None known left limit before after r taken read = tt
on_piece (Some ys) known left limit before after r taken read = λ clean.
    let told = subst (λ o. ReadsOn r after o left) taken.left_is read in
    subst (λ bytes. ReadsLine r bytes left) (sym (joined before after ys known limit clean taken.part taken.rest taken.kept taken.taken))
    (told (pure before after ys known limit clean taken.part taken.kept taken.one_line))

-- a piece behind a blank begins no comment
pub on_blank : (start known left : Option (List ℕ)) (limit : ℕ) (after : List ℕ) (r : Result NextLine NoLine)
    → IfSome start (λ ys. TakesPiece (Some Full) limit ys known (32 ∷ []) after) → ((IsComment after → ⊥) → ReadsOn r after known left)
    → ReadsOn r (32 ∷ []) start left
on_blank None known left limit after r taken read = tt
on_blank (Some ys) known left limit after r taken read =
    on_piece (Some ys) known left limit (32 ∷ []) after r taken (read (λ c. not_comment [] taken.part tt (subst IsComment taken.kept c)))

clean_none : NoLineFeed []
clean_none = All-nil (λ b. (b == 10) ≡ false)

-- a line from its beginning
pub from_first : (start left : Option (List ℕ)) (r : Result NextLine NoLine) → ReadsOn r [] start left → ReadsNext r start left
from_first None left r read = tt
from_first (Some ys) left r read = read clean_none

nothing : (l : List ℕ) → length l ≡ 0 → l ≡ []
nothing [] e = refl
nothing (x ∷ l) e = absurd (omega arith)

pub no_line_left : (start left : Option (List ℕ)) (limit : ℕ) (after : List ℕ) → length after ≡ 0
    → IfSome start (λ ys. TakesPiece (Some InputEnd) limit ys left [] after) → ReadsNext (Ok next.End) start left
no_line_left None left limit after none taken = tt
no_line_left (Some ys) left limit after none taken =
    ap lines (joined [] after ys left limit clean_none taken.part taken.rest taken.kept taken.taken ∙ ap (λ l. after ++ l) taken.ending ∙ append-nil after ∙ nothing after none)

no_line : (fault : ReadFault) (bytes : List ℕ) → NextLineFails (no_line_of fault) bytes
no_line read.NoMemory bytes = tt
no_line (read.Read error) bytes = tt

pub not_read : (start left : Option (List ℕ)) (before : List ℕ) (fault : ReadFault) → ReadsOn (Err (no_line_of fault)) before start left
not_read None left before fault = tt
not_read (Some ys) left before fault = λ clean. no_line fault (before ++ ys)

pub not_next : (start left : Option (List ℕ)) (fault : ReadFault) → ReadsNext (Err (no_line_of fault)) start left
not_next start left fault = from_first start left (Err (no_line_of fault)) (not_read start left [] fault)

pub no_memory : (start left : Option (List ℕ)) (before : List ℕ) → ReadsOn (Err no.NoMemory) before start left
no_memory start left before = not_read start left before read.NoMemory

-- ---- long lines

comment_front : (l p : List ℕ) → take 1 l ≡ take 1 p → 1 ≤ length l → 1 ≤ length p → get_or p 0 0 ≡ 35 → IsComment l
comment_front [] p same more some hash = absurd (omega arith)
comment_front (x ∷ l) [] same more some hash = absurd (omega arith)
comment_front (x ∷ l) (y ∷ p) same more some hash = let e : x ≡ y = cc in e ∙ hash

pub skips_comment : (start left : Option (List ℕ)) (line : List ℕ) → DropsThrough start left 10 → 2 ≤ length line → get_or line 0 0 ≡ 35
    → ReadsOn (Ok next.Skipped) line start left
skips_comment None left line drops long hash = tt
skips_comment (Some ys) left line drops long hash = λ clean.
    let whole = long_line_of line ys 1 clean (omega arith) in (
      whole.line,
      record { rest = drop_through 10 ys; split = whole.split; left_is = drops },
      inr (comment_front whole.line line whole.front (omega (arith, whole.long)) (omega arith) hash),
    )

comment_back : (l p q : List ℕ) (n : ℕ) → take n l ≡ take n (p ++ q) → 1 ≤ n → 1 ≤ length p → IsComment l → IsComment p
comment_back l p q zero same some more c = absurd (omega arith)
comment_back [] p q (suc n) same some more c = absurd c
comment_back (x ∷ l) [] q (suc n) same some more c = absurd (omega arith)
comment_back (x ∷ l) (y ∷ p) q (suc n) same some more c = let e : x ≡ y = cc in sym e ∙ c

pub some_of : (p : List ℕ) → (AreBlanks p → ⊥) → 1 ≤ length p
some_of [] other = absurd (other tt)
some_of (x ∷ p) other = omega arith

-- the line that begins with these bytes and with a piece behind them, in all more than a step may have
refused_long : (before after ys : List ℕ) (left : Option (List ℕ)) (limit byte : ℕ) (reason : Reason) → NoLineFeed before → TakesPiece (Some Full) limit ys left before after
    → (AreBlanks before → ⊥) → (IsComment before → ⊥) → (length before - length (trimmed before)) + (MAX_STEP + 2) ≤ length after
    → NextLineFails (no.Refused byte reason) (before ++ ys)
refused_long before after ys left limit byte reason clean t other plain long =
    let n = length after - 1 in
    let some = some_of before other in
    let size : length after ≡ length before + length t.part = ap length t.kept ∙ length-append before t.part in
    let whole = long_line_of after t.rest n (pure before after ys left limit clean t.part t.kept t.one_line) (omega (arith, size, some)) in
    let left_of : trimmed after ≡ trimmed before ++ t.part = ap trimmed t.kept ∙ trimmed_before before t.part other in
    let count : length (trimmed after) ≡ length (trimmed before) + length t.part = ap length left_of ∙ length-append (trimmed before) t.part in
    let enough : MAX_STEP < length (trimmed (take n after)) = omega (arith, long, size, some, count, trimmed_front after n) in
    record {
      first = whole.line;
      others = lines (drop_through 10 t.rest);
      split = ap lines (joined before after ys left limit clean t.part t.rest t.kept t.taken) ∙ whole.split;
      holds = none_long whole.line (take n after) n whole.front
          (λ c. plain (comment_back whole.line before t.part n (whole.front ∙ ap (take n) t.kept) (omega (arith, size, some, long)) some c)) enough;
    }

pub too_long_on : (start left : Option (List ℕ)) (limit byte : ℕ) (reason : Reason) (before after : List ℕ) → IfSome start (λ ys. TakesPiece (Some Full) limit ys left before after)
    → (AreBlanks before → ⊥) → (IsComment before → ⊥) → (length before - length (trimmed before)) + (MAX_STEP + 2) ≤ length after
    → ReadsOn (Err (no.Refused byte reason)) before start left
too_long_on None left limit byte reason before after taken other plain long = tt
too_long_on (Some ys) left limit byte reason before after taken other plain long = λ clean.
    refused_long before after ys left limit byte reason clean taken other plain long

pub hash_first : (l : List ℕ) → IsComment l → get_or l 0 0 ≡ 35
hash_first [] c = absurd c
hash_first (x ∷ l) c = c

-- A sum that is cut off at m is the sum, if it is at most a number below m.
pub not_cut : (a m n : ℕ) → min a m ≤ n → n < m → a ≤ n
not_cut a m n most below = elim (cases_lt m a) [
  | inl over ↦ absurd (omega (arith, below, subst (λ x. x ≤ n) (min-eq_right (le_of_lt over)) most))
  | inr under ↦ subst (λ x. x ≤ n) (min-eq_left under) most
]
