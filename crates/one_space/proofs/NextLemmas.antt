-- From pieces to lines.
use Rattle.std.proofs.Common.{◌≡◌, inl, inr, ℕ, zero, suc, ◌+◌, ◌<◌, ◌≤◌, ◌==◌, Bool, true, false, not, MatchBool}
use Rattle.std.proofs.Common.{eqb-true, true≢false, List, [], ◌∷◌, ◌++◌, Option, None, Some, IfSome, Result, Ok, Err}
use Rattle.std.proofs.Common.{MatchResult, length, take, get_or, refl, sym, ap, subst, ◌∙◌, arith, append-nil}
use Rattle.std.proofs.Common.{take-take, length-take-le}
use Rattle.std.specs.Str.Lines.{lines, strip_carriage_return}
use Rattle.std.specs.Io.BufRead.{drop_through, DropsThrough}
use Rattle.tuple_text.specs.Lines.{IsSkipped, IsComment}
use Rattle.tuple_text.specs.Texts.{AreBlanks}
use Rattle.tuple_text.specs.Faults.{Faults, PassesNoLimit, StopsAt, LineBegins, EndsTooLong, KeepsBoth, KeepsLevels}
use Rattle.tuple_text.specs.Faults.{KeepsCounts, AnyOperation}
use Rattle.tuple_text.specs.declared.faults.LineFault.{LineFault}
use Rattle.tuple_text.specs.declared.faults.LineFault.TheVariants.{BadByte, TooDeep, TooManyFields, TooLong, NoMemory}
use Rattle.one_space.specs.Pieces.{TakesPiece}
use Rattle.one_space.specs.LongLines.{JudgesEarly}
use Rattle.one_space.specs.NextLines.{IsNextLine, BeginsWith, HoldsLine, ReturnsLine, NextLineFails, IsJudged}
use Rattle.one_space.specs.NextLines.{IsRefused}
use Rattle.one_space.specs.declared.pieces.PieceEnd.TheVariants.{Full, LineFeed, InputEnd}
use Rattle.one_space.specs.declared.input.NextLine.{NextLine}
use Rattle.one_space.specs.declared.input.NextLine.TheVariants as next
use Rattle.one_space.specs.declared.input.NoLine.{NoLine}
use Rattle.one_space.specs.declared.input.NoLine.TheVariants as no
use Rattle.one_space.proofs.PieceLemmas.{NoLineFeed}
use Rattle.one_space.proofs.LineLemmas.{lines-at, lines-last, long_line_of}

module _ (limit : ℕ) (xs : List ℕ) (left : Option (List ℕ)) (line : List ℕ) where
  pub begins_at : TakesPiece (Some LineFeed) limit xs left [] line → IsNextLine (strip_carriage_return line) xs left
  begins_at t = record {
    rest = t.rest;
    split = ap lines t.taken ∙ lines-at t.part t.rest t.one_line ∙ ap (λ l. strip_carriage_return l ∷ lines t.rest) (sym t.kept);
    left_is = t.left_is;
  }

  pub begins_last : TakesPiece (Some InputEnd) limit xs left [] line → 0 < length line → IsNextLine line xs left
  begins_last t some =
      let whole : xs ≡ line = t.taken ∙ ap (λ l. t.part ++ l) t.ending ∙ append-nil t.part ∙ sym t.kept in record {
        rest = t.rest;
        split = ap lines whole ∙ lines-last line (subst NoLineFeed (sym t.kept) t.one_line) some ∙ ap (λ l. line ∷ lines l) (sym t.ending);
        left_is = t.left_is;
      }

  pub ends_at : TakesPiece (Some InputEnd) limit xs left [] line → length line ≡ 0 → lines xs ≡ []
  ends_at t none =
      let whole : xs ≡ line = t.taken ∙ ap (λ l. t.part ++ l) t.ending ∙ append-nil t.part ∙ sym t.kept in
      ap lines (whole ∙ empty line none)
    where
      empty : (l : List ℕ) → length l ≡ 0 → l ≡ []
      empty [] e = refl
      empty (x ∷ l) e = absurd (omega arith)

module _ (l xs : List ℕ) where
  pub given_of : {A : Type 0} (left : Option (List ℕ)) (given : NextLine A) → IsNextLine l xs left → IsJudged given l → ReturnsLine given xs left
  given_of left next.End first judged = absurd judged
  given_of left next.Skipped first judged = (l, first, judged)
  given_of left (next.Operation op) first judged = (l, first, judged)

  pub failed_of : (left : Option (List ℕ)) (buffer : List ℕ) (failed : NoLine) → IsNextLine l xs left → HoldsLine buffer l → IsRefused failed l → NextLineFails failed xs left buffer
  failed_of left buffer (no.Refused fault) first holds refused = (l, first, refused.0, refused.1, holds)
  failed_of left buffer (no.RefusedEarly fault) first holds refused = absurd refused
  failed_of left buffer no.NoMemory first holds refused = tt
  failed_of left buffer (no.Read error) first holds refused = tt

  pub judged_of : {A : Type 0} (left : Option (List ℕ)) (buffer : List ℕ) (r : Result (NextLine A) NoLine) → IsNextLine l xs left → HoldsLine buffer l
      → MatchResult r (λ given. IsJudged given l) (λ failed. IsRefused failed l)
      → MatchResult r (λ given. ReturnsLine given xs left) (λ failed. NextLineFails failed xs left buffer)
  judged_of left buffer (Ok given) first holds judged = given_of left given first judged
  judged_of left buffer (Err failed) first holds judged = failed_of left buffer failed first holds judged

pub next_at : (start left : Option (List ℕ)) (limit : ℕ) (line : List ℕ) → IfSome start (λ xs. TakesPiece (Some LineFeed) limit xs left [] line)
    → IfSome start (λ xs. IsNextLine (strip_carriage_return line) xs left)
next_at None left limit line taken = tt
next_at (Some xs) left limit line taken = begins_at limit xs left line taken

pub judged_next : {A : Type 0} (start left : Option (List ℕ)) (l buffer : List ℕ) (r : Result (NextLine A) NoLine) → IfSome start (λ xs. IsNextLine l xs left) → HoldsLine buffer l
    → MatchResult r (λ given. IsJudged given l) (λ failed. IsRefused failed l)
    → IfSome start (λ xs. MatchResult r (λ given. ReturnsLine given xs left) (λ failed. NextLineFails failed xs left buffer))
judged_next None left l buffer r first holds judged = tt
judged_next (Some xs) left l buffer r first holds judged = judged_of l xs left buffer r first holds judged

pub judged_at : {A : Type 0} (start left : Option (List ℕ)) (limit : ℕ) (line buffer : List ℕ) (r : Result (NextLine A) NoLine) → buffer ≡ strip_carriage_return line
    → IfSome start (λ xs. TakesPiece (Some LineFeed) limit xs left [] line)
    → MatchResult r (λ given. IsJudged given (strip_carriage_return line)) (λ failed. IsRefused failed (strip_carriage_return line))
    → IfSome start (λ xs. MatchResult r (λ given. ReturnsLine given xs left) (λ failed. NextLineFails failed xs left buffer))
judged_at start left limit line buffer r same taken judged =
    judged_next start left (strip_carriage_return line) buffer r (next_at start left limit line taken) (inl same) judged

pub judged_last : {A : Type 0} (start left : Option (List ℕ)) (limit : ℕ) (line : List ℕ) (r : Result (NextLine A) NoLine) → 0 < length line
    → IfSome start (λ xs. TakesPiece (Some InputEnd) limit xs left [] line)
    → MatchResult r (λ given. IsJudged given line) (λ failed. IsRefused failed line)
    → IfSome start (λ xs. MatchResult r (λ given. ReturnsLine given xs left) (λ failed. NextLineFails failed xs left line))
judged_last None left limit line r some taken judged = tt
judged_last (Some xs) left limit line r some taken judged = judged_of line xs left line r (begins_last limit xs left line taken some) (inl refl) judged

pub ended : (start left : Option (List ℕ)) (limit : ℕ) (line : List ℕ) → length line ≡ 0
    → IfSome start (λ xs. TakesPiece (Some InputEnd) limit xs left [] line) → IfSome start (λ xs. lines xs ≡ [])
ended None left limit line none taken = tt
ended (Some xs) left limit line none taken = ends_at limit xs left line taken none

pub blanks-take : (l : List ℕ) (n : ℕ) → AreBlanks l → AreBlanks (take n l)
blanks-take l zero h = tt
blanks-take [] (suc n) h = tt
blanks-take (x ∷ l) (suc n) h = (h.0, blanks-take l n h.1)

comment-take : (l : List ℕ) (n : ℕ) → IsComment l → IsComment (take (suc n) l)
comment-take [] n h = h
comment-take (x ∷ l) n h = h

-- a line from its beginning
module _ (l k : List ℕ) (same : take 65537 l ≡ k) (long : 65537 ≤ length l) where
  front : (n : ℕ) → n ≤ 65537 → take n k ≡ take n l
  front n below = ap (take n) (sym same) ∙ take-take n 65537 l below

  full : length k ≡ 65537
  full = ap length (sym same) ∙ length-take-le 65537 l long

  passes : (n : ℕ) → PassesNoLimit k n → PassesNoLimit l n
  passes n p = record {
    within = omega (arith, p.limit, long);
    limit = p.limit;
    begins = subst (LineBegins KeepsBoth) (front n (omega (arith, p.limit))) p.begins;
    short = λ j below e. p.short j below (subst EndsTooLong (sym (front j (omega (arith, p.limit)))) e);
  }

  stops : (n : ℕ) → StopsAt k n → StopsAt l n
  stops n s = record { passes = passes n s.passes; there = omega (arith, s.limit, long); limit = s.limit }

  skips : IsSkipped l → IsSkipped k
  skips (inl b) = inl (subst AreBlanks same (blanks-take l 65537 b))
  skips (inr c) = inr (subst IsComment same (comment-take l 65536 c))

  faults : (fault : LineFault) → Faults fault k → Faults fault l
  faults (BadByte n) b = record {
    passes = passes n b.passes;
    longest = λ below limit e. b.longest (omega (arith, full, limit)) limit (subst (LineBegins AnyOperation) (sym (front (n + 1) (omega arith))) e);
    unfinished = λ e. absurd (omega (arith, b.passes.limit, long, e));
  }
  faults TooDeep f = (
    f.0,
    stops f.0 f.1,
    subst (LineBegins AnyOperation) (front (f.0 + 1) (omega (arith, f.1.limit))) f.2,
    λ e. f.3 (subst (LineBegins KeepsLevels) (sym (front (f.0 + 1) (omega (arith, f.1.limit)))) e),
  )
  faults TooManyFields f = (
    f.0,
    stops f.0 f.1,
    subst (LineBegins KeepsLevels) (front (f.0 + 1) (omega (arith, f.1.limit))) f.2,
    λ e. f.3 (subst (LineBegins KeepsCounts) (sym (front (f.0 + 1) (omega (arith, f.1.limit)))) e),
  )
  faults TooLong f = (
    f.0,
    stops f.0 f.1,
    subst (LineBegins KeepsBoth) (front (f.0 + 1) (omega (arith, f.1.limit))) f.2,
    subst EndsTooLong (front (f.0 + 1) (omega (arith, f.1.limit))) f.3,
  )
  faults NoMemory f = tt

comment_front : (n : ℕ) (l p : List ℕ) → take (suc n) l ≡ take (suc n) p → 0 < length p → get_or p 0 0 ≡ 35 → 0 < length l → IsComment l
comment_front n [] p same some hash more = absurd (omega arith)
comment_front n (x ∷ l) [] same some hash more = absurd (omega arith)
comment_front n (x ∷ l) (y ∷ p) same some hash more =
    let e : x ≡ y = cc in e ∙ hash

pub skipped_comment : (start left : Option (List ℕ)) (line : List ℕ) → DropsThrough start left 10 → 65538 ≤ length line → get_or line 0 0 ≡ 35
    → IfSome start (λ ys. NoLineFeed line → (l : List ℕ) × IsNextLine l (line ++ ys) left × IsSkipped l)
skipped_comment None left line drops long hash = tt
skipped_comment (Some ys) left line drops long hash = λ clean.
    let whole = long_line_of line ys 65537 clean (omega arith) in (
      whole.line,
      record { rest = drop_through 10 ys; split = whole.split; left_is = drops },
      inr (comment_front 65536 whole.line line whole.front (omega arith) hash (omega (arith, whole.long))),
    )

refused_line : (l k : List ℕ) (fault : LineFault) → take 65537 l ≡ k → 65537 ≤ length l → IsRefused (no.Refused fault) k → IsRefused (no.Refused fault) l
refused_line l k fault same long refused = (refused.0, (unskipped, faults l k same long fault refused.1.1))
  where
    unskipped : IsSkipped l → ⊥
    unskipped s = refused.1.0 (skips l k same long s)

-- A line is refused if its front is, and what is read of it so far goes on.
refused_long : (ys line buffer : List ℕ) (fault : LineFault) → 65538 ≤ length line → NoLineFeed line → IsRefused (no.Refused fault) (take 65537 line)
    → NextLineFails (no.RefusedEarly fault) (line ++ ys) (Some ys) buffer
refused_long ys line buffer fault long clean refused =
    let whole = long_line_of line ys 65537 clean (omega arith) in
    let of_line = refused_line whole.line (take 65537 line) fault whole.front whole.long refused in
    (whole.line, record { rest = ys; split = whole.split; left_is = refl }, of_line.0, of_line.1, whole.long)

pub early_long : {A : Type 0} (ys line buffer : List ℕ) (failed : NoLine) (result : Result (NextLine A) NoLine) → 65538 ≤ length line → NoLineFeed line
    → IsRefused failed (take 65537 line) → JudgesEarly (Err failed) result
    → MatchResult result (λ given. ReturnsLine given (line ++ ys) (Some ys)) (λ failed. NextLineFails failed (line ++ ys) (Some ys) buffer)
early_long ys line buffer (no.Refused fault) result long clean refused e = rw e (refused_long ys line buffer fault long clean refused)
early_long ys line buffer (no.RefusedEarly fault) result long clean refused e = absurd refused
early_long ys line buffer no.NoMemory result long clean refused e = rw e tt
early_long ys line buffer (no.Read error) result long clean refused e = absurd refused

pub has_first : (start left : Option (List ℕ)) (limit : ℕ) (line : List ℕ) → IfSome start (λ xs. TakesPiece (Some LineFeed) limit xs left [] line)
    → IfSome start (λ xs. BeginsWith (λ _. Unit {0}) xs)
has_first None left limit line taken = tt
has_first (Some xs) left limit line taken =
    let first = begins_at limit xs left line taken in
    record { first = strip_carriage_return line; others = lines first.rest; split = first.split; holds = tt }

pub has_full : (start left : Option (List ℕ)) (limit : ℕ) (line : List ℕ) → 0 < limit → IfSome start (λ xs. TakesPiece (Some Full) limit xs left [] line)
    → IfSome start (λ xs. BeginsWith (λ _. Unit {0}) xs)
has_full None left limit line some taken = tt
has_full (Some xs) left limit line some taken =
    let whole = long_line_of taken.part taken.rest 0 taken.one_line (omega (arith, taken.ending, ap length taken.kept)) in
    record { first = whole.line; others = lines (drop_through 10 taken.rest); split = ap lines taken.taken ∙ whole.split; holds = tt }

pub has_last : (start left : Option (List ℕ)) (limit : ℕ) (line : List ℕ) (b : Bool) → b ≡ (length line == 0) → IfSome start (λ xs. TakesPiece (Some InputEnd) limit xs left [] line)
    → IfSome start (λ xs. MatchBool (not b) (BeginsWith (λ _. Unit {0}) xs) (lines xs ≡ []))
has_last None left limit line b e taken = tt
has_last (Some xs) left limit line true e taken = ends_at limit xs left line taken (eqb-true (length line) 0 (sym e))
has_last (Some xs) left limit line false e taken =
    let first = begins_last limit xs left line taken (positive (length line) (sym e)) in
    record { first = line; others = lines first.rest; split = first.split; holds = tt }
  where
    positive : (n : ℕ) → (n == 0) ≡ false → 0 < n
    positive zero h = cc
    positive (suc n) h = omega arith

pub positive_of : (n m : ℕ) → false ≡ (m == 0) → m ≡ n → 0 < n
positive_of zero m e same = absurd (true≢false (sym (e ∙ ap (λ k. k == 0) same)))
positive_of (suc n) m e same = omega arith
