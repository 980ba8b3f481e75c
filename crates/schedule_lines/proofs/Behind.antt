-- Lines that begin with blanks, of which all but one were let go.
use Rattle.std.proofs.Common.{◌≡◌, inl, inr, ℕ, ◌+◌, ◌-◌, ◌<◌, ◌==◌, Bool, true, false, cond, List, [], ◌∷◌, ◌++◌, Option, None, Some, IfSome, Result, Ok, Err, length, take, get_or, refl, sym, ap, subst, ◌∙◌, arith, append_assoc, length-append}
use Rattle.std.proofs.lemmas.List.Elements.{All-nil, All-append}
use Rattle.std.proofs.lemmas.List.{get_or-append-add}
use Rattle.std.proofs.Math.Seq.{take-append-add}
use Rattle.std.specs.Str.Lines.{lines, strip_carriage_return}
use Rattle.tuple_text.specs.Texts.{AreBlanks}
use Rattle.tuple_text.specs.Lines.{IsSkipped}
use Rattle.one_space.specs.Pieces.{NoLineFeed, TakesPiece}
use Rattle.one_space.specs.NextLines.{IsNextLine}
use Rattle.one_space.specs.declared.pieces.PieceEnd.TheVariants.{Full}
use Rattle.one_space.proofs.LineLemmas.{lines-at, lines-last, line_rest, LineRest, NoLineFeed-cons}
use Rattle.schedule_text.specs.Words.{trimmed}
use Rattle.schedule_text.specs.Judged.{IsNone}
use Rattle.schedule_text.specs.Steps.{IsStepLine}
use Rattle.schedule_text.specs.StepView.{step_of}
use Rattle.schedule_lines.specs.Reading.{ReadsLine, ReadsOn, ReturnsLine, NextLineFails}
use Rattle.schedule_lines.specs.declared.lines.NextLine.{NextLine}
use Rattle.schedule_lines.specs.declared.lines.NextLine.TheVariants as next
use Rattle.schedule_lines.specs.declared.lines.NoLine.{NoLine}
use Rattle.schedule_lines.specs.declared.lines.NoLine.TheVariants as no
use Rattle.schedule_lines.proofs.Trimmed.{trimmed_behind, not_comment, skipped_as, step_as, none_as}

-- ---- blanks

pub blanks_append : (p q : List ℕ) → AreBlanks p → AreBlanks q → AreBlanks (p ++ q)
blanks_append [] q h k = k
blanks_append (x ∷ p) q h k = (h.0, blanks_append p q h.1 k)

pub blanks_clean : (p : List ℕ) → AreBlanks p → NoLineFeed p
blanks_clean [] h = All-nil (λ b. (b == 10) ≡ false)
blanks_clean (x ∷ p) h = NoLineFeed-cons x p (subst (λ y. (y == 10) ≡ false) (sym h.0) refl) (blanks_clean p h.1)

pub one_blank : (l : List ℕ) → AreBlanks l → 0 < length l → take 1 l ≡ 32 ∷ []
one_blank [] h some = absurd (omega arith)
one_blank (x ∷ l) h some = ap (λ y. y ∷ []) h.0

-- all but the last of some blanks
pub record LastBlank (l : List ℕ) : Type 0 where
  pub others : List ℕ
  pub are : AreBlanks others
  pub whole : (ys : List ℕ) → l ++ ys ≡ others ++ 32 ∷ ys

pub last_blank : (l : List ℕ) → AreBlanks l → 0 < length l → LastBlank l
last_blank [] h some = absurd (omega arith)
last_blank (x ∷ []) h some = record { others = []; are = tt; whole = λ ys. ap (λ y. y ∷ ys) h.0 }
last_blank (x ∷ y ∷ l) h some =
    let more = last_blank (y ∷ l) h.1 (omega arith) in
    record { others = x ∷ more.others; are = (h.0, more.are); whole = λ ys. ap (λ zs. x ∷ zs) (more.whole ys) }

-- ---- the first line

strip-behind : (p q : List ℕ) → 0 < length q → strip_carriage_return (p ++ q) ≡ p ++ strip_carriage_return q
strip-behind p q some = ap (λ x. cond (x == 13) (take (length (p ++ q) - 1) (p ++ q)) (p ++ q)) last ∙ at (get_or q (length q - 1) 0 == 13)
  where
    place : length (p ++ q) - 1 ≡ length p + (length q - 1)
    place = omega (arith, length-append p q)

    last : get_or (p ++ q) (length (p ++ q) - 1) 0 ≡ get_or q (length q - 1) 0
    last = ap (λ i. get_or (p ++ q) i 0) place ∙ get_or-append-add p q (length q - 1) 0

    at : (b : Bool) → cond b (take (length (p ++ q) - 1) (p ++ q)) (p ++ q) ≡ p ++ cond b (take (length q - 1) q) q
    at true = ap (λ i. take i (p ++ q)) place ∙ take-append-add p q (length q - 1)
    at false = refl

strip_one : (q : List ℕ) → strip_carriage_return (32 ∷ q) ≡ 32 ∷ strip_carriage_return q
strip_one [] = refl
strip_one (x ∷ q) = strip-behind (32 ∷ []) (x ∷ q) (omega arith)

-- the first line of bytes that begin with a blank, and with more blanks in front of them
pub record BlankLine (zs : List ℕ) : Type 0 where
  pub more : List ℕ
  pub others : List (List ℕ)
  pub split : (p : List ℕ) → AreBlanks p → lines (p ++ 32 ∷ zs) ≡ (p ++ 32 ∷ more) ∷ others

clean_behind : (p part : List ℕ) → AreBlanks p → NoLineFeed part → NoLineFeed (p ++ 32 ∷ part)
clean_behind p part blank pure = All-append (λ b. (b == 10) ≡ false) p (32 ∷ part) (blanks_clean p blank) (NoLineFeed-cons 32 part refl pure)

pub blank_line : (zs : List ℕ) → BlankLine zs
blank_line zs = at (line_rest zs)
  where
    at : LineRest zs → BlankLine zs
    at rest = elim rest.end [
      | inl h ↦ record {
        more = rest.part;
        others = [];
        split = λ p blank. ap (λ l. lines (p ++ 32 ∷ l)) h.0
            ∙ lines-last (p ++ 32 ∷ rest.part) (clean_behind p rest.part blank rest.one_line) (omega (arith, length-append p (32 ∷ rest.part)));
      }
      | inr h ↦ record {
        more = strip_carriage_return rest.part;
        others = lines h.0;
        split = λ p blank. ap (λ l. lines (p ++ 32 ∷ l)) h.1 ∙ ap lines (sym (append_assoc p (32 ∷ rest.part) (10 ∷ h.0)))
            ∙ lines-at (p ++ 32 ∷ rest.part) h.0 (clean_behind p rest.part blank rest.one_line)
            ∙ ap (λ l. l ∷ lines h.0) (strip-behind p (32 ∷ rest.part) (omega arith) ∙ ap (λ l. p ++ l) (strip_one rest.part));
      }
    ]

head_is : (x y : List ℕ) (xs ys : List (List ℕ)) → x ∷ xs ≡ y ∷ ys → x ≡ y
head_is x y xs ys e = cc

tail_is : (x y : List ℕ) (xs ys : List (List ℕ)) → x ∷ xs ≡ y ∷ ys → xs ≡ ys
tail_is x y xs ys e = cc

no_lines : (x : List ℕ) (xs ls : List (List ℕ)) → ls ≡ x ∷ xs → ls ≡ [] → ⊥
no_lines x xs ls e f = cc

-- what is read of a line that begins with a blank is so with more blanks in front
module _ (p zs : List ℕ) (left : Option (List ℕ)) (blank : AreBlanks p) where
  abbrev first : BlankLine zs
  first = blank_line zs

  abbrev short : List ℕ
  short = 32 ∷ first.more

  abbrev long : List ℕ
  long = p ++ 32 ∷ first.more

  same : trimmed long ≡ trimmed short
  same = trimmed_behind p short blank

  line_is : (l : List ℕ) (ls : List (List ℕ)) → lines (32 ∷ zs) ≡ l ∷ ls → l ≡ short
  line_is l ls e = head_is l short ls first.others (sym e ∙ first.split [] tt)

  behind : (l : List ℕ) (ls : List (List ℕ)) → lines (32 ∷ zs) ≡ l ∷ ls → lines (p ++ 32 ∷ zs) ≡ long ∷ ls
  behind l ls e = first.split p blank ∙ ap (λ o. long ∷ o) (sym (tail_is l short ls first.others (sym e ∙ first.split [] tt)))

  next_behind : (l : List ℕ) → IsNextLine l (32 ∷ zs) left → IsNextLine long (p ++ 32 ∷ zs) left
  next_behind l n = record { rest = n.rest; split = behind l (lines n.rest) n.split; left_is = n.left_is }

  given_behind : (given : NextLine) → ReturnsLine given (32 ∷ zs) left → ReturnsLine given (p ++ 32 ∷ zs) left
  given_behind next.End e = absurd (no_lines short first.others (lines (32 ∷ zs)) (first.split [] tt) e)
  given_behind next.Skipped h =
      (long, next_behind h.0 h.1, skipped_as short long same (not_comment [] first.more tt) (subst IsSkipped (line_is h.0 (lines h.1.rest) h.1.split) h.2))
  given_behind (next.Step step) h =
      (long, next_behind h.0 h.1, step_as short long same (step_of step) (subst (IsStepLine (step_of step)) (line_is h.0 (lines h.1.rest) h.1.split) h.2))

  failed_behind : (failed : NoLine) → NextLineFails failed (32 ∷ zs) → NextLineFails failed (p ++ 32 ∷ zs)
  failed_behind (no.Refused byte reason) h = record {
    first = long;
    others = h.others;
    split = behind h.first h.others h.split;
    holds = none_as short long same (not_comment p first.more blank) (subst IsNone (line_is h.first h.others h.split) h.holds);
  }
  failed_behind no.NoMemory h = tt
  failed_behind (no.Read error) h = tt

  pub reads_behind : (r : Result NextLine NoLine) → ReadsLine r (32 ∷ zs) left → ReadsLine r (p ++ 32 ∷ zs) left
  reads_behind (Ok given) h = given_behind given h
  reads_behind (Err failed) h = failed_behind failed h

-- ---- the bytes left

-- The bytes left stand behind a blank, and more blanks stand in front of it.
pub record Behind (xs : List ℕ) (known : Option (List ℕ)) : Type 0 where
  pub blanks : List ℕ
  pub rest : List ℕ
  pub are : AreBlanks blanks
  pub whole : 32 ∷ xs ≡ blanks ++ 32 ∷ rest
  pub known_is : known ≡ Some rest

pub no_blanks : (start : Option (List ℕ)) → IfSome start (λ xs. Behind xs start)
no_blanks None = tt
no_blanks (Some xs) = record { blanks = []; rest = xs; are = tt; whole = refl; known_is = refl }

pub clean_blank : NoLineFeed (32 ∷ [])
clean_blank = blanks_clean (32 ∷ []) (refl, tt)

pub from_behind : (r : Result NextLine NoLine) (start known left : Option (List ℕ)) → IfSome start (λ xs. Behind xs known)
    → ReadsOn r (32 ∷ []) known left → ReadsOn r (32 ∷ []) start left
from_behind r None known left d read = tt
from_behind r (Some xs) known left d read = λ clean.
    let told = subst (λ o. ReadsOn r (32 ∷ []) o left) d.known_is read in
    subst (λ bytes. ReadsLine r bytes left) (sym d.whole) (reads_behind d.blanks d.rest left d.are r (told clean_blank))

-- a piece of more blanks
pub behind_more : (start known left : Option (List ℕ)) (limit : ℕ) (line after : List ℕ) → line ≡ 32 ∷ [] → IfSome start (λ xs. Behind xs known)
    → IfSome known (λ ys. TakesPiece (Some Full) limit ys left line after) → AreBlanks after → IfSome start (λ xs. Behind xs left)
behind_more None known left limit line after one d taken blank = tt
behind_more (Some xs) known left limit line after one d taken blank =
    let t = subst (λ o. IfSome o (λ ys. TakesPiece (Some Full) limit ys left line after)) d.known_is taken in
    let some : 0 < length after = omega (arith, ap length t.kept, length-append line t.part, ap length one) in
    let last = last_blank after blank some in
    let piece : 32 ∷ d.rest ≡ after ++ t.rest =
    ap (λ l. 32 ∷ l) t.taken ∙ ap (λ l. l ++ (t.part ++ t.rest)) (sym one) ∙ sym (append_assoc line t.part t.rest) ∙ ap (λ l. l ++ t.rest) (sym t.kept) in
    record {
      blanks = d.blanks ++ last.others;
      rest = t.rest;
      are = blanks_append d.blanks last.others d.are last.are;
      whole = d.whole ∙ ap (λ l. d.blanks ++ l) (piece ∙ last.whole t.rest) ∙ sym (append_assoc d.blanks last.others (32 ∷ t.rest));
      known_is = t.left_is;
    }

-- all blanks but one are let go
pub from_last : (r : Result NextLine NoLine) (start left : Option (List ℕ)) (line : List ℕ) → AreBlanks line → 0 < length line
    → ReadsOn r (32 ∷ []) start left → ReadsOn r line start left
from_last r None left line blank some read = tt
from_last r (Some ys) left line blank some read = λ clean.
    let last = last_blank line blank some in
    subst (λ bytes. ReadsLine r bytes left) (sym (last.whole ys)) (reads_behind last.others ys left last.are r (read clean_blank))
