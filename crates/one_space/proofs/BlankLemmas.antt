-- Lines that begin with more blanks than a line may have.
use Rattle.std.proofs.Common.{◌≡◌, ◌≢◌, inl, inr, ℕ, zero, suc, ◌+◌, ◌-◌, ◌<◌, ◌≤◌, ◌==◌, ◌&&◌, Bool, true, false, cond}
use Rattle.std.proofs.Common.{eqb-true, true≢false, List, [], ◌∷◌, ◌++◌, Option, None, Some, IfSome, Result, Ok, Err}
use Rattle.std.proofs.Common.{MatchResult, length, take, drop, get_or, refl, sym, ap, subst, ◌∙◌, arith, append_assoc}
use Rattle.std.proofs.Common.{append-nil, take-take, length-take-le, length-append}
use Rattle.std.proofs.lemmas.List.Elements.{All-nil, All-append, All-drop}
use Rattle.std.proofs.lemmas.List.{take-append-drop, length-drop, get_or-append-add}
use Rattle.std.proofs.Math.Seq.{take-append-add, take-append_seam}
use Rattle.std.specs.List.{list_all}
use Rattle.std.specs.Str.Lines.{lines, strip_carriage_return}
use Rattle.std.specs.Io.BufRead.{drop_through}
use Rattle.tuple_tree.specs.Items.{none}
use Rattle.tuple_codec.specs.Operations.{Operation, out, rdp, inp, cas, rd_all, in_all, upgrade}
use Rattle.tuple_text.specs.Texts.{AreBlanks}
use Rattle.tuple_text.specs.Lines.{operation_name, IsSkipped, IsComment}
use Rattle.tuple_text.specs.Faults.{RefusesLine, IsBadAt, LineBegins, EndsTooLong, KeepsBoth}
use Rattle.tuple_text.specs.declared.faults.LineFault.TheVariants.{BadByte, NoMemory}
use Rattle.one_space.specs.Pieces.{TakesPiece}
use Rattle.one_space.specs.NextLines.{HoldsLine, ReturnsLine, NextLineFails, IsJudged, IsRefused}
use Rattle.one_space.specs.declared.pieces.PieceEnd.TheVariants.{Full, LineFeed, InputEnd}
use Rattle.one_space.specs.declared.input.NextLine.{NextLine}
use Rattle.one_space.specs.declared.input.NextLine.TheVariants as next
use Rattle.one_space.specs.declared.input.NoLine.{NoLine}
use Rattle.one_space.specs.declared.input.NoLine.TheVariants as no
use Rattle.one_space.proofs.PieceLemmas.{NoLineFeed}
use Rattle.one_space.proofs.LineLemmas.{NoLineFeed-cons, lines-at, lines-last, long_line_of}
use Rattle.one_space.specs.LongLines.{JudgesEarly}
use Rattle.one_space.proofs.NextLemmas.{blanks-take, judged_of, early_long}

pub blanks_of : (l : List ℕ) → list_all (λ b. b == 32) l ≡ true → AreBlanks l
blanks_of [] e = tt
blanks_of (x ∷ l) e = at (x == 32) refl (blanks_of l) e
  where
    at : (b : Bool) → (x == 32) ≡ b → (list_all (λ b. b == 32) l ≡ true → AreBlanks l) → (b && list_all (λ b. b == 32) l) ≡ true → AreBlanks (x ∷ l)
    at true h more e = (eqb-true x 32 h, more e)
    at false h more e = absurd (true≢false (sym e))

pub all_blanks : (l : List ℕ) → AreBlanks l → list_all (λ b. b == 32) l ≡ true
all_blanks [] h = refl
all_blanks (x ∷ l) h = subst (λ y. ((y == 32) && list_all (λ b. b == 32) l) ≡ true) (sym h.0) (all_blanks l h.1)

pub not_blanks : (l : List ℕ) → list_all (λ b. b == 32) l ≡ false → AreBlanks l → ⊥
not_blanks l e h = true≢false (sym (all_blanks l h) ∙ e)

blanks-append : (p q : List ℕ) → AreBlanks p → AreBlanks q → AreBlanks (p ++ q)
blanks-append [] q h k = k
blanks-append (x ∷ p) q h k = (h.0, blanks-append p q h.1 k)

blanks-back : (p q : List ℕ) → AreBlanks (p ++ q) → AreBlanks q
blanks-back [] q h = h
blanks-back (x ∷ p) q h = blanks-back p q h.1

blanks-clean : (p : List ℕ) → AreBlanks p → NoLineFeed p
blanks-clean [] h = All-nil (λ b. (b == 10) ≡ false)
blanks-clean (x ∷ p) h = NoLineFeed-cons x p (subst (λ y. (y == 10) ≡ false) (sym h.0) refl) (blanks-clean p h.1)

strip-behind : (p q : List ℕ) → 0 < length q → strip_carriage_return (p ++ q) ≡ p ++ strip_carriage_return q
strip-behind p q some = ap (λ x. cond (x == 13) (take (length (p ++ q) - 1) (p ++ q)) (p ++ q)) last ∙ at (get_or q (length q - 1) 0 == 13)
  where
    place : length (p ++ q) - 1 ≡ length p + (length q - 1)
    place = omega (arith, length-append p q)

    last : get_or (p ++ q) (length (p ++ q) - 1) 0 ≡ get_or q (length q - 1) 0
    last = ap (λ i. get_or (p ++ q) i 0) place ∙ get_or-append-add p q (length q - 1) 0

    at : (b : Bool) → cond b (take (length (p ++ q) - 1) (p ++ q)) (p ++ q) ≡ p ++ cond b (take (length q - 1) q) q
    at true = ap (λ i. take i (p ++ q)) place ∙ take-append-add p q (length q - 1)
    at false = refl

-- No operation's name begins with a blank.
unnamed : (o : Operation) (rest : List ℕ) → AreBlanks (operation_name o ++ rest) → ⊥
unnamed (out t) rest h = omega (arith, h.0)
unnamed (rdp p) rest h = omega (arith, h.0)
unnamed (inp p) rest h = omega (arith, h.0)
unnamed (cas p t) rest h = omega (arith, h.0)
unnamed (rd_all n p) rest h = omega (arith, h.0)
unnamed (in_all n p) rest h = omega (arith, h.0)
unnamed upgrade rest h = omega (arith, h.0)

-- a line whose first n bytes are blanks, as many as a line may have, and which is longer
module _ (l : List ℕ) (n : ℕ) (blank : AreBlanks (take n l)) (least : 65536 ≤ n) (most : n ≤ 65536) (long : n + 1 ≤ length l) where
  begins : LineBegins KeepsBoth (take n l)
  begins =
      let behind : List ℕ = 32 ∷ 40 ∷ 41 ∷ [] in (
        operation_name (out none) ++ behind,
        out none,
        (take n l, behind, refl, blank, (32 ∷ [], 40 ∷ 41 ∷ [], [], refl, (omega arith, (refl, tt)), (([], refl, tt), tt), tt)),
        (omega arith, (omega arith, tt)),
      )

  short : (k : ℕ) → k ≤ n → EndsTooLong (take k l) → ⊥
  short k below e =
      let front : AreBlanks (take k l) = subst AreBlanks (take-take k n l below) (blanks-take (take n l) k blank) in
      unnamed e.o e.rest (blanks-back e.lead (operation_name e.o ++ e.rest) (subst AreBlanks e.whole front))

  bad_at : IsBadAt l n
  bad_at = record {
    passes = record { within = omega (arith, long); limit = most; begins = begins; short = short };
    longest = λ below limit e. absurd (omega (arith, limit, least));
    unfinished = λ e. absurd (omega (arith, e, long));
  }

uncommented : (l p : List ℕ) (n : ℕ) → take n l ≡ p → 0 < length p → AreBlanks p → IsComment l → ⊥
uncommented l [] n same some blank h = absurd (omega arith)
uncommented [] (y ∷ p) n same some blank h = h
uncommented (x ∷ l) (y ∷ p) zero same some blank h = absurd (omega (arith, ap length same))
uncommented (x ∷ l) (y ∷ p) (suc n) same some blank h =
    let e : x ≡ y = cc in absurd (omega (arith, e, h, blank.0))

-- a line that begins with blanks, too many of them
module _ (l p : List ℕ) (same : take (length p) l ≡ p) (blank : AreBlanks p) (many : 65537 ≤ length p) (long : length p ≤ length l) where
  front : (n : ℕ) → n ≤ length p → AreBlanks (take n l)
  front n below = subst AreBlanks (ap (take n) (sym same) ∙ take-take n (length p) l below) (blanks-take p n blank)

  pub refused_blanks : (AreBlanks l → ⊥) → RefusesLine (BadByte 65536) l
  refused_blanks other = (unskipped, bad_at l 65536 (front 65536 (omega (arith, many))) (omega arith) (omega arith) (omega (arith, many, long)))
    where
      unskipped : IsSkipped l → ⊥
      unskipped (inl b) = other b
      unskipped (inr c) = uncommented l p (length p) same (omega (arith, many)) blank c

bad_byte_said : (n : ℕ) → BadByte n ≢ NoMemory
bad_byte_said n e = cc

-- the rest of such a line at its end
pub skipped_end : (p l : List ℕ) → AreBlanks p → AreBlanks l → IsSkipped (p ++ l)
skipped_end p l blank more = inl (blanks-append p l blank more)

pub refused_end : (p l : List ℕ) → AreBlanks p → 65537 ≤ length p → (AreBlanks l → ⊥) → IsRefused (no.Refused (BadByte 65536)) (p ++ l)
refused_end p l blank many other = (
  bad_byte_said 65536,
  refused_blanks (p ++ l) p (take-append_seam p l) blank many (omega (arith, length-append p l)) (λ h. other (blanks-back p l h)),
)

-- another byte before the last of a part
pub refused_part : (p q ys buffer : List ℕ) → AreBlanks p → 65537 ≤ length p → NoLineFeed q → 0 < length q → (AreBlanks (take (length q - 1) q) → ⊥)
    → NextLineFails (no.RefusedEarly (BadByte 65536)) (p ++ (q ++ ys)) (Some ys) buffer
refused_part p q ys buffer blank many clean some other =
    let n = length p + (length q - 1) in
    let both = length-append p q in
    let whole = long_line_of (p ++ q) ys n (All-append (λ b. (b == 10) ≡ false) p q (blanks-clean p blank) clean) (omega (arith, both, some)) in
    let known : take n whole.line ≡ p ++ take (length q - 1) q = whole.front ∙ take-append-add p q (length q - 1) in
    let same : take (length p) whole.line ≡ p = sym (take-take (length p) n whole.line (omega arith)) ∙ ap (take (length p)) known ∙ take-append_seam p (take (length q - 1) q) in (
      whole.line,
      record { rest = ys; split = ap lines (sym (append_assoc p q ys)) ∙ whole.split; left_is = refl },
      bad_byte_said 65536,
      refused_blanks whole.line p same blank many (omega (arith, whole.long)) (λ h. other (blanks-back p (take (length q - 1) q) (subst AreBlanks known (blanks-take whole.line n h)))),
      omega (arith, whole.long, many),
    )

-- Blanks were dropped in front of the bytes before and those read after them. Then these bytes are kept.
pub record Drops (xs : List ℕ) (left : Option (List ℕ)) (before after : List ℕ) : Type 0 where
  pub blanks : List ℕ
  pub rest : List ℕ
  pub are : AreBlanks blanks
  pub whole : before ++ xs ≡ blanks ++ (after ++ rest)
  pub clean : NoLineFeed before → NoLineFeed after
  pub some : 0 < length after
  pub left_is : left ≡ Some rest

-- a full piece, of which all but the last byte is dropped
drops_part : (xs before mid full after : List ℕ) (known left : Option (List ℕ)) (limit : ℕ) → Drops xs known before mid → IfSome known (λ ys. TakesPiece (Some Full) limit ys left mid full)
    → AreBlanks (take (length full - 1) full) → after ≡ drop (length full - 1) full → Drops xs left before after
drops_part xs before mid full after known left limit d taken blank kept =
    let t = subst (λ o. IfSome o (λ ys. TakesPiece (Some Full) limit ys left mid full)) d.left_is taken in
    let some : 0 < length full = omega (arith, d.some, ap length t.kept, length-append mid t.part) in
    let n = length full - 1 in record {
      blanks = d.blanks ++ take n full;
      rest = t.rest;
      are = blanks-append d.blanks (take n full) d.are blank;
      whole = d.whole ∙ ap (λ l. d.blanks ++ l)
          (ap (λ l. mid ++ l) t.taken ∙ sym (append_assoc mid t.part t.rest) ∙ ap (λ l. l ++ t.rest) (sym t.kept)
          ∙ ap (λ l. l ++ t.rest) (sym (take-append-drop n full)) ∙ append_assoc (take n full) (drop n full) t.rest
          ∙ ap (λ l. take n full ++ (l ++ t.rest)) (sym kept))
          ∙ sym (append_assoc d.blanks (take n full) (after ++ t.rest));
      clean = λ c. subst NoLineFeed (sym kept)
          (All-drop (λ b. (b == 10) ≡ false) n full (subst NoLineFeed (sym t.kept) (All-append (λ b. (b == 10) ≡ false) mid t.part (d.clean c) t.one_line)));
      some = omega (arith, some, ap length kept, length-drop n full);
      left_is = t.left_is;
    }

pub drops_more : (start known left : Option (List ℕ)) (before mid full after : List ℕ) (limit : ℕ) → IfSome start (λ xs. Drops xs known before mid)
    → IfSome known (λ ys. TakesPiece (Some Full) limit ys left mid full) → AreBlanks (take (length full - 1) full) → after ≡ drop (length full - 1) full
    → IfSome start (λ xs. Drops xs left before after)
drops_more None known left before mid full after limit d taken blank kept = tt
drops_more (Some xs) known left before mid full after limit d taken blank kept = drops_part xs before mid full after known left limit d taken blank kept

-- Said holds of the line of the blanks p, the bytes before, and the bytes that are left
abbrev pub OfBlanks : Option (List ℕ) → List ℕ → (List ℕ → Type 0) → Type 0
OfBlanks start before Said = IfSome start (λ ys. (p : List ℕ) → AreBlanks p → 65537 ≤ length p → NoLineFeed before → Said (p ++ (before ++ ys)))

part_refused : (xs before mid full buffer : List ℕ) (known left : Option (List ℕ)) (limit : ℕ) → Drops xs known before mid → IfSome known (λ ys. TakesPiece (Some Full) limit ys left mid full)
    → (AreBlanks (take (length full - 1) full) → ⊥)
    → (p : List ℕ) → AreBlanks p → 65537 ≤ length p → NoLineFeed before → NextLineFails (no.RefusedEarly (BadByte 65536)) (p ++ (before ++ xs)) left buffer
part_refused xs before mid full buffer known left limit d taken other p blank many clean =
    let t = subst (λ o. IfSome o (λ ys. TakesPiece (Some Full) limit ys left mid full)) d.left_is taken in
    let some : 0 < length full = omega (arith, d.some, ap length t.kept, length-append mid t.part) in
    let whole : p ++ (before ++ xs) ≡ (p ++ d.blanks) ++ (full ++ t.rest) =
    ap (λ l. p ++ l) (d.whole ∙ ap (λ l. d.blanks ++ l) (ap (λ l. mid ++ l) t.taken ∙ sym (append_assoc mid t.part t.rest) ∙ ap (λ l. l ++ t.rest) (sym t.kept)))
    ∙ sym (append_assoc p d.blanks (full ++ t.rest)) in
    let Fails : List ℕ → Option (List ℕ) → Type 0 = λ l o. NextLineFails (no.RefusedEarly (BadByte 65536)) l o buffer in
    subst (λ o. Fails (p ++ (before ++ xs)) o) (sym t.left_is) (subst (λ l. Fails l (Some t.rest)) (sym whole)
    (refused_part (p ++ d.blanks) full t.rest buffer (blanks-append p d.blanks blank d.are) (omega (arith, many, length-append p d.blanks))
    (subst NoLineFeed (sym t.kept) (All-append (λ b. (b == 10) ≡ false) mid t.part (d.clean clean) t.one_line)) some other))

pub part_refused_known : (start known left : Option (List ℕ)) (before mid full buffer : List ℕ) (limit : ℕ) → IfSome start (λ xs. Drops xs known before mid)
    → IfSome known (λ ys. TakesPiece (Some Full) limit ys left mid full) → (AreBlanks (take (length full - 1) full) → ⊥)
    → OfBlanks start before (λ l. NextLineFails (no.RefusedEarly (BadByte 65536)) l left buffer)
part_refused_known None known left before mid full buffer limit d taken other = tt
part_refused_known (Some xs) known left before mid full buffer limit d taken other = part_refused xs before mid full buffer known left limit d taken other

-- the result for such a line, by its end l
abbrev pub EndJudged : {A : Type 0} → Result (NextLine A) NoLine → List ℕ → Type 0
EndJudged r l = (p : List ℕ) → AreBlanks p → 65537 ≤ length p → MatchResult r (λ given. IsJudged given (p ++ l)) (λ failed. IsRefused failed (p ++ l))

abbrev pub Answers : {A : Type 0} → Option (List ℕ) → List ℕ → Result (NextLine A) NoLine → List ℕ → Type 0
Answers left buffer r xs = MatchResult r (λ given. ReturnsLine given xs left) (λ failed. NextLineFails failed xs left buffer)

-- such a line is too long, and nothing of it is kept
none_held : (p l : List ℕ) → 65537 ≤ length p → HoldsLine [] (p ++ l)
none_held p l many = inr (refl, omega (arith, many, length-append p l))

end_at : {A : Type 0} (xs before mid full : List ℕ) (known left : Option (List ℕ)) (limit : ℕ) (r : Result (NextLine A) NoLine)
    → Drops xs known before mid → IfSome known (λ ys. TakesPiece (Some LineFeed) limit ys left mid full) → EndJudged r (strip_carriage_return full)
    → (p : List ℕ) → AreBlanks p → 65537 ≤ length p → NoLineFeed before → Answers left [] r (p ++ (before ++ xs))
end_at xs before mid full known left limit r d taken judged p blank many clean =
    let t = subst (λ o. IfSome o (λ ys. TakesPiece (Some LineFeed) limit ys left mid full)) d.left_is taken in
    let q = p ++ d.blanks in
    let are = blanks-append p d.blanks blank d.are in
    let some : 0 < length full = omega (arith, d.some, ap length t.kept, length-append mid t.part) in
    let pure = subst NoLineFeed (sym t.kept) (All-append (λ b. (b == 10) ≡ false) mid t.part (d.clean clean) t.one_line) in
    let whole : p ++ (before ++ xs) ≡ (q ++ full) ++ 10 ∷ t.rest =
    ap (λ l. p ++ l) (d.whole ∙ ap (λ l. d.blanks ++ l) (ap (λ l. mid ++ l) t.taken ∙ sym (append_assoc mid t.part (10 ∷ t.rest)) ∙ ap (λ l. l ++ 10 ∷ t.rest) (sym t.kept)))
    ∙ sym (append_assoc p d.blanks (full ++ 10 ∷ t.rest)) ∙ sym (append_assoc q full (10 ∷ t.rest)) in
    judged_of (q ++ strip_carriage_return full) (p ++ (before ++ xs)) left [] r
    (record {
      rest = t.rest;
      split = ap lines whole ∙ lines-at (q ++ full) t.rest (All-append (λ b. (b == 10) ≡ false) q full (blanks-clean q are) pure) ∙ ap (λ l. l ∷ lines t.rest) (strip-behind q full some);
      left_is = t.left_is;
    })
    (none_held q (strip_carriage_return full) (omega (arith, many, length-append p d.blanks)))
    (judged q are (omega (arith, many, length-append p d.blanks)))

pub end_at_known : {A : Type 0} (start known left : Option (List ℕ)) (before mid full : List ℕ) (limit : ℕ) (r : Result (NextLine A) NoLine) → IfSome start (λ xs. Drops xs known before mid)
    → IfSome known (λ ys. TakesPiece (Some LineFeed) limit ys left mid full) → EndJudged r (strip_carriage_return full) → OfBlanks start before (Answers left [] r)
end_at_known None known left before mid full limit r d taken judged = tt
end_at_known (Some xs) known left before mid full limit r d taken judged = end_at xs before mid full known left limit r d taken judged

end_last : {A : Type 0} (xs before mid full : List ℕ) (known left : Option (List ℕ)) (limit : ℕ) (r : Result (NextLine A) NoLine)
    → Drops xs known before mid → IfSome known (λ ys. TakesPiece (Some InputEnd) limit ys left mid full) → EndJudged r full
    → (p : List ℕ) → AreBlanks p → 65537 ≤ length p → NoLineFeed before → Answers left [] r (p ++ (before ++ xs))
end_last xs before mid full known left limit r d taken judged p blank many clean =
    let t = subst (λ o. IfSome o (λ ys. TakesPiece (Some InputEnd) limit ys left mid full)) d.left_is taken in
    let q = p ++ d.blanks in
    let are = blanks-append p d.blanks blank d.are in
    let some : 0 < length (q ++ full) = omega (arith, many, length-append p d.blanks, length-append q full) in
    let pure = subst NoLineFeed (sym t.kept) (All-append (λ b. (b == 10) ≡ false) mid t.part (d.clean clean) t.one_line) in
    let whole : p ++ (before ++ xs) ≡ q ++ full =
    ap (λ l. p ++ l) (d.whole ∙ ap (λ l. d.blanks ++ l) (ap (λ l. mid ++ l) (t.taken ∙ ap (λ l. t.part ++ l) t.ending ∙ append-nil t.part) ∙ sym t.kept))
    ∙ sym (append_assoc p d.blanks full) in
    judged_of (q ++ full) (p ++ (before ++ xs)) left [] r
    (record {
      rest = t.rest;
      split = ap lines whole ∙ lines-last (q ++ full) (All-append (λ b. (b == 10) ≡ false) q full (blanks-clean q are) pure) some ∙ ap (λ l. (q ++ full) ∷ lines l) (sym t.ending);
      left_is = t.left_is;
    })
    (none_held q full (omega (arith, many, length-append p d.blanks)))
    (judged q are (omega (arith, many, length-append p d.blanks)))

pub end_last_known : {A : Type 0} (start known left : Option (List ℕ)) (before mid full : List ℕ) (limit : ℕ) (r : Result (NextLine A) NoLine) → IfSome start (λ xs. Drops xs known before mid)
    → IfSome known (λ ys. TakesPiece (Some InputEnd) limit ys left mid full) → EndJudged r full → OfBlanks start before (Answers left [] r)
end_last_known None known left before mid full limit r d taken judged = tt
end_last_known (Some xs) known left before mid full limit r d taken judged = end_last xs before mid full known left limit r d taken judged

comment_first : (l : List ℕ) (n : ℕ) → IsComment (take n l) → get_or l 0 0 ≡ 35
comment_first l zero h = absurd h
comment_first [] (suc n) h = absurd h
comment_first (x ∷ l) (suc n) h = h

-- Too long a line that begins with other bytes is not read.
judged_none : {A : Type 0} (line : List ℕ) (given : NextLine A) → 65538 ≤ length line → (AreBlanks (take 65537 line) → ⊥) → (get_or line 0 0 ≡ 35 → ⊥) → IsJudged given (take 65537 line) → ⊥
judged_none line next.End long other hash judged = judged
judged_none line next.Skipped long other hash (inl blank) = other blank
judged_none line next.Skipped long other hash (inr comment) = hash (comment_first line 65537 comment)
judged_none line (next.Operation op) long other hash judged = omega (arith, long, judged.size, length-take-le 65537 line (omega (arith, long)))

pub judged_long : {A : Type 0} (start : Option (List ℕ)) (line buffer : List ℕ) (judged result : Result (NextLine A) NoLine) → 65538 ≤ length line → (AreBlanks (take 65537 line) → ⊥)
    → (get_or line 0 0 ≡ 35 → ⊥) → MatchResult judged (λ given. IsJudged given (take 65537 line)) (λ failed. IsRefused failed (take 65537 line)) → JudgesEarly judged result
    → IfSome start (λ ys. NoLineFeed line → Answers start buffer result (line ++ ys))
judged_long None line buffer judged result long other hash h e = tt
judged_long (Some ys) line buffer (Ok given) result long other hash h e = absurd (judged_none line given long other hash h)
judged_long (Some ys) line buffer (Err failed) result long other hash h e = λ clean. early_long ys line buffer failed result long clean h e

refused_front : (n : ℕ) (line ys buffer : List ℕ) → 65537 ≤ n → n + 1 ≤ length line → AreBlanks (take n line) → (AreBlanks (take (length line - 1) line) → ⊥) → NoLineFeed line
    → NextLineFails (no.RefusedEarly (BadByte 65536)) (line ++ ys) (Some ys) buffer
refused_front n line ys buffer many long blank other clean =
    let p = take n line in
    let q = drop n line in
    let whole : p ++ q ≡ line = take-append-drop n line in
    let first : length p ≡ n = length-take-le n line (omega (arith, long)) in
    let second : length q ≡ length line - n = length-drop n line in
    let place : length p + (length q - 1) ≡ length line - 1 = omega (arith, first, second, long) in
    let same : p ++ take (length q - 1) q ≡ take (length line - 1) line = sym (take-append-add p q (length q - 1)) ∙ ap (λ i. take i (p ++ q)) place ∙ ap (take (length line - 1)) whole in
    subst (λ l. NextLineFails (no.RefusedEarly (BadByte 65536)) l (Some ys) buffer) (sym (append_assoc p q ys) ∙ ap (λ l. l ++ ys) whole)
    (refused_part p q ys buffer blank (omega (arith, first, many)) (All-drop (λ b. (b == 10) ≡ false) n line clean) (omega (arith, second, long))
    (λ h. other (subst AreBlanks same (blanks-append p (take (length q - 1) q) blank h))))

pub refused_first : (start : Option (List ℕ)) (line buffer : List ℕ) → 65538 ≤ length line → AreBlanks (take 65537 line) → (AreBlanks (take (length line - 1) line) → ⊥)
    → IfSome start (λ ys. NoLineFeed line → NextLineFails (no.RefusedEarly (BadByte 65536)) (line ++ ys) start buffer)
refused_first None line buffer long blank other = tt
refused_first (Some ys) line buffer long blank other = refused_front 65537 line ys buffer (omega arith) (omega (arith, long)) blank other

-- Such a line goes on after its first blanks.
pub goes_on : {A : Type 0} (start left : Option (List ℕ)) (line after buffer : List ℕ) (r : Result (NextLine A) NoLine) → 65538 ≤ length line → AreBlanks (take (length line - 1) line)
    → after ≡ drop (length line - 1) line → OfBlanks start after (Answers left buffer r) → IfSome start (λ ys. NoLineFeed line → Answers left buffer r (line ++ ys))
goes_on None left line after buffer r long blank kept told = tt
goes_on (Some ys) left line after buffer r long blank kept told = λ clean.
    let n = length line - 1 in
    let p = take n line in
    subst (Answers left buffer r) (ap (λ l. p ++ (l ++ ys)) kept ∙ sym (append_assoc p (drop n line) ys) ∙ ap (λ l. l ++ ys) (take-append-drop n line))
    (told p blank (omega (arith, long, length-take-le n line (omega arith))) (subst NoLineFeed (sym kept) (All-drop (λ b. (b == 10) ≡ false) n line clean)))
