-- The first line of bytes.
use Rattle.std.proofs.Common.{◌≡◌, ◌⊎◌, inl, inr, ℕ, zero, suc, ◌+◌, ◌-◌, ◌<◌, ◌≤◌, ◌==◌, Bool, true, false, cond, List}
use Rattle.std.proofs.Common.{[], ◌∷◌, ◌++◌, length, take, get_or, refl, sym, ap, ◌∙◌, arith, append_assoc}
use Rattle.std.proofs.Common.{length-take-le, length-append, take-take, ne_eqb, eqb-true}
use Rattle.std.proofs.lemmas.List.Elements.{All-nil, All-append}
use Rattle.std.proofs.lemmas.List.{take-append-le}
use Rattle.std.proofs.lemmas.List.Splits.{slice_split_at, slice_split_none, length-slice_split}
use Rattle.std.specs.List.{slice_split}
use Rattle.std.specs.Str.Lines.{lines, lines_of_parts, strip_carriage_return}
use Rattle.std.specs.Io.BufRead.{drop_through}
use Rattle.one_space.proofs.PieceLemmas.{NoLineFeed}

parts-cons : (x : List ℕ) (parts : List (List ℕ)) → 0 < length parts → lines_of_parts (x ∷ parts) ≡ strip_carriage_return x ∷ lines_of_parts parts
parts-cons x [] some = absurd (omega arith)
parts-cons x (y ∷ more) some = refl

split_some : (ys : List ℕ) → 0 < length (slice_split (λ b. b == 10) ys)
split_some ys = omega (arith, length-slice_split (λ b. b == 10) ys)

-- up to a line feed
pub lines-at : (p ys : List ℕ) → NoLineFeed p → lines (p ++ 10 ∷ ys) ≡ strip_carriage_return p ∷ lines ys
lines-at p ys clean = ap lines_of_parts (slice_split_at (λ b. b == 10) p 10 ys clean refl) ∙ parts-cons p (slice_split (λ b. b == 10) ys) (split_some ys)

-- up to the end
pub lines-last : (p : List ℕ) → NoLineFeed p → 0 < length p → lines p ≡ p ∷ []
lines-last p clean some = ap lines_of_parts (slice_split_none (λ b. b == 10) p clean) ∙ rw (ne_eqb (length p) 0 (omega arith)) refl

-- the rest of a line, and the bytes after it
pub record LineRest (ys : List ℕ) : Type 0 where
  pub part : List ℕ
  pub one_line : NoLineFeed part
  pub end : ((ys ≡ part) × (drop_through 10 ys ≡ [])) ⊎ ((zs : List ℕ) × (ys ≡ part ++ 10 ∷ zs) × (drop_through 10 ys ≡ zs))

pub NoLineFeed-cons : (y : ℕ) (ys : List ℕ) → (y == 10) ≡ false → NoLineFeed ys → NoLineFeed (y ∷ ys)
NoLineFeed-cons y ys e h = All-append (λ b. (b == 10) ≡ false) (y ∷ []) ys (λ k d below. one k d below) h
  where
    one : (k d : ℕ) → k < 1 → (get_or (y ∷ []) k d == 10) ≡ false
    one zero d below = e
    one (suc k) d below = absurd (omega arith)

pub line_rest : (ys : List ℕ) → LineRest ys
line_rest [] = record { part = []; one_line = All-nil (λ b. (b == 10) ≡ false); end = inl (refl, refl) }
line_rest (y ∷ ys) = at (y == 10) refl (line_rest ys)
  where
    at : (b : Bool) → (y == 10) ≡ b → LineRest ys → LineRest (y ∷ ys)
    at true e rest = record {
      part = [];
      one_line = All-nil (λ b. (b == 10) ≡ false);
      end = inr (ys, ap (λ x. x ∷ ys) (eqb-true y 10 e), rw e refl);
    }
    at false e rest = record {
      part = y ∷ rest.part;
      one_line = NoLineFeed-cons y rest.part e rest.one_line;
      end = elim rest.end [
        | inl h ↦ inl (ap (λ l. y ∷ l) h.0, rw e h.1)
        | inr h ↦ inr (h.0, ap (λ l. y ∷ l) h.1, rw e h.2)
      ];
    }

pub strip-keeps : (l : List ℕ) (n : ℕ) → n + 1 ≤ length l → (take n (strip_carriage_return l) ≡ take n l) × (n ≤ length (strip_carriage_return l))
strip-keeps l n long = at (get_or l (length l - 1) 0 == 13)
  where
    at : (b : Bool) → (take n (cond b (take (length l - 1) l) l) ≡ take n l) × (n ≤ length (cond b (take (length l - 1) l) l))
    at true = (take-take n (length l - 1) l (omega arith), omega (arith, length-take-le (length l - 1) l (omega arith)))
    at false = (refl, omega arith)

-- the first line of p and ys; p begins it, and the first n bytes are those of p
pub record LongLine (p ys : List ℕ) (n : ℕ) : Type 0 where
  pub line : List ℕ
  pub split : lines (p ++ ys) ≡ line ∷ lines (drop_through 10 ys)
  pub front : take n line ≡ take n p
  pub long : n ≤ length line

pub long_line_of : (p ys : List ℕ) (n : ℕ) → NoLineFeed p → n + 1 ≤ length p → LongLine p ys n
long_line_of p ys n clean long = at (line_rest ys)
  where
    at : LineRest ys → LongLine p ys n
    at rest =
        let whole = All-append (λ b. (b == 10) ≡ false) p rest.part clean rest.one_line in
        let longer : n + 1 ≤ length (p ++ rest.part) = omega (arith, length-append p rest.part) in
        let same : take n (p ++ rest.part) ≡ take n p = take-append-le n p rest.part (omega arith) in
        let kept = strip-keeps (p ++ rest.part) n longer in
        elim rest.end [
          | inl h ↦ record {
            line = p ++ rest.part;
            split = ap (λ l. lines (p ++ l)) h.0 ∙ lines-last (p ++ rest.part) whole (omega arith) ∙ ap (λ l. (p ++ rest.part) ∷ lines l) (sym h.1);
            front = same;
            long = omega arith;
          }
          | inr h ↦ record {
            line = strip_carriage_return (p ++ rest.part);
            split = ap (λ l. lines (p ++ l)) h.1 ∙ ap lines (sym (append_assoc p rest.part (10 ∷ h.0))) ∙ lines-at (p ++ rest.part) h.0 whole ∙ ap (λ l. strip_carriage_return (p ++ rest.part) ∷ lines l) (sym h.2);
            front = kept.0 ∙ same;
            long = kept.1;
          }
        ]
