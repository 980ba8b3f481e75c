-- Texts that are written one behind another.
use Rattle.std.proofs.Common.{◌≡◌, ℕ, ◌+◌, ◌<◌, ◌≤◌, List, [], ◌∷◌, ◌++◌, length, take, drop, get_or, ap, sym, ◌∙◌, subst}
use Rattle.std.proofs.Common.{arith, append_assoc, length-append, length-drop}
use Rattle.std.proofs.lemmas.List.{take-append-drop, length-take-le, drop-drop, at_drop_more, at_drop_all}
use Rattle.std.proofs.Math.Seq.{take-append-add, take-append_seam, drop-append-add, drop-append_seam}
use Rattle.tuple_tree.specs.Values.{TupleTree}
use Rattle.tuple_tree.specs.Items.{how_many}
use Rattle.tuple_tree.specs.Spelling.{tuple_spelling, items_spelling, datum_spelling}
use Rattle.tuple_codec.specs.Spelling.{tuples_spelling}
use Rattle.space_library.specs.Written.{with_text, PutsAt}

-- Two texts behind a front are one text.
seam : (p t u q : List ℕ)
    → take (length p + length t) (p ++ (t ++ q)) ++ (u ++ drop (length p + length t + length u) (p ++ (t ++ q)))
    ≡ p ++ ((t ++ u) ++ drop (length u) q)
seam p t u q =
    let whole : List ℕ = p ++ (t ++ q) in
    let front : take (length p + length t) whole ≡ p ++ t =
    take-append-add p (t ++ q) (length t) ∙ ap (λ s. p ++ s) (take-append_seam t q) in
    let sum : length p + length t + length u ≡ length p + (length t + length u) = omega arith in
    let back : drop (length p + length t + length u) whole ≡ drop (length u) q =
    ap (λ n. drop n whole) sum ∙ drop-append-add p (t ++ q) (length t + length u) ∙ drop-append-add t q (length u) in
    ap (λ s. s ++ (u ++ drop (length p + length t + length u) whole)) front ∙ ap (λ s. (p ++ t) ++ (u ++ s)) back
    ∙ append_assoc p t (u ++ drop (length u) q) ∙ ap (λ s. p ++ s) (sym (append_assoc t u (drop (length u) q)))

pub written_both : (at : ℕ) (t u old : List ℕ) → at ≤ length old
    → with_text (at + length t) u (with_text at t old) ≡ with_text at (t ++ u) old
written_both at t u old within =
    let p : List ℕ = take at old in
    let q : List ℕ = drop (at + length t) old in
    let whole : List ℕ = p ++ (t ++ q) in
    let len : length p ≡ at = length-take-le at old within in
    let sum : at + length t + length u ≡ at + length (t ++ u) = let l = length-append t u in omega (arith, l) in
    subst (λ n. take (n + length t) whole ++ (u ++ drop (n + length t + length u) whole) ≡ p ++ ((t ++ u) ++ drop (length u) q)) len (seam p t u q)
    ∙ ap (λ s. p ++ ((t ++ u) ++ s)) (drop-drop (length u) (at + length t) old ∙ ap (λ n. drop n old) sum)

pub written_length : (at : ℕ) (t old : List ℕ) → at + length t ≤ length old → length (with_text at t old) ≡ length old
written_length at t old room =
    let within : at ≤ length old = omega (arith, room) in
    let front = length-take-le at old within in
    let back = length-drop (at + length t) old in
    let outer = length-append (take at old) (t ++ drop (at + length t) old) in
    let inner = length-append t (drop (at + length t) old) in
    omega (arith, room, front, back, outer, inner)

pub written_none : (at : ℕ) (old : List ℕ) → with_text at [] old ≡ old
written_none at old =
    let sum : at + 0 ≡ at = omega arith in
    ap (λ n. take at old ++ drop n old) sum ∙ take-append-drop at old

-- A text, and another one behind it.
pub puts_both : (at end last : ℕ) (t u old mid new : List ℕ) → at ≤ length old → PutsAt at t old mid end → PutsAt end u mid new last
    → PutsAt at (t ++ u) old new last
puts_both at end last t u old mid new within one other =
    let sum = length-append t u in
    let here = one.behind in
    let there = other.behind in
    record {
      behind = omega (arith, sum, here, there);
      put = other.put ∙ ap (λ n. with_text n u mid) here ∙ ap (λ m. with_text (at + length t) u m) one.put ∙ written_both at t u old within;
    }

-- The room that is left behind a text.
pub puts_room : (at end more : ℕ) (t old mid : List ℕ) → PutsAt at t old mid end → at + length t + more ≤ length old → end + more ≤ length mid
puts_room at end more t old mid one room =
    let here = one.behind in
    let same : length mid ≡ length old = ap length one.put ∙ written_length at t old (omega (arith, room)) in
    omega (arith, room, here, same)

-- A text that is written first is the front, and the rest stays.
pub first_put : (text old new : List ℕ) (len : ℕ) → PutsAt 0 text old new len → take len new ≡ text
first_put text old new len puts =
    let count : 0 + length text ≡ length text = omega arith in
    ap (λ n. take n new) (puts.behind ∙ count) ∙ ap (λ s. take (length text) s) puts.put
    ∙ take-append_seam text (drop (0 + length text) old)

pub rest_put : (text old new : List ℕ) (len : ℕ) → PutsAt 0 text old new len → drop len new ≡ drop len old
rest_put text old new len puts =
    let count : 0 + length text ≡ length text = omega arith in
    ap (λ n. drop n new) (puts.behind ∙ count) ∙ ap (λ s. drop (length text) s) puts.put
    ∙ drop-append_seam text (drop (0 + length text) old) ∙ sym (ap (λ n. drop n old) puts.behind)

-- Tuples, from one to the next: what is left to be written on what was, is all.
pub tuple_written : (ts : List TupleTree) (i : ℕ) (t : TupleTree) (at end : ℕ) (old new whole : List ℕ) → i < length ts → t ≡ get_or ts i t
    → at ≤ length old → PutsAt at (tuple_spelling t) old new end → with_text at (tuples_spelling (drop i ts)) old ≡ whole
    → with_text end (tuples_spelling (drop (i + 1) ts)) new ≡ whole
tuple_written ts i t at end old new whole p is within puts so_far =
    let rest : List ℕ = tuples_spelling (drop (i + 1) ts) in
    let next : tuples_spelling (drop i ts) ≡ tuple_spelling t ++ rest =
    at_drop_more tuples_spelling ts i t p ∙ ap (λ u. tuple_spelling u ++ rest) (sym is) in
    ap (λ n. with_text n rest new) puts.behind ∙ ap (λ m. with_text (at + length (tuple_spelling t)) rest m) puts.put
    ∙ written_both at (tuple_spelling t) rest old within ∙ sym (ap (λ s. with_text at s old) next) ∙ so_far

pub tuple_length : (ts : List TupleTree) (i : ℕ) (t : TupleTree) (at end all : ℕ) → i < length ts → t ≡ get_or ts i t
    → end ≡ at + length (tuple_spelling t) → at + length (tuples_spelling (drop i ts)) ≡ all
    → end + length (tuples_spelling (drop (i + 1) ts)) ≡ all
tuple_length ts i t at end all p is here so_far =
    let rest : List ℕ = tuples_spelling (drop (i + 1) ts) in
    let next : length (tuples_spelling (drop i ts)) ≡ length (tuple_spelling t ++ rest) =
    ap length (at_drop_more tuples_spelling ts i t p ∙ ap (λ u. tuple_spelling u ++ rest) (sym is)) in
    let sum = length-append (tuple_spelling t) rest in
    omega (arith, here, so_far, next, sum)

pub tuples_written : (ts : List TupleTree) (i at : ℕ) (new whole : List ℕ) → length ts ≤ i
    → with_text at (tuples_spelling (drop i ts)) new ≡ whole → new ≡ whole
tuples_written ts i at new whole past so_far =
    sym (written_none at new) ∙ sym (at_drop_all (λ us. with_text at (tuples_spelling us) new) ts i past) ∙ so_far

pub tuples_length : (ts : List TupleTree) (i at all : ℕ) → length ts ≤ i → at + length (tuples_spelling (drop i ts)) ≡ all → at ≡ all
tuples_length ts i at all past so_far =
    let none : at + 0 ≡ all = sym (at_drop_all (λ us. at + length (tuples_spelling us)) ts i past) ∙ so_far in
    omega (arith, none)

pub puts_length : (at end : ℕ) (t old new : List ℕ) → at + length t ≤ length old → PutsAt at t old new end → length new ≡ length old
puts_length at end t old new room puts = ap length puts.put ∙ written_length at t old room

-- A tuple is a count and its items.
pub tuple_puts : (t : TupleTree) (count at end last : ℕ) (items old mid new : List ℕ) → count ≡ how_many t → items ≡ items_spelling datum_spelling t
    → at + length (tuple_spelling t) ≤ length old → PutsAt at (count ∷ []) old mid end → PutsAt end items mid new last
    → PutsAt at (tuple_spelling t) old new last
tuple_puts t count at end last items old mid new counted spelled room one other =
    let within : at ≤ length old = omega (arith, room) in
    subst (λ n. PutsAt at (n ∷ items_spelling datum_spelling t) old new last) counted
    (subst (λ bs. PutsAt at (count ∷ bs) old new last) spelled
    (puts_both at end last (count ∷ []) items old mid new within one other))

-- One more tuple has room where all have.
pub tuple_room : (ts : List TupleTree) (i : ℕ) (t : TupleTree) (at all room : ℕ) → i < length ts → t ≡ get_or ts i t
    → at + length (tuples_spelling (drop i ts)) ≡ all → all ≤ room → at + length (tuple_spelling t) ≤ room
tuple_room ts i t at all room p is so_far low =
    let rest : List ℕ = tuples_spelling (drop (i + 1) ts) in
    let next : length (tuples_spelling (drop i ts)) ≡ length (tuple_spelling t ++ rest) =
    ap length (at_drop_more tuples_spelling ts i t p ∙ ap (λ u. tuple_spelling u ++ rest) (sym is)) in
    let sum = length-append (tuple_spelling t) rest in
    omega (arith, so_far, low, next, sum)
