-- What a log answers after a cut.
use Rattle.std.proofs.Common.{◌≡◌, ℕ, zero, suc, ◌+◌, ◌-◌, ◌<◌, ◌≤◌, ◌^◌, Bool, true, false, cond, length, drop, replicate, Option, None, refl, ap, ◌∙◌, arith, ◌&&◌, nat_lt, nat_le, slice_index_or, min}
use Rattle.std.proofs.lemmas.Bool.{and_parts, lt-ltb, leb-true, leb-false}
use Rattle.std.proofs.lemmas.List.{length-drop, get_or-drop, get_or_append_left, get_or-append_right}
use Rattle.ordering.specs.Votes.{voted_digest}
use Rattle.ordering.specs.Log.{Row, no_row, LogData, is_in_marks, row_of, cut_rows, cut_to}
use Rattle.ordering.specs.Keeping.{IsLog}
use Rattle.ordering.specs.Laws.{CutsKeep}
use Rattle.ordering.proofs.Reading.{above_low}

-- the log after a cut above its low mark
abbrev moved : LogData → ℕ → LogData
moved m h = record m { low = h; rows = cut_rows (min (h - m.low) m.span) m.rows }

row_left : (m : LogData) (h i : ℕ) → IsLog m → m.low < h → h < i → i ≤ m.low + m.span → row_of (moved m h) i ≡ row_of m i
row_left m h i is a b c =
    let size = is.size in
    let count : min (h - m.low) m.span ≡ h - m.low = omega arith in
    let d = length-drop (h - m.low) m.rows in
    let l : i - h - 1 < length (drop (h - m.low) m.rows) = omega arith in
    let n : (h - m.low) + (i - h - 1) ≡ i - m.low - 1 = omega arith in
    ap (λ (k : ℕ). slice_index_or (cut_rows k m.rows) (i - h - 1) no_row) count
    ∙ get_or_append_left (drop (h - m.low) m.rows) (replicate (h - m.low) no_row) no_row (i - h - 1) l
    ∙ get_or-drop (h - m.low) m.rows (i - h - 1) no_row
    ∙ ap (λ (k : ℕ). slice_index_or m.rows k no_row) n

pub empty : (n i : ℕ) → slice_index_or (replicate n no_row) i no_row ≡ no_row
empty zero i = refl
empty (suc n) zero = refl
empty (suc n) (suc i) = empty n i

row_empty : (m : LogData) (h i : ℕ) → IsLog m → m.low < h → h < i → m.low + m.span < i → row_of (moved m h) i ≡ no_row
row_empty m h i is a b c =
    let size = is.size in
    let d = length-drop (min (h - m.low) m.span) m.rows in
    let l : length (drop (min (h - m.low) m.span) m.rows) ≤ i - h - 1 = omega arith in
    get_or-append_right (drop (min (h - m.low) m.span) m.rows) (replicate (min (h - m.low) m.span) no_row) (length (drop (min (h - m.low) m.span) m.rows)) (i - h - 1) no_row refl l
    ∙ empty (min (h - m.low) m.span) (i - h - 1 - length (drop (min (h - m.low) m.span) m.rows))

cut_reads : {A : Type 0} (f : Row → Option A) → f no_row ≡ None → (m : LogData) (h i : ℕ) → IsLog m
    → cond (is_in_marks (cut_to m h) i) (f (row_of (cut_to m h) i)) None ≡ cond (is_in_marks (cut_to m h) i) (cond (is_in_marks m i) (f (row_of m i)) None) None
cut_reads f none m h i is = go (nat_le h m.low) refl
  where
    twice : (b : Bool) → cond b (f (row_of m i)) None ≡ cond b (cond b (f (row_of m i)) None) None
    twice true = refl
    twice false = refl

    held : (t : Bool) → nat_le i (m.low + m.span) ≡ t → m.low < h → h < i → nat_lt i (2 ^ 48) ≡ true → f (row_of (moved m h) i) ≡ cond (is_in_marks m i) (f (row_of m i)) None
    held true k a b top =
        let x = lt-ltb m.low i (omega arith) in let w : is_in_marks m i ≡ true = rw (x, k, top) refl in
        rw w (ap f (row_left m h i is a b (leb-true i (m.low + m.span) k)))
    held false k a b top =
        let x = lt-ltb m.low i (omega arith) in let w : is_in_marks m i ≡ false = rw (x, k) refl in
        rw w (ap f (row_empty m h i is a b (leb-false i (m.low + m.span) k)) ∙ none)

    inner : (b : Bool) → is_in_marks (moved m h) i ≡ b → m.low < h → cond b (f (row_of (moved m h) i)) None ≡ cond b (cond (is_in_marks m i) (f (row_of m i)) None) None
    inner false e a = refl
    inner true e a = held (nat_le i (m.low + m.span)) refl a (above_low (moved m h) i e) (and_parts (nat_lt h i && nat_le i (h + m.span)) (nat_lt i (2 ^ 48)) e).1

    go : (t : Bool) → nat_le h m.low ≡ t
        → cond (is_in_marks (cond t m (moved m h)) i) (f (row_of (cond t m (moved m h)) i)) None ≡ cond (is_in_marks (cond t m (moved m h)) i) (cond (is_in_marks m i) (f (row_of m i)) None) None
    go true l = twice (is_in_marks m i)
    go false l = inner (is_in_marks (moved m h) i) refl (leb-false h m.low l)

-- a batch that was committed in an earlier view stays while within the marks
decided_left : (m : LogData) (h i : ℕ) → IsLog m → is_in_marks (cut_to m h) i ≡ true → (row_of (cut_to m h) i).decided ≡ cond (is_in_marks m i) (row_of m i).decided None
decided_left m h i is k = let e = cut_reads (λ r. r.decided) refl m h i is in rw k at e

pub cuts_keep : CutsKeep
cuts_keep m h i s is =
    (cut_reads (λ r. r.batch) refl m h i is, cut_reads (λ r. voted_digest r.prepares s) refl m h i is, cut_reads (λ r. voted_digest r.commits s) refl m h i is, decided_left m h i is)
