-- What the fields of a log keep.
use Rattle.std.proofs.Common.{◌≡◌, ℕ, zero, suc, ◌+◌, ◌<◌, ◌^◌, true, List, [], ◌∷◌, ◌++◌, length, drop, replicate, map, take, Some, refl, sym, ap, ◌∙◌, subst, arith, ◌&&◌, nat_lt, nat_le, slice_set, slice_index_or}
use Rattle.std.specs.List.{All}
use Rattle.std.proofs.lemmas.Bool.{and_parts, ltb-true, leb-true}
use Rattle.std.proofs.lemmas.List.{length-set, length-map}
use Rattle.std.proofs.lemmas.List.Elements.{All-set, All-map}
use Rattle.ordering.specs.declared.votes.Phase.{Phase}
use Rattle.ordering.specs.declared.votes.Phase.TheVariants.{Prepare, Commit}
use Rattle.ordering.specs.declared.votes.Vote.{Vote}
use Rattle.ordering.specs.Log.{Row, no_row, LogData, replicas, is_in_marks, place, entered_row, with_row_vote}
use Rattle.ordering.specs.Keeping.{IsRow, IsLog}
use Rattle.ordering.specs.Places.{batch_put, vote_put}
use Rattle.ordering.proofs.Voting.{with_vote_keeps}

-- a number within the marks has a row
pub in_span : (m : LogData) (i : ℕ) → is_in_marks m i ≡ true → place m i < m.span
in_span m i h =
    let a = and_parts (nat_lt m.low i && nat_le i (m.low + m.span)) (nat_lt i (2 ^ 48)) h in
    let b = and_parts (nat_lt m.low i) (nat_le i (m.low + m.span)) a.0 in
    let l = ltb-true m.low i b.0 in let k = leb-true i (m.low + m.span) b.1 in omega arith

row_put : (m : LogData) (at : ℕ) (row : Row) (rows : List Row) → IsLog m → IsRow (replicas m) row → rows ≡ slice_set m.rows at row → (let x : LogData = record m { rows = rows } in IsLog x)
row_put m at row rows is k e = record {
  some = is.some;
  few = is.few;
  me = is.me;
  span = is.span;
  low = is.low;
  size = ap length e ∙ length-set m.rows at row ∙ is.size;
  rows = subst (All (IsRow (replicas m))) (sym e) (All-set (IsRow (replicas m)) m.rows at row k is.rows);
  checkpoints = is.checkpoints;
}

held : (m : LogData) (at : ℕ) → at < m.span → IsLog m → IsRow (replicas m) (slice_index_or m.rows at no_row)
held m at l is = is.rows at no_row (let s = is.size in omega arith)

pub batch_kept : (m : LogData) (at : ℕ) (text : List ℕ) (rows : List Row) → at < m.span → IsLog m → rows ≡ batch_put m.rows at text → (let x : LogData = record m { rows = rows } in IsLog x)
batch_kept m at text rows l is e =
    let k = held m at l is in
    row_put m at (record (slice_index_or m.rows at no_row) { batch = Some text }) rows is (record { prepares = k.prepares; commits = k.commits }) e

row_voted : (phase : Phase) (n : ℕ) (row : Row) (vote : Vote) → vote.sender.0 < n → IsRow n row → IsRow n (with_row_vote phase row vote)
row_voted Prepare n row vote b k = record { prepares = with_vote_keeps n vote row.prepares k.prepares b; commits = k.commits }
row_voted Commit n row vote b k = record { prepares = k.prepares; commits = with_vote_keeps n vote row.commits k.commits b }

pub vote_kept : (phase : Phase) (m : LogData) (at : ℕ) (vote : Vote) (rows : List Row) → at < m.span → IsLog m → vote.sender.0 < replicas m → rows ≡ vote_put phase m.rows at vote
    → (let x : LogData = record m { rows = rows } in IsLog x)
vote_kept phase m at vote rows l is b e =
    let row : Row = slice_index_or m.rows at no_row in
    row_put m at (with_row_vote phase row vote) rows is (row_voted phase (replicas m) row vote b (held m at l is)) e

-- ---- cutting

pub cleared : (rows : List Row) (at : ℕ) → at < length rows → slice_set (replicate at no_row ++ drop at rows) at no_row ≡ replicate (suc at) no_row ++ drop (suc at) rows
cleared [] at l = absurd (omega arith)
cleared (x ∷ rows) zero l = refl
cleared (x ∷ rows) (suc at) l = ap (λ ys. no_row ∷ ys) (cleared rows at (omega arith))

-- ---- entering a view

-- the rows of which so many are changed
pub changed_set : (f : Row → Row) (rows : List Row) (at : ℕ) (d : Row) → at < length rows
    → slice_set (map f (take at rows) ++ drop at rows) at (f (slice_index_or rows at d)) ≡ map f (take (suc at) rows) ++ drop (suc at) rows
changed_set f [] at d l = absurd (omega arith)
changed_set f (x ∷ rows) zero d l = refl
changed_set f (x ∷ rows) (suc at) d l = ap (λ ys. f x ∷ ys) (changed_set f rows at d (omega arith))

pub changed_reads : (f : Row → Row) (rows : List Row) (at : ℕ) (d : Row) → at < length rows → slice_index_or (map f (take at rows) ++ drop at rows) at d ≡ slice_index_or rows at d
changed_reads f [] at d l = absurd (omega arith)
changed_reads f (x ∷ rows) zero d l = refl
changed_reads f (x ∷ rows) (suc at) d l = changed_reads f rows at d (omega arith)

row_entered : (faults n me : ℕ) (row : Row) → IsRow n (entered_row faults n me row)
row_entered faults n me row = record { prepares = tt; commits = tt }

pub rows_entered : (faults n me : ℕ) (rows : List Row) → All (IsRow n) rows → All (IsRow n) (map (entered_row faults n me) rows)
rows_entered faults n me rows held = All-map (IsRow n) (entered_row faults n me) rows (λ i d l. row_entered faults n me (slice_index_or rows i d))

pub log_entered : (m : LogData) (view : ℕ) (rows : List Row) → IsLog m → rows ≡ map (entered_row m.faults (replicas m) m.me) m.rows → (let x : LogData = record m { view = view; active = true; rows = rows } in IsLog x)
log_entered m view rows is e = record {
  some = is.some;
  few = is.few;
  me = is.me;
  span = is.span;
  low = is.low;
  size = ap length e ∙ length-map m.rows (entered_row m.faults (replicas m) m.me) ∙ is.size;
  rows = subst (All (IsRow (replicas m))) (sym e) (rows_entered m.faults (replicas m) m.me m.rows is.rows);
  checkpoints = is.checkpoints;
}
