-- What a log answers in a later view.
use Rattle.std.proofs.Common.{◌≡◌, ℕ, ◌<◌, Bool, true, false, cond, length, Option, None, refl, ap, ◌∙◌, arith}
use Rattle.std.proofs.lemmas.List.{get_or-map}
use Rattle.ordering.specs.Votes.{voted_digest}
use Rattle.ordering.specs.Log.{Row, no_row, LogData, replicas, is_in_marks, place, row_of, entered_row, row_decided, entered, committed_batch}
use Rattle.ordering.specs.Keeping.{IsLog}
use Rattle.ordering.specs.Laws.{CommittedStay}
use Rattle.ordering.proofs.Keeping.{in_span}

-- the row of a number within the marks
row_behind : (m : LogData) (view i : ℕ) → IsLog m → is_in_marks m i ≡ true → row_of (entered m view) i ≡ entered_row m.faults (replicas m) m.me (row_of m i)
row_behind m view i is h =
    let s = in_span m i h in let size = is.size in let l : place m i < length m.rows = omega arith in
    get_or-map (entered_row m.faults (replicas m) m.me) m.rows (place m i) no_row no_row l

reads : {A : Type 0} (f : Row → Option A) (m : LogData) (view i : ℕ) → IsLog m
    → cond (is_in_marks m i) (f (row_of (entered m view) i)) None ≡ cond (is_in_marks m i) (f (entered_row m.faults (replicas m) m.me (row_of m i))) None
reads f m view i is = go (is_in_marks m i) refl
  where
    go : (b : Bool) → is_in_marks m i ≡ b → cond b (f (row_of (entered m view) i)) None ≡ cond b (f (entered_row m.faults (replicas m) m.me (row_of m i))) None
    go true h = ap f (row_behind m view i is h)
    go false h = refl

none : {A : Type 0} (b : Bool) → cond b (let o : Option A = None in o) None ≡ None
none true = refl
none false = refl

pub committed_stay : CommittedStay
committed_stay m view i s is = (
  reads (λ r. r.batch) m view i is ∙ none (is_in_marks m i),
  reads (λ r. voted_digest r.prepares s) m view i is ∙ none (is_in_marks m i),
  reads (λ r. voted_digest r.commits s) m view i is ∙ none (is_in_marks m i),
  reads (row_decided m.faults (replicas m) m.me) m view i is,
  decided,
)
  where
    decided : is_in_marks m i ≡ true → (row_of (entered m view) i).decided ≡ committed_batch m i
    decided h = ap (λ (r : Row). r.decided) (row_behind m view i is h) ∙ rw h refl
