-- What a log answers after a change.
use Rattle.std.proofs.Common.{◌≡◌, ℕ, ◌+◌, ◌<◌, ◌^◌, Bool, true, false, cond, List, length, Option, Some, None, refl, sym, ap, ◌∙◌, subst, arith, ◌&&◌, ◌==◌, eqb-true, nat_lt, nat_le, slice_set, slice_index_or}
use Rattle.std.proofs.lemmas.Bool.{and_parts, ltb-true, eqb-false}
use Rattle.std.proofs.lemmas.List.{get_or-set_same, get_or-set_other}
use Rattle.std.specs.Bool.{then_some}
use Rattle.quorum.specs.Votes.{or_else}
use Rattle.ordering.specs.declared.votes.Vote.{Vote}
use Rattle.ordering.specs.Votes.{voted_digest, with_vote}
use Rattle.ordering.specs.Log.{Row, no_row, LogData, is_in_marks, place, row_of, with_row}
use Rattle.ordering.specs.Keeping.{IsLog}
use Rattle.ordering.specs.Laws.{BatchesAreLogged, PreparesCount, CommitsCount}
use Rattle.ordering.proofs.Keeping.{in_span}
use Rattle.ordering.proofs.Voting.{with_vote_of}

pub above_low : (m : LogData) (i : ℕ) → is_in_marks m i ≡ true → m.low < i
above_low m i h =
    let a = and_parts (nat_lt m.low i && nat_le i (m.low + m.span)) (nat_lt i (2 ^ 48)) h in
    let b = and_parts (nat_lt m.low i) (nat_le i (m.low + m.span)) a.0 in
    ltb-true m.low i b.0

-- the row of a number within the marks
row_behind : (m : LogData) (i j : ℕ) (row : Row) → IsLog m → is_in_marks m i ≡ true → is_in_marks m j ≡ true → row_of (with_row m j row) i ≡ cond (i == j) row (row_of m i)
row_behind m i j row is hi hj = go (i == j) refl
  where
    go : (b : Bool) → (i == j) ≡ b → slice_index_or (slice_set m.rows (place m j) row) (place m i) no_row ≡ cond b row (row_of m i)
    go true e =
        let same : i ≡ j = eqb-true i j e in
        let s = in_span m j hj in let size = is.size in let l : place m j < length m.rows = omega arith in
        ap (λ (n : ℕ). slice_index_or (slice_set m.rows (place m j) row) (place m n) no_row) same ∙ get_or-set_same m.rows (place m j) row no_row l
    go false e =
        let d = eqb-false i j e in let a = above_low m i hi in let b = above_low m j hj in
        get_or-set_other m.rows (place m j) (place m i) row no_row (λ h. absurd (omega arith))

-- what it answers for the row: the new at its number, and the old at others
reads : {A : Type 0} (f : Row → Option A) (m : LogData) (i j : ℕ) (row : Row) → IsLog m → is_in_marks m j ≡ true
    → cond (is_in_marks m i) (f (row_of (with_row m j row) i)) None ≡ cond (i == j) (f row) (cond (is_in_marks m i) (f (row_of m i)) None)
reads f m i j row is hj = go (is_in_marks m i) refl
  where
    within : (b : Bool) → f (cond b row (row_of m i)) ≡ cond b (f row) (f (row_of m i))
    within true = refl
    within false = refl

    outside : (b : Bool) → (i == j) ≡ b → is_in_marks m i ≡ false → None ≡ cond b (f row) None
    outside true e h = let same : i ≡ j = eqb-true i j e in let in_marks : is_in_marks m i ≡ true = subst (λ (n : ℕ). is_in_marks m n ≡ true) (sym same) hj in absurd cc
    outside false e h = refl

    go : (b : Bool) → is_in_marks m i ≡ b → cond b (f (row_of (with_row m j row) i)) None ≡ cond (i == j) (f row) (cond b (f (row_of m i)) None)
    go true h = ap f (row_behind m i j row is h hj) ∙ within (i == j)
    go false h = outside (i == j) refl h

-- the answers stay if the row has the same
unread : {A : Type 0} (f : Row → Option A) (m : LogData) (i j : ℕ) (row : Row) → IsLog m → is_in_marks m j ≡ true → f row ≡ f (row_of m j)
    → cond (is_in_marks m i) (f (row_of (with_row m j row) i)) None ≡ cond (is_in_marks m i) (f (row_of m i)) None
unread f m i j row is hj same = reads f m i j row is hj ∙ go (i == j) refl
  where
    go : (b : Bool) → (i == j) ≡ b → cond b (f row) (cond (is_in_marks m i) (f (row_of m i)) None) ≡ cond (is_in_marks m i) (f (row_of m i)) None
    go true e =
        let is_same : i ≡ j = eqb-true i j e in let in_marks : is_in_marks m i ≡ true = subst (λ (n : ℕ). is_in_marks m n ≡ true) (sym is_same) hj in
        rw in_marks (same ∙ ap (λ (n : ℕ). f (row_of m n)) (sym is_same))
    go false e = refl

-- a vote is read at its number
voted : (f : Row → List Vote) (m : LogData) (i j s : ℕ) (vote : Vote) (row : Row) → IsLog m → is_in_marks m j ≡ true → f row ≡ with_vote vote (f (row_of m j))
    → cond (is_in_marks m i) (voted_digest (f (row_of (with_row m j row) i)) s) None
    ≡ cond (i == j) (or_else (cond (is_in_marks m i) (voted_digest (f (row_of m i)) s) None) (then_some (vote.sender.0 == s) vote.digest)) (cond (is_in_marks m i) (voted_digest (f (row_of m i)) s) None)
voted f m i j s vote row is hj same = reads (λ r. voted_digest (f r) s) m i j row is hj ∙ go (i == j) refl
  where
    go : (b : Bool) → (i == j) ≡ b
        → cond b (voted_digest (f row) s) (cond (is_in_marks m i) (voted_digest (f (row_of m i)) s) None)
        ≡ cond b (or_else (cond (is_in_marks m i) (voted_digest (f (row_of m i)) s) None) (then_some (vote.sender.0 == s) vote.digest)) (cond (is_in_marks m i) (voted_digest (f (row_of m i)) s) None)
    go true e =
        let is_same : i ≡ j = eqb-true i j e in let in_marks : is_in_marks m i ≡ true = subst (λ (n : ℕ). is_in_marks m n ≡ true) (sym is_same) hj in
        rw in_marks
        (ap (λ (votes : List Vote). voted_digest votes s) (same ∙ ap (λ (n : ℕ). with_vote vote (f (row_of m n))) (sym is_same)) ∙ with_vote_of vote (f (row_of m i)) s)
    go false e = refl

-- a batch that was committed in an earlier view stays if the row has the same
decided_stays : (m : LogData) (i j : ℕ) (row : Row) → IsLog m → is_in_marks m j ≡ true → row.decided ≡ (row_of m j).decided → is_in_marks m i ≡ true → (row_of (with_row m j row) i).decided ≡ (row_of m i).decided
decided_stays m i j row is hj same hi = ap (λ (r : Row). r.decided) (row_behind m i j row is hi hj) ∙ go (i == j) refl
  where
    go : (b : Bool) → (i == j) ≡ b → (let r : Row = cond b row (row_of m i) in r.decided) ≡ (row_of m i).decided
    go true e = same ∙ ap (λ (n : ℕ). (row_of m n).decided) (sym (eqb-true i j e))
    go false e = refl

pub batches_are_logged : BatchesAreLogged
batches_are_logged m i j s text is hj =
    let row : Row = record (row_of m j) { batch = Some text } in
    (reads (λ r. r.batch) m i j row is hj, unread (λ r. voted_digest r.prepares s) m i j row is hj refl, unread (λ r. voted_digest r.commits s) m i j row is hj refl, decided_stays m i j row is hj refl)

pub prepares_count : PreparesCount
prepares_count m i j s vote is hj =
    let row : Row = record (row_of m j) { prepares = with_vote vote (row_of m j).prepares } in
    (unread (λ r. r.batch) m i j row is hj refl, voted (λ r. r.prepares) m i j s vote row is hj refl, unread (λ r. voted_digest r.commits s) m i j row is hj refl, decided_stays m i j row is hj refl)

pub commits_count : CommitsCount
commits_count m i j s vote is hj =
    let row : Row = record (row_of m j) { commits = with_vote vote (row_of m j).commits } in
    (unread (λ r. r.batch) m i j row is hj refl, unread (λ r. voted_digest r.prepares s) m i j row is hj refl, voted (λ r. r.commits) m i j s vote row is hj refl, decided_stays m i j row is hj refl)
