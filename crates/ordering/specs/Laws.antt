-- How a change of a log changes what it answers. Within the marks the first vote or batch stays, and a change is for
-- one number alone. A batch that was committed in an earlier view stays while it is within the marks.
use Rattle.std.specs.Prelude.{◌≡◌, ℕ, true, List, ◌==◌, if◌then◌else◌, Some, None}
use Rattle.std.specs.Bool.{then_some}
use Rattle.quorum.specs.Votes.{or_else}
use Rattle.ordering.specs.declared.votes.Vote.{Vote}
use Rattle.ordering.specs.Votes.{voted_digest, with_vote}
use Rattle.ordering.specs.Log.{LogData, is_in_marks, with_batch, with_prepare, with_commit, cut_to, entered, row_of, logged_batch, prepare_of, commit_of, committed_batch}
use Rattle.ordering.specs.Keeping.{IsLog}

-- A vote that is added is its sender's first, and nobody else's.
abbrev pub FirstVotesCount : Type 0
FirstVotesCount =
    (vote : Vote) (votes : List Vote) (s : ℕ)
    → voted_digest (with_vote vote votes) s
    ≡ or_else (voted_digest votes s) (then_some (vote.sender.0 == s) vote.digest)

-- A batch is logged for its number, and no vote changes.
abbrev pub BatchesAreLogged : Type 0
BatchesAreLogged =
    (m : LogData) (i j s : ℕ) (text : List ℕ) → IsLog m → is_in_marks m j ≡ true
    → (logged_batch (with_batch m j text) i ≡ (if i == j then Some text else logged_batch m i))
    × (prepare_of (with_batch m j text) i s ≡ prepare_of m i s)
    × (commit_of (with_batch m j text) i s ≡ commit_of m i s)
    × (is_in_marks m i ≡ true → (row_of (with_batch m j text) i).decided ≡ (row_of m i).decided)

-- A prepare counts for its number, as its sender's first, and nothing else changes.
abbrev pub PreparesCount : Type 0
PreparesCount =
    (m : LogData) (i j s : ℕ) (vote : Vote) → IsLog m → is_in_marks m j ≡ true
    → (logged_batch (with_prepare m j vote) i ≡ logged_batch m i)
    × (prepare_of (with_prepare m j vote) i s
    ≡ (if i == j then or_else (prepare_of m i s) (then_some (vote.sender.0 == s) vote.digest)
    else prepare_of m i s))
    × (commit_of (with_prepare m j vote) i s ≡ commit_of m i s)
    × (is_in_marks m i ≡ true → (row_of (with_prepare m j vote) i).decided ≡ (row_of m i).decided)

-- The same of a commit.
abbrev pub CommitsCount : Type 0
CommitsCount =
    (m : LogData) (i j s : ℕ) (vote : Vote) → IsLog m → is_in_marks m j ≡ true
    → (logged_batch (with_commit m j vote) i ≡ logged_batch m i)
    × (prepare_of (with_commit m j vote) i s ≡ prepare_of m i s)
    × (commit_of (with_commit m j vote) i s
    ≡ (if i == j then or_else (commit_of m i s) (then_some (vote.sender.0 == s) vote.digest)
    else commit_of m i s))
    × (is_in_marks m i ≡ true → (row_of (with_commit m j vote) i).decided ≡ (row_of m i).decided)

-- A cut keeps the entries within the marks before and after it, and leaves nothing else.
abbrev pub CutsKeep : Type 0
CutsKeep =
    (m : LogData) (h i s : ℕ) → IsLog m
    → (logged_batch (cut_to m h) i ≡ (if is_in_marks (cut_to m h) i then logged_batch m i else None))
    × (prepare_of (cut_to m h) i s ≡ (if is_in_marks (cut_to m h) i then prepare_of m i s else None))
    × (commit_of (cut_to m h) i s ≡ (if is_in_marks (cut_to m h) i then commit_of m i s else None))
    × (is_in_marks (cut_to m h) i ≡ true
    → (row_of (cut_to m h) i).decided ≡ (if is_in_marks m i then (row_of m i).decided else None))

-- In a later view nothing is logged or voted for yet, and each committed batch stays.
abbrev pub CommittedStay : Type 0
CommittedStay =
    (m : LogData) (view i s : ℕ) → IsLog m
    → (logged_batch (entered m view) i ≡ None) × (prepare_of (entered m view) i s ≡ None)
    × (commit_of (entered m view) i s ≡ None) × (committed_batch (entered m view) i ≡ committed_batch m i)
    × (is_in_marks m i ≡ true → (row_of (entered m view) i).decided ≡ committed_batch m i)
