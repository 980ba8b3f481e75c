-- PBFT's message log of one replica, as plain data: how each message of its view changes it, and which batches are
-- logged, prepared, committed and stable (Castro and Liskov, Practical Byzantine fault tolerance and proactive
-- recovery, TOCS 2002, on normal-case operation and garbage collection).
use Rattle.std.specs.Prelude.{ℕ, ◌+◌, ◌-◌, ◌*◌, ◌%◌, ◌^◌, Bool, true, false, ◌&&◌, not, List, [], ◌++◌, drop, map, replicate, nat_le, nat_lt, ◌==◌, if◌then◌else◌, Option, Some, None, slice_set, slice_index_or, option_map, min, is_none}
use Rattle.std.specs.Option.{option_map_or}
use Rattle.sha2.specs.Sha256.{sha256}
use Rattle.quorum.specs.Quorum.{count_below}
use Rattle.quorum.specs.Votes.{has_digest}
use Rattle.wire_format.specs.Messages.{CheckpointEntryData}
use Rattle.ordering.specs.declared.votes.Phase.{Phase}
use Rattle.ordering.specs.declared.votes.Phase.TheVariants.{Prepare, Commit}
use Rattle.ordering.specs.declared.votes.Vote.{Vote}
use Rattle.ordering.specs.Votes.{voted_digest, voters, with_vote}
use Rattle.ordering.specs.Checkpoints.{with_checkpoint, lists_checkpoint}

-- One number's row: the text of the batch that is logged in the view, the prepares and commits of the view, and the
-- batch that was committed in an earlier view.
pub record Row : Type 0 where
  pub batch : Option (List ℕ)
  pub prepares : List Vote
  pub commits : List Vote
  pub decided : Option (List ℕ)

abbrev pub no_row : Row
no_row = record { batch = None; prepares = []; commits = []; decided = None }

abbrev pub digest_of : Row → Option (List ℕ)
digest_of row = option_map sha256 row.batch

-- The log of the replica me: its view, and whether it is active there; the low mark, and a row for each of the span
-- numbers above the mark, in order; and the checkpoints of each replica.
pub record LogData : Type 0 where
  pub me : ℕ
  pub faults : ℕ
  pub span : ℕ
  pub view : ℕ
  pub active : Bool
  pub low : ℕ
  pub rows : List Row
  pub checkpoints : List (List CheckpointEntryData)

-- a log before its first message
abbrev pub new_log : ℕ → ℕ → ℕ → LogData
new_log me faults span =
    record {
      me = me;
      faults = faults;
      span = span;
      view = 0;
      active = true;
      low = 0;
      rows = replicate span no_row;
      checkpoints = replicate (3 * faults + 1) [];
    }

abbrev pub replicas : LogData → ℕ
replicas m = 3 * m.faults + 1

abbrev pub primary : LogData → ℕ → ℕ
primary m view = view % replicas m

abbrev pub is_active_in : LogData → ℕ → Bool
is_active_in m view = (view == m.view) && m.active

-- a number is above the low mark, at most the span above it, and below 2^48
abbrev pub is_in_marks : LogData → ℕ → Bool
is_in_marks m i = nat_lt m.low i && nat_le i (m.low + m.span) && nat_lt i (2 ^ 48)

-- the place of the row of a number within the marks
abbrev pub place : LogData → ℕ → ℕ
place m i = i - m.low - 1

abbrev pub row_of : LogData → ℕ → Row
row_of m i = slice_index_or m.rows (place m i) no_row

abbrev pub checkpoints_of : LogData → ℕ → List CheckpointEntryData
checkpoints_of m s = slice_index_or m.checkpoints s []

-- ---- changes

abbrev pub with_row : LogData → ℕ → Row → LogData
with_row m i row = record m { rows = slice_set m.rows (place m i) row }

abbrev pub with_batch : LogData → ℕ → List ℕ → LogData
with_batch m i text = with_row m i (record (row_of m i) { batch = Some text })

-- a vote that is added in a phase, to a row or to that of a number
abbrev pub with_row_vote : Phase → Row → Vote → Row
with_row_vote Prepare row vote = record row { prepares = with_vote vote row.prepares }
with_row_vote Commit row vote = record row { commits = with_vote vote row.commits }

abbrev pub with_vote_in : Phase → LogData → ℕ → Vote → LogData
with_vote_in phase m i vote = with_row m i (with_row_vote phase (row_of m i) vote)

abbrev pub with_prepare : LogData → ℕ → Vote → LogData
with_prepare m i vote = with_vote_in Prepare m i vote

abbrev pub with_commit : LogData → ℕ → Vote → LogData
with_commit m i vote = with_vote_in Commit m i vote

abbrev pub with_checkpoint_of : LogData → ℕ → CheckpointEntryData → LogData
with_checkpoint_of m s entry =
    record m {
      checkpoints = slice_set m.checkpoints s (with_checkpoint entry (checkpoints_of m s));
    }

-- The low mark moves up to h: the rows up to it are dropped, and empty ones follow for the numbers that come into the
-- marks.
abbrev pub cut_rows : ℕ → List Row → List Row
cut_rows count rows = drop count rows ++ replicate count no_row

abbrev pub cut_to : LogData → ℕ → LogData
cut_to m h =
    if nat_le h m.low then m
    else record m { low = h; rows = cut_rows (min (h - m.low) m.span) m.rows }

-- ---- logged batches and votes within the marks

-- PrePrepared: the logged batch, and its digest.
abbrev pub logged_batch : LogData → ℕ → Option (List ℕ)
logged_batch m i = if is_in_marks m i then (row_of m i).batch else None

abbrev pub logged_digest : LogData → ℕ → Option (List ℕ)
logged_digest m i = if is_in_marks m i then digest_of (row_of m i) else None

-- a row's votes of a phase
abbrev pub row_votes : Phase → Row → List Vote
row_votes Prepare row = row.prepares
row_votes Commit row = row.commits

-- the digest that the replica s prepared, or committed
abbrev pub vote_of : Phase → LogData → ℕ → ℕ → Option (List ℕ)
vote_of phase m i s = if is_in_marks m i then voted_digest (row_votes phase (row_of m i)) s else None

abbrev pub prepare_of : LogData → ℕ → ℕ → Option (List ℕ)
prepare_of m i s = vote_of Prepare m i s

abbrev pub commit_of : LogData → ℕ → ℕ → Option (List ℕ)
commit_of m i s = vote_of Commit m i s

-- ---- certificates

-- Prepared: the batch is logged, and 2f different backups prepared its digest.
abbrev pub is_row_prepared : ℕ → ℕ → Row → Bool
is_row_prepared faults n row =
    option_map_or (λ digest. nat_le (2 * faults) (voters n digest row.prepares))
    (digest_of row) false

abbrev pub is_prepared : LogData → ℕ → Bool
is_prepared m i = is_in_marks m i && is_row_prepared m.faults (replicas m) (row_of m i)

-- 2f + 1 different replicas committed the digest, the replica itself among them
abbrev pub is_digest_committed : ℕ → ℕ → ℕ → List Vote → List ℕ → Bool
is_digest_committed faults n me commits digest =
    nat_le (2 * faults + 1) (voters n digest commits) && has_digest digest (voted_digest commits me)

-- Committed: prepared, and its digest is committed.
abbrev pub is_row_committed : ℕ → ℕ → ℕ → Row → Bool
is_row_committed faults n me row =
    is_row_prepared faults n row
    && option_map_or (is_digest_committed faults n me row.commits) (digest_of row) false

abbrev pub is_committed : LogData → ℕ → Bool
is_committed m i = is_in_marks m i && is_row_committed m.faults (replicas m) m.me (row_of m i)

-- the batch that is committed in the view, or was in an earlier one
abbrev pub row_decided : ℕ → ℕ → ℕ → Row → Option (List ℕ)
row_decided faults n me row = if is_row_committed faults n me row then row.batch else row.decided

abbrev pub committed_batch : LogData → ℕ → Option (List ℕ)
committed_batch m i =
    if is_in_marks m i then row_decided m.faults (replicas m) m.me (row_of m i) else None

-- ---- views

-- The replica leaves its view, and is not active any more.
abbrev pub left : LogData → LogData
left m = record m { active = false }

-- The replica enters a later view, and is active there. Of each row only a committed batch stays.
abbrev pub entered_row : ℕ → ℕ → ℕ → Row → Row
entered_row faults n me row = record no_row { decided = row_decided faults n me row }

abbrev pub entered : LogData → ℕ → LogData
entered m view =
    record m {
      view = view;
      active = true;
      rows = map (entered_row m.faults (replicas m) m.me) m.rows;
    }

-- ---- the votes that the replica still has to send, while it is active

-- A backup prepares the batch that it logged, and each replica commits the prepared batch.
abbrev pub votes_in : Phase → LogData → ℕ → Bool
votes_in Prepare m i = not (m.me == primary m m.view)
votes_in Commit m i = is_prepared m i

-- The digest of the batch of a number, if the replica votes for it and has not yet.
abbrev pub due_vote : Phase → LogData → ℕ → Option (List ℕ)
due_vote phase m i =
    if m.active && votes_in phase m i && is_none (vote_of phase m i m.me)
    then logged_digest m i else None

abbrev pub due_prepare : LogData → ℕ → Option (List ℕ)
due_prepare m i = due_vote Prepare m i

abbrev pub due_commit : LogData → ℕ → Option (List ℕ)
due_commit m i = due_vote Commit m i

-- ---- stable checkpoints

-- how many replicas have sent this checkpoint
abbrev pub count_checkpoints : LogData → CheckpointEntryData → ℕ
count_checkpoints m entry =
    count_below (λ s. lists_checkpoint entry (checkpoints_of m s)) (replicas m)

-- Stable: a quorum has sent this checkpoint, the replica itself among them.
abbrev pub is_stable : LogData → CheckpointEntryData → Bool
is_stable m entry =
    nat_le (2 * m.faults + 1) (count_checkpoints m entry)
    && lists_checkpoint entry (checkpoints_of m m.me)
