-- What a replica's past certifies: its view and low mark, its log, prepared and committed batches, and stable
-- checkpoints (Castro and Liskov, TOCS 2002, on quorums and certificates, garbage collection and view changes). Each
-- definition is a function of the past, the newest entry first. Of several messages for one place the first counts.
use Rattle.std.specs.Prelude.{◌≡◌, ℕ, ◌+◌, ◌-◌, ◌*◌, ◌≤◌, Bool, true, false, ◌&&◌, not, List, [], ◌∷◌, take, max, nat_lt, nat_le, ◌==◌, if◌then◌else◌, Option, Some, None, slice_get, option_and_then, bytes_eq, is_some}
use Rattle.std.specs.Bool.{then_some}
use Rattle.std.specs.List.{list_all, list_any}
use Rattle.std.specs.Option.{option_map_or}
use Rattle.sha2.specs.Sha256.{sha256}
use Rattle.quorum.specs.Quorum.{count_below}
use Rattle.quorum.specs.Votes.{or_else, has_digest}
use Rattle.protocol.specs.System.Configuration.{Configuration, replicas, primary, span, is_number, members}
use Rattle.wire_format.specs.Messages.{BodyData as Body, NewViewData, CheckpointEntryData as CheckpointEntry, pre_prepare as PrePrepare, prepare as Prepare, commit as Commit, checkpoint as Checkpoint, view_change as ViewChange, new_view as NewView}
use Rattle.wire_format.specs.Words.{requests_of, said}
use Rattle.signing.specs.AuthenticBody.{authentic}
use Rattle.protocol.specs.System.Trace.{Entry}
use Rattle.protocol.specs.System.Trace.Entry.{Got, Installed, Sent}
use Rattle.protocol.specs.Replica.Selection.{is_quorum, may_select, signed_change, is_within}

-- the body that an entry brings: of a frame that a party receives and that is authentic to it, or of one that it sends
abbrev pub brought : Configuration → Entry → Option Body
brought c (Got p bytes) = authentic (members c p) p bytes
brought c (Sent p bytes) = said bytes
brought c _ = None

-- the greatest value of the function at any entry, or 0
abbrev pub greatest : (Entry → ℕ) → List Entry → ℕ
greatest number [] = 0
greatest number (e ∷ past) = max (number e) (greatest number past)

-- the value at the earliest entry that gives one
abbrev pub first_given : {A : Type 0} → (List Entry → Entry → Option A) → List Entry → Option A
first_given emit [] = None
first_given emit (e ∷ past) = or_else (first_given emit past) (emit past e)

-- ---- the view

-- the new view in a body, if its view's primary sent it and it meets the rules
abbrev pub new_view_from : Configuration → Body → Option NewViewData
new_view_from c body = elim body.message [
  | NewView new ↦ then_some ((body.sender == primary c new.view) && may_select c new) new
  | _ ↦ None
]

-- the new view that an entry brings, if its view's primary sent it and it meets the rules
abbrev pub new_view_in : Configuration → Entry → Option NewViewData
new_view_in c e = option_and_then (new_view_from c) (brought c e)

-- the view of a view change in a body, else 0
abbrev pub change_from : Body → ℕ
change_from body = elim body.message [ ViewChange vc ↦ vc.view | _ ↦ 0 ]

-- the view of a view change that the replica sends in this entry, else 0
abbrev pub change_sent : Entry → ℕ
change_sent (Sent p bytes) = option_map_or change_from (said bytes) 0
change_sent _ = 0

-- the greatest view for which the replica has sent a view change, or 0
abbrev pub target : List Entry → ℕ
target past = greatest change_sent past

-- a replica takes a new view if its view is above the replica's own, and not below the target
abbrev pub is_later : ℕ → ℕ → NewViewData → Bool
is_later v t new = nat_lt v new.view && nat_le t new.view

-- the view after an entry that brings this new view, or none
abbrev pub view_after : ℕ → ℕ → Option NewViewData → ℕ
view_after v t None = v
view_after v t (Some new) = if is_later v t new then new.view else v

-- The replica's view: that of the last new view that it sent or took, 0 before the first.
unfoldable pub view : Configuration → List Entry → ℕ
view c [] = 0
view c (e ∷ past) = view_after (view c past) (target past) (new_view_in c e)

-- the replica is active in view v: it is in that view, and has sent no view change for a later one
abbrev pub is_active_in : Configuration → List Entry → ℕ → Bool
is_active_in c past v = (view c past == v) && nat_le (target past) v

-- the new view that the replica takes or sends in this entry
abbrev pub taken : Configuration → List Entry → Entry → Option NewViewData
taken c past e = option_and_then (λ new. then_some (is_later (view c past) (target past) new) new) (new_view_in c e)

-- ---- the view changes of others

-- the view of replica s's signed view change in the bytes, if it is above view v and within its bounds; else 0
abbrev pub change_taken : Configuration → ℕ → ℕ → List ℕ → ℕ
change_taken c v s bytes =
    option_map_or (λ x. if (x.0 == s) && nat_lt v x.1.view && is_within c x.1 then x.1.view else 0)
    (signed_change c bytes) 0

-- the view of replica s's view change that the party receives in this entry, if it counts; else 0
abbrev pub change_at : Configuration → List Entry → Entry → ℕ → ℕ
change_at c past (Got p bytes) s = change_taken c (view c past) s bytes
change_at c past _ s = 0

-- the greatest view of replica s's view changes that counted, or 0
abbrev pub latest_change : Configuration → List Entry → ℕ → ℕ
latest_change c [] s = 0
latest_change c (e ∷ past) s = max (latest_change c past s) (change_at c past e s)

-- ---- checkpoints

-- the checkpoint in a body, with its sender, if its number is below 2^48
abbrev pub checkpoint_from : Body → Option (ℕ × CheckpointEntry)
checkpoint_from body = elim body.message [
  | Checkpoint number root ↦ then_some (is_number number) (body.sender, record { number = number; digest = root })
  | _ ↦ None
]

-- the checkpoint that an entry brings, with its sender
abbrev pub checkpoint_in : Configuration → Entry → Option (ℕ × CheckpointEntry)
checkpoint_in c e = option_and_then checkpoint_from (brought c e)

-- inserts a checkpoint into a sender's list, the largest number first; of one number the earlier stays
abbrev pub insert_checkpoint : CheckpointEntry → List CheckpointEntry → List CheckpointEntry
insert_checkpoint checkpoint [] = checkpoint ∷ []
insert_checkpoint checkpoint (m ∷ ms) =
    if m.number == checkpoint.number then m ∷ ms else
    if nat_lt m.number checkpoint.number then checkpoint ∷ m ∷ ms else m ∷ insert_checkpoint checkpoint ms

-- a sender's checkpoints after an entry that brings this one: another sender's changes nothing, and at most three stay
abbrev pub with_checkpoint : ℕ → Option (ℕ × CheckpointEntry) → List CheckpointEntry → List CheckpointEntry
with_checkpoint s None checkpoints = checkpoints
with_checkpoint s (Some x) checkpoints = if x.0 == s then take 3 (insert_checkpoint x.1 checkpoints) else checkpoints

-- sender s's checkpoints of the three largest numbers, the largest first; of one number the first counts
unfoldable pub checkpoints_of : Configuration → List Entry → ℕ → List CheckpointEntry
checkpoints_of c [] s = []
checkpoints_of c (e ∷ past) s = with_checkpoint s (checkpoint_in c e) (checkpoints_of c past s)

-- one of these checkpoints has this number and digest
abbrev pub lists_checkpoint : CheckpointEntry → List CheckpointEntry → Bool
lists_checkpoint checkpoint checkpoints =
    list_any (λ m. (m.number == checkpoint.number) && bytes_eq m.digest checkpoint.digest) checkpoints

-- how many replicas have this one among their checkpoints
abbrev pub count_checkpoints : Configuration → List Entry → CheckpointEntry → ℕ
count_checkpoints c past checkpoint =
    count_below (λ s. lists_checkpoint checkpoint (checkpoints_of c past s)) (replicas c)

-- The checkpoint is stable: a quorum of replicas sent it, and so did this replica.
abbrev pub is_stable : Configuration → ℕ → List Entry → CheckpointEntry → Bool
is_stable c me past checkpoint =
    is_quorum c (count_checkpoints c past checkpoint) && lists_checkpoint checkpoint (checkpoints_of c past me)

-- ---- the low mark

-- the number of the checkpoint that an entry makes stable, else 0
abbrev pub stable_at : Configuration → ℕ → List Entry → Entry → ℕ
stable_at c me past e =
    option_map_or (λ x. if is_stable c me (e ∷ past) x.1 then x.1.number else 0) (checkpoint_in c e) 0

-- the number of the state that the replica installs in this entry, else 0
abbrev pub installed_at : Entry → ℕ
installed_at (Installed replica number root) = number
installed_at _ = 0

-- the start of the new view that the replica takes or sends in this entry, else 0
abbrev pub started_at : Configuration → List Entry → Entry → ℕ
started_at c past e = option_map_or (λ new. new.start) (taken c past e) 0

-- The low water mark: the greatest number that became stable, was installed or started a new view; 0 before the first.
unfoldable pub low : Configuration → ℕ → List Entry → ℕ
low c me [] = 0
low c me (e ∷ past) = max (low c me past) (max (stable_at c me past e) (max (installed_at e) (started_at c past e)))

-- the number is above the low water mark, at most the high one, and below 2^48
abbrev pub is_in_marks : Configuration → ℕ → ℕ → Bool
is_in_marks c h number = nat_lt h number && nat_le number (h + span c) && is_number number

-- ---- the log

-- whether an ordering message for view v and number i counts: the replica's own do, others' while it is active in v and
-- has i within its marks
abbrev pub counts_at : Configuration → ℕ → List Entry → Entry → ℕ → ℕ → Bool
counts_at c me past (Got p bytes) v i = is_active_in c past v && is_in_marks c (low c me past) i
counts_at c me past (Sent p bytes) v i = true
counts_at c me past _ v i = false

-- whether each request of the batch is authentic to the replica
abbrev pub are_genuine : Configuration → ℕ → List ℕ → Bool
are_genuine c me batch = list_all (λ request. is_some (authentic (members c me) me request)) (requests_of batch)

-- the batch in a pre-prepare by the primary of view v for number i, if its requests are authentic to the replica
abbrev pub batch_from : Configuration → ℕ → ℕ → ℕ → Body → Option (List ℕ)
batch_from c me v i body = elim body.message [
  | PrePrepare view number batch ↦
      then_some ((view == v) && (number == i) && (body.sender == primary c v) && are_genuine c me batch) batch
  | _ ↦ None
]

-- the batch that a new view for view v assigns to number i
abbrev pub assigned_batch : ℕ → ℕ → NewViewData → Option (List ℕ)
assigned_batch v i new =
    if (new.view == v) && nat_lt new.start i then slice_get new.batches (i - new.start - 1) else None

-- the batch that a new view in this entry pre-prepares in view v for number i, if i is within the marks then
abbrev pub assigned_proposal : Configuration → ℕ → List Entry → Entry → ℕ → ℕ → Option (List ℕ)
assigned_proposal c me past e v i = if is_in_marks c (low c me (e ∷ past)) i then
    option_and_then (assigned_batch v i) (taken c past e) else None

-- the batch that a pre-prepare in this entry pre-prepares in view v for number i, if the message counts
abbrev pub entry_proposal : Configuration → ℕ → List Entry → Entry → ℕ → ℕ → Option (List ℕ)
entry_proposal c me past e v i =
    if counts_at c me past e v i then option_and_then (batch_from c me v i) (brought c e) else None

-- the batch that an entry pre-prepares in view v for number i, by a new view or by a pre-prepare
abbrev pub proposal : Configuration → ℕ → List Entry → Entry → ℕ → ℕ → Option (List ℕ)
proposal c me past e v i = or_else (assigned_proposal c me past e v i) (entry_proposal c me past e v i)

-- The batch that is pre-prepared (logged) for view v and number i: the first that an entry pre-prepared.
unfoldable pub logged : Configuration → ℕ → List Entry → ℕ → ℕ → Option (List ℕ)
logged c me past v i = first_given (λ earlier e. proposal c me earlier e v i) past

-- the digest in a prepare for number i by replica s as a backup of view v
abbrev pub prepare_from : Configuration → ℕ → ℕ → ℕ → Body → Option (List ℕ)
prepare_from c s v i body = elim body.message [
  | Prepare view number digest ↦
      then_some ((body.sender == s) && (view == v) && (number == i) && not (s == primary c v)) digest
  | _ ↦ None
]

-- the digest in a commit for number i by replica s in view v
abbrev pub commit_from : ℕ → ℕ → ℕ → Body → Option (List ℕ)
commit_from s v i body = elim body.message [
  | Commit view number digest ↦ then_some ((body.sender == s) && (view == v) && (number == i)) digest
  | _ ↦ None
]

-- the digest of the vote that an entry brings, if the vote counts
abbrev pub vote_in : Configuration → ℕ → List Entry → Entry → (Body → Option (List ℕ)) → ℕ → ℕ → Option (List ℕ)
vote_in c me past e vote v i = if counts_at c me past e v i then option_and_then vote (brought c e) else None

-- the first digest that replica s prepared in view v for number i
unfoldable pub prepare_of : Configuration → ℕ → List Entry → ℕ → ℕ → ℕ → Option (List ℕ)
prepare_of c me past v i s = first_given (λ earlier e. vote_in c me earlier e (prepare_from c s v i) v i) past

-- the first digest that replica s committed in view v for number i
unfoldable pub commit_of : Configuration → ℕ → List Entry → ℕ → ℕ → ℕ → Option (List ℕ)
commit_of c me past v i s = first_given (λ earlier e. vote_in c me earlier e (commit_from s v i) v i) past

-- Prepared: the batch is logged, and 2f different backups prepared its digest.
pub record Prepared (c : Configuration) (me : ℕ) (past : List Entry) (v i : ℕ) (batch : List ℕ) : Type 0 where
  pub logged : logged c me past v i ≡ Some batch
  pub backups : 2 * c.faults ≤ count_below (λ s. has_digest (sha256 batch) (prepare_of c me past v i s)) (replicas c)

-- Committed: prepared, and 2f + 1 different replicas committed its digest, this replica among them.
pub record Committed (c : Configuration) (me : ℕ) (past : List Entry) (v i : ℕ) (batch : List ℕ) : Type 0 where
  pub prepared : Prepared c me past v i batch
  pub commits : 2 * c.faults + 1 ≤ count_below (λ s. has_digest (sha256 batch) (commit_of c me past v i s)) (replicas c)
  pub own : commit_of c me past v i me ≡ Some (sha256 batch)
