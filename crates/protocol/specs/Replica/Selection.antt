-- How a new view selects its start and its batches from view changes (Castro and Liskov, TOCS 2002, on view changes).
use Rattle.std.specs.Prelude.{ℕ, suc, ◌+◌, ◌-◌, ◌*◌, ◌%◌, Bool, true, false, ◌&&◌, ◌||◌, not, List, [], ◌∷◌, length, map, max, nat_lt, nat_le, ◌==◌, if◌then◌else◌, Option, Some, None, option_and_then, bytes_eq}
use Rattle.std.specs.List.{list_all, list_any}
use Rattle.std.specs.Option.{option_map_or}
use Rattle.sha2.specs.Sha256.{sha256}
use Rattle.quorum.specs.Quorum.{count_below}
use Rattle.protocol.specs.System.Configuration.{Configuration, replicas, span, is_number, members, signers}
use Rattle.wire_format.specs.Messages.{BodyData as Body, NewViewData, ViewChangeData, CheckpointEntryData as CheckpointEntry, BatchEntryData as BatchEntry, view_change as ViewChange}
use Rattle.signing.specs.AuthenticBody.{signed_body}

-- At least 2f + 1 replicas are a quorum. Any two quorums have a correct replica in common.
abbrev pub is_quorum : Configuration → ℕ → Bool
is_quorum c count = nat_le (2 * c.faults + 1) count

-- At least f + 1 replicas are a weak quorum. At least one of them is correct.
abbrev pub is_weak_quorum : Configuration → ℕ → Bool
is_weak_quorum c count = nat_le (c.faults + 1) count

-- ---- the set of view changes

-- the view change in a body, with its sender
abbrev pub change_in : Body → Option (ℕ × ViewChangeData)
change_in body = elim body.message [ ViewChange vc ↦ Some (body.sender, vc) | _ ↦ None ]

-- the view change that the bytes spell, with its sender, if its signature verifies
abbrev pub signed_change : Configuration → List ℕ → Option (ℕ × ViewChangeData)
signed_change c bytes = option_and_then change_in (signed_body (signers c) bytes)

-- the values of the options that have one
abbrev pub list_of : {A : Type 0} → List (Option A) → List A
list_of [] = []
list_of (None ∷ xs) = list_of xs
list_of (Some x ∷ xs) = x ∷ list_of xs

-- the view changes that a new view carries, with their senders, without frames that are no signed view change
abbrev pub changes_of : Configuration → NewViewData → List (ℕ × ViewChangeData)
changes_of c new = list_of (map (signed_change c) new.changes)

-- the view change of the replica in the set
abbrev pub change_by : List (ℕ × ViewChangeData) → ℕ → Option ViewChangeData
change_by [] s = None
change_by (x ∷ xs) s = if x.0 == s then Some x.1 else change_by xs s

-- the replica has a view change in the set, and it passes
abbrev pub passes_by : (ViewChangeData → Bool) → List (ℕ × ViewChangeData) → ℕ → Bool
passes_by test set s = option_map_or test (change_by set s) false

-- how many replicas have a view change in the set that passes
abbrev pub count_in : Configuration → (ViewChangeData → Bool) → List (ℕ × ViewChangeData) → ℕ
count_in c test set = count_below (passes_by test set) (replicas c)

-- ---- a view change within its bounds: views in it are below its own, numbers within its marks, and all below 2^48

-- An entry of a P or Q set is within the bounds of its view change.
abbrev pub is_batch_entry_within : Configuration → ViewChangeData → BatchEntry → Bool
is_batch_entry_within c vc batch_entry =
    nat_lt batch_entry.view vc.view && nat_lt vc.low batch_entry.number && nat_le batch_entry.number (vc.low + span c)
    && is_number batch_entry.number

-- A checkpoint of the C set is within the bounds of its view change.
abbrev pub is_checkpoint_within : Configuration → ViewChangeData → CheckpointEntry → Bool
is_checkpoint_within c vc checkpoint =
    nat_le vc.low checkpoint.number && nat_le checkpoint.number (vc.low + span c) && (checkpoint.number % c.period == 0)
    && is_number checkpoint.number

-- The view change is within its bounds, with all entries of its sets.
abbrev pub is_within : Configuration → ViewChangeData → Bool
is_within c vc = is_number vc.view && is_number vc.low
    && list_all (is_batch_entry_within c vc) vc.prepared && list_all (is_batch_entry_within c vc) vc.pre_prepared
    && list_all (is_checkpoint_within c vc) vc.checkpoints

-- ---- the rules

-- the checkpoint may be the start: a quorum has low marks at or below it, and f + 1 list it
abbrev pub is_start : Configuration → List (ℕ × ViewChangeData) → ℕ → List ℕ → Bool
is_start c set start root =
    is_quorum c (count_in c (λ vc. nat_le vc.low start) set)
    && is_weak_quorum c (count_in c (λ vc. list_any
    (λ checkpoint. (checkpoint.number == start) && bytes_eq checkpoint.digest root) vc.checkpoints) set)

-- the view change meets rule A1: its P entries for the number are of earlier views, or of this view with this digest
abbrev pub agrees : ℕ → ℕ → List ℕ → ViewChangeData → Bool
agrees number view digest vc =
    list_all (λ batch_entry. not (batch_entry.number == number)
    || nat_lt batch_entry.view view || ((batch_entry.view == view) && bytes_eq batch_entry.digest digest)) vc.prepared

-- the view change meets rule A2: its Q set has this digest for the number in this view or a later one
abbrev pub vouches : ℕ → ℕ → List ℕ → ViewChangeData → Bool
vouches number view digest vc =
    list_any (λ batch_entry. (batch_entry.number == number) && bytes_eq batch_entry.digest digest
    && nat_le view batch_entry.view) vc.pre_prepared

-- the digest may be selected for the number by this view: a quorum with lower low marks meets A1, and f + 1 meet A2
abbrev pub may_stand_at : Configuration → List (ℕ × ViewChangeData) → ℕ → List ℕ → ℕ → Bool
may_stand_at c set number digest view =
    is_quorum c (count_in c (λ vc. nat_lt vc.low number && agrees number view digest vc) set)
    && is_weak_quorum c (count_in c (vouches number view digest) set)

-- rule B, by which the null batch may be selected: a quorum with lower low marks has no P entry for the number
abbrev pub may_be_null : Configuration → List (ℕ × ViewChangeData) → ℕ → Bool
may_be_null c set number =
    is_quorum c (count_in c (λ vc. nat_lt vc.low number
    && list_all (λ batch_entry. not (batch_entry.number == number)) vc.prepared) set)

-- the null batch, of no requests, which fills a number for which nothing is prepared
abbrev pub null_batch : List ℕ
null_batch = 0 ∷ []

-- the batch is the null batch
abbrev pub is_null : List ℕ → Bool
is_null batch = bytes_eq batch null_batch

-- some number below n passes
abbrev pub is_some_below : (ℕ → Bool) → ℕ → Bool
is_some_below test n = nat_lt 0 (count_below test n)

-- the batch may be selected for the number, by some earlier view or as the null batch
abbrev pub may_stand : Configuration → ℕ → List (ℕ × ViewChangeData) → ℕ → List ℕ → Bool
may_stand c view set number batch =
    is_some_below (may_stand_at c set number (sha256 batch)) view || (is_null batch && may_be_null c set number)

-- each batch may be selected for its number, from the given one on
abbrev pub may_all_stand : Configuration → ℕ → List (ℕ × ViewChangeData) → ℕ → List (List ℕ) → Bool
may_all_stand c view set number [] = true
may_all_stand c view set number (batch ∷ batches) =
    may_stand c view set number batch && may_all_stand c view set (suc number) batches

-- the largest number of a P set, up to the limit
abbrev pub largest : ℕ → List BatchEntry → ℕ
largest limit [] = 0
largest limit (batch_entry ∷ batch_entries) =
    if nat_le batch_entry.number limit then
    max batch_entry.number (largest limit batch_entries) else
    largest limit batch_entries

-- the largest number in the P sets of all view changes, up to the limit
abbrev pub largest_of : ℕ → List (ℕ × ViewChangeData) → ℕ
largest_of limit [] = 0
largest_of limit (x ∷ xs) = max (largest limit x.1.prepared) (largest_of limit xs)

-- the senders ascend, so each has at most one view change in the set
abbrev pub ascending : List (ℕ × ViewChangeData) → Bool
ascending [] = true
ascending (x ∷ []) = true
ascending (x ∷ y ∷ xs) = nat_lt x.0 y.0 && ascending (y ∷ xs)

-- how many batches a new view must have: up to the largest number prepared, at most the span above its start
abbrev pub how_many_batches : Configuration → NewViewData → ℕ
how_many_batches c new = max (largest_of (new.start + span c) (changes_of c new)) new.start - new.start

-- ---- the rules of a new view, each by its name

-- all that the new view carries are view changes whose signatures verify
abbrev pub all_signed : Configuration → NewViewData → Bool
all_signed c new = length (changes_of c new) == length new.changes

-- a quorum of replicas has a view change in the new view
abbrev pub are_enough : Configuration → NewViewData → Bool
are_enough c new = is_quorum c (count_in c (λ vc. true) (changes_of c new))

-- each view change is for the new view's view, and within its bounds
abbrev pub all_within : Configuration → NewViewData → Bool
all_within c new = list_all (λ x. (x.1.view == new.view) && is_within c x.1) (changes_of c new)

-- the new view has as many batches as it must have
abbrev pub has_length : Configuration → NewViewData → Bool
has_length c new = length new.batches == how_many_batches c new

-- The new view meets all the rules.
unfoldable pub may_select : Configuration → NewViewData → Bool
may_select c new =
    all_signed c new && are_enough c new && ascending (changes_of c new) && all_within c new
    && is_start c (changes_of c new) new.start new.root
    && has_length c new
    && may_all_stand c new.view (changes_of c new) (suc new.start) new.batches
