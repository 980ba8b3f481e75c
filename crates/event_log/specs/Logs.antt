-- A log as bytes: a header that ties it to its owner, and groups of events.
-- Groups are numbered through: each says the number of its first event, counted from 0.
use Rattle.std.specs.Prelude.{◌≡◌, ℕ, ◌+◌, List, [], ◌∷◌, ◌++◌, length, drop, ⊤}
use Rattle.std.specs.Int.{w64, to_be_bytes}
use Rattle.sqlite_disk.specs.Digest.{digest}
use Rattle.event_log.specs.Groups.{IsGroup, BeginsWithGroup, group_bytes, HasNoGroup, HasNoNext}
use Rattle.event_log.specs.declared.owner.Owner.{Owner}
use Rattle.event_log.specs.declared.header.TheConstants.{FORM}

-- the form's name, the owner's mark and key
abbrev pub header_text : Owner → List ℕ
header_text owner = to_be_bytes w64 FORM ++ (to_be_bytes w64 owner.mark ++ to_be_bytes w64 owner.key)

-- a header: its text, and a check of it
abbrev pub header_bytes : Owner → List ℕ
header_bytes owner = header_text owner ++ to_be_bytes w64 (digest 0 (header_text owner))

-- these groups, the first event of which has this number
abbrev pub groups_bytes : Owner → ℕ → List (List (List ℕ)) → List ℕ
groups_bytes owner number [] = []
groups_bytes owner number (events ∷ groups) =
    group_bytes owner number events ++ groups_bytes owner (number + length events) groups

abbrev pub AreGroups : ℕ → List (List (List ℕ)) → Type 0
AreGroups number [] = ⊤
AreGroups number (events ∷ groups) = IsGroup number events × AreGroups (number + length events) groups

-- a log that has these groups
abbrev pub log_bytes : Owner → List (List (List ℕ)) → List ℕ
log_bytes owner groups = header_bytes owner ++ groups_bytes owner 0 groups

-- the events of all groups
abbrev pub events_of : List (List (List ℕ)) → List (List ℕ)
events_of [] = []
events_of (events ∷ groups) = events ++ events_of groups

-- The file begins with a log of these events, whatever is behind it. tail: what is behind it.
pub record BeginsWith (owner : Owner) (events : List (List ℕ)) (file tail : List ℕ) : Type 0 where
  pub groups : List (List (List ℕ))
  pub are_groups : AreGroups 0 groups
  pub told : events_of groups ≡ events
  pub whole : file ≡ log_bytes owner groups ++ tail

-- A file keeps these events: it begins with a log of them.
pub record Keeps (owner : Owner) (events : List (List ℕ)) (file : List ℕ) : Type 0 where
  pub tail : List ℕ
  pub begins : BeginsWith owner events file tail

-- A file is read as these events: it begins with a log of them, and behind that no sound group stands anywhere. So what
-- is behind that is a torn tail, and not damage.
pub record Reads (owner : Owner) (file : List ℕ) (events : List (List ℕ)) : Type 0 where
  pub tail : List ℕ
  pub begins : BeginsWith owner events file tail
  pub torn : HasNoGroup owner tail

-- Behind the front events this group stands last in a file, and then the tail. Before any group both are none.
pub data IsLast (owner : Owner) (file tail : List ℕ) : List (List ℕ) → List (List ℕ) → Type 0 where
  no_group : IsLast owner file tail [] []
  behind : (front group : List (List ℕ)) → IsGroup (length front) group
      → BeginsWith owner front file (group_bytes owner (length front) group ++ tail)
      → IsLast owner file tail front group

-- A file is read as the front events, and then those of its last group.
pub record ReadsLast (owner : Owner) (file : List ℕ) (front last : List (List ℕ)) : Type 0 where
  pub tail : List ℕ
  pub begins : BeginsWith owner (front ++ last) file tail
  pub is_last : IsLast owner file tail front last
  pub torn : HasNoGroup owner tail

-- A file is damaged: it begins with a log, no group of the next number stands behind that, and a sound group does.
pub record IsDamaged (owner : Owner) (file : List ℕ) : Type 0 where
  pub events : List (List ℕ)
  pub tail : List ℕ
  pub begins : BeginsWith owner events file tail
  pub none : HasNoNext owner (length events) tail
  pub place : ℕ
  pub sound : BeginsWithGroup owner (drop place tail)

-- The second list is the first one with more behind it.
pub record Extends {X : Type 0} (first longer : List X) : Type 0 where
  pub more : List X
  pub is : longer ≡ first ++ more
