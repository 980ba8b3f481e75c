-- A log that goes on, and a log that is read.
use Rattle.std.specs.Prelude.{◌≡◌, ℕ, ◌+◌, ◌-◌, ◌<◌, ◌^◌, Bool, IsTrue, MatchBool, List, [], ◌++◌, length, take, drop}
use Rattle.sqlite_disk.specs.Disk.{Only}
use Rattle.event_log.specs.Events.{event_bytes, events_bytes}
use Rattle.event_log.specs.Finding.{NoGroupFrom}
use Rattle.event_log.specs.Groups.{IsGroup, group_bytes, HasNoGroup, HasNoNext}
use Rattle.event_log.specs.Logs.{BeginsWith, IsDamaged, IsLast, Keeps, Reads}
use Rattle.event_log.specs.declared.owner.Owner.{Owner}
use Rattle.event_log.specs.declared.log.Log.{Log}
use Rattle.event_log.specs.declared.reading.Reading.{Reading}

-- The disk has a log of the synced events and nothing else, and a crash leaves just that. The owner's log goes on
-- behind them, and gathers the held events for its next group. If it is resting, no event is in the last group.
pub record Stands {D : Type 0} (seen : D → List ℕ) (may_leave : D → List ℕ → Type 0) (owner : Owner) (log : Log)
    (disk : D) (synced held : List (List ℕ)) : Type 0 where
  pub owner_is : log.owner ≡ owner
  pub file : BeginsWith owner synced (seen disk) []
  pub lasting : Only (seen disk) (may_leave disk)
  pub end_is : log.end ≡ length (seen disk)
  pub number_is : log.number ≡ length synced
  pub gathers : log.gathered.items ≡ events_bytes held
  pub count_is : log.count ≡ length held
  pub resting : IsTrue log.is_resting → IsLast owner (seen disk) [] synced []

-- The log goes on where it went on.
pub record IsAtTheSame (old new : Log) : Type 0 where
  pub owner_is : new.owner ≡ old.owner
  pub end_is : new.end ≡ old.end
  pub number_is : new.number ≡ old.number
  pub rest_is : new.is_resting ≡ old.is_resting

-- It gathers one event more.
pub record GathersMore (old new : Log) (event : List ℕ) : Type 0 where
  pub place : IsAtTheSame old new
  pub gathers : new.gathered.items ≡ old.gathered.items ++ event_bytes event
  pub count_is : new.count ≡ old.count + 1

-- It gathers the same.
pub record GathersTheSame (old new : Log) : Type 0 where
  pub place : IsAtTheSame old new
  pub gathers : new.gathered.items ≡ old.gathered.items
  pub count_is : new.count ≡ old.count

-- The file begins with a log of these events, and the owner's log is read up to there.
pub record IsAt (owner : Owner) (reading : Reading) (file : List ℕ) (events : List (List ℕ)) : Type 0 where
  pub owner_is : reading.owner ≡ owner
  pub tail : List ℕ
  pub begins : BeginsWith owner events file tail
  pub place_is : reading.place + length tail ≡ length file
  pub len_is : reading.len ≡ length file
  pub number_is : reading.number ≡ length events

-- the bytes of the events of the group that was read last
abbrev pub text_of : Reading → List ℕ
text_of reading = take (length reading.group.items - 28) (drop 20 reading.group.items)

-- how many bytes of the file are not read yet
abbrev pub unread : Reading → ℕ
unread reading = reading.len - reading.place

-- Behind these events a group was read, of the events that the text says. It stood there.
pub record ReadsGroup (owner : Owner) (reading : Reading) (file : List ℕ) (events : List (List ℕ)) : Type 0 where
  pub group : List (List ℕ)
  pub short : length (events_bytes group) < 2 ^ 32
  pub text : text_of reading ≡ events_bytes group
  pub at : IsAt owner reading file (events ++ group)
  pub is_group : IsGroup (length events) group
  pub stood : BeginsWith owner events file (group_bytes owner (length events) group ++ at.tail)

-- Behind these events no group of the next number stands. tail: what is behind them.
pub record ReadsNone (owner : Owner) (reading : Reading) (file : List ℕ) (events : List (List ℕ)) (tail : List ℕ)
    : Type 0 where
  pub at : IsAt owner reading file events
  pub tail_is : at.tail ≡ tail
  pub none : HasNoNext owner (length events) at.tail

-- ---- what the calls do

-- If the owner's log was read up to some events, its next group is read now, if there is one. Else it is where it was.
abbrev pub ReadsNext : Reading → List ℕ → Bool → Reading → Type 0
ReadsNext old file more new =
    (owner : Owner) (events : List (List ℕ)) (at : IsAt owner old file events)
    → MatchBool more (ReadsGroup owner new file events) (ReadsNone owner new file events at.tail)

-- If the owner's log was read up to some events, no sound group is behind them: the file is read as these events. The
-- log stands behind them.
abbrev pub EndsReading : {D : Type 0} → (D → List ℕ) → (D → List ℕ → Type 0) → Reading → List ℕ → Log → D → Type 0
EndsReading seen may_leave reading file log disk =
    (owner : Owner) (events : List (List ℕ)) (at : IsAt owner reading file events)
    → HasNoGroup owner at.tail × Stands seen may_leave owner log disk events []

-- If the owner's log was read to its end, and is damaged, a crash leaves it as it is.
abbrev pub LeavesDamage : {D : Type 0} → (D → List ℕ → Type 0) → Reading → List ℕ → D → Type 0
LeavesDamage may_leave reading file disk =
    (owner : Owner) (events : List (List ℕ)) (left tail : List ℕ) → ReadsNone owner reading file events tail
    → IsDamaged owner file → may_leave disk left → left ≡ file

-- Whatever a crash leaves now keeps all events as which the file was read.
abbrev pub KeepsRead : {D : Type 0} → (D → List ℕ → Type 0) → Reading → List ℕ → D → Type 0
KeepsRead may_leave reading file disk =
    (owner : Owner) (events all : List (List ℕ)) (left : List ℕ) → IsAt owner reading file events
    → Reads owner file all → may_leave disk left → Keeps owner all left

-- If the owner's log was read up to some events, the log stands behind them once what is behind them is cut.
abbrev pub Cuts : {D : Type 0} → (D → List ℕ) → (D → List ℕ → Type 0) → Reading → List ℕ → Log → D → Type 0
Cuts seen may_leave reading file log disk =
    (owner : Owner) (events : List (List ℕ)) → IsAt owner reading file events
    → Stands seen may_leave owner log disk events []

-- If no sound group is behind what was read, whatever a crash leaves in the midst of the cut keeps all events.
abbrev pub KeepsCut : {D : Type 0} → (D → List ℕ → Type 0) → Reading → List ℕ → D → Type 0
KeepsCut may_leave reading file disk =
    (owner : Owner) (events all : List (List ℕ)) (left : List ℕ) → IsAt owner reading file events
    → NoGroupFrom reading.owner file reading.place → Reads owner file all → may_leave disk left → Keeps owner all left

-- The held events are synced.
abbrev pub Syncs : {D : Type 0} → (D → List ℕ) → (D → List ℕ → Type 0) → Log → D → Log → D → Type 0
Syncs seen may_leave old old_disk new new_disk =
    (owner : Owner) (synced held : List (List ℕ)) → Stands seen may_leave owner old old_disk synced held
    → Stands seen may_leave owner new new_disk (synced ++ held) []

-- If no event is held, none is in the last group now.
abbrev pub Rests : {D : Type 0} → (D → List ℕ) → (D → List ℕ → Type 0) → Log → D → Log → D → Type 0
Rests seen may_leave old old_disk new new_disk =
    (owner : Owner) (synced held : List (List ℕ)) → Stands seen may_leave owner old old_disk synced held
    → Stands seen may_leave owner new new_disk synced held × (held ≡ [] → IsLast owner (seen new_disk) [] synced [])

-- Whatever a crash leaves now keeps the events that were synced.
abbrev pub KeepsSynced : {D : Type 0} → (D → List ℕ) → (D → List ℕ → Type 0) → Log → D → D → Type 0
KeepsSynced seen may_leave old old_disk new_disk =
    (owner : Owner) (synced held : List (List ℕ)) (file : List ℕ) → Stands seen may_leave owner old old_disk synced held
    → may_leave new_disk file → Keeps owner synced file
