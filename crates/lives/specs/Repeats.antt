-- What the private functions that play a log speak of.
use Rattle.std.specs.Prelude.{◌≡◌, ℕ, ◌<◌, ◌^◌, List, [], ◌++◌, length, map}
use Rattle.event_log.specs.Events.{events_bytes}
use Rattle.event_log.specs.Logs.{IsDamaged, IsLast, Keeps, Reads, ReadsLast}
use Rattle.event_log.specs.Standing.{IsAt, Stands}
use Rattle.event_log.specs.declared.owner.Owner.{Owner}
use Rattle.event_log.specs.declared.log.Log.{Log}
use Rattle.event_log.specs.declared.reading.Reading.{Reading}
use Rattle.lives.specs.Events.{Event, logged, outputs_of}

-- Behind a history the machine took events that the log says, and gave their outputs.
pub record Repeated {M : Type 0} (fits : M → List Event → Type 0) (new : M) (history : List Event)
    (texts : List (List ℕ)) (before after : List ℕ) : Type 0 where
  pub again : List Event
  pub told : map logged again ≡ texts
  pub fitted : fits new (history ++ again)
  pub given : after ≡ before ++ outputs_of again

-- The machine takes the events that these texts say, and gives what they say.
abbrev pub Repeats : {M : Type 0} → (M → List Event → Type 0) → M → M → List (List ℕ) → List ℕ → List ℕ → Type 0
Repeats fits old new texts before after =
    (history : List Event) → fits old history → Repeated fits new history texts before after

-- It takes the events of this text, if it is a group's.
abbrev pub RepeatsText : {M : Type 0} → (M → List Event → Type 0) → M → M → List ℕ → List ℕ → List ℕ → Type 0
RepeatsText fits old new text before after =
    (texts : List (List ℕ)) → length (events_bytes texts) < 2 ^ 32 → text ≡ events_bytes texts
    → Repeats fits old new texts before after

-- It took the events before the rest of the text.
pub record RepeatsBefore {M : Type 0} (fits : M → List Event → Type 0) (old new : M)
    (text rest before after : List ℕ) : Type 0 where
  pub texts : List (List ℕ)
  pub whole : text ≡ events_bytes texts ++ rest
  pub repeats : Repeats fits old new texts before after

-- The log is read up to a history that the machine fits. The outputs of its last group are given.
pub record PlaysUpTo {M : Type 0} (fits : M → List Event → Type 0) (owner : Owner) (machine : M)
    (reading : Reading) (file given : List ℕ) : Type 0 where
  pub front : List Event
  pub last : List Event
  pub fitted : fits machine (front ++ last)
  pub at : IsAt owner reading file (map logged (front ++ last))
  pub group : IsLast owner file at.tail (map logged front) (map logged last)
  pub is_given : given ≡ outputs_of last

-- The whole log was played, and stands.
pub record PlaysAll {M D : Type 0} (fits : M → List Event → Type 0) (seen : D → List ℕ) (may_leave : D → List ℕ → Type 0)
    (owner : Owner) (file : List ℕ) (machine : M) (log : Log) (disk : D) (given : List ℕ) : Type 0 where
  pub front : List Event
  pub last : List Event
  pub fitted : fits machine (front ++ last)
  pub reads : Reads owner file (map logged (front ++ last))
  pub group : ReadsLast owner file (map logged front) (map logged last)
  pub stands : Stands seen may_leave owner log disk (map logged (front ++ last)) []
  pub is_given : given ≡ outputs_of last

-- Whatever a crash leaves now keeps all events as which the file was read.
abbrev pub KeepsPlayed : {D : Type 0} → (D → List ℕ → Type 0) → Owner → List ℕ → D → Type 0
KeepsPlayed may_leave owner file disk =
    (events : List (List ℕ)) (left : List ℕ) → Reads owner file events → may_leave disk left → Keeps owner events left

-- A crash leaves a damaged log as it is.
abbrev pub LeavesDamage : {D : Type 0} → (D → List ℕ → Type 0) → Owner → List ℕ → D → Type 0
LeavesDamage may_leave owner file disk = (left : List ℕ) → IsDamaged owner file → may_leave disk left → left ≡ file
