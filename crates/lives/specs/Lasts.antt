-- A machine and its log hold one history.
use Rattle.std.specs.Prelude.{◌≡◌, ◌<◌, ℕ, length, Bool, true, MatchBool, List, [], ◌∷◌, ◌++◌, map}
use Rattle.event_log.specs.Logs.{IsLast, Keeps, Reads, ReadsLast}
use Rattle.event_log.specs.Standing.{Stands}
use Rattle.event_log.specs.declared.owner.Owner.{Owner}
use Rattle.lives.specs.Events.{Event, logged, outputs_of}
use Rattle.lives.specs.declared.lasting.Lasting.{Lasting}

-- The machine is what all events left. The log has the first of them synced, and gathers the others. Their outputs are
-- held back.
pub record Lasts {M D : Type 0} (fits : M → List Event → Type 0) (seen : D → List ℕ) (may_leave : D → List ℕ → Type 0)
    (owner : Owner) (l : Lasting M D) (synced held : List Event) : Type 0 where
  pub machine : fits l.machine (synced ++ held)
  pub log : Stands seen may_leave owner l.log l.disk (map logged synced) (map logged held)
  pub given : l.held.items ≡ outputs_of held

-- ---- what the calls do

-- The machine takes an input. If this moved it, one event more is held, and else none.
abbrev pub Takes : {M D : Type 0} → (M → List Event → Type 0) → (D → List ℕ) → (D → List ℕ → Type 0)
    → Lasting M D → Lasting M D → List ℕ → Bool → Type 0
Takes fits seen may_leave old new input moved =
    (owner : Owner) (synced held : List Event) → Lasts fits seen may_leave owner old synced held
    → MatchBool moved
    ((outputs : List ℕ) × Lasts fits seen may_leave owner new synced (held ++ (input, outputs) ∷ []))
    (Lasts fits seen may_leave owner new synced held)

-- The held events are synced, and only then their outputs are given out.
abbrev pub GivesOut : {M D : Type 0} → (M → List Event → Type 0) → (D → List ℕ) → (D → List ℕ → Type 0)
    → Lasting M D → Lasting M D → List ℕ → Type 0
GivesOut fits seen may_leave old new given =
    (owner : Owner) (synced held : List Event) → Lasts fits seen may_leave owner old synced held
    → Lasts fits seen may_leave owner new (synced ++ held) [] × (given ≡ outputs_of held)

-- Whatever a crash leaves now keeps the events that were synced.
abbrev pub KeepsSynced : {M D : Type 0} → (M → List Event → Type 0) → (D → List ℕ) → (D → List ℕ → Type 0)
    → Lasting M D → Lasting M D → Type 0
KeepsSynced fits seen may_leave old new =
    (owner : Owner) (synced held : List Event) (file : List ℕ) → Lasts fits seen may_leave owner old synced held
    → may_leave new.disk file → Keeps owner (map logged synced) file

-- If the file had something, a crash leaves of it now what it could leave before.
abbrev pub KeepsFile : {D : Type 0} → (D → List ℕ → Type 0) → D → List ℕ → D → Type 0
KeepsFile may_leave old file new = 0 < length file → (left : List ℕ) → may_leave new left → may_leave old left

-- The log of a file was played: the machine is what its history left, and goes on there. The outputs of the file's last
-- group are given again, since a crash may have kept them back.
pub record Plays {M D : Type 0} (fits : M → List Event → Type 0) (seen : D → List ℕ) (may_leave : D → List ℕ → Type 0)
    (owner : Owner) (file : List ℕ) (l : Lasting M D) (again : List ℕ) : Type 0 where
  pub front : List Event
  pub last : List Event
  pub reads : Reads owner file (map logged (front ++ last))
  pub group : ReadsLast owner file (map logged front) (map logged last)
  pub lasts : Lasts fits seen may_leave owner l (front ++ last) []
  pub given : again ≡ outputs_of last

-- The same machine, log and outputs are held. If no event is, none is in the last group of the file now.
abbrev pub Rests : {M D : Type 0} → (M → List Event → Type 0) → (D → List ℕ) → (D → List ℕ → Type 0)
    → Lasting M D → Lasting M D → Type 0
Rests fits seen may_leave old new =
    (owner : Owner) (synced held : List Event) → Lasts fits seen may_leave owner old synced held
    → Lasts fits seen may_leave owner new synced held
    × (held ≡ [] → IsLast owner (seen new.disk) [] (map logged synced) [])

-- A call failed, so each later one is refused.
abbrev pub IsOver : {M D : Type 0} → Lasting M D → Type 0
IsOver l = l.is_over ≡ true
