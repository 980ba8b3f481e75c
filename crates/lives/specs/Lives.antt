-- All lives of a machine on one file. A life begins as the machine is started with the file, and ends with a crash.
-- Elnozahy, Alvisi, Wang and Johnson, A survey of rollback-recovery protocols in message-passing systems, ACM Computing
-- Surveys 2002, section 5: a life is an incarnation; what it gives out is committed before, by pessimistic logging.
use Rattle.std.specs.Prelude.{ℕ, List, [], ◌∷◌, map, ⊤}
use Rattle.event_log.specs.Logs.{Keeps, Reads, Extends}
use Rattle.event_log.specs.declared.owner.Owner.{Owner}
use Rattle.lives.specs.Events.{Event, logged}

-- A life begins on this file with this history: its log is played, or it is empty and a log is made.
pub data BeginsOn (owner : Owner) : List ℕ → List Event → Type 0 where
  played : (file : List ℕ) (history : List Event) → Reads owner file (map logged history) → BeginsOn owner file history
  made : BeginsOn owner [] []

-- A crash left this file at the end of these lives, the latest first, each by the events that it had synced: only of
-- these anything went out. Before the first life the file is anything.
pub data Lives (owner : Owner) : List ℕ → List (List Event) → Type 0 where
  none : (file : List ℕ) → Lives owner file []
  life : (file next : List ℕ) (lives : List (List Event)) (history synced : List Event) → Lives owner file lives
      → BeginsOn owner file history → Extends history synced → Keeps owner (map logged synced) next
      → Lives owner next (synced ∷ lives)

-- The history begins with the events of each life.
abbrev pub HasAll : List (List Event) → List Event → Type 0
HasAll [] history = ⊤
HasAll (synced ∷ lives) history = Extends synced history × HasAll lives history
