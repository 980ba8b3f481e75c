-- The groups of a log, as bytes. Numbers are big-endian.
use Rattle.std.specs.Prelude.{◌≡◌, ℕ, ◌+◌, ◌<◌, ◌≤◌, ◌^◌, List, ◌++◌, length, drop}
use Rattle.std.specs.Int.{w32, w64, to_be_bytes}
use Rattle.sqlite_disk.specs.Digest.{digest}
use Rattle.event_log.specs.Events.{events_bytes}
use Rattle.event_log.specs.declared.owner.Owner.{Owner}
use Rattle.event_log.specs.declared.groups.TheConstants.{MAX_GROUP}

-- What a check is over: a number, how many bytes follow, and these.
abbrev pub body_bytes : ℕ → List ℕ → List ℕ
body_bytes number text = to_be_bytes w64 number ++ (to_be_bytes w32 (length text) ++ text)

-- the owner's mark, a body, and its check under the owner's key
abbrev pub framed_bytes : Owner → ℕ → List ℕ → List ℕ
framed_bytes owner number text =
    to_be_bytes w64 owner.mark
    ++ (body_bytes number text ++ to_be_bytes w64 (digest owner.key (body_bytes number text)))

-- a group: the number of its first event, and its events, framed
abbrev pub group_bytes : Owner → ℕ → List (List ℕ) → List ℕ
group_bytes owner number events = framed_bytes owner number (events_bytes events)

-- A group may have these events, the first of which has this number.
pub record IsGroup (number : ℕ) (events : List (List ℕ)) : Type 0 where
  pub short : length (events_bytes events) ≤ MAX_GROUP
  pub numbered : number + length events < 2 ^ 64

-- A sound group: the bytes begin with a group of this owner, whatever is behind it.
pub record BeginsWithGroup (owner : Owner) (bytes : List ℕ) : Type 0 where
  pub number : ℕ
  pub events : List (List ℕ)
  pub is_group : IsGroup number events
  pub rest : List ℕ
  pub whole : bytes ≡ group_bytes owner number events ++ rest

-- No sound group begins at any place of these bytes.
abbrev pub HasNoGroup : Owner → List ℕ → Type 0
HasNoGroup owner bytes = (place : ℕ) → BeginsWithGroup owner (drop place bytes) → ⊥

-- No group of this number begins these bytes.
abbrev pub HasNoNext : Owner → ℕ → List ℕ → Type 0
HasNoNext owner number bytes =
    (events : List (List ℕ)) (rest : List ℕ) → IsGroup number events
    → bytes ≡ group_bytes owner number events ++ rest → ⊥

-- ---- what private functions say

-- these bytes are a group of so many events, the first of which has this number
pub record IsGroupOf (owner : Owner) (bytes : List ℕ) (number count : ℕ) : Type 0 where
  pub events : List (List ℕ)
  pub is_group : IsGroup number events
  pub counted : count ≡ length events
  pub whole : bytes ≡ group_bytes owner number events

-- these bytes are no group
abbrev pub IsNoGroup : Owner → List ℕ → Type 0
IsNoGroup owner bytes =
    (number : ℕ) (events : List (List ℕ)) → IsGroup number events → bytes ≡ group_bytes owner number events → ⊥

-- these bytes are the body of a group of so many events
pub record IsBodyOf (bytes : List ℕ) (number count : ℕ) : Type 0 where
  pub events : List (List ℕ)
  pub is_group : IsGroup number events
  pub counted : count ≡ length events
  pub whole : bytes ≡ body_bytes number (events_bytes events)

abbrev pub IsNoBody : List ℕ → Type 0
IsNoBody bytes =
    (number : ℕ) (events : List (List ℕ)) → IsGroup number events → bytes ≡ body_bytes number (events_bytes events) → ⊥

-- these bytes are a length, and so many events of it
pub record IsTextOf (bytes : List ℕ) (count : ℕ) : Type 0 where
  pub events : List (List ℕ)
  pub short : length (events_bytes events) ≤ MAX_GROUP
  pub counted : count ≡ length events
  pub whole : bytes ≡ to_be_bytes w32 (length (events_bytes events)) ++ events_bytes events

abbrev pub IsNoText : List ℕ → Type 0
IsNoText bytes =
    (events : List (List ℕ)) → length (events_bytes events) ≤ MAX_GROUP
    → bytes ≡ to_be_bytes w32 (length (events_bytes events)) ++ events_bytes events → ⊥

-- These bytes are so many events.
pub record AreEvents (bytes : List ℕ) (count : ℕ) : Type 0 where
  pub events : List (List ℕ)
  pub counted : count ≡ length events
  pub whole : bytes ≡ events_bytes events

-- These bytes are so many events, and the rest.
pub record AreEventsBefore (bytes rest : List ℕ) (count : ℕ) : Type 0 where
  pub events : List (List ℕ)
  pub counted : count ≡ length events
  pub whole : bytes ≡ events_bytes events ++ rest

-- They are no events.
abbrev pub AreNoEvents : List ℕ → Type 0
AreNoEvents bytes = (events : List (List ℕ)) → length (events_bytes events) < 2 ^ 32 → bytes ≡ events_bytes events → ⊥

-- The head of a group says so many bytes of events.
pub record SaysText (owner : Owner) (head : List ℕ) (count : ℕ) : Type 0 where
  pub number : List ℕ
  pub eight : length number ≡ 8
  pub few : count ≤ MAX_GROUP
  pub whole : head ≡ to_be_bytes w64 owner.mark ++ (number ++ to_be_bytes w32 count)

-- It is the head of no group.
abbrev pub SaysNone : Owner → List ℕ → Type 0
SaysNone owner head =
    (number count : ℕ) → count ≤ MAX_GROUP
    → head ≡ to_be_bytes w64 owner.mark ++ (to_be_bytes w64 number ++ to_be_bytes w32 count) → ⊥
