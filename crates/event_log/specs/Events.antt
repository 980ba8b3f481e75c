-- The events of a group, as bytes. Numbers are big-endian.
use Rattle.std.specs.Prelude.{◌≡◌, ℕ, ◌+◌, ◌<◌, ◌≤◌, ◌^◌, Vec, vec_len, vec_capacity, List, [], ◌∷◌, ◌++◌, length}
use Rattle.std.specs.Int.{w32, to_be_bytes}

-- an event's length, and its bytes
abbrev pub event_bytes : List ℕ → List ℕ
event_bytes event = to_be_bytes w32 (length event) ++ event

-- these events, one after another
abbrev pub events_bytes : List (List ℕ) → List ℕ
events_bytes [] = []
events_bytes (event ∷ events) = event_bytes event ++ events_bytes events

-- the bytes begin with this event
pub record IsFirstEvent (bytes event rest : List ℕ) : Type 0 where
  pub short : length event < 2 ^ 32
  pub whole : bytes ≡ event_bytes event ++ rest

-- the bytes begin with no event
abbrev pub HasNoEvent : List ℕ → Type 0
HasNoEvent bytes = (event rest : List ℕ) → IsFirstEvent bytes event rest → ⊥

-- There is room for so many bytes more.
abbrev pub HasRoom : {A : Type 0} → Vec ℕ A → ℕ → Type 0
HasRoom out count = vec_len out + count ≤ vec_capacity out

-- The bytes follow the old ones, and only their own room is gone.
abbrev pub FillsRoom : {A : Type 0} → List ℕ → Vec ℕ A → Vec ℕ A → Type 0
FillsRoom bytes old new =
    (new.items ≡ old.items ++ bytes) × (vec_len new ≡ vec_len old + length bytes)
    × (vec_capacity old ≤ vec_capacity new)
