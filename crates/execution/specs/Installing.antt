-- The state that has given pages, and whether it may replace another.
use Rattle.std.specs.Prelude.{◌≡◌, ℕ, ◌+◌, ◌≤◌, ◌<◌, List, [], length, slice_index_or}
use Rattle.partition_tree.specs.declared.tree.TheConstants.{PAGES}
use Rattle.terms.specs.declared.parties.TheConstants.{MAX_CLIENTS}
use Rattle.protocol.specs.Replica.State.{State, IsReplicatedState, last_time, pages_of, header_page}

-- The state has this number and these pages.
pub record HasPagesAt (n : ℕ) (texts : List (List ℕ)) (st : State) : Type 0 where
  pub state : IsReplicatedState st
  pub number : st.number ≡ n
  pub pages : pages_of st ≡ texts

-- No client's last timestamp falls, so no executed request is new again.
abbrev pub NoneFalls : State → State → Type 0
NoneFalls old new = (client : ℕ) → last_time old client ≤ last_time new client

-- No state of this number with these pages may replace the old one.
abbrev pub NoneReplaces : State → ℕ → List (List ℕ) → Type 0
NoneReplaces old number pages = (st : State) → HasPagesAt number pages st → NoneFalls old st → ⊥

-- ---- words of private functions

-- No state of this number has these pages.
abbrev pub AreNoStates : ℕ → List (List ℕ) → Type 0
AreNoStates number pages = (st : State) → HasPagesAt number pages st → ⊥

-- These are the texts of the 256 pages from the first on.
pub record AreTexts (pages : List (List ℕ)) (first : ℕ) (texts : List (List ℕ)) : Type 0 where
  pub all : length texts ≡ MAX_CLIENTS
  pub each : (i : ℕ) → i < MAX_CLIENTS → slice_index_or texts i [] ≡ slice_index_or pages (first + i) []

-- The pages after the header have no text.
abbrev pub NoneBehind : List (List ℕ) → Type 0
NoneBehind pages = (page : ℕ) → header_page < page → page < PAGES → slice_index_or pages page [] ≡ []
