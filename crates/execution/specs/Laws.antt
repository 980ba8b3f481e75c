-- Laws of states and their pages.
use Rattle.std.specs.Prelude.{◌≡◌, ℕ, ◌≤◌, length}
use Rattle.protocol.specs.Replica.State.{State, IsReplicatedState, page_text, pages_of}

-- States with equal pages are equal.
abbrev pub PagesDetermine : Type 0
PagesDetermine = (s t : State) → IsReplicatedState s → IsReplicatedState t → pages_of s ≡ pages_of t → s ≡ t

-- A page has at most 64 tuples, each of at most 1,024 bytes after the 8 bytes of its birth number, or one reply, which
-- is shorter.
abbrev pub PagesAreShort : Type 0
PagesAreShort = (st : State) (page : ℕ) → IsReplicatedState st → length (page_text st page) ≤ 66176
