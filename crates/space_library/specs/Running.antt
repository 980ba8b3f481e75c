-- A run of operations on one space, as bytes: the operations' spellings one behind another, and the answers' too.
use Rattle.std.specs.Prelude.{◌≡◌, ℕ, ◌+◌, ◌≤◌, ◌<◌, List, [], ◌++◌, length, take}
use Rattle.tuple_codec.specs.Operations.{Operation}
use Rattle.tuple_codec.specs.Spelling.{SpellsOperation, FrontSpellsOperation, outcome_spelling}
use Rattle.space.specs.Applying.{Contents, nothing_in, outcome, tuples_after}
use Rattle.space.specs.declared.version.Version.{Version}

-- These bytes spell operations of client 0, one behind another. On a space that held `first` they were answered with the
-- other bytes, and left these contents.
pub data RunsBytes (first : Contents) : List ℕ → List ℕ → Contents → Type 0 where
  nothing : RunsBytes first [] [] first
  one_more : {operations answers : List ℕ} {held : Contents} → (o : Operation) → (spelled : List ℕ)
      → RunsBytes first operations answers held → SpellsOperation spelled o
      → RunsBytes first (operations ++ spelled) (answers ++ outcome_spelling (outcome held 0 o)) (tuples_after held 0 o)

-- the same, whatever they left
abbrev pub LeavesRun : Contents → List ℕ → List ℕ → Type 0
LeavesRun first operations answers = (held : Contents) × RunsBytes first operations answers held

-- So they ran on a new space of this version.
abbrev pub RunsAnew : Version → List ℕ → List ℕ → Type 0
RunsAnew v operations answers = LeavesRun (nothing_in v) operations answers

-- No front of the bytes spells an operation within the limits.
abbrev pub SpellsNone : List ℕ → Type 0
SpellsNone bytes = FrontSpellsOperation bytes → ⊥

-- The first `len` bytes, one at least, spell an operation. It was applied to a space that held `old`, and left `new`; its
-- answer was added to the answers before.
pub record RunsNext (len : ℕ) (bytes : List ℕ) (old new : Contents) (before after : List ℕ) : Type 0 where
  pub op : Operation
  pub some : 0 < len
  pub within : len ≤ length bytes
  pub spelled : SpellsOperation (take len bytes) op
  pub answered : after ≡ before ++ outcome_spelling (outcome old 0 op)
  pub left : new ≡ tuples_after old 0 op

-- The bytes begin with an operation whose answer doesn't fit behind the answers before, in so many bytes in all.
pub record AnswerIsTooLong (bytes : List ℕ) (held : Contents) (answers : List ℕ) (most : ℕ) : Type 0 where
  pub op : Operation
  pub len : ℕ
  pub spelled : SpellsOperation (take len bytes) op
  pub too_long : most < length answers + length (outcome_spelling (outcome held 0 op))

-- The operations ran, and were answered so. The answer to the one at the front of the rest doesn't fit.
abbrev pub EndsTooLong : Contents → List ℕ → List ℕ → List ℕ → ℕ → Type 0
EndsTooLong first operations answers rest most =
    (held : Contents) × RunsBytes first operations answers held × AnswerIsTooLong rest held answers most
