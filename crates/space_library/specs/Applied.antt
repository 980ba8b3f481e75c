-- An operation on a space that a handle holds, as bytes.
use Rattle.std.specs.Prelude.{◌≡◌, ℕ, ◌+◌, ◌*◌, ◌<◌, List, Some}
use Rattle.tuple_tree.specs.declared.limits.TheConstants.{MAX_LEN}
use Rattle.tuple_codec.specs.Operations.{Operation, out, rdp, inp, cas, rd_all, in_all, upgrade}
use Rattle.tuple_codec.specs.Spelling.{SpellsOperation, outcome_spelling}
use Rattle.space.specs.Applying.{outcome}
use Rattle.space.specs.Births.{SpaceState, tuples_of, state_after}
use Rattle.space_library.specs.Held.{Held}

-- how many bytes the longest answer to an operation may have, whatever the space holds
abbrev pub most_answer : Operation → ℕ
most_answer (out t) = 1
most_answer (rdp p) = 1 + MAX_LEN
most_answer (inp p) = 1 + MAX_LEN
most_answer (cas p t) = 2
most_answer (rd_all n p) = 2 + MAX_LEN * n
most_answer (in_all n p) = 2 + MAX_LEN * n
most_answer upgrade = 1

-- The bytes spell an operation. Applied as client 0's to a space in the one state, it leaves the other, and is answered so.
pub record AppliesSpelled (bytes answer : List ℕ) (old new : SpaceState) : Type 0 where
  pub op : Operation
  pub spelled : SpellsOperation bytes op
  pub left : new ≡ state_after old 0 op
  pub answered : answer ≡ outcome_spelling (outcome (tuples_of old) 0 op)

-- So it is of the space that a handle holds.
pub record AppliesHeld (bytes answer : List ℕ) (old new : Held) : Type 0 where
  pub before : SpaceState
  pub after : SpaceState
  pub held : old ≡ Some before
  pub holds : new ≡ Some after
  pub applied : AppliesSpelled bytes answer before after

-- The bytes spell an operation whose longest answer doesn't fit so many bytes.
abbrev pub AsksForMore : List ℕ → ℕ → Type 0
AsksForMore bytes room = (op : Operation) × SpellsOperation bytes op × (room < most_answer op)
