-- Operations on a tuple space and their outcomes (Bessani and others, DepSpace, EuroSys 2008, section 3), apart from
-- where they lie in memory.
use Rattle.std.specs.Prelude.{ℕ, ◌≤◌, Bool, true, false, ◌||◌, List, [], ◌∷◌, length}
use Rattle.tuple_tree.specs.Items.{has_leaf}
use Rattle.tuple_tree.specs.Values.{TupleTree, TemplateTree, IsTuple, IsTemplate, is_wide, is_wide_slot}

-- an operation on a tuple space; the number of an rdAll and an inAll is the most matches that it asks for
pub data Operation : Type 0 where
  out : TupleTree → Operation
  rdp : TemplateTree → Operation
  inp : TemplateTree → Operation
  cas : TemplateTree → TupleTree → Operation
  rd_all : ℕ → TemplateTree → Operation
  in_all : ℕ → TemplateTree → Operation
  upgrade : Operation

-- the answer of a space to an operation
pub data Outcome : Type 0 where
  done : Outcome
  found : TupleTree → Outcome
  absent : Outcome
  swapped : Bool → Outcome
  all : List TupleTree → Outcome
  full : Outcome
  refused : Outcome

-- An rdAll and an inAll ask for 1 to 64 tuples.
abbrev pub IsCounted : ℕ → TemplateTree → Type 0
IsCounted n p = (1 ≤ n) × (n ≤ 64) × IsTemplate p

-- Each tuple and template of the operation is within the limits, and a count is from 1 to 64.
abbrev pub IsOperation : Operation → Type 0
IsOperation (out t) = IsTuple t
IsOperation (rdp p) = IsTemplate p
IsOperation (inp p) = IsTemplate p
IsOperation (cas p t) = IsTemplate p × IsTuple t
IsOperation (rd_all n p) = IsCounted n p
IsOperation (in_all n p) = IsCounted n p
IsOperation upgrade = Unit {0}

-- the operations that leave each space as it is
abbrev pub is_read_only : Operation → Bool
is_read_only (out t) = false
is_read_only (rdp p) = true
is_read_only (inp p) = false
is_read_only (cas p t) = false
is_read_only (rd_all n p) = true
is_read_only (in_all n p) = false
is_read_only upgrade = false

-- the operations of version 2: inAll, and those with a wide number or a field that asks for one, at any level
abbrev pub is_version_2 : Operation → Bool
is_version_2 (out t) = has_leaf is_wide t
is_version_2 (rdp p) = has_leaf is_wide_slot p
is_version_2 (inp p) = has_leaf is_wide_slot p
is_version_2 (cas p t) = has_leaf is_wide_slot p || has_leaf is_wide t
is_version_2 (rd_all n p) = has_leaf is_wide_slot p
is_version_2 (in_all n p) = true
is_version_2 upgrade = false

-- Each of these tuples is within the limits.
abbrev pub AreTuples : List TupleTree → Type 0
AreTuples [] = Unit {0}
AreTuples (t ∷ ts) = IsTuple t × AreTuples ts

-- Each tuple of the answer is within the limits, and there are at most 64.
abbrev pub IsOutcome : Outcome → Type 0
IsOutcome done = Unit {0}
IsOutcome (found t) = IsTuple t
IsOutcome absent = Unit {0}
IsOutcome (swapped b) = Unit {0}
IsOutcome (all ts) = (length ts ≤ 64) × AreTuples ts
IsOutcome full = Unit {0}
IsOutcome refused = Unit {0}
