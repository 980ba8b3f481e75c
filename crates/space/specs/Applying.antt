-- What an operation on a tuple space answers and leaves (Bessani and others, DepSpace, EuroSys 2008, section 3). The
-- space is the list of its tuples, the oldest first; the versions, their limits and the choice of the oldest match are
-- our own.
use Rattle.std.specs.Prelude.{ℕ, zero, suc, Bool, true, false, not, ◌||◌, ◌==◌, List, [], ◌∷◌, ◌++◌, length, take}
use Rattle.std.specs.Prelude.{filter, find, nat_lt, Option, Some, None, is_some, if◌then◌else◌}
use Rattle.tuple_tree.specs.Values.{TupleTree, TemplateTree}
use Rattle.tuple_codec.specs.Operations.{Operation, out, rdp, inp, cas, rd_all, in_all, upgrade, Outcome, done, found}
use Rattle.tuple_codec.specs.Operations.{absent, swapped, all, full, refused, is_version_2}
pub use Rattle.tuple_codec.specs.Operations.{is_read_only}
use Rattle.template_match.specs.Tests.{is_match}
use Rattle.space.specs.declared.version.Version.{Version}
use Rattle.space.specs.declared.version.Version.TheVariants as versions

-- what a space holds: its version, and its tuples, the oldest first
pub record Contents : Type 0 where
  pub version : Version
  pub tuples : List TupleTree

-- what a new space of this version holds
abbrev pub nothing_in : Version → Contents
nothing_in v = record { version = v; tuples = [] }

-- what a new space holds
abbrev pub no_tuples : Contents
no_tuples = record { version = versions.One; tuples = [] }

-- A space of version 1 holds at most 8,192 tuples, one of version 2 at most 12,288.
abbrev pub most_tuples : Version → ℕ
most_tuples versions.One = 8192
most_tuples versions.Two = 12288

-- whether the space holds fewer tuples than its version allows
abbrev pub has_room : Contents → Bool
has_room ts = nat_lt (length ts.tuples) (most_tuples ts.version)

-- the contents with the tuple as the newest, if there is room for it
abbrev pub with_newest : Contents → TupleTree → Contents
with_newest ts t = if has_room ts then record ts { tuples = ts.tuples ++ t ∷ [] } else ts

-- the list without the first element that passes the test
abbrev pub without_first : {X : Type 0} → (X → Bool) → List X → List X
without_first test [] = []
without_first test (x ∷ xs) = if test x then xs else x ∷ without_first test xs

-- the list without the first n elements that pass the test
abbrev pub without_firsts : {X : Type 0} → ℕ → (X → Bool) → List X → List X
without_firsts zero test xs = xs
without_firsts (suc n) test xs = without_firsts n test (without_first test xs)

-- the oldest tuple that the template matches
abbrev pub first_match : TemplateTree → Contents → Option TupleTree
first_match p ts = find (is_match p) ts.tuples

-- the answer to an rdp or an inp: its match, or absent
abbrev pub found_or_absent : Option TupleTree → Outcome
found_or_absent None = absent
found_or_absent (Some t) = found t

-- Whether a space of this version doesn't know an operation: one of version 1 knows none of version 2.
abbrev pub is_unknown : Version → Operation → Bool
is_unknown versions.One o = is_version_2 o
is_unknown versions.Two o = false

-- Whether a client may not do an operation: only client 0 may upgrade a space.
abbrev pub is_forbidden : ℕ → Operation → Bool
is_forbidden client upgrade = not (client == 0)
is_forbidden client _ = false

-- whether a space of this version refuses an operation of a client
abbrev pub refuses : Version → ℕ → Operation → Bool
refuses v client o = is_unknown v o || is_forbidden client o

-- what an operation is answered that is not refused
abbrev pub served_outcome : Contents → Operation → Outcome
served_outcome ts (out t) = if has_room ts then done else full
served_outcome ts (rdp p) = found_or_absent (first_match p ts)
served_outcome ts (inp p) = found_or_absent (first_match p ts)
served_outcome ts (cas p t) =
    if is_some (first_match p ts) then swapped false else if has_room ts then swapped true else full
served_outcome ts (rd_all n p) = all (take n (filter (is_match p) ts.tuples))
served_outcome ts (in_all n p) = all (take n (filter (is_match p) ts.tuples))
served_outcome ts upgrade = done

-- what an operation of a client is answered
abbrev pub outcome : Contents → ℕ → Operation → Outcome
outcome ts client o = if refuses ts.version client o then refused else served_outcome ts o

-- Whether an operation may want memory: it adds a tuple, or copies a match to answer with. An inp moves what it takes.
abbrev pub served_wants_memory : Contents → Operation → Bool
served_wants_memory ts (out t) = has_room ts
served_wants_memory ts (rdp p) = is_some (first_match p ts)
served_wants_memory ts (inp p) = false
served_wants_memory ts (cas p t) = if is_some (first_match p ts) then false else has_room ts
served_wants_memory ts (rd_all n p) = is_some (first_match p ts)
served_wants_memory ts (in_all n p) = is_some (first_match p ts)
served_wants_memory ts upgrade = false

abbrev pub wants_memory : Contents → Operation → Bool
wants_memory ts o = if is_unknown ts.version o then false else served_wants_memory ts o

-- what an operation leaves that is not refused
abbrev pub served_after : Contents → Operation → Contents
served_after ts (out t) = with_newest ts t
served_after ts (rdp p) = ts
served_after ts (inp p) = record ts { tuples = without_first (is_match p) ts.tuples }
served_after ts (cas p t) = if is_some (first_match p ts) then ts else with_newest ts t
served_after ts (rd_all n p) = ts
served_after ts (in_all n p) = record ts { tuples = without_firsts n (is_match p) ts.tuples }
served_after ts upgrade = record ts { version = versions.Two }

-- what an operation of a client leaves
abbrev pub tuples_after : Contents → ℕ → Operation → Contents
tuples_after ts client o = if refuses ts.version client o then ts else served_after ts o
