-- Readers of the operation or outcome at the front of bytes, as those of trees are.
-- The contracts of private functions use these readers; those of public functions use Spelling alone.
use Rattle.std.specs.Prelude.{ℕ, ◌&&◌, nat_lt, nat_le, if◌then◌else◌, List, [], ◌∷◌, ◌++◌, None}
use Rattle.tuple_tree.specs.Values.{TupleTree, TemplateTree}
use Rattle.tuple_codec.specs.Operations.{Operation, out, rdp, inp, cas, rd_all, in_all, upgrade, Outcome, done, found}
use Rattle.tuple_codec.specs.Operations.{absent, swapped, all, full, refused}
use Rattle.tuple_tree.specs.Reading.{◌>>=◌, Reader, read_as, alone, TaggedReader, by_tag, unknown, more, byte_at}
use Rattle.tuple_tree.specs.Reading.{flag_at, tuple_at, template_at}

-- the arguments of a cas: a template and a tuple
unfoldable pub cas_at : Reader Operation
cas_at bs = template_at bs >>= λ p. read_as (cas p.0) tuple_at p.1

-- a count of 1 to 64, and a template
unfoldable pub counted_template_at : Reader (ℕ × TemplateTree)
counted_template_at bs = byte_at bs >>= λ n. if nat_le 1 n.0
    && nat_le n.0 64 then read_as (λ p. (n.0, p)) template_at n.1 else None

-- the readers of operations, by their tags 21 to 27
abbrev pub operation_rows : List (TaggedReader Operation)
operation_rows =
    (0x21, read_as out tuple_at)
    ∷ (0x22, read_as rdp template_at)
    ∷ (0x23, read_as inp template_at)
    ∷ (0x24, cas_at)
    ∷ (0x25, read_as (λ x. rd_all x.0 x.1) counted_template_at)
    ∷ (0x26, read_as (λ x. in_all x.0 x.1) counted_template_at)
    ∷ (0x27, alone upgrade)
    ∷ []

-- the operation after a tag
unfoldable pub operation_behind : ℕ → Reader Operation
operation_behind tag bs = by_tag operation_rows unknown tag bs

-- an operation: a tag, and its arguments
unfoldable pub operation_at : Reader Operation
operation_at bs = byte_at bs >>= λ x. operation_behind x.0 x.1

-- the tuples with one more at their end
abbrev pub with_last_tuple : List TupleTree → TupleTree → List TupleTree
with_last_tuple ts t = ts ++ t ∷ []

-- a count of 0 to 64, and so many tuples
unfoldable pub tuples_at : Reader (List TupleTree)
tuples_at bs = byte_at bs >>= λ n. if nat_lt 64 n.0 then None else more tuple_at with_last_tuple n.0 [] n.1

-- the content of a found: a tuple
abbrev pub found_at : Reader Outcome
found_at = read_as found tuple_at

-- the content of a swapped: a truth value
abbrev pub swapped_at : Reader Outcome
swapped_at = read_as swapped flag_at

-- the content of an all: a count and so many tuples
abbrev pub all_at : Reader Outcome
all_at = read_as all tuples_at

-- the readers of answers, by their tags 31 to 37
abbrev pub outcome_rows : List (TaggedReader Outcome)
outcome_rows =
    (0x31, alone done)
    ∷ (0x32, found_at)
    ∷ (0x33, alone absent)
    ∷ (0x34, swapped_at)
    ∷ (0x35, all_at)
    ∷ (0x36, alone full)
    ∷ (0x37, alone refused)
    ∷ []

-- the answer after a tag
unfoldable pub outcome_behind : ℕ → Reader Outcome
outcome_behind tag bs = by_tag outcome_rows unknown tag bs

-- an answer: a tag, and its content
unfoldable pub outcome_at : Reader Outcome
outcome_at bs = byte_at bs >>= λ x. outcome_behind x.0 x.1
