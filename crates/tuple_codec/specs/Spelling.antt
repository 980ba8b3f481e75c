-- The bytes of operations and outcomes, made of those of tuples and templates, and what it means to spell.
use Rattle.std.specs.Prelude.{◌≡◌, ℕ, ◌≤◌, List, [], ◌∷◌, ◌++◌, length, take}
use Rattle.tuple_tree.specs.Values.{TupleTree, TemplateTree, IsTuple, IsTemplate}
use Rattle.tuple_codec.specs.Operations.{Operation, out, rdp, inp, cas, rd_all, in_all, upgrade, IsOperation, Outcome}
use Rattle.tuple_codec.specs.Operations.{done, found, absent, swapped, all, full, refused, IsOutcome}
use Rattle.tuple_tree.specs.Spelling.{flag, tuple_spelling, template_spelling}

-- an operation with two arguments: its tag, and then both
abbrev pub cas_spelling : TemplateTree → TupleTree → List ℕ
cas_spelling p t = 0x24 ∷ template_spelling p ++ tuple_spelling t

-- the arguments of an rdAll and of an inAll: how many, and the template
abbrev pub counted_spelling : ℕ × TemplateTree → List ℕ
counted_spelling x = x.0 ∷ template_spelling x.1

-- tags 21 to 27, each before the operation's arguments
abbrev pub operation_spelling : Operation → List ℕ
operation_spelling (out t) = 0x21 ∷ tuple_spelling t
operation_spelling (rdp p) = 0x22 ∷ template_spelling p
operation_spelling (inp p) = 0x23 ∷ template_spelling p
operation_spelling (cas p t) = cas_spelling p t
operation_spelling (rd_all n p) = 0x25 ∷ counted_spelling (n, p)
operation_spelling (in_all n p) = 0x26 ∷ counted_spelling (n, p)
operation_spelling upgrade = 0x27 ∷ []

-- the tuples one after another, without their count
abbrev pub tuples_spelling : List TupleTree → List ℕ
tuples_spelling [] = []
tuples_spelling (t ∷ ts) = tuple_spelling t ++ tuples_spelling ts

-- tags 31 to 37, each before the answer's content
abbrev pub outcome_spelling : Outcome → List ℕ
outcome_spelling done = 0x31 ∷ []
outcome_spelling (found t) = 0x32 ∷ tuple_spelling t
outcome_spelling absent = 0x33 ∷ []
outcome_spelling (swapped b) = 0x34 ∷ flag b ∷ []
outcome_spelling (all ts) = 0x35 ∷ length ts ∷ tuples_spelling ts
outcome_spelling full = 0x36 ∷ []
outcome_spelling refused = 0x37 ∷ []

-- The bytes are those of a value, within the limits.
pub record Spells {V : Type 0} (IsValue : V → Type 0) (spelling : V → List ℕ) (bs : List ℕ) (v : V) : Type 0 where
  pub valid : IsValue v
  pub spelled : bs ≡ spelling v

abbrev pub SpellsTuple : List ℕ → TupleTree → Type 0
SpellsTuple bs t = Spells IsTuple tuple_spelling bs t

abbrev pub SpellsTemplate : List ℕ → TemplateTree → Type 0
SpellsTemplate bs p = Spells IsTemplate template_spelling bs p

abbrev pub SpellsOperation : List ℕ → Operation → Type 0
SpellsOperation bs o = Spells IsOperation operation_spelling bs o

-- The bytes spell some operation.
abbrev pub SpellsSomeOperation : List ℕ → Type 0
SpellsSomeOperation bs = (op : Operation) × SpellsOperation bs op

abbrev pub SpellsOutcome : List ℕ → Outcome → Type 0
SpellsOutcome bs r = Spells IsOutcome outcome_spelling bs r

-- Some front of the bytes spells a value within the limits: the first so many bytes, at most all, spell it.
abbrev pub FrontSpells : {V : Type 0} → (V → Type 0) → (V → List ℕ) → List ℕ → Type 0
FrontSpells {V = V} IsValue spelling bs = (v : V) × (k : ℕ) × (k ≤ length bs) × Spells IsValue spelling (take k bs) v

abbrev pub FrontSpellsTuple : List ℕ → Type 0
FrontSpellsTuple bs = FrontSpells IsTuple tuple_spelling bs

abbrev pub FrontSpellsTemplate : List ℕ → Type 0
FrontSpellsTemplate bs = FrontSpells IsTemplate template_spelling bs

abbrev pub FrontSpellsOperation : List ℕ → Type 0
FrontSpellsOperation bs = FrontSpells IsOperation operation_spelling bs

abbrev pub FrontSpellsOutcome : List ℕ → Type 0
FrontSpellsOutcome bs = FrontSpells IsOutcome outcome_spelling bs
