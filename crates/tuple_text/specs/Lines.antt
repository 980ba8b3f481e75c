-- A script line and its operation: the operation's name, one or more blanks before each argument, and blanks at both
-- ends. Of the limits only the ranges of numbers and of the count of an rdAll or inAll belong to the grammar.
use Rattle.std.specs.Prelude.{◌≡◌, ◌⊎◌, ℕ, ◌≤◌, List, [], ◌∷◌, ◌++◌, length, codes}
use Rattle.std.specs.Fmt.{decimal}
use Rattle.tuple_tree.specs.Items.{TreeItem, leaf, inner, Items, none, item}
use Rattle.tuple_tree.specs.Values.{IsDatum, IsSlot, TupleTree, TemplateTree}
use Rattle.tuple_codec.specs.Operations.{Operation, out, rdp, inp, cas, rd_all, in_all, upgrade, IsOperation}
use Rattle.tuple_text.specs.Texts.{AreBlanks, IsGap, TupleText, TemplateText}

-- IsLeaf holds of each leaf, at each level.
module _ {L : Type 0} (IsLeaf : L → Type 0) where
  abbrev mutual
    pub EachLeaf : Items L → Type 0
    EachLeaf none = Unit {0}
    EachLeaf (item x xs) = LeafIn x × EachLeaf xs

    -- IsLeaf holds of each leaf in the item, at each level.
    pub LeafIn : TreeItem L → Type 0
    LeafIn (leaf x) = IsLeaf x
    LeafIn (inner xs) = EachLeaf xs

-- The text is one of the tuple, and each value is a right one of its kind.
abbrev pub TupleArgument : TupleTree → List ℕ → Type 0
TupleArgument t bs = TupleText t bs × EachLeaf IsDatum t

-- The text is one of the template, and each actual has a right value of its kind.
abbrev pub TemplateArgument : TemplateTree → List ℕ → Type 0
TemplateArgument p bs = TemplateText p bs × EachLeaf IsSlot p

-- The text is that of the count, which is from 1 to 64.
abbrev pub CountArgument : ℕ → List ℕ → Type 0
CountArgument n bs = (bs ≡ decimal n) × (1 ≤ n) × (n ≤ 64)

-- the name that begins an operation's line
abbrev pub operation_name : Operation → List ℕ
operation_name (out t) = codes "out"
operation_name (rdp p) = codes "rdp"
operation_name (inp p) = codes "inp"
operation_name (cas p t) = codes "cas"
operation_name (rd_all n p) = codes "rdAll"
operation_name (in_all n p) = codes "inAll"
operation_name upgrade = codes "upgrade"

-- the properties of the arguments' texts, in order
abbrev pub arguments : Operation → List (List ℕ → Type 0)
arguments (out t) = TupleArgument t ∷ []
arguments (rdp p) = TemplateArgument p ∷ []
arguments (inp p) = TemplateArgument p ∷ []
arguments (cas p t) = TemplateArgument p ∷ TupleArgument t ∷ []
arguments (rd_all n p) = CountArgument n ∷ TemplateArgument p ∷ []
arguments (in_all n p) = CountArgument n ∷ TemplateArgument p ∷ []
arguments upgrade = []

-- a gap before each argument, and blanks after the last
abbrev pub ArgumentsText : List (List ℕ → Type 0) → List ℕ → Type 0
ArgumentsText [] bs = AreBlanks bs
ArgumentsText (argument ∷ more) bs =
    (gap front rest : List ℕ) × (bs ≡ gap ++ (front ++ rest)) × IsGap gap × argument front × ArgumentsText more rest

-- The line is the operation's name and its arguments, with blanks at both ends or without.
abbrev pub LineText : Operation → List ℕ → Type 0
LineText o bs =
    (lead rest : List ℕ) × (bs ≡ lead ++ (operation_name o ++ rest)) × AreBlanks lead × ArgumentsText (arguments o) rest

-- the line of an operation within all limits, at most 65,536 bytes
pub record IsLine (o : Operation) (bs : List ℕ) : Type 0 where
  pub text : LineText o bs
  pub within : IsOperation o
  pub size : length bs ≤ 65536

-- The first byte of the line is a hash.
abbrev pub IsComment : List ℕ → Type 0
IsComment [] = ⊥
IsComment (b ∷ bs) = b ≡ 35

-- A line of blanks alone, or whose first byte is a hash, has no operation and is skipped.
abbrev pub IsSkipped : List ℕ → Type 0
IsSkipped bs = AreBlanks bs ⊎ IsComment bs
