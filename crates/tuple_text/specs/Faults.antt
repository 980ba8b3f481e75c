-- Why a line is refused. It is judged from left to right, and the first of these decides: a byte that can't continue
-- any valid line; the parenthesis that opens a ninth level; the first byte of a 33rd item of a list; the parenthesis
-- that closes an argument whose encoding is over 1,024 bytes. The line's end and the byte 65,536 count among the
-- first. At one byte the reasons have this order.
use Rattle.std.specs.Prelude.{◌≡◌, ℕ, ◌+◌, ◌<◌, ◌≤◌, List, [], ◌∷◌, ◌++◌, length, take, slice_index}
use Rattle.tuple_tree.specs.Items.{Items, how_many, levels_of, whole_length}
use Rattle.tuple_tree.specs.Limits.{AreItems}
use Rattle.tuple_tree.specs.Values.{datum_length, slot_length}
use Rattle.tuple_codec.specs.Operations.{Operation, out, rdp, inp, cas, rd_all, in_all, upgrade}
use Rattle.tuple_text.specs.Texts.{AreBlanks, IsGap}
use Rattle.tuple_text.specs.Lines.{operation_name, arguments, LineText, IsSkipped}
use Rattle.tuple_text.specs.declared.faults.LineFault.{LineFault}
use Rattle.tuple_text.specs.declared.faults.LineFault.TheVariants.{BadByte, TooDeep, TooManyFields, TooLong, NoMemory}

-- each list of the tree has at most 32 items
abbrev pub KeepsCount : {L : Type 0} → Items L → Type 0
KeepsCount xs = (how_many xs ≤ 32) × AreItems (λ _. Unit {0}) xs

-- The operation may pass the limits of items, levels and bytes.
abbrev pub AnyOperation : Operation → Type 0
AnyOperation o = Unit {0}

-- Each tuple and template of the operation has at most 8 levels.
abbrev pub KeepsLevels : Operation → Type 0
KeepsLevels (out t) = levels_of t ≤ 8
KeepsLevels (rdp p) = levels_of p ≤ 8
KeepsLevels (inp p) = levels_of p ≤ 8
KeepsLevels (cas p t) = (levels_of p ≤ 8) × (levels_of t ≤ 8)
KeepsLevels (rd_all n p) = levels_of p ≤ 8
KeepsLevels (in_all n p) = levels_of p ≤ 8
KeepsLevels upgrade = Unit {0}

-- Each list in the operation has at most 32 items.
abbrev pub KeepsCounts : Operation → Type 0
KeepsCounts (out t) = KeepsCount t
KeepsCounts (rdp p) = KeepsCount p
KeepsCounts (inp p) = KeepsCount p
KeepsCounts (cas p t) = KeepsCount p × KeepsCount t
KeepsCounts (rd_all n p) = KeepsCount p
KeepsCounts (in_all n p) = KeepsCount p
KeepsCounts upgrade = Unit {0}

-- The operation passes neither the limit of levels nor that of items.
abbrev pub KeepsBoth : Operation → Type 0
KeepsBoth o = KeepsLevels o × KeepsCounts o

-- Some line begins so, and P holds of its operation.
abbrev pub LineBegins : (Operation → Type 0) → List ℕ → Type 0
LineBegins P bs = (rest : List ℕ) × (o : Operation) × LineText o (bs ++ rest) × P o

-- a gap before each argument, and nothing after the last
abbrev pub ArgumentsClosed : List (List ℕ → Type 0) → List ℕ → Type 0
ArgumentsClosed [] bs = bs ≡ []
ArgumentsClosed (argument ∷ more) bs =
    (gap front rest : List ℕ) × (bs ≡ gap ++ (front ++ rest)) × IsGap gap × argument front × ArgumentsClosed more rest

-- the lengths of the encodings of the arguments, in order
abbrev pub argument_lengths : Operation → List ℕ
argument_lengths (out t) = whole_length datum_length t ∷ []
argument_lengths (rdp p) = whole_length slot_length p ∷ []
argument_lengths (inp p) = whole_length slot_length p ∷ []
argument_lengths (cas p t) = whole_length slot_length p ∷ whole_length datum_length t ∷ []
argument_lengths (rd_all n p) = 1 ∷ whole_length slot_length p ∷ []
argument_lengths (in_all n p) = 1 ∷ whole_length slot_length p ∷ []
argument_lengths upgrade = []

-- An argument of more than 1,024 bytes is closed at the text's end: the text ends after the first k + 1 arguments of
-- o.
pub record EndsTooLong (bs : List ℕ) : Type 0 where
  pub o : Operation
  pub k : ℕ
  pub lead : List ℕ
  pub rest : List ℕ
  pub whole : bs ≡ lead ++ (operation_name o ++ rest)
  pub blanks : AreBlanks lead
  pub closed : ArgumentsClosed (take (k + 1) (arguments o)) rest
  pub last : k < length (arguments o)
  pub long : 1024 < slice_index (argument_lengths o) k

-- The first n bytes begin a line and pass no limit.
pub record PassesNoLimit (bs : List ℕ) (n : ℕ) : Type 0 where
  pub within : n ≤ length bs
  pub limit : n ≤ 65536
  pub begins : LineBegins KeepsBoth (take n bs)
  pub short : (k : ℕ) → k ≤ n → EndsTooLong (take k bs) → ⊥

-- The byte at n is the first that decides, and the bytes before it begin a line.
pub record StopsAt (bs : List ℕ) (n : ℕ) : Type 0 where
  pub passes : PassesNoLimit bs n
  pub there : n < length bs
  pub limit : n < 65536

-- The first n bytes are the longest beginning of the line that begins some line.
pub record IsBadAt (bs : List ℕ) (n : ℕ) : Type 0 where
  pub passes : PassesNoLimit bs n
  pub longest : n < length bs → n < 65536 → LineBegins AnyOperation (take (n + 1) bs) → ⊥
  pub unfinished : n ≡ length bs → (o : Operation) → LineText o bs → ⊥

-- This fault is the first that decides; memory may run out at each line.
abbrev pub Faults : LineFault → List ℕ → Type 0
Faults (BadByte n) bs = IsBadAt bs n
Faults TooDeep bs =
    (n : ℕ) × StopsAt bs n × LineBegins AnyOperation (take (n + 1) bs) × (LineBegins KeepsLevels (take (n + 1) bs) → ⊥)
Faults TooManyFields bs =
    (n : ℕ) × StopsAt bs n × LineBegins KeepsLevels (take (n + 1) bs) × (LineBegins KeepsCounts (take (n + 1) bs) → ⊥)
Faults TooLong bs =
    (n : ℕ) × StopsAt bs n × LineBegins KeepsBoth (take (n + 1) bs) × EndsTooLong (take (n + 1) bs)
Faults NoMemory bs = Unit {0}

-- The line is not skipped, and this is its fault.
abbrev pub RefusesLine : LineFault → List ℕ → Type 0
RefusesLine fault bs = (IsSkipped bs → ⊥) × Faults fault bs

-- the same fault with n more bytes in front
abbrev pub behind : ℕ → LineFault → LineFault
behind n (BadByte m) = BadByte (n + m)
behind n TooDeep = TooDeep
behind n TooManyFields = TooManyFields
behind n TooLong = TooLong
behind n NoMemory = NoMemory
