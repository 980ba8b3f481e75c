-- The operations of a script's lines, until a line is refused or there are enough of them.
use Rattle.std.specs.Prelude.{◌≡◌, ◌⊎◌, ℕ, ◌+◌, ◌^◌, ◌<◌, ◌≤◌, Bool, true, MatchBool, List, [], ◌∷◌, ◌++◌, length, map}
use Rattle.std.specs.Prelude.{Option, IfSome, Result, MatchResult, Vec}
use Rattle.std.specs.declared.alloc.Global.{Global}
use Rattle.std.specs.Str.Lines.{lines}
use Rattle.tuple_codec.specs.Operations.{Operation}
use Rattle.tuple_codec.specs.OperationView.{operation_of}
use Rattle.tuple_codec.specs.declared.operations.Op.{Op}
use Rattle.tuple_text.specs.declared.faults.LineFault.{LineFault}
use Rattle.one_space.specs.Complaints.{Says, refusal_line}
use Rattle.one_space.specs.Run.{Ending, complete, refused_at, cut_short, LinesSay, Refusal, refusal}
use Rattle.one_space.specs.Reading.{ReadSoFar}
use Rattle.one_space.specs.declared.session.LocalFault.{LocalFault}
use Rattle.one_space.specs.declared.session.LocalFault.TheVariants.{Refused, NoMemory, Read, Write}
use Rattle.one_space.specs.declared.session.Manner.TheVariants.{Strict}

abbrev pub operations_of : Vec (Op Global) Global → List Operation
operations_of ops = map operation_of ops.items

-- The lines of the bytes say these operations, up to this ending.
abbrev pub SaysAll : List ℕ → Vec (Op Global) Global → Ending → Type 0
SaysAll bytes ops ending = LinesSay Strict 1 (lines bytes) (operations_of ops) [] ending

-- These are all operations of the bytes' lines, at most so many; or they are so many, and the lines begin with those
-- that say them.
pub record AreFirstOperations (most : ℕ) (bytes : List ℕ) (ops : Vec (Op Global) Global) : Type 0 where
  pub within : length ops.items ≤ most
  pub said : SaysAll bytes ops complete ⊎ ((length ops.items ≡ most) × SaysAll bytes ops cut_short)

-- The lines of the bytes say some operations, and then the line of this number is refused.
abbrev pub SaysSome : List ℕ → ℕ → LineFault → Type 0
SaysSome bytes line fault =
    (os : List Operation) × LinesSay Strict 1 (lines bytes) os (refusal line fault ∷ []) (refused_at line fault)

-- why the lines of these bytes are not read to their end
abbrev pub EndsBy : LocalFault → List ℕ → Type 0
EndsBy (Refused line fault) bytes = SaysSome bytes line fault
EndsBy NoMemory bytes = Unit {0}
EndsBy (Read error) bytes = Unit {0}
EndsBy (Write error) bytes = ⊥

-- The lines of the bytes were read, or the fault says why not, if the bytes are known.
abbrev pub JudgesScript : ℕ → Result (Vec (Op Global) Global) LocalFault → Option (List ℕ) → Type 0
JudgesScript most result known =
    IfSome known (λ bytes. MatchResult result (λ ops. AreFirstOperations most bytes ops) (λ fault. EndsBy fault bytes))

-- the lines that a console is told for a fault
abbrev pub lines_told : LocalFault → List (List ℕ)
lines_told (Refused line fault) = refusal_line (refusal line fault) ∷ []
lines_told NoMemory = []
lines_told (Read error) = []
lines_told (Write error) = []

-- A console is told of a refused line, and of nothing else.
abbrev pub TellsRefusal : {V : Type 0} → Result V LocalFault → Option (List (List ℕ)) → Option (List (List ℕ)) → Type 0
TellsRefusal result old new = MatchResult result (λ _. Says old new []) (λ fault. Says old new (lines_told fault))

-- ---- for private functions

-- The lines so far said these operations, at most so many.
pub record KeptSoFar (most : ℕ) (bytes : List ℕ) (left : Option (List ℕ)) (n : ℕ) (ops : Vec (Op Global) Global)
    : Type 0 where
  pub so_far : ReadSoFar Strict bytes left n (operations_of ops) []
  pub within : length ops.items ≤ most

-- The line of this number was read, or there is none, or the fault says why not.
abbrev pub ReadsScriptLine : ℕ → Result Bool LocalFault → ℕ
    → Option (List ℕ) → Vec (Op Global) Global → Option (List ℕ) → Vec (Op Global) Global → Type 0
ReadsScriptLine most result n unread old rest new =
    (bytes : List ℕ) → KeptSoFar most bytes unread n old
    → MatchResult result
    (λ more. MatchBool more (KeptSoFar most bytes rest (n + 1) new) (AreFirstOperations most bytes new))
    (λ fault. EndsBy fault bytes)

-- The operation was kept behind the others, or memory ran out.
abbrev pub KeepsOperation : Result Bool LocalFault → Op Global → Vec (Op Global) Global → Vec (Op Global) Global → Type 0
KeepsOperation result op old new =
    MatchResult result (λ more. (more ≡ true) × (new.items ≡ old.items ++ op ∷ [])) (λ fault. fault ≡ NoMemory)

-- No line is left after the last possible one, or the fault says so.
abbrev pub EndsScript : Result (Unit {0}) LocalFault → Option (List ℕ)
    → Vec (Op Global) Global → Vec (Op Global) Global → Type 0
EndsScript result unread old new =
    (most : ℕ) (bytes : List ℕ) → KeptSoFar most bytes unread (2 ^ 48) old
    → MatchResult result (λ _. AreFirstOperations most bytes new) (λ fault. EndsBy fault bytes)

-- The script was read, or the fault says why not, if its bytes are known.
abbrev pub ReadsScript : ℕ → Result (Unit {0}) LocalFault → Option (List ℕ) → Vec (Op Global) Global → Type 0
ReadsScript most result known new =
    IfSome known (λ bytes. MatchResult result (λ _. AreFirstOperations most bytes new) (λ fault. EndsBy fault bytes))
