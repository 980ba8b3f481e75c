-- The end of a run over a reader's bytes.
use Rattle.std.specs.Prelude.{◌≡◌, ℕ, List, [], ◌++◌, length, map, Option, None, Some, IfSome, Result, MatchResult}
use Rattle.std.specs.Prelude.{Contains}
use Rattle.std.specs.Str.Lines.{lines}
use Rattle.std.specs.Io.KnownBytes.{Appends}
use Rattle.tuple_codec.specs.Operations.{Operation}
use Rattle.space.specs.Applying.{Contents, nothing_in}
use Rattle.space.specs.Births.{SpaceState, tuples_of}
use Rattle.space.specs.declared.version.Version.{Version}
use Rattle.one_space.specs.Complaints.{Says, refusal_line}
use Rattle.one_space.specs.Run.{Ending, complete, refused_at, cut_short, LinesSay, Refusal, results_of, left_by}
use Rattle.one_space.specs.declared.pieces.ReadFault.{ReadFault}
use Rattle.one_space.specs.declared.pieces.ReadFault.TheVariants as pieces
use Rattle.one_space.specs.declared.session.Ended.{Ended}
use Rattle.one_space.specs.declared.session.Manner.{Manner}
use Rattle.one_space.specs.declared.session.Manner.TheVariants.{Strict}
use Rattle.one_space.specs.declared.session.Rules.{Rules}
use Rattle.one_space.specs.declared.session.LocalFault.{LocalFault}
use Rattle.one_space.specs.declared.session.LocalFault.TheVariants.{Refused, NoMemory, Read, Write}

-- the bytes that a writer has, and the lines that a console was told, if they are known
pub record Scene : Type 0 where
  pub written : Option (List ℕ)
  pub said : Option (List (List ℕ))

abbrev pub scene_of : {W C : Type 0} → (W → Option (List ℕ)) → (C → Option (List (List ℕ))) → W → C → Scene
scene_of contents said writer console = record { written = contents writer; said = said console }

-- What a run has between two of its lines: the tuples of its space, how many lines were refused, and the results that
-- are not written yet.
pub record Left : Type 0 where
  pub tuples : Contents
  pub refused : ℕ
  pub pending : List ℕ

-- These operations ran on a space that held the first tuples, and their results were written, except those that are
-- pending. The console was told these refusals.
pub record Gives (first : Contents) (old new : Scene) (ops : List Operation) (refusals : List Refusal) (left : Left)
    : Type 0 where
  pub done : List ℕ
  pub wrote : Appends old.written new.written done
  pub results : done ++ left.pending ≡ results_of first ops
  pub tuples : left.tuples ≡ left_by first ops
  pub told : Says old.said new.said (map refusal_line refusals)

-- The lines of the bytes say some operations and have some refusals, up to this ending, and this came of them.
pub record Runs (manner : Manner) (first : Contents) (bytes : List ℕ) (ending : Ending) (old new : Scene) (left : Left)
    : Type 0 where
  pub ops : List Operation
  pub refusals : List Refusal
  pub said : LinesSay manner 1 (lines bytes) ops refusals ending
  pub gives : Gives first old new ops refusals left
  pub count : left.refused ≡ length refusals

-- The same with this ending, whatever the space holds then, but for the results that are pending.
abbrev pub Breaks : Ending → Manner → Contents → List ℕ → Scene → Scene → List ℕ → Type 0
Breaks ending manner first bytes old new pending =
    (left : Left) × (left.pending ≡ pending) × Runs manner first bytes ending old new left

-- The run stopped by the fault. If writing failed, nothing is known of it.
abbrev pub StopsBy : LocalFault → Manner → Contents → List ℕ → Scene → Scene → List ℕ → Type 0
StopsBy (Refused line fault) manner first bytes old new pending =
    Breaks (refused_at line fault) manner first bytes old new pending
StopsBy NoMemory manner first bytes old new pending = Breaks cut_short manner first bytes old new pending
StopsBy (Read error) manner first bytes old new pending = Breaks cut_short manner first bytes old new pending
StopsBy (Write error) manner first bytes old new pending = Unit {0}

-- the state and the count of refused lines at the end of a run
abbrev pub left_at_end : SpaceState → ℕ → Left
left_at_end space refused = record { tuples = tuples_of space; refused = refused; pending = [] }

-- A run over the bytes went to their end, or stopped by the fault.
abbrev pub EndsRun : Result Ended LocalFault → Rules → List ℕ → Scene → Scene → Type 0
EndsRun result rules bytes old new =
    MatchResult result
    (λ ended. Runs rules.manner (nothing_in rules.version) bytes complete old new
    (left_at_end ended.space ended.refused))
    (λ fault. StopsBy fault rules.manner (nothing_in rules.version) bytes old new [])

-- If the reader's bytes are known, a run over them ended.
abbrev pub EndsKnown : Result Ended LocalFault → Rules → Option (List ℕ) → Scene → Scene → Type 0
EndsKnown result rules known old new = IfSome known (λ bytes. EndsRun result rules bytes old new)

-- the bytes that a writer has, where nobody is told of refused lines
abbrev pub unheard : Option (List ℕ) → Scene
unheard written = record { written = written; said = None }

-- If the reader's bytes are known, a run over them went to their end without a refused line, and left this space. Or it
-- stopped by the fault.
abbrev pub EndsStrict : Result SpaceState LocalFault → Version → Option (List ℕ) → Option (List ℕ) → Option (List ℕ)
    → Type 0
EndsStrict result version known old new =
    IfSome known (λ bytes. MatchResult result
    (λ space. Runs Strict (nothing_in version) bytes complete (unheard old) (unheard new) (left_at_end space 0))
    (λ fault. StopsBy fault Strict (nothing_in version) bytes (unheard old) (unheard new) []))

-- A front of these bytes went to the writer, and the others are left.
pub record FrontIsWritten (old new : Option (List ℕ)) (bytes left : List ℕ) : Type 0 where
  pub gone : List ℕ
  pub wrote : Appends old new gone
  pub split : gone ++ left ≡ bytes

-- Results are held back only if a whole line is at hand. That line is read without asking for more bytes.
abbrev pub HeldForLine : List ℕ → List ℕ → Type 0
HeldForLine at_hand held = (Contains at_hand 10 → ⊥) → held ≡ []

abbrev pub IsWriteFault : LocalFault → Type 0
IsWriteFault (Refused line fault) = ⊥
IsWriteFault NoMemory = ⊥
IsWriteFault (Read error) = ⊥
IsWriteFault (Write error) = Unit {0}

abbrev pub read_fault_of : ReadFault → LocalFault
read_fault_of pieces.NoMemory = NoMemory
read_fault_of (pieces.Read error) = Read error
