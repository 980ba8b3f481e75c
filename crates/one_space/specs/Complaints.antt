-- The complaints on standard error, and their statuses.
use Rattle.std.specs.Prelude.{◌≡◌, ◌≢◌, ℕ, List, [], ◌∷◌, ◌++◌, Option, None, Some, codes, ⊤}
use Rattle.std.specs.Fmt.{decimal}
use Rattle.std.specs.IoError.{error_kind}
use Rattle.std.specs.declared.io.Error.{Error}
use Rattle.std.specs.declared.io.ErrorKind.{ErrorKind}
use Rattle.std.specs.declared.io.ErrorKind.TheVariants as kinds
use Rattle.tuple_text.specs.declared.faults.LineFault.{LineFault}
use Rattle.tuple_text.specs.declared.faults.LineFault.TheVariants.{BadByte, TooDeep, TooManyFields, TooLong, NoMemory}
use Rattle.one_space.specs.Refusals.{line_refusal, malformed_refusal, step_refusal, configuration_refusal}
use Rattle.one_space.specs.Run.{Refusal}
use Rattle.one_space.specs.declared.digits.ShowFault.{ShowFault}
use Rattle.one_space.specs.declared.digits.ShowFault.TheVariants as show
use Rattle.one_space.specs.declared.complaints.Complaint.{Complaint}
use Rattle.one_space.specs.declared.complaints.Complaint.TheVariants.{Line, Malformed, Step, Configuration, Unreadable}
use Rattle.one_space.specs.declared.complaints.Complaint.TheVariants.{Stopped, OutputClosed}

-- Only a byte that can't continue any valid line is named by its place.
abbrev pub fault_place_text : LineFault → List ℕ
fault_place_text (BadByte offset) = codes " at byte " ++ decimal offset
fault_place_text TooDeep = codes ""
fault_place_text TooManyFields = codes ""
fault_place_text TooLong = codes ""
fault_place_text NoMemory = codes ""

-- the line that tells of a complaint, empty if nobody reads the output any more
abbrev pub complaint_text : Complaint → List ℕ
complaint_text (Line number fault) =
    codes "line " ++ decimal number ++ codes ": refused " ++ decimal (line_refusal fault) ++ fault_place_text fault
complaint_text Malformed = codes "refused " ++ decimal malformed_refusal
complaint_text (Step line) = codes "line " ++ decimal line ++ codes ": refused " ++ decimal step_refusal
complaint_text Configuration = codes "refused " ++ decimal configuration_refusal
complaint_text (Unreadable path) = codes "cannot read " ++ path.now
complaint_text Stopped = codes "stopped"
complaint_text OutputClosed = codes ""

-- the line that tells of a refused line
abbrev pub refusal_line : Refusal → List ℕ
refusal_line r = complaint_text (Line r.line r.fault)

-- the lines that a complaint takes: none if nobody reads the output any more
abbrev pub lines_said : Complaint → List (List ℕ)
lines_said OutputClosed = []
lines_said (Line number fault) = complaint_text (Line number fault) ∷ []
lines_said Malformed = complaint_text Malformed ∷ []
lines_said (Step line) = complaint_text (Step line) ∷ []
lines_said Configuration = complaint_text Configuration ∷ []
lines_said (Unreadable path) = complaint_text (Unreadable path) ∷ []
lines_said Stopped = complaint_text Stopped ∷ []

-- 1 for input that is refused or can't be read, 3 for a stopped program
abbrev pub status_of : Complaint → ℕ
status_of (Line number fault) = 1
status_of Malformed = 1
status_of (Step line) = 1
status_of Configuration = 1
status_of (Unreadable path) = 1
status_of Stopped = 3
status_of OutputClosed = 3

-- what a console was told grows by these lines, if it says what it was told
abbrev pub Says : Option (List (List ℕ)) → Option (List (List ℕ)) → List (List ℕ) → Type 0
Says None new lines = ⊤
Says (Some before) None lines = ⊥
Says (Some before) (Some after) lines = after ≡ before ++ lines

-- the complaint names the file at this path
abbrev pub IsUnreadable : List ℕ → Complaint → Type 0
IsUnreadable path (Unreadable p) = p.now ≡ path
IsUnreadable path (Line number fault) = ⊥
IsUnreadable path Malformed = ⊥
IsUnreadable path (Step line) = ⊥
IsUnreadable path Configuration = ⊥
IsUnreadable path Stopped = ⊥
IsUnreadable path OutputClosed = ⊥

-- ---- the complaints about faults

-- the complaint about a file at this path that can't be opened: memory ran out, or the file is named
pub record OfOpen (error : Error) (path : List ℕ) (c : Complaint) : Type 0 where
  pub memory : error_kind error ≡ kinds.OutOfMemory → c ≡ Stopped
  pub file : error_kind error ≢ kinds.OutOfMemory → IsUnreadable path c

-- the complaint about an output that can't be written: nobody reads it any more, or the program was stopped
pub record OfWrite (error : Error) (c : Complaint) : Type 0 where
  pub closed : error_kind error ≡ kinds.BrokenPipe → c ≡ OutputClosed
  pub other : error_kind error ≢ kinds.BrokenPipe → c ≡ Stopped

abbrev pub OfShow : ShowFault → Complaint → Type 0
OfShow (show.Malformed why) c = c ≡ Malformed
OfShow show.NoMemory c = c ≡ Stopped
OfShow (show.Write error) c = OfWrite error c
