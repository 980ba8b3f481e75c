-- The faults of the command: how they are told, and the statuses that they end with.
use Rattle.std.specs.Prelude.{◌≡◌, ℕ, List, Option, MatchOption, ⊤}
use Rattle.one_space.specs.Complaints as complaints
use Rattle.one_space.specs.declared.complaints.Complaint.{Complaint}
use Rattle.one_space.specs.declared.complaints.Complaint.TheVariants as complaint
use Rattle.one_space.specs.declared.pieces.ReadFault.{ReadFault}
use Rattle.one_space.specs.declared.pieces.ReadFault.TheVariants as read
use Rattle.schedule_lines.specs.declared.reading.LineRefusal.{LineRefusal}
use Rattle.schedule_lines.specs.declared.reading.LineRefusal.TheVariants as lines
use Rattle.schedule_command.specs.declared.fault.ScheduleFault.{ScheduleFault}
use Rattle.schedule_command.specs.declared.fault.ScheduleFault.TheVariants.{Configuration, Step, NoEntry, TooHigh, TooWide, NoMemory, Read, Write}
use Rattle.schedule_command.specs.declared.fault.StepReason.{StepReason}
use Rattle.schedule_command.specs.declared.fault.StepReason.TheVariants as reasons

-- why a line is refused that is none of a step
abbrev pub reason_of : LineRefusal → StepReason
reason_of (lines.NoStep byte reason) = reasons.NoStep byte reason
reason_of lines.LastLine = reasons.LastLine

-- the fault of a reader
abbrev pub fault_of_reader : ReadFault → ScheduleFault
fault_of_reader read.NoMemory = NoMemory
fault_of_reader (read.Read error) = Read error

-- The reader gave no text, or memory ran out.
abbrev pub IsReadFault : ScheduleFault → Type 0
IsReadFault NoMemory = ⊤
IsReadFault (Read error) = ⊤
IsReadFault _ = ⊥

-- The picture can't be drawn, or memory ran out.
abbrev pub IsPictureFault : ScheduleFault → Type 0
IsPictureFault (NoEntry entries) = ⊤
IsPictureFault (TooHigh entries first last) = ⊤
IsPictureFault (TooWide parties most) = ⊤
IsPictureFault NoMemory = ⊤
IsPictureFault _ = ⊥

-- the complaint about the file at this path
abbrev pub IsComplaint : ScheduleFault → List ℕ → Complaint → Type 0
IsComplaint (Configuration fault) path c = c ≡ complaint.Configuration
IsComplaint (Step line reason) path c = c ≡ complaint.Step line
IsComplaint (Read error) path c = complaints.IsUnreadable path c
IsComplaint NoMemory path c = c ≡ complaint.Stopped
IsComplaint (Write error) path c = complaints.OfWrite error c
IsComplaint (NoEntry entries) path c = ⊥
IsComplaint (TooHigh entries first last) path c = ⊥
IsComplaint (TooWide parties most) path c = ⊥

-- 2 for words that ask for what can't be drawn, 3 for a stopped program, 1 for all else
abbrev pub status_of : ScheduleFault → ℕ
status_of (Configuration fault) = 1
status_of (Step line reason) = 1
status_of (NoEntry entries) = 2
status_of (TooHigh entries first last) = 2
status_of (TooWide parties most) = 2
status_of NoMemory = 3
status_of (Read error) = 1
status_of (Write error) = 3

-- A fault that ends with 2 has no complaint, and each other one has its own.
abbrev pub HasComplaint : ScheduleFault → List ℕ → Option Complaint → Type 0
HasComplaint fault path result = MatchOption result (status_of fault ≡ 2) (λ c. IsComplaint fault path c)
