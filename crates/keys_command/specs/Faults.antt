-- How the command ends at a fault.
use Rattle.std.specs.Prelude.{◌≡◌, ℕ, List, codes, Option, MatchOption, ⊤}
use Rattle.one_space.specs.Complaints as complaints
use Rattle.one_space.specs.declared.complaints.Complaint.{Complaint}
use Rattle.one_space.specs.declared.complaints.Complaint.TheVariants as complaint
use Rattle.keys_command.specs.declared.fault.KeysFault.{KeysFault}
use Rattle.keys_command.specs.declared.fault.KeysFault.TheVariants.{Configuration, Exists, NoMemory, Read, Draw, Write}

-- The reader gave no text, or memory ran out.
abbrev pub IsReadFault : KeysFault → Type 0
IsReadFault NoMemory = ⊤
IsReadFault (Read error) = ⊤
IsReadFault _ = ⊥

-- A folder or a file was not written, or memory ran out.
abbrev pub IsWriteFault : KeysFault → Type 0
IsWriteFault NoMemory = ⊤
IsWriteFault (Write error) = ⊤
IsWriteFault _ = ⊥

-- the complaint, where the configuration stands at this path
abbrev pub IsComplaint : KeysFault → List ℕ → Complaint → Type 0
IsComplaint (Configuration fault) path c = c ≡ complaint.Configuration
IsComplaint (Exists name) path c = ⊥
IsComplaint NoMemory path c = c ≡ complaint.Stopped
IsComplaint (Read error) path c = complaints.IsUnreadable path c
IsComplaint (Draw error) path c = complaints.IsUnreadable (codes "/dev/urandom") c
IsComplaint (Write error) path c = complaints.OfWrite error c

-- 2 for words that ask to write over a file, 3 for a stopped program, 1 for all else
abbrev pub status_of : KeysFault → ℕ
status_of (Configuration fault) = 1
status_of (Exists name) = 2
status_of NoMemory = 3
status_of (Read error) = 1
status_of (Draw error) = 1
status_of (Write error) = 3

-- A fault that ends with 2 has no complaint, and each other one has its own.
abbrev pub HasComplaint : KeysFault → List ℕ → Option Complaint → Type 0
HasComplaint fault path result = MatchOption result (status_of fault ≡ 2) (λ c. IsComplaint fault path c)
