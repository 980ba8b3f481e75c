-- The complaint about a party's file that gives no keys, and its status.
use Rattle.std.specs.Prelude.{◌≡◌, ℕ, List}
use Rattle.one_space.specs.Complaints as complaints
use Rattle.one_space.specs.declared.complaints.Complaint.{Complaint}
use Rattle.one_space.specs.declared.complaints.Complaint.TheVariants as complaint
use Rattle.keys_file.specs.declared.fault.KeysFault.{KeysFault}
use Rattle.keys_file.specs.declared.fault.KeysFault.TheVariants.{File, NoMemory, Read}

-- the complaint, where the file stands at this path
abbrev pub IsComplaint : KeysFault → List ℕ → Complaint → Type 0
IsComplaint (File fault) path c = c ≡ complaint.Configuration
IsComplaint NoMemory path c = c ≡ complaint.Stopped
IsComplaint (Read error) path c = complaints.IsUnreadable path c

-- 1 for a file that is refused or can't be read, 3 for want of memory
abbrev pub status_of : KeysFault → ℕ
status_of (File fault) = 1
status_of NoMemory = 3
status_of (Read error) = 1
