-- How the command ends at a fault.
use Rattle.std.specs.Prelude.{◌≡◌, ℕ, List}
use Rattle.one_space.specs.Complaints as complaints
use Rattle.one_space.specs.declared.complaints.Complaint.{Complaint}
use Rattle.one_space.specs.declared.complaints.Complaint.TheVariants as complaint
use Rattle.keys_file.specs.Faults as keys
use Rattle.replica_process.specs.declared.fault.ServeFault.{ServeFault}
use Rattle.replica_process.specs.declared.fault.ServeFault.TheVariants as serve
use Rattle.replica_command.specs.declared.fault.ReplicaFault.{ReplicaFault}
use Rattle.replica_command.specs.declared.fault.ReplicaFault.TheVariants.{Keys, Client, StandardInput, NoMemory, Serve}

-- the complaint about a process that began
abbrev pub IsServeComplaint : ServeFault → Complaint → Type 0
IsServeComplaint (serve.Write error) c = complaints.OfWrite error c
IsServeComplaint _ c = c ≡ complaint.Stopped

-- the complaint, where the party's file stands at this path
abbrev pub IsComplaint : ReplicaFault → List ℕ → Complaint → Type 0
IsComplaint (Keys fault) path c = keys.IsComplaint fault path c
IsComplaint (Client number last) path c = c ≡ complaint.Configuration
IsComplaint StandardInput path c = complaints.IsUnreadable path c
IsComplaint NoMemory path c = c ≡ complaint.Stopped
IsComplaint (Serve fault) path c = IsServeComplaint fault c

-- 1 for a file that is refused or can't be read, 3 for a process that stopped
abbrev pub status_of : ReplicaFault → ℕ
status_of (Keys fault) = keys.status_of fault
status_of (Client number last) = 1
status_of StandardInput = 1
status_of NoMemory = 3
status_of (Serve fault) = 3
