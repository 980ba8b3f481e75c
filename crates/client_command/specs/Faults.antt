-- How the command ends at a fault.
use Rattle.std.specs.Prelude.{◌≡◌, ℕ, List}
use Rattle.one_space.specs.Complaints as complaints
use Rattle.one_space.specs.declared.complaints.Complaint.{Complaint}
use Rattle.one_space.specs.declared.complaints.Complaint.TheVariants as complaint
use Rattle.keys_file.specs.Faults as keys
use Rattle.client_process.specs.declared.fault.ConverseFault.{ConverseFault}
use Rattle.client_process.specs.declared.fault.ConverseFault.TheVariants as converse
use Rattle.client_command.specs.declared.fault.ClientFault.{ClientFault}
use Rattle.client_command.specs.declared.fault.ClientFault.TheVariants.{Keys, Replica, Spent, StandardInput, Clock, RecordsIn, RecordsOut, NoMemory, Converse}

-- the complaint about a process that began
abbrev pub IsConverseComplaint : ConverseFault → Complaint → Type 0
IsConverseComplaint (converse.Write error) c = complaints.OfWrite error c
IsConverseComplaint _ c = c ≡ complaint.Stopped

-- the complaint, where the party's file and the file from which records come stand at these paths
abbrev pub IsComplaint : ClientFault → List ℕ → List ℕ → Complaint → Type 0
IsComplaint (Keys fault) path records c = keys.IsComplaint fault path c
IsComplaint (Replica number last) path records c = c ≡ complaint.Configuration
IsComplaint (Spent above) path records c = c ≡ complaint.Configuration
IsComplaint StandardInput path records c = complaints.IsUnreadable path c
IsComplaint (Clock error) path records c = c ≡ complaint.Stopped
IsComplaint (RecordsIn error) path records c = complaints.OfOpen error records c
IsComplaint (RecordsOut error) path records c = c ≡ complaint.Stopped
IsComplaint NoMemory path records c = c ≡ complaint.Stopped
IsComplaint (Converse fault) path records c = IsConverseComplaint fault c

-- the status that the program ends with: that of the complaint
abbrev pub IsStatus : ClientFault → List ℕ → List ℕ → ℕ → Type 0
IsStatus fault path records status =
    (c : Complaint) × IsComplaint fault path records c × (status ≡ complaints.status_of c)
