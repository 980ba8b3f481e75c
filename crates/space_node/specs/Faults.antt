-- The refusals of the journal, as refusals of a call.
use Rattle.journal.specs.declared.fault.AppendFault.{AppendFault}
use Rattle.journal.specs.declared.fault.AppendFault.TheVariants as appends
use Rattle.space_node.specs.declared.fault.CallFault.{CallFault}
use Rattle.space_node.specs.declared.fault.CallFault.TheVariants as calls

abbrev pub fault_of : AppendFault → CallFault
fault_of appends.NotInJournal = calls.NotInJournal
fault_of appends.JournalFull = calls.JournalFull
fault_of appends.NoMemory = calls.NoMemory
