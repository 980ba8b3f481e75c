-- Faults of records as those of a process.
use Rattle.records.specs.declared.writing.PutFault.{PutFault}
use Rattle.records.specs.declared.writing.PutFault.TheVariants as put
use Rattle.replica_process.specs.declared.fault.ServeFault.{ServeFault}
use Rattle.replica_process.specs.declared.fault.ServeFault.TheVariants.{NoMemory, TooLarge}

abbrev pub serve_fault_of : PutFault → ServeFault
serve_fault_of put.TooLarge = TooLarge
serve_fault_of put.NoMemory = NoMemory
