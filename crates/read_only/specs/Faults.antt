-- The faults of peeking, as faults of reading.
use Rattle.space.specs.declared.tuples.PeekFault.{PeekFault}
use Rattle.space.specs.declared.tuples.PeekFault.TheVariants as peek_faults
use Rattle.read_only.specs.declared.read_fault.ReadFault.{ReadFault}
use Rattle.read_only.specs.declared.read_fault.ReadFault.TheVariants as faults

abbrev pub fault_of_peeking : PeekFault → ReadFault
fault_of_peeking peek_faults.NotReadOnly = faults.NotReadOnly
fault_of_peeking peek_faults.NoMemory = faults.NoMemory
