-- Faults of a run that began. Its arguments are no reason for them.
use Rattle.cluster_run.specs.declared.fault.RunFault.{RunFault}
use Rattle.cluster_run.specs.declared.fault.RunFault.TheVariants.{BadConfig, NoClient, NoRoom, Call, TooManyStopped, NotInJournal, NoThread, NoAnswer, NoMemory}

abbrev pub IsLate : RunFault → Type 0
IsLate BadConfig = ⊥
IsLate NoClient = Unit {0}
IsLate (NoRoom least) = ⊥
IsLate (Call fault) = Unit {0}
IsLate TooManyStopped = Unit {0}
IsLate NotInJournal = Unit {0}
IsLate NoThread = Unit {0}
IsLate NoAnswer = Unit {0}
IsLate NoMemory = Unit {0}
