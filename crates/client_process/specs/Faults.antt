-- Which faults come when.
use Rattle.client_process.specs.declared.fault.ConverseFault.{ConverseFault}
use Rattle.client_process.specs.declared.fault.ConverseFault.TheVariants.{NoMemory, Stopped, Unanswered, TooLarge, Read, Write}

-- The process stops between two inputs, and nothing failed to be written.
abbrev pub StopsBetween : ConverseFault → Type 0
StopsBetween NoMemory = Unit {0}
StopsBetween Stopped = Unit {0}
StopsBetween Unanswered = ⊥
StopsBetween TooLarge = Unit {0}
StopsBetween (Read error) = Unit {0}
StopsBetween (Write error) = ⊥

abbrev pub IsWriteFault : ConverseFault → Type 0
IsWriteFault NoMemory = ⊥
IsWriteFault Stopped = ⊥
IsWriteFault Unanswered = ⊥
IsWriteFault TooLarge = ⊥
IsWriteFault (Read error) = ⊥
IsWriteFault (Write error) = Unit {0}
