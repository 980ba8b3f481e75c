-- The refusals of an append.
use Rattle.std.specs.Prelude.{Result, MatchResult}
use Rattle.journal.specs.declared.fault.AppendFault.{AppendFault}
use Rattle.journal.specs.declared.fault.AppendFault.TheVariants as faults

-- Out of step comes first, and then a full journal. If neither holds, memory may run out.
abbrev pub RefusalIsRight : AppendFault → Type 0 → Type 0 → Type 0
RefusalIsRight faults.NotInJournal in_step has_room = ¬ in_step
RefusalIsRight faults.JournalFull in_step has_room = in_step × ¬ has_room
RefusalIsRight faults.NoMemory in_step has_room = in_step × has_room

-- the entries were taken, in step and with room for them, or refused so
abbrev pub AppendIsRight : {T : Type 0} → Result T AppendFault → Type 0 → Type 0 → Type 0
AppendIsRight result in_step has_room =
    MatchResult result (λ _. in_step × has_room) (λ fault. RefusalIsRight fault in_step has_room)
