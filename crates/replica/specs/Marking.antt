-- The marks move (Castro and Liskov, TOCS 2002, on garbage collection).
use Rattle.std.specs.Prelude.{◌≡◌, ℕ}
use Rattle.ordering.specs.Log as logs
use Rattle.orderer.specs.State.{OrdererData}
use Rattle.replica.specs.State.{BothPartsData}
use Rattle.orderer.specs.PqSets.{CutsLog}
use Rattle.desk.specs.Desking.{desk_above}

-- The low mark moves up to a number: the log, P, Q and the kept states are cut there.
abbrev pub MovesMarks : ℕ → BothPartsData → BothPartsData → Type 0
MovesMarks low old new =
    (o : OrdererData) × CutsLog low old.orderer o
    × (new ≡ record old { orderer = o; desk = desk_above (logs.cut_to old.orderer.log low).low old.desk })
