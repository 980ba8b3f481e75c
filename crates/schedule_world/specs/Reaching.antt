-- How far the steps of a schedule have come.
use Rattle.std.specs.Prelude.{List, [], ◌∷◌, ◌++◌}
use Rattle.protocol.specs.System.Configuration.{Configuration}
use Rattle.protocol.specs.System.Trace.{Entry}
use Rattle.protocol.specs.System.Schedule.{Step, World, StepsLead, NoOutputIsNext, new_world}

-- the past, turned to the oldest first, and after it the entries that are still to come
abbrev pub onto : List Entry → List Entry → List Entry
onto [] entries = entries
onto (e ∷ past) entries = onto past (e ∷ entries)

-- Within an event: the steps done lead to this world, whatever comes next. The steps left are those that are done in
-- part, as a flush may be.
abbrev pub StepsReachWithin : Configuration → List Step → List Step → World → Type 0
StepsReachWithin c done left w =
    (rest : List Step) (entries : List Entry) (v : World) → StepsLead c w (left ++ rest) entries v
    → StepsLead c new_world (done ++ (left ++ rest)) (onto w.past entries) v

-- Between events: an input comes next, or nothing.
abbrev pub StepsReach : Configuration → List Step → List Step → World → Type 0
StepsReach c done left w =
    (rest : List Step) (entries : List Entry) (v : World) → NoOutputIsNext entries
    → StepsLead c w (left ++ rest) entries v
    → StepsLead c new_world (done ++ (left ++ rest)) (onto w.past entries) v
