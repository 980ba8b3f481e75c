-- The use of a journal's trace.
use Rattle.std.specs.Prelude.{◌≡◌, List, []}
use Rattle.protocol.specs.System.Configuration.{Configuration}
use Rattle.protocol.specs.System.Run.{IsRun}
use Rattle.protocol.specs.System.Trace.{Entry, Unforged}
use Rattle.journal.specs.Carrying.{Carried}

-- If the configuration names no party as faulty, a run in which received frames were sent is unforged.
abbrev pub CarriedIsUnforged : Type 0
CarriedIsUnforged =
    (c : Configuration) (trace : List Entry) → c.faulty_replicas ≡ [] → c.faulty_clients ≡ []
    → IsRun c trace → Carried c trace → Unforged c trace
