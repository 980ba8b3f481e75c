-- Which waiting requests have numbers, by their flags and by the history.
use Rattle.std.specs.Prelude.{ℕ, List, map}
use Rattle.protocol.specs.System.Configuration.{Configuration}
use Rattle.protocol.specs.System.Trace.{Entry}
use Rattle.protocol.specs.Replica.State.{State, Call}
use Rattle.replica_histories.specs.Numbers.{FitsNumbers, Waiting}
use Rattle.desk.specs.declared.waiting.WaitingRequest.{WaitingRequest}
use Rattle.desk.specs.Assigned.{assigned_of}
use Rattle.desk.specs.DeskOf.{waiting_call}
use Rattle.desk.specs.Waiting.{WaitingData}

-- a request's call, with its flag
abbrev pub flagged_call : Configuration → WaitingRequest → Waiting
flagged_call c r = record { call = waiting_call c r; numbered = r.numbered }

abbrev pub flagged : Configuration → List WaitingRequest → List Waiting
flagged c requests = map (flagged_call c) requests

-- In the view v, whose greatest assigned number is `used`, the flags of the waiting requests are those of the history.
abbrev pub FitsFlags : Configuration → ℕ → ℕ → ℕ → WaitingData → State → List Call → List Entry → Type 0
FitsFlags c me v used w st calls history =
    FitsNumbers c me v used (assigned_of w.assigned) (flagged c w.requests) st calls history
