-- The relation between a replica and its history.
use Rattle.std.specs.Prelude.{ℕ, List}
use Rattle.events.specs.Outputs.{after_event, AreSentAsMeant}
use Rattle.events.specs.declared.output.Output.{Output}
use Rattle.protocol.specs.System.Configuration.{Configuration}
use Rattle.protocol.specs.System.Trace.{Entry}
use Rattle.replica.specs.declared.replica.Event.{Event}
use Rattle.replica.specs.State.{ReplicaData}
use Rattle.replica.specs.Inputs.{input_of}
use Rattle.replica.specs.Parted.{FitBoth}

-- the replica's number
abbrev pub me_of : ReplicaData → ℕ
me_of r = r.desk.member.me

-- both parts fit the history
abbrev pub Fits : Configuration → ReplicaData → List Entry → Type 0
Fits c r history = FitBoth c (me_of r) r.orderer r.desk history

-- If the replica fits a history before the event, it then fits the history with the event.
abbrev pub HistoryStaysRight : ReplicaData → Entry → List Output → ReplicaData → Type 0
HistoryStaysRight old input outs new =
    (c : Configuration) (history : List Entry) → Fits c old history
    → Fits c new (after_event (me_of old) input outs history)

-- the event of a step leads to its outputs
abbrev pub EventLeads : ReplicaData → Event → List Output → ReplicaData → Type 0
EventLeads old event outs new = HistoryStaysRight old (input_of (me_of old) event) outs new

-- If the replica fits some history, each frame among the outputs goes exactly to the parties for whom it is.
abbrev pub SendsAsMeant : ReplicaData → List Output → Type 0
SendsAsMeant r outs =
    (c : Configuration) (history : List Entry) → Fits c r history → AreSentAsMeant c (me_of r) outs
