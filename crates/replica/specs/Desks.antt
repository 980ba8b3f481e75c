-- How a replica's parts fit a history and the outputs of a running event.
use Rattle.std.specs.Prelude.{List}
use Rattle.wire_format.specs.Messages.{MessageData as Message}
use Rattle.events.specs.declared.output.Output.{Output}
use Rattle.protocol.specs.System.Configuration.{Configuration}
use Rattle.replica_histories.specs.Events.{Start}
use Rattle.desk.specs.State.{DeskData}
use Rattle.desk.specs.DeskOf.{desk_of, IsDeskOf}
use Rattle.orderer.specs.Fitting.{FitsEvent}
use Rattle.orderer.specs.State.{OrdererData}

-- ---- an event

-- The desk's data are right, and both parts fit as above.
pub record PartsFitEvent (c : Configuration) (s : Start) (o : OrdererData) (d : DeskData) (due : List Message)
    (outs : List Output) : Type 0 where
  pub is : IsDeskOf c d
  pub fits : FitsEvent c d.me s o (desk_of c d) d.waiting due outs
