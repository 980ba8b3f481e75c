-- Laws of a replica in two parts.
use Rattle.std.specs.Prelude.{◌≡◌, ℕ, false, List, is_none}
use Rattle.protocol.specs.System.Configuration.{Configuration}
use Rattle.protocol.specs.System.Reads.{without_reads}
use Rattle.protocol.specs.System.Trace.{Entry}
use Rattle.protocol.specs.Replica.Owed.{IsPromptReplica}
use Rattle.orderer.specs.State.{OrdererData}
use Rattle.replica.specs.State.{DeskPart, BothPartsData, ReplicaData, AreOne, has_stopped}
use Rattle.desk.specs.State.{DeskData}
use Rattle.replica.specs.BothParts.{BothPartsMatchHistory, both_parts, me_of}
use Rattle.replica.specs.Parted.{DeskMatchesHistory, OrdererMatchesHistory, DeskFitsHistory}
use Rattle.orderer.specs.ViewChangeOut.{AreChanges}
use Rattle.replica.specs.Fits as replica_fits

-- Together they hold the whole history.
abbrev pub PartsJoin : Type 0
PartsJoin =
    (c : Configuration) (o : OrdererData) (d : DeskData) (history : List Entry) → AreOne o d
    → DeskMatchesHistory c o.endpoint.me d history → OrdererMatchesHistory c o.endpoint.me o (without_reads history)
    → BothPartsMatchHistory c (both_parts o d) history

-- And what holds the whole history parts into both.
abbrev pub HoldsPart : Type 0
HoldsPart =
    (c : Configuration) (r : BothPartsData) (history : List Entry) → AreOne r.orderer r.desk
    → AreChanges r.orderer.received.held → BothPartsMatchHistory c r history
    → DeskMatchesHistory c (me_of r) r.desk history
    × OrdererMatchesHistory c (me_of r) r.orderer (without_reads history)

-- A replica whose desk has not stopped is prompt to the end of its history,
abbrev pub DesksArePrompt : Type 0
DesksArePrompt =
    (c : Configuration) (me : ℕ) (d : DeskPart) (history : List Entry) → DeskFitsHistory c me d history
    → is_none d.holds ≡ false → IsPromptReplica c me history

-- and so is one of which neither part has stopped.
abbrev pub RunningReplicasArePrompt : Type 0
RunningReplicasArePrompt =
    (c : Configuration) (r : ReplicaData) (history : List Entry) → replica_fits.Fits c r history
    → has_stopped r ≡ false → IsPromptReplica c (replica_fits.me_of r) history
