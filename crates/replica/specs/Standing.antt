-- What a replica waits for between two events.
use Rattle.std.specs.Prelude.{◌≡◌, not, List, option_map}
use Rattle.std.specs.Bool.{then_some}
use Rattle.protocol.specs.System.Configuration.{Configuration}
use Rattle.protocol.specs.System.Trace.{Entry}
use Rattle.patience.specs.declared.standing.Standing.{Standing}
use Rattle.patience.specs.Stands.{Stands, view_of}
use Rattle.desk.specs.Fetching.{IsAskedFor}
use Rattle.desk.specs.Waiting.{oldest_of}
use Rattle.replica.specs.State.{BothPartsData, ReplicaData}
use Rattle.replica.specs.Fits.{Fits, me_of}

-- After each history that the replica fits, it stands so.
abbrev pub TellsStanding : ReplicaData → Standing → Type 0
TellsStanding r standing =
    (c : Configuration) (history : List Entry) → Fits c r history → Stands c (me_of r) history standing

-- It aims at a view if its log is inactive, its desk's transfer asks for a part, and a request has waited longest at the
-- desk.
pub record AreStanding (r : BothPartsData) (standing : Standing) : Type 0 where
  pub view : option_map view_of standing.view ≡ then_some (not r.orderer.log.active) r.orderer.target
  pub part : IsAskedFor r.desk standing.part
  pub request : standing.request ≡ oldest_of r.desk.waiting.requests
