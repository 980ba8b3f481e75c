-- The model of a replica's fields. While it runs, its parts are joined.
use Rattle.std.specs.Prelude.{Option, option_map}
use Rattle.replica.specs.declared.replica.Replica.TheInside.{Inside}
use Rattle.replica.specs.State.{BothPartsData, MemberData, ReplicaData, IsOrdererPart, IsDeskPart}
use Rattle.replica.specs.MemberView.{member_data}

-- the member's parts, as they are joined, or both stopped
abbrev pub both_of : MemberData → Option BothPartsData → ReplicaData
both_of m holds =
    record {
      orderer = record { member = m; holds = option_map (λ r. r.orderer) holds };
      desk = record { member = m; holds = option_map (λ r. r.desk) holds };
    }

abbrev pub replica_data : Inside → ReplicaData
replica_data r = both_of (member_data r.member) r.holds

-- what it holds is the member's
abbrev pub IsOwn : Inside → Type 0
IsOwn r = IsOrdererPart (replica_data r).orderer × IsDeskPart (replica_data r).desk
