-- A replica's data, as plain values: the orderer, and the desk that it orders for.
use Rattle.std.specs.Prelude.{◌≡◌, ℕ, ◌==◌, Bool, ◌||◌, if◌then◌else◌, List, [], Option, is_none}
use Rattle.std.specs.Option.{ForSome}
use Rattle.authenticator.specs.Keys.{Keys, mac_between}
use Rattle.authenticator.specs.Membership.{Membership}
use Rattle.signing.specs.AuthenticBody.{authentic}
use Rattle.wire_format.specs.Messages.{BodyData}
use Rattle.protocol.specs.System.Configuration.{Configuration, members}
use Rattle.orderer.specs.State.{OrdererData}
use Rattle.desk.specs.State.{DeskData}

-- both parts, joined within an event
pub record BothPartsData : Type 0 where
  pub orderer : OrdererData
  pub desk : DeskData

-- both are of one replica, with the same period of checkpoints
abbrev pub AreOne : OrdererData → DeskData → Type 0
AreOne o d = (d.me ≡ o.endpoint.me) × (o.received.sizes.period ≡ d.period)

-- the body of the frame in the bytes, if it is authentic to the orderer's replica
abbrev pub heard : OrdererData → List ℕ → Option BodyData
heard o bytes = authentic o.endpoint.membership o.endpoint.me bytes

-- the configuration gives the orderer's replica what it knows
abbrev pub Gives : Configuration → OrdererData → Type 0
Gives c o = members c o.endpoint.me ≡ o.endpoint.membership

-- ---- the parts of a replica

-- To which replica a part belongs: its number, how many replicas may be faulty and how many clients there are, and its
-- code. By that a replica of another system, which has other keys, differs from one of the same number.
pub record MemberData : Type 0 where
  pub me : ℕ
  pub faults : ℕ
  pub clients : ℕ
  pub code : List ℕ

-- the first replica that isn't this one
abbrev pub first_other : ℕ → ℕ
first_other me = if me == 0 then 1 else 0

-- the code that a replica makes of no text for the first other one
unfoldable pub member_code : Keys → ℕ → List ℕ
member_code keys me = mac_between keys me (first_other me) []

-- the replica of this number that knows this
abbrev pub member_of : Membership → ℕ → MemberData
member_of m me =
    record { me = me; faults = m.faults; clients = m.clients; code = member_code m.keys me }

-- Each part holds its data, unless it stopped.
pub record OrdererPart : Type 0 where
  pub member : MemberData
  pub holds : Option OrdererData

pub record DeskPart : Type 0 where
  pub member : MemberData
  pub holds : Option DeskData

-- the data are the member's
abbrev pub IsOrdererPart : OrdererPart → Type 0
IsOrdererPart part =
    ForSome part.holds (λ o. member_of o.endpoint.membership o.endpoint.me ≡ part.member)

abbrev pub IsDeskPart : DeskPart → Type 0
IsDeskPart part =
    ForSome part.holds (λ d. member_of d.membership d.me ≡ part.member)

-- both parts of one replica
pub record ReplicaData : Type 0 where
  pub orderer : OrdererPart
  pub desk : DeskPart

abbrev pub IsReplicaData : ReplicaData → Type 0
IsReplicaData r = r.orderer.member ≡ r.desk.member

-- one of them has stopped
abbrev pub has_stopped : ReplicaData → Bool
has_stopped r = is_none r.orderer.holds || is_none r.desk.holds
