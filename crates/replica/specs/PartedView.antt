-- The model of the fields of a replica's parts.
use Rattle.replica.specs.declared.parted.Orderer.TheInside.{Inside as OrdererInside}
use Rattle.replica.specs.declared.parted.Desk.TheInside.{Inside as DeskInside}
use Rattle.replica.specs.State.{OrdererPart, DeskPart}
use Rattle.replica.specs.MemberView.{member_data}

abbrev pub orderer_part : OrdererInside → OrdererPart
orderer_part o = record { member = member_data o.member; holds = o.holds }

abbrev pub desk_part : DeskInside → DeskPart
desk_part d = record { member = member_data d.member; holds = d.holds }
