-- The model of a member's fields.
use Rattle.replica.specs.declared.member.Member.{Member}
use Rattle.replica.specs.State.{MemberData}

abbrev pub member_data : Member → MemberData
member_data m = record { me = m.me.0; faults = m.faults; clients = m.clients; code = m.code }
