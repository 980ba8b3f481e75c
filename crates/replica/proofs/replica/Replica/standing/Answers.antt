use Rattle.std.proofs.Common.{Option, ap, sym, subst}
use Rattle.std.specs.Prelude.{option_map}
use Rattle.replica.specs.MemberView.{member_data}
use Rattle.replica.specs.ReplicaView.{both_of}
use Rattle.replica.specs.Standing.{TellsStanding}
use Rattle.replica.specs.State.{BothPartsData, MemberData}
use Rattle.replica.proofs.Awaiting.{tells_standing}
use Rattle.replica.proofs.replica.Replica.standing.Goals as goal

pub returns-clause-stands : goal.returns-clause-stands
returns-clause-stands c =
    let m = member_data c.self.inside.member in
    let r = c.in-Some.both_parts in
    let own = c.self.invariant.0 r.orderer (ap (option_map (λ (b : BothPartsData). b.orderer)) c.in-Some.is) in
    rw (← c.self.view_is)
    (subst (λ (h : Option BothPartsData). TellsStanding (both_of m h) c.standing.result) (sym c.in-Some.is)
    (tells_standing m r.orderer r.desk c.standing.result c.are_one.ensures (ap (λ (k : MemberData). k.me) own) c.standing.ensures))
