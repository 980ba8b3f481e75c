use Rattle.std.proofs.Common.{Option, subst}
use Rattle.terms.specs.Parties.{party_number}
use Rattle.journal.specs.Ties.{Knot, IsTied, TiesJournal}
use Rattle.journal.proofs.Tied.{ties_longer}
use Rattle.journal.proofs.tie.tie_event.Goals as goal

pub returns-in-Some-add : goal.returns-in-Some-add
returns-in-Some-add g c = λ entries event ties.
    let was : IsTied c.in-Some.known entries = subst (λ (k : Option Knot). TiesJournal k entries) c.in-Some.is ties in
    rw c.in-Some-add.ensures.all (ties_longer (party_number c.args.party) c.args.event.now.items entries c.in-Some.known c.add.new.self c.in-Some-add.ensures.adds event was)
