use Rattle.std.proofs.Common.{slice_get, subst}
use Rattle.terms.specs.Parties.{party_number}
use Rattle.journal.specs.Ties.{Knot, SeenReachesLast}
use Rattle.journal.proofs.Tied.{shows_ordering}
use Rattle.journal.proofs.tie.Tie.shows_ordering.Goals as goal

pub returns : goal.returns
returns g c = λ is.
    let p = party_number c.args.party in
    let reach : SeenReachesLast c.args.seen.now c.self.inside.front (slice_get c.self.inside.ordered.items p) = rw (c.last_of.ensures, c.as_slice.ensures.value) at c.reaches.ensures is in
    shows_ordering c.args.self.now p c.args.seen.now (subst (λ (k : Knot). SeenReachesLast c.args.seen.now k.events (slice_get k.ordered p)) c.self.view_is reach)
