use Rattle.std.proofs.Common.{rules, List, map, reverse, subst}
use Rattle.terms.specs.Parties.{party_number}
use Rattle.space_node.specs.Runs.{AreNamed, HasHistories}
use Rattle.space_node.specs.PartyStates.{PartyState}
use Rattle.space_node.proofs.Finished.{finished}
use Rattle.space_node.proofs.finishing.finish_run.Goals as goal

pub returns-in-None-None-clause-finished : goal.returns-in-None-None-clause-finished
returns-in-None-None-clause-finished g c =
    let clients = c.args.clients.now in
    let stopped = map party_number c.in-Ok.stopped.items in
    let has_shares : HasHistories c.args.journal.now.trace c.args.shares.items = search rules in
    let has_clients : HasHistories c.args.journal.now.trace clients = search rules in
    let named : AreNamed stopped c.args.shares.items clients =
    subst (λ (states : List PartyState). AreNamed stopped states clients) c.as_slice-2.ensures.value c.in-Ok.ensures.named in
    finished g.N.Naming.config c.args.journal.now.trace (reverse c.take.result.items) c.args.shares.items stopped clients
    c.carried_is_unforged.ensures.unforged c.points_are_linear.ensures.points c.requires.valid c.requires.replicas_are c.take.ensures.trace
    c.take.ensures.run c.take.ensures.carried has_shares has_clients c.requires.prompt c.in-Ok.ensures.prompt named
