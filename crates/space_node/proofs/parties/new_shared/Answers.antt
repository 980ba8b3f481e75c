use Rattle.std.proofs.Common.{◌≡◌, ◌∙◌, [], List, ap, map, sym}
use Rattle.std.proofs.lemmas.List.Elements.{All-same}
use Rattle.journal.specs.Histories.{correct_parties, correct_replicas}
use Rattle.journal.specs.Parts.{Part}
use Rattle.space_node.specs.Places.{clients_among, replicas_among}
use Rattle.space_node.proofs.NewHandles.{all_clients, all_replicas, parties_fresh}
use Rattle.space_node.proofs.NewParties.{all_fresh}
use Rattle.space_node.proofs.parties.new_shared.Goals as goal

pub new_parties-requires-clause-new : goal.new_parties-requires-clause-new
new_parties-requires-clause-new g c =
    All-same (λ (s : Part). s.history ≡ []) c.in_ok-journal.shares.items _ c.in_ok-journal.ensures.opens.shares_are (all_fresh _)

pub new_parties-requires-clause-new_orders : goal.new_parties-requires-clause-new_orders
new_parties-requires-clause-new_orders g c =
    All-same (λ (s : Part). s.history ≡ []) c.in_ok-journal.orders.items _ c.in_ok-journal.ensures.opens.orders_are (all_fresh _)

pub new_parties-requires-clause-orders_are : goal.new_parties-requires-clause-orders_are
new_parties-requires-clause-orders_are g c =
    let config = c.args.config.now in
    ap (map (λ (o : Part). o.party)) c.in_ok-journal.ensures.opens.orders_are
    ∙ (parties_fresh (correct_replicas config)
    ∙ (sym (all_replicas config c.requires.valid)
    ∙ ap replicas_among (sym (parties_fresh (correct_parties config)) ∙ ap (map (λ (s : Part). s.party)) (sym c.in_ok-journal.ensures.opens.shares_are))))

pub returns : goal.returns
returns g c =
    let config = c.args.config.now in
    c.in_ok-nodes.ensures
    ∙ (ap (λ (shares : List Part). clients_among (map (λ (s : Part). s.party) shares)) c.in_ok-journal.ensures.opens.shares_are
    ∙ (ap clients_among (parties_fresh (correct_parties config)) ∙ all_clients config c.requires.valid c.requires.clients))
