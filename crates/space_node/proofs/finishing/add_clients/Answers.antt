use Rattle.std.proofs.Common.{arith, rules, ◌≡◌, ◌≤◌, ◌+◌, length, List, [], ◌∷◌, ◌++◌, false, true, map, take, subst}
use Rattle.std.proofs.lemmas.List.{take_all}
use Rattle.terms.specs.Parties.{party_number}
use Rattle.space_node.specs.Runs.{ClientsArePrompt, stopped_of}
use Rattle.space_node.specs.PartyStates.{PartyState}
use Rattle.space_node.proofs.Stopped.{clients_prompt, none_named, none_yet, one_named}
use Rattle.space_node.proofs.finishing.add_clients.Goals as goal
use Rattle.space_node.proofs.finishing.add_clients.Goals.{then-is_stopped+in_ok-push, else-is_stopped}

pub loop-client-init : goal.loop-client-init
loop-client-init g c = (search rules, none_yet (map party_number c.args.stopped.now.items) c.args.clients.now)

pub loop-client-preserved : goal.loop-client-preserved
loop-client-preserved g c =
    let clients = c.args.clients.now in
    let start = map party_number c.args.stopped.now.items in
    let i = c.loop-client.client-index in
    let client = c.client-item.result in
    let before = c.loop-client.stopped.items in
    let after = c.if-is_stopped.stopped.items in
    let named : map party_number after ≡ start ++ stopped_of (take (i + 1) clients) =
    elim c.if-is_stopped.branch [
      | then-is_stopped+in_ok-push w ↦
          let more : after ≡ before ++ w.party.result ∷ [] = search rules in
          let off : client.stopped ≡ true = search rules in
          one_named start before after clients i client c.loop-client-test.true c.client-item.is c.loop-client.invariant.1 w.party.result off more w.party.ensures
      | else-is_stopped w ↦
          let same : after ≡ before = search rules in
          let on : client.stopped ≡ false = search rules in
          none_named start before after clients i client c.loop-client-test.true c.client-item.is c.loop-client.invariant.1 on same
    ] in
    (clients_prompt g.N.Naming.config clients i client c.loop-client-test.true c.client-item.is c.is_stopped.ensures.prompt c.loop-client.invariant.0, named)

pub returns-clause-prompt : goal.returns-clause-prompt
returns-clause-prompt g c =
    let all : length c.args.clients.now ≤ c.loop-client.client-index = omega arith in
    subst (ClientsArePrompt g.N.Naming.config) (take_all c.loop-client.client-index c.args.clients.now all) c.loop-client.invariant.0

pub returns-clause-named : goal.returns-clause-named
returns-clause-named g c =
    let all : length c.args.clients.now ≤ c.loop-client.client-index = omega arith in
    subst (λ (states : List PartyState). map party_number c.loop-client.stopped.items ≡ map party_number c.args.stopped.now.items ++ stopped_of states)
    (take_all c.loop-client.client-index c.args.clients.now all) c.loop-client.invariant.1
