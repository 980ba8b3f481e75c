use Rattle.std.proofs.Common.{arith, rules, ◌≡◌, ◌≤◌, length, List, [], ◌∷◌, ◌++◌, false, true, map, subst}
use Rattle.std.proofs.lemmas.List.{take_all}
use Rattle.terms.specs.Parties.{party_number}
use Rattle.space_node.specs.Runs.{stopped_of}
use Rattle.space_node.specs.PartyStates.{PartyState}
use Rattle.space_node.proofs.Stopped.{none_named, none_yet, one_named}
use Rattle.space_node.proofs.finishing.add_replicas.Goals as goal
use Rattle.space_node.proofs.finishing.add_replicas.Goals.{then-is_stopped+in_ok-push, else-is_stopped}

pub loop-share-init : goal.loop-share-init
loop-share-init g c = none_yet (map party_number c.args.stopped.now.items) c.args.shares.now

pub loop-share-preserved : goal.loop-share-preserved
loop-share-preserved g c =
    let shares = c.args.shares.now in
    let start = map party_number c.args.stopped.now.items in
    let i = c.loop-share.share-index in
    let share = c.share-item.result in
    let before = c.loop-share.stopped.items in
    let after = c.if-is_stopped.stopped.items in
    elim c.if-is_stopped.branch [
      | then-is_stopped+in_ok-push w ↦
          let more : after ≡ before ++ w.party.result ∷ [] = search rules in
          let off : share.stopped ≡ true = search rules in
          one_named start before after shares i share c.loop-share-test.true c.share-item.is c.loop-share.invariant w.party.result off more w.party.ensures
      | else-is_stopped w ↦
          let same : after ≡ before = search rules in
          let on : share.stopped ≡ false = search rules in
          none_named start before after shares i share c.loop-share-test.true c.share-item.is c.loop-share.invariant on same
    ]

pub returns : goal.returns
returns g c =
    let all : length c.args.shares.now ≤ c.loop-share.share-index = omega arith in
    subst (λ (states : List PartyState). map party_number c.loop-share.stopped.items ≡ map party_number c.args.stopped.now.items ++ stopped_of states)
    (take_all c.loop-share.share-index c.args.shares.now all) c.loop-share.invariant
