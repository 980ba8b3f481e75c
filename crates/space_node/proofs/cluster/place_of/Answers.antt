use Rattle.std.proofs.Common.{arith, ◌≡◌, ◌+◌, ◌≤◌, All, length, subst}
use Rattle.std.proofs.lemmas.List.{take_all}
use Rattle.space_node.specs.PartyStates.{PartyState}
use Rattle.space_node.proofs.Handing.{none_there}
use Rattle.space_node.proofs.cluster.place_of.Goals as goal

pub returns : goal.returns
returns g c =
    let handles = c.args.handles.now in
    let all : length handles ≤ c.loop-at.at = omega arith in
    none_there handles (256 + c.args.number) (subst (All (λ (s : PartyState). ¬ (s.party ≡ 256 + c.args.number))) (take_all c.loop-at.at handles all) c.loop-at.invariant)
