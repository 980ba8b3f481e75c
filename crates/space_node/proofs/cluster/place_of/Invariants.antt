use Rattle.std.proofs.Common.{◌≡◌, ◌+◌, All, take}
use Rattle.space_node.specs.PartyStates.{PartyState}
use Rattle.space_node.proofs.cluster.place_of.Given as goal

-- it is none of those before
abbrev pub invariant-loop-at : goal.invariant-loop-at
invariant-loop-at g l = All (λ (s : PartyState). ¬ (s.party ≡ 256 + l.number)) (take l.at l.handles)
