use Rattle.std.proofs.Common.{◌≡◌, All, map}
use Rattle.space_node.specs.Places.{parties_of}
use Rattle.space_node.specs.PartyStates.{IsNew}
use Rattle.space_node.proofs.cluster.new_handles.Given as goal

abbrev pub invariant-loop-end : goal.invariant-loop-end
invariant-loop-end g l = All IsNew l.handles.items × (parties_of l.handles.items ≡ map (λ e. e.state.party) l.yielded)
