use Rattle.space_node.specs.Calls.{CallGoesOn}
use Rattle.space_node.proofs.handle.wait_answer.Given as goal

abbrev pub invariant-loop : goal.invariant-loop
invariant-loop g l =
    (goal.iterator-loop g).can_next l.iterator' × (goal.iterator-loop g).is_finite l.iterator' × CallGoesOn l.initial.state l.state
