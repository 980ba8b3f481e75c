use Rattle.space_node.specs.Drills.{replicas_of}
use Rattle.space_node.proofs.Drilled.{AreDrilled}
use Rattle.space_node.proofs.drill.is_drilled.Given as goal

abbrev pub invariant-loop-number : goal.invariant-loop-number
invariant-loop-number l = AreDrilled l.config.faulty_replicas (replicas_of l.drills) l.number
