use Rattle.std.proofs.Common.{◌+◌}
use Rattle.orderer.specs.Multicasting.{MulticastsAlso, row_place}
use Rattle.orderer.proofs.Again.{OutputsHaveRows}
use Rattle.orderer.proofs.orderer.Orderer.multicast_again.Given as goal

abbrev pub invariant-loop-number : goal.invariant-loop-number
invariant-loop-number l = MulticastsAlso 0 (row_place l.number) (OutputsHaveRows (l.fn.executed.0 + 1) l.number) l.fn.self l.fn.outputs.items l.self l.outputs.items
