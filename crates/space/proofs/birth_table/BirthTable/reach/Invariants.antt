use Rattle.std.proofs.Common.{◌+◌, ◌-◌}
use Rattle.std.specs.Prelude.{vec_len}
use Rattle.space.specs.Filing.{KeepsTable}
use Rattle.space.proofs.birth_table.BirthTable.reach.Given as goal

-- listed births stay listed
abbrev pub invariant-loop-self : goal.invariant-loop-self
invariant-loop-self l = KeepsTable l.fn.self l.self

abbrev pub decreases-loop-self : goal.decreases-loop-self
decreases-loop-self l = l.number + 1 - vec_len l.self.lists
