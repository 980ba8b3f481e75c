use Rattle.std.proofs.Common.{◌≡◌, drop}
use Rattle.space.specs.Found.{without_births}
use Rattle.space.proofs.tuples.Space.remove_all.Given as goal

-- Without the births that are left, as much is gone as without all.
abbrev pub invariant-loop-birth : goal.invariant-loop-birth
invariant-loop-birth l = without_births l.self (drop l.birth-index l.births) ≡ without_births l.fn.self l.births
