use Rattle.std.proofs.Common.{◌≡◌, ◌++◌}
use Rattle.space.proofs.stored.Stored.of.Given as goal

-- the stored entries, and those that are left
abbrev pub invariant-loop-birth : goal.invariant-loop-birth
invariant-loop-birth l = l.stored.entries ++ l.birth-iterator ≡ l.fn.tuples.entries
