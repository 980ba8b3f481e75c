use Rattle.std.proofs.Common.{map}
use Rattle.std.specs.Map.Iter.{deref_pair}
use Rattle.space.specs.Filing.{IsIndexOf}
use Rattle.space.proofs.index.Index.of.Given as goal

-- the index of the tuples so far
abbrev pub invariant-loop-birth : goal.invariant-loop-birth
invariant-loop-birth l = IsIndexOf l.index (map deref_pair l.yielded)
