use Rattle.std.proofs.Common.{◌≡◌, drop}
use Rattle.space.specs.Marking.{with_pages}
use Rattle.space.proofs.tuples.add_pages.Given as goal

-- With the pages of the births that are left, the set has as many as with all.
abbrev pub invariant-loop-birth : goal.invariant-loop-birth
invariant-loop-birth l = with_pages l.pages (drop l.birth-index l.births) ≡ with_pages l.fn.pages l.births
