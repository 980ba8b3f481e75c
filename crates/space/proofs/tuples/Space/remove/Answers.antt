use Rattle.std.proofs.Common.{sym}
use Rattle.space.proofs.Storing.{taken_counted, IsIndexed-taken}
use Rattle.space.proofs.tuples.Space.remove.Goals as goal

pub overflow_sub-self : goal.overflow_sub-self
overflow_sub-self c =
    taken_counted c.self.inside.version c.self.inside.tuples.entries c.self.inside.next c.self.inside.page_counts c.self.inside.index c.self.invariant c.args.birth c.in-Some.tuple (sym c.in-Some.ensures.value)

pub invariant_of-self : goal.invariant_of-self
invariant_of-self c =
    IsIndexed-taken c.self.inside.version c.self.inside.tuples.entries c.self.inside.next c.self.inside.page_counts c.self.inside.index c.self.invariant c.args.birth c.in-Some.tuple (sym c.in-Some.ensures.value)
    c.remove.new.self.entries c.remove-in-Some.new.self c.self.told c.in-Some.ensures.entries c.remove-in-Some.ensures
