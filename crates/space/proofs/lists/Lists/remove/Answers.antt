use Rattle.std.proofs.Common.{None, sym, ◌∙◌}
use Rattle.space.specs.declared.lists.Lists.{Lists}
use Rattle.space.proofs.Listed.{puts, births_unchanged}
use Rattle.space.proofs.lists.Lists.remove.Goals as goal

pub returns-then-take-clause-taken : goal.returns-then-take-clause-taken
returns-then-take-clause-taken c rising q =
    let n : Lists = record { alloc = c.take.new.self.alloc; lists = c.remove.new.self } in
    births_unchanged c.take.new.self n c.args.key None (sym (c.take.ensures.emptied c.if-take.true)) (puts c.take.new.self n c.args.key None c.remove.ensures.updates) q
    ∙ c.take.ensures.taken rising q

pub returns-then-take-clause-gone : goal.returns-then-take-clause-gone
returns-then-take-clause-gone c _ = c.remove.ensures.updates.1
