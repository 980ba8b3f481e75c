use Rattle.std.proofs.Common.{sym, ◌∙◌, arith}
use Rattle.tuple_tree.specs.Loose.{loose_slot_at}
use Rattle.tuple_tree.proofs.Seeing.{next_item, one_left, none_left}
use Rattle.tuple_tree.proofs.fields.Fields.next.Goals as goal

pub returns-then-self-eq0-clause-none : goal.returns-then-self-eq0-clause-none
returns-then-self-eq0-clause-none c = sym c.self.view_is ∙ none_left loose_slot_at c.self.inside.levels c.self.inside.count c.self.inside.bytes.now c.if-self-eq0.true

pub invariant_of-self : goal.invariant_of-self
invariant_of-self c =
    (next_item loose_slot_at c.self.inside.levels c.self.inside.count c.self.inside.bytes.now c.in-Some.rest.now _ (omega arith) c.self.invariant (c.in-Some.ensures {u = tt})).0

pub returns-in-Some-clause-some : goal.returns-in-Some-clause-some
returns-in-Some-clause-some c =
    sym c.self.view_is
    ∙ (next_item loose_slot_at c.self.inside.levels c.self.inside.count c.self.inside.bytes.now c.in-Some.rest.now _ (omega arith) c.self.invariant (c.in-Some.ensures {u = tt})).1

pub returns-in-None-clause-none : goal.returns-in-None-clause-none
returns-in-None-clause-none c =
    absurd (one_left loose_slot_at c.self.inside.levels c.self.inside.count c.self.inside.bytes.now (omega arith) c.self.invariant (c.in-None.ensures {u = tt}))
