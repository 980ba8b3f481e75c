use Rattle.std.proofs.Common.{◌∙◌, sym, arith}
use Rattle.wire_format.specs.Lists.{listed}
use Rattle.wire.proofs.InPlace.{over_here, no_change, disorder, over_goes_on, over_done}
use Rattle.wire.proofs.oversize.is_one_over.Goals as goal

pub returns-then-is_size_over : goal.returns-then-is_size_over
returns-then-is_size_over c =
    sym (sym c.loop-i.invariant ∙ over_here _ _ (listed (λ x. x.now) c.loop-i.last) c.loop-i.rest.now (omega arith) (sym c.is_size_over.ensures ∙ c.if-is_size_over.true))

pub returns-in_default : goal.returns-in_default
returns-in_default c =
    sym (sym c.loop-i.invariant
    ∙ no_change _ _ (listed (λ x. x.now) c.loop-i.last) c.loop-i.rest.now (omega arith) (sym c.is_size_over.ensures ∙ c.if-is_size_over.false) c.in_default.ensures)

pub returns-then-not-change_comes_next : goal.returns-then-not-change_comes_next
returns-then-not-change_comes_next c =
    sym (sym c.loop-i.invariant
    ∙ disorder _ _ (listed (λ x. x.now) c.loop-i.last) c.loop-i.rest.now (omega arith) c.in-Some.change.now c.in-Some.after.now (sym c.is_size_over.ensures ∙ c.if-is_size_over.false) c.in-Some.ensures
    (sym c.change_comes_next.ensures ∙ c.if-not-change_comes_next.true))

pub loop-i-preserved : goal.loop-i-preserved
loop-i-preserved c =
    over_goes_on _ _ (listed (λ x. x.now) c.loop-i.last) c.loop-i.rest.now (omega arith) c.in-Some.change.now c.in-Some.after.now (sym c.is_size_over.ensures ∙ c.if-is_size_over.false) c.in-Some.ensures
    (sym c.change_comes_next.ensures ∙ c.if-not-change_comes_next.false)
    ∙ c.loop-i.invariant

pub returns : goal.returns
returns c = sym (sym c.loop-i.invariant ∙ over_done _ _ (listed (λ x. x.now) c.loop-i.last) c.loop-i.rest.now (omega arith))
