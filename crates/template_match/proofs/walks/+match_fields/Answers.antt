use Rattle.std.proofs.Common.{sym, ◌∙◌, arith}
use Rattle.template_match.proofs.TwoWalking.{both_goes_on, both_fails, both_ends, nested_is, no_nested, without_levels}
use Rattle.template_match.proofs.TwoWalking.{without_count, over_count}
use Rattle.template_match.proofs.walks.+match_fields.Goals as goal

pub match_fields-returns-in_default : goal.match_fields-returns-in_default
match_fields-returns-in_default t c =
    sym c.loop-i.invariant ∙ both_fails c.args.levels c.args.count c.loop-i._i c.loop-i.open.now c.loop-i.rest.now (omega arith) (c.in_default.ensures {u = tt})

pub match_fields-loop-i-preserved : goal.match_fields-loop-i-preserved
match_fields-loop-i-preserved t c =
    both_goes_on c.args.levels c.args.count c.loop-i._i c.loop-i.open.now c.loop-i.rest.now c.in-Some.after.now c.in-Some.behind.now (omega arith) (c.in-Some.ensures {u = tt})
    ∙ c.loop-i.invariant

pub match_fields-returns : goal.match_fields-returns
match_fields-returns t c = sym c.loop-i.invariant ∙ both_ends c.args.levels c.args.count c.loop-i._i c.loop-i.open.now c.loop-i.rest.now (omega arith)

pub match_nested-returns-then-levels-eq0 : goal.match_nested-returns-then-levels-eq0
match_nested-returns-then-levels-eq0 t c = no_nested c.args.levels c.args.fields.now c.args.values.now (without_levels c.args.levels c.args.fields.now c.if-levels-eq0.true)

pub match_nested-returns-in_default : goal.match_nested-returns-in_default
match_nested-returns-in_default t c =
    no_nested c.args.levels c.args.fields.now c.args.values.now (without_count c.args.levels c.args.fields.now (omega arith) (c.in_default.ensures {u = tt}))

pub match_nested-returns-then-count-gt-MAX_FIELDS : goal.match_nested-returns-then-count-gt-MAX_FIELDS
match_nested-returns-then-count-gt-MAX_FIELDS t c =
    no_nested c.args.levels c.args.fields.now c.args.values.now (over_count c.args.levels c.in-Some.count c.args.fields.now c.in-Some.nested.now (omega arith) (c.in-Some.ensures {u = tt}) (omega arith))

pub match_nested-returns-in-Some-strip_behind : goal.match_nested-returns-in-Some-strip_behind
match_nested-returns-in-Some-strip_behind t c =
    rw (nested_is c.args.levels c.in-Some.count c.args.fields.now c.in-Some.nested.now c.args.values.now _ (omega arith) (c.in-Some.ensures {u = tt}) (omega arith) (c.in-Some-strip_behind.ensures {u = tt}))
    c.match_fields.ensures

pub match_nested-returns-in-None : goal.match_nested-returns-in-None
match_nested-returns-in-None t c =
    nested_is c.args.levels c.in-Some.count c.args.fields.now c.in-Some.nested.now c.args.values.now _ (omega arith) (c.in-Some.ensures {u = tt}) (omega arith) (c.in-None.ensures {u = tt})
