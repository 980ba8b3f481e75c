use Rattle.std.proofs.Common.{◌≡◌, ◌+◌, ◌-◌, max, Some, ap, sym, ◌∙◌, arith}
use Rattle.tuple_tree.specs.Values.{is_wide_slot}
use Rattle.tuple_tree.specs.Reading.{◌>>=◌, slot_at}
use Rattle.tuple_tree.specs.Judging.{items_judged}
use Rattle.tuple_tree.proofs.Telling.{combine, goes_on, one_fails, ends, no_tag, leaf_told, then_nested, without_levels}
use Rattle.tuple_tree.proofs.Telling.{nested_told, no_count, many, few}
use Rattle.tuple_tree.proofs.judging.+judge_template.Goals as goal

pub judge_fields-returns-in_default-clause-gives : goal.judge_fields-returns-in_default-clause-gives
judge_fields-returns-in_default-clause-gives t c =
    sym c.loop-i.invariant.judged ∙ one_fails is_wide_slot slot_at c.args.levels c.args.count c.loop-i._i c.loop-i.below c.loop-i.wide c.loop-i.rest.now (omega arith) (c.in_default.ensures {u = tt}).gives

pub judge_fields-loop-i-preserved : goal.judge_fields-loop-i-preserved
judge_fields-loop-i-preserved t c =
    let k = c.in-Some.ensures {u = tt} in
    let m : c.max-below.result ≡ max c.loop-i.below c.in-Some.depth = omega (arith, c.max-below.ensures) in
    record {
      judged =
          ap (λ n. combine n c.either-wide.result (items_judged is_wide_slot slot_at c.args.levels (c.args.count - (c.loop-i._i + 1)) c.in-Some.after.now)) m
          ∙ ap (λ b. combine (max c.loop-i.below c.in-Some.depth) b (items_judged is_wide_slot slot_at c.args.levels (c.args.count - (c.loop-i._i + 1)) c.in-Some.after.now)) c.either-wide.ensures
          ∙ goes_on is_wide_slot slot_at c.args.levels c.args.count c.loop-i._i c.loop-i.below c.in-Some.depth c.loop-i.wide c.in-Some.has_wide c.loop-i.rest.now c.in-Some.after.now (omega arith) k.gives
          ∙ c.loop-i.invariant.judged;
      bound = omega (arith, m, k.bound, c.loop-i.invariant.bound);
    }

pub judge_fields-returns-clause-gives : goal.judge_fields-returns-clause-gives
judge_fields-returns-clause-gives t c =
    sym c.loop-i.invariant.judged ∙ ends is_wide_slot slot_at c.args.levels c.args.count c.loop-i._i c.loop-i.below c.loop-i.wide c.loop-i.rest.now (omega arith)

pub judge_template-returns-in_default-clause-gives : goal.judge_template-returns-in_default-clause-gives
judge_template-returns-in_default-clause-gives t c = no_count is_wide_slot slot_at c.args.levels c.args.bytes.now (c.in_default.ensures {u = tt})

pub judge_template-returns-then-count-gt-MAX_FIELDS-clause-gives : goal.judge_template-returns-then-count-gt-MAX_FIELDS-clause-gives
judge_template-returns-then-count-gt-MAX_FIELDS-clause-gives t c = many is_wide_slot slot_at c.args.levels c.in-Some.count c.args.bytes.now c.in-Some.fields.now (c.in-Some.ensures {u = tt}) (omega arith)

pub judge_template-returns-clause-gives : goal.judge_template-returns-clause-gives
judge_template-returns-clause-gives t c =
    rw (sym (few is_wide_slot slot_at c.args.levels c.in-Some.count c.args.bytes.now c.in-Some.fields.now (c.in-Some.ensures {u = tt}) (omega arith))) c.judge_fields.ensures.gives

pub judge_field-returns-in_default-clause-gives : goal.judge_field-returns-in_default-clause-gives
judge_field-returns-in_default-clause-gives t c = no_tag is_wide_slot slot_at c.args.levels c.args.bytes.now (c.in_default.ensures {u = tt})

pub judge_field-returns-in-Some-judge_slot-clause-gives : goal.judge_field-returns-in-Some-judge_slot-clause-gives
judge_field-returns-in-Some-judge_slot-clause-gives t c =
    leaf_told is_wide_slot slot_at c.args.levels c.in-Some.tag c.args.bytes.now c.in-Some.rest.now (c.in-Some.ensures {u = tt}) c.if-tag-ne5.true
    ∙ ap (λ o. o >>= λ x. Some (0, x.0, x.1)) (c.in-Some-judge_slot.ensures {u = tt})

pub judge_field-returns-in-None-clause-gives : goal.judge_field-returns-in-None-clause-gives
judge_field-returns-in-None-clause-gives t c =
    leaf_told is_wide_slot slot_at c.args.levels c.in-Some.tag c.args.bytes.now c.in-Some.rest.now (c.in-Some.ensures {u = tt}) c.if-tag-ne5.true
    ∙ ap (λ o. o >>= λ x. Some (0, x.0, x.1)) (c.in-None.ensures {u = tt})

pub judge_field-returns-then-levels-eq0-clause-gives : goal.judge_field-returns-then-levels-eq0-clause-gives
judge_field-returns-then-levels-eq0-clause-gives t c =
    without_levels is_wide_slot slot_at c.args.levels c.in-Some.tag c.args.bytes.now c.in-Some.rest.now (c.in-Some.ensures {u = tt}) c.if-tag-ne5.false c.if-levels-eq0.true

pub judge_field-returns-in-Some-judge_template-clause-gives : goal.judge_field-returns-in-Some-judge_template-clause-gives
judge_field-returns-in-Some-judge_template-clause-gives t c =
    nested_told is_wide_slot slot_at c.args.levels c.in-Some.tag c.args.bytes.now c.in-Some.rest.now (c.in-Some.ensures {u = tt}) c.if-tag-ne5.false (omega arith)
    ∙ ap then_nested (c.in-Some-judge_template.ensures {u = tt}).gives

pub judge_field-returns-in-None-judge_template-clause-gives : goal.judge_field-returns-in-None-judge_template-clause-gives
judge_field-returns-in-None-judge_template-clause-gives t c =
    nested_told is_wide_slot slot_at c.args.levels c.in-Some.tag c.args.bytes.now c.in-Some.rest.now (c.in-Some.ensures {u = tt}) c.if-tag-ne5.false (omega arith)
    ∙ ap then_nested (c.in-None-judge_template.ensures {u = tt}).gives
