use Rattle.std.proofs.Common.{[], sym, ◌∙◌, arith}
use Rattle.template_match.specs.Tests.{is_match}
use Rattle.template_match.proofs.BothWalks.{both_walk, some_both, no_both}
use Rattle.template_match.proofs.Fronts.{other_front, same_front}
use Rattle.template_match.proofs.Walking.{other_count}
use Rattle.template_match.proofs.walks_match.Goals as goal

pub returns-then-len : goal.returns-then-len
returns-then-len g c = sym (other_count c.args.template.now c.args.tuple.now (λ m. absurd (omega (arith, m, c.len.ensures.value, c.len-2.ensures.value))))

pub returns-in_default : goal.returns-in_default
returns-in_default g c =
    sym (other_front c.args.template.now c.args.tuple.now c.fixed_bytes.result.now c.bytes-values.result.now c.fixed_bytes.ensures.valid c.bytes-values.ensures.valid (omega (arith, c.len.ensures.value, c.len-2.ensures.value)) c.fixed_bytes.ensures.value c.bytes-values.ensures.value
    (c.in_default.ensures {u = tt}))

pub returns-then-is_fixed : goal.returns-then-is_fixed
returns-then-is_fixed g c =
    sym (same_front c.args.template.now c.args.tuple.now c.fixed_bytes.result.now c.bytes-values.result.now c.in-Some.field-0.now c.fixed_bytes.ensures.valid c.bytes-values.ensures.valid (omega (arith, c.len.ensures.value, c.len-2.ensures.value)) c.fixed_bytes.ensures.value c.bytes-values.ensures.value
    (c.is_fixed.ensures.0 c.if-is_fixed.true) (c.in-Some.ensures {u = tt}))

pub returns-in-Some-match_fields : goal.returns-in-Some-match_fields
returns-in-Some-match_fields g c =
    let w = both_walk c.args.template.now c.args.tuple.now c.len-3.result c.bytes.result.now c.bytes-values.result.now c.bytes.ensures.valid c.bytes-values.ensures.valid c.len-3.ensures.value (omega (arith, c.len.ensures.value, c.len-2.ensures.value, c.len-3.ensures.value)) c.bytes.ensures.value c.bytes-values.ensures.value in
    sym (some_both (is_match c.args.template.now c.args.tuple.now) ([], []) _ (sym w ∙ c.in-Some-match_fields.ensures {u = tt}))

pub returns-in-None : goal.returns-in-None
returns-in-None g c =
    let w = both_walk c.args.template.now c.args.tuple.now c.len-3.result c.bytes.result.now c.bytes-values.result.now c.bytes.ensures.valid c.bytes-values.ensures.valid c.len-3.ensures.value (omega (arith, c.len.ensures.value, c.len-2.ensures.value, c.len-3.ensures.value)) c.bytes.ensures.value c.bytes-values.ensures.value in
    sym (no_both (is_match c.args.template.now c.args.tuple.now) ([], []) (sym w ∙ c.in-None.ensures {u = tt}))
