use Rattle.std.proofs.Common.{◌∙◌, ap, arith}
use Rattle.tuple_tree.specs.Items.{none, with_last}
use Rattle.tuple_tree.specs.Reading.{rest_of, item_at, inner_at}
use Rattle.tuple_tree.specs.Loose.{loose_slot_at}
use Rattle.tuple_tree.proofs.Steps.{at_five, no_levels}
use Rattle.tuple_tree.proofs.Skipping.{skip_five, skip_goes_on}
use Rattle.tuple_tree.proofs.skip.+skip_fields.Goals as goal

pub skip_field-returns-then-levels-eq0 : goal.skip_field-returns-then-levels-eq0
skip_field-returns-then-levels-eq0 t c =
    ap rest_of (at_five loose_slot_at c.args.levels _ _ _ c.in_ok-tag.ensures c.if-tag-ne5.false ∙ ap (λ n. inner_at loose_slot_at n c.in_ok-tag.rest.now) c.if-levels-eq0.true ∙ no_levels loose_slot_at c.in_ok-tag.rest.now)

pub skip_field-returns : goal.skip_field-returns
skip_field-returns t c = rw (skip_five loose_slot_at c.args.levels _ _ _ c.in_ok-tag.ensures c.if-tag-ne5.false (omega arith)) c.skip_fields.ensures

pub skip_fields-loop-i-preserved : goal.skip_fields-loop-i-preserved
skip_fields-loop-i-preserved t c = skip_goes_on (item_at loose_slot_at c.args.levels) with_last _ _ none _ _ (omega arith) c.in_ok-rest.ensures ∙ c.loop-i.invariant
