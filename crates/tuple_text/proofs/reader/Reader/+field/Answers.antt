use Rattle.std.proofs.Common.{◌-◌, ◌∙◌, refl, ap, sym}
use Rattle.std.proofs.lemmas.Result.{err_from_is_err_and}
use Rattle.tuple_tree.specs.Values.{slot_length}
use Rattle.tuple_text.specs.Reading.{◌>>=◌, got, begins_slot, slot, item_at, no_room, kept_with}
use Rattle.tuple_text.specs.Parts.{template_with}
use Rattle.tuple_text.proofs.Steps.{stops_through, stops_as, at_plain, at_ninth, at_list, at_items, opened, closed}
use Rattle.tuple_text.proofs.Steps.{items_start, further_stops, one_stops, one_more, ends, slot_empty}
use Rattle.tuple_text.proofs.reader.Reader.+field.Goals as goal

pub add_next_field-returns-then-not-opens : goal.add_next_field-returns-then-not-opens
add_next_field-returns-then-not-opens g t c =
    rw (at_plain slot_length begins_slot slot slot_empty c.args.levels c.args.self.now.rest.now (sym c.opens.ensures ∙ c.if-not-opens.true)) c.add_plain_field.ensures

pub add_next_field-returns-then-levels-eq0 : goal.add_next_field-returns-then-levels-eq0
add_next_field-returns-then-levels-eq0 g t c =
    ap (λ y. y >>= λ x rest. got (template_with c.args.template.now x) rest) (at_ninth slot_length begins_slot slot slot_empty c.args.levels c.args.self.now.rest.now (sym c.opens.ensures ∙ c.if-not-opens.false) c.if-levels-eq0.true)

pub add_next_field-returns-in_err-word : goal.add_next_field-returns-in_err-word
add_next_field-returns-in_err-word g t c =
    let p = err_from_is_err_and c.from_residual.result c.from_residual.ensures.1 in
    rw (p.1, p.2) (stops_through _ _ (λ x rest. got (template_with c.args.template.now x) rest) _ (stops_as _ _ _ _ (at_list slot_length begins_slot slot slot_empty c.args.levels c.args.self.now.rest.now (sym c.opens.ensures ∙ c.if-not-opens.false) c.if-levels-eq0.false)
    (stops_through _ _ (opened slot_length begins_slot slot slot_empty (c.args.levels - 1)) _ c.in_err-word.ensures)))

pub add_next_field-returns-in_err-nested : goal.add_next_field-returns-in_err-nested
add_next_field-returns-in_err-nested g t c =
    let p = err_from_is_err_and c.from_residual-in_err-nested.result c.from_residual-in_err-nested.ensures.1 in
    rw (p.1, p.2) (stops_through _ _ (λ x rest. got (template_with c.args.template.now x) rest) _ (stops_as _ _ _ _ (at_items slot_length begins_slot slot slot_empty c.args.levels _ c.args.self.now.rest.now c.word.new.self.rest.now (sym c.opens.ensures ∙ c.if-not-opens.false) c.if-levels-eq0.false c.in_ok-word.ensures)
    (stops_through _ _ (closed slot_length begins_slot slot slot_empty) _ c.in_err-nested.ensures)))

pub add_next_field-returns : goal.add_next_field-returns
add_next_field-returns g t c =
    rw (at_items slot_length begins_slot slot slot_empty c.args.levels _ c.args.self.now.rest.now c.word.new.self.rest.now (sym c.opens.ensures ∙ c.if-not-opens.false) c.if-levels-eq0.false c.in_ok-word.ensures
    ∙ ap (λ y. y >>= closed slot_length begins_slot slot slot_empty) c.in_ok-nested.ensures) c.add_closed_template.ensures

pub fields-loop-template-init : goal.fields-loop-template-init
fields-loop-template-init g t c = items_start slot_length begins_slot slot slot_empty c.args.levels _ c.new_in.result c.args.self.now.rest.now refl c.new_in.ensures

pub fields-returns-in_err-field_follows : goal.fields-returns-in_err-field_follows
fields-returns-in_err-field_follows g t c =
    let p = err_from_is_err_and c.from_residual.result c.from_residual.ensures.1 in
    rw (p.1, p.2) (further_stops (no_room begins_slot c.args.levels) (kept_with slot_length) (item_at slot_length begins_slot slot c.args.levels) c.loop-template.count c.loop-template.free c.loop-template.template _ c.loop-template.self.rest.now c.field_follows.new.self.rest.now _ c.loop-template.invariant c.in_err-field_follows.ensures)

pub fields-returns-in_err-add_next_field : goal.fields-returns-in_err-add_next_field
fields-returns-in_err-add_next_field g t c =
    let p = err_from_is_err_and c.from_residual-in_err-add_next_field.result c.from_residual-in_err-add_next_field.ensures.1 in
    rw (p.1, p.2) (one_stops (no_room begins_slot c.args.levels) (kept_with slot_length) (item_at slot_length begins_slot slot c.args.levels) c.loop-template.count c.loop-template.free c.in_ok-field_follows.field-0 c.loop-template.template _ c.loop-template.self.rest.now c.field_follows.new.self.rest.now c.add_next_field.new.self.rest.now _
    c.loop-template.invariant c.in_ok-field_follows.ensures c.if-branch.true c.in_err-add_next_field.ensures)

pub fields-loop-template-preserved : goal.fields-loop-template-preserved
fields-loop-template-preserved g t c =
    one_more (no_room begins_slot c.args.levels) (kept_with slot_length) (item_at slot_length begins_slot slot c.args.levels) c.loop-template.count c.loop-template.free c.in_ok-field_follows.field-0 c.loop-template.template c.add_next_field.new.template c.loop-template.self.rest.now c.field_follows.new.self.rest.now c.add_next_field.new.self.rest.now _
    c.loop-template.invariant c.in_ok-field_follows.ensures c.if-branch.true c.in_ok-add_next_field.ensures

pub fields-returns : goal.fields-returns
fields-returns g t c =
    ends (no_room begins_slot c.args.levels) (kept_with slot_length) (item_at slot_length begins_slot slot c.args.levels) c.loop-template.count c.loop-template.free c.in_ok-field_follows.field-0 c.loop-template.template c.loop-template.self.rest.now c.field_follows.new.self.rest.now _
    c.loop-template.invariant c.in_ok-field_follows.ensures c.if-branch.false
