use Rattle.std.proofs.Common.{◌-◌, ◌∙◌, refl, ap, sym}
use Rattle.std.proofs.lemmas.Result.{err_from_is_err_and}
use Rattle.tuple_tree.specs.Values.{datum_length}
use Rattle.tuple_text.specs.Reading.{◌>>=◌, got, begins_datum, datum, item_at, no_room, kept_with}
use Rattle.tuple_text.specs.Parts.{tuple_with}
use Rattle.tuple_text.proofs.Steps.{stops_through, stops_as, at_plain, at_ninth, at_list, at_items, opened, closed}
use Rattle.tuple_text.proofs.Steps.{items_start, further_stops, one_stops, one_more, ends, datum_empty}
use Rattle.tuple_text.proofs.reader.Reader.+value.Goals as goal

pub add_next_value-returns-then-not-opens : goal.add_next_value-returns-then-not-opens
add_next_value-returns-then-not-opens g t c =
    rw (at_plain datum_length begins_datum datum datum_empty c.args.levels c.args.self.now.rest.now (sym c.opens.ensures ∙ c.if-not-opens.true)) c.add_atom.ensures

pub add_next_value-returns-then-levels-eq0 : goal.add_next_value-returns-then-levels-eq0
add_next_value-returns-then-levels-eq0 g t c =
    ap (λ y. y >>= λ x rest. got (tuple_with c.args.tuple.now x) rest) (at_ninth datum_length begins_datum datum datum_empty c.args.levels c.args.self.now.rest.now (sym c.opens.ensures ∙ c.if-not-opens.false) c.if-levels-eq0.true)

pub add_next_value-returns-in_err-word : goal.add_next_value-returns-in_err-word
add_next_value-returns-in_err-word g t c =
    let p = err_from_is_err_and c.from_residual.result c.from_residual.ensures.1 in
    rw (p.1, p.2) (stops_through _ _ (λ x rest. got (tuple_with c.args.tuple.now x) rest) _ (stops_as _ _ _ _ (at_list datum_length begins_datum datum datum_empty c.args.levels c.args.self.now.rest.now (sym c.opens.ensures ∙ c.if-not-opens.false) c.if-levels-eq0.false)
    (stops_through _ _ (opened datum_length begins_datum datum datum_empty (c.args.levels - 1)) _ c.in_err-word.ensures)))

pub add_next_value-returns-in_err-nested : goal.add_next_value-returns-in_err-nested
add_next_value-returns-in_err-nested g t c =
    let p = err_from_is_err_and c.from_residual-in_err-nested.result c.from_residual-in_err-nested.ensures.1 in
    rw (p.1, p.2) (stops_through _ _ (λ x rest. got (tuple_with c.args.tuple.now x) rest) _ (stops_as _ _ _ _ (at_items datum_length begins_datum datum datum_empty c.args.levels _ c.args.self.now.rest.now c.word.new.self.rest.now (sym c.opens.ensures ∙ c.if-not-opens.false) c.if-levels-eq0.false c.in_ok-word.ensures)
    (stops_through _ _ (closed datum_length begins_datum datum datum_empty) _ c.in_err-nested.ensures)))

pub add_next_value-returns : goal.add_next_value-returns
add_next_value-returns g t c =
    rw (at_items datum_length begins_datum datum datum_empty c.args.levels _ c.args.self.now.rest.now c.word.new.self.rest.now (sym c.opens.ensures ∙ c.if-not-opens.false) c.if-levels-eq0.false c.in_ok-word.ensures
    ∙ ap (λ y. y >>= closed datum_length begins_datum datum datum_empty) c.in_ok-nested.ensures) c.add_closed_tuple.ensures

pub values-loop-tuple-init : goal.values-loop-tuple-init
values-loop-tuple-init g t c = items_start datum_length begins_datum datum datum_empty c.args.levels _ c.new_in.result c.args.self.now.rest.now refl c.new_in.ensures

pub values-returns-in_err-value_follows : goal.values-returns-in_err-value_follows
values-returns-in_err-value_follows g t c =
    let p = err_from_is_err_and c.from_residual.result c.from_residual.ensures.1 in
    rw (p.1, p.2) (further_stops (no_room begins_datum c.args.levels) (kept_with datum_length) (item_at datum_length begins_datum datum c.args.levels) c.loop-tuple.count c.loop-tuple.free c.loop-tuple.tuple _ c.loop-tuple.self.rest.now c.value_follows.new.self.rest.now _ c.loop-tuple.invariant c.in_err-value_follows.ensures)

pub values-returns-in_err-add_next_value : goal.values-returns-in_err-add_next_value
values-returns-in_err-add_next_value g t c =
    let p = err_from_is_err_and c.from_residual-in_err-add_next_value.result c.from_residual-in_err-add_next_value.ensures.1 in
    rw (p.1, p.2) (one_stops (no_room begins_datum c.args.levels) (kept_with datum_length) (item_at datum_length begins_datum datum c.args.levels) c.loop-tuple.count c.loop-tuple.free c.in_ok-value_follows.field-0 c.loop-tuple.tuple _ c.loop-tuple.self.rest.now c.value_follows.new.self.rest.now c.add_next_value.new.self.rest.now _
    c.loop-tuple.invariant c.in_ok-value_follows.ensures c.if-branch.true c.in_err-add_next_value.ensures)

pub values-loop-tuple-preserved : goal.values-loop-tuple-preserved
values-loop-tuple-preserved g t c =
    one_more (no_room begins_datum c.args.levels) (kept_with datum_length) (item_at datum_length begins_datum datum c.args.levels) c.loop-tuple.count c.loop-tuple.free c.in_ok-value_follows.field-0 c.loop-tuple.tuple c.add_next_value.new.tuple c.loop-tuple.self.rest.now c.value_follows.new.self.rest.now c.add_next_value.new.self.rest.now _
    c.loop-tuple.invariant c.in_ok-value_follows.ensures c.if-branch.true c.in_ok-add_next_value.ensures

pub values-returns : goal.values-returns
values-returns g t c =
    ends (no_room begins_datum c.args.levels) (kept_with datum_length) (item_at datum_length begins_datum datum c.args.levels) c.loop-tuple.count c.loop-tuple.free c.in_ok-value_follows.field-0 c.loop-tuple.tuple c.loop-tuple.self.rest.now c.value_follows.new.self.rest.now _
    c.loop-tuple.invariant c.in_ok-value_follows.ensures c.if-branch.false
