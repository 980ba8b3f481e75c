use Rattle.std.proofs.Common.{◌∙◌, ◌+◌, ◌-◌, [], ◌∷◌, ◌++◌, ap, sym, arith, rules, append_assoc, append-nil}
use Rattle.std.proofs.lemmas.Result.{err_from_is_err_and}
use Rattle.tuple_tree.specs.Reading.{rest_of}
use Rattle.tuple_text.specs.Walks.{spelled_field_at, spelled_fields_at, field_written, others_written, IsThere, text_of}
use Rattle.tuple_text.proofs.FieldTexts.{first_there, further, none_left, field_length, slot_read, nested_read}
use Rattle.tuple_text.proofs.Writing.{one_more, nothing_left, error_behind, error_second, second_part}
use Rattle.tuple_text.proofs.fields.+put_list.Goals as goal

pub put_field-first_byte-tag-requires : goal.put_field-first_byte-tag-requires
put_field-first_byte-tag-requires g t c = field_length c.args.levels c.args.bytes.now c.requires

pub put_field-put_slot-requires : goal.put_field-put_slot-requires
put_field-put_slot-requires g t c = (slot_read c.args.levels _ _ _ c.requires c.first_byte-tag.ensures c.if-tag-ne5.true).there

pub put_field-returns-then-tag-ne5-clause-text : goal.put_field-returns-then-tag-ne5-clause-text
put_field-returns-then-tag-ne5-clause-text g t c =
    let r = slot_read c.args.levels _ _ _ c.requires c.first_byte-tag.ensures c.if-tag-ne5.true in
    rw r.same c.put_slot.ensures.text

pub put_field-returns-then-tag-ne5-clause-rest : goal.put_field-returns-then-tag-ne5-clause-rest
put_field-returns-then-tag-ne5-clause-rest g t c =
    let r = slot_read c.args.levels _ _ _ c.requires c.first_byte-tag.ensures c.if-tag-ne5.true in
    rw r.rest c.put_slot.ensures.rest

pub put_field-first_byte-count-requires : goal.put_field-first_byte-count-requires
put_field-first_byte-count-requires g t c = (nested_read c.args.levels _ _ _ c.requires c.first_byte-tag.ensures c.if-tag-ne5.false).some

pub put_field-overflow_sub-levels : goal.put_field-overflow_sub-levels
put_field-overflow_sub-levels g t c = (nested_read c.args.levels _ _ _ c.requires c.first_byte-tag.ensures c.if-tag-ne5.false).deep

pub put_field-put_list-requires : goal.put_field-put_list-requires
put_field-put_list-requires g t c =
    let n = nested_read c.args.levels _ _ _ c.requires c.first_byte-tag.ensures c.if-tag-ne5.false in
    let deep = n.deep in
    let there : IsThere (spelled_fields_at (c.args.levels - 1) c.first_byte-count.result.0 c.first_byte-count.result.1.now) = (n.list _ _ c.first_byte-count.ensures).there in
    search (rules, deep, there)

pub put_field-returns-clause-text : goal.put_field-returns-clause-text
put_field-returns-clause-text g t c =
    let n = nested_read c.args.levels _ _ _ c.requires c.first_byte-tag.ensures c.if-tag-ne5.false in
    rw ((n.list _ _ c.first_byte-count.ensures).same) c.put_list.ensures.text

pub put_field-returns-clause-rest : goal.put_field-returns-clause-rest
put_field-returns-clause-rest g t c =
    let n = nested_read c.args.levels _ _ _ c.requires c.first_byte-tag.ensures c.if-tag-ne5.false in
    rw ((n.list _ _ c.first_byte-count.ensures).rest) c.put_list.ensures.rest

pub put_fields-put_field-requires : goal.put_fields-put_field-requires
put_fields-put_field-requires g t c =
    let there : IsThere (spelled_field_at c.args.levels c.args.bytes.now) = first_there c.args.levels c.args.count c.args.bytes.now (omega arith) c.requires in
    search (rules, there)

pub put_fields-returns-then-count-eq0-clause-text : goal.put_fields-returns-then-count-eq0-clause-text
put_fields-returns-then-count-eq0-clause-text g t c = rw (none_left c.args.levels c.args.count c.args.bytes.now c.if-count-eq0.true) (sym (append-nil c.args.out.now.items))

pub put_fields-returns-then-count-eq0-clause-rest : goal.put_fields-returns-then-count-eq0-clause-rest
put_fields-returns-then-count-eq0-clause-rest g t c = ap rest_of (none_left c.args.levels c.args.count c.args.bytes.now c.if-count-eq0.true)

pub put_fields-put_others-requires : goal.put_fields-put_others-requires
put_fields-put_others-requires g t c =
    let f = further c.args.levels c.args.count (c.args.count - 1) c.args.bytes.now c.in_ok-rest.rest.now (omega arith) c.requires (c.in_ok-rest.ensures {u = tt}).rest in
    let there : IsThere (spelled_fields_at c.args.levels (c.args.count - 1) c.in_ok-rest.rest.now) = f.there in
    search (rules, there)

pub put_fields-returns-clause-text : goal.put_fields-returns-clause-text
put_fields-returns-clause-text g t c =
    let f = further c.args.levels c.args.count (c.args.count - 1) c.args.bytes.now c.in_ok-rest.rest.now (omega arith) c.requires (c.in_ok-rest.ensures {u = tt}).rest in
    rw f.fields (second_part c.put_others.result _ _ _ _ _ (c.in_ok-rest.ensures {u = tt}).text c.put_others.ensures.text)

pub put_fields-returns-clause-rest : goal.put_fields-returns-clause-rest
put_fields-returns-clause-rest g t c =
    let f = further c.args.levels c.args.count (c.args.count - 1) c.args.bytes.now c.in_ok-rest.rest.now (omega arith) c.requires (c.in_ok-rest.ensures {u = tt}).rest in
    rw f.rest c.put_others.ensures.rest

pub put_others-put_field-requires : goal.put_others-put_field-requires
put_others-put_field-requires g t c =
    let there : IsThere (spelled_field_at c.args.levels c.loop-i.rest.now) = first_there c.args.levels (c.args.count - c.loop-i._i) c.loop-i.rest.now (omega arith) c.loop-i.invariant.there in
    search (rules, there)

pub put_others-returns-in_err-put_byte-clause-text : goal.put_others-returns-in_err-put_byte-clause-text
put_others-returns-in_err-put_byte-clause-text g t c =
    let p = err_from_is_err_and c.from_residual.result c.from_residual.ensures.1 in
    rw (p.1) (error_behind _ _ _ _ _ c.loop-i.invariant.written c.in_err-put_byte.ensures)

pub put_others-returns-in_err-rest-clause-text : goal.put_others-returns-in_err-rest-clause-text
put_others-returns-in_err-rest-clause-text g t c =
    let p = err_from_is_err_and c.from_residual-in_err-rest.result c.from_residual-in_err-rest.ensures.1 in
    rw (p.1) (error_behind _ _ _ _ _ c.loop-i.invariant.written (error_second _ (32 ∷ []) _ _ c.in_ok-put_byte.ensures (c.in_err-rest.ensures {u = tt}).text))

pub put_others-loop-i-preserved : goal.put_others-loop-i-preserved
put_others-loop-i-preserved g t c =
    let f = further c.args.levels (c.args.count - c.loop-i._i) (c.args.count - (c.loop-i._i + 1)) c.loop-i.rest.now c.in_ok-rest.rest.now (omega arith) c.loop-i.invariant.there (c.in_ok-rest.ensures {u = tt}).rest in
    let text = text_of field_written (spelled_field_at c.args.levels c.loop-i.rest.now) in
    record {
      there = f.there;
      rest = sym f.rest ∙ c.loop-i.invariant.rest;
      written =
          one_more _ _ _ (32 ∷ text) _ _ _ c.loop-i.invariant.written f.others
          ((c.in_ok-rest.ensures {u = tt}).text ∙ ap (λ t. t ++ text) c.in_ok-put_byte.ensures ∙ append_assoc c.loop-i.out.items (32 ∷ []) text);
    }

pub put_others-returns-clause-text : goal.put_others-returns-clause-text
put_others-returns-clause-text g t c = nothing_left _ _ _ _ c.loop-i.invariant.written (ap (text_of others_written) (none_left c.args.levels (c.args.count - c.loop-i._i) c.loop-i.rest.now (omega arith)))

pub put_others-returns-clause-rest : goal.put_others-returns-clause-rest
put_others-returns-clause-rest g t c = sym c.loop-i.invariant.rest ∙ ap rest_of (none_left c.args.levels (c.args.count - c.loop-i._i) c.loop-i.rest.now (omega arith))
