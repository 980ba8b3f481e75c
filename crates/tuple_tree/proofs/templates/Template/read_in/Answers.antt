use Rattle.std.proofs.Common.{length, Some, ap, sym, ◌∙◌}
use Rattle.tuple_tree.specs.Values.{is_wide_slot}
use Rattle.tuple_tree.specs.Reading.{slot_at}
use Rattle.tuple_tree.specs.Flat.{items_in}
use Rattle.tuple_tree.specs.Fronts.{front_of}
use Rattle.tuple_tree.proofs.Flat.{items_are}
use Rattle.tuple_tree.proofs.Leaves.{slot_leaves}
use Rattle.tuple_tree.proofs.Telling.{no_count, judged_none, found}
use Rattle.tuple_tree.proofs.Fixing.{closed_template, fields_seen, template_read}
use Rattle.tuple_tree.proofs.templates.Template.read_in.Goals as goal

pub returns-in_default-read_byte : goal.returns-in_default-read_byte
returns-in_default-read_byte g c = judged_none is_wide_slot _ (no_count is_wide_slot slot_at 7 c.args.bytes.now (c.in_default-read_byte.ensures {u = tt}))

pub overflow_sub-fields : goal.overflow_sub-fields
overflow_sub-fields g c =
    (found is_wide_slot slot_at slot_leaves c.in-Some-read_byte.count c.in-Some.below c.in-Some.has_wide c.args.bytes.now c.in-Some-read_byte.fields.now c.in-Some.rest.now (c.in-Some-read_byte.ensures {u = tt}) c.note_bytes.ensures c.requires (c.in-Some.ensures {u = tt}).gives).2

pub spelled_front-fixed-requires-clause-items : goal.spelled_front-fixed-requires-clause-items
spelled_front-fixed-requires-clause-items g c =
    let r = template_read c.in-Some-read_byte.count c.in-Some.below c.in-Some.has_wide c.args.bytes.now c.in-Some-read_byte.fields.now c.in-Some.rest.now c.split_at.result.0.now (c.in-Some-read_byte.ensures {u = tt}) c.note_bytes.ensures c.requires (c.in-Some.ensures {u = tt}).gives c.split_at.ensures.front c.split_at.ensures.front_len in
    (fields_seen r.2).0

pub spelled_front-fixed-requires-clause-short : goal.spelled_front-fixed-requires-clause-short
spelled_front-fixed-requires-clause-short g c =
    let r = template_read c.in-Some-read_byte.count c.in-Some.below c.in-Some.has_wide c.args.bytes.now c.in-Some-read_byte.fields.now c.in-Some.rest.now c.split_at.result.0.now (c.in-Some-read_byte.ensures {u = tt}) c.note_bytes.ensures c.requires (c.in-Some.ensures {u = tt}).gives c.split_at.ensures.front c.split_at.ensures.front_len in
    let s = fields_seen r.2 in
    rw s.1 s.2

pub invariant_of-template : goal.invariant_of-template
invariant_of-template g c =
    let r = template_read c.in-Some-read_byte.count c.in-Some.below c.in-Some.has_wide c.args.bytes.now c.in-Some-read_byte.fields.now c.in-Some.rest.now c.split_at.result.0.now (c.in-Some-read_byte.ensures {u = tt}) c.note_bytes.ensures c.requires (c.in-Some.ensures {u = tt}).gives c.split_at.ensures.front c.split_at.ensures.front_len in
    rw (c.in_ok-fields.ensures {u = tt}).items (closed_template (r.2, c.spelled_front-fixed.ensures ∙ ap (λ p. length (front_of p)) (fields_seen r.2).1))

pub returns : goal.returns
returns g c =
    let r = template_read c.in-Some-read_byte.count c.in-Some.below c.in-Some.has_wide c.args.bytes.now c.in-Some-read_byte.fields.now c.in-Some.rest.now c.split_at.result.0.now (c.in-Some-read_byte.ensures {u = tt}) c.note_bytes.ensures c.requires (c.in-Some.ensures {u = tt}).gives c.split_at.ensures.front c.split_at.ensures.front_len in
    r.1 ∙ ap (λ t. Some (t, c.in-Some.rest.now)) (sym (ap (items_in slot_at 7 c.in-Some-read_byte.count) (c.in_ok-fields.ensures {u = tt}).items ∙ items_are slot_leaves r.2))
