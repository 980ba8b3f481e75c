use Rattle.std.proofs.Common.{◌+◌, length, ap, arith}
use Rattle.std.proofs.lemmas.Result.{err_from_is_err_and}
use Rattle.tuple_tree.specs.Items.{inner, with_last}
use Rattle.tuple_tree.specs.Values.{IsSlot, slot_length}
use Rattle.tuple_tree.specs.Reading.{slot_at}
use Rattle.tuple_tree.specs.Spelling.{slot_spelling}
use Rattle.tuple_tree.specs.Flat.{IsFlatTemplate}
use Rattle.tuple_tree.proofs.Growing.{refuses-with_last}
use Rattle.tuple_tree.proofs.Leaves.{slot_leaves}
use Rattle.tuple_tree.proofs.Trees.{items_spelling_length}
use Rattle.tuple_tree.proofs.Flat.{items_are, closed, opened, holds, grown, with_nested}
use Rattle.tuple_tree.proofs.Fixing.{field_short, front_grown, closed_template, fixed_of}
use Rattle.tuple_tree.proofs.templates.Template.add_nested.Goals as goal

pub returns-in_err-extent-clause-refusal : goal.returns-in_err-extent-clause-refusal
returns-in_err-extent-clause-refusal g c =
    let h = holds (opened c.self.invariant.0 c.self.view_is) in
    let p = err_from_is_err_and c.from_residual.result c.from_residual.ensures.1 in
    let e = c.in_err-extent.ensures {u = tt} in
    rw (p.1, p.2) (refuses-with_last c.in_err-extent.field-0.0 c.args.self.now (inner c.args.template.now) _ _ _ c.self.inside.count _ _ h (omega arith) c.depth.ensures.value (omega (arith, c.encoded_len-len.ensures.value)) e.within)

pub put_nested-requires : goal.put_nested-requires
put_nested-requires g c =
    omega (arith, (c.in_ok-extent.ensures {u = tt}).room, ap length c.bytes.ensures.value, items_spelling_length IsSlot slot_length slot_spelling slot_at slot_leaves c.args.template.now, c.encoded_len-len.ensures.value)

pub longer_front-fixed-requires-clause-short : goal.longer_front-fixed-requires-clause-short
longer_front-fixed-requires-clause-short g c =
    omega (arith, (c.in_ok-extent.ensures {u = tt}).within, fixed_of c.template.invariant c.template.view_is, field_short (inner c.args.template.now), c.encoded_len-len.ensures.value)

flat : (g : _) (c : goal.After-extent-2-1 g) → IsFlatTemplate (c.self.inside.count + 1) c.put_nested.new.out.items c.in_ok-extent.extent c.longer_front-fixed.result (with_last c.args.self.now (inner c.args.template.now))
flat g c =
    let e = c.in_ok-extent.ensures {u = tt} in
    let h = opened c.self.invariant.0 c.self.view_is in (
      grown slot_leaves c.self.inside.count c.self.inside.fields.items c.put_nested.new.out.items c.self.inside.extent c.in_ok-extent.extent c.args.self.now (inner c.args.template.now) _ _ _
          h (c.bytes.ensures.valid.fields, c.bytes.ensures.valid.each) (with_nested slot_spelling c.put_nested.new.out.items c.with_room.new.out.items c.self.inside.fields.items c.bytes.result.now c.len.result c.args.template.now c.put_nested.ensures.0 e.kept c.len.ensures.value c.bytes.ensures.value) c.depth.ensures.value (omega (arith, c.encoded_len-len.ensures.value)) c.has_wide.ensures e.within,
      front_grown c.args.self.now (inner c.args.template.now) c.self.inside.fixed c.self.inside.extent.encoded_len _ c.longer_front-fixed.result (fixed_of c.self.invariant c.self.view_is) h.measured.2 (omega (arith, fixed_of c.template.invariant c.template.view_is)) c.longer_front-fixed.ensures,
    )

pub invariant_of-self-2 : goal.invariant_of-self-2
invariant_of-self-2 g c = closed_template (flat g c)

pub returns-clause-ok : goal.returns-clause-ok
returns-clause-ok g c = items_are slot_leaves (flat g c).0

pub returns-clause-refusal : goal.returns-clause-refusal
returns-clause-refusal g c = (closed slot_leaves (flat g c).0).measured.0
