use Rattle.std.proofs.Common.{◌∙◌, ap, sym, Some, arith}
use Rattle.tuple_tree.specs.Values.{IsSlot, slot_length}
use Rattle.tuple_tree.specs.Reading.{slot_at, items_at}
use Rattle.tuple_tree.specs.Spelling.{slot_spelling, template_spelling}
use Rattle.tuple_tree.proofs.Leaves.{slot_leaves}
use Rattle.tuple_tree.proofs.Trees.{IsListOf, items_found}
use Rattle.tuple_codec.specs.declared.bad.Bad.TheVariants as bad
use Rattle.tuple_codec.proofs.Steps.{frame_read, framed_fails}
use Rattle.tuple_codec.proofs.decode.read_template.Goals as goal

pub overflow_sub-front : goal.overflow_sub-front
overflow_sub-front g c =
    let f = items_found IsSlot slot_length slot_spelling slot_at slot_leaves 7 in
    (frame_read (IsListOf IsSlot slot_length slot_spelling slot_at slot_leaves 7) template_spelling 1024 (items_at slot_at 7) c.args.bytes.now c.frame-front.result.now c.in-Some.rest.now c.in-Some.template f (λ i. omega (arith, c.type_inv.bytes i)) c.frame-front.ensures.value (rw c.in-Some.is at (c.in_ok-read.ensures {u = tt}))).0

pub split_at-requires : goal.split_at-requires
split_at-requires g c =
    let f = items_found IsSlot slot_length slot_spelling slot_at slot_leaves 7 in
    (frame_read (IsListOf IsSlot slot_length slot_spelling slot_at slot_leaves 7) template_spelling 1024 (items_at slot_at 7) c.args.bytes.now c.frame-front.result.now c.in-Some.rest.now c.in-Some.template f (λ i. omega (arith, c.type_inv.bytes i)) c.frame-front.ensures.value (rw c.in-Some.is at (c.in_ok-read.ensures {u = tt}))).1

pub returns-in-Some : goal.returns-in-Some
returns-in-Some g c =
    let f = items_found IsSlot slot_length slot_spelling slot_at slot_leaves 7 in
    (frame_read (IsListOf IsSlot slot_length slot_spelling slot_at slot_leaves 7) template_spelling 1024 (items_at slot_at 7) c.args.bytes.now c.frame-front.result.now c.in-Some.rest.now c.in-Some.template f (λ i. omega (arith, c.type_inv.bytes i)) c.frame-front.ensures.value (rw c.in-Some.is at (c.in_ok-read.ensures {u = tt}))).2
    ∙ ap (λ r. Some (c.in-Some.template, r)) (sym c.split_at.ensures.back)

pub returns-in-None : goal.returns-in-None
returns-in-None g c = framed_fails bad.Malformed (items_at slot_at 7) c.args.bytes.now 1024 (rw (c.frame-front.ensures.value, c.in-None.is) at (c.in_ok-read.ensures {u = tt}))
