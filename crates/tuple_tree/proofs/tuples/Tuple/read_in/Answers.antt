use Rattle.std.proofs.Common.{◌+◌, length, Some, ap, sym, refl, ◌∙◌, arith}
use Rattle.tuple_tree.specs.Values.{is_wide}
use Rattle.tuple_tree.specs.Reading.{datum_at}
use Rattle.tuple_tree.specs.Flat.{IsFlatTuple}
use Rattle.tuple_tree.specs.declared.limits.Extent.{Extent}
use Rattle.tuple_tree.proofs.Flat.{items_are, closed}
use Rattle.tuple_tree.proofs.Leaves.{datum_leaves}
use Rattle.tuple_tree.proofs.Telling.{no_count, judged_none, found}
use Rattle.tuple_tree.proofs.tuples.Tuple.read_in.Goals as goal

pub returns-in_default-read_byte : goal.returns-in_default-read_byte
returns-in_default-read_byte g c = judged_none is_wide _ (no_count is_wide datum_at 7 c.args.bytes.now (c.in_default-read_byte.ensures {u = tt}))

pub overflow_sub-values : goal.overflow_sub-values
overflow_sub-values g c =
    (found is_wide datum_at datum_leaves c.in-Some-read_byte.count c.in-Some.below c.in-Some.has_wide c.args.bytes.now c.in-Some-read_byte.values.now c.in-Some.rest.now (c.in-Some-read_byte.ensures {u = tt}) c.note_bytes.ensures c.requires (c.in-Some.ensures {u = tt}).gives).2

pub invariant_of-tuple : goal.invariant_of-tuple
invariant_of-tuple g c =
    let f = found is_wide datum_at datum_leaves c.in-Some-read_byte.count c.in-Some.below c.in-Some.has_wide c.args.bytes.now c.in-Some-read_byte.values.now c.in-Some.rest.now (c.in-Some-read_byte.ensures {u = tt}) c.note_bytes.ensures c.requires (c.in-Some.ensures {u = tt}).gives in
    let extent : Extent = record { depth = 1 + c.in-Some.below; encoded_len = 1 + length c.split_at.result.0.now; has_wide = c.in-Some.has_wide } in
    let flat : IsFlatTuple c.in-Some-read_byte.count c.in_ok-values.values.items extent f.0 =
    f.3 c.in_ok-values.values.items extent ((c.in_ok-values.ensures {u = tt}).items ∙ c.split_at.ensures.front) refl (omega (arith, c.split_at.ensures.front_len)) refl in
    closed datum_leaves flat

pub returns : goal.returns
returns g c =
    let f = found is_wide datum_at datum_leaves c.in-Some-read_byte.count c.in-Some.below c.in-Some.has_wide c.args.bytes.now c.in-Some-read_byte.values.now c.in-Some.rest.now (c.in-Some-read_byte.ensures {u = tt}) c.note_bytes.ensures c.requires (c.in-Some.ensures {u = tt}).gives in
    let extent : Extent = record { depth = 1 + c.in-Some.below; encoded_len = 1 + length c.split_at.result.0.now; has_wide = c.in-Some.has_wide } in
    let flat : IsFlatTuple c.in-Some-read_byte.count c.in_ok-values.values.items extent f.0 =
    f.3 c.in_ok-values.values.items extent ((c.in_ok-values.ensures {u = tt}).items ∙ c.split_at.ensures.front) refl (omega (arith, c.split_at.ensures.front_len)) refl in
    f.1 ∙ ap (λ t. Some (t, c.in-Some.rest.now)) (sym (items_are datum_leaves flat))
