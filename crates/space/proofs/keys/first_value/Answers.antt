use Rattle.std.proofs.Common.{ap, sym, arith}
use Rattle.std.specs.Prelude.{option_map}
use Rattle.tuple_tree.specs.Spelling.{datum_spelling}
use Rattle.tuple_tree.proofs.Skipping.{rest_none}
use Rattle.space.proofs.Firsts.{no_front, not_front, front_spelled}
use Rattle.space.proofs.keys.first_value.Goals as goal

pub returns-in_err-tag : goal.returns-in_err-tag
returns-in_err-tag c =
    rw c.from_residual.ensures (sym (ap (option_map (λ x. datum_spelling x)) (no_front c.args.bytes.now (c.in_err-tag.ensures {u = tt}))))

pub returns-in_err-rest : goal.returns-in_err-rest
returns-in_err-rest c =
    rw c.from_residual-in_err-rest.ensures
    (sym (ap (option_map (λ x. datum_spelling x)) (not_front c.in_ok-tag.tag c.args.bytes.now c.in_ok-tag.after.now (c.in_ok-tag.ensures {u = tt}) (rest_none _ (c.in_err-rest.ensures {u = tt})))))

pub overflow_sub-bytes : goal.overflow_sub-bytes
overflow_sub-bytes c = (front_spelled c.in_ok-tag.tag c.args.bytes.now c.in_ok-tag.after.now c.in_ok-rest.rest.now c.args.bytes.now (c.in_ok-tag.ensures {u = tt}) (c.in_ok-rest.ensures {u = tt}) (λ i. omega (arith, c.type_inv.bytes i))).0

pub returns : goal.returns
returns c = (front_spelled c.in_ok-tag.tag c.args.bytes.now c.in_ok-tag.after.now c.in_ok-rest.rest.now c.split_at.result.0.now (c.in_ok-tag.ensures {u = tt}) (c.in_ok-rest.ensures {u = tt}) (λ i. omega (arith, c.type_inv.bytes i))).1 c.split_at.ensures.front
