use Rattle.std.proofs.Common.{sym, ◌∙◌}
use Rattle.space.proofs.Firsts.{tuple_passed}
use Rattle.space.proofs.prints.print_of_tuple.Goals as goal

pub returns-in-Some : goal.returns-in-Some
returns-in-Some g c = c.print_at.ensures ∙ sym ((tuple_passed c.args.tuple.now c.bytes.result.now c.bytes.ensures.valid c.bytes.ensures.value).some c.in-Some.rest.now (c.in-Some.ensures {u = tt}))

pub returns-in-None : goal.returns-in-None
returns-in-None g c = sym ((tuple_passed c.args.tuple.now c.bytes.result.now c.bytes.ensures.valid c.bytes.ensures.value).none (c.in-None.ensures {u = tt}))
