use Rattle.std.proofs.Common.{sym, ◌∙◌}
use Rattle.tuple_tree.specs.Seen.{seen_datum}
use Rattle.space.proofs.Firsts.{tuple_first}
use Rattle.space.proofs.prints.first_kind.Goals as goal

pub returns-in-Some : goal.returns-in-Some
returns-in-Some g c = c.kind_of.ensures ∙ sym ((tuple_first c.args.tuple.now c.bytes.result.now c.bytes.ensures.valid c.bytes.ensures.value).some (seen_datum c.in-Some.atom) (c.in-Some.ensures {u = tt}))

pub returns-in-None : goal.returns-in-None
returns-in-None g c = sym ((tuple_first c.args.tuple.now c.bytes.result.now c.bytes.ensures.valid c.bytes.ensures.value).none (c.in-None.ensures {u = tt}))
