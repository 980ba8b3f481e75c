use Rattle.std.proofs.Common.{refl, ◌∙◌}
use Rattle.space.proofs.Firsts.{tuple_keyed}
use Rattle.space.proofs.keys.tuple_key.Goals as goal

pub returns-in-Some : goal.returns-in-Some
returns-in-Some g c =
    c.key_of.ensures
    ∙ (tuple_keyed c.args.tuple.now c.len.result c.bytes.result.now c.bytes.ensures.valid c.len.ensures.value c.bytes.ensures.value).some c.in-Some.value.now (c.in-Some.ensures {u = tt})

pub returns-in-None : goal.returns-in-None
returns-in-None g c = (tuple_keyed c.args.tuple.now _ c.bytes.result.now c.bytes.ensures.valid refl c.bytes.ensures.value).none (c.in-None.ensures {u = tt})
