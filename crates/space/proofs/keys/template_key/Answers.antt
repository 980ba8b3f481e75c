use Rattle.std.proofs.Common.{Some, refl, ap, ◌∙◌}
use Rattle.space.proofs.Firsts.{template_keyed}
use Rattle.space.proofs.keys.template_key.Goals as goal

pub returns-in-Some : goal.returns-in-Some
returns-in-Some g c =
    ap Some c.key_of.ensures
    ∙ (template_keyed c.args.template.now c.len.result c.bytes.result.now c.bytes.ensures.valid c.len.ensures.value c.bytes.ensures.value).some c.in-Some.value.now (c.in-Some.ensures {u = tt})

pub returns-in-None : goal.returns-in-None
returns-in-None g c = (template_keyed c.args.template.now _ c.bytes.result.now c.bytes.ensures.valid refl c.bytes.ensures.value).none (c.in-None.ensures {u = tt})
