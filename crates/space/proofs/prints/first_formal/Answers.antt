use Rattle.space.proofs.Firsts.{formal_seen}
use Rattle.space.proofs.prints.first_formal.Goals as goal

pub returns : goal.returns
returns g c = formal_seen c.formal_kind.result c.args.template.now c.bytes.result.now _ c.in_ok-tag.tag c.bytes.ensures.valid c.bytes.ensures.value (c.in_ok-tag.ensures {u = tt}) c.formal_kind.ensures
