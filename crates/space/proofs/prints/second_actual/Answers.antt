use Rattle.space.proofs.Firsts.{actual_seen}
use Rattle.space.proofs.prints.second_actual.Goals as goal

pub returns : goal.returns
returns g c = actual_seen c.front_atom.result c.args.template.now c.bytes.result.now _ c.bytes.ensures.valid c.bytes.ensures.value (c.in_ok-skip_field.ensures {u = tt}) c.front_atom.ensures
