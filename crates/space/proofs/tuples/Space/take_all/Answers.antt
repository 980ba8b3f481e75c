use Rattle.std.proofs.Common.{ap, ◌∙◌}
use Rattle.space.specs.Found.{without_births}
use Rattle.space.proofs.Taking.{all_taken}
use Rattle.space.proofs.tuples.Space.take_all.Goals as goal

pub returns-clause-ok : goal.returns-clause-ok
returns-clause-ok g c =
    let s = c.args.self.now in
    c.remove_all.ensures ∙ ap (without_births s) (c.as_slice.ensures.value ∙ c.oldest_births-births.ensures.value) ∙ all_taken c.args.template.now c.args.max.count s c.oldest_births-births.ensures.valid
