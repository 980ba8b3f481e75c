use Rattle.std.proofs.Common.{◌∙◌}
use Rattle.space.proofs.Finding.{some_seen}
use Rattle.space.proofs.tuples.Space.has_match.Goals as goal

pub returns : goal.returns
returns g c = c.is_some.ensures ∙ some_seen c.args.self.now c.args.template.now (λ x. (x.0, x.1.now)) c.oldest_match.result c.oldest_match.ensures.value
