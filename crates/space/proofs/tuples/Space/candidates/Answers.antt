use Rattle.std.proofs.Common.{ap, ◌∙◌}
use Rattle.space.specs.Candidates.{candidates_of}
use Rattle.space.proofs.tuples.Space.candidates.Goals as goal

pub returns : goal.returns
returns g c =
    c.candidates.ensures c.self.inside.tuples.entries c.self.invariant.indexed ∙ ap (candidates_of c.args.template.now) c.self.view_is
