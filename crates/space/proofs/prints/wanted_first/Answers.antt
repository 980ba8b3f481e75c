use Rattle.space.proofs.Printed.{kind_matches}
use Rattle.space.proofs.prints.wanted_first.Goals as goal

pub returns-in-Some : goal.returns-in-Some
returns-in-Some g c = λ e h unlike. unlike (kind_matches c.args.template.now e.1 c.in-Some.kind (c.in-Some.ensures {u = tt}) h)
