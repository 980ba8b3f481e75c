use Rattle.space.proofs.Keeping.{IsState-empty}
use Rattle.space.proofs.tuples.Space.empty.Goals as goal

pub returns-clause-valid : goal.returns-clause-valid
returns-clause-valid c = rw c.new.ensures.empty (IsState-empty c.args.version)
