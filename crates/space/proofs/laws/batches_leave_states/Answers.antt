use Rattle.std.proofs.Common.{arith}
use Rattle.space.specs.declared.version.Version.TheVariants as versions
use Rattle.space.proofs.Keeping.{IsState-empty}
use Rattle.space.proofs.Batches.{batches_leave_states}
use Rattle.space.proofs.laws.batches_leave_states.Goals as goal

pub returns-clause-new : goal.returns-clause-new
returns-clause-new c = record { state = IsState-empty versions.One; births = omega arith; few = omega arith }

pub returns-clause-more : goal.returns-clause-more
returns-clause-more c = batches_leave_states
