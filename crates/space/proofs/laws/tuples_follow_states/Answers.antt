use Rattle.space.proofs.Keeping.{tuples_of-state_after}
use Rattle.space.proofs.laws.tuples_follow_states.Goals as goal

pub returns : goal.returns
returns c = tuples_of-state_after
