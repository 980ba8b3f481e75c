use Rattle.space.proofs.Keeping.{IsState-state_after}
use Rattle.space.proofs.laws.states_stay_states.Goals as goal

pub returns : goal.returns
returns c = IsState-state_after
