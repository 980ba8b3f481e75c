-- The invariant of an executed state.
use Rattle.std.specs.Prelude.{ℕ, ◌≤◌, List}
use Rattle.terms.specs.declared.parties.TheConstants.{MAX_CLIENTS}
use Rattle.space.specs.Watching.{WatchedState}
use Rattle.protocol.specs.Replica.State.{IsReplicatedState}
use Rattle.execution.specs.Running.{state_with}
use Rattle.execution.specs.Touching.{RepliesState, HasPages}

-- It is a state, and its tree has the pages that no request touched.
pub record IsExecutedState (number clients : ℕ) (tree : List (List ℕ)) (w : WatchedState) (r : RepliesState) : Type 0
  where
    pub state : IsReplicatedState (state_with number w.state r.replies)
    pub few : clients ≤ MAX_CLIENTS
    pub pages : HasPages tree w r
