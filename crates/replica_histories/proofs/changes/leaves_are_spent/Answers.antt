use Rattle.replica_histories.proofs.Leaves
use Rattle.replica_histories.proofs.changes.leaves_are_spent.Goals as goal

pub returns : goal.returns
returns c = record { all = Leaves.all_are_spent; next = Leaves.next_leaf_is_own }
