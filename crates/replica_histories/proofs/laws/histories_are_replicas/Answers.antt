use Rattle.replica_histories.proofs.Starting
use Rattle.replica_histories.proofs.laws.histories_are_replicas.Goals as goal

pub returns : goal.returns
returns c = record { first = Starting.first_hold; replicas = Starting.held_are_replicas }
