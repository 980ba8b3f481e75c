-- Each replica's history of the first operation is a right replica's, and ends with the batch committed.
use Rattle.std.proofs.Common.{ℕ, zero, suc, ◌<◌, List, refl, arith}
use Rattle.tuple_codec.specs.Operations.{Operation}
use Rattle.protocol.specs.System.Configuration.{IsConfiguration}
use Rattle.protocol.specs.System.Trace.{history_of}
use Rattle.protocol.specs.Replica.Owed.{IsReplica}
use Rattle.evidence.specs.Examples.{four}
use Rattle.evidence.specs.FirstOperation.{FirstFrames, AreFirstFrames, first_trace, FirstOperationIsCommitted}
use Rattle.evidence.proofs.FirstReplicasBackup.{IsOrder}
use Rattle.evidence.proofs.FirstReplicasBackup as backup
use Rattle.evidence.proofs.FirstReplicasPrimary as primary

-- ---- in which order each backup receives the others

pub first : IsOrder 1 2 3 2 3 0
first = record {
  member = refl;
  within = omega arith;
  backup = refl;
  gets = refl;
  backup_a = refl;
  backup_b = refl;
  sender_a = record { within = omega arith; gets = refl };
  sender_b = record { within = omega arith; gets = refl };
  sender_d = record { within = omega arith; gets = refl };
  sender_e = record { within = omega arith; gets = refl };
  sender_f = record { within = omega arith; gets = refl };
  one_prepare = refl;
  two_prepares = refl;
  three_prepares = refl;
  one_commit = refl;
  two_commits = refl;
  three_commits = refl;
  four_commits = refl;
  own_commit = refl;
  new_prepare = refl;
  new_commit = refl;
}

pub second : IsOrder 2 1 3 3 0 1
second = record {
  member = refl;
  within = omega arith;
  backup = refl;
  gets = refl;
  backup_a = refl;
  backup_b = refl;
  sender_a = record { within = omega arith; gets = refl };
  sender_b = record { within = omega arith; gets = refl };
  sender_d = record { within = omega arith; gets = refl };
  sender_e = record { within = omega arith; gets = refl };
  sender_f = record { within = omega arith; gets = refl };
  one_prepare = refl;
  two_prepares = refl;
  three_prepares = refl;
  one_commit = refl;
  two_commits = refl;
  three_commits = refl;
  four_commits = refl;
  own_commit = refl;
  new_prepare = refl;
  new_commit = refl;
}

pub third : IsOrder 3 1 2 2 0 1
third = record {
  member = refl;
  within = omega arith;
  backup = refl;
  gets = refl;
  backup_a = refl;
  backup_b = refl;
  sender_a = record { within = omega arith; gets = refl };
  sender_b = record { within = omega arith; gets = refl };
  sender_d = record { within = omega arith; gets = refl };
  sender_e = record { within = omega arith; gets = refl };
  sender_f = record { within = omega arith; gets = refl };
  one_prepare = refl;
  two_prepares = refl;
  three_prepares = refl;
  one_commit = refl;
  two_commits = refl;
  three_commits = refl;
  four_commits = refl;
  own_commit = refl;
  new_prepare = refl;
  new_commit = refl;
}

-- ---- the histories

pub first_replica : (clients : ℕ) (seed : List ℕ) (op : Operation) (batch : List ℕ) (w : FirstFrames) → IsConfiguration (four clients seed) → AreFirstFrames (four clients seed) op batch w
    → (r : ℕ) → r < 4 → IsReplica (four clients seed) r (history_of r (first_trace op batch w))
first_replica clients seed op batch w setting x zero within = primary.is_replica clients seed op batch w setting x
first_replica clients seed op batch w setting x (suc zero) within = backup.is_replica clients seed op batch w setting x 1 2 3 2 3 0 first
first_replica clients seed op batch w setting x (suc (suc zero)) within = backup.is_replica clients seed op batch w setting x 2 1 3 3 0 1 second
first_replica clients seed op batch w setting x (suc (suc (suc zero))) within = backup.is_replica clients seed op batch w setting x 3 1 2 2 0 1 third
first_replica clients seed op batch w setting x (suc (suc (suc (suc r)))) within = absurd (omega arith)

pub first_operation_is_committed : FirstOperationIsCommitted
first_operation_is_committed clients seed op batch w setting x zero within = primary.is_committed clients seed op batch w setting x
first_operation_is_committed clients seed op batch w setting x (suc zero) within = backup.is_committed clients seed op batch w setting x 1 2 3 2 3 0 first
first_operation_is_committed clients seed op batch w setting x (suc (suc zero)) within = backup.is_committed clients seed op batch w setting x 2 1 3 3 0 1 second
first_operation_is_committed clients seed op batch w setting x (suc (suc (suc zero))) within = backup.is_committed clients seed op batch w setting x 3 1 2 2 0 1 third
first_operation_is_committed clients seed op batch w setting x (suc (suc (suc (suc r)))) within = absurd (omega arith)
