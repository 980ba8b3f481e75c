-- No request runs twice over any batches.
use Rattle.std.proofs.Common.{ℕ, suc, List, [], ◌∷◌, fold, arith}
use Rattle.protocol.specs.System.Configuration.{Configuration, IsConfiguration}
use Rattle.wire_format.specs.Words.{requests_of}
use Rattle.protocol.specs.Replica.State.{State, opening, run_frame, execute}
use Rattle.protocol.specs.Laws.Runs.{ran_points, NoneRunsTwice}
use Rattle.protocol.proofs.Points.Sorting.{AllOf, all_weaker}
use Rattle.protocol.proofs.Points.Keeping.{Later, AllDiffer, Full, opening_full, none_twice, frames_differ, executed_full, executed_times}

pub batches_differ : (c : Configuration) → IsConfiguration c → (st : State) (batches : List (List ℕ)) → Full st → AllOf (Later st) (ran_points c st batches) × AllDiffer (ran_points c st batches)
batches_differ c setting st [] full = (tt, tt)
batches_differ c setting st (batch ∷ batches) full =
    let below = batches_differ c setting (execute c st batch) batches (executed_full c st batch full) in
    frames_differ c setting 0 (suc st.number) st (requests_of batch) (ran_points c (execute c st batch) batches) full
    (all_weaker (Later (execute c st batch)) (Later (fold (run_frame c (suc st.number)) st (requests_of batch)))
    (λ x h cl is_cl. let a = h cl is_cl in let b = executed_times c st batch cl in omega arith) (ran_points c (execute c st batch) batches) below.0) below.1

pub none_runs_twice : NoneRunsTwice
none_runs_twice c setting batches = none_twice (ran_points c opening batches) (batches_differ c setting opening batches opening_full).1
