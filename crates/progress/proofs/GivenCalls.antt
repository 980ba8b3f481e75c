-- A call whose request stands in a batch that is delivered again is accepted.
use Rattle.std.proofs.Common.{◌+◌, ◌≤◌, ◌++◌, arith}
use Rattle.protocol.specs.System.Configuration.{primary}
use Rattle.protocol.proofs.Points.Invoking.{run_part}
use Rattle.progress.specs.Redelivered.{GivenCallsAreAccepted}
use Rattle.progress.specs.FirstView.{FirstCallsAreAccepted}
use Rattle.progress.proofs.Replies.{run_of}
use Rattle.progress.proofs.Normal.{answered, in_either}
use Rattle.progress.proofs.Redelivering.{committed, given_numbers_are_executed}
use Rattle.progress.proofs.FirstView.{committed_first, first_numbers_are_executed}

pub given_calls_are_accepted : GivenCallsAreAccepted
given_calls_are_accepted c setting again later start is_run goes is_whole whole_goes unforged apart v m from stays all each k call client opened i positive small given has tick all_again =
    let run = run_part c again (later ++ start) (run_of c setting (again ++ (later ++ start)) is_whole unforged apart) in
    in_either c k call again later start (is_run.clients (256 + k) client) opened
    (λ still. answered c setting again (later ++ start) goes is_whole whole_goes unforged apart v i (primary c v) given.batch from
    (committed c setting later start is_run goes run.runs.unforged v from stays all i given (primary c v) from)
    (λ r h. given_numbers_are_executed c setting later start is_run goes run.runs.unforged v i from stays all r h (λ j above below. let l : j ≤ m = omega arith in each r j h above l)) positive k call client still has tick all_again)

pub first_calls_are_accepted : FirstCallsAreAccepted
first_calls_are_accepted c setting again later start is_run goes is_whole whole_goes unforged apart m from active none all each k call client opened i positive small given has tick all_again =
    let run = run_part c again (later ++ start) (run_of c setting (again ++ (later ++ start)) is_whole unforged apart) in
    in_either c k call again later start (is_run.clients (256 + k) client) opened
    (λ still. answered c setting again (later ++ start) goes is_whole whole_goes unforged apart 0 i (primary c 0) given.batch from
    (committed_first c setting later start is_run goes run.runs.unforged from active none all i given positive (primary c 0) from)
    (λ r h. first_numbers_are_executed c setting later start is_run goes run.runs.unforged i from active none all r h (λ j above below. let l : j ≤ m = omega arith in each r j h above l)) positive k call client still has tick all_again)
