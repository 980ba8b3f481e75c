use Rattle.std.proofs.Common.{◌≡◌, length}
use Rattle.cluster_run.specs.Threads.{AreStarted, promises_of}
use Rattle.cluster_run.proofs.calling.start_clients.Given as goal

abbrev pub invariant-loop-number : goal.invariant-loop-number
invariant-loop-number g l =
    AreStarted l.fn.hands.items (promises_of l.callers.threads.items) × (length (promises_of l.callers.threads.items) ≡ length l.yielded)
