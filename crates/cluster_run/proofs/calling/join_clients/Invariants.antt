use Rattle.std.proofs.Common.{OnOk}
use Rattle.cluster_run.specs.Threads.{AreJoined, promises_of}
use Rattle.cluster_run.proofs.calling.join_clients.Given as goal

abbrev pub invariant-loop-thread : goal.invariant-loop-thread
invariant-loop-thread g l = OnOk l.outcome (AreJoined (promises_of l.yielded) l.all.clients.items l.all.answers.items)
