use Rattle.std.proofs.Common.{rules, ◌++◌, ◌∷◌, [], OnOk, sym, subst}
use Rattle.cluster_run.specs.Threads.{AreJoined, promises_of}
use Rattle.cluster_run.proofs.Joining.{joined_or, promises_more}
use Rattle.cluster_run.proofs.calling.join_clients.Goals as goal

pub loop-thread-preserved : goal.loop-thread-preserved
loop-thread-preserved g c =
    subst (λ ps. OnOk c.and-outcome.result (AreJoined ps c.add-added.new.self.clients.items c.add-added.new.self.answers.items)) (sym (promises_more c.loop-thread.yielded c.in-Some.thread))
    (subst (λ r. OnOk r (AreJoined (promises_of c.loop-thread.yielded ++ c.in-Some.thread.promise ∷ []) c.add-added.new.self.clients.items c.add-added.new.self.answers.items))
    (search rules)
    (joined_or c.loop-thread.outcome c.add-added.result (promises_of c.loop-thread.yielded) c.in-Some.thread.promise c.loop-thread.all c.add-added.new.self c.join.result
    c.loop-thread.invariant c.add-added.ensures c.join.ensures))
