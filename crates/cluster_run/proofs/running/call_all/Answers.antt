use Rattle.std.proofs.Common.{rules, OnOk, subst}
use Rattle.std.specs.Result.{result_and}
use Rattle.cluster_run.specs.Hands.{HandsAreCalled}
use Rattle.cluster_run.specs.Threads.{AreStarted, promises_of}
use Rattle.cluster_run.proofs.Joining.{called_or, on_second}
use Rattle.cluster_run.proofs.running.call_all.Goals as goal

pub returns : goal.returns
returns g c =
    let all = c.join_clients-joined.new.all in
    let hands = c.args.hands.items in
    let promises = promises_of c.start_clients-started.new.callers.threads.items in
    let started = result_and c.wait_for_clients-ended.result c.start_clients-started.result in
    subst (λ r. OnOk r (HandsAreCalled hands all.clients.items all.answers.items)) (search rules)
    (called_or started c.join_clients-joined.result hands promises all.clients.items all.answers.items
    (on_second c.wait_for_clients-ended.result c.start_clients-started.result (AreStarted hands promises) c.start_clients-started.ensures.started)
    c.join_clients-joined.ensures)
