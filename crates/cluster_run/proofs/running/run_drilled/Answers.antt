use Rattle.std.proofs.Common.{rules}
use Rattle.cluster_run.specs.Hands.{HandsAreCalled, HasTrace}
use Rattle.cluster_run.proofs.Answering.{gathered_run}
use Rattle.cluster_run.proofs.running.run_drilled.Goals as goal

pub returns : goal.returns
returns g c =
    let conf = g.N.Naming.config in
    let hands = c.in_ok-hands.hands.items in
    let all = c.call_all-called.new.all in
    let called : HandsAreCalled hands all.clients.items all.answers.items = search rules in
    let done : HasTrace conf all.clients.items = search rules in
    gathered_run c.in_ok-answers.answers.items conf c.args.ops.items hands all.answers.items all.clients.items c.from-clients.result c.len-count.result (search rules) (search rules) (search rules)
    (search rules) called done c.in_ok-answers.ensures
