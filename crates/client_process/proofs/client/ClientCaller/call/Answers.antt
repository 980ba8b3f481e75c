use Rattle.client_process.proofs.Leading.{call_leads}
use Rattle.client_process.proofs.client.ClientCaller.call.Goals as goal

pub returns-in-Ok-clause-leads : goal.returns-in-Ok-clause-leads
returns-in-Ok-clause-leads c =
    let made = c.in-Ok.ensures {u = tt} in call_leads c.args.self.now c.invoke.new.self c.args.op c.in-Ok.outputs.items made.leads made.meant made.runs
