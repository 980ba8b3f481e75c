use Rattle.protocol.specs.System.Trace.Entry.{Got}
use Rattle.client_cert.specs.State.{me_of}
use Rattle.client_process.proofs.Leading.{event_leads}
use Rattle.client_process.proofs.client.ClientCaller.got.Goals as goal

pub returns-clause-leads : goal.returns-clause-leads
returns-clause-leads c =
    event_leads (λ outs. outs.items) c.args.self.now c.step.new.self (Got (me_of c.args.self.now) c.args.frame.now) c.step.result c.step.ensures.leads c.step.ensures.meant c.step.ensures.runs
