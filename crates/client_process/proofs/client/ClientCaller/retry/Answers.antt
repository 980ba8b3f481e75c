use Rattle.protocol.specs.System.Trace.Entry.{Tick}
use Rattle.client_cert.specs.State.{me_of}
use Rattle.client_process.proofs.Leading.{event_leads}
use Rattle.client_process.proofs.client.ClientCaller.retry.Goals as goal

pub returns-clause-leads : goal.returns-clause-leads
returns-clause-leads c =
    event_leads (λ outs. outs.items) c.args.self.now c.step.new.self (Tick (me_of c.args.self.now)) c.step.result c.step.ensures.leads c.step.ensures.meant c.step.ensures.runs
