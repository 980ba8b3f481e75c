use Rattle.evidence.proofs.Stopping
use Rattle.evidence.proofs.clients.parties_may_stop.Goals as goal

pub returns : goal.returns
returns c = record { replicas = Stopping.replicas_may_stop; clients = Stopping.clients_may_stop }
