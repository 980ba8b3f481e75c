use Rattle.progress.proofs.Clients
use Rattle.progress.proofs.clients_accept_at_once.Goals as goal

pub returns : goal.returns
returns c = record { lack = Clients.open_calls_lack_quorums }
