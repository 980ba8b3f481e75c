use Rattle.protocol.proofs.Words.Reacting
use Rattle.evidence.proofs.Correctness
use Rattle.evidence.proofs.clients.correct_histories_are_safe.Goals as goal

pub returns : goal.returns
returns c = record { replicas_have_own = Reacting.replicas_have_own; clients_have_own = Correctness.clients_have_own; macs = Correctness.seals_requests; requests = Correctness.asks_its_call; replicas = Correctness.replicas_are_safe; clients = Correctness.clients_are_safe }
