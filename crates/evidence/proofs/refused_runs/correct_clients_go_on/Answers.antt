use Rattle.evidence.proofs.RefusingRuns
use Rattle.evidence.proofs.refused_runs.correct_clients_go_on.Goals as goal

pub returns : goal.returns
returns c = record { accepts = RefusingRuns.accepts_alike; reads = RefusingRuns.falls_back; ticks = RefusingRuns.asks_at_ticks; receivers = RefusingRuns.asks_all }
