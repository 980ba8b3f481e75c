use Rattle.evidence.proofs.Waiting
use Rattle.evidence.proofs.clients.clients_wait.Goals as goal

pub returns : goal.returns
returns c = record { answers = Waiting.waits_for_answers; once = Waiting.falls_back_once; others = Waiting.ignores_others; calls = Waiting.rests_without_call }
