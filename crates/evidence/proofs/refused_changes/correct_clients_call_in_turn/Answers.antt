use Rattle.evidence.proofs.RefusingChanges
use Rattle.evidence.proofs.refused_changes.correct_clients_call_in_turn.Goals as goal

pub returns : goal.returns
returns c = record { calls = RefusingChanges.no_call_while_open; timestamps = RefusingChanges.calls_count; operations = RefusingChanges.calls_operations }
