use Rattle.evidence.proofs.Feeding
use Rattle.evidence.proofs.fed.steps_are_fed.Goals as goal

pub returns : goal.returns
returns c = record { calls = Feeding.calls_are_fed; deliveries = Feeding.deliveries_are_fed; bytes = Feeding.bytes_are_fed; ticks = Feeding.ticks_are_fed; sealed = Feeding.sealed_are_made; signed = Feeding.signed_are_made }
