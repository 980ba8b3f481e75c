use Rattle.progress.proofs.Faults
use Rattle.progress.proofs.faulty_primaries_are_silent.Goals as goal

pub returns : goal.returns
returns c = record { silent = Faults.faulty_primaries_are_silent }
