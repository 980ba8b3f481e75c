use Rattle.journal.proofs.Unforging.{unforged}
use Rattle.journal.proofs.laws.carried_is_unforged.Goals as goal

pub returns : goal.returns
returns c = record { unforged = unforged }
