use Rattle.execution.proofs.Measuring.{pages_are_short}
use Rattle.execution.proofs.laws.pages_are_short.Goals as goal

pub returns : goal.returns
returns c = pages_are_short
