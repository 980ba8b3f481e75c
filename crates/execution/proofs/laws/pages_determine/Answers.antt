use Rattle.execution.proofs.Measuring.{pages_determine}
use Rattle.execution.proofs.laws.pages_determine.Goals as goal

pub returns : goal.returns
returns c = pages_determine
