use Rattle.space.proofs.Determining.{pages_determine}
use Rattle.space.proofs.laws.pages_determine.Goals as goal

pub returns : goal.returns
returns c = pages_determine
