use Rattle.space.proofs.Keeping.{IsNextBirth-birth_of}
use Rattle.space.proofs.laws.births_are_least.Goals as goal

pub returns : goal.returns
returns c = IsNextBirth-birth_of
