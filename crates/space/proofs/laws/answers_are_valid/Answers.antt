use Rattle.space.proofs.Answering.{answers_are_valid}
use Rattle.space.proofs.laws.answers_are_valid.Goals as goal

pub returns : goal.returns
returns c = answers_are_valid
