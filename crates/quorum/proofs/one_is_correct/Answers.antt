use Rattle.quorum.proofs.Counting
use Rattle.quorum.proofs.one_is_correct.Goals as goal

pub returns : goal.returns
returns c = record { one = Counting.one_is_correct }
