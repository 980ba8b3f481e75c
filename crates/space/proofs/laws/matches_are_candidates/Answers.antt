use Rattle.space.proofs.Keying.{match_is_candidate}
use Rattle.space.proofs.laws.matches_are_candidates.Goals as goal

pub returns : goal.returns
returns c = match_is_candidate
