use Rattle.template_match.proofs.Deciding.{is_match-decides}
use Rattle.template_match.proofs.matching_is_decided.Goals as goal

pub returns : goal.returns
returns c = is_match-decides
