use Rattle.evidence.proofs.RefusingFetches
use Rattle.evidence.proofs.refused.right_replicas_fetch_what_differs.Goals as goal

pub returns : goal.returns
returns c = record { newest = RefusingFetches.fetches_newest; once = RefusingFetches.fetches_once; told = RefusingFetches.fetches_what_is_told; differs = RefusingFetches.fetches_what_differs }
