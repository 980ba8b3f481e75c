use Rattle.protocol.proofs.Words.Paging
use Rattle.protocol.proofs.pages_determine.Goals as goal

pub returns : goal.returns
returns c = record { determine = Paging.pages_determine }
