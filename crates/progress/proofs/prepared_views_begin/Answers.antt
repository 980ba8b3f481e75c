use Rattle.progress.proofs.Choosing
use Rattle.progress.proofs.prepared_views_begin.Goals as goal

pub returns : goal.returns
returns c = record { begin = Choosing.prepared_views_begin }
