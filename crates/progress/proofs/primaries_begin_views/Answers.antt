use Rattle.progress.proofs.Leaving
use Rattle.progress.proofs.primaries_begin_views.Goals as goal

pub returns : goal.returns
returns c = record { begin = Leaving.primaries_begin_views }
