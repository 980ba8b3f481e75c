use Rattle.progress.proofs.Leaving
use Rattle.progress.proofs.unprepared_views_begin.Goals as goal

pub returns : goal.returns
returns c = record { begin = Leaving.unprepared_views_begin }
