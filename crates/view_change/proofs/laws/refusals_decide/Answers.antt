use Rattle.view_change.proofs.Judging
use Rattle.view_change.proofs.laws.refusals_decide.Goals as goal

pub returns : goal.returns
returns c = record { new_views = Judging.new_views_are_judged; changes = Judging.changes_are_judged }
