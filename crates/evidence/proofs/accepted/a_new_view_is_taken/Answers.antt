use Rattle.evidence.proofs.TakingViews
use Rattle.evidence.proofs.accepted.a_new_view_is_taken.Goals as goal

pub returns : goal.returns
returns c = record { taken = TakingViews.new_views_are_taken }
