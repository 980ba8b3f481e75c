use Rattle.evidence.proofs.RefusingNewViews
use Rattle.evidence.proofs.refused.correct_primaries_begin_views.Goals as goal

pub returns : goal.returns
returns c = record { new_views = RefusingNewViews.sends_new_views; first = RefusingNewViews.begins_its_view }
