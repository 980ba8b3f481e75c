use Rattle.evidence.proofs.SelectedRules
use Rattle.evidence.proofs.selected.new_views_are_selected.Goals as goal

pub returns : goal.returns
returns c = record { exactly = SelectedRules.new_views_meet_the_rules }
