use Rattle.evidence.proofs.Refusing
use Rattle.evidence.proofs.refused.new_views_meet_rules.Goals as goal

pub returns : goal.returns
returns c = record { selected = Refusing.takes_well_selected; lower = Refusing.takes_no_lower }
