use Rattle.evidence.proofs.FirstPoint
use Rattle.evidence.proofs.refused_items.a_first_operation_has_its_point.Goals as goal

pub returns : goal.returns
returns c = record { point = FirstPoint.first_operation_has_its_point }
