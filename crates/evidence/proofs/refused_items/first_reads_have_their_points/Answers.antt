use Rattle.evidence.proofs.FirstReadsPoints
use Rattle.evidence.proofs.refused_items.first_reads_have_their_points.Goals as goal

pub returns : goal.returns
returns c = record { points = FirstReadsPoints.reads_have_their_points }
