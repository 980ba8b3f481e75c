use Rattle.replica_histories.proofs.Primaries
use Rattle.replica_histories.proofs.changes.no_views_are_left.Goals as goal

pub returns : goal.returns
returns c = record { in_q = Primaries.q_selects_nothing; fewer = Primaries.fewer_select_nothing; none = Primaries.no_views_are_left }
