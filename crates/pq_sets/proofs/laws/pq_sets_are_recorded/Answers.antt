use Rattle.pq_sets.proofs.Keeping
use Rattle.pq_sets.proofs.laws.pq_sets_are_recorded.Goals as goal

pub returns : goal.returns
returns c = record { begin = Keeping.records_begin; prepared = Keeping.prepared_is_recorded; logged = Keeping.logged_is_recorded; lists = Keeping.records_are_lists }
