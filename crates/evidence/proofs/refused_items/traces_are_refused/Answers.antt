use Rattle.evidence.proofs.RefusingItemsTraces
use Rattle.evidence.proofs.refused_items.traces_are_refused.Goals as goal

pub returns : goal.returns
returns c = record { seen = RefusingItemsTraces.writes_are_seen; not_early = RefusingItemsTraces.reads_are_not_early }
