use Rattle.evidence.proofs.RefusingOwed
use Rattle.evidence.proofs.refused.correct_replicas_go_on.Goals as goal

pub returns : goal.returns
returns c = record { prepares = RefusingOwed.prepares_logged; commits = RefusingOwed.commits_prepared; executes = RefusingOwed.executes_committed; numbers = RefusingOwed.numbers_waiting; numbers_once = RefusingOwed.numbers_none_twice; numbers_together = RefusingOwed.numbers_none_together; checkpoints = RefusingOwed.sends_checkpoints; fetches = RefusingOwed.fetches_ahead; starts = RefusingOwed.fetches_starts; again = RefusingOwed.fetches_again; asks = RefusingOwed.asks_on; installs = RefusingOwed.installs_fetched; moves = RefusingOwed.moves_for_reasons }
