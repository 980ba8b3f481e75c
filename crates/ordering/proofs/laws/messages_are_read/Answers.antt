use Rattle.ordering.proofs.Reading.{batches_are_logged, prepares_count, commits_count}
use Rattle.ordering.proofs.laws.messages_are_read.Goals as goal

pub returns : goal.returns
returns c = record { batches = batches_are_logged; prepares = prepares_count; commits = commits_count }
