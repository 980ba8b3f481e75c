use Rattle.event_log.proofs.Logs.{keeps_reads, reads_one}
use Rattle.event_log.proofs.laws.kept_events_are_read.Goals as goal

pub returns-clause-all : goal.returns-clause-all
returns-clause-all c = keeps_reads

pub returns-clause-one : goal.returns-clause-one
returns-clause-one c = reads_one
