use Rattle.protocol.proofs.Words.Scheduling
use Rattle.evidence.proofs.RefusingRunsSchedules
use Rattle.evidence.proofs.refused_runs.schedules_feed_all.Goals as goal

pub returns : goal.returns
returns c = record { inputs = Scheduling.feeds_each_step; calls = RefusingRunsSchedules.feeds_each_call; ticks = RefusingRunsSchedules.feeds_each_tick; deliveries = Scheduling.allows_sent; flushes = RefusingRunsSchedules.flush_delivers_all; sent = RefusingRunsSchedules.flush_delivers_sent }
