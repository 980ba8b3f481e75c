use Rattle.schedule_command.proofs.Telling.{runs_to_end}
use Rattle.schedule_command.proofs.running.run_all.Goals as goal

pub returns-in-Ok : goal.returns-in-Ok
returns-in-Ok c =
    runs_to_end c.args.config.now c.args.schedule.now c.in-Ok.report c.end_run.result (rw (c.in-Ok.is, c.as_slice.ensures.value) at c.run.ensures.tells) c.end_run.ensures
