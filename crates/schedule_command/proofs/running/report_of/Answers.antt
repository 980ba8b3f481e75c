use Rattle.schedule_command.proofs.Telling.{tells_report}
use Rattle.schedule_command.proofs.running.report_of.Goals as goal

pub returns : goal.returns
returns g c =
    tells_report c.args.config.now (g.R.Read.remaining c.args.reader) c.in_ok-schedule.schedule c.run_all-report.result c.in_ok-schedule.ensures c.run_all-report.ensures
