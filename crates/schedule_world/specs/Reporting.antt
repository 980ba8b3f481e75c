-- The contents of a report.
use Rattle.std.specs.Prelude.{◌≡◌, reverse}
use Rattle.protocol.specs.System.Configuration.{Configuration}
use Rattle.protocol.specs.Space.Linear.{points}
use Rattle.points.specs.PointView.{items_of}
use Rattle.schedule_world.specs.declared.report.Report.{Report}
use Rattle.schedule_world.specs.declared.stage.Stage.{Stage}
use Rattle.schedule_world.specs.Reports.{numbers_of}
use Rattle.schedule_world.specs.Stopped.{stopped_parties}

-- The report has the trace and the acceptances of this stage, the points of its trace, and the parties that have
-- stopped on it.
pub record IsReportOf (c : Configuration) (s : Stage) (report : Report) : Type 0 where
  pub trace : report.trace ≡ s.trace
  pub accepted : report.accepted ≡ s.accepted
  pub points : items_of report.points.items ≡ points c (reverse s.trace.items)
  pub stopped : numbers_of report.stopped ≡ stopped_parties c s
