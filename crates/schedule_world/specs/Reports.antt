-- The promises of a report and of a refusal.
use Rattle.std.specs.Prelude.{◌≡◌, ◌<◌, ℕ, List, map, take, reverse, slice_get, Some, AllPairs, Vec, ⊤}
use Rattle.std.specs.declared.alloc.Global.{Global}
use Rattle.terms.specs.Parties.{party_number}
use Rattle.terms.specs.declared.parties.Party.{Party}
use Rattle.protocol.specs.System.Configuration.{Configuration}
use Rattle.protocol.specs.System.Trace.{Entry, Unforged}
use Rattle.protocol.specs.System.Texts.{NoCollision}
use Rattle.protocol.specs.System.Schedule.{World, StepsLead, Feeds, IsAllowed, new_world, acceptances}
use Rattle.protocol.specs.System.Run.{IsRun, OnlyTheseStopped}
use Rattle.protocol.specs.Space.Linear.{points, IsLinear}
use Rattle.points.specs.PointView.{items_of}
use Rattle.schedule_text.specs.declared.step.Step.{Step}
use Rattle.schedule_text.specs.StepView.{step_of}
use Rattle.schedule_world.specs.declared.report.Report.{Report}
use Rattle.schedule_world.specs.declared.running.RunFault.{RunFault}
use Rattle.schedule_world.specs.declared.running.RunFault.TheVariants as faults
use Rattle.schedule_world.specs.Stages.{acceptance_of}

-- the trace of a report, the newest entry first
abbrev pub trace_of : Report → List Entry
trace_of report = reverse report.trace.items

-- the numbers of parties
abbrev pub numbers_of : Vec Party Global → List ℕ
numbers_of parties = map party_number parties.items

-- The report is right. The steps feed its trace, which is a run. Only the parties that it names as stopped did stop:
-- each other correct party does all that it owes. Its acceptances, with their positions, and its points are those of
-- the trace. If the trace is unforged and its texts do not collide, the points linearize it.
pub record ReportIsRight (c : Configuration) (steps : List Step) (report : Report) : Type 0 where
  pub feeds : Feeds c (map step_of steps) (trace_of report)
  pub run : IsRun c (trace_of report)
  pub stopped : OnlyTheseStopped c (numbers_of report.stopped) (trace_of report)
  pub ascend : AllPairs (λ p q. p < q) (numbers_of report.stopped)
  pub accepted : map acceptance_of report.accepted.items ≡ reverse (acceptances (trace_of report))
  pub points : items_of report.points.items ≡ points c (trace_of report)
  pub linear : Unforged c (trace_of report) → NoCollision c (trace_of report)
      → IsLinear c (items_of report.points.items) (trace_of report)

-- The report is right for a run of the steps before this index. The step of this index is not allowed in the world to
-- which they led in that run.
pub record StopsHere (c : Configuration) (steps : List Step) (n : ℕ) (before : Report) : Type 0 where
  pub tells : ReportIsRight c (take n steps) before
  pub world : World
  pub goes : StepsLead c new_world (map step_of (take n steps)) (reverse (trace_of before)) world
  pub step : Step
  pub is_step : slice_get steps n ≡ Some step
  pub refused : IsAllowed c world (step_of step) → ⊥

-- The fault is right: a bad schedule stops at a step that is not allowed. A lack of memory promises nothing.
abbrev pub FaultIsRight : Configuration → List Step → RunFault → Type 0
FaultIsRight c steps (faults.BadSchedule n before) = StopsHere c steps n before
FaultIsRight c steps faults.NoMemory = ⊤
