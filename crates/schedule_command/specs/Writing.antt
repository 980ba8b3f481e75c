-- Definitions for the private functions that run and write.
use Rattle.std.specs.Prelude.{◌≡◌, ℕ, ◌⊎◌, List, [], ◌++◌, length, map, slice_get, Option, None, Some, Result, OnOk, MatchResult, Vec, ⊤}
use Rattle.std.specs.Io.KnownBytes.{Appends}
use Rattle.std.specs.declared.alloc.Global.{Global}
use Rattle.command_line.specs.declared.Printed.{Printed}
use Rattle.command_line.specs.declared.Printed.TheVariants as printed
use Rattle.one_space.specs.Endings.{FrontIsWritten}
use Rattle.picture.specs.Pictures.{AppendsPicture}
use Rattle.points.specs.PointView.{item_of}
use Rattle.protocol.specs.System.Configuration.{Configuration}
use Rattle.schedule_text.specs.StepView.{step_of}
use Rattle.schedule_world.specs.Reports.{ReportIsRight, StopsHere}
use Rattle.schedule_world.specs.Stages.{acceptance_of}
use Rattle.schedule_world.specs.declared.report.Report.{Report}
use Rattle.schedule_command.specs.Commands.{GivesReason}
use Rattle.schedule_command.specs.Faults.{reason_of}
use Rattle.schedule_command.specs.Texts.{numbered_lines, report_lines}
use Rattle.schedule_command.specs.declared.fault.ScheduleFault.{ScheduleFault}
use Rattle.schedule_command.specs.declared.fault.ScheduleFault.TheVariants as faults
use Rattle.schedule_command.specs.declared.fault.StepReason.{StepReason}
use Rattle.schedule_lines.specs.declared.reading.RefusedLine.{RefusedLine}
use Rattle.schedule_lines.specs.declared.reading.Schedule.{Schedule}

-- ---- runs

-- All steps were run, and a line behind them is none.
pub record RunsToRefused (c : Configuration) (s : Schedule) (line : ℕ) : Type 0 where
  pub report : Report
  pub tells : ReportIsRight c s.steps.items report
  pub refused_line : RefusedLine
  pub is_refused : s.refused ≡ Some refused_line
  pub number : refused_line.number ≡ line

-- The steps were run up to one that is not allowed.
pub record RunsToStep (c : Configuration) (s : Schedule) (line : ℕ) (reason : StepReason) : Type 0 where
  pub n : ℕ
  pub before : Report
  pub stops : StopsHere c s.steps.items n before
  pub is_line : slice_get s.numbers.items n ≡ Some line
  pub gives : GivesReason c stops.world (step_of stops.step) reason

abbrev pub StopsRun : Configuration → Schedule → ScheduleFault → Type 0
StopsRun c s (faults.Step line reason) = RunsToRefused c s line ⊎ RunsToStep c s line reason
StopsRun c s faults.NoMemory = ⊤
StopsRun c s _ = ⊥

-- The report of all steps is given, unless a line behind them is none.
abbrev pub EndsRun : Schedule → Report → Result Report ScheduleFault → Type 0
EndsRun s report result =
    MatchResult result (λ given. (s.refused ≡ None) × (given ≡ report))
    (λ fault. (refused : RefusedLine) × (s.refused ≡ Some refused)
    × (fault ≡ faults.Step refused.number (reason_of refused.reason)))

abbrev pub RunsAll : Configuration → Schedule → Result Report ScheduleFault → Type 0
RunsAll c s result =
    MatchResult result (λ report. (s.refused ≡ None) × ReportIsRight c s.steps.items report) (λ fault. StopsRun c s fault)

-- ---- texts

-- memory or the writer was wanting
abbrev pub IsOutputFault : ScheduleFault → Type 0
IsOutputFault faults.NoMemory = ⊤
IsOutputFault (faults.Write error) = ⊤
IsOutputFault _ = ⊥

-- The text follows the held one. A front of both may be written, and the rest is held.
abbrev pub WritesOn : {W E : Type 0} → (W → Option (List ℕ)) → Result (Unit {0}) E
    → W → W → Vec ℕ Global → Vec ℕ Global → List ℕ → Type 0
WritesOn contents result old new held left text =
    OnOk result (FrontIsWritten (contents old) (contents new) (held.items ++ text) left.items)

-- the lines of a report
abbrev pub lines_of_report : Report → List ℕ
lines_of_report report =
    report_lines (map acceptance_of report.accepted.items) (map item_of report.points.items)
    (length report.trace.items)

-- the text that is asked for of a report
abbrev pub IsTextOf : Printed → Report → List ℕ → Type 0
IsTextOf printed.Report report text = text ≡ lines_of_report report
IsTextOf printed.Trace report text = text ≡ numbered_lines 0 report.trace.items ++ lines_of_report report
IsTextOf (printed.Picture positions) report text = AppendsPicture [] text

-- Nothing was written if the picture can't be drawn.
abbrev pub FailsToWrite : ScheduleFault → Option (List ℕ) → Option (List ℕ) → Type 0
FailsToWrite (faults.NoEntry entries) old new = new ≡ old
FailsToWrite (faults.TooHigh entries first last) old new = new ≡ old
FailsToWrite (faults.TooWide parties most) old new = new ≡ old
FailsToWrite faults.NoMemory old new = ⊤
FailsToWrite (faults.Write error) old new = ⊤
FailsToWrite _ old new = ⊥

abbrev pub WritesPrinted : {W : Type 0} → (W → Option (List ℕ)) → Result (Unit {0}) ScheduleFault
    → W → W → Printed → Report → Type 0
WritesPrinted contents result old new asked report =
    MatchResult result
    (λ _. (text : List ℕ) × IsTextOf asked report text × Appends (contents old) (contents new) text)
    (λ fault. FailsToWrite fault (contents old) (contents new))
