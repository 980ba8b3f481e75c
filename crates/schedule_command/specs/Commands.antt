-- What the command writes, or why it writes nothing.
use Rattle.std.specs.Prelude.{◌≡◌, ℕ, ◌⊎◌, List, [], ◌++◌, map, reverse, take, slice_get, Option, Some, IfSome, Result, MatchResult, ⊤}
use Rattle.std.specs.Str.Lines.{lines}
use Rattle.std.specs.Io.KnownBytes.{Appends}
use Rattle.command_line.specs.declared.Printed.{Printed}
use Rattle.command_line.specs.declared.Printed.TheVariants as printed
use Rattle.picture.specs.Pictures.{AppendsPicture}
use Rattle.protocol.specs.System.Configuration.{Configuration}
use Rattle.protocol.specs.System.Trace.{Entry, Unforged}
use Rattle.protocol.specs.System.Texts.{NoCollision}
use Rattle.protocol.specs.System.Run.{IsRun}
use Rattle.protocol.specs.System.Schedule.{World, Step, StepsLead, Feeds, IsAllowed, new_world}
use Rattle.protocol.specs.Space.Linear.{points, IsLinear}
use Rattle.schedule_text.specs.declared.step.Step.{Step as RunStep}
use Rattle.schedule_text.specs.StepView.{step_of}
use Rattle.schedule_world.specs.Reports.{ReportIsRight}
use Rattle.schedule_world.specs.declared.report.Report.{Report}
use Rattle.schedule_command.specs.Allowed.{IsReason}
use Rattle.schedule_lines.specs.Lines.{Ending, complete, refused_at, LinesSay}
use Rattle.schedule_command.specs.Texts.{report_text, numbered_lines}
use Rattle.schedule_command.specs.declared.fault.ScheduleFault.{ScheduleFault}
use Rattle.schedule_command.specs.declared.fault.ScheduleFault.TheVariants as faults
use Rattle.schedule_command.specs.declared.fault.StepReason.{StepReason}
use Rattle.schedule_command.specs.declared.fault.StepReason.TheVariants as reasons

-- The steps feed this trace, which is a run. Its points linearize it if no message of a correct party is forged and no
-- two different texts of the run have one digest.
pub record LeadTo (c : Configuration) (steps : List Step) (trace : List Entry) : Type 0 where
  pub feeds : Feeds c steps trace
  pub run : IsRun c trace
  pub linear : Unforged c trace → NoCollision c trace → IsLinear c (points c trace) trace

-- the text that is asked for of a trace, the newest entry first
abbrev pub IsPrinted : Configuration → Printed → List Entry → List ℕ → Type 0
IsPrinted c printed.Report trace text = text ≡ report_text c trace
IsPrinted c printed.Trace trace text = text ≡ numbered_lines 0 (reverse trace) ++ report_text c trace
IsPrinted c (printed.Picture positions) trace text = AppendsPicture [] text

-- All lines of the bytes say steps. They lead to a trace, whose text was added.
pub record WritesRun
    (c : Configuration) (asked : Printed) (bytes : List ℕ) (old new : Option (List ℕ)) : Type 0 where
  pub numbers : List ℕ
  pub steps : List Step
  pub trace : List Entry
  pub text : List ℕ
  pub said : LinesSay 1 (lines bytes) numbers steps complete
  pub lead : LeadTo c steps trace
  pub is_text : IsPrinted c asked trace text
  pub wrote : Appends old new text

-- The lines before the one of this number say steps, which lead to a trace. This line is none of a step.
pub record RefusesText (c : Configuration) (bytes : List ℕ) (line : ℕ) : Type 0 where
  pub numbers : List ℕ
  pub steps : List Step
  pub trace : List Entry
  pub said : LinesSay 1 (lines bytes) numbers steps (refused_at line)
  pub lead : LeadTo c steps trace

abbrev pub GivesReason : Configuration → World → Step → StepReason → Type 0
GivesReason c w step (reasons.NotAllowed why) = IsReason c w step why
GivesReason c w step (reasons.NoStep byte reason) = ⊥
GivesReason c w step reasons.LastLine = ⊥

-- The line of this number says a step, which is not allowed in the world to which the steps before it led, for this
-- reason.
pub record RefusesStep (c : Configuration) (bytes : List ℕ) (line : ℕ) (reason : StepReason) : Type 0 where
  pub numbers : List ℕ
  pub steps : List Step
  pub ending : Ending
  pub said : LinesSay 1 (lines bytes) numbers steps ending
  pub n : ℕ
  pub step : Step
  pub is_step : slice_get steps n ≡ Some step
  pub is_line : slice_get numbers n ≡ Some line
  pub trace : List Entry
  pub world : World
  pub goes : StepsLead c new_world (take n steps) (reverse trace) world
  pub refused : IsAllowed c world step → ⊥
  pub gives : GivesReason c world step reason

-- why nothing was written, or perhaps not all
abbrev pub TellsFault :
    Configuration → List ℕ → ScheduleFault → Option (List ℕ) → Option (List ℕ) → Type 0
TellsFault c bytes (faults.Step line reason) old new =
    (new ≡ old) × (RefusesText c bytes line ⊎ RefusesStep c bytes line reason)
TellsFault c bytes (faults.Configuration fault) old new = ⊥
TellsFault c bytes (faults.NoEntry entries) old new = new ≡ old
TellsFault c bytes (faults.TooHigh entries first last) old new = new ≡ old
TellsFault c bytes (faults.TooWide parties most) old new = new ≡ old
TellsFault c bytes faults.NoMemory old new = ⊤
TellsFault c bytes (faults.Read error) old new = new ≡ old
TellsFault c bytes (faults.Write error) old new = ⊤

-- The lines of the bytes, if they are known, say steps, and this is the report of their run; or the fault tells why not.
abbrev pub TellsReport : Configuration → Option (List ℕ) → Result Report ScheduleFault → Type 0
TellsReport c known result =
    IfSome known (λ bytes. MatchResult result
    (λ report. (numbers : List ℕ) × (steps : List RunStep)
    × LinesSay 1 (lines bytes) numbers (map step_of steps) complete × ReportIsRight c steps report)
    (λ fault. (written : Option (List ℕ)) → TellsFault c bytes fault written written))

-- If the reader's bytes are known, the schedule that they say was run and its text written, or the fault tells why not.
abbrev pub EndsSchedule : Configuration → Printed → Option (List ℕ) → Result (Unit {0}) ScheduleFault
    → Option (List ℕ) → Option (List ℕ) → Type 0
EndsSchedule c asked known result old new =
    IfSome known (λ bytes. MatchResult result
    (λ _. WritesRun c asked bytes old new) (λ fault. TellsFault c bytes fault old new))
