-- The results of reading a line.
use Rattle.std.specs.Prelude.{List, ℕ, Option, MatchOption, Result, MatchResult}
use Rattle.tuple_text.specs.Lines.{IsSkipped}
use Rattle.protocol.specs.System.Schedule as schedules
use Rattle.schedule_text.specs.declared.step.Step.{Step}
use Rattle.schedule_text.specs.declared.fault.StepFault.{StepFault}
use Rattle.schedule_text.specs.declared.fault.StepFault.TheVariants.{Refused, NoMemory}
use Rattle.schedule_text.specs.Steps.{IsStepLine}
use Rattle.schedule_text.specs.StepView.{step_of}

-- the step is that of the line, or there is none and the line is skipped
abbrev pub StepIsRead : List ℕ → Option Step → Type 0
StepIsRead line read = MatchOption read (IsSkipped line) (λ step. IsStepLine (step_of step) line)

-- the line is not skipped, and is the text of no step
abbrev pub IsNone : List ℕ → Type 0
IsNone line = (IsSkipped line → ⊥) × ((step : schedules.Step) → IsStepLine step line → ⊥)

abbrev pub RefusesStep : StepFault → List ℕ → Type 0
RefusesStep (Refused byte reason) line = IsNone line
RefusesStep NoMemory line = Unit {0}

abbrev pub JudgesStepLine : List ℕ → Result (Option Step) StepFault → Type 0
JudgesStepLine line result = MatchResult result (λ read. StepIsRead line read) (λ fault. RefusesStep fault line)
