-- From the report of a run to what the command tells of it.
use Rattle.std.proofs.Common.{◌≡◌, ℕ, inl, inr, List, ◌++◌, length, map, reverse, get_or, Option, None, Some, IfSome, Result, Ok, Err, MatchResult, refl, sym, ap, subst, ◌∙◌}
use Rattle.std.proofs.lemmas.List.{reverse-reverse, take-map, length-reverse}
use Rattle.std.proofs.lemmas.Option.{slice_get-map, get_or_from_slice_get}
use Rattle.std.specs.Option.{option_map}
use Rattle.std.specs.List.{slice_get}
use Rattle.std.specs.Str.Lines.{lines}
use Rattle.std.specs.Io.KnownBytes.{Appends}
use Rattle.command_line.specs.declared.Printed.{Printed}
use Rattle.command_line.specs.declared.Printed.TheVariants as printed
use Rattle.one_space.specs.declared.pieces.ReadFault.{ReadFault}
use Rattle.one_space.specs.declared.pieces.ReadFault.TheVariants as read
use Rattle.points.specs.PointView.{item_of}
use Rattle.protocol.specs.System.Configuration.{Configuration}
use Rattle.protocol.specs.System.Schedule.{StepsLead, new_world, acceptances}
use Rattle.protocol.specs.Space.Linear.{IsLinear}
use Rattle.schedule_lines.specs.Lines.{refused_at, LinesSay}
use Rattle.schedule_lines.specs.Schedules.{ending_of, steps_in, IsRead}
use Rattle.schedule_lines.specs.declared.reading.RefusedLine.{RefusedLine}
use Rattle.schedule_lines.specs.declared.reading.Schedule.{Schedule}
use Rattle.schedule_text.specs.declared.step.Step.{Step as RunStep}
use Rattle.schedule_text.specs.StepView.{step_of}
use Rattle.schedule_world.specs.Reports.{ReportIsRight, trace_of}
use Rattle.schedule_world.specs.declared.report.Report.{Report}
use Rattle.schedule_command.specs.Commands.{LeadTo, IsPrinted, TellsFault, TellsReport, EndsSchedule}
use Rattle.schedule_command.specs.Faults.{fault_of_reader}
use Rattle.schedule_command.specs.Texts.{report_lines, report_text, numbered_lines}
use Rattle.schedule_command.specs.Writing.{EndsRun, StopsRun, RunsAll, IsTextOf, FailsToWrite, lines_of_report}
use Rattle.schedule_command.specs.declared.fault.ScheduleFault.{ScheduleFault}
use Rattle.schedule_command.specs.declared.fault.ScheduleFault.TheVariants as faults

lead_of : (c : Configuration) (steps : List RunStep) (report : Report) → ReportIsRight c steps report → LeadTo c (map step_of steps) (trace_of report)
lead_of c steps report h = record {
  feeds = h.feeds;
  run = h.run;
  linear = λ unforged apart. subst (λ items. IsLinear c items (trace_of report)) h.points (h.linear unforged apart);
}

up_to_line : (bytes : List ℕ) (s : Schedule) (refused : RefusedLine) (line : ℕ) → IsRead bytes s → s.refused ≡ Some refused → refused.number ≡ line
    → LinesSay 1 (lines bytes) s.numbers.items (steps_in s) (refused_at line)
up_to_line bytes s refused line said e n =
    subst (λ m. LinesSay 1 (lines bytes) s.numbers.items (steps_in s) (refused_at m)) n
    (subst (λ o. LinesSay 1 (lines bytes) s.numbers.items (steps_in s) (ending_of o)) e said)

-- why a run has no report
tells_fault : (c : Configuration) (bytes : List ℕ) (s : Schedule) (fault : ScheduleFault) → IsRead bytes s → StopsRun c s fault
    → (written : Option (List ℕ)) → TellsFault c bytes fault written written
tells_fault c bytes s (faults.Step line reason) said (inl h) written = (
  refl,
  inl
      record {
        numbers = s.numbers.items;
        steps = steps_in s;
        trace = trace_of h.report;
        said = up_to_line bytes s h.refused_line line said h.is_refused h.number;
        lead = lead_of c s.steps.items h.report h.tells;
      },
)
tells_fault c bytes s (faults.Step line reason) said (inr h) written = (
  refl,
  inr
      record {
        numbers = s.numbers.items;
        steps = steps_in s;
        ending = ending_of s.refused;
        said = said;
        n = h.n;
        step = step_of h.stops.step;
        is_step = slice_get-map step_of s.steps.items h.n ∙ ap (option_map step_of) h.stops.is_step;
        is_line = h.is_line;
        trace = trace_of h.before;
        world = h.stops.world;
        goes = subst (λ steps. StepsLead c new_world steps (reverse (trace_of h.before)) h.stops.world) (sym (take-map step_of h.n s.steps.items)) h.stops.goes;
        refused = h.stops.refused;
        gives = h.gives;
      },
)
tells_fault c bytes s (faults.Configuration fault) said h written = absurd h
tells_fault c bytes s (faults.NoEntry entries) said h written = absurd h
tells_fault c bytes s (faults.TooHigh entries first last) said h written = absurd h
tells_fault c bytes s (faults.TooWide parties most) said h written = absurd h
tells_fault c bytes s faults.NoMemory said h written = tt
tells_fault c bytes s (faults.Read error) said h written = absurd h
tells_fault c bytes s (faults.Write error) said h written = absurd h

-- the report of a run of the steps that were read
pub tells_report : (c : Configuration) (known : Option (List ℕ)) (s : Schedule) (result : Result Report ScheduleFault) → IfSome known (λ bytes. IsRead bytes s)
    → RunsAll c s result → TellsReport c known result
tells_report c None s result said h = tt
tells_report c (Some bytes) s (Ok report) said h =
    (s.numbers.items, s.steps.items, subst (λ o. LinesSay 1 (lines bytes) s.numbers.items (steps_in s) (ending_of o)) h.0 said, h.1)
tells_report c (Some bytes) s (Err fault) said h = λ written. tells_fault c bytes s fault said h written

tells_read : (c : Configuration) (bytes : List ℕ) (fault : ReadFault) (written : Option (List ℕ)) → TellsFault c bytes (fault_of_reader fault) written written
tells_read c bytes read.NoMemory written = tt
tells_read c bytes (read.Read error) written = refl

-- nothing was read
pub tells_unread : (c : Configuration) (known : Option (List ℕ)) (fault : ReadFault) → TellsReport c known (Err (fault_of_reader fault))
tells_unread c None fault = tt
tells_unread c (Some bytes) fault = λ written. tells_read c bytes fault written

-- ---- what is written

report_same : (c : Configuration) (steps : List RunStep) (report : Report) → ReportIsRight c steps report → lines_of_report report ≡ report_text c (trace_of report)
report_same c steps report h =
    ap (λ accepted. report_lines accepted (map item_of report.points.items) (length report.trace.items)) h.accepted
    ∙ ap (λ ps. report_lines (reverse (acceptances (trace_of report))) ps (length report.trace.items)) h.points
    ∙ ap (report_lines (reverse (acceptances (trace_of report))) _) (sym (length-reverse report.trace.items))

is_printed : (c : Configuration) (asked : Printed) (steps : List RunStep) (report : Report) (text : List ℕ) → ReportIsRight c steps report → IsTextOf asked report text
    → IsPrinted c asked (trace_of report) text
is_printed c printed.Report steps report text h e = e ∙ report_same c steps report h
is_printed c printed.Trace steps report text h e =
    e ∙ ap (λ entries. numbered_lines 0 entries ++ lines_of_report report) (sym (reverse-reverse report.trace.items))
    ∙ ap (λ l. numbered_lines 0 (reverse (trace_of report)) ++ l) (report_same c steps report h)
is_printed c (printed.Picture positions) steps report text h e = e

fails_told : (c : Configuration) (bytes : List ℕ) (fault : ScheduleFault) (old new : Option (List ℕ)) → FailsToWrite fault old new → TellsFault c bytes fault old new
fails_told c bytes (faults.Step line reason) old new h = absurd h
fails_told c bytes (faults.Configuration fault) old new h = absurd h
fails_told c bytes (faults.NoEntry entries) old new h = h
fails_told c bytes (faults.TooHigh entries first last) old new h = h
fails_told c bytes (faults.TooWide parties most) old new h = h
fails_told c bytes faults.NoMemory old new h = tt
fails_told c bytes (faults.Read error) old new h = absurd h
fails_told c bytes (faults.Write error) old new h = tt

-- the text of a report that there is
pub ends_so : (c : Configuration) (asked : Printed) (known : Option (List ℕ)) (report : Report) (result : Result (Unit {0}) ScheduleFault) (old new : Option (List ℕ))
    → TellsReport c known (Ok report)
    → MatchResult result (λ _. (text : List ℕ) × IsTextOf asked report text × Appends old new text) (λ fault. FailsToWrite fault old new)
    → EndsSchedule c asked known result old new
ends_so c asked None report result old new told written = tt
ends_so c asked (Some bytes) report (Ok u) old new told written = record {
  numbers = told.0;
  steps = map step_of told.1;
  trace = trace_of report;
  text = written.0;
  said = told.2;
  lead = lead_of c told.1 report told.3;
  is_text = is_printed c asked told.1 report written.0 told.3 written.1;
  wrote = written.2;
}
ends_so c asked (Some bytes) report (Err fault) old new told written = fails_told c bytes fault old new written

-- there is no report
pub ends_untold : (c : Configuration) (asked : Printed) (known : Option (List ℕ)) (fault : ScheduleFault) (written : Option (List ℕ)) → TellsReport c known (Err fault)
    → EndsSchedule c asked known (Err fault) written written
ends_untold c asked None fault written told = tt
ends_untold c asked (Some bytes) fault written told = told written

-- ---- runs

-- all steps ran, and the line behind them is judged
pub runs_to_end : (c : Configuration) (s : Schedule) (report : Report) (result : Result Report ScheduleFault) → ReportIsRight c s.steps.items report → EndsRun s report result
    → RunsAll c s result
runs_to_end c s report (Ok given) right h = (h.0, subst (ReportIsRight c s.steps.items) (sym h.1) right)
runs_to_end c s report (Err fault) right h =
    subst (StopsRun c s) (sym h.2) (inl record { report = report; tells = right; refused_line = h.0; is_refused = h.1; number = refl })

-- the step of this place, as the code reads it
pub step_read : (steps : List RunStep) (n : ℕ) (step shown : RunStep) → slice_get steps n ≡ Some step → shown ≡ get_or steps n shown → step ≡ shown
step_read steps n step shown e r = sym (get_or_from_slice_get steps n step shown e) ∙ sym r
