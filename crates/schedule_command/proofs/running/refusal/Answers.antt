use Rattle.std.proofs.Common.{◌≡◌, ◌<◌, inr, length, sym, subst, arith}
use Rattle.std.proofs.lemmas.Option.{slice_get_read, slice_get_within}
use Rattle.protocol.specs.System.Schedule.{IsAllowed}
use Rattle.schedule_text.specs.StepView.{step_of}
use Rattle.schedule_command.specs.Allowed.{IsReason}
use Rattle.schedule_command.proofs.Telling.{step_read}
use Rattle.schedule_command.proofs.running.refusal.Goals as goal

pub returns : goal.returns
returns c =
    let s = c.args.schedule.now in
    let stops = c.requires in
    let shown = c.index-step.result.now in
    let step : stops.step ≡ shown = step_read s.steps.items c.args.n stops.step shown stops.is_step c.index-step.ensures in
    let below : c.args.n < length s.steps.items = slice_get_within s.steps.items c.args.n stops.step stops.is_step in
    inr
    record {
      n = c.args.n;
      before = c.args.before.now;
      stops = stops;
      is_line = slice_get_read s.numbers.items s.numbers.len c.args.n c.index.result.now s.numbers.ok.0 (omega (arith, below, s.same, s.steps.ok.0)) c.index.ensures;
      gives = subst (λ x. IsReason c.args.config.now stops.world (step_of x) c.why.result) (sym step)
          (c.why.ensures stops.world (subst (λ x. IsAllowed c.args.config.now stops.world (step_of x) → ⊥) step stops.refused));
    }
