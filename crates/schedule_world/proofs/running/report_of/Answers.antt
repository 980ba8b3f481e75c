use Rattle.std.proofs.Common.{reverse, refl, ap, ◌∙◌}
use Rattle.protocol.specs.Space.Linear.{points}
use Rattle.schedule_world.proofs.running.report_of.Goals as goal

pub returns : goal.returns
returns c = record {
  trace = refl;
  accepted = refl;
  points = c.in_ok-points.ensures ∙ ap (λ xs. points c.args.config.now (reverse xs)) c.as_slice.ensures.value;
  stopped = c.in_ok-stopped.ensures;
}
