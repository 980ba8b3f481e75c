use Rattle.std.proofs.Common.{[], ◌∷◌, ◌++◌, refl, ap, ◌∙◌}
use Rattle.tuple_codec.specs.Operations.{Outcome}
use Rattle.tuple_codec.specs.OperationView.{outcome_of}
use Rattle.protocol.specs.System.Trace.Entry.{Accepted}
use Rattle.schedule_world.specs.declared.report.Acceptance.{Acceptance}
use Rattle.schedule_world.proofs.Showing.{adds_accepted}
use Rattle.schedule_world.proofs.stage.Stage.add_accepted.Goals as goal

pub returns-clause-adds : goal.returns-clause-adds
returns-clause-adds c =
    let x : Acceptance = record { position = c.len.result; client = c.args.client; timestamp = c.args.timestamp; answer = c.in_ok-copy_in.field-0 } in
    adds_accepted c.args.config.now c.args.client.number c.args.timestamp.0 (outcome_of c.args.answer) x c.args.self.now _ (c.len.ensures ∙ c.args.self.now.trace.ok.0) refl refl c.in_ok-copy_in.ensures
    (c.in_ok-push-2.ensures.items ∙ ap (λ e. c.args.self.now.trace.items ++ e ∷ []) (c.new-2.ensures.says
    ∙ ap (λ (a : Outcome). Accepted c.args.client.number c.args.timestamp.0 a) (ap outcome_of c.in_ok-answer.ensures.ok))) refl c.in_ok-push.ensures.items
