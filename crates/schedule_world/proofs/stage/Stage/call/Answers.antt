use Rattle.std.proofs.Common.{subst, ap, ◌∙◌}
use Rattle.tuple_codec.specs.OperationView.{operation_of}
use Rattle.protocol.specs.System.Trace.Entry.{Invoke}
use Rattle.schedule_world.specs.Moving.{StageAddsEntry}
use Rattle.schedule_world.proofs.Standing.{comes_call}
use Rattle.schedule_world.proofs.stage.Stage.call.Goals as goal

pub returns-clause-comes : goal.returns-clause-comes
returns-clause-comes c =
    comes_call c.args.config.now c.args.self.now c.invoke.new.self c.add.new.self c.add_outputs.new.self c.args.client.number (operation_of c.args.op) c.in_ok-timestamp.timestamp.0 c.in_ok-timestamp.outputs.items
    c.requires.placed c.requires.correct c.in_ok-timestamp.ensures.calls c.invoke.ensures.replicas c.invoke.ensures.kept
    (subst (λ op. StageAddsEntry c.args.config.now (Invoke c.args.client.number c.in_ok-timestamp.timestamp.0 op) c.invoke.new.self c.add.new.self) (ap operation_of c.in_ok-told.ensures.ok ∙ c.requires.same) c.in_ok-add.ensures.adds)
    c.add.ensures.kept c.in_ok-add_outputs.ensures.adds c.in_ok-add_outputs.ensures.own c.add_outputs.ensures.kept
