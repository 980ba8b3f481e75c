use Rattle.std.proofs.Common.{◌≡◌, ◌+◌, sym, ◌∙◌, subst, arith}
use Rattle.protocol.specs.System.Configuration.{replicas}
use Rattle.schedule_world.specs.Opening.{IsNewReplica}
use Rattle.schedule_world.proofs.FirstStage.{AreFirst, none_first, more_first}
use Rattle.schedule_world.proofs.stage.new_replicas.Goals as goal

pub loop-number-init : goal.loop-number-init
loop-number-init c = rw c.new-replicas.ensures.items (none_first (IsNewReplica c.args.config.now))

pub loop-number-preserved : goal.loop-number-preserved
loop-number-preserved c =
    subst (λ xs. AreFirst (IsNewReplica c.args.config.now) xs (c.loop-number.number + 1)) (sym c.in_ok-push.ensures.items)
    (more_first (IsNewReplica c.args.config.now) c.loop-number.replicas.items c.loop-number.number c.in_ok-new_replica.field-0 c.loop-number.invariant c.in_ok-new_replica.ensures)

pub returns : goal.returns
returns c =
    let all : c.loop-number.number ≡ replicas c.args.config.now = omega arith in
    record { count = c.loop-number.invariant.count ∙ all; each = λ p d lt. c.loop-number.invariant.each p d (omega (arith, lt, c.loop-number.invariant.count)) }
