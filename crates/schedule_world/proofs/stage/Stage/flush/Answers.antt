use Rattle.std.proofs.Common.{sym, subst}
use Rattle.terms.specs.Parties.{party_number}
use Rattle.protocol.specs.System.Schedule.Step.{flush}
use Rattle.schedule_world.specs.Moving.{LeadsBy, FrameIsDelivered}
use Rattle.schedule_world.proofs.Flushed.{next_is_correct, flush_more, flush_last, stands_more}
use Rattle.schedule_world.proofs.stage.Stage.flush.Goals as goal

pub deliver-requires-clause-correct : goal.deliver-requires-clause-correct
deliver-requires-clause-correct c =
    next_is_correct c.args.config.now c.loop.self c.in-Some.frame (party_number c.in-Some.party) c.loop.invariant.1 c.in-Some.ensures.next

pub returns-in-None-clause-leads : goal.returns-in-None-clause-leads
returns-in-None-clause-leads c =
    subst (LeadsBy c.args.config.now flush c.args.self.now) (sym c.in-None.ensures.kept)
    (flush_last c.args.config.now c.args.self.now c.loop.self c.in-None.ensures.next c.loop.invariant.2)

pub loop-preserved : goal.loop-preserved
loop-preserved c =
    let delivery : FrameIsDelivered c.args.config.now c.in-Some.frame (party_number c.in-Some.party) c.loop.self c.deliver.new.self =
    subst (λ s. FrameIsDelivered c.args.config.now c.in-Some.frame (party_number c.in-Some.party) s c.deliver.new.self) c.in-Some.ensures.kept c.in_ok-deliver-in-Some.ensures.delivers in (
      c.in_ok-deliver-in-Some.ensures.placed,
      stands_more c.args.config.now c.loop.self c.deliver.new.self c.in-Some.frame (party_number c.in-Some.party) delivery c.loop.invariant.1,
      flush_more c.args.config.now c.args.self.now c.loop.self c.deliver.new.self c.in-Some.frame (party_number c.in-Some.party) c.in-Some.ensures.next delivery c.loop.invariant.2,
    )
