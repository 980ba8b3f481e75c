use Rattle.std.proofs.Common.{sym, subst}
use Rattle.std.proofs.lemmas.Bool.{both_ways}
use Rattle.replica.specs.State.{has_stopped}
use Rattle.events.specs.Outputs.{AreSentAsMeant}
use Rattle.replica.specs.Fits.{EventLeads, me_of}
use Rattle.schedule_world.proofs.Moved.{moves}
use Rattle.schedule_world.proofs.stage.Stage.step_replica.Goals as goal

pub returns-in-Ok-clause-moves : goal.returns-in-Ok-clause-moves
returns-in-Ok-clause-moves c =
    moves c.args.self.now.replicas.items c.from.result c.args.replica.0 c.index_mut.result.now c.step.new.self c.args.event c.in-Ok.outputs.items c.from.ensures c.requires.known
    c.index_mut.ensures.value c.step.ensures.number c.in-Ok.ensures.leads c.in-Ok.ensures.meant
    (λ stopped. absurd (both_ways (has_stopped c.step.new.self) c.in-Ok.ensures.runs stopped))

pub returns-in-Err-clause-moves : goal.returns-in-Err-clause-moves
returns-in-Err-clause-moves c =
    moves c.args.self.now.replicas.items c.from.result c.args.replica.0 c.index_mut.result.now c.step.new.self c.args.event c.new.result.items c.from.ensures c.requires.known
    c.index_mut.ensures.value c.step.ensures.number
    (subst (λ outs. EventLeads c.index_mut.result.now c.args.event outs c.step.new.self) (sym c.new.ensures.items) c.in-Err.ensures.stops)
    (λ config history fits. subst (AreSentAsMeant config (me_of c.index_mut.result.now)) (sym c.new.ensures.items) tt)
    (λ stopped. c.new.ensures.items)
