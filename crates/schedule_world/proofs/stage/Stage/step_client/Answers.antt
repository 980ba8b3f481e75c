use Rattle.std.proofs.Common.{refl, sym, subst}
use Rattle.std.proofs.lemmas.Bool.{both_ways}
use Rattle.events.specs.Outputs.{AreSentAsMeant}
use Rattle.client_cert.specs.State.{me_of}
use Rattle.client_cert.specs.Steps.{EventLeads}
use Rattle.schedule_world.specs.declared.stage.StageClient.{StageClient}
use Rattle.schedule_world.proofs.Moved.{moves_client}
use Rattle.schedule_world.proofs.stage.Stage.step_client.Goals as goal

pub returns-in-Ok-clause-moves : goal.returns-in-Ok-clause-moves
returns-in-Ok-clause-moves c =
    let after : StageClient = record { client = c.step.new.self; calls = c.index_mut.result.now.calls } in
    moves_client c.args.self.now.stage_clients.items c.from.result c.args.client.number c.index_mut.result.now after c.args.event c.in-Ok.outputs.items c.from.ensures c.requires.known
    c.index_mut.ensures.value c.step.ensures.number refl c.in-Ok.ensures.leads c.in-Ok.ensures.meant
    (λ stopped. absurd (both_ways c.step.new.self.stopped c.in-Ok.ensures.runs stopped))

pub returns-in-Err-clause-moves : goal.returns-in-Err-clause-moves
returns-in-Err-clause-moves c =
    let after : StageClient = record { client = c.step.new.self; calls = c.index_mut.result.now.calls } in
    moves_client c.args.self.now.stage_clients.items c.from.result c.args.client.number c.index_mut.result.now after c.args.event c.new.result.items c.from.ensures c.requires.known
    c.index_mut.ensures.value c.step.ensures.number refl
    (subst (λ outs. EventLeads c.index_mut.result.now.client c.args.event outs c.step.new.self) (sym c.new.ensures.items) c.in-Err.ensures.stops)
    (λ config members. subst (AreSentAsMeant config (me_of c.index_mut.result.now.client)) (sym c.new.ensures.items) tt)
    (λ stopped. c.new.ensures.items)
