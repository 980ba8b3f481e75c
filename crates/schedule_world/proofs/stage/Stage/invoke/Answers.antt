use Rattle.std.proofs.Common.{◌≡◌, suc, refl, sym, subst, arith}
use Rattle.tuple_codec.specs.OperationView.{operation_of}
use Rattle.client_cert.specs.State.{me_of}
use Rattle.client_cert.specs.Steps.{CallLeads}
use Rattle.events.specs.Outputs.{AreSentAsMeant}
use Rattle.schedule_world.specs.declared.stage.StageClient.{StageClient}
use Rattle.schedule_world.proofs.Moved.{makes_call}
use Rattle.schedule_world.proofs.stage.Stage.invoke.Goals as goal

pub returns-in-Err-clause-calls : goal.returns-in-Err-clause-calls
returns-in-Err-clause-calls c =
    let after : StageClient = record { client = c.invoke.new.self; calls = c.in-Some.calls } in
    let sum = (c.in-Some.ensures {u = tt}).1 in
    let next : c.in-Some.calls ≡ suc c.index_mut-stage_client.result.now.calls = omega (arith, sum) in
    makes_call c.args.self.now.stage_clients.items c.from.result c.args.client.number c.index_mut-stage_client.result.now after (operation_of c.args.op) c.in-Some.calls c.new.result.items c.from.ensures c.requires.known
    c.index_mut-stage_client.ensures.value c.invoke.ensures.number next refl
    (λ none. subst (λ outs. CallLeads c.index_mut-stage_client.result.now.client c.args.op outs c.invoke.new.self) (sym c.new.ensures.items) ((c.in-Err.ensures {u = tt}).stops none))
    (λ config members. subst (AreSentAsMeant config (me_of c.index_mut-stage_client.result.now.client)) (sym c.new.ensures.items) tt)
    (λ none stopped. c.new.ensures.items)
